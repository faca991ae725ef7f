-- Published images as their owner has them.
use Rattle.std.specs.Prelude.{None}
use Rattle.kinds.specs.Stamps.{Order}
use Rattle.model.specs.declared.image.ImageRow.{ImageRow}
use Rattle.station.specs.Station.{Image}
use Rattle.registrar.specs.Calls.{image_with}
use Rattle.office.specs.declared.images.Published.{Published}

module _ {S R : Type 0} where
  -- an image with the tables that its owner keeps
  abbrev pub image_kept : Published S R → Image S R
  image_kept p = image_with p.head p.rows.items p.outcomes.items

module _ {S R : Type 0} (o : Order S) where
  -- a row of the image that was never published
  abbrev pub opening_row : R → ImageRow S R
  opening_row v = record { value = v; write = o.least; read = o.least; first = None }
