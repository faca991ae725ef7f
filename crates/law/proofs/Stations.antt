-- A job between the tables and its calls: what is read off the sheet and put back on it.
use Rattle.std.proofs.Common.{◌≡◌, ◌≤◌, max, length, take, ap, ◌∙◌, arith, length-take}
use Rattle.model.specs.Tables.{laid}
use Rattle.station.specs.Station.{Station, Work, work_of, put_back}
use Rattle.model.proofs.Laid.{length-laid, take-laid, laid_same}

module _ {S R : Type 0} where
  -- as many entries count as the job says, and a sheet keeps its length
  pub entries_count : (t : Station S R) → t.job.count ≤ length t.sheet → length (work_of t).entries ≡ t.job.count
  entries_count t h = simp length-take (omega arith)

  pub sheet_back : (t : Station S R) (w : Work S R) → length w.entries ≤ length t.sheet → length (put_back t w).sheet ≡ length t.sheet
  sheet_back t w h = length-laid w.entries t.sheet h

  pub count_back : (t : Station S R) (w : Work S R) → t.job.count ≤ length t.sheet → t.job.count ≤ length w.entries → length w.entries ≤ length t.sheet → (put_back t w).job.count ≤ length (put_back t w).sheet
  count_back t w c d h = let e = sheet_back t w h in omega arith

  -- a job put back unaltered leaves its station as it was
  pub unaltered : (t : Station S R) → put_back t (work_of t) ≡ t
  unaltered t =
      let c : max t.job.count (length (work_of t).entries) ≡ t.job.count = simp length-take (omega arith) in
      let e : laid (work_of t).entries t.sheet ≡ t.sheet = laid_same t.job.count t.sheet in
      λ i. record { job = record { image = t.job.image; lower = t.job.lower; upper = t.job.upper; standing = t.job.standing; count = c i }; sheet = e i }

  -- a job put back with no fewer entries is read off the sheet as it was put back
  pub work_back : (t : Station S R) (w : Work S R) → t.job.count ≤ length t.sheet → t.job.count ≤ length w.entries → length w.entries ≤ length t.sheet → work_of (put_back t w) ≡ w
  work_back t w c d h =
      let m : max t.job.count (length w.entries) ≡ length w.entries = omega arith in
      let e = ap (λ n. take n (laid w.entries t.sheet)) m ∙ take-laid w.entries t.sheet in
      λ i. record { image = w.image; lower = w.lower; upper = w.upper; standing = w.standing; entries = e i }
