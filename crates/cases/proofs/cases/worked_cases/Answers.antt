use Rattle.std.proofs.Common.{refl}
use Rattle.cases.proofs.cases.worked_cases.Goals as goal

pub returns : goal.returns
returns c = record { between = refl; no_room = refl; last = refl; none_after_last = refl; next_volume = refl; no_page = refl; new_volume = refl; rounded_down = refl; onward = refl; next_page = refl; none_after_last_page = refl; whole_number = refl; volume_number = refl; card_number = refl; item_number = refl; whole_form = refl; volume_form = refl; card_form = refl; inch_form = refl; solid_form = refl; sub_assembly_form = refl; count_zero_form = refl; stands_early = refl; only_looks = refl; behind_the_reader = refl; second_put = refl; bounded_from_above = refl; put_refused = refl; three_later = refl; four_later = refl; length_of_none = refl; length_of_three = refl; length_of_most = refl; small_length = refl; small_bytes = refl; small_sound = refl }
