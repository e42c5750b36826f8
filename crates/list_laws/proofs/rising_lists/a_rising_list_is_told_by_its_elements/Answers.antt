-- Strictly rising lists of numbers are strictly sorted, and two sorted lists with the same elements are the same.
use Rattle.std.proofs.lemmas.Cmp.{nat_cmp_total}
use Rattle.std.proofs.lemmas.Map.Keys.{sorted_from_strictly_increasing}
use Rattle.list_laws.proofs.Sorted.{same_sorted}
use Rattle.list_laws.proofs.rising_lists.a_rising_list_is_told_by_its_elements.Goals as goal

pub returns : goal.returns
returns c left right s t same =
    same_sorted nat_cmp_total left right (sorted_from_strictly_increasing left s) (sorted_from_strictly_increasing right t)
    (λ n. (same n).0) (λ n. (same n).1)
