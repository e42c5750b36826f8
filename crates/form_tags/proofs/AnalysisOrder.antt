-- Analyses that are equal in their order are one: both lists of numbers are.
use Rattle.std.proofs.Common.{◌≡◌, ℕ, List, Ordering}
use Rattle.std.specs.Ordering.{nat_cmp}
use Rattle.std.specs.Cmp.Lexicographic.{slice_cmp}
use Rattle.std.proofs.lemmas.Map.Lookups.{CmpEqualImpliesEq, exact_bytes, exact_pairs}
use Rattle.lexicon_definitions.specs.Analyses.{compare_analyses}

-- the order tells all analyses apart
pub exact_analyses : CmpEqualImpliesEq compare_analyses
exact_analyses left right tied =
    let compare_texts : List ℕ → List ℕ → Ordering = slice_cmp nat_cmp in
    let same : (left.stem, left.tag) ≡ (right.stem, right.tag) = exact_pairs compare_texts compare_texts exact_bytes exact_bytes (left.stem, left.tag) (right.stem, right.tag) tied in
    λ i. record { stem = (same i).0; tag = (same i).1 }
