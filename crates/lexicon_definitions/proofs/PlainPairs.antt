-- Pairs of letters are ordered by their first letters and then by their second ones, which tells different pairs apart.
use Rattle.std.proofs.Common.{ℕ}
use Rattle.std.specs.Cmp.{IsTotalOrder}
use Rattle.std.specs.Ordering.{nat_cmp}
use Rattle.std.proofs.lemmas.Cmp.{nat_cmp_total, then_total, on_total}
use Rattle.std.proofs.lemmas.Map.Lookups.{CmpEqualImpliesEq, exact_unsigned}
use Rattle.list_laws.proofs.Orderings.{equal_then_both}
use Rattle.lexicon_definitions.specs.Lexicons.{compare_pairs}

pub pairs_total : IsTotalOrder compare_pairs
pairs_total = then_total (on_total (λ (p : ℕ × ℕ). p.0) nat_cmp_total) (on_total (λ (p : ℕ × ℕ). p.1) nat_cmp_total)

pub pairs_exact : CmpEqualImpliesEq compare_pairs
pairs_exact left right e =
    let parts = equal_then_both (nat_cmp left.0 right.0) (nat_cmp left.1 right.1) e in
    λ i. (exact_unsigned left.0 right.0 parts.0 i, exact_unsigned left.1 right.1 parts.1 i)
