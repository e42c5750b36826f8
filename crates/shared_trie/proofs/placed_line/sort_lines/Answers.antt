-- Each call of the closure answers by the order of bytes, which is total.
use Rattle.std.proofs.Common.{◌≡◌, ap, rules}
use Rattle.std.specs.Ordering.{is_lt, nat_cmp}
use Rattle.std.specs.Cmp.Lexicographic.{slice_cmp}
use Rattle.std.proofs.lemmas.Cmp.{nat_list_cmp_total}
use Rattle.std.proofs.lemmas.Fn.{always_returns_same}
use Rattle.std.proofs.lemmas.List.MinMax.{ranks_by}
use Rattle.shared_trie.specs.CanonicalNodes.{NodeText}
use Rattle.shared_trie.proofs.placed_line.sort_lines.Goals as goal

pub returns-clause-sorted : goal.returns-clause-sorted
returns-clause-sorted c =
    c.sort_unstable_by.ensures.sorted (λ (x y : NodeText). is_lt (slice_cmp nat_cmp x.bytes y.bytes)) (ranks_by nat_list_cmp_total (λ (text : NodeText). text.bytes))
    (always_returns_same _ (λ a r. is_lt r ≡ is_lt (slice_cmp nat_cmp a.0.now.bytes a.1.0.now.bytes)) _ (λ a r f k. let same : r ≡ slice_cmp nat_cmp a.0.now.bytes a.1.0.now.bytes = search rules in (ap is_lt same, search rules)))
