-- Each call of the closure answers by the order of deltas, which is total.
use Rattle.std.proofs.Common.{◌≡◌, ap, rules}
use Rattle.std.specs.Ordering.{is_lt}
use Rattle.std.proofs.lemmas.Fn.{always_returns_same}
use Rattle.std.proofs.lemmas.List.MinMax.{ranks_by}
use Rattle.form_tags.specs.Analyses.{text_delta}
use Rattle.lexicon_definitions.specs.Deltas.{compare_deltas}
use Rattle.lexicon_definitions.proofs.TrieSuffixes.{compare_deltas-total}
use Rattle.form_tags.specs.declared.delta.Delta.{Delta}
use Rattle.shared_trie.proofs.deltas.sort_deltas.Goals as goal

pub returns-clause-sorted : goal.returns-clause-sorted
returns-clause-sorted c =
    c.sort_unstable_by.ensures.sorted (λ (x y : Delta). is_lt (compare_deltas (text_delta x) (text_delta y))) (ranks_by compare_deltas-total text_delta)
    (always_returns_same _ (λ a r. is_lt r ≡ is_lt (compare_deltas (text_delta a.0.now) (text_delta a.1.0.now))) _ (λ a r f k. let same : r ≡ compare_deltas (text_delta a.0.now) (text_delta a.1.0.now) = search rules in (ap is_lt same, search rules)))
