-- Whether all rise is told by what is left.
use Rattle.std.proofs.Common.{◌≡◌, ℕ, length}
use Rattle.std.specs.Ordering.{nat_cmp, on}
use Rattle.trie_text_definitions.specs.LimitedRules.{rises}
use Rattle.lexicon_file.proofs.rows.letters_rise.Given as goal

abbrev pub decreases-loop-rest : goal.decreases-loop-rest
decreases-loop-rest l = length l.rest

abbrev pub invariant-loop-rest : goal.invariant-loop-rest
invariant-loop-rest l = rises (on (λ (child : ℕ × ℕ). child.0) nat_cmp) l.rest ≡ rises (on (λ (child : ℕ × ℕ). child.0) nat_cmp) l.fn.children
