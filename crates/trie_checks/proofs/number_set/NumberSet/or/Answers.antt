-- a bit is set in one of the two
use Rattle.std.proofs.Common.{◌⊎◌, ◌↔◌, ℕ, bit_or, subst}
use Rattle.trie_checks.specs.NumberSets.{HasNumber}
use Rattle.trie_checks.proofs.NumberBits.{numbers_of_both}
use Rattle.trie_checks.proofs.number_set.NumberSet.or.Goals as goal

pub returns : goal.returns
returns c n =
    let left = c.self.inside.bits in
    let right = c.other.inside.bits in
    subst (λ (set : ℕ). HasNumber (bit_or left right) n ↔ (HasNumber set n ⊎ HasNumber c.args.other n)) c.self.view_is
    (subst (λ (set : ℕ). HasNumber (bit_or left right) n ↔ (HasNumber left n ⊎ HasNumber set n)) c.other.view_is (numbers_of_both left right n))
