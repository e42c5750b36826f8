-- each bit is moved down
use Rattle.std.proofs.Common.{◌+◌, ◌/◌, ◌↔◌, ℕ, subst}
use Rattle.trie_checks.specs.NumberSets.{HasNumber}
use Rattle.trie_checks.proofs.NumberBits.{number_lowered}
use Rattle.trie_checks.proofs.number_set.NumberSet.lowered.Goals as goal

pub returns : goal.returns
returns c n =
    let bits = c.self.inside.bits in
    subst (λ (set : ℕ). HasNumber (bits / 2) n ↔ HasNumber set (n + 1)) c.self.view_is (number_lowered bits n)
