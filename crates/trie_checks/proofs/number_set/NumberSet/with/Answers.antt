-- the bit of the number is set besides
use Rattle.std.proofs.Common.{◌≡◌, ◌⊎◌, ◌↔◌, ℕ, ◌%◌, ◌*◌, ◌^◌, bit_or, subst}
use Rattle.trie_checks.specs.NumberSets.{HasNumber}
use Rattle.trie_checks.proofs.NumberBits.{number_added}
use Rattle.trie_checks.proofs.number_set.NumberSet.with.Goals as goal

pub returns : goal.returns
returns c n =
    let bits = c.self.inside.bits in
    let number = c.args.number in
    subst (λ (set : ℕ). HasNumber (bit_or bits (1 * 2 ^ number % 18446744073709551616)) n ↔ (HasNumber set n ⊎ (number ≡ n))) c.self.view_is (number_added bits number n c.requires)
