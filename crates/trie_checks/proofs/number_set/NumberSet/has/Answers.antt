-- the bit of the number is tested
use Rattle.std.proofs.Common.{◌↔◌, ℕ, ◌%◌, ◌*◌, ◌^◌, ◌==◌, bit_and, not, subst}
use Rattle.std.specs.Prelude.{IsTrue}
use Rattle.trie_checks.specs.NumberSets.{HasNumber}
use Rattle.trie_checks.proofs.NumberBits.{number_tested}
use Rattle.trie_checks.proofs.number_set.NumberSet.has.Goals as goal

pub returns : goal.returns
returns c =
    let bits = c.self.inside.bits in
    let number = c.args.number in
    subst (λ (set : ℕ). IsTrue (not (bit_and bits (1 * 2 ^ number % 18446744073709551616) == 0)) ↔ HasNumber set number) c.self.view_is (number_tested bits number c.requires)
