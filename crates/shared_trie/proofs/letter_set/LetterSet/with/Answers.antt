-- the bit of the letter is set besides
use Rattle.std.proofs.Common.{◌≡◌, ◌⊎◌, ◌↔◌, ℕ, ◌<◌, ◌%◌, ◌*◌, ◌^◌, bit_or, subst, arith}
use Rattle.std.specs.Prelude.{Contains}
use Rattle.shared_trie.specs.LetterSets.{letters_in, set_places}
use Rattle.shared_trie.proofs.SetPlaces.{letter_added}
use Rattle.shared_trie.proofs.letter_set.LetterSet.with.Goals as goal

pub returns : goal.returns
unfolding letters_in
returns c other =
    let bits = c.args.self.bits in
    let code = c.code.result in
    let low : code < 64 = omega (arith, c.code.ensures.letter, c.code.ensures.value) in
    subst (λ (n : ℕ). Contains (set_places 64 0 (bit_or bits (1 * 2 ^ code % 18446744073709551616))) other ↔ (Contains (set_places 64 0 bits) other ⊎ (other ≡ n))) c.code.ensures.value
    (letter_added bits code low other)
