-- the letter's bit is 0, or its place follows as many places as there are bits below it
use Rattle.std.proofs.Common.{◌<◌, Some, sym, ◌∙◌, ap, subst, arith}
use Rattle.std.specs.Prelude.{Contains}
use Rattle.shared_trie.specs.LetterSets.{letters_in, set_places}
use Rattle.shared_trie.proofs.SetPlaces.{letter_absent, letter_found}
use Rattle.shared_trie.proofs.letter_set.LetterSet.place_of.Goals as goal

pub returns-then-self-bit-eq0 : goal.returns-then-self-bit-eq0
unfolding letters_in
returns-then-self-bit-eq0 c has =
    let bits = c.args.self.bits in
    let code = c.code.result in
    let low : code < 64 = omega (arith, c.code.ensures.letter, c.code.ensures.value) in
    letter_absent bits code low c.if-self-bit-eq0.true (subst (Contains (set_places 64 0 bits)) (sym c.code.ensures.value) has)

pub returns : goal.returns
unfolding letters_in
returns c =
    let bits = c.args.self.bits in
    let code = c.code.result in
    let low : code < 64 = omega (arith, c.code.ensures.letter, c.code.ensures.value) in
    letter_found bits code low (omega arith) c.if-self-bit-eq0.false ∙ ap Some c.code.ensures.value
