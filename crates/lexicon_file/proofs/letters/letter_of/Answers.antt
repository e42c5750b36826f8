-- The byte is looked up in the table.
use Rattle.std.proofs.Common.{rules, tests, ◌≡◌, suc, ◌+◌, Some, eqb, ◌∙◌, sym, ap, arith}
use Rattle.std.specs.Prelude.{option_map}
use Rattle.std.proofs.lemmas.Iterator.{YieldsList-from_slice}
use Rattle.std.proofs.lemmas.Iterator.Search.{position_from_yields_List}
use Rattle.lexicon_file.specs.declared.letters.TheConstants.{SLP1}
use Rattle.lexicon_file.proofs.LetterLemmas.{letter_found, letter_is}
use Rattle.lexicon_file.proofs.letters.letter_of.Goals as goal

pub returns-in_default : goal.returns-in_default
returns-in_default c =
    let found =
    letter_found c.args.byte c.position.result
    (position_from_yields_List (λ entry. eqb entry c.args.byte) _ _ _ c.position.ensures.ran (YieldsList-from_slice SLP1 c.iter.ensures.rest) (λ x b q k. search (rules, tests))) in
    sym (found ∙ ap (option_map suc) c.in_default.is)

pub returns : goal.returns
returns c =
    let found =
    letter_found c.args.byte c.position.result
    (position_from_yields_List (λ entry. eqb entry c.args.byte) _ _ _ c.position.ensures.ran (YieldsList-from_slice SLP1 c.iter.ensures.rest) (λ x b q k. search (rules, tests))) in
    let inside = c.in-Some.ensures.bound in
    let next : c.in-Some.place + 1 ≡ suc c.in-Some.place = omega arith in
    letter_is c.new.result (c.in-Some.place + 1) c.new.ensures.some c.new.ensures.value (omega arith, omega (arith, inside)) ∙ ap (λ n. Some n) next ∙ sym (found ∙ ap (option_map suc) c.in-Some.is)
