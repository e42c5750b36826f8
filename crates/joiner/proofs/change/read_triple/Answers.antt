-- By the first byte, and then by what is closed by a bracket.
use Rattle.std.proofs.Common.{Option, sym, subst}
use Rattle.std.proofs.lemmas.List.{take_rest}
use Rattle.chain_definitions.specs.ChainTexts.{Triple}
use Rattle.joiner.specs.Shapes.{IsReadWith}
use Rattle.joiner.specs.Triples.{words_of}
use Rattle.joiner.proofs.PartsRead.{no_bracket, other_bracket, not_closed, notation_is}
use Rattle.joiner.proofs.change.read_triple.Goals as goal

pub returns-in_default : goal.returns-in_default
returns-in_default c = no_bracket c.args.text.now c.in_default.len_below

pub returns-then-first-ne40 : goal.returns-then-first-ne40
returns-then-first-ne40 c = other_bracket c.args.text.now c.in-len1-up.len_at_least c.if-first-ne40.true

pub returns-in_default-closed_by : goal.returns-in_default-closed_by
returns-in_default-closed_by c =
    not_closed c.args.text.now c.in-len1-up.len_at_least c.if-first-ne40.false (rw take_rest at c.in_default-closed_by.ensures.closed)

pub returns : goal.returns
returns c =
    subst (λ (told : Option Triple). IsReadWith c.read_notation.result told words_of)
    (sym (notation_is c.args.text.now c.in-len1-up.len_at_least c.if-first-ne40.false c.in-Some.notation.now (rw take_rest at c.in-Some.ensures.closed)))
    c.read_notation.ensures
