-- The parts, the cut and the tag are there one after another.
use Rattle.std.proofs.Common.{sym, refl, true≢false}
use Rattle.lexicon_file.proofs.FieldLemmas.{no_parts, no_cut, no_tag, shape_is, append_fits}
use Rattle.lexicon_file.proofs.deltas.delta_parts.Goals as goal

pub returns-in_default-clause-shape : goal.returns-in_default-clause-shape
returns-in_default-clause-shape c = no_parts c.args.text.now c.in_default.ensures

pub returns-in_default-read_cut-clause-shape : goal.returns-in_default-read_cut-clause-shape
returns-in_default-read_cut-clause-shape c =
    no_cut c.args.text.now c.in-Some.cut.now c.in-Some.append.now c.in-Some.tag.now c.in-Some.ensures (sym c.in_default-read_cut.ensures)

pub returns-in_default-read_tag-clause-shape : goal.returns-in_default-read_tag-clause-shape
returns-in_default-read_tag-clause-shape c =
    no_tag c.args.text.now c.in-Some.cut.now c.in-Some.append.now c.in-Some.tag.now c.in-Some-read_cut.cut c.in-Some.ensures c.in-Some-read_cut.ensures
    (λ is. true≢false (sym (c.in_default-read_tag.ensures.some.1 is)))

pub returns-clause-shape : goal.returns-clause-shape
returns-clause-shape c =
    shape_is c.args.text.now c.in-Some.cut.now c.in-Some.append.now c.in-Some.tag.now c.in-Some-read_cut.cut _ c.in-Some.ensures c.in-Some-read_cut.ensures
    (c.in-Some-read_tag.ensures.some.0 refl) c.in-Some-read_tag.ensures.value

pub returns-clause-within : goal.returns-clause-within
returns-clause-within c = append_fits c.args.text.now c.in-Some.cut.now c.in-Some.append.now c.in-Some.tag.now c.in-Some.ensures
