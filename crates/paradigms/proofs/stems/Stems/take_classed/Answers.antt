-- The tests one after another; a stem that is new goes last in the set of stems.
use Rattle.std.proofs.Common.{◌+◌, length, sym, ◌∙◌, ap, Ok}
use Rattle.paradigms.specs.Rows.{text_stem}
use Rattle.paradigms.proofs.StemLemmas.{too_short, over_limit, stem_twice, stem_added, has_twin, has_none, stem_pushed}
use Rattle.paradigms.proofs.stems.Stems.take_classed.Goals as goal

pub returns-then-has_short-clause-answer : goal.returns-then-has_short-clause-answer
returns-then-has_short-clause-answer c =
    too_short c.args.tables.now c.args.number c.args.self.now (text_stem c.args.stem) c.rows-rows.result.now c.rows-rows.ensures (sym c.has_short.ensures ∙ c.if-has_short.true)

pub returns-then-passes_limits-clause-answer : goal.returns-then-passes_limits-clause-answer
returns-then-passes_limits-clause-answer c =
    over_limit c.args.tables.now c.args.number c.args.self.now (text_stem c.args.stem) c.rows-rows.result.now c.rows-rows.ensures (c.args.forms + length c.rows-rows.result.now)
    (ap (λ forms. forms + length c.rows-rows.result.now) c.requires.forms) (sym c.has_short.ensures ∙ c.if-has_short.false) c.passes_limits.result c.passes_limits.ensures c.if-passes_limits.true

pub returns-then-not-branch-clause-answer : goal.returns-then-not-branch-clause-answer
returns-then-not-branch-clause-answer c =
    stem_twice c.args.tables.now c.args.number c.args.self.now (text_stem c.args.stem) c.rows-rows.result.now c.rows-rows.ensures (c.args.forms + length c.rows-rows.result.now)
    (ap (λ forms. forms + length c.rows-rows.result.now) c.requires.forms) (sym c.has_short.ensures ∙ c.if-has_short.false) c.passes_limits.result c.passes_limits.ensures c.if-passes_limits.false
    (has_twin c.args.stem c.self.inside.list.keys c.args.self.now c.self.view_is c.in_ok-insert.field-0 c.in_ok-insert.ensures.added c.if-not-branch.true)

pub returns-clause-answer : goal.returns-clause-answer
returns-clause-answer c =
    stem_added c.args.tables.now c.args.number c.args.self.now (text_stem c.args.stem) c.rows-rows.result.now c.rows-rows.ensures (c.args.forms + length c.rows-rows.result.now)
    (ap (λ forms. forms + length c.rows-rows.result.now) c.requires.forms) (sym c.has_short.ensures ∙ c.if-has_short.false) c.passes_limits.result c.passes_limits.ensures c.if-passes_limits.false
    (has_none c.args.stem c.self.inside.list.keys c.args.self.now c.self.view_is c.in_ok-insert.field-0 c.in_ok-insert.ensures.added c.if-not-branch.false)
    ∙ ap Ok (sym (stem_pushed c.args.stem c.self.inside.list.keys c.args.self.now c.self.view_is c.in_ok-insert.field-0 c.in_ok-insert.ensures.added c.insert.new.self.keys c.if-not-branch.false
    c.in_ok-insert.ensures.keys))
