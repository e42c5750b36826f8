-- The tests of a line one after another.
use Rattle.std.proofs.Common.{rules, ◌≡◌, ◌≢◌, true, sym, ◌∙◌, refl}
use Rattle.form_file.specs.declared.kind.Kind.TheVariants.{Opening, End}
use Rattle.form_file.specs.declared.error.FileWhy.TheVariants.{Trailing, NoEnd, NotUtf8}
use Rattle.form_file.proofs.LinesTaken.{line_refused, answer_as, head_answer, trailing, no_end, not_utf8, head_line, later_line, last_is, last_not_end, last_not_opening, utf8_bad, utf8_good}
use Rattle.form_file.proofs.told.Told.take_line.Goals as goal

pub returns-then-eq : goal.returns-then-eq
returns-then-eq c =
    let last : c.self.inside.last ≡ End = search rules in
    line_refused (Unit {0}) _ c.into.result Trailing c.args.self.now (cc) (trailing c.args.self.now _ (last_is _ c.args.self.now c.self.inside.last End c.self.view_is refl last))

pub returns-then-not-ended : goal.returns-then-not-ended
returns-then-not-ended c =
    let last : c.self.inside.last ≢ End = search rules in
    line_refused (Unit {0}) _ c.into-then-not-ended.result NoEnd c.args.self.now (cc) (no_end c.args.self.now _ (last_not_end _ c.args.self.now c.self.inside.last c.self.view_is refl last) (cc))

pub returns-then-is_err : goal.returns-then-is_err
returns-then-is_err c =
    let last : c.self.inside.last ≢ End = search rules in
    let ended : c.args.ended ≡ true = search rules in
    line_refused (Unit {0}) _ c.into-then-is_err.result NotUtf8 c.args.self.now (cc)
    (not_utf8 c.args.self.now _ (last_not_end _ c.args.self.now c.self.inside.last c.self.view_is refl last) ended
    (utf8_bad _ _ c.args.line.now c.from_utf8.result _ _ c.from_utf8.ensures.cases (λ e q. q.0) (sym c.is_err.ensures.value ∙ c.if-is_err.true)))

pub returns-then-eq-3 : goal.returns-then-eq-3
returns-then-eq-3 c =
    let last : c.self.inside.last ≡ Opening = search rules in
    let ended : c.args.ended ≡ true = search rules in
    answer_as (Unit {0}) _ _ c.take_head.result c.take_head.new.self
    (head_line c.args.self.now _ (last_is _ c.args.self.now c.self.inside.last Opening c.self.view_is refl last) ended
    (utf8_good _ _ c.args.line.now c.from_utf8.result _ _ c.from_utf8.ensures.cases (λ text p. p.1) (sym c.is_err.ensures.value ∙ c.if-is_err.false)))
    (head_answer (Unit {0}) c.args.self.now c.take_head.new.self c.take_head.result c.args.line.now c.take_head.ensures)

pub returns : goal.returns
returns c =
    let last : c.self.inside.last ≢ End = search rules in
    let other : c.self.inside.last ≢ Opening = search rules in
    let ended : c.args.ended ≡ true = search rules in
    answer_as (Unit {0}) _ _ c.take_parts.result c.take_parts.new.self
    (later_line c.args.self.now _ (last_not_end _ c.args.self.now c.self.inside.last c.self.view_is refl last) (last_not_opening _ c.args.self.now c.self.inside.last c.self.view_is refl other) ended
    (utf8_good _ _ c.args.line.now c.from_utf8.result _ _ c.from_utf8.ensures.cases (λ text p. p.1) (sym c.is_err.ensures.value ∙ c.if-is_err.false)))
    c.take_parts.ensures
