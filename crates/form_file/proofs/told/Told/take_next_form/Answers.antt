-- A line that is taken is ASCII; of one that is refused it is asked.
use Rattle.std.proofs.Common.{All, Ok, Err, refl, sym, ◌∙◌, subst}
use Rattle.lexicon_definitions.specs.Lexicons.{IsPhaseName}
use Rattle.lexicon_text_definitions.specs.FileContents.{Told}
use Rattle.form_file.specs.declared.error.FileWhy.TheVariants.{NotUtf8}
use Rattle.form_file.proofs.FormBytes.{form_utf8}
use Rattle.form_file.proofs.LinesTaken.{line_refused, next_answer, not_utf8, utf8_bad, utf8_good}
use Rattle.form_file.proofs.told.Told.take_next_form.Goals as goal

pub returns-in-Ok : goal.returns-in-Ok
returns-in-Ok c =
    let named = subst (λ (told : Told). All IsPhaseName told.names) c.self.view_is c.self.invariant.named in
    next_answer (Unit {0}) c.args.self.now c.take_form.new.self (Ok tt) c.args.line.now c.args.text c.requires.follows c.requires.form
    (form_utf8 c.args.self.now c.take_form.new.self c.args.line.now c.args.text.now named c.requires.form c.in-Ok.ensures) c.in-Ok.ensures

pub returns-then-is_err : goal.returns-then-is_err
returns-then-is_err c =
    let bad = utf8_bad _ _ c.args.line.now c.from_utf8.result _ _ c.from_utf8.ensures.cases (λ e q. q.0) (sym c.is_err.ensures.value ∙ c.if-is_err.true) in
    line_refused (Unit {0}) _ c.into.result NotUtf8 _ (cc) (not_utf8 c.args.self.now _ (λ h. cc (h, c.requires.follows)) refl bad)

pub returns-else-is_err : goal.returns-else-is_err
returns-else-is_err c =
    let good = utf8_good _ _ c.args.line.now c.from_utf8.result _ _ c.from_utf8.ensures.cases (λ text p. p.1) (sym c.is_err.ensures.value ∙ c.if-is_err.false) in
    next_answer (Unit {0}) c.args.self.now c.take_form.new.self (Err c.in-Err.error) c.args.line.now c.args.text c.requires.follows c.requires.form good c.in-Err.ensures
