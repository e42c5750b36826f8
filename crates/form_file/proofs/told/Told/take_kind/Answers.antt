-- Each kind of line is taken by its function, and only after a grammar's the last line is one.
use Rattle.std.proofs.Common.{rules, ◌≡◌, ◌≢◌}
use Rattle.form_file.specs.declared.kind.Kind.TheVariants.{End}
use Rattle.form_file.specs.declared.error.FileWhy.TheVariants.{Field}
use Rattle.form_file.proofs.LinesTaken.{line_refused, phase_answer, plain_answer, rule_answer, form_answer, end_answer, no_text}
use Rattle.form_file.proofs.told.Told.take_kind.Goals as goal

pub returns-then-eq : goal.returns-then-eq
returns-then-eq c =
    let last : c.args.kind ≡ End = search rules in
    end_answer (Unit {0}) c.args.self.now _ c.take_end.result c.args.kind c.args.rest last c.take_end.ensures

pub returns-in_default : goal.returns-in_default
returns-in_default c =
    let other : c.args.kind ≢ End = search rules in
    line_refused (Unit {0}) _ c.into.result Field c.args.self.now (cc) (no_text c.args.self.now c.args.self.now.last c.args.kind c.args.rest c.requires.follows other (cc))

pub returns-in-Phase : goal.returns-in-Phase
returns-in-Phase c = phase_answer (Unit {0}) c.args.self.now _ c.take_phase.result c.args.kind c.args.rest c.in-Some.text c.in-Phase.is c.in-Some.is c.take_phase.ensures

pub returns-in-Plain : goal.returns-in-Plain
returns-in-Plain c = plain_answer (Unit {0}) c.args.self.now _ c.take_plain.result c.args.kind c.args.rest c.in-Some.text c.in-Plain.is c.in-Some.is c.take_plain.ensures

pub returns-in-Rule : goal.returns-in-Rule
returns-in-Rule c = rule_answer (Unit {0}) c.args.self.now _ c.take_rule.result c.args.kind c.args.rest c.in-Some.text c.in-Rule.is c.in-Some.is c.take_rule.ensures

pub returns-in-Form : goal.returns-in-Form
returns-in-Form c = form_answer (Unit {0}) c.args.self.now _ c.take_form.result c.args.kind c.args.rest c.in-Some.text c.in-Form.is c.in-Some.is c.take_form.ensures
