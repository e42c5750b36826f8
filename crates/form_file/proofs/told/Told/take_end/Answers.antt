-- A line with a blank is refused; after the end everything else is kept.
use Rattle.lexicon_text_definitions.specs.FileSteps.{take_end as take_end_of}
use Rattle.form_file.specs.declared.error.FileWhy.TheVariants.{Field}
use Rattle.form_file.specs.Fields.{text_of_rest}
use Rattle.form_file.proofs.StageLemmas.{body_kept, before_end}
use Rattle.form_file.proofs.AnswerLemmas.{refused_for, end_refused, end_taken}
use Rattle.form_file.proofs.told.Told.take_end.Goals as goal

pub returns-then-is_some : goal.returns-then-is_some
returns-then-is_some c =
    refused_for (Unit {0}) (take_end_of c.args.self.now (text_of_rest c.args.rest)) c.into.result Field c.args.self.now (cc) (end_refused c.args.self.now c.args.rest (cc))

pub invariant_of-self : goal.invariant_of-self
invariant_of-self c = record {
  few = c.self.invariant.few;
  named = c.self.invariant.named;
  apart = c.self.invariant.apart;
  stage = body_kept _ c.args.self.now c.self.inside.automaton c.self.inside.forms.value c.self.view_is (before_end _ c.requires) c.self.invariant;
}

pub returns : goal.returns
returns c = end_taken c.args.self.now _ c.args.rest (cc) c.self.view_is
