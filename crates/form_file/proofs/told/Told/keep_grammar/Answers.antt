-- The names stay as they were.
use Rattle.std.proofs.Common.{Some, sym, ap, subst}
use Rattle.lexicon_text_definitions.specs.FileLines.{Grammar}
use Rattle.lexicon_text_definitions.specs.FileContents.{Told, entries_from}
use Rattle.form_file.specs.Told.{IsBody}
use Rattle.form_file.proofs.told.Told.keep_grammar.Goals as goal

pub invariant_of-self : goal.invariant_of-self
invariant_of-self c = record {
  few = c.self.invariant.few;
  named = c.self.invariant.named;
  apart = c.self.invariant.apart;
  stage = subst (λ (told : Told). IsBody told.names c.args.grammar.items (Some c.args.automaton) c.args.forms.value) (sym c.self.view_is) c.requires;
}

pub returns : goal.returns
returns c =
    ap (λ (told : Told). record told { last = Grammar; grammar = c.args.grammar.items; forms = entries_from 0 c.args.forms.value }) c.self.view_is
