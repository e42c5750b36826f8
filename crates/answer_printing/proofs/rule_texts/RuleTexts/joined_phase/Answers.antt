-- The texts of the phases, with what joins a form to the next, are in the order of their names.
use Rattle.std.proofs.Common.{map, ap, ◌∙◌, string_bytes}
use Rattle.lexicon_definitions.specs.Lexicons.{RuleSet}
use Rattle.answer_printing.specs.Texts.{joined_phase_text}
use Rattle.answer_printing.proofs.TextLemmas.{phase_there}
use Rattle.answer_printing.proofs.rule_texts.RuleTexts.joined_phase.Goals as goal

pub returns : goal.returns
returns c =
    c.as_bytes.ensures.value
    ∙ phase_there string_bytes c.self.inside.phases.items c.args.self.now.names c.args.phase _
    (c.self.invariant.of_phases ∙ ap (λ (rules : RuleSet). map joined_phase_text rules.names) c.self.view_is) c.requires c.index.ensures
