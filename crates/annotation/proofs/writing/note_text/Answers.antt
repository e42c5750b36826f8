-- The value has no float, so its text is the compact one.
use Rattle.std.proofs.Common.{◌≡◌, ◌∙◌, ap, subst, IfOk}
use Rattle.serde_json.specs.Data.{Data}
use Rattle.serde_json.specs.Written.{has_float, compact_text}
use Rattle.segmentation_definitions.specs.PrintedAnswers.{output_line}
use Rattle.derivation.specs.Steps.{steps_of}
use Rattle.annotation.proofs.WrittenNotes.{no_float_in_note}
use Rattle.annotation.proofs.writing.note_text.Goals as goal

pub value_text-requires : goal.value_text-requires
value_text-requires c =
    ap has_float c.in_ok-value.ensures.ok
    ∙ no_float_in_note c.args.lexicon.now.lexicon
    (record { line = c.args.line.now; choices = c.args.choices.now; steps = steps_of c.args.lexicon.now.lexicon.rules c.args.line.now.letters c.args.steps.now })

pub returns : goal.returns
returns c = record {
  ok = subst (λ (d : Data). IfOk c.value_text.result (λ bytes. bytes.items ≡ output_line (compact_text d))) c.in_ok-value.ensures.ok c.value_text.ensures;
}
