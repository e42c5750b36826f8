-- The line is printed part by part, from the fields that the overlap stands for.
use Rattle.std.proofs.Common.{◌≡◌, ◌<◌, ◌∙◌, length, string_bytes, ap, sym, subst}
use Rattle.text_definitions.specs.Slp1.{slp1_of_word}
use Rattle.lexicon_definitions.specs.Rules.{printed_rule}
use Rattle.lexicon_definitions.specs.Lexicons.{rule_of}
use Rattle.segmentation_definitions.specs.Overlaps.{Overlap}
use Rattle.segmentation_definitions.specs.PrintedAnswers.{name_of, output_line}
use Rattle.run_definitions.specs.Overlaps.{printed_overlap}
use Rattle.commands.proofs.CheckLines.{overlap_line, mapped_at}
use Rattle.commands.proofs.check.print_overlap.Goals as goal

pub returns : goal.returns
returns c =
    let rules = c.args.rules.now in
    let o = c.overlap.inside in
    let low : o.phase < length rules.names = subst (λ (x : Overlap). x.phase < length rules.names) (sym c.overlap.view_is) c.requires.phase in
    let phase : c.as_str-phase.result.now ≡ name_of rules o.phase =
    c.as_str-phase.ensures.value
    ∙ mapped_at string_bytes c.phases.result.now rules.names o.phase c.index-phases-overlap.result c.phases.ensures low c.index-phases-overlap.is in
    record {
      ok = rw (c.in_ok-format.ensures.ok, phase, c.in_ok-form.ensures.ok, c.in_ok-before.ensures.ok, c.in_ok-after.ensures.ok)
          (overlap_line (name_of rules o.phase) (slp1_of_word o.form) (printed_rule (rule_of rules o.before)) (printed_rule (rule_of rules o.after))
          ∙ ap (λ (x : Overlap). output_line (printed_overlap rules x)) c.overlap.view_is);
    }
