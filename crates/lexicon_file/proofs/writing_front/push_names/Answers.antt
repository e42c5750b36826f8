-- One more name is written.
use Rattle.std.proofs.Common.{ℕ, List, ◌++◌, ◌∷◌, [], map, string_bytes, refl, ◌∙◌, ap, arith}
use Rattle.lexicon_text_definitions.specs.LexiconTexts.{text_of_lines, phase_line}
use Rattle.lexicon_file.proofs.LinesWritten.{one_written}
use Rattle.lexicon_file.proofs.writing_front.push_names.Goals as goal

pub loop-name-preserved : goal.loop-name-preserved
loop-name-preserved c =
    one_written (λ names. text_of_lines (map phase_line (map string_bytes names))) c.args.names.now c.loop-name.name-index c.name-item.result _ c.loop-name.out.items _ _ (omega arith)
    c.name-item.is refl (c.in_ok-push_name.ensures.ok ∙ ap (λ (name : List ℕ). c.loop-name.out.items ++ (phase_line name ++ 10 ∷ [])) c.as_str.ensures.value) c.loop-name.invariant
