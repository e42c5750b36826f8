-- What is printed and what is left to print are together the lines of the analyses.
use Rattle.std.proofs.Common.{◌≡◌, ◌++◌, map, drop}
use Rattle.std.specs.List.{flat_map}
use Rattle.segmentation_definitions.specs.PrintedAnswers.{output_line}
use Rattle.session_definitions.specs.PrintedSummaries.{printed_analysis}
use Rattle.form_tags.specs.Analyses.{text_analysis}
use Rattle.reader_session.proofs.tags_printing.push_tags.Given as goal

abbrev pub invariant-loop-analysis : goal.invariant-loop-analysis
invariant-loop-analysis l =
    l.output.items ++ flat_map (λ analysis. output_line (printed_analysis analysis)) (map text_analysis (drop l.analysis-index l.analyses))
    ≡ l.fn.output.items ++ flat_map (λ analysis. output_line (printed_analysis analysis)) (map text_analysis l.analyses)
