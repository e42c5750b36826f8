-- What is written and what is left to write are together all that is to be written.
use Rattle.std.proofs.Common.{◌≡◌, ◌++◌, map, drop}
use Rattle.form_tags.specs.Analyses.{text_analysis}
use Rattle.lexicon_text_definitions.specs.LexiconTexts.{text_of_lines, form_line}
use Rattle.lexicon_file.proofs.writing_forms.push_analyses.Given as goal

abbrev pub invariant-loop-analysis : goal.invariant-loop-analysis
invariant-loop-analysis l =
    l.out.items ++ text_of_lines (map (form_line l.name l.form) (map text_analysis (drop l.analysis-index l.analyses)))
    ≡ l.fn.out.items ++ text_of_lines (map (form_line l.name l.form) (map text_analysis l.analyses))
