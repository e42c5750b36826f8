-- The printed lines of a summary and of the analyses of an item (own).
use Rattle.std.specs.Prelude.{ℕ, ◌+◌, if◌then◌else◌, List, [], ◌∷◌, ◌++◌, codes}
use Rattle.std.specs.List.{flat_map}
use Rattle.std.specs.Fmt.{decimal}
use Rattle.std.specs.Str.{bytes_eq}
use Rattle.text_definitions.specs.Slp1.{slp1_of_word}
use Rattle.lexicon_definitions.specs.Analyses.{Analysis}
use Rattle.lexicon_definitions.specs.Lexicons.{Lexicon, RuleSet, Form, forms_of}
use Rattle.segmentation_definitions.specs.Items.{Item}
use Rattle.segmentation_definitions.specs.PrintedAnswers.{printed_form, output_line}

-- `AT LEAD FORM[PHASE]`
abbrev pub printed_item : RuleSet → Item → List ℕ
printed_item rules item =
    decimal item.at ++ codes " " ++ decimal item.lead ++ codes " "
    ++ printed_form rules (record { phase = item.phase; form = item.form; rule = 0 })

-- `K: ` and an item, a line each, numbered from this number on
abbrev pub printed_items : RuleSet → ℕ → List Item → List ℕ
printed_items rules number [] = []
printed_items rules number (item ∷ items) =
    output_line (decimal number ++ codes ": " ++ printed_item rules item) ++ printed_items rules (number + 1) items

-- the items of a summary, numbered from 1, and `end`
abbrev pub printed_summary : RuleSet → List Item → List ℕ
printed_summary rules items = printed_items rules 1 items ++ output_line (codes "end")

-- the analyses of a form, where it is one of these
abbrev pub analyses_among : List Form → List ℕ → List Analysis
analyses_among [] letters = []
analyses_among (form ∷ forms) letters =
    if bytes_eq form.letters letters then form.analyses else analyses_among forms letters

-- the analyses of an item's form in its phase, rising as the lexicon has them
abbrev pub analyses_of_item : Lexicon → Item → List Analysis
analyses_of_item lexicon item = analyses_among (forms_of lexicon item.phase) item.form

-- `STEM TAG`, the stem in SLP1
abbrev pub printed_analysis : Analysis → List ℕ
printed_analysis analysis = slp1_of_word analysis.stem ++ codes " " ++ analysis.tag

-- the analyses, a line each, and `end`
abbrev pub printed_tags : List Analysis → List ℕ
printed_tags analyses = flat_map (λ analysis. output_line (printed_analysis analysis)) analyses ++ output_line (codes "end")
