-- The text of a lexicon, version 1: the list of lines that it spells (own).
use Rattle.std.specs.Prelude.{ℕ, List, [], ◌∷◌, ◌++◌, map, codes}
use Rattle.std.specs.List.{flat_map}
use Rattle.text_definitions.specs.Slp1.{slp1_of_word}
use Rattle.lexicon_definitions.specs.Analyses.{Analysis}
use Rattle.lexicon_definitions.specs.Rules.{Rule}
use Rattle.lexicon_definitions.specs.Lexicons.{Lexicon, Form}

-- each line is ended by the byte 10
abbrev pub text_of_lines : List (List ℕ) → List ℕ
text_of_lines lines = flat_map (λ line. line ++ 10 ∷ []) lines

-- the first line
abbrev pub head_line : List ℕ
head_line = codes "slx 1"

-- `phase NAME`
abbrev pub phase_line : List ℕ → List ℕ
phase_line name = codes "phase " ++ name

-- `grammar TEXT`
abbrev pub grammar_line : List ℕ → List ℕ
grammar_line text = codes "grammar " ++ text

-- `plain X Y`, letters in SLP1
abbrev pub plain_line : ℕ × ℕ → List ℕ
plain_line pair = codes "plain " ++ slp1_of_word (pair.0 ∷ []) ++ codes " " ++ slp1_of_word (pair.1 ∷ [])

-- `rule u|v>w`, words in SLP1
abbrev pub rule_line : Rule → List ℕ
rule_line rule =
    codes "rule " ++ slp1_of_word rule.u ++ codes "|" ++ slp1_of_word rule.v ++ codes ">" ++ slp1_of_word rule.w

-- `form PHASE FORM STEM TAG`, words in SLP1
abbrev pub form_line : List ℕ → List ℕ → Analysis → List ℕ
form_line name form analysis =
    codes "form " ++ name ++ codes " " ++ slp1_of_word form ++ codes " " ++ slp1_of_word analysis.stem ++ codes " "
    ++ analysis.tag

-- a line for each analysis of each form of the phase
abbrev pub phase_forms_lines : List ℕ → List Form → List (List ℕ)
phase_forms_lines name forms = flat_map (λ form. map (form_line name form.letters) form.analyses) forms

-- the forms of each phase under its name
abbrev pub forms_lines : List (List ℕ) → List (List Form) → List (List ℕ)
forms_lines [] phases = []
forms_lines (name ∷ names) [] = []
forms_lines (name ∷ names) (forms ∷ phases) = phase_forms_lines name forms ++ forms_lines names phases

-- the last line
abbrev pub end_line : List ℕ
end_line = codes "end"

-- the lines of a lexicon: the first line, its phases, its grammar, its plain pairs, its rules, its forms, and the last line
abbrev pub lines_of : Lexicon → List (List ℕ)
lines_of lexicon =
    head_line ∷ map phase_line lexicon.rules.names
    ++ grammar_line lexicon.rules.grammar ∷ map plain_line lexicon.rules.plain
    ++ map rule_line lexicon.rules.rules
    ++ forms_lines lexicon.rules.names lexicon.phases
    ++ end_line ∷ []

-- the text of a lexicon
unfoldable pub text_of : Lexicon → List ℕ
text_of lexicon = text_of_lines (lines_of lexicon)
