-- The printed line of an answer: its forms with their phases, and the rules between them; and a printed page (own).
use Rattle.std.specs.Prelude.{ℕ, ◌+◌, ◌==◌, min, Bool, if◌then◌else◌, List, [], ◌∷◌, ◌++◌, slice_index_or, codes}
use Rattle.std.specs.Fmt.{decimal}
use Rattle.text_definitions.specs.Slp1.{slp1_of_word}
use Rattle.lexicon_definitions.specs.Rules.{printed_rule}
use Rattle.lexicon_definitions.specs.Lexicons.{RuleSet, rule_of}
use Rattle.segmentation_definitions.specs.declared.limits.TheConstants.{LAST_ANSWER_NUMBER}
use Rattle.segmentation_definitions.specs.Derivations.{Step}

-- the name of a phase
abbrev pub name_of : RuleSet → ℕ → List ℕ
name_of rules phase = slice_index_or rules.names phase []

-- FORM[PHASE], the form in SLP1
abbrev pub printed_form : RuleSet → Step → List ℕ
printed_form rules step = slp1_of_word step.form ++ codes "[" ++ name_of rules step.phase ++ codes "]"

-- what stands between a form and the next, by the number of the rule between: ` + ` for no change, else ` (u|v>w) `
abbrev pub printed_joint : RuleSet → ℕ → List ℕ
printed_joint rules number = if number == 0 then codes " + " else codes " (" ++ printed_rule (rule_of rules number) ++ codes ") "

-- what stands after the last form, by the number of its rule: nothing for no change, else ` (u|>w)`
abbrev pub printed_end : RuleSet → ℕ → List ℕ
printed_end rules number = if number == 0 then [] else codes " (" ++ printed_rule (rule_of rules number) ++ codes ")"

-- the forms with what stands between them and after the last
abbrev pub printed_steps : RuleSet → List Step → List ℕ
printed_steps rules [] = []
printed_steps rules (step ∷ []) = printed_form rules step ++ printed_end rules step.rule
printed_steps rules (step ∷ next ∷ steps) =
    printed_form rules step ++ printed_joint rules step.rule ++ printed_steps rules (next ∷ steps)

-- the line of an answer with its number in the listing: `N: ` and its steps
unfoldable pub printed_answer : RuleSet → ℕ → List Step → List ℕ
printed_answer rules number steps = decimal number ++ codes ": " ++ printed_steps rules steps

-- a line of output is ended by the byte 10
abbrev pub output_line : List ℕ → List ℕ
output_line text = text ++ 10 ∷ []

-- the number of the next answer; numbers rise up to the last one, and stay there
abbrev pub next_number : ℕ → ℕ
next_number number = min (number + 1) LAST_ANSWER_NUMBER

-- the answers of a page, a line each, numbered from this number on
abbrev pub printed_answers : RuleSet → ℕ → List (List Step) → List ℕ
printed_answers rules number [] = []
printed_answers rules number (steps ∷ answers) =
    output_line (printed_answer rules number steps) ++ printed_answers rules (next_number number) answers

-- `more` where an answer is left, else `end`
abbrev pub printed_rest : Bool → List ℕ
printed_rest more = if more then output_line (codes "more") else output_line (codes "end")

-- a page of answers, numbered from this number on
abbrev pub printed_page : RuleSet → ℕ → List (List Step) → Bool → List ℕ
printed_page rules number answers more = printed_answers rules number answers ++ printed_rest more
