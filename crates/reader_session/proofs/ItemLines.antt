-- The parts of an item's line are appended after one another, each to what was printed before it; and the first item of those that
-- are left is printed after those before it.
use Rattle.std.proofs.Common.{◌≡◌, ℕ, ◌+◌, ◌<◌, List, [], ◌∷◌, ◌++◌, length, drop, get_or, codes, sym, ◌∙◌, ap, append_assoc}
use Rattle.std.specs.Fmt.{decimal}
use Rattle.std.proofs.lemmas.List.{drop_more}
use Rattle.text_definitions.specs.Slp1.{slp1_of_word}
use Rattle.lexicon_definitions.specs.Lexicons.{RuleSet}
use Rattle.segmentation_definitions.specs.Items.{Item}
use Rattle.segmentation_definitions.specs.PrintedAnswers.{name_of, printed_form, output_line}
use Rattle.session_definitions.specs.PrintedSummaries.{printed_item, printed_items}

-- one part more
pub part_appended : (old so_far part before after : List ℕ) → before ≡ old ++ so_far → after ≡ before ++ part → after ≡ old ++ (so_far ++ part)
part_appended old so_far part before after before_is after_is =
    after_is ∙ ap (λ w. w ++ part) before_is ∙ append_assoc old so_far part

-- the parts from the name of a form's phase on, and from the number of an item on, as definitions have them
form_line : (form phase : List ℕ) → form ++ codes "[" ++ phase ++ codes "]\n" ≡ output_line (form ++ codes "[" ++ phase ++ codes "]")
form_line form phase = sym (append_assoc (form ++ codes "[" ++ phase) (codes "]") (10 ∷ []))

item_line : (number at lead form : List ℕ) → number ++ codes ": " ++ at ++ codes " " ++ lead ++ codes " " ++ output_line form
    ≡ output_line (number ++ codes ": " ++ (at ++ codes " " ++ lead ++ codes " " ++ form))
item_line number at lead form = simp append_assoc

-- a form and its phase are printed
pub form_printed : (rules : RuleSet) (item inside : Item) (old new name phase : List ℕ) → inside ≡ item
    → name ≡ phase → phase ≡ name_of rules inside.phase
    → new ≡ old ++ (slp1_of_word inside.form ++ codes "[" ++ name ++ codes "]\n")
    → new ≡ old ++ output_line (printed_form rules (record { phase = item.phase; form = item.form; rule = 0 }))
form_printed rules item inside old new name phase same name_is phase_is printed =
    printed ∙ ap (λ w. old ++ w) (form_line (slp1_of_word inside.form) name
    ∙ ap (λ (name : List ℕ). output_line (slp1_of_word inside.form ++ codes "[" ++ name ++ codes "]")) (name_is ∙ phase_is)
    ∙ ap (λ (i : Item). output_line (printed_form rules (record { phase = i.phase; form = i.form; rule = 0 }))) same)

-- the line of an item is printed from its fields
pub item_printed : (rules : RuleSet) (item inside : Item) (number at lead : ℕ) (old new : List ℕ) → inside ≡ item → at ≡ inside.at → lead ≡ inside.lead
    → new ≡ old ++ (decimal number ++ codes ": " ++ decimal at ++ codes " " ++ decimal lead ++ codes " "
    ++ output_line (printed_form rules (record { phase = item.phase; form = item.form; rule = 0 })))
    → new ≡ old ++ output_line (decimal number ++ codes ": " ++ printed_item rules item)
item_printed rules item inside number at lead old new same at_is lead_is printed =
    let form = printed_form rules (record { phase = item.phase; form = item.form; rule = 0 }) in
    printed ∙ ap (λ w. old ++ w) (item_line (decimal number) (decimal at) (decimal lead) form
    ∙ (λ k. output_line (decimal number ++ codes ": " ++ (decimal ((at_is ∙ ap (λ (i : Item). i.at) same) k) ++ codes " " ++ decimal ((lead_is ∙ ap (λ (i : Item). i.lead) same) k) ++ codes " " ++ form))))

-- one item more is printed
pub item_appended : (rules : RuleSet) (items : List Item) (i number : ℕ) (item : Item) (old new all : List ℕ) → i < length items
    → item ≡ get_or items i item → new ≡ old ++ output_line (decimal number ++ codes ": " ++ printed_item rules item)
    → old ++ printed_items rules number (drop i items) ≡ all → new ++ printed_items rules (number + 1) (drop (i + 1) items) ≡ all
item_appended rules items i number item old new all low is new_is so_far =
    let cut : drop i items ≡ item ∷ drop (i + 1) items = drop_more items i item low ∙ ap (λ (x : Item). x ∷ drop (i + 1) items) (sym is) in
    let rest = printed_items rules (number + 1) (drop (i + 1) items) in
    ap (λ w. w ++ rest) new_is ∙ append_assoc old (output_line (decimal number ++ codes ": " ++ printed_item rules item)) rest
    ∙ ap (λ (xs : List Item). old ++ printed_items rules number xs) (sym cut) ∙ so_far
