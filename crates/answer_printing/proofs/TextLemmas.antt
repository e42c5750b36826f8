-- Spelling goes letter by letter, so it goes over parts of a word and over words that are put together; and pieces of an answer are
-- appended after one another, by the rules whose texts are kept, which are those of the printer.
use Rattle.std.proofs.Common.{◌≡◌, ℕ, ◌<◌, ◌≤◌, ◌-◌, if◌then◌else◌, List, [], ◌∷◌, ◌++◌, length, map, get_or, take, drop, refl, sym, ap, ◌∙◌, append_assoc, length-append, codes, arith}
use Rattle.std.proofs.Math.Seq.{take-append_seam}
use Rattle.std.proofs.lemmas.Bool.{ne_eqb}
use Rattle.std.proofs.lemmas.List.{append-nil, get_or-map, length-map, map-append, take-map, drop-map}
use Rattle.text_definitions.specs.Spellings.{byte_of_letter}
use Rattle.text_definitions.specs.Slp1.{slp1_of_word, slp1_table}
use Rattle.lexicon_definitions.specs.Rules.{printed_rule}
use Rattle.lexicon_definitions.specs.Lexicons.{RuleSet, rule_of}
use Rattle.derivation.specs.declared.step.Step.{Step as ProgramStep}
use Rattle.derivation.specs.Steps.{step_after, letters_taken}
use Rattle.std.specs.Fmt.{decimal}
use Rattle.segmentation_definitions.specs.Derivations.{Step}
use Rattle.segmentation_definitions.specs.PrintedAnswers.{name_of, printed_answer, printed_form, printed_steps, printed_joint, printed_end, output_line}
use Rattle.answer_printing.specs.Texts.{joined_phase_text, phase_text}
use Rattle.answer_printing.specs.Fronts.{printed_form_and_joint}

-- no rule has an empty u and v, and an empty word has an empty text
pub no_u : (rules : RuleSet) (number : ℕ) → number ≡ 0 → [] ≡ slp1_of_word (rule_of rules number).u
unfolding slp1_of_word
no_u rules number zero = rw zero refl

pub no_v : (rules : RuleSet) (number : ℕ) → number ≡ 0 → [] ≡ slp1_of_word (rule_of rules number).v
unfolding slp1_of_word
no_v rules number zero = rw zero refl

-- the text of a phase is found by its number
pub phase_there : {X : Type 0} (bytes : X → List ℕ) (texts : List X) (names : List (List ℕ)) (phase : ℕ) (text : X)
    → map bytes texts ≡ map joined_phase_text names → phase < length names → text ≡ get_or texts phase text
    → bytes text ≡ joined_phase_text (get_or names phase [])
phase_there bytes texts names phase text are low text_is =
    let count = length-map texts bytes in
    let same = ap length are in
    let many = length-map names joined_phase_text in
    ap bytes text_is ∙ sym (get_or-map bytes texts phase text [] (omega (arith, count, same, many, low)))
    ∙ ap (λ ts. get_or ts phase []) are ∙ get_or-map joined_phase_text names phase [] [] low

-- what stands between two forms is what stands after the last, and a blank
pub joint_is_end : (rules : RuleSet) (number : ℕ) (joint : List ℕ) → joint ≡ printed_joint rules number → (number ≡ 0 → ⊥)
    → joint ≡ printed_end rules number ++ codes " "
joint_is_end rules number joint joint_is some =
    let notation = printed_rule (rule_of rules number) in
    let ending = codes " (" ++ notation ++ codes ")" in
    let no = ne_eqb number 0 some in
    joint_is ∙ ap (λ none. if none then codes " + " else codes " (" ++ notation ++ codes ") ") no
    ∙ sym (append_assoc (codes " (" ++ notation) (codes ")") (codes " ")) ∙ sym (ap (λ none. (if none then [] else ending) ++ codes " ") no)

-- a text is cut before its end
pub has_end : (text front ending : List ℕ) → text ≡ front ++ ending → length ending ≤ length text
has_end text front ending text_is =
    let long = ap length text_is in
    let more = length-append front ending in
    omega (arith, long, more)

pub without_end : (text front ending : List ℕ) → text ≡ front ++ ending → take (length text - length ending) text ≡ front
without_end text front ending text_is =
    let long = ap length text_is in
    let more = length-append front ending in
    let count : length text - length ending ≡ length front = omega (arith, long, more) in
    ap (λ n. take n text) count ∙ ap (take (length front)) text_is ∙ take-append_seam front ending

-- a part of the text is the text of a part
pub spelled_part : (letters : List ℕ) (at taken : ℕ) → take taken (drop at (slp1_of_word letters)) ≡ slp1_of_word (take taken (drop at letters))
unfolding slp1_of_word
spelled_part letters at taken =
    ap (take taken) (drop-map (byte_of_letter slp1_table) at letters) ∙ take-map (byte_of_letter slp1_table) taken (drop at letters)

-- the text of two parts
pub spelled_parts : (a b : List ℕ) → slp1_of_word (a ++ b) ≡ slp1_of_word a ++ slp1_of_word b
unfolding slp1_of_word
spelled_parts a b = map-append (byte_of_letter slp1_table) a b

-- three pieces after one another are appended together
pub three_appended : (old a b c : List ℕ) → old ++ a ++ b ++ c ≡ old ++ (a ++ b ++ c)
three_appended old a b c = append_assoc (old ++ a) b c ∙ append_assoc old a (b ++ c) ∙ ap (λ w. old ++ w) (sym (append_assoc a b c))

-- four of them
pub four_appended : (old a b c d : List ℕ) → old ++ a ++ b ++ c ++ d ≡ old ++ (a ++ b ++ c ++ d)
four_appended old a b c d = ap (λ w. w ++ d) (three_appended old a b c) ∙ append_assoc old (a ++ b ++ c) d

-- what is told by one rule set holds of the same one
by_same : (told : RuleSet → List ℕ) (rules texts : RuleSet) (old first second text : List ℕ) → rules ≡ texts → text ≡ told texts
    → first ≡ old → second ≡ first ++ text → second ≡ old ++ told rules
by_same told rules texts old first second text same text_is first_is second_is =
    second_is ∙ ap (λ w. w ++ text) first_is ∙ ap (λ w. old ++ w) (text_is ∙ ap told (sym same))

-- what joins a form to the next is appended after it
pub joint_appended : (rules texts : RuleSet) (number : ℕ) (old form first second joint : List ℕ) → rules ≡ texts → joint ≡ printed_joint texts number
    → first ≡ old ++ form → second ≡ first ++ joint → second ≡ old ++ (form ++ printed_joint rules number)
joint_appended rules texts number old form first second joint same joint_is first_is second_is =
    by_same (λ r. printed_joint r number) rules texts (old ++ form) first second joint same joint_is first_is second_is
    ∙ append_assoc old form (printed_joint rules number)

-- the text of a phase comes after that of the form
phase_is_last : (rules : RuleSet) (step : Step) → printed_form rules step ≡ slp1_of_word step.form ++ phase_text (name_of rules step.phase)
phase_is_last rules step = three_appended (slp1_of_word step.form) (codes "[") (name_of rules step.phase) (codes "]")

-- a step after the rule before it is printed part by part
module _ (rules texts : RuleSet) (letters : List ℕ) (before : ℕ) (step : ProgramStep) (same : rules ≡ texts) where
  -- first what the rule before supplies, and the letters that the step takes
  pub letters_appended : (old first second v taken : List ℕ) → v ≡ slp1_of_word (rule_of texts before).v
      → taken ≡ slp1_of_word (letters_taken letters step) → first ≡ old ++ v → second ≡ first ++ taken
      → second ≡ old ++ slp1_of_word ((rule_of rules before).v ++ letters_taken letters step)
  letters_appended old first second v taken v_is taken_is first_is second_is =
      let v_text = slp1_of_word (rule_of rules before).v in
      let taken_text = slp1_of_word (letters_taken letters step) in
      second_is ∙ ap (λ w. first ++ w) taken_is
      ∙ ap (λ w. w ++ taken_text) (by_same (λ r. slp1_of_word (rule_of r before).v) rules texts old old first v same v_is refl first_is)
      ∙ append_assoc old v_text taken_text ∙ ap (λ w. old ++ w) (sym (spelled_parts (rule_of rules before).v (letters_taken letters step)))

  module _ (old first : List ℕ) (first_is : first ≡ old ++ slp1_of_word ((rule_of rules before).v ++ letters_taken letters step)) where
    -- then the u of its rule and the phase
    pub form_appended : (second third u phase : List ℕ) → u ≡ slp1_of_word (rule_of texts step.rule).u
        → phase ≡ phase_text (name_of texts step.phase) → second ≡ first ++ u → third ≡ second ++ phase
        → third ≡ old ++ printed_form rules (step_after rules letters before step)
    form_appended second third u phase u_is phase_is second_is third_is =
        let begun = (rule_of rules before).v ++ letters_taken letters step in
        let ending = (rule_of rules step.rule).u in
        let name = phase_text (name_of rules step.phase) in
        let with_u : second ≡ old ++ slp1_of_word (step_after rules letters before step).form =
        by_same (λ r. slp1_of_word (rule_of r step.rule).u) rules texts (old ++ slp1_of_word begun) first second u same u_is first_is second_is
        ∙ append_assoc old (slp1_of_word begun) (slp1_of_word ending) ∙ ap (λ w. old ++ w) (sym (spelled_parts begun ending)) in
        by_same (λ r. phase_text (name_of r step.phase)) rules texts (old ++ slp1_of_word (step_after rules letters before step).form) second third phase same
        phase_is with_u third_is
        ∙ append_assoc old (slp1_of_word (step_after rules letters before step).form) name
        ∙ ap (λ w. old ++ w) (sym (phase_is_last rules (step_after rules letters before step)))

    -- or, where it has no rule, the phase with what joins the form to the next
    pub unchanged_appended : (second joined : List ℕ) → joined ≡ phase_text (name_of texts step.phase) ++ printed_joint texts 0 → step.rule ≡ 0
        → second ≡ first ++ joined → second ≡ old ++ printed_form_and_joint rules (step_after rules letters before step)
    unchanged_appended second joined joined_is none second_is =
        let begun = (rule_of rules before).v ++ letters_taken letters step in
        let name = phase_text (name_of rules step.phase) in
        let joint = printed_joint rules 0 in
        let form : slp1_of_word begun ≡ slp1_of_word (step_after rules letters before step).form =
        sym (append-nil (slp1_of_word begun)) ∙ ap (λ w. slp1_of_word begun ++ w) (no_u rules step.rule none)
        ∙ sym (spelled_parts begun (rule_of rules step.rule).u) in
        by_same (λ r. phase_text (name_of r step.phase) ++ printed_joint r 0) rules texts (old ++ slp1_of_word begun) first second joined same joined_is
        first_is second_is
        ∙ append_assoc old (slp1_of_word begun) (name ++ joint)
        ∙ ap (λ w. old ++ w) (sym (append_assoc (slp1_of_word begun) name joint)
        ∙ ap (λ w. w ++ name ++ joint) form
        ∙ ap (λ w. w ++ joint) (sym (phase_is_last rules (step_after rules letters before step)))
        ∙ ap (λ n. printed_form rules (step_after rules letters before step) ++ printed_joint rules n) (sym none))

-- an answer's line is appended in four parts
pub answer_appended : (rules : RuleSet) (number : ℕ) (steps : List Step) (old first second third fourth digits text : List ℕ)
    → digits ≡ decimal number → text ≡ digits → first ≡ old ++ text → second ≡ first ++ codes ": " → third ≡ second ++ printed_steps rules steps
    → fourth ≡ third ++ 10 ∷ [] → fourth ≡ old ++ output_line (printed_answer rules number steps)
unfolding printed_answer
answer_appended rules number steps old first second third fourth digits text digits_are text_is first_is second_is third_is fourth_is =
    fourth_is ∙ ap (λ w. w ++ 10 ∷ []) third_is ∙ ap (λ w. w ++ printed_steps rules steps ++ 10 ∷ []) second_is
    ∙ ap (λ w. w ++ codes ": " ++ printed_steps rules steps ++ 10 ∷ []) (first_is ∙ ap (λ w. old ++ w) (text_is ∙ digits_are))
    ∙ four_appended old (decimal number) (codes ": ") (printed_steps rules steps) (10 ∷ [])
