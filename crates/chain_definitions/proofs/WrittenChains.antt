-- The text of a chain is cut at its blanks into its forms and changes, and these are read back; and what is read is written so: word by
-- word.
use Rattle.std.proofs.Common.{◌≡◌, ◌≢◌, ℕ, zero, suc, ◌⊎◌, inl, inr, Bool, true, false, cond, Option, Some, None, List, [], ◌∷◌, ◌++◌, map, eqb, refl, sym, ◌∙◌, ap, subst, append_assoc, arith}
use Rattle.std.specs.Prelude.{codes, option_and_then}
use Rattle.std.specs.List.{slice_split}
use Rattle.std.specs.Str.{bytes_eq}
use Rattle.std.proofs.lemmas.Bool.{ne_eqb}
use Rattle.std.proofs.lemmas.List.{append-nil}
use Rattle.std.proofs.lemmas.List.Splits.{slice_split_at, slice_split_none}
use Rattle.list_laws.specs.EmptyLists.{is_empty}
use Rattle.list_laws.proofs.Elements.{first_differs}
use Rattle.list_laws.proofs.Marks.{is_free, free_append, bytes_apart_from}
use Rattle.list_laws.proofs.Texts.{bytes_same, bytes_apart, bytes_itself}
use Rattle.text_definitions.specs.Slp1.{slp1_of_word}
use Rattle.text_definitions.proofs.SpelledWords.{free_of_blank}
use Rattle.lexicon_definitions.specs.Rules.{Rule, printed_rule}
use Rattle.lexicon_definitions.specs.Lexicons.{RuleSet, rule_of}
use Rattle.segmentation_definitions.specs.Derivations.{Step}
use Rattle.segmentation_definitions.specs.PrintedAnswers.{name_of, printed_form, printed_joint, printed_end, printed_steps}
use Rattle.chain_definitions.specs.ChainTexts.{Triple, WrittenForm, WrittenStep, if_inner, if_final, form_of_text, triple_of_text, change_between, change_at_end, step_with, step_before, steps_of_words, steps_of_text}
use Rattle.chain_definitions.proofs.WrittenParts.{IsWritable, AreRuleWords, text_of_form, text_of_triple, notation_of, notation_free_of_blank, form_back, form_tells, triple_back, triple_tells, free_name}

-- ---- what steps write

-- the words of a rule
abbrev pub triple_of : Rule → Triple
triple_of rule = record { u = rule.u; v = rule.v; w = rule.w }

-- what is written of the rule with this number
abbrev pub change_of : RuleSet → ℕ → Option Triple
change_of rules zero = None
change_of rules (suc number) = Some (triple_of (rule_of rules (suc number)))

-- what is written of a step
abbrev pub written_of : RuleSet → Step → WrittenStep
written_of rules step =
    record { form = record { letters = step.form; name = name_of rules step.phase }; change = change_of rules step.rule }

abbrev pub text_between : Option Triple → List ℕ
text_between None = codes "+"
text_between (Some triple) = text_of_triple triple

abbrev pub words_at_end : Option Triple → List (List ℕ)
words_at_end None = []
words_at_end (Some triple) = text_of_triple triple ∷ []

-- the words between blanks
abbrev pub words_of : List WrittenStep → List (List ℕ)
words_of [] = []
words_of (step ∷ []) = text_of_form step.form ∷ words_at_end step.change
words_of (step ∷ next ∷ steps) = text_of_form step.form ∷ text_between step.change ∷ words_of (next ∷ steps)

abbrev pub IsInnerChange : Option Triple → Type 0
IsInnerChange None = Unit {0}
IsInnerChange (Some triple) = AreRuleWords triple × (triple.v ≢ [])

abbrev pub IsFinalChange : Option Triple → Type 0
IsFinalChange None = Unit {0}
IsFinalChange (Some triple) = AreRuleWords triple × (triple.v ≡ [])

-- each step may be written: between two there is no change or an inner rule, and after the last none or a final rule
abbrev pub AreWritable : List WrittenStep → Type 0
AreWritable [] = ⊥
AreWritable (step ∷ []) = IsWritable step.form × IsFinalChange step.change
AreWritable (step ∷ next ∷ steps) = IsWritable step.form × IsInnerChange step.change × AreWritable (next ∷ steps)

-- ---- changes

not_empty : (word : List ℕ) → word ≢ [] → is_empty word ≡ false
not_empty [] some = absurd (some refl)
not_empty (x ∷ word) some = refl

is_nothing : (word : List ℕ) → word ≡ [] → is_empty word ≡ true
is_nothing [] none = refl
is_nothing (x ∷ word) none = absurd (cc)

from_test : (word : List ℕ) → is_empty word ≡ true → word ≡ []
from_test [] e = refl
from_test (x ∷ word) e = absurd (cc)

from_other_test : (word : List ℕ) → is_empty word ≡ false → word ≢ []
from_other_test [] e none = absurd (cc)
from_other_test (x ∷ word) e none = absurd (cc)

between_back : (change : Option Triple) → IsInnerChange change → change_between (text_between change) ≡ Some change
unfolding change_between
between_back None is = ap (λ test. cond test (Some None) (option_and_then if_inner (triple_of_text (codes "+")))) (bytes_itself (codes "+"))
between_back (Some triple) is =
    ap (λ test. cond test (Some None) (option_and_then if_inner (triple_of_text (text_of_triple triple))))
    (bytes_apart (text_of_triple triple) (codes "+") (first_differs (text_of_triple triple) (codes "+") refl))
    ∙ ap (option_and_then if_inner) (triple_back triple is.0)
    ∙ ap (λ test. cond test None (Some (Some triple))) (not_empty triple.v is.1)

end_back : (triple : Triple) → AreRuleWords triple → triple.v ≡ [] → change_at_end (text_of_triple triple) ≡ Some (Some triple)
unfolding change_at_end
end_back triple is none =
    ap (option_and_then if_final) (triple_back triple is) ∙ ap (λ test. cond test (Some (Some triple)) None) (is_nothing triple.v none)

inner_test : (triple : Triple) (change : Option Triple) (test : Bool) → is_empty triple.v ≡ test → cond test None (Some (Some triple)) ≡ Some change
    → (triple.v ≢ []) × (Some triple ≡ change)
inner_test triple change true e h = absurd (cc)
inner_test triple change false e h = (from_other_test triple.v e, cc)

final_test : (triple : Triple) (change : Option Triple) (test : Bool) → is_empty triple.v ≡ test → cond test (Some (Some triple)) None ≡ Some change
    → (triple.v ≡ []) × (Some triple ≡ change)
final_test triple change true e h = (from_test triple.v e, cc)
final_test triple change false e h = absurd (cc)

inner_if_read : (text : List ℕ) (change : Option Triple) (read : Option Triple) → triple_of_text text ≡ read → option_and_then if_inner read ≡ Some change
    → IsInnerChange change × (text ≡ text_between change)
inner_if_read text change None e h = absurd (cc)
inner_if_read text change (Some triple) e h =
    let told = triple_tells text triple e in
    let tested = inner_test triple change (is_empty triple.v) refl h in
    subst (λ (c : Option Triple). IsInnerChange c × (text ≡ text_between c)) tested.1 ((told.0, tested.0), told.1)

by_plus : (text : List ℕ) (change : Option Triple) (test : Bool) → bytes_eq text (codes "+") ≡ test
    → cond test (Some None) (option_and_then if_inner (triple_of_text text)) ≡ Some change → IsInnerChange change × (text ≡ text_between change)
by_plus text change true e h =
    let none : None ≡ change = cc in
    subst (λ (c : Option Triple). IsInnerChange c × (text ≡ text_between c)) none (tt, bytes_same text (codes "+") e)
by_plus text change false e h = inner_if_read text change (triple_of_text text) refl h

between_tells : (text : List ℕ) (change : Option Triple) → change_between text ≡ Some change → IsInnerChange change × (text ≡ text_between change)
unfolding change_between
between_tells text change h = by_plus text change (bytes_eq text (codes "+")) refl h

final_if_read : (text : List ℕ) (change : Option Triple) (read : Option Triple) → triple_of_text text ≡ read → option_and_then if_final read ≡ Some change
    → IsFinalChange change × (text ∷ [] ≡ words_at_end change)
final_if_read text change None e h = absurd (cc)
final_if_read text change (Some triple) e h =
    let told = triple_tells text triple e in
    let tested = final_test triple change (is_empty triple.v) refl h in
    subst (λ (c : Option Triple). IsFinalChange c × (text ∷ [] ≡ words_at_end c)) tested.1 ((told.0, tested.0), ap (λ t. t ∷ []) told.1)

end_tells : (text : List ℕ) (change : Option Triple) → change_at_end text ≡ Some change → IsFinalChange change × (text ∷ [] ≡ words_at_end change)
unfolding change_at_end
end_tells text change h = final_if_read text change (triple_of_text text) refl h

-- ---- words

-- where there is a word more, a form and a change are read, and then the rest
pub after_change : (form change : List ℕ) (words : List (List ℕ)) (first : List ℕ) (others : List (List ℕ)) → words ≡ first ∷ others
    → steps_of_words (form ∷ change ∷ words) ≡ step_before (step_with (form_of_text form) (change_between change)) (steps_of_words words)
after_change form change words first others e =
    ap (λ ws. steps_of_words (form ∷ change ∷ ws)) e
    ∙ ap (λ ws. step_before (step_with (form_of_text form) (change_between change)) (steps_of_words ws)) (sym e)

some_word_of : (step : WrittenStep) (steps : List WrittenStep)
    → (first : List ℕ) × (others : List (List ℕ)) × (words_of (step ∷ steps) ≡ first ∷ others)
some_word_of step [] = (text_of_form step.form, words_at_end step.change, refl)
some_word_of step (next ∷ steps) = (text_of_form step.form, text_between step.change ∷ words_of (next ∷ steps), refl)

last_back : (form : WrittenForm) (change : Option Triple) → IsWritable form → IsFinalChange change
    → steps_of_words (text_of_form form ∷ words_at_end change) ≡ Some (record { form = form; change = change } ∷ [])
last_back form None is final_ = ap (λ f. step_before (step_with f (Some None)) (Some [])) (form_back form is)
last_back form (Some triple) is final_ =
    ap (λ f. step_before (step_with f (change_at_end (text_of_triple triple))) (Some [])) (form_back form is)
    ∙ ap (λ c. step_before (step_with (Some form) c) (Some [])) (end_back triple final_.0 final_.1)

pub words_back : (steps : List WrittenStep) → AreWritable steps → steps_of_words (words_of steps) ≡ Some steps
words_back [] are = absurd are
words_back (step ∷ []) are = last_back step.form step.change are.0 are.1
words_back (step ∷ next ∷ steps) are =
    let word = some_word_of next steps in
    after_change (text_of_form step.form) (text_between step.change) (words_of (next ∷ steps)) word.0 word.1 word.2
    ∙ ap (λ f. step_before (step_with f (change_between (text_between step.change))) (steps_of_words (words_of (next ∷ steps)))) (form_back step.form are.0)
    ∙ ap (λ c. step_before (step_with (Some step.form) c) (steps_of_words (words_of (next ∷ steps)))) (between_back step.change are.1)
    ∙ ap (step_before (Some step)) (words_back (next ∷ steps) are.2)

-- what is read of a form, of a change and of the rest
pub record ReadParts (form : Option WrittenForm) (change : Option (Option Triple)) (rest : Option (List WrittenStep)) (steps : List WrittenStep) : Type 0 where
  pub step : WrittenStep
  pub more : List WrittenStep
  pub form_is : form ≡ Some step.form
  pub change_is : change ≡ Some step.change
  pub rest_is : rest ≡ Some more
  pub steps_are : step ∷ more ≡ steps

read_parts : (form : Option WrittenForm) (change : Option (Option Triple)) (rest : Option (List WrittenStep)) (steps : List WrittenStep)
    → step_before (step_with form change) rest ≡ Some steps → ReadParts form change rest steps
read_parts None None None steps h = absurd (cc)
read_parts None None (Some more) steps h = absurd (cc)
read_parts None (Some change) None steps h = absurd (cc)
read_parts None (Some change) (Some more) steps h = absurd (cc)
read_parts (Some form) None None steps h = absurd (cc)
read_parts (Some form) None (Some more) steps h = absurd (cc)
read_parts (Some form) (Some change) None steps h = absurd (cc)
read_parts (Some form) (Some change) (Some more) steps h =
    record { step = record { form = form; change = change }; more = more; form_is = refl; change_is = refl; rest_is = refl; steps_are = cc }

one_more : (form change : List ℕ) (words : List (List ℕ)) (step : WrittenStep) (more : List WrittenStep) → IsWritable step.form
    → form ≡ text_of_form step.form → IsInnerChange step.change → change ≡ text_between step.change → AreWritable more → words ≡ words_of more
    → AreWritable (step ∷ more) × (form ∷ change ∷ words ≡ words_of (step ∷ more))
one_more form change words step [] is e inner f are g = absurd are
one_more form change words step (next ∷ more) is e inner f are g = (
  (is, inner, are),
  ap (λ t. t ∷ change ∷ words) e ∙ ap (λ t. text_of_form step.form ∷ t ∷ words) f
      ∙ ap (λ ws. text_of_form step.form ∷ text_between step.change ∷ ws) g,
)

is_nil : (more : List WrittenStep) → Some [] ≡ Some more → [] ≡ more
is_nil [] e = refl
is_nil (step ∷ more) e = absurd (cc)

pub words_tell : (words : List (List ℕ)) (steps : List WrittenStep) → steps_of_words words ≡ Some steps → AreWritable steps × (words ≡ words_of steps)
words_tell [] steps h = absurd (cc)
words_tell (form ∷ []) steps h =
    let parts = read_parts (form_of_text form) (Some None) (Some []) steps h in
    let told = form_tells form parts.step.form parts.form_is in
    let plain : None ≡ parts.step.change = cc (parts.change_is) in
    subst (λ (s : List WrittenStep). AreWritable s × (form ∷ [] ≡ words_of s)) (ap (◌∷◌ parts.step) (is_nil parts.more parts.rest_is) ∙ parts.steps_are) (
      (told.0, subst IsFinalChange plain tt),
      ap (λ t. t ∷ []) told.1 ∙ ap (λ c. text_of_form parts.step.form ∷ words_at_end c) plain,
    )
words_tell (form ∷ change ∷ []) steps h =
    let parts = read_parts (form_of_text form) (change_at_end change) (Some []) steps h in
    let told = form_tells form parts.step.form parts.form_is in
    let ended = end_tells change parts.step.change parts.change_is in
    subst (λ (s : List WrittenStep). AreWritable s × (form ∷ change ∷ [] ≡ words_of s)) (ap (◌∷◌ parts.step) (is_nil parts.more parts.rest_is) ∙ parts.steps_are)
    ((told.0, ended.0), ap (λ t. t ∷ change ∷ []) told.1 ∙ ap (◌∷◌ (text_of_form parts.step.form)) ended.1)
words_tell (form ∷ change ∷ next ∷ words) steps h =
    let parts = read_parts (form_of_text form) (change_between change) (steps_of_words (next ∷ words)) steps h in
    let told = form_tells form parts.step.form parts.form_is in
    let met = between_tells change parts.step.change parts.change_is in
    let rest = words_tell (next ∷ words) parts.more parts.rest_is in
    subst (λ (s : List WrittenStep). AreWritable s × (form ∷ change ∷ next ∷ words ≡ words_of s)) parts.steps_are
    (one_more form change (next ∷ words) parts.step parts.more told.0 told.1 met.0 met.1 rest.0 rest.1)

-- ---- the whole text

abbrev pub words_in : List ℕ → List (List ℕ)
words_in text = slice_split (λ byte. eqb byte 32) text

one_word : (text : List ℕ) → is_free 32 text ≡ true → words_in text ≡ text ∷ []
one_word text h = slice_split_none (λ byte. eqb byte 32) text (bytes_apart_from 32 text h)

first_word : (text rest : List ℕ) → is_free 32 text ≡ true → words_in (text ++ 32 ∷ rest) ≡ text ∷ words_in rest
first_word text rest h = slice_split_at (λ byte. eqb byte 32) text 32 rest (bytes_apart_from 32 text h) refl

form_free : (form : WrittenForm) → IsWritable form → is_free 32 (text_of_form form) ≡ true
form_free form is =
    let letters = slp1_of_word form.letters in
    free_append 32 (letters ++ 91 ∷ [] ++ form.name) (93 ∷ [])
    (free_append 32 (letters ++ 91 ∷ []) form.name (free_append 32 letters (91 ∷ []) (free_of_blank form.letters is.word) refl)
    (free_name 32 form.name refl is.name)) refl

triple_free : (triple : Triple) → AreRuleWords triple → is_free 32 (text_of_triple triple) ≡ true
triple_free triple is = free_append 32 (40 ∷ notation_of triple) (41 ∷ []) (notation_free_of_blank triple is) refl

-- a number that is not 0 is told from it
is_some_number : (number : ℕ) → eqb (suc number) 0 ≡ false
is_some_number number = ne_eqb (suc number) 0 (λ e. omega (arith, e))

end_of_rule : (rules : RuleSet) (number : ℕ) → printed_end rules (suc number) ≡ codes " (" ++ printed_rule (rule_of rules (suc number)) ++ codes ")"
end_of_rule rules number =
    ap (λ test. cond test [] (codes " (" ++ printed_rule (rule_of rules (suc number)) ++ codes ")")) (is_some_number number)

joint_of_rule : (rules : RuleSet) (number : ℕ)
    → printed_joint rules (suc number) ≡ codes " (" ++ printed_rule (rule_of rules (suc number)) ++ codes ") "
joint_of_rule rules number =
    ap (λ test. cond test (codes " + ") (codes " (" ++ printed_rule (rule_of rules (suc number)) ++ codes ") ")) (is_some_number number)

split_end : (rules : RuleSet) (form : List ℕ) (number : ℕ) → is_free 32 form ≡ true → IsFinalChange (change_of rules number)
    → words_in (form ++ printed_end rules number) ≡ form ∷ words_at_end (change_of rules number)
split_end rules form zero h is = ap words_in (append-nil form) ∙ one_word form h
split_end rules form (suc number) h is =
    ap (λ e. words_in (form ++ e)) (end_of_rule rules number)
    ∙ first_word form (text_of_triple (triple_of (rule_of rules (suc number)))) h
    ∙ ap (◌∷◌ form) (one_word (text_of_triple (triple_of (rule_of rules (suc number)))) (triple_free (triple_of (rule_of rules (suc number))) is.0))

-- a rule between two blanks
regrouped : (form notation rest : List ℕ) → form ++ (codes " (" ++ notation ++ codes ") ") ++ rest ≡ form ++ 32 ∷ ((codes "(" ++ notation ++ codes ")") ++ 32 ∷ rest)
regrouped form notation rest =
    append_assoc form (codes " (" ++ notation ++ codes ") ") rest
    ∙ ap (λ t. form ++ 32 ∷ 40 ∷ (t ++ rest)) (sym (append_assoc notation (41 ∷ []) (32 ∷ [])))
    ∙ ap (λ t. form ++ 32 ∷ t) (append_assoc (40 ∷ (notation ++ 41 ∷ [])) (32 ∷ []) rest)

split_joint : (rules : RuleSet) (form rest : List ℕ) (number : ℕ) → is_free 32 form ≡ true → IsInnerChange (change_of rules number)
    → words_in (form ++ printed_joint rules number ++ rest) ≡ form ∷ text_between (change_of rules number) ∷ words_in rest
split_joint rules form rest zero h is =
    ap words_in (append_assoc form (codes " + ") rest) ∙ first_word form (43 ∷ 32 ∷ rest) h ∙ ap (◌∷◌ form) (first_word (43 ∷ []) rest refl)
split_joint rules form rest (suc number) h is =
    let triple = triple_of (rule_of rules (suc number)) in
    ap (λ j. words_in (form ++ j ++ rest)) (joint_of_rule rules number)
    ∙ ap words_in (regrouped form (printed_rule (rule_of rules (suc number))) rest)
    ∙ first_word form (text_of_triple triple ++ 32 ∷ rest) h
    ∙ ap (◌∷◌ form) (first_word (text_of_triple triple) rest (triple_free triple is.0))

pub split_steps : (rules : RuleSet) (steps : List Step) → AreWritable (map (written_of rules) steps)
    → words_in (printed_steps rules steps) ≡ words_of (map (written_of rules) steps)
split_steps rules [] are = absurd are
split_steps rules (step ∷ []) are =
    split_end rules (printed_form rules step) step.rule (form_free (written_of rules step).form are.0) are.1
split_steps rules (step ∷ next ∷ steps) are =
    split_joint rules (printed_form rules step) (printed_steps rules (next ∷ steps)) step.rule (form_free (written_of rules step).form are.0) are.1
    ∙ ap (λ ws. text_of_form (written_of rules step).form ∷ text_between (change_of rules step.rule) ∷ ws) (split_steps rules (next ∷ steps) are.2)
