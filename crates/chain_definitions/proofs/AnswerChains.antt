-- Answers are chains that are joined to their words, and chains that make an answer are answers: clause by clause.
use Rattle.std.proofs.Common.{◌≡◌, ◌≢◌, ℕ, zero, suc, ◌+◌, ◌<◌, ◌≤◌, ◌⊎◌, inl, inr, ◌↔◌, IsTrue, true, List, [], ◌∷◌, ◌++◌, length, map, All, refl, sym, ◌∙◌, ap, subst, arith, append_assoc}
use Rattle.std.specs.List.{AllByRecursion}
use Rattle.std.proofs.lemmas.List.Elements.{All-nil, All-append, All-map, All-contains, All-from_recursion, recursion_from_All}
use Rattle.text_definitions.specs.declared.limits.TheConstants.{MOST_LINE_LETTERS}
use Rattle.text_definitions.specs.Letters.{IsLetter}
use Rattle.text_definitions.specs.Words.{IsWord}
use Rattle.text_definitions.specs.Lines.{Line, IsLine}
use Rattle.lexicon_definitions.specs.Lexicons.{Lexicon, RuleSet, Form, rule_of, forms_of, IsForm, IsRuleSet, IsLexicon}
use Rattle.segmentation_definitions.specs.Derivations.{Step, rule_after, IsRuleNumber, AreForms, AreJoined, EndsWell, Covers, Derives}
use Rattle.segmentation_definitions.specs.Items.{Placed, placed, Choice}
use Rattle.segmentation_definitions.specs.Answers.{IsAnswer}
use Rattle.segmentation_definitions.proofs.Coverings.{rule_at_number, forms_are_entries, in_place, AreInPlace, LastStep, EarlierStep, StandsIn, RuleAfter, Unchanged, Changed}
use Rattle.chain_definitions.specs.Chains.{AreFitting, IsChain}
use Rattle.chain_definitions.specs.JoinedChains.{Text, MakesAnswer, IsJoinedTo}

-- ---- an answer is a chain

pub fitting_from : (rules : RuleSet) (lead : List ℕ) (steps : List Step) (word rest : List ℕ) → Covers rules lead steps word rest → AreFitting rules steps
fitting_from rules lead [] word rest covers = tt
fitting_from rules lead (step ∷ []) word rest covers = ((lead ++ covers.0, covers.2), tt)
fitting_from rules lead (step ∷ next ∷ steps) word rest covers = (
  (
    (lead ++ covers.0, covers.2),
    (covers.4.0 ++ (rule_after rules next).u, covers.4.2 ∙ append_assoc (rule_after rules step).v covers.4.0 (rule_after rules next).u),
  ),
  fitting_from rules (rule_after rules step).v (next ∷ steps) covers.1 rest covers.4,
)

pub chain_from : (lexicon : Lexicon) (steps : List Step) (word : List ℕ) → Derives lexicon steps word → IsChain lexicon steps
chain_from lexicon steps word derives = record {
  forms = derives.forms;
  joined = derives.joined;
  ends = derives.ends;
  fitting = fitting_from lexicon.rules [] steps word [] derives.covers;
}

-- an answer is joined to the letters of its line, as an answer
pub joined_from : (lexicon : Lexicon) (line : Line) (choices : List Choice) (steps : List Step) → IsLine line
    → IsAnswer lexicon line choices steps → IsJoinedTo lexicon steps (Text line.letters true)
joined_from lexicon line choices steps is answer =
    (answer.derives, (λ yes. (is.within_limit, answer.accepted), λ makes. refl))

-- ---- a chain that makes an answer is one

w_is_word : (rules : RuleSet) (number : ℕ) → IsRuleSet rules → (number ≡ 0) ⊎ IsRuleNumber rules number → IsWord (rule_of rules number).w
w_is_word rules zero set h = All-nil IsLetter
w_is_word rules (suc number) set h = elim h [
  | inl none ↦ absurd (omega (arith, none))
  | inr within ↦ (rule_at_number rules (suc number) set within).w_is_word
]

pub form_is_word : (lexicon : Lexicon) (phase : ℕ) (form : List ℕ) → IsLexicon lexicon → IsForm lexicon phase form → IsWord form
form_is_word lexicon phase form is of_phase =
    All-contains IsWord (map (λ (f : Form). f.letters) (forms_of lexicon phase)) form
    (All-map IsWord (λ (f : Form). f.letters) (forms_of lexicon phase)
    (λ k d lt. (forms_are_entries lexicon phase is k d lt).word)) of_phase

front_by : (left right : List ℕ) → AllByRecursion IsLetter (left ++ right) → AllByRecursion IsLetter left
front_by [] right h = tt
front_by (x ∷ left) right h = (h.0, front_by left right h.1)

end_by : (left right : List ℕ) → AllByRecursion IsLetter (left ++ right) → AllByRecursion IsLetter right
end_by [] right h = h
end_by (x ∷ left) right h = end_by left right h.1

-- what stands between two parts of a word is one
taken_is_word : (form v taken u : List ℕ) → form ≡ v ++ taken ++ u → IsWord form → IsWord taken
taken_is_word form v taken u e word =
    All-from_recursion IsLetter taken
    (end_by v taken (front_by (v ++ taken) u (subst (AllByRecursion IsLetter) e (recursion_from_All IsLetter form word))))

pub number_if_first : (rules : RuleSet) (step : Step) (steps : List Step) → AreJoined rules (step ∷ steps) → EndsWell rules (step ∷ steps)
    → (step.rule ≡ 0) ⊎ IsRuleNumber rules step.rule
number_if_first rules step [] joined ends = elim ends [ inl none ↦ inl none | inr final ↦ inr final.0 ]
number_if_first rules step (next ∷ steps) joined ends = elim joined.0 [ inl plain ↦ inl plain.0 | inr inner ↦ inr inner.0.0 ]

-- what forms and rules cover is a word
word_if_covered : (lexicon : Lexicon) (lead : List ℕ) (steps : List Step) (word : List ℕ) → IsLexicon lexicon → AreForms lexicon steps
    → AreJoined lexicon.rules steps → EndsWell lexicon.rules steps → Covers lexicon.rules lead steps word [] → IsWord word
word_if_covered lexicon lead [] word is forms joined ends covers = absurd ends
word_if_covered lexicon lead (step ∷ []) word is forms joined ends covers =
    let taken = taken_is_word step.form lead covers.0 (rule_after lexicon.rules step).u covers.2 (form_is_word lexicon step.phase step.form is forms.0) in
    let w = w_is_word lexicon.rules step.rule is.rules (number_if_first lexicon.rules step [] joined ends) in
    let rest : IsWord covers.1 = subst IsWord (sym covers.4) (All-nil IsLetter) in
    subst IsWord (sym covers.3) (All-append IsLetter (covers.0 ++ (rule_after lexicon.rules step).w) covers.1
    (All-append IsLetter covers.0 (rule_after lexicon.rules step).w taken w) rest)
word_if_covered lexicon lead (step ∷ next ∷ steps) word is forms joined ends covers =
    let taken = taken_is_word step.form lead covers.0 (rule_after lexicon.rules step).u covers.2 (form_is_word lexicon step.phase step.form is forms.0) in
    let w = w_is_word lexicon.rules step.rule is.rules (number_if_first lexicon.rules step (next ∷ steps) joined ends) in
    let rest = word_if_covered lexicon (rule_after lexicon.rules step).v (next ∷ steps) covers.1 is forms.1 joined.1 ends covers.4 in
    subst IsWord (sym covers.3) (All-append IsLetter (covers.0 ++ (rule_after lexicon.rules step).w) covers.1
    (All-append IsLetter covers.0 (rule_after lexicon.rules step).w taken w) rest)

some_letters_by : (lexicon : Lexicon) (letters : ℕ) (p : Placed) → StandsIn lexicon letters p → RuleAfter lexicon.rules p.step → 0 < letters
some_letters_by lexicon letters p stands (Unchanged none empty) = omega (arith, stands.not_empty, stands.within, stands.begun, empty.u_empty)
some_letters_by lexicon letters p stands (Changed number u w) = omega (arith, stands.within, w)

some_letters_if : (lexicon : Lexicon) (letters : ℕ) (ps : List Placed) → AreInPlace lexicon letters ps → 0 < letters
some_letters_if lexicon letters ps (LastStep {p = p} stands last) = some_letters_by lexicon letters p stands stands.following
some_letters_if lexicon letters ps (EarlierStep {p = p} stands before rest) = some_letters_by lexicon letters p stands stands.following

-- the line of a word without blanks
abbrev pub line_without_blanks : List ℕ → Line
line_without_blanks word = record { letters = word; blanks = [] }

pub line_if_joined : (lexicon : Lexicon) (steps : List Step) (word : List ℕ) → IsLexicon lexicon → Derives lexicon steps word
    → MakesAnswer lexicon steps word → IsLine (line_without_blanks word)
line_if_joined lexicon steps word is derives makes = record {
  word = word_if_covered lexicon [] steps word is derives.forms derives.joined derives.ends derives.covers;
  not_empty = some_letters_if lexicon (length word) (placed lexicon.rules steps) (in_place lexicon word steps is derives);
  within_limit = makes.0;
  rising = λ i h. absurd (omega (arith, h));
  inside = All-nil (λ b. (0 < b) × (b < length word));
}

pub answer_if_joined : (lexicon : Lexicon) (steps : List Step) (word : List ℕ) → Derives lexicon steps word → MakesAnswer lexicon steps word
    → IsAnswer lexicon (line_without_blanks word) [] steps
answer_if_joined lexicon steps word derives makes = record {
  derives = derives;
  accepted = makes.1;
  blanks_kept = All-nil _;
  choices_kept = All-nil _;
}
