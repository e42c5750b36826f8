-- Whether steps are an answer is decided, step by step: what a step takes of the word is told by the length of its form.
use Rattle.std.proofs.Common.{◌≡◌, inl, inr, ℕ, ◌+◌, Bool, true, false, List, [], ◌∷◌, ◌++◌, length, map, take, drop, refl, sym, ◌∙◌, ap, subst, arith, append_assoc, bit_and, ◌^◌, MatchBool}
use Rattle.std.specs.List.{Contains}
use Rattle.std.proofs.lemmas.Bool.{cases_eq}
use Rattle.std.proofs.lemmas.List.{take_at, drop_at, same_from_push, length-append}
use Rattle.text_definitions.specs.Lines.{Line}
use Rattle.lexicon_definitions.specs.Rules.{Rule, IsInner, HasPhase}
use Rattle.lexicon_definitions.specs.Lexicons.{Lexicon, RuleSet, Form, forms_of, IsForm, IsPlain, tree_of}
use Rattle.lexicon_definitions.proofs.GrammarLists.{last_of}
use Rattle.segmentation_definitions.specs.Derivations.{Step, rule_after, IsRuleNumber, IsPlainSeam, HasInnerRule, HasFinalRule, Meets, AreForms, AreJoined, EndsWell, Covers, Derives, phases_of}
use Rattle.segmentation_definitions.specs.Items.{Placed, placed, taken_by, Item, items_of, Choice}
use Rattle.segmentation_definitions.specs.Answers.{IsAtSeam, IsAtSomeSeam, KeepsBlanks, KeepsChoice, KeepsChoices, IsAnswer}
use Rattle.segmentation_definitions.proofs.Coverings.{taken_length}
use Rattle.existence_laws.proofs.Decisions.{Decided, told_by, refuted, both, all_three, either, is_below, is_at_most, is_same_list, is_same_word, is_element, holds_of_all, holds_of_each}
use Rattle.existence_laws.proofs.GrammarDecisions.{is_word}

-- ---- rules

pub has_phase : (phases k : ℕ) → Decided (HasPhase phases k)
has_phase phases k = refuted (cases_eq (bit_and phases (2 ^ k)) 0)

pub is_inner : (rule : Rule) → Decided (IsInner rule)
is_inner rule = refuted (is_same_word rule.v [])

pub is_rule_number : (rules : RuleSet) (number : ℕ) → Decided (IsRuleNumber rules number)
is_rule_number rules number = both (is_below 0 number) (is_at_most number (length rules.rules))

has_inner_rule : (rules : RuleSet) (step : Step) → Decided (HasInnerRule rules step)
has_inner_rule rules step =
    all_three (is_rule_number rules step.rule) (is_inner (rule_after rules step)) (has_phase (rule_after rules step).before step.phase)

has_final_rule : (rules : RuleSet) (step : Step) → Decided (HasFinalRule rules step)
has_final_rule rules step =
    all_three (is_rule_number rules step.rule) (is_same_word (rule_after rules step).v []) (has_phase (rule_after rules step).before step.phase)

-- ---- seams

is_same_pair : (left right : ℕ × ℕ) → Decided (left ≡ right)
is_same_pair left right =
    told_by (λ h i. (h.0 i, h.1 i)) (λ e. (ap (λ (p : ℕ × ℕ). p.0) e, ap (λ (p : ℕ × ℕ). p.1) e))
    (both (cases_eq left.0 right.0) (cases_eq left.1 right.1))

is_plain : (rules : RuleSet) (left right : ℕ) → Decided (IsPlain rules left right)
is_plain rules left right = is_element is_same_pair rules.plain (left, right)

-- a form that ends in this letter, and one that begins with that
seam_is_plain : (rules : RuleSet) (front : List ℕ) (last first : ℕ) (rest : List ℕ) → IsPlain rules last first
    → IsPlainSeam rules (front ++ last ∷ []) (first ∷ rest)
seam_is_plain rules front last first rest h = (front, last, first, rest, refl, refl, h)

plain_from_seam : (rules : RuleSet) (front : List ℕ) (last first : ℕ) (rest : List ℕ)
    → IsPlainSeam rules (front ++ last ∷ []) (first ∷ rest) → IsPlain rules last first
plain_from_seam rules front last first rest h =
    let ends : last ≡ h.1 = (same_from_push front h.0 last h.1 h.4).1 in
    let begins : first ≡ h.2 = let e = h.5 in cc in
    subst (λ (l : ℕ). IsPlain rules l first) (sym ends) (subst (λ (f : ℕ). IsPlain rules h.1 f) (sym begins) h.6)

pub is_plain_seam : (rules : RuleSet) (left right : List ℕ) → Decided (IsPlainSeam rules left right)
is_plain_seam rules [] right = inr (λ h. nothing_ends h.0 h.1 h.4)
  where
    nothing_ends : (front : List ℕ) (last : ℕ) → [] ≡ front ++ last ∷ [] → ⊥
    nothing_ends [] last e = cc
    nothing_ends (x ∷ front) last e = cc
is_plain_seam rules (letter ∷ left) [] = inr (λ h. let e = h.5 in cc)
is_plain_seam rules (letter ∷ left) (first ∷ rest) =
    let cut = last_of letter left in
    subst (λ (form : List ℕ). Decided (IsPlainSeam rules form (first ∷ rest))) (sym cut.2)
    (told_by (seam_is_plain rules cut.0 cut.1 first rest) (plain_from_seam rules cut.0 cut.1 first rest) (is_plain rules cut.1 first))

meets : (rules : RuleSet) (step next : Step) → Decided (Meets rules step next)
meets rules step next =
    either (both (cases_eq step.rule 0) (is_plain_seam rules step.form next.form))
    (both (has_inner_rule rules step) (has_phase (rule_after rules step).after next.phase))

-- ---- derivations

pub is_form : (lexicon : Lexicon) (phase : ℕ) (form : List ℕ) → Decided (IsForm lexicon phase form)
is_form lexicon phase form = is_element is_same_word (map (λ (f : Form). f.letters) (forms_of lexicon phase)) form

are_forms : (lexicon : Lexicon) (steps : List Step) → Decided (AreForms lexicon steps)
are_forms lexicon steps =
    holds_of_each (λ (step : Step). IsForm lexicon step.phase step.form) (λ step. is_form lexicon step.phase step.form) steps

are_joined : (rules : RuleSet) (steps : List Step) → Decided (AreJoined rules steps)
are_joined rules [] = inl tt
are_joined rules (step ∷ []) = inl tt
are_joined rules (step ∷ next ∷ steps) = both (meets rules step next) (are_joined rules (next ∷ steps))

ends_well : (rules : RuleSet) (steps : List Step) → Decided (EndsWell rules steps)
ends_well rules [] = inr (λ h. absurd h)
ends_well rules (step ∷ []) = either (cases_eq step.rule 0) (has_final_rule rules step)
ends_well rules (step ∷ next ∷ steps) = ends_well rules (next ∷ steps)

-- what a step takes is a front of the word, and what is after it is the rest
record Cut (taken w following word : List ℕ) (count : ℕ) : Type 0 where
  taken_is : taken ≡ take count word
  following_is : following ≡ drop (count + length w) word

cut_by_length : (taken w following word : List ℕ) (count : ℕ) → count ≡ length taken → word ≡ taken ++ w ++ following
    → Cut taken w following word count
cut_by_length taken w following word count is e =
    let f : word ≡ taken ++ (w ++ following) = e ∙ append_assoc taken w following in
    let long = length-append taken w in
    record {
      taken_is = sym (ap (take count) f ∙ take_at taken (w ++ following) count (sym is));
      following_is = sym (ap (drop (count + length w)) e ∙ drop_at (taken ++ w) following (count + length w) (omega (arith, long, is)));
    }

-- the letters that a step takes of the word, and what is left of it after the w
abbrev front_by : RuleSet → List ℕ → Step → List ℕ → List ℕ
front_by rules lead step word = take (taken_by rules lead step) word

abbrev following_by : RuleSet → List ℕ → Step → List ℕ → List ℕ
following_by rules lead step word = drop (taken_by rules lead step + length (rule_after rules step).w) word

covers_front : (rules : RuleSet) (lead : List ℕ) (step : Step) (steps : List Step) (word rest : List ℕ) → Covers rules lead (step ∷ steps) word rest
    → (step.form ≡ lead ++ front_by rules lead step word ++ (rule_after rules step).u)
    × (word ≡ front_by rules lead step word ++ (rule_after rules step).w ++ following_by rules lead step word)
    × Covers rules (rule_after rules step).v steps (following_by rules lead step word) rest
covers_front rules lead step steps word rest h =
    let is = taken_length rules lead step h.0 h.2 in
    let cut = cut_by_length h.0 (rule_after rules step).w h.1 word (taken_by rules lead step) is h.3 in (
      subst (λ (t : List ℕ). step.form ≡ lead ++ t ++ (rule_after rules step).u) cut.taken_is h.2,
      subst (λ (t : List ℕ). word ≡ t ++ (rule_after rules step).w ++ following_by rules lead step word) cut.taken_is
          (subst (λ (f : List ℕ). word ≡ h.0 ++ (rule_after rules step).w ++ f) cut.following_is h.3),
      subst (λ (f : List ℕ). Covers rules (rule_after rules step).v steps f rest) cut.following_is h.4,
    )

covers : (rules : RuleSet) (lead : List ℕ) (steps : List Step) (word rest : List ℕ) → Decided (Covers rules lead steps word rest)
covers rules lead [] word rest = is_same_list cases_eq word rest
covers rules lead (step ∷ steps) word rest =
    told_by (λ h. (front_by rules lead step word, following_by rules lead step word, h.0, h.1, h.2)) (covers_front rules lead step steps word rest)
    (all_three (is_same_word step.form (lead ++ front_by rules lead step word ++ (rule_after rules step).u))
    (is_same_word word (front_by rules lead step word ++ (rule_after rules step).w ++ following_by rules lead step word))
    (covers rules (rule_after rules step).v steps (following_by rules lead step word) rest))

derives : (lexicon : Lexicon) (steps : List Step) (word : List ℕ) → Decided (Derives lexicon steps word)
derives lexicon steps word =
    told_by (λ h. record { forms = h.0.0; joined = h.0.1; ends = h.1.0; covers = h.1.1 })
    (λ d. ((d.forms, d.joined), (d.ends, d.covers)))
    (both (both (are_forms lexicon steps) (are_joined lexicon.rules steps))
    (both (ends_well lexicon.rules steps) (covers lexicon.rules [] steps word [])))

-- ---- blanks and choices

is_at_seam : (rules : RuleSet) (blank : ℕ) (p : Placed) → Decided (IsAtSeam rules blank p)
is_at_seam rules blank p =
    both (is_at_most (p.at + p.taken) blank) (is_at_most blank (p.at + p.taken + length (rule_after rules p.step).w))

is_at_some_seam : (rules : RuleSet) (blank : ℕ) (ps : List Placed) → Decided (IsAtSomeSeam rules blank ps)
is_at_some_seam rules blank [] = inr (λ h. absurd h)
is_at_some_seam rules blank (p ∷ []) = inr (λ h. absurd h)
is_at_some_seam rules blank (p ∷ q ∷ ps) = either (is_at_seam rules blank p) (is_at_some_seam rules blank (q ∷ ps))

keeps_blanks : (rules : RuleSet) (blanks : List ℕ) (steps : List Step) → Decided (KeepsBlanks rules blanks steps)
keeps_blanks rules blanks steps =
    holds_of_all (λ blank. IsAtSomeSeam rules blank (placed rules steps)) (λ blank. is_at_some_seam rules blank (placed rules steps)) blanks

pub is_same_item : (left right : Item) → Decided (left ≡ right)
is_same_item left right =
    told_by (λ h i. record { at = h.0.0 i; lead = h.0.1 i; phase = h.1.0 i; form = h.1.1 i })
    (λ e. (
      (ap (λ (x : Item). x.at) e, ap (λ (x : Item). x.lead) e),
      (ap (λ (x : Item). x.phase) e, ap (λ (x : Item). x.form) e),
    ))
    (both (both (cases_eq left.at right.at) (cases_eq left.lead right.lead))
    (both (cases_eq left.phase right.phase) (is_same_word left.form right.form)))

keeps_one : (items : List Item) (kept : Bool) (item : Item) → Decided (MatchBool kept (Contains items item) (Contains items item → ⊥))
keeps_one items true item = is_element is_same_item items item
keeps_one items false item = refuted (is_element is_same_item items item)

keeps_choices : (rules : RuleSet) (choices : List Choice) (steps : List Step) → Decided (KeepsChoices rules choices steps)
keeps_choices rules choices steps =
    holds_of_all (KeepsChoice (items_of rules steps)) (λ choice. keeps_one (items_of rules steps) choice.kept choice.item) choices

-- ---- answers

pub is_answer : (lexicon : Lexicon) (line : Line) (choices : List Choice) (steps : List Step) → Decided (IsAnswer lexicon line choices steps)
is_answer lexicon line choices steps =
    told_by (λ h. record { derives = h.0.0; accepted = h.0.1; blanks_kept = h.1.0; choices_kept = h.1.1 })
    (λ a. ((a.derives, a.accepted), (a.blanks_kept, a.choices_kept)))
    (both (both (derives lexicon steps line.letters) (is_word (tree_of lexicon.rules) (phases_of steps)))
    (both (keeps_blanks lexicon.rules line.blanks steps) (keeps_choices lexicon.rules choices steps)))
