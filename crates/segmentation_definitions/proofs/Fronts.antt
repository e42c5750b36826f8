-- Lists of steps that are cut in two: by recursion on the first part, and on the entrance where the parts meet.
use Rattle.std.proofs.Common.{◌≡◌, ◌≢◌, ℕ, zero, suc, ◌+◌, ◌-◌, ◌<◌, ◌⊎◌, inl, inr, List, [], ◌∷◌, ◌++◌, length, drop, refl, sym, ap, subst, ◌∙◌, append_assoc, length-append, arith, cond, ◌==◌}
use Rattle.std.proofs.lemmas.Bool.{eq-eqb, ne_eqb, cases_lt}
use Rattle.std.proofs.lemmas.List.{get_or_at, drop_at}
use Rattle.lexicon_definitions.proofs.GrammarLists.{last_of}
use Rattle.lexicon_definitions.specs.Rules.{HasPhase}
use Rattle.lexicon_definitions.specs.Lexicons.{Lexicon, RuleSet, rule_of, IsLexicon, IsPlain}
use Rattle.segmentation_definitions.specs.Derivations.{Step, rule_after, HasInnerRule, Meets, AreForms, AreJoined, EndsWell, Covers}
use Rattle.segmentation_definitions.specs.Items.{taken_by, next_at, placed_from, covered_from}
use Rattle.segmentation_definitions.specs.Configurations.{Entrance, Start, Plain, Lead, last_letter, entrance_after_step, entrance_after, GoesOn}
use Rattle.segmentation_definitions.proofs.Coverings.{form_not_empty, taken_length}

-- the lead after the steps, where it is this one before them
abbrev pub lead_after : RuleSet → List ℕ → List Step → List ℕ
lead_after rules lead [] = lead
lead_after rules lead (step ∷ steps) = lead_after rules (rule_after rules step).v steps

-- what two lists of steps cover one after the other
pub record CoversBoth (rules : RuleSet) (lead : List ℕ) (left right : List Step) (word rest : List ℕ) : Type 0 where
  pub between : List ℕ
  pub first : Covers rules lead left word between
  pub second : Covers rules (lead_after rules lead left) right between rest

pub covers_split : (rules : RuleSet) (lead : List ℕ) (left right : List Step) (word rest : List ℕ)
    → Covers rules lead (left ++ right) word rest → CoversBoth rules lead left right word rest
covers_split rules lead [] right word rest h = record { between = word; first = refl; second = h }
covers_split rules lead (step ∷ left) right word rest h =
    let c = covers_split rules (rule_after rules step).v left right h.1 rest h.4 in
    record { between = c.between; first = (h.0, h.1, h.2, h.3, c.first); second = c.second }

pub covers_join : (rules : RuleSet) (lead : List ℕ) (left right : List Step) (word between rest : List ℕ)
    → Covers rules lead left word between → Covers rules (lead_after rules lead left) right between rest
    → Covers rules lead (left ++ right) word rest
covers_join rules lead [] right word between rest h k = subst (λ w. Covers rules lead right w rest) (sym h) k
covers_join rules lead (step ∷ left) right word between rest h k =
    (h.0, h.1, h.2, h.3, covers_join rules (rule_after rules step).v left right h.1 between rest h.4 k)

-- the front of the word that the steps cover
pub record Covered (rules : RuleSet) (start : ℕ) (lead : List ℕ) (steps : List Step) (word rest : List ℕ) : Type 0 where
  pub front : List ℕ
  pub word_is : word ≡ front ++ rest
  pub count : covered_from rules start lead steps ≡ start + length front

pub covered : (rules : RuleSet) (start : ℕ) (lead : List ℕ) (steps : List Step) (word rest : List ℕ)
    → Covers rules lead steps word rest → Covered rules start lead steps word rest
covered rules start lead [] word rest h = record { front = []; word_is = h; count = omega arith }
covered rules start lead (step ∷ steps) word rest h =
    let w = (rule_after rules step).w in
    let c = covered rules (next_at rules start lead step) (rule_after rules step).v steps h.1 rest h.4 in
    let n = taken_length rules lead step h.0 h.2 in
    record {
      front = h.0 ++ w ++ c.front;
      word_is = h.3 ∙ (ap (λ b. h.0 ++ w ++ b) c.word_is ∙ sym (append_assoc (h.0 ++ w) c.front rest));
      count = omega (arith, c.count, n, length-append (h.0 ++ w) c.front, length-append h.0 w);
    }

-- two fronts of one length leave the same rest
same_rest : (word a b c d : List ℕ) → word ≡ a ++ b → word ≡ c ++ d → length a ≡ length c → b ≡ d
same_rest word a b c d h k e =
    sym (drop_at a b (length a) refl) ∙ (ap (λ w. drop (length a) w) (sym h ∙ k) ∙ drop_at c d (length a) (sym e))

-- steps that cover as many letters of a word leave the same rest
pub same_rest_after : (rules : RuleSet) (left right : List Step) (word rest other : List ℕ)
    → Covers rules [] left word rest → Covers rules [] right word other
    → covered_from rules 0 [] left ≡ covered_from rules 0 [] right → rest ≡ other
same_rest_after rules left right word rest other h k e =
    let c = covered rules 0 [] left word rest h in
    let d = covered rules 0 [] right word other k in
    same_rest word c.front rest d.front other c.word_is d.word_is (omega arith)

-- the steps of two lists stand one after the other
pub placed-append : (rules : RuleSet) (start : ℕ) (lead : List ℕ) (left right : List Step)
    → placed_from rules start lead (left ++ right)
    ≡ placed_from rules start lead left
    ++ placed_from rules (covered_from rules start lead left) (lead_after rules lead left) right
placed-append rules start lead [] right = refl
placed-append rules start lead (step ∷ left) right =
    ap (λ ps. record { step = step; at = start; lead = length lead; taken = taken_by rules lead step } ∷ ps)
    (placed-append rules (next_at rules start lead step) (rule_after rules step).v left right)

-- the lead that an entrance supplies
abbrev pub lead_of : Entrance → List ℕ
lead_of Start = []
lead_of (Plain letter) = []
lead_of (Lead v after) = v

entrance_plain : (rules : RuleSet) (step : Step) → step.rule ≡ 0 → entrance_after_step rules step ≡ Plain (last_letter step.form)
entrance_plain rules step e = rw (eq-eqb step.rule 0 e)

entrance_lead : (rules : RuleSet) (step : Step) → 0 < step.rule
    → entrance_after_step rules step ≡ Lead (rule_after rules step).v (rule_after rules step).after
entrance_lead rules step l =
    let e : step.rule ≡ 0 → ⊥ = λ z. omega arith in
    rw (ne_eqb step.rule 0 e)

lead_of_after : (rules : RuleSet) (form : List ℕ) (number : ℕ)
    → lead_of (cond (number == 0) (Plain (last_letter form)) (Lead (rule_of rules number).v (rule_of rules number).after))
    ≡ (rule_of rules number).v
lead_of_after rules form zero = refl
lead_of_after rules form (suc n) =
    let e : suc n ≡ 0 → ⊥ = λ z. omega arith in
    rw (ne_eqb (suc n) 0 e)

-- the lead after the steps is that of the entrance after them
pub lead_of_entrance : (rules : RuleSet) (entrance : Entrance) (steps : List Step)
    → lead_after rules (lead_of entrance) steps ≡ lead_of (entrance_after rules entrance steps)
lead_of_entrance rules entrance [] = refl
lead_of_entrance rules entrance (step ∷ steps) =
    ap (λ lead. lead_after rules lead steps) (sym (lead_of_after rules step.form step.rule))
    ∙ lead_of_entrance rules (entrance_after_step rules step) steps

following_is_no_start : (rules : RuleSet) (step : Step) → entrance_after_step rules step ≢ Start
following_is_no_start rules step e =
    elim (cases_lt 0 step.rule) [
      | inl l ↦ (let lead = entrance_lead rules step l in cc)
      | inr l ↦ (let plain = entrance_plain rules step (omega arith) in cc)
    ]

after_is_no_start : (rules : RuleSet) (entrance : Entrance) (steps : List Step) → entrance ≢ Start
    → entrance_after rules entrance steps ≢ Start
after_is_no_start rules entrance [] h = h
after_is_no_start rules entrance (step ∷ steps) h =
    after_is_no_start rules (entrance_after_step rules step) steps (following_is_no_start rules step)

-- only the empty list leaves the entrance at the start
pub no_start_after : (rules : RuleSet) (step : Step) (steps : List Step) → entrance_after rules Start (step ∷ steps) ≢ Start
no_start_after rules step steps = after_is_no_start rules (entrance_after_step rules step) steps (following_is_no_start rules step)

-- the step may be entered so
abbrev pub Enters : RuleSet → Entrance → Step → Type 0
Enters rules Start next = Unit {0}
Enters rules (Plain letter) next =
    (first : ℕ) × (rest : List ℕ) × (next.form ≡ first ∷ rest) × IsPlain rules letter first
Enters rules (Lead v after) next = HasPhase after next.phase

last_letter_is : (form front : List ℕ) (last : ℕ) → form ≡ front ++ last ∷ [] → last_letter form ≡ last
last_letter_is form front last e =
    ap (λ f. last_letter f) e ∙ get_or_at front last [] 0 (length (front ++ last ∷ []) - 1) (omega (arith, length-append front (last ∷ [])))

-- a step that meets the next one enters it
pub meets_enters : (rules : RuleSet) (step next : Step) → Meets rules step next → Enters rules (entrance_after_step rules step) next
meets_enters rules step next (inl h) =
    let seam = h.1 in
    let letter = last_letter_is step.form seam.0 seam.1 seam.4 in
    subst (λ e. Enters rules e next) (sym (entrance_plain rules step h.0))
    (seam.2, seam.3, seam.5, subst (λ l. IsPlain rules l seam.2) (sym letter) seam.6)
meets_enters rules step next (inr h) =
    subst (λ e. Enters rules e next) (sym (entrance_lead rules step h.0.0.0)) h.1

-- a step that enters the next one, and may go on, meets it
pub enters_meets : (rules : RuleSet) (step next : Step) → 0 < length step.form → (step.rule ≡ 0) ⊎ HasInnerRule rules step
    → Enters rules (entrance_after_step rules step) next → Meets rules step next
enters_meets rules step next some (inl e) h =
    let k = subst (λ e. Enters rules e next) (entrance_plain rules step e) h in
    let cut = last_of_list step.form some in
    let letter = last_letter_is step.form cut.0 cut.1 cut.2 in
    inl (e, (cut.0, cut.1, k.0, k.1, cut.2, k.2, subst (λ l. IsPlain rules l k.0) letter k.3))
  where
    last_of_list : (form : List ℕ) → 0 < length form → (front : List ℕ) × (last : ℕ) × (form ≡ front ++ last ∷ [])
    last_of_list [] some = absurd (omega arith)
    last_of_list (letter ∷ form) some = last_of letter form
enters_meets rules step next some (inr inner) h =
    inr (inner, subst (λ e. Enters rules e next) (entrance_lead rules step inner.0.0) h)

-- steps that are joined to others
pub record JoinedBoth (rules : RuleSet) (entrance : Entrance) (next : Step) (steps : List Step) : Type 0 where
  pub enters : Enters rules entrance next
  pub joined : AreJoined rules (next ∷ steps)

pub joined_split : (rules : RuleSet) (left : List Step) (next : Step) (steps : List Step)
    → AreJoined rules (left ++ next ∷ steps) → JoinedBoth rules (entrance_after rules Start left) next steps
joined_split rules [] next steps h = record { enters = tt; joined = h }
joined_split rules (step ∷ left) next steps h = from step left h
  where
    from : (step : Step) (left : List Step) → AreJoined rules ((step ∷ left) ++ next ∷ steps)
        → JoinedBoth rules (entrance_after rules (entrance_after_step rules step) left) next steps
    from step [] h = record { enters = meets_enters rules step next h.0; joined = h.1 }
    from step (second ∷ left) h = from second left h.1

pub joined_join : (rules : RuleSet) (lexicon : Lexicon) (left : List Step) (next : Step) (steps : List Step)
    → IsLexicon lexicon → AreForms lexicon left → AreJoined rules left → GoesOn rules left
    → JoinedBoth rules (entrance_after rules Start left) next steps → AreJoined rules (left ++ next ∷ steps)
joined_join rules lexicon [] next steps is forms joined goes_on h = h.joined
joined_join rules lexicon (step ∷ left) next steps is forms joined goes_on h = from step left forms joined goes_on h
  where
    from : (step : Step) (left : List Step) → AreForms lexicon (step ∷ left) → AreJoined rules (step ∷ left)
        → GoesOn rules (step ∷ left) → JoinedBoth rules (entrance_after rules (entrance_after_step rules step) left) next steps
        → AreJoined rules ((step ∷ left) ++ next ∷ steps)
    from step [] forms joined goes_on h =
        (enters_meets rules step next (form_not_empty lexicon step.phase step.form is forms.0) goes_on h.enters, h.joined)
    from step (second ∷ left) forms joined goes_on h = (joined.0, from second left forms.1 joined.1 goes_on h)

-- how a list ends is how its last part ends
pub ends_right : (rules : RuleSet) (left : List Step) (next : Step) (steps : List Step)
    → EndsWell rules (left ++ next ∷ steps) → EndsWell rules (next ∷ steps)
ends_right rules [] next steps h = h
ends_right rules (step ∷ []) next steps h = h
ends_right rules (step ∷ second ∷ left) next steps h = ends_right rules (second ∷ left) next steps h

pub ends_join : (rules : RuleSet) (left : List Step) (next : Step) (steps : List Step)
    → EndsWell rules (next ∷ steps) → EndsWell rules (left ++ next ∷ steps)
ends_join rules [] next steps h = h
ends_join rules (step ∷ []) next steps h = h
ends_join rules (step ∷ second ∷ left) next steps h = ends_join rules (second ∷ left) next steps h
