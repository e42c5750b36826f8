-- What stands at one place of a list of steps, by recursion over the list.
use Rattle.std.proofs.Common.{◌≡◌, ℕ, zero, suc, ◌+◌, ◌-◌, ◌<◌, ◌≤◌, List, [], ◌∷◌, ◌++◌, length, drop, map, slice_index_or, slice_get, Some, min, refl, ap, sym, arith, ◌∙◌, Result, IfOk, length-drop, append_assoc, append-nil}
use Rattle.std.proofs.lemmas.List.{at_drop_more, drop_all}
use Rattle.std.proofs.lemmas.Result.{IfOk-weaker}
use Rattle.std.specs.Ordering.{nat_cmp}
use Rattle.std.proofs.lemmas.Bool.Decides.{nat_tests}
use Rattle.lexicon_definitions.specs.Lexicons.{RuleSet, rule_of}
use Rattle.segmentation_definitions.specs.Derivations.{Step}
use Rattle.segmentation_definitions.specs.Listings.{compare_key_lists}
use Rattle.segmentation_definitions.specs.PrintedAnswers.{printed_steps, printed_form, printed_joint, printed_end}
use Rattle.derivation.specs.declared.step.Step.{Step as ProgramStep}
use Rattle.derivation.specs.Steps.{keys_of, form_with, step_after, steps_from, steps_of, StandFrom}

-- numbers compare as their successors do
nat_cmp-suc : (m n : ℕ) → nat_cmp (suc m) (suc n) ≡ nat_cmp m n
nat_cmp-suc m n = grind (arith, nat_tests)

-- where one of two lists has ended, the lengths decide
pub ended : (a b : List ProgramStep) (i : ℕ) → i ≡ min (length a) (length b)
    → nat_cmp (length a) (length b) ≡ compare_key_lists (keys_of (drop i a)) (keys_of (drop i b))
ended [] [] i e = let z : i ≡ 0 = omega arith in rw z refl
ended [] (y ∷ b) i e = let z : i ≡ 0 = omega arith in rw z (grind (arith, nat_tests))
ended (x ∷ a) [] i e = let z : i ≡ 0 = omega arith in rw z (grind (arith, nat_tests))
ended (x ∷ a) (y ∷ b) zero e = absurd (omega arith)
ended (x ∷ a) (y ∷ b) (suc i) e =
    let smaller : i ≡ min (length a) (length b) = omega arith
    in nat_cmp-suc (length a) (length b) ∙ ended a b i smaller

-- the rule after the step before the place
abbrev pub rule_before : ℕ → List ProgramStep → ℕ → ProgramStep → ℕ
rule_before before steps zero d = before
rule_before before steps (suc j) d = (slice_index_or steps j d).rule

-- at the first place, and at a later one
pub rule_before-first : (before : ℕ) (steps : List ProgramStep) (j : ℕ) (d : ProgramStep) → j ≡ 0 → rule_before before steps j d ≡ before
rule_before-first before steps zero d e = refl
rule_before-first before steps (suc j) d e = absurd (omega arith)

pub rule_before-later : (before : ℕ) (steps : List ProgramStep) (j : ℕ) (d : ProgramStep) → 0 < j
    → rule_before before steps j d ≡ (slice_index_or steps (j - 1) d).rule
rule_before-later before steps zero d h = absurd (omega arith)
rule_before-later before steps (suc j) d h = let e : suc j - 1 ≡ j = omega arith in rw e refl

-- what every step of such a list keeps to
pub record IsWithin (rules : RuleSet) (letters : List ℕ) (step : ProgramStep) : Type 0 where
  pub phase : step.phase < length rules.names
  pub rule : step.rule ≤ length rules.rules
  pub taken : step.at + step.taken ≤ length letters

-- the step at a place is within the rule set and the line
pub within : (rules : RuleSet) (letters : List ℕ) (steps : List ProgramStep) (j : ℕ) (d : ProgramStep) (start : ℕ) (lead : List ℕ)
    → StandFrom rules letters start lead steps → j < length steps → IsWithin rules letters (slice_index_or steps j d)
within rules letters [] j d start lead h lt = absurd (omega arith)
within rules letters (step ∷ steps) zero d start lead h lt =
    record { phase = h.0.phase; rule = h.0.rule; taken = h.0.taken }
within rules letters (step ∷ steps) (suc j) d start lead h lt =
    let smaller : j < length steps = omega arith in within rules letters steps j d _ _ h.1 smaller

-- the rule before the step at a place is one of the rule set
pub before_within : (rules : RuleSet) (letters : List ℕ) (steps : List ProgramStep) (j : ℕ) (d : ProgramStep) (before : ℕ) (start : ℕ) (lead : List ℕ)
    → StandFrom rules letters start lead steps → j < length steps → before ≤ length rules.rules
    → rule_before before steps j d ≤ length rules.rules
before_within rules letters steps zero d before start lead h lt b = b
before_within rules letters steps (suc j) d before start lead h lt b =
    let smaller : j < length steps = omega arith in (within rules letters steps j d start lead h smaller).rule

-- the form of the step at a place
pub form_at : (rules : RuleSet) (letters : List ℕ) (before : ℕ) (steps : List ProgramStep) (j : ℕ) (d : ProgramStep) → j < length steps
    → slice_get (map (λ (step : Step). step.form) (steps_from rules letters (rule_of rules before).v steps)) j
    ≡ Some (form_with rules letters (rule_of rules (rule_before before steps j d)).v (slice_index_or steps j d))
form_at rules letters before [] j d lt = absurd (omega arith)
form_at rules letters before (step ∷ steps) zero d lt = refl
form_at rules letters before (step ∷ steps) (suc zero) d lt =
    let smaller : 0 < length steps = omega arith in form_at rules letters step.rule steps 0 d smaller
form_at rules letters before (step ∷ steps) (suc (suc j)) d lt =
    let smaller : suc j < length steps = omega arith in form_at rules letters step.rule steps (suc j) d smaller

-- steps of which the first is not the last print as its form, what stands after it, and the rest
pub printed_first : (rules : RuleSet) (letters : List ℕ) (before : ℕ) (step : ProgramStep) (steps : List ProgramStep) → 0 < length steps
    → printed_steps rules (steps_from rules letters (rule_of rules before).v (step ∷ steps))
    ≡ printed_form rules (step_after rules letters before step) ++ printed_joint rules step.rule
    ++ printed_steps rules (steps_from rules letters (rule_of rules step.rule).v steps)
printed_first rules letters before step [] more = absurd (omega arith)
printed_first rules letters before step (next ∷ steps) more = refl

-- the last step prints as its form and the end
pub printed_last : (rules : RuleSet) (letters : List ℕ) (before : ℕ) (step : ProgramStep) (steps : List ProgramStep) → length steps ≡ 0
    → printed_steps rules (steps_from rules letters (rule_of rules before).v (step ∷ steps))
    ≡ printed_form rules (step_after rules letters before step) ++ printed_end rules step.rule
printed_last rules letters before step [] none = refl
printed_last rules letters before step (next ∷ steps) none = absurd (omega arith)

-- a whole that is put together from pieces, the later ones together
four_pieces : (text form joint rest later whole : List ℕ) → text ++ later ≡ whole → later ≡ form ++ joint ++ rest → text ++ form ++ joint ++ rest ≡ whole
four_pieces text form joint rest later whole all is =
    append_assoc (text ++ form) joint rest ∙ append_assoc text form (joint ++ rest)
    ∙ ap (λ xs. text ++ xs) (sym (append_assoc form joint rest) ∙ sym is) ∙ all

three_pieces : (text form ending later whole : List ℕ) → text ++ later ≡ whole → later ≡ form ++ ending → text ++ form ++ ending ≡ whole
three_pieces text form ending later whole all is = append_assoc text form ending ∙ ap (λ xs. text ++ xs) (sym is) ∙ all

-- where text and what the steps from a place on print make the whole, so do text with the form there and what stands
-- after it, and what the later steps print
pub printed_on : (rules : RuleSet) (letters : List ℕ) (before : ℕ) (steps : List ProgramStep) (j : ℕ) (d : ProgramStep) (text with_form with_joint whole : List ℕ)
    → j + 1 < length steps
    → text ++ printed_steps rules (steps_from rules letters (rule_of rules before).v (drop j steps)) ≡ whole
    → with_form ≡ text ++ printed_form rules (step_after rules letters before (slice_index_or steps j d))
    → with_joint ≡ with_form ++ printed_joint rules (slice_index_or steps j d).rule
    → with_joint ++ printed_steps rules (steps_from rules letters (rule_of rules (slice_index_or steps j d).rule).v (drop (j + 1) steps)) ≡ whole
printed_on rules letters before steps j d text with_form with_joint whole more printed form joint =
    let here = slice_index_or steps j d
    in let later : 0 < length (drop (j + 1) steps) = simp length-drop (omega arith)
    in let at = at_drop_more (λ rest. printed_steps rules (steps_from rules letters (rule_of rules before).v rest)) steps j d (omega arith)
    in let first = printed_first rules letters before here (drop (j + 1) steps) later
    in rw (joint, form) (four_pieces text _ _ _ _ whole printed (at ∙ first))

-- where the step there is the last, text with its form and the end is the whole
pub printed_out : (rules : RuleSet) (letters : List ℕ) (before : ℕ) (steps : List ProgramStep) (j : ℕ) (d : ProgramStep) (text with_form with_end whole : List ℕ)
    → j < length steps → length steps ≤ j + 1
    → text ++ printed_steps rules (steps_from rules letters (rule_of rules before).v (drop j steps)) ≡ whole
    → with_form ≡ text ++ printed_form rules (step_after rules letters before (slice_index_or steps j d))
    → with_end ≡ with_form ++ printed_end rules (slice_index_or steps j d).rule
    → with_end ++ printed_steps rules (steps_from rules letters (rule_of rules (slice_index_or steps j d).rule).v (drop (j + 1) steps)) ≡ whole
printed_out rules letters before steps j d text with_form with_end whole low last printed form ending =
    let here = slice_index_or steps j d
    in let none : drop (j + 1) steps ≡ [] = drop_all (j + 1) steps last
    in let at = at_drop_more (λ rest. printed_steps rules (steps_from rules letters (rule_of rules before).v rest)) steps j d low
    in let only = printed_last rules letters before here (drop (j + 1) steps) (ap length none)
    in rw (none, append-nil, ending, form) (three_pieces text _ _ _ whole printed (at ∙ only))

-- the form of the step at a place, after the rule that stands before it there, is that of the definitions
pub form_found : {E : Type 0} (rules : RuleSet) (letters : List ℕ) (steps : List ProgramStep) (j : ℕ) (d : ProgramStep) (before : ℕ) (r : Result (List ℕ) E)
    → j < length steps → before ≡ rule_before 0 steps j d
    → IfOk r (λ word. word ≡ form_with rules letters (rule_of rules before).v (slice_index_or steps j d))
    → IfOk r (λ word. slice_get (map (λ (step : Step). step.form) (steps_of rules letters steps)) j ≡ Some word)
form_found rules letters steps j d before r low same =
    let following : ℕ → List ℕ = λ n. form_with rules letters (rule_of rules n).v (slice_index_or steps j d)
    in IfOk-weaker r (λ word. word ≡ following before) (λ word. slice_get (map (λ (step : Step). step.form) (steps_of rules letters steps)) j ≡ Some word)
    (λ word is. form_at rules letters 0 steps j d low ∙ ap (λ form. Some form) (sym (is ∙ ap following same)))
