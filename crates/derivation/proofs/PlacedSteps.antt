-- The places and keys of the program's steps are those of the definitions' steps: by recursion over the steps, since each
-- form is as long as its lead, the letters that it takes, and its u.
use Rattle.std.proofs.Common.{◌≡◌, ℕ, ◌+◌, List, [], ◌∷◌, length, map, refl, ap, sym, arith, ◌∙◌, length-append, length-drop, length-take}
use Rattle.lexicon_definitions.specs.Lexicons.{RuleSet, rule_of}
use Rattle.segmentation_definitions.specs.Items.{Placed, placed, placed_from, taken_by}
use Rattle.segmentation_definitions.specs.Listings as listings
use Rattle.derivation.specs.declared.step.Step.{Step as ProgramStep}
use Rattle.derivation.specs.Steps.{keys_of, letters_taken, entered_with, steps_from, steps_of, StandsAt, StandFrom, StandIn, placed_with, places_of}

-- a step that stands in the line takes as many letters as it says
taken_is : (rules : RuleSet) (letters : List ℕ) (start : ℕ) (lead : List ℕ) (step : ProgramStep) → StandsAt rules letters start lead step
    → taken_by rules lead (entered_with rules letters lead step) ≡ step.taken
taken_is rules letters start lead step stands =
    let u = (rule_of rules step.rule).u
    in let taken : length (letters_taken letters step) ≡ step.taken = simp (length-take, length-drop) (omega (arith, stands.taken))
    in simp length-append (omega (arith, taken))

-- a step that stands at start has the places that it says
placed_is : (rules : RuleSet) (letters : List ℕ) (start : ℕ) (lead : List ℕ) (step : ProgramStep) (steps : List ProgramStep) (rest : List Placed) → StandsAt rules letters start lead step
    → placed_from rules (step.at + step.taken + length (rule_of rules step.rule).w) (rule_of rules step.rule).v (steps_from rules letters (rule_of rules step.rule).v steps) ≡ rest
    → placed_from rules start lead (steps_from rules letters lead (step ∷ steps)) ≡ placed_with rules letters lead step ∷ rest
placed_is rules letters start lead step steps rest stands later =
    rw (taken_is rules letters start lead step stands, sym stands.at, sym stands.lead_length)
    (ap (λ ps. placed_with rules letters lead step ∷ ps) later)

placed_all : (rules : RuleSet) (letters : List ℕ) (start : ℕ) (lead : List ℕ) (steps : List ProgramStep) → StandFrom rules letters start lead steps
    → placed_from rules start lead (steps_from rules letters lead steps) ≡ places_of rules letters lead steps
placed_all rules letters start lead [] stand = refl
placed_all rules letters start lead (step ∷ steps) stand =
    placed_is rules letters start lead step steps _ stand.0
    (placed_all rules letters (step.at + step.taken + length (rule_of rules step.rule).w) (rule_of rules step.rule).v steps stand.1)

-- the steps of the definitions have the places that the program's steps keep
pub same_places : (rules : RuleSet) (letters : List ℕ) (steps : List ProgramStep) → StandIn rules letters steps
    → placed rules (steps_of rules letters steps) ≡ places_of rules letters [] steps
same_places rules letters steps stand = placed_all rules letters 0 [] steps stand

keys_from : (rules : RuleSet) (letters lead : List ℕ) (steps : List ProgramStep) → keys_of steps ≡ map listings.key_of (places_of rules letters lead steps)
keys_from rules letters lead [] = refl
keys_from rules letters lead (step ∷ steps) =
    ap (λ keys. record { phase = step.phase; taken = step.taken; rule = step.rule } ∷ keys) (keys_from rules letters (rule_of rules step.rule).v steps)

-- and their keys
pub same_keys : (rules : RuleSet) (letters : List ℕ) (steps : List ProgramStep) → StandIn rules letters steps
    → keys_of steps ≡ listings.keys_of rules (steps_of rules letters steps)
same_keys rules letters steps stand =
    keys_from rules letters [] steps ∙ ap (map listings.key_of) (sym (same_places rules letters steps stand))
