-- A text is read in one way: by what the first two rounds tell, and then by one induction along the steps.
use Rattle.std.proofs.Common.{◌≡◌, ◌≢◌, ℕ, ◌+◌, ◌⊎◌, inl, inr, Option, Some, None, Result, Ok, Err, List, [], ◌∷◌, refl, sym, ◌∙◌, ap}
use Rattle.lexicon_definitions.specs.Lexicons.{Lexicon, RuleSet}
use Rattle.segmentation_definitions.specs.Derivations.{Step}
use Rattle.chain_definitions.specs.ChainFaults.{Why, Fault, Shape, Barred, Meet}
use Rattle.chain_definitions.specs.ChainTexts.{WrittenStep, steps_of_text}
use Rattle.chain_definitions.specs.ChainReadings.{AllowsPhases, MeetsNext, AreMeeting, IsWhyNotMeeting, IsFirstNotMeeting, IsReadAfterNames, IsReadAfterShape, IsChainRead, steps_named}

same_why : (rules : RuleSet) (step : Step) (steps : List Step) (left right : Why)
    → IsWhyNotMeeting rules step steps left → IsWhyNotMeeting rules step steps right → left ≡ right
same_why rules step steps left right l r = elim l [
  | inl barred ↦ elim r [ inl other ↦ barred.0 ∙ sym other.0 | inr other ↦ absurd (barred.1 other.1) ]
  | inr unmet ↦ elim r [ inl other ↦ absurd (other.1 unmet.1) | inr other ↦ unmet.0 ∙ sym other.0 ]
]

same_fault : (left right : Fault) → left.step ≡ right.step → left.why ≡ right.why → left ≡ right
same_fault left right e h = λ i. record { step = e i; why = h i }

-- where a step has a reason, it does not both allow the phases and meet the next
pub met_or_not : (rules : RuleSet) (step : Step) (steps : List Step) (why : Why) → IsWhyNotMeeting rules step steps why
    → AllowsPhases rules step steps → MeetsNext rules step steps → ⊥
met_or_not rules step steps why h allows meets = elim h [ inl barred ↦ barred.1 allows | inr unmet ↦ unmet.2 meets ]

one_first : (rules : RuleSet) (number : ℕ) (steps : List Step) (left right : Fault)
    → IsFirstNotMeeting rules number steps left → IsFirstNotMeeting rules number steps right → left ≡ right
one_first rules number [] left right l r = absurd l
one_first rules number (step ∷ steps) left right l r = elim l [
  | inl here ↦ elim r [
    | inl other ↦ same_fault left right (here.0 ∙ sym other.0) (same_why rules step steps left.why right.why here.1 other.1)
    | inr later ↦ absurd (met_or_not rules step steps left.why here.1 later.0 later.1)
  ]
  | inr later ↦ elim r [
    | inl here ↦ absurd (met_or_not rules step steps right.why here.1 later.0 later.1)
    | inr other ↦ one_first rules (number + 1) steps left right later.2 other.2
  ]
]

-- where all steps meet, none is at fault
none_if_meeting : (rules : RuleSet) (number : ℕ) (steps : List Step) (fault : Fault)
    → AreMeeting rules steps → IsFirstNotMeeting rules number steps fault → ⊥
none_if_meeting rules number [] fault m h = h
none_if_meeting rules number (step ∷ steps) fault m h = elim h [
  | inl here ↦ met_or_not rules step steps fault.why here.1 m.0 m.1
  | inr later ↦ none_if_meeting rules (number + 1) steps fault m.2 later.2
]

after_names : (rules : RuleSet) (told left right : Result (List Step) Fault)
    → IsReadAfterNames rules told left → IsReadAfterNames rules told right → left ≡ right
after_names rules (Err fault) left right l r = l ∙ sym r
after_names rules (Ok steps) (Ok left) (Ok right) l r = ap Ok (l.0 ∙ sym r.0)
after_names rules (Ok steps) (Ok left) (Err right) l r = absurd (none_if_meeting rules 1 steps right l.1 r)
after_names rules (Ok steps) (Err left) (Ok right) l r = absurd (none_if_meeting rules 1 steps left r.1 l)
after_names rules (Ok steps) (Err left) (Err right) l r = ap Err (one_first rules 1 steps left right l r)

after_shape : (lexicon : Lexicon) (told : Option (List WrittenStep)) (left right : Result (List Step) Fault)
    → IsReadAfterShape lexicon told left → IsReadAfterShape lexicon told right → left ≡ right
after_shape lexicon None left right l r = l ∙ sym r
after_shape lexicon (Some steps) left right l r = after_names lexicon.rules (steps_named lexicon 1 steps) left right l r

pub read_once : (lexicon : Lexicon) (text : List ℕ) (left right : Result (List Step) Fault)
    → IsChainRead lexicon text left → IsChainRead lexicon text right → left ≡ right
read_once lexicon text left right l r = after_shape lexicon (steps_of_text text) left right l r
