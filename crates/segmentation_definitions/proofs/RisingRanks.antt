-- Places rise: a step after which no rule stands has a letter of its own or a lead, and a rule's w is not empty; the rest
-- is arithmetic on the facts of `AreInPlace`, by induction over the steps in their places.
use Rattle.std.proofs.Common.{◌≡◌, ℕ, zero, suc, ◌+◌, ◌*◌, ◌<◌, ◌≤◌, ◌⊎◌, inl, inr, List, [], ◌∷◌, length, map, All, refl, ap, arith, add-one}
use Rattle.std.specs.List.Sorted.{IsStrictlyIncreasing}
use Rattle.std.proofs.lemmas.List.Elements.{All-cons, All-nil}
use Rattle.lexicon_definitions.specs.Lexicons.{Lexicon, RuleSet, IsLexicon}
use Rattle.segmentation_definitions.specs.Derivations.{Step, rule_after, Derives}
use Rattle.segmentation_definitions.specs.Items.{Placed, placed_from, next_at, item_of, rank_of, after_lead}
use Rattle.segmentation_definitions.specs.Listings.{Key, key_of}
use Rattle.segmentation_definitions.specs.LocalTests.{rank_at}
use Rattle.segmentation_definitions.proofs.Coverings.{Unchanged, Changed, StandsIn, StandsBefore, AreInPlace, LastStep, EarlierStep, in_place}

pub after_lead_cases : (lead : ℕ) → ((lead ≡ 0) × (after_lead lead ≡ 1)) ⊎ ((0 < lead) × (after_lead lead ≡ 0))
after_lead_cases zero = inl (refl, refl)
after_lead_cases (suc lead) = inr (omega arith, refl)

-- the next place is above this one
pub rank_rises : {lexicon : Lexicon} {letters : ℕ} {p q : Placed} → StandsIn lexicon letters p → StandsBefore lexicon.rules p q → rank_at p < rank_at q
rank_rises {p = p} {q = q} stands before =
    let here = after_lead_cases p.lead in
    let next = after_lead_cases q.lead in
    elim stands.following [ Unchanged none empty ↦ omega arith | Changed number u w ↦ omega arith ]

pub place_within : {lexicon : Lexicon} {letters : ℕ} {p : Placed} → StandsIn lexicon letters p → (1 ≤ rank_at p) × (rank_at p ≤ 2 * letters)
place_within {p = p} stands =
    let here = after_lead_cases p.lead in
    elim stands.following [ Unchanged none empty ↦ (omega arith, omega arith) | Changed number u w ↦ (omega arith, omega arith) ]

rising_cons : (x y : ℕ) (ys : List ℕ) → x < y → IsStrictlyIncreasing (y ∷ ys) → IsStrictlyIncreasing (x ∷ y ∷ ys)
rising_cons x y ys lt rest zero within = lt
rising_cons x y ys lt rest (suc k) within = rw add-one (rw add-one at (rest k (omega arith)))

pub ranks_rising : {lexicon : Lexicon} {letters : ℕ} {ps : List Placed} → AreInPlace lexicon letters ps → IsStrictlyIncreasing (map rank_of (map item_of ps))
ranks_rising (LastStep stands last) = λ k within. absurd (omega arith)
ranks_rising (EarlierStep {p = p} {q = q} {ps = ps} stands before rest) =
    rising_cons (rank_at p) (rank_at q) (map rank_of (map item_of ps)) (rank_rises stands before) (ranks_rising rest)

pub places_within : {lexicon : Lexicon} {letters : ℕ} {ps : List Placed} → AreInPlace lexicon letters ps
    → All (λ place. (1 ≤ place) × (place ≤ 2 * letters)) (map rank_of (map item_of ps))
places_within {letters = letters} (LastStep {p = p} stands last) =
    All-cons (λ place. (1 ≤ place) × (place ≤ 2 * letters)) (rank_at p) [] (place_within stands) (All-nil (λ place. (1 ≤ place) × (place ≤ 2 * letters)))
places_within {letters = letters} (EarlierStep {p = p} {q = q} {ps = ps} stands before rest) =
    All-cons (λ place. (1 ≤ place) × (place ≤ 2 * letters)) (rank_at p) (map rank_of (map item_of (q ∷ ps))) (place_within stands) (places_within rest)

-- each step but the last has a place below the next
pub steps_within : {lexicon : Lexicon} {letters : ℕ} {p : Placed} {ps : List Placed} → AreInPlace lexicon letters (p ∷ ps)
    → length (p ∷ ps) + rank_at p ≤ 2 * letters + 1
steps_within (LastStep stands last) = omega (arith, place_within stands)
steps_within (EarlierStep stands before rest) = omega (arith, rank_rises stands before, steps_within rest)

pub length_placed : (rules : RuleSet) (start : ℕ) (lead : List ℕ) (steps : List Step) → length (placed_from rules start lead steps) ≡ length steps
length_placed rules start lead [] = refl
length_placed rules start lead (step ∷ steps) = ap suc (length_placed rules (next_at rules start lead step) (rule_after rules step).v steps)

pub steps_bounded : (lexicon : Lexicon) (word : List ℕ) (steps : List Step) → IsLexicon lexicon → Derives lexicon steps word → length steps ≤ 2 * length word
steps_bounded lexicon word [] is derives = omega arith
steps_bounded lexicon word (step ∷ steps) is derives =
    omega (arith, steps_within (in_place lexicon word (step ∷ steps) is derives), length_placed lexicon.rules 0 [] (step ∷ steps))

-- the key has a phase and a rule of the lexicon, and takes no more than all letters
abbrev pub IsKeyWithin : Lexicon → ℕ → Key → Type 0
IsKeyWithin lexicon letters key = (key.phase < length lexicon.phases) × (key.taken ≤ letters) × (key.rule ≤ length lexicon.rules.rules)

pub key_within : {lexicon : Lexicon} {letters : ℕ} {p : Placed} → StandsIn lexicon letters p → IsKeyWithin lexicon letters (key_of p)
key_within stands = elim stands.following [
  | Unchanged none empty ↦ (stands.phase, omega arith, omega arith)
  | Changed number u w ↦ (stands.phase, omega arith, number.1)
]

pub keys_within : {lexicon : Lexicon} {letters : ℕ} {ps : List Placed} → AreInPlace lexicon letters ps → All (IsKeyWithin lexicon letters) (map key_of ps)
keys_within {lexicon = lexicon} {letters = letters} (LastStep {p = p} stands last) =
    All-cons (IsKeyWithin lexicon letters) (key_of p) [] (key_within stands) (All-nil (IsKeyWithin lexicon letters))
keys_within {lexicon = lexicon} {letters = letters} (EarlierStep {p = p} {q = q} {ps = ps} stands before rest) =
    All-cons (IsKeyWithin lexicon letters) (key_of p) (map key_of (q ∷ ps)) (key_within stands) (keys_within rest)
