-- Whether a stop turns is the same before and after the stops to its left have turned, since a turned stop is no z.
use Rattle.std.proofs.Common.{◌≡◌, ℕ, ◌+◌, ◌-◌, ◌<◌, ◌≤◌, ◌↔◌, List, length, slice_index, slice_set, if◌then◌else◌, ◌==◌, arith, ⊎_elim, inl, inr, ap, ◌∙◌}
use Rattle.std.proofs.lemmas.Bool.Decides.{nat_tests}
use Rattle.std.proofs.lemmas.Bool.{cases_lt}
use Rattle.morphology_definitions.specs.InternalSandhi.{IsTurningStop, letter_t, letter_w, letter_W, letter_z}
use Rattle.internal_sandhi.proofs.Turning.{IsTurnedBelow, IsDone, IsTurnedBelow-turn, IsTurnedBelow-stay}

abbrev pub lingual_stop : ℕ → ℕ
lingual_stop n = if n == letter_t then letter_w else letter_W

abbrev pub StopsTurned : ℕ → ℕ → List ℕ → List ℕ → Type 0
StopsTurned start place old now = IsTurnedBelow start place (IsTurningStop old) lingual_stop old now

-- a stop is no z, nor is what it turns into
z_same : (old now : List ℕ) (i : ℕ) → IsDone (IsTurningStop old i) (lingual_stop (slice_index old i)) (slice_index old i) (slice_index now i) → (slice_index now i ≡ letter_z) ↔ (slice_index old i ≡ letter_z)
z_same old now i h =
    elim h.known [ inl t ↦ (λ p. absurd (grind (arith, nat_tests, t.0.stop)), λ p. absurd (grind (arith, t.0.stop))) | inr t ↦ (λ p. cc, λ p. cc) ]

-- the letter before the place is z in the new word exactly where it is in the old one
z_before : (start place : ℕ) (old now : List ℕ) → StopsTurned start place old now → 1 ≤ place → (slice_index now (place - 1) ≡ letter_z) ↔ (slice_index old (place - 1) ≡ letter_z)
z_before start place old now h one =
    ⊎_elim (λ before. let e : slice_index now (place - 1) ≡ slice_index old (place - 1) = h.front (place - 1) before in (λ p. cc, λ p. cc))
    (λ from. z_same old now (place - 1) (h.done (place - 1) from (omega arith)))
    (cases_lt (place - 1) start)

still_turning_stop : (start place : ℕ) (old now : List ℕ) → StopsTurned start place old now → IsTurningStop now place ↔ IsTurningStop old place
still_turning_stop start place old now h =
    let e : slice_index now place ≡ slice_index old place = h.after place (omega arith) in (
      λ t. record { stop = rw e at t.stop; not_first = t.not_first; after_z = (z_before start place old now h t.not_first).0 t.after_z },
      λ t. record { stop = rw (← e) at t.stop; not_first = t.not_first; after_z = (z_before start place old now h t.not_first).1 t.after_z },
    )

pub stops_turn : (start place v : ℕ) (old now : List ℕ) → StopsTurned start place old now → start ≤ place → place < length now → IsTurningStop now place → v ≡ lingual_stop (slice_index now place) → StopsTurned start (place + 1) old (slice_set now place v)
stops_turn start place v old now h in_ending inside turns value =
    IsTurnedBelow-turn start place v (IsTurningStop old) (IsTurningStop old) lingual_stop old now h (record { there = λ i le t. t; back = λ i le t. t }) in_ending inside ((still_turning_stop start place old now h).0 turns) (value ∙ ap lingual_stop (h.after place (omega arith)))

pub stops_stay : (start place : ℕ) (old now : List ℕ) → StopsTurned start place old now → (IsTurningStop now place → ⊥) → StopsTurned start (place + 1) old now
stops_stay start place old now h stays =
    IsTurnedBelow-stay start place (IsTurningStop old) lingual_stop old now h (λ from t. stays ((still_turning_stop start place old now h).1 t))
