-- A step of internal sandhi in the middle of its loop: at each place that the loop has passed the letter has turned where it had to, and else has stayed.
use Rattle.std.proofs.Common.{◌≡◌, ◌≢◌, ℕ, ◌+◌, ◌<◌, ◌≤◌, ◌⊎◌, List, length, slice_index, slice_set, arith, inl, inr, ◌∙◌, ⊎_elim}
use Rattle.std.proofs.lemmas.List.{get_or-set_same, get_or-set_other}
use Rattle.std.proofs.lemmas.Bool.{cases_lt}
use Rattle.morphology_definitions.specs.InternalSandhi.{TurnsFrom}

-- the letter at a place has turned where it had to, else it is the old one
pub record IsDone (Turns : Type 0) (turned was is_now : ℕ) : Type 0 where
  pub known : (Turns × (is_now ≡ turned)) ⊎ ((Turns → ⊥) × (is_now ≡ was))

-- from the left: the ending is done below the place, and all else is the old word
pub record IsTurnedBelow (start place : ℕ) (Turns : ℕ → Type 0) (turned : ℕ → ℕ) (old now : List ℕ) : Type 0 where
  pub front : (i : ℕ) → i < start → slice_index now i ≡ slice_index old i
  pub done : (i : ℕ) → start ≤ i → i < place → IsDone (Turns i) (turned (slice_index old i)) (slice_index old i) (slice_index now i)
  pub after : (i : ℕ) → place ≤ i → slice_index now i ≡ slice_index old i

-- what turned before the write turns after it, below the place and at it
pub record SameTurns (place : ℕ) (Turns Turns' : ℕ → Type 0) : Type 0 where
  pub there : (i : ℕ) → i ≤ place → Turns i → Turns' i
  pub back : (i : ℕ) → i ≤ place → Turns' i → Turns i

IsDone-along : {Turns Turns' : Type 0} {turned was is_now is_then : ℕ} → (Turns → Turns') → (Turns' → Turns) → is_then ≡ is_now → IsDone Turns turned was is_now → IsDone Turns' turned was is_then
IsDone-along there back e h =
    record { known = elim h.known [ inl t ↦ inl (there t.0, cc) | inr t ↦ inr ((λ q. t.0 (back q)), cc) ] }

-- a letter that turns is written at the place
pub IsTurnedBelow-turn : (start place v : ℕ) (Turns Turns' : ℕ → Type 0) (turned : ℕ → ℕ) (old now : List ℕ)
    → IsTurnedBelow start place Turns turned old now → SameTurns place Turns Turns' → start ≤ place → place < length now → Turns place → v ≡ turned (slice_index old place)
    → IsTurnedBelow start (place + 1) Turns' turned old (slice_set now place v)
IsTurnedBelow-turn start place v Turns Turns' turned old now h same in_ending inside turns value =
    record {
      front = λ i lt. let ne : i ≢ place = omega arith in rw get_or-set_other (h.front i lt);
      done = λ i from lt. ⊎_elim
          (λ below. let ne : i ≢ place = omega arith in IsDone-along (same.there i (omega arith)) (same.back i (omega arith)) (get_or-set_other now place i v 0 ne) (h.done i from below))
          (λ here. let e : i ≡ place = omega arith in rw e (record { known = inl (same.there place (omega arith) turns, get_or-set_same now place v 0 inside ∙ value) }))
          (cases_lt i place);
      after = λ i le. let ne : i ≢ place = omega arith in rw get_or-set_other (h.after i (omega arith));
    }

-- the letter at the place stays
pub IsTurnedBelow-stay : (start place : ℕ) (Turns : ℕ → Type 0) (turned : ℕ → ℕ) (old now : List ℕ)
    → IsTurnedBelow start place Turns turned old now → (start ≤ place → Turns place → ⊥)
    → IsTurnedBelow start (place + 1) Turns turned old now
IsTurnedBelow-stay start place Turns turned old now h stays =
    record {
      front = h.front;
      done = λ i from lt. ⊎_elim (λ below. h.done i from below) (λ here. let e : i ≡ place = omega arith in rw e (record { known = inr (stays (omega arith), h.after place (omega arith)) })) (cases_lt i place);
      after = λ i le. h.after i (omega arith);
    }

-- where the loop has passed the whole word, the step is made
pub TurnsFrom-from_below : (start place : ℕ) (Turns : ℕ → Type 0) (turned : ℕ → ℕ) (old new : List ℕ)
    → IsTurnedBelow start place Turns turned old new → length new ≡ length old → length old ≤ place → ((i : ℕ) → Turns i → i < length old)
    → TurnsFrom start Turns turned old new
TurnsFrom-from_below start place Turns turned old new h same past inside =
    record {
      same_length = same;
      front = h.front;
      turns = λ i from t.
          let d = h.done i from (omega (arith, inside i t)) in
          elim d.known [ inl k ↦ k.1 | inr k ↦ absurd (k.0 t) ];
      stays = λ i n. ⊎_elim (λ front. h.front i front)
          (λ from. ⊎_elim
          (λ below. elim (h.done i from below).known [ inl k ↦ absurd (n k.0) | inr k ↦ k.1 ])
          (λ past. h.after i past)
          (cases_lt i place))
          (cases_lt i start);
    }
