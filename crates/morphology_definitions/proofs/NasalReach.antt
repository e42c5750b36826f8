-- Whether n turns at a place rests on the new word below the place alone.
use Rattle.std.proofs.Common.{◌≡◌, ℕ, ◌-◌, ◌<◌, List, slice_index, arith, inl, inr, ⊎_elim, ◌∙◌}
use Rattle.morphology_definitions.specs.InternalSandhi.{IsTurningNasal, IsAfterTurned, IsReached}

-- two words have the same letters below a place
pub record SameBelow (i : ℕ) (now new : List ℕ) : Type 0 where
  pub same : (l : ℕ) → l < i → slice_index new l ≡ slice_index now l

pub IsReached-along : (i : ℕ) (old now new : List ℕ) → SameBelow i now new → IsReached old now i → IsReached old new i
IsReached-along i old now new below r =
    record {
      place = r.place;
      before = r.before;
      turner = r.turner;
      between = λ l a b. rw (below.same l b) (r.between l a b);
    }

IsAfterTurned-along : (start i : ℕ) (old now new : List ℕ) → SameBelow i now new → IsAfterTurned start old now i → IsAfterTurned start old new i
IsAfterTurned-along start i old now new below a =
    record {
      in_ending = a.in_ending;
      was = a.was;
      is_now = below.same (i - 1) (omega (arith, a.in_ending)) ∙ a.is_now;
    }

pub IsTurningNasal-along : (start i : ℕ) (old now new : List ℕ) → SameBelow i now new → IsTurningNasal start old now i → IsTurningNasal start old new i
IsTurningNasal-along start i old now new below t =
    (t.0, ⊎_elim (λ a. inl (IsAfterTurned-along start i old now new below a)) (λ r. inr (r.0, IsReached-along i old now new below r.1)) t.1)
