-- A number is below the power of its base; one more digit makes it greater, and so does a greater digit, whatever is after it.
use Rattle.std.proofs.Common.{ℕ, zero, suc, ◌+◌, ◌*◌, ◌^◌, ◌<◌, ◌≤◌, List, [], ◌∷◌, ◌++◌, length, sym, subst, arith}
use Rattle.std.proofs.Math.Nat.{one-le-pow, pow-succ', mul-le-mul_right}
use Rattle.std.proofs.lemmas.List.{append_assoc, length-append}
use Rattle.std.proofs.lemmas.List.Elements.{All-head, All-tail}
use Rattle.listing_laws.specs.Measures.{number, AreDigits, far_from_end}

module _ (base : ℕ) where
  abbrev IsDigit : ℕ → Type 0
  IsDigit digit = (0 < digit) × (digit < base)

  pub number_below : (places : ℕ) (digits : List ℕ) → 0 < base → AreDigits base digits → number base places digits < base ^ places
  number_below zero digits some are = one-le-pow zero base (omega arith)
  number_below (suc places) [] some are = one-le-pow (suc places) base (omega arith)
  number_below (suc places) (digit ∷ digits) some are =
      let first : IsDigit digit = All-head IsDigit digit digits are in
      let below : digit < base = first.1 in
      let rest = number_below places digits some (All-tail IsDigit digit digits are) in
      let front : suc digit * base ^ places ≤ base * base ^ places = mul-le-mul_right (base ^ places) below in
      omega (arith, pow-succ' base places)

  pub one_more_digit : (places : ℕ) (digits : List ℕ) (digit : ℕ) → 0 < base → 0 < digit → length digits < places
      → number base places digits < number base places (digits ++ digit ∷ [])
  one_more_digit zero digits digit some above short = absurd (omega arith)
  one_more_digit (suc places) [] digit some above short =
      let power = one-le-pow places base some in
      let front : 1 * base ^ places ≤ digit * base ^ places = mul-le-mul_right (base ^ places) above in
      omega arith
  one_more_digit (suc places) (first ∷ digits) digit some above short =
      let rest = one_more_digit places digits digit some above (omega arith) in
      omega arith

  pub greater_digit : (places : ℕ) (front : List ℕ) (left right : ℕ) (more others : List ℕ) → 0 < base → left < right
      → AreDigits base more → length front < places
      → number base places (front ++ left ∷ more) < number base places (front ++ right ∷ others)
  greater_digit zero front left right more others some less are short = absurd (omega arith)
  greater_digit (suc places) [] left right more others some less are short =
      let rest = number_below places more some are in
      let front : suc left * base ^ places ≤ right * base ^ places = mul-le-mul_right (base ^ places) less in
      omega arith
  greater_digit (suc places) (first ∷ front) left right more others some less are short =
      let rest = greater_digit places front left right more others some less are (omega arith) in
      omega arith

  -- the digits after some are digits
  later_digits : (front later : List ℕ) → AreDigits base (front ++ later) → AreDigits base later
  later_digits [] later are = are
  later_digits (digit ∷ front) later are = later_digits front later (All-tail IsDigit digit (front ++ later) are)

  -- the measure falls where the next branch is taken, and a first one comes next
  pub falls_at_entering : (places : ℕ) (taken : List ℕ) (next first : ℕ) → 0 < base → AreDigits base (taken ++ next ∷ []) → 0 < first
      → length taken + 1 < places
      → far_from_end base places ((taken ++ next ∷ []) ++ first ∷ []) < far_from_end base places (taken ++ next ∷ [])
  falls_at_entering places taken next first some are above short =
      let below = number_below places (taken ++ next ∷ []) some are in
      let long : length (taken ++ next ∷ []) < places = omega (arith, length-append taken (next ∷ [])) in
      let rises = one_more_digit places (taken ++ next ∷ []) first some above long in
      omega arith

  -- where a later one comes next
  pub falls_at_passing : (places : ℕ) (taken : List ℕ) (next later : ℕ) (more : List ℕ) → 0 < base → AreDigits base (taken ++ next ∷ more)
      → next < later → length taken < places
      → far_from_end base places (taken ++ later ∷ []) < far_from_end base places (taken ++ next ∷ more)
  falls_at_passing places taken next later more some are less short =
      let below = number_below places (taken ++ next ∷ more) some are in
      let rises = greater_digit places taken next later more [] some less (All-tail IsDigit next more (later_digits taken (next ∷ more) are)) short in
      omega arith

  -- and where the last frame is taken off, and one later than the one taken there comes next
  pub falls_at_leaving : (places : ℕ) (taken : List ℕ) (last next later : ℕ) → 0 < base → AreDigits base ((taken ++ last ∷ []) ++ next ∷ [])
      → last < later → length taken < places
      → far_from_end base places (taken ++ later ∷ []) < far_from_end base places ((taken ++ last ∷ []) ++ next ∷ [])
  falls_at_leaving places taken last next later some are less short =
      let parted = append_assoc taken (last ∷ []) (next ∷ []) in
      subst (λ digits. far_from_end base places (taken ++ later ∷ []) < far_from_end base places digits) (sym parted)
      (falls_at_passing places taken last later (next ∷ []) some (subst (AreDigits base) parted are) less short)
