-- A measure by which a search comes to an end: the branches taken and the next one, as a number.
use Rattle.std.specs.Prelude.{ℕ, zero, suc, ◌+◌, ◌*◌, ◌-◌, ◌^◌, ◌<◌, List, [], ◌∷◌, All}

-- the number with this many places that has these digits, the first one the highest, and 0 where no digit is left
abbrev pub number : ℕ → ℕ → List ℕ → ℕ
number base zero digits = 0
number base (suc places) [] = 0
number base (suc places) (digit ∷ digits) = digit * base ^ places + number base places digits

-- each is above 0 and below the base
abbrev pub AreDigits : ℕ → List ℕ → Type 0
AreDigits base digits = All (λ digit. (0 < digit) × (digit < base)) digits

-- how far the number is below the first one that has more places
abbrev pub far_from_end : ℕ → ℕ → List ℕ → ℕ
far_from_end base places digits = base ^ places - number base places digits
