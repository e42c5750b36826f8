-- The letters that a table of codes gives to the bytes.
use Rattle.std.specs.Prelude.{ℕ, List, Option, Some, None, slice_index, nat_lt, if◌then◌else◌}

-- the letter with this code, where there is one
abbrev pub letter_with_code : ℕ → Option ℕ
letter_with_code code = if nat_lt 0 code then (if nat_lt code 51 then Some code else None) else None

-- the letter that the table has for a byte: its entry is a code, or 0 for no letter
abbrev pub letter_by_code : List ℕ → ℕ → Option ℕ
letter_by_code codes byte = letter_with_code (slice_index codes byte)
