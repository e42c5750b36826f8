-- Numbers as a reader types them (own).
use Rattle.std.specs.Prelude.{ℕ, ◌&&◌, nat_le, Bool, List, length}
use Rattle.std.specs.Str.{all_ascii_digits}

-- one digit or more, but not too many, which may begin with 0
abbrev pub are_digits_up_to : ℕ → List ℕ → Bool
are_digits_up_to most text = nat_le 1 (length text) && nat_le (length text) most && all_ascii_digits text
