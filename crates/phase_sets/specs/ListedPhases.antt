-- How the phases that a field names are listed one after another.
use Rattle.std.specs.Prelude.{ℕ, ◌+◌, ◌^◌, ◌==◌, nat_lt, bit_or, Option, Some, None, option_and_then, if◌then◌else◌, List, length}
use Rattle.std.specs.List.{position, slice_split}
use Rattle.std.specs.Str.{bytes_eq}
use Rattle.trie_text_definitions.specs.LimitedRules.{set_within, phases_named}

-- phases that were named one after another: their set, how many they are, and the number from which on the next one may be
pub record Listed : Type 0 where
  pub set : ℕ
  pub count : ℕ
  pub next : ℕ

-- no phase is listed
abbrev pub nothing_listed : Listed
nothing_listed = record { set = 0; count = 0; next = 0 }

-- one phase more, where it comes after those that are listed
abbrev pub listed_then : Listed → ℕ → Option Listed
listed_then listed phase =
    if nat_lt phase listed.next then None
    else Some (record { set = bit_or listed.set (2 ^ phase); count = listed.count + 1; next = phase + 1 })

-- the phase with this name more
abbrev pub listed_with : List (List ℕ) → Listed → List ℕ → Option Listed
listed_with names listed name = option_and_then (listed_then listed) (position (bytes_eq name) names)

-- the set of the phases that a field names, where they rise and are not all phases
abbrev pub set_listed : List (List ℕ) → List ℕ → Option ℕ
set_listed names field =
    option_and_then (set_within (length names)) (phases_named names (slice_split (λ byte. byte == 44) field))
