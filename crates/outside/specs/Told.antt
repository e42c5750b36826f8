-- What a source has left and what a sink has taken, where the device tells it. `None` is a device that doesn't.
use Rattle.std.specs.Prelude.{◌≡◌, ℕ, List, [], ◌++◌, take, Option, None, Some}

-- these bytes, and then those that are told
abbrev pub bytes_before : List ℕ → Option (List ℕ) → Option (List ℕ)
bytes_before bytes None = None
bytes_before bytes (Some told) = Some (bytes ++ told)

-- the bytes that are told, and then these
abbrev pub bytes_after : Option (List ℕ) → List ℕ → Option (List ℕ)
bytes_after None bytes = None
bytes_after (Some told) bytes = Some (told ++ bytes)

-- no byte is left, where that is told
abbrev pub IsAtEnd : Option (List ℕ) → Type 0
IsAtEnd None = Unit {0}
IsAtEnd (Some told) = told ≡ []

-- the told bytes grew by a prefix of these bytes, from none of them to all
pub record GrowsByPrefix (old new : Option (List ℕ)) (bytes : List ℕ) : Type 0 where
  pub count : ℕ
  pub grown : new ≡ bytes_after old (take count bytes)
