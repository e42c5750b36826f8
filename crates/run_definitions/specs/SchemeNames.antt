-- The scheme that the words of a command give (own).
use Rattle.std.specs.Prelude.{◌≡◌, ℕ, List, [], ◌∷◌}
use Rattle.text_definitions.specs.Schemes.{Scheme, Slp1, name_of_scheme}

-- the values of `--in` give the scheme: there is one value at most, which is the scheme's name; without a value it is SLP1
abbrev pub GiveScheme : List (List ℕ) → Scheme → Type 0
GiveScheme [] scheme = scheme ≡ Slp1
GiveScheme (value ∷ []) scheme = value ≡ name_of_scheme scheme
GiveScheme (value ∷ other ∷ values) scheme = ⊥
