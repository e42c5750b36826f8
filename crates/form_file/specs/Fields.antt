-- Fields of a line by their number.
use Rattle.std.specs.Prelude.{◌≡◌, ◌≢◌, ℕ, Option, Some, None, List, [], ◌∷◌, ◌++◌, All}
use Rattle.std.specs.Borrow.{Bor}
use Rattle.std.specs.List.{position}
use Rattle.std.specs.Str.{bytes_eq}

-- what comes after the blank, as bytes
abbrev pub text_of_rest : Option (Bor (List ℕ)) → Option (List ℕ)
text_of_rest None = None
text_of_rest (Some rest) = Some rest.now

-- the fields, where there is one
abbrev pub one_of : List (List ℕ) → Option (List ℕ)
one_of (first ∷ []) = Some first
one_of fields = None

-- where there are two
abbrev pub two_of : List (List ℕ) → Option (List ℕ × List ℕ)
two_of (first ∷ second ∷ []) = Some (first, second)
two_of fields = None

-- where there are four
abbrev pub four_of : List (List ℕ) → Option (List ℕ × List ℕ × List ℕ × List ℕ)
four_of (first ∷ second ∷ third ∷ fourth ∷ []) = Some (first, second, third, fourth)
four_of fields = None

-- the text is the name of the phase with this number, which has no blank, then a blank, and then the rest
abbrev pub BeginsWithPhase : List (List ℕ) → List ℕ → ℕ → List ℕ → Type 0
BeginsWithPhase names text phase rest =
    (name : List ℕ) × (text ≡ name ++ 32 ∷ rest) × All (λ byte. byte ≢ 32) name × (Some phase ≡ position (bytes_eq name) names)
