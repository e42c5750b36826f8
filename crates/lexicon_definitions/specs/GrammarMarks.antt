-- Which names of a grammar can begin a word, end one and stand right after one another (own, after the position automata
-- of regular languages).
use Rattle.std.proofs.Common.{◌≡◌, ℕ, zero, suc, List, [], ◌∷◌, ◌++◌}
use Rattle.lexicon_definitions.specs.Grammars.{Grammar, Mark, Reads, IsPositionAfter}

-- some reading begins with the mark
abbrev pub IsFirst : Grammar → ℕ → Mark → Type 0
IsFirst g from mark = (rest : List Mark) × Reads g from (mark ∷ rest)

-- some reading ends with the mark
abbrev pub IsLast : Grammar → ℕ → Mark → Type 0
IsLast g from mark = (front : List Mark) × Reads g from (front ++ mark ∷ [])

-- some reading has the second mark right after the first
abbrev pub IsPair : Grammar → ℕ → Mark → Mark → Type 0
IsPair g from first second = (front : List Mark) × (rest : List Mark) × Reads g from (front ++ first ∷ second ∷ rest)

-- the positions after a list; nothing read yet is written as the position 0
abbrev pub IsPositionIn : Grammar → List ℕ → ℕ → Type 0
IsPositionIn g [] position = position ≡ 0
IsPositionIn g (phase ∷ phases) position = IsPositionAfter g (phase ∷ phases) position

-- the phase is read at the one position right after the other
abbrev pub IsLink : Grammar → ℕ → ℕ → ℕ → Type 0
IsLink g zero phase position = (mark : Mark) × IsFirst g 1 mark × (mark.phase ≡ phase) × (mark.position ≡ position)
IsLink g (suc before) phase position =
    (first : Mark) × (second : Mark) × IsPair g 1 first second × (first.position ≡ suc before) × (second.phase ≡ phase)
    × (second.position ≡ position)

-- a word may end at the position
abbrev pub IsFinal : Grammar → ℕ → Type 0
IsFinal g zero = Reads g 1 []
IsFinal g (suc position) = (mark : Mark) × IsLast g 1 mark × (mark.position ≡ suc position)
