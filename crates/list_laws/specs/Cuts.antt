-- A text that is cut where a mark first comes (own).
use Rattle.std.specs.Prelude.{ℕ, ◌==◌, if◌then◌else◌, Option, Some, None, List, [], ◌∷◌}

-- a byte before two parts belongs to the first
abbrev pub before_parts : ℕ → Option (List ℕ × List ℕ) → Option (List ℕ × List ℕ)
before_parts byte None = None
before_parts byte (Some parts) = Some (byte ∷ parts.0, parts.1)

-- what comes before the first mark in a text, and what comes after it
abbrev pub cut : ℕ → List ℕ → Option (List ℕ × List ℕ)
cut mark [] = None
cut mark (byte ∷ text) = if byte == mark then Some ([], text) else before_parts byte (cut mark text)
