-- Texts that are cut at marks.
use Rattle.std.specs.Prelude.{ℕ, ◌==◌, Option, Some, None, List, [], ◌∷◌}
use Rattle.std.specs.List.{slice_split}

-- the parts of the text between the marks
abbrev pub parts_at : ℕ → List ℕ → List (List ℕ)
parts_at mark text = slice_split (λ byte. byte == mark) text

-- the parts of what comes after a mark, if anything
abbrev pub parts_after : ℕ → Option (List ℕ) → List (List ℕ)
parts_after mark None = []
parts_after mark (Some text) = parts_at mark text

-- the parts, where there are three
abbrev pub three_of : List (List ℕ) → Option (List ℕ × List ℕ × List ℕ)
three_of (first ∷ second ∷ third ∷ []) = Some (first, second, third)
three_of parts = None
