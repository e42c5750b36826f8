-- Texts that are cut at marks, and put together with marks (own).
use Rattle.std.specs.Prelude.{ℕ, ◌==◌, List, [], ◌∷◌, ◌++◌, length}
use Rattle.std.specs.List.{slice_split}

-- the parts between the marks
abbrev pub parts_at : ℕ → List ℕ → List (List ℕ)
parts_at mark text = slice_split (λ byte. byte == mark) text

-- the list with one part more, which comes after a `,` where it is not the first
abbrev pub with_part : List ℕ → List ℕ → List ℕ
with_part [] part = part
with_part (byte ∷ list) part = (byte ∷ list) ++ 44 ∷ part

-- the blank before the word that comes after these letters, where it is not the first word
abbrev pub blank_after : List ℕ → List ℕ
blank_after [] = []
blank_after (letter ∷ letters) = length (letter ∷ letters) ∷ []
