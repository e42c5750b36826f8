-- The stems of the input that `demo` makes, as their texts in SLP1 (own).
use Rattle.std.specs.Prelude.{ℕ, zero, suc, ◌*◌, List, [], ◌∷◌, ◌++◌, length, slice_index, codes, if◌then◌else◌}
use Rattle.std.specs.List.{list_any}
use Rattle.std.specs.Str.{bytes_eq}
use Rattle.demo_definitions.specs.declared.limits.TheConstants.{STEM_DRAWS}
use Rattle.demo_definitions.specs.Draws.{seed_after, drawn_of}

-- the letter at the place that is drawn
abbrev pub letter_drawn : List ℕ → ℕ → ℕ
letter_drawn letters seed = slice_index letters (drawn_of (length letters) seed)

-- the letters that are drawn from: consonants, and vowels
abbrev pub consonants : List ℕ
consonants = codes "kgcjtdpbmy"

abbrev pub vowels : List ℕ
vowels = codes "aiu"

-- a stem has five drawn letters, consonants and vowels by turns, and then `a`
unfoldable pub stem_drawn : ℕ → List ℕ
stem_drawn seed =
    letter_drawn consonants seed ∷ letter_drawn vowels (seed_after seed 1) ∷ letter_drawn consonants (seed_after seed 2)
    ∷ letter_drawn vowels (seed_after seed 3) ∷ letter_drawn consonants (seed_after seed 4) ∷ codes "a"

-- the stems with this one after them, unless it is one of them
abbrev pub with_stem : List (List ℕ) → List ℕ → List (List ℕ)
with_stem stems stem = if list_any (bytes_eq stem) stems then stems else stems ++ stem ∷ []

-- the different stems among so many that are drawn, each from five draws, in the order in which they first come
unfoldable pub stems_drawn : ℕ → ℕ → List (List ℕ)
stems_drawn seed zero = []
stems_drawn seed (suc count) = with_stem (stems_drawn seed count) (stem_drawn (seed_after seed (5 * count)))

-- the stems of a number
unfoldable pub stems_of_number : ℕ → List (List ℕ)
stems_of_number number = stems_drawn number STEM_DRAWS
