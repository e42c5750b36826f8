-- The text of the input that `demo` makes, in SLP1 (own).
use Rattle.std.specs.Prelude.{ℕ, zero, suc, ◌*◌, ◌==◌, nat_eq, ◌&&◌, Bool, false, List, [], ◌∷◌, ◌++◌, length, slice_index_or, codes, if◌then◌else◌}
use Rattle.std.specs.List.{list_any, ends_with}
use Rattle.morphology_definitions.specs.Inflection.{without_last}
use Rattle.demo_definitions.specs.declared.limits.TheConstants.{STEM_DRAWS, TEXT_WORDS}
use Rattle.demo_definitions.specs.Draws.{next_seed, seed_after, drawn_of}
use Rattle.demo_definitions.specs.DrawnStems.{stems_of_number}

-- the endings of the first four rows of the table
abbrev pub endings : List (List ℕ)
endings = codes "aH" ∷ codes "ena" ∷ codes "Aya" ∷ codes "e" ∷ []

-- a word is one of the stems without its last letter, and then one of the endings
unfoldable pub word_drawn : List (List ℕ) → ℕ → List ℕ
word_drawn stems seed =
    without_last 1 (slice_index_or stems (drawn_of (length stems) seed) [])
    ++ slice_index_or endings (drawn_of (length endings) (next_seed seed)) []

-- the word begins with one of the letters before which aH becomes o
abbrev pub begins_voiced : List ℕ → Bool
begins_voiced [] = false
begins_voiced (byte ∷ word) = list_any (λ letter. letter == byte) (codes "gjdbmy")

-- the text with one word more: aH at its end becomes o before a voiced consonant
abbrev pub with_word : List ℕ → List ℕ → List ℕ
with_word text word =
    if ends_with nat_eq text (codes "aH") && begins_voiced word then without_last 2 text ++ codes "o" ++ word else text ++ word

-- the text of so many words, each from two draws
unfoldable pub text_drawn : List (List ℕ) → ℕ → ℕ → List ℕ
text_drawn stems seed zero = []
text_drawn stems seed (suc count) = with_word (text_drawn stems seed count) (word_drawn stems (seed_after seed (2 * count)))

-- the text of a number: its words are drawn after its stems
unfoldable pub text_of_number : ℕ → List ℕ
text_of_number number = text_drawn (stems_of_number number) (seed_after number (5 * STEM_DRAWS)) TEXT_WORDS
