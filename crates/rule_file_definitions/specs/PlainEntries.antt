-- The plain pairs of a rule file (own): an entry `X Y`, where X and Y are each a letter, or `<name>` of a class and then
-- stand for each of its letters.
use Rattle.std.specs.Prelude.{ℕ, ◌+◌, ◌==◌, if◌then◌else◌, Option, Some, None, Result, Ok, Err, List, [], ◌∷◌, map, option_and_then}
use Rattle.std.specs.List.{flat_map}
use Rattle.text_definitions.specs.Spellings.{Reading}
use Rattle.text_definitions.specs.Slp1.{word_of_slp1}
use Rattle.toml.specs.Data.{Members}
use Rattle.lexicon_definitions.specs.Lexicons.{compare_pairs}
use Rattle.list_laws.specs.Cuts.{cut}
use Rattle.list_laws.specs.RisingSets.{with_elements}
use Rattle.rule_file_definitions.specs.RuleFileFaults.{Fault, Plain}
use Rattle.rule_file_definitions.specs.SoundClasses.{letters_named}

-- the front, where nothing comes after it
abbrev pub front_alone : Option (List ℕ × List ℕ) → Option (List ℕ)
front_alone (Some (front, [])) = Some front
front_alone parts = None

-- the name between `<` and the first `>`, where nothing else is there
abbrev pub name_between : List ℕ → Option (List ℕ)
name_between [] = None
name_between (byte ∷ text) = if byte == 60 then front_alone (cut 62 text) else None

-- the one letter that the side spells, or the letters of the class that it names
abbrev pub side_as : Members → List ℕ → Reading → Option (List ℕ)
side_as classes side (Ok (letter ∷ [])) = Some (letter ∷ [])
side_as classes side reading = option_and_then (letters_named classes) (name_between side)

unfoldable pub side_letters : Members → List ℕ → Option (List ℕ)
side_letters classes side = side_as classes side (word_of_slp1 side)

-- each letter of the left before each letter of the right
abbrev pub pairs_between : List ℕ → List ℕ → List (ℕ × ℕ)
pairs_between left right = flat_map (λ x. map (λ y. (x, y)) right) left

abbrev pub pairs_with : Option (List ℕ) → Option (List ℕ) → Option (List (ℕ × ℕ))
pairs_with (Some left) (Some right) = Some (pairs_between left right)
pairs_with left right = None

-- the sides come before and after the first blank; a side with a blank in it is neither a letter nor a class
abbrev pub pairs_of_sides : Members → Option (List ℕ × List ℕ) → Option (List (ℕ × ℕ))
pairs_of_sides classes None = None
pairs_of_sides classes (Some sides) = pairs_with (side_letters classes sides.0) (side_letters classes sides.1)

-- the pairs that an entry stands for
unfoldable pub pairs_of : Members → List ℕ → Option (List (ℕ × ℕ))
pairs_of classes entry = pairs_of_sides classes (cut 32 entry)

-- the pairs of one entry more, and then what follows; or the number of the entry, where it stands for no pairs
abbrev pub with_pairs : List (ℕ × ℕ) → ℕ → Option (List (ℕ × ℕ)) → (List (ℕ × ℕ) → Result (List (ℕ × ℕ)) Fault)
    → Result (List (ℕ × ℕ)) Fault
with_pairs pairs number None following = Err (Plain number)
with_pairs pairs number (Some more) following = following (with_elements compare_pairs pairs more)

-- the rising set of pairs with those of these entries, the first of which has this number
abbrev pub add_plain : Members → List (ℕ × ℕ) → ℕ → List (List ℕ) → Result (List (ℕ × ℕ)) Fault
add_plain classes pairs number [] = Ok pairs
add_plain classes pairs number (entry ∷ entries) =
    with_pairs pairs number (pairs_of classes entry) (λ more. add_plain classes more (number + 1) entries)

-- the set of the pairs of all entries, rising
unfoldable pub read_plain : Members → List (List ℕ) → Result (List (ℕ × ℕ)) Fault
read_plain classes entries = add_plain classes [] 1 entries
