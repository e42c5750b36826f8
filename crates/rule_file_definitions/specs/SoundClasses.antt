-- The phases and the classes of letters that a rule file names (own).
use Rattle.std.specs.Prelude.{ℕ, ◌+◌, ◌&&◌, not, nat_le, nat_lt, Bool, true, false, if◌then◌else◌, Option, Some, None, is_some, Result, Ok, Err, List, [], ◌∷◌, ◌++◌, ◌==◌, length}
use Rattle.std.specs.List.{list_any, list_all}
use Rattle.std.specs.Str.{bytes_eq}
use Rattle.toml.specs.Data.{Data, string, Members, no_members, member, get_member}
use Rattle.text_definitions.specs.Spellings.{Reading}
use Rattle.text_definitions.specs.Slp1.{word_of_slp1}
use Rattle.lexicon_definitions.specs.declared.limits.TheConstants.{MOST_PHASES}
use Rattle.lexicon_definitions.specs.PhaseNames.{is_phase_name}
use Rattle.lexicon_definitions.specs.GrammarFaults.{is_small_letter}
use Rattle.rule_file_definitions.specs.declared.limits.TheConstants.{MOST_CLASS_NAME_LETTERS}
use Rattle.rule_file_definitions.specs.RuleFileFaults.{Fault, Phase, Class}

-- ---- phases

-- the name may come next after these: a phase may have it, there is room for it, and it is not one of them
unfoldable pub may_come_next : List (List ℕ) → List ℕ → Bool
may_come_next names name =
    is_phase_name name && nat_lt (length names) MOST_PHASES && not (list_any (bytes_eq name) names)

-- the names with these too, the first of which has this number, or the number of the first that may not come next
abbrev pub name_phases : List (List ℕ) → ℕ → List (List ℕ) → Result (List (List ℕ)) Fault
name_phases names number [] = Ok names
name_phases names number (name ∷ entries) =
    if may_come_next names name then name_phases (names ++ name ∷ []) (number + 1) entries else Err (Phase number)

-- the names of the phases, of which there is one at least
unfoldable pub read_phases : List (List ℕ) → Result (List (List ℕ)) Fault
read_phases [] = Err (Phase 0)
read_phases (name ∷ entries) = name_phases [] 1 (name ∷ entries)

-- ---- classes

-- a class has a name of 1 to 16 small letters
abbrev pub is_sound_class_name : List ℕ → Bool
is_sound_class_name [] = false
is_sound_class_name (byte ∷ bytes) = nat_le (length (byte ∷ bytes)) MOST_CLASS_NAME_LETTERS && list_all is_small_letter (byte ∷ bytes)

-- these letters differ from the earlier ones and from one another
abbrev pub are_new : List ℕ → List ℕ → Bool
are_new earlier [] = true
are_new earlier (letter ∷ letters) = not (list_any (λ other. other == letter) earlier) && are_new (earlier ++ letter ∷ []) letters

-- the word, where it has a letter and no letter twice
abbrev pub different_letters : Reading → Option (List ℕ)
different_letters (Ok (letter ∷ word)) = if are_new [] (letter ∷ word) then Some (letter ∷ word) else None
different_letters reading = None

-- the letters of a class whose text is this: one or more different ones, in their order
unfoldable pub class_letters : List ℕ → Option (List ℕ)
class_letters text = different_letters (word_of_slp1 text)

-- the member is a class
abbrev pub is_class : List ℕ → Data → Bool
is_class name (string text) = is_sound_class_name name && is_some (class_letters text)
is_class name held = false

-- the members, which stand by rising name and are numbered from this number on, where each is a class; or the number of the first
-- that is no class
abbrev pub check_classes : Members → ℕ → Members → Result Members Fault
check_classes all number no_members = Ok all
check_classes all number (member name held rest) =
    if is_class name held then check_classes all (number + 1) rest else Err (Class number)

-- the classes of a file
unfoldable pub read_classes : Members → Result Members Fault
read_classes classes = check_classes classes 1 classes

-- the letters of a class, where there is one
abbrev pub letters_in : Option Data → Option (List ℕ)
letters_in (Some (string text)) = class_letters text
letters_in held = None

-- the letters of the class with this name
unfoldable pub letters_named : Members → List ℕ → Option (List ℕ)
letters_named classes name = if is_sound_class_name name then letters_in (get_member name classes) else None
