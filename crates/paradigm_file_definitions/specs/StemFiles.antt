-- Stem files: the stems with their classes, or the first fault (own).
use Rattle.std.specs.Prelude.{ℕ, ◌+◌, ◌==◌, ◌&&◌, ◌||◌, ◌++◌, nat_lt, Bool, if◌then◌else◌, Option, Some, None, Result, Ok, Err, List, [], ◌∷◌, length, sum_by}
use Rattle.std.specs.List.{list_any, position}
use Rattle.std.specs.Str.{bytes_eq}
use Rattle.text_definitions.specs.Slp1.{word_of_slp1}
use Rattle.lexicon_definitions.specs.declared.limits.TheConstants.{MOST_FORM_LETTERS}
use Rattle.lexicon_text_definitions.specs.FileSteps.{some_word}
use Rattle.morphology_definitions.specs.Inflection.{Row, Class, Stem, rows_of, form_length}
use Rattle.paradigm_file_definitions.specs.declared.limits.TheConstants.{MOST_STEM_RECORDS, MOST_INFLECTIONS}
use Rattle.paradigm_file_definitions.specs.Records.{records_of, FileResult, read_records}
use Rattle.paradigm_file_definitions.specs.TableFiles.{has_name}
use Rattle.paradigm_file_definitions.specs.StemFaults.{StemWhy, Fields, Spelling, UnknownClass, Short, Limit, Twice}

-- ---- the stems

-- the two stems are the same, and of one class
abbrev pub is_same_stem : Stem → Stem → Bool
is_same_stem new stem = bytes_eq new.letters stem.letters && new.class == stem.class

-- the row cuts more letters than the stem has, or leaves a form without letters
abbrev pub is_too_short : List ℕ → Row → Bool
is_too_short stem row = nat_lt (length stem) row.cut || form_length row stem == 0

-- the row's form of the stem has too many letters
abbrev pub is_too_long : List ℕ → Row → Bool
is_too_long stem row = nat_lt MOST_FORM_LETTERS (form_length row stem)

-- how many forms these stems have: for each stem as many as its class has rows
abbrev pub count_inflections : List Class → List Stem → ℕ
count_inflections classes stems = sum_by (λ stem. length (rows_of classes stem.class)) stems

-- ---- a record

-- what is told after a record, the stems so far, or why the record is refused
abbrev pub TakenStem : Type 0
TakenStem = Result (List Stem) StemWhy

-- the stem or some form of it is too long, or with it there are too many records or forms
abbrev pub passes_stem_limits : List Class → ℕ → List Stem → Stem → Bool
passes_stem_limits classes number stems new =
    nat_lt MOST_FORM_LETTERS (length new.letters) || list_any (is_too_long new.letters) (rows_of classes new.class)
    || nat_lt MOST_STEM_RECORDS number
    || nat_lt MOST_INFLECTIONS (count_inflections classes stems + length (rows_of classes new.class))

abbrev pub take_classed : List Class → ℕ → List Stem → Stem → TakenStem
take_classed classes number stems new =
    if list_any (is_too_short new.letters) (rows_of classes new.class) then Err Short
    else if passes_stem_limits classes number stems new then Err Limit
    else if list_any (is_same_stem new) stems then Err Twice
    else Ok (stems ++ new ∷ [])

abbrev pub take_class : List Class → ℕ → List Stem → List ℕ → Option ℕ → TakenStem
take_class classes number stems letters None = Err UnknownClass
take_class classes number stems letters (Some class) =
    take_classed classes number stems (record { letters = letters; class = class })

abbrev pub take_letters : List Class → ℕ → List Stem → Option (List ℕ) → List ℕ → TakenStem
take_letters classes number stems None name = Err Spelling
take_letters classes number stems (Some letters) name =
    take_class classes number stems letters (position (has_name name) classes)

-- a record has the fields stem and class; the class is one of these, and its number counts from 0
unfoldable pub take_stem : List Class → ℕ → List Stem → List (List ℕ) → TakenStem
take_stem classes number stems (letters ∷ name ∷ []) =
    take_letters classes number stems (some_word (word_of_slp1 letters)) name
take_stem classes number stems fields = Err Fields

-- ---- a file

-- the stems of a stem file in the order of its records, or the file's first fault
unfoldable pub stems_of : List Class → List ℕ → FileResult (List Stem) StemWhy
stems_of classes bytes = read_records (take_stem classes) 1 [] (records_of bytes)
