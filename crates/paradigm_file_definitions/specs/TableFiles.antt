-- Table files: the rows of each class, or the first fault (own).
use Rattle.std.specs.Prelude.{ℕ, ◌+◌, ◌-◌, ◌*◌, ◌==◌, ◌&&◌, ◌||◌, ◌++◌, nat_le, nat_lt, Bool, false, if◌then◌else◌, Option, Some, None, Result, Ok, Err, List, [], ◌∷◌, length}
use Rattle.std.specs.List.{list_any, list_all, position}
use Rattle.std.specs.Char.{is_ascii_alphanumeric, is_ascii_digit}
use Rattle.std.specs.Str.{bytes_eq}
use Rattle.text_definitions.specs.Spellings.{Reading}
use Rattle.text_definitions.specs.Slp1.{word_of_slp1}
use Rattle.lexicon_definitions.specs.declared.limits.TheConstants.{MOST_FORM_LETTERS}
use Rattle.lexicon_text_definitions.specs.FileContents.{is_tag_text}
use Rattle.morphology_definitions.specs.Inflection.{Row, Class}
use Rattle.paradigm_file_definitions.specs.declared.limits.TheConstants.{MOST_TABLE_RECORDS, MOST_AFFIX_LETTERS, MOST_CLASS_NAME_BYTES}
use Rattle.paradigm_file_definitions.specs.Records.{records_of, FileResult, read_records}
use Rattle.paradigm_file_definitions.specs.TableFaults.{TableWhy, Fields, Tag, Phase, Spelling, Limit, Twice}

-- ---- the fields

-- a class's name has letters from a to z and A to Z, digits, `.` and `_`
abbrev pub is_class_byte : ℕ → Bool
is_class_byte byte = is_ascii_alphanumeric byte || byte == 46 || byte == 95

-- a class's name has 1 to 16 bytes
abbrev pub is_class_name : List ℕ → Bool
is_class_name [] = false
is_class_name (byte ∷ bytes) =
    nat_le (length (byte ∷ bytes)) MOST_CLASS_NAME_BYTES && list_all is_class_byte (byte ∷ bytes)

-- the number that the digit writes
abbrev pub digit_of : ℕ → ℕ
digit_of byte = byte - 48

-- the number, where it is no more than the letters that a stem may have
abbrev pub if_cut : ℕ → Option ℕ
if_cut number = if nat_le number MOST_FORM_LETTERS then Some number else None

-- how many letters a row cuts, as one or two digits write it
abbrev pub cut_of : List ℕ → Option ℕ
cut_of (digit ∷ []) = if is_ascii_digit digit then if_cut (digit_of digit) else None
cut_of (tens ∷ ones ∷ []) =
    if is_ascii_digit tens && is_ascii_digit ones then if_cut (10 * digit_of tens + digit_of ones) else None
cut_of text = None

-- ---- the rows

-- the two rows are the same in each part
abbrev pub is_same_row : Row → Row → Bool
is_same_row new row =
    bytes_eq new.tag row.tag && new.phase == row.phase && bytes_eq new.prefix row.prefix && new.cut == row.cut
    && bytes_eq new.ending row.ending

-- the class has this name
abbrev pub has_name : List ℕ → Class → Bool
has_name name class = bytes_eq name class.name

-- the class has this name, and this row among its rows
abbrev pub has_row : List ℕ → Row → Class → Bool
has_row name new class = has_name name class && list_any (is_same_row new) class.rows

-- the class with this row too, as its last
abbrev pub with_last_row : Row → Class → Class
with_last_row new class = record { name = class.name; rows = class.rows ++ new ∷ [] }

-- the classes with this row too: it is the last row of the class with this name, and where no class has the name it makes a new
-- class, the last of all
abbrev pub with_row : List ℕ → Row → List Class → List Class
with_row name new [] = record { name = name; rows = new ∷ [] } ∷ []
with_row name new (class ∷ classes) =
    if has_name name class then with_last_row new class ∷ classes else class ∷ with_row name new classes

-- ---- a record

-- what is told after a record, the rows of each class so far, or why the record is refused
abbrev pub TakenTable : Type 0
TakenTable = Result (List Class) TableWhy

-- the record with this number is one too many, or the row's prefix or its ending is too long
abbrev pub passes_row_limits : ℕ → Row → Bool
passes_row_limits number new =
    nat_lt MOST_AFFIX_LETTERS (length new.prefix) || nat_lt MOST_AFFIX_LETTERS (length new.ending)
    || nat_lt MOST_TABLE_RECORDS number

abbrev pub take_row : ℕ → List Class → List ℕ → Row → TakenTable
take_row number classes name new =
    if passes_row_limits number new then Err Limit
    else if list_any (has_row name new) classes then Err Twice
    else Ok (with_row name new classes)

abbrev pub take_affixes : ℕ → List Class → List ℕ → List ℕ → ℕ → ℕ → Reading → Reading → TakenTable
take_affixes number classes name tag cut phase (Ok prefix) (Ok ending) =
    take_row number classes name (record { tag = tag; phase = phase; prefix = prefix; cut = cut; ending = ending })
take_affixes number classes name tag cut phase prefix ending = Err Spelling

abbrev pub take_phase : ℕ → List Class → List ℕ → List ℕ → ℕ → Option ℕ → List ℕ → List ℕ → TakenTable
take_phase number classes name tag cut None prefix ending = Err Phase
take_phase number classes name tag cut (Some phase) prefix ending =
    take_affixes number classes name tag cut phase (word_of_slp1 prefix) (word_of_slp1 ending)

abbrev pub take_cut : List (List ℕ) → ℕ → List Class → List ℕ → List ℕ → List ℕ → Option ℕ → List ℕ → List ℕ → TakenTable
take_cut phases number classes name tag phase None prefix ending = Err Fields
take_cut phases number classes name tag phase (Some cut) prefix ending =
    if is_tag_text tag
    then take_phase number classes name tag cut (position (bytes_eq phase) phases) prefix ending
    else Err Tag

-- a record has the fields class, tag, phase, prefix, cut and ending; the phase is one of these names, and its number counts
-- from 0
unfoldable pub take_table : List (List ℕ) → ℕ → List Class → List (List ℕ) → TakenTable
take_table phases number classes (name ∷ tag ∷ phase ∷ prefix ∷ cut ∷ ending ∷ []) =
    if is_class_name name then take_cut phases number classes name tag phase (cut_of cut) prefix ending else Err Fields
take_table phases number classes fields = Err Fields

-- ---- a file

-- the classes of a table file with their rows, numbered from 0 as they first appear, or the file's first fault
unfoldable pub tables_of : List (List ℕ) → List ℕ → FileResult (List Class) TableWhy
tables_of phases bytes = read_records (take_table phases) 1 [] (records_of bytes)
