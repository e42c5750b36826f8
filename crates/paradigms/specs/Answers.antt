-- What the readers and takers of records answer.
use Rattle.std.specs.Prelude.{◌≡◌, ℕ, Result, Ok, Err, List}
use Rattle.text_definitions.specs.Spellings.{Reading, SpellingFault}
use Rattle.morphology_definitions.specs.Inflection as inflection
use Rattle.paradigm_file_definitions.specs.Records.{FileResult}
use Rattle.paradigm_file_definitions.specs.TableFaults as tables
use Rattle.paradigm_file_definitions.specs.StemFaults as stems
use Rattle.paradigms.specs.declared.errors.TableWhy as table
use Rattle.paradigms.specs.declared.errors.TableError.{TableError}
use Rattle.paradigms.specs.declared.errors.TableError.TheVariants as table_error
use Rattle.paradigms.specs.declared.errors.StemWhy as stem
use Rattle.paradigms.specs.declared.errors.StemError.{StemError}
use Rattle.paradigms.specs.declared.errors.StemError.TheVariants as stem_error
use Rattle.paradigms.specs.declared.record_error.RecordError.{RecordError}
use Rattle.paradigms.specs.declared.record_error.RecordError.TheVariants.{Why, Memory}

-- the reason of the definitions that a table's reason names
abbrev pub table_why : table.TableWhy → tables.TableWhy
table_why table.TheVariants.Fields = tables.Fields
table_why table.TheVariants.Tag = tables.Tag
table_why table.TheVariants.Phase = tables.Phase
table_why table.TheVariants.Spelling = tables.Spelling
table_why table.TheVariants.Limit = tables.Limit
table_why table.TheVariants.Twice = tables.Twice

-- the reason of the definitions that a stem's reason names
abbrev pub stem_why : stem.StemWhy → stems.StemWhy
stem_why stem.TheVariants.Fields = stems.Fields
stem_why stem.TheVariants.Spelling = stems.Spelling
stem_why stem.TheVariants.UnknownClass = stems.UnknownClass
stem_why stem.TheVariants.Short = stems.Short
stem_why stem.TheVariants.Limit = stems.Limit
stem_why stem.TheVariants.Twice = stems.Twice

-- the word is the one that was spelled, or nothing is spelled and this is the reason; memory may be wanting
abbrev pub IsSpelled : {W : Type 0} → Reading → W → Result (List ℕ) (RecordError W) → Type 0
IsSpelled reading reason (Ok word) = reading ≡ Ok word
IsSpelled reading reason (Err (Why why)) = (why ≡ reason) × ((fault : SpellingFault) × (reading ≡ Err fault))
IsSpelled reading reason (Err Memory) = Unit {0}

-- what is taken is what follows from the value that was read, or this is the reason; memory may be wanting
abbrev pub IsRead : {A B W V T : Type 0} → (W → V) → (A → B) → (B → Result T V) → Result T V → Result A (RecordError W) → Type 0
IsRead named view following taken (Ok value) = taken ≡ following (view value)
IsRead named view following taken (Err (Why why)) = taken ≡ Err (named why)
IsRead named view following taken (Err Memory) = Unit {0}

-- what is taken is told after it, or this is the reason; memory may be wanting
abbrev pub IsAnswer : {A W V T : Type 0} → (W → V) → Result T V → Result A (RecordError W) → T → Type 0
IsAnswer named taken (Ok done) after = taken ≡ Ok after
IsAnswer named taken (Err (Why why)) after = taken ≡ Err (named why)
IsAnswer named taken (Err Memory) after = Unit {0}

-- the error of a file at the record with this number
abbrev pub table_error_of : ℕ → RecordError table.TableWhy → TableError
table_error_of number (Why why) = table_error.Fault (record { number = number; why = why })
table_error_of number Memory = table_error.Memory

abbrev pub stem_error_of : ℕ → RecordError stem.StemWhy → StemError
stem_error_of number (Why why) = stem_error.Fault (record { number = number; why = why })
stem_error_of number Memory = stem_error.Memory

-- the fault is the one that the file has, where the error is not want of memory
abbrev pub IsTableFault : FileResult (List inflection.Class) tables.TableWhy → TableError → Type 0
IsTableFault read (table_error.Fault fault) = read ≡ Err (record { number = fault.number; why = table_why fault.why })
IsTableFault read table_error.Memory = Unit {0}

abbrev pub IsStemFault : FileResult (List inflection.Stem) stems.StemWhy → StemError → Type 0
IsStemFault read (stem_error.Fault fault) = read ≡ Err (record { number = fault.number; why = stem_why fault.why })
IsStemFault read stem_error.Memory = Unit {0}
