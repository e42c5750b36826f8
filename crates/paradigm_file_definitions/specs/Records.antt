-- Files of records: the records of a file, and how they are taken one after another (RFC 4180, as the crate `csv` reads it).
use Rattle.std.specs.Prelude.{ℕ, ◌+◌, Result, Ok, Err, List, [], ◌∷◌}
use Rattle.csv.specs.Reading.{default_config, records, strip_bom}

-- the records of a file, each the list of its fields: no record is a header, each may have any number of fields, nothing is
-- trimmed, and a byte order mark before the first is left out
abbrev pub records_of : List ℕ → List (List (List ℕ))
records_of bytes = records default_config (strip_bom bytes)

-- the number of a record, counted from 1, and why it is refused
pub record Fault (Why : Type 0) : Type 0 where
  pub number : ℕ
  pub why : Why

-- what a whole file tells, or its first fault
abbrev pub FileResult : Type 0 → Type 0 → Type 0
FileResult Told Why = Result Told (Fault Why)

-- after a record that was taken, what follows is read; one that was refused is the fault
abbrev pub read_on : {Told Why : Type 0} → ℕ → Result Told Why → (Told → FileResult Told Why) → FileResult Told Why
read_on number (Err why) following = Err (record { number = number; why = why })
read_on number (Ok told) following = following told

-- what these records tell, the first of which has this number, where those before them told this: each record is taken by its
-- number, what those before it told, and its fields
abbrev pub read_records : {Told Why : Type 0} → (ℕ → Told → List (List ℕ) → Result Told Why) → ℕ → Told → List (List (List ℕ)) → FileResult Told Why
read_records take_record number told [] = Ok told
read_records take_record number told (fields ∷ records) =
    read_on number (take_record number told fields) (λ following. read_records take_record (number + 1) following records)
