-- What a reader of records has still to give.
use Rattle.std.specs.Prelude.{◌≡◌, ℕ, ◌+◌, ◌≤◌, Bool, true, false, Option, Some, None, List, [], ◌∷◌, length}
use Rattle.std.specs.Borrow.{Bor}
use Rattle.csv.specs.Reading.{Ready, default_config, reader_config, reader_state, reader_trim, records_from, source_of}
use Rattle.csv.specs.declared.parser.State.{State}
use Rattle.csv.specs.declared.parser.State.TheVariants as st
use Rattle.csv.specs.declared.reader.Reader.{Reader}
use Rattle.csv.specs.declared.reader.Trim.TheVariants as trim
use Rattle.lexicon_text_definitions.specs.declared.limits.TheConstants.{MOST_FILE_BYTES}

-- the bytes that are left, where they are known
abbrev pub bytes_left : Reader (Bor (List ℕ)) → Option (List ℕ)
bytes_left reader = source_of (λ source. Some source.now) reader

-- the records of these bytes, from a state on
abbrev pub records_within : State → Option (List ℕ) → List (List (List ℕ))
records_within state None = []
records_within state (Some bytes) = records_from default_config (length bytes + 1) state bytes

-- the records that are left
abbrev pub records_left : Reader (Bor (List ℕ)) → List (List (List ℕ))
records_left reader = records_within (reader_state reader) (bytes_left reader)

-- the state is one between two records
abbrev pub IsBetween : State → Type 0
IsBetween st.StartRecord = Unit {0}
IsBetween st.AfterCr = Unit {0}
IsBetween state = ⊥

-- the reader stands between two records, and has known bytes left, not too many
pub record IsReading (reader : Reader (Bor (List ℕ))) : Type 0 where
  pub config : reader_config reader ≡ default_config
  pub trim : reader_trim reader ≡ trim.None
  pub ready : Ready reader
  pub between : IsBetween (reader_state reader)
  pub bytes : List ℕ
  pub left : bytes_left reader ≡ Some bytes
  pub few : length bytes ≤ MOST_FILE_BYTES

-- the fields were those of the first of the old records, and the new ones are the rest; or there was no record
abbrev pub IsNextOf : List (List (List ℕ)) → Bool → List (List ℕ) → List (List (List ℕ)) → Type 0
IsNextOf old true fields new = old ≡ fields ∷ new
IsNextOf old false fields new = old ≡ []
