-- The forms that entries in order make.
use Rattle.std.specs.Prelude.{◌≡◌, ℕ, ◌<◌, ◌≤◌, ◌⊎◌, List, length, slice_index_or, All}
use Rattle.std.specs.declared.cmp.Ordering.{Ordering}
use Rattle.std.specs.declared.cmp.Ordering.TheVariants.{Less, Equal, Greater}
use Rattle.lexicon_definitions.specs.declared.limits.TheConstants.{MOST_FORM_LINES}
use Rattle.lexicon_definitions.specs.FormEntries.{Entry, IsListedPhase, with_entry}
use Rattle.lexicon_definitions.specs.Lexicons.{Form}
use Rattle.lexicon_definitions.specs.Limits.{count_lines}
use Rattle.lexicon_text_definitions.specs.FileContents.{compare_entries, compare_last, entries_from}
use Rattle.run_definitions.specs.SourceLexicons.{HaveJust}

-- no entry is above a later one
abbrev pub AreInOrder : List Entry → Type 0
AreInOrder entries =
    (i j : ℕ) (d : Entry) → i < j → j < length entries → compare_entries (slice_index_or entries i d) (slice_index_or entries j d) ≡ Greater → ⊥

-- how the last entry of the phases compares with this one
abbrev pub last_before : List (List Form) → Entry → Ordering
last_before phases entry = compare_last compare_entries (entries_from 0 phases) entry

-- the phases with an entry that is above the last, or the same phases where it is the last
abbrev pub IsAdded : List (List Form) → Entry → List (List Form) → Type 0
IsAdded phases entry new = ((last_before phases entry ≡ Less) × (new ≡ with_entry phases entry)) ⊎ ((last_before phases entry ≡ Equal) × (new ≡ phases))

-- the entry is above the last of as many as a lexicon may have
pub record HasNoRoom (phases : List (List Form)) (entry : Entry) : Type 0 where
  pub above : last_before phases entry ≡ Less
  pub full : MOST_FORM_LINES ≤ count_lines phases

-- so many phases with just these entries
pub record AreCollectedIn (count : ℕ) (entries : List Entry) (phases : List (List Form)) : Type 0 where
  pub count_is : length phases ≡ count
  pub listed : All IsListedPhase phases
  pub just_these : HaveJust phases entries

-- there are more of them than a lexicon may have
pub record AreTooMany (count : ℕ) (entries : List Entry) : Type 0 where
  pub phases : List (List Form)
  pub collected : AreCollectedIn count entries phases
  pub lines : MOST_FORM_LINES < count_lines phases
