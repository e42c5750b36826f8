-- The words of `build`, and what it does with the names of a rule file, a table file, a stem file and a file to write (own).
use Rattle.std.specs.Prelude.{◌≡◌, ℕ, ◌≤◌, ◌++◌, List, [], ◌∷◌, length, codes}
use Rattle.std.specs.Fmt.{decimal}
use Rattle.outside.specs.Files.{Files, with_file}
use Rattle.lexicon_definitions.specs.Lexicons.{RuleSet, Lexicon}
use Rattle.lexicon_definitions.specs.Limits.{count_lines}
use Rattle.lexicon_text_definitions.specs.declared.limits.TheConstants.{MOST_FILE_BYTES}
use Rattle.trie_text_definitions.specs.VersionTexts.{IsNewestText}
use Rattle.segmentation_definitions.specs.PrintedAnswers.{output_line}
use Rattle.morphology_definitions.specs.Inflection.{Class, Stem}
use Rattle.rule_file_definitions.specs.RuleFileReadings.{IsReadAs}
use Rattle.paradigm_file_definitions.specs.TableFaults.{TableWhy}
use Rattle.paradigm_file_definitions.specs.TableFiles.{tables_of}
use Rattle.paradigm_file_definitions.specs.StemFaults.{StemWhy, Limit}
use Rattle.paradigm_file_definitions.specs.StemFiles.{stems_of}
use Rattle.paradigm_file_definitions.specs.Records.{FileResult}
use Rattle.run_definitions.specs.Arguments.{FileWord, AreNamed}
use Rattle.run_definitions.specs.Ends.{Outcome, AnyFault, Rules, Tables, Stems, Done, BadFile, outcome_over}
use Rattle.run_definitions.specs.Refusals.{file_refusal, usage_outcome}
use Rattle.run_definitions.specs.SourceTells.{SourceTells, DoesTellSource, IsOutcomeAfter}
use Rattle.run_definitions.specs.SourceLexicons.{IsLexiconOf, IsOversized}

-- ---- the words

-- it takes the names of a rule file, a table file, a stem file and a file to write
abbrev pub TakesBuild : FileWord → FileWord → FileWord → FileWord → List (List ℕ) → List FileWord → Type 0
TakesBuild rules tables stems out values arguments = (values ≡ []) × (arguments ≡ rules ∷ tables ∷ stems ∷ out ∷ [])

-- the words are those of `build` with these names
abbrev pub AreBuildWords : FileWord → FileWord → FileWord → FileWord → List (List ℕ) → Type 0
AreBuildWords rules tables stems out words = AreNamed (codes "build") (TakesBuild rules tables stems out) words

-- ---- the outcome

-- the bytes of a table file over these names of phases are read as these classes, or have this first fault
abbrev pub AreTables : List (List ℕ) → List ℕ → FileResult (List Class) TableWhy → Type 0
AreTables phases bytes result = tables_of phases bytes ≡ result

-- the bytes of a stem file over these classes are read as these stems, or have this first fault
abbrev pub AreStems : List Class → List ℕ → FileResult (List Stem) StemWhy → Type 0
AreStems classes bytes result = stems_of classes bytes ≡ result

-- what the rule file tells
abbrev pub RulesTell : Files → List ℕ → SourceTells RuleSet → Type 0
RulesTell files name tells = DoesTellSource IsReadAs Rules files name tells

-- what the table file tells, over the phases of the rule file
abbrev pub TablesTell : RuleSet → Files → List ℕ → SourceTells (List Class) → Type 0
TablesTell rules files name tells = DoesTellSource (AreTables rules.names) Tables files name tells

-- what the stem file tells, over the classes of the table file
abbrev pub StemsTell : List Class → Files → List ℕ → SourceTells (List Stem) → Type 0
StemsTell classes files name tells = DoesTellSource (AreStems classes) Stems files name tells

-- the fault of a stem file of which no record is at fault, but whose lexicon is too large
abbrev pub lexicon_fault : AnyFault
lexicon_fault = Stems (record { number = 0; why = Limit })

-- `forms F`, the number of form lines
abbrev pub printed_build : Lexicon → List ℕ
printed_build lexicon = output_line (codes "forms " ++ decimal (count_lines lexicon.phases))

-- what is left where the lexicon is written: the file has these bytes, and all others are as they were
abbrev pub built_outcome : Lexicon → List ℕ → FileWord → Files → Outcome
built_outcome lexicon bytes out files =
    record { output = printed_build lexicon; files = with_file files out.name bytes; end = Done }

-- with the lexicon of the sources, the stem file is refused where this lexicon is too large, and otherwise its newest text is written
pub data IsWrittenOutcome (lexicon : Lexicon) (stems out : FileWord) (files : Files) (outcome : Outcome) : Type 0 where
  OfLimit : IsOversized lexicon → outcome ≡ outcome_over files (file_refusal stems.name lexicon_fault) (BadFile stems.place lexicon_fault)
      → IsWrittenOutcome lexicon stems out files outcome
  OfText : (bytes : List ℕ) → IsNewestText lexicon bytes → length bytes ≤ MOST_FILE_BYTES
      → outcome ≡ built_outcome lexicon bytes out files → IsWrittenOutcome lexicon stems out files outcome

-- with what the three files hold
pub record IsLexiconOutcome (rules : RuleSet) (classes : List Class) (held : List Stem) (stems out : FileWord) (files : Files)
    (outcome : Outcome) : Type 0 where
  pub lexicon : Lexicon
  pub is_of : IsLexiconOf rules classes held lexicon
  pub is_outcome : IsWrittenOutcome lexicon stems out files outcome

-- with what the first two hold, the stem file is read
pub record IsStemsOutcome (rules : RuleSet) (classes : List Class) (stems out : FileWord) (files : Files) (outcome : Outcome)
    : Type 0 where
  pub tells : SourceTells (List Stem)
  pub do_tell : StemsTell classes files stems.name tells
  pub is_outcome : IsOutcomeAfter tells stems files outcome (λ held. IsLexiconOutcome rules classes held stems out files outcome)

-- with what the rule file holds, the table file is read
pub record IsTablesOutcome (rules : RuleSet) (tables stems out : FileWord) (files : Files) (outcome : Outcome) : Type 0 where
  pub tells : SourceTells (List Class)
  pub do_tell : TablesTell rules files tables.name tells
  pub is_outcome : IsOutcomeAfter tells tables files outcome (λ classes. IsStemsOutcome rules classes stems out files outcome)

-- the outcome of `build` with these names of files: the rule file is read first
pub record IsBuildOutcome (rules tables stems out : FileWord) (files : Files) (outcome : Outcome) : Type 0 where
  pub tells : SourceTells RuleSet
  pub do_tell : RulesTell files rules.name tells
  pub is_outcome : IsOutcomeAfter tells rules files outcome (λ set. IsTablesOutcome set tables stems out files outcome)

-- ---- the run

-- the outcome of a run whose first word is `build`: that of the command, or where the words are not its words `usage`
pub data IsBuildRun (words : List (List ℕ)) (files : Files) (outcome : Outcome) : Type 0 where
  OfWords : (rules tables stems out : FileWord) → AreBuildWords rules tables stems out words
      → IsBuildOutcome rules tables stems out files outcome → IsBuildRun words files outcome
  OfOthers : ((rules tables stems out : FileWord) → AreBuildWords rules tables stems out words → ⊥)
      → outcome ≡ usage_outcome files → IsBuildRun words files outcome
