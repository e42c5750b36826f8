-- The words of `migrate`, and what it does with the names of a lexicon file and a file to write: it writes the lexicon in its newest text
-- (own).
use Rattle.std.specs.Prelude.{◌≡◌, ℕ, ◌≤◌, ◌++◌, List, [], ◌∷◌, length, codes}
use Rattle.std.specs.Fmt.{decimal}
use Rattle.outside.specs.Files.{Files, with_file}
use Rattle.lexicon_definitions.specs.Lexicons.{Lexicon}
use Rattle.lexicon_text_definitions.specs.declared.limits.TheConstants.{MOST_FILE_BYTES}
use Rattle.segmentation_definitions.specs.PrintedAnswers.{output_line}
use Rattle.trie_text_definitions.specs.VersionFaults.{Limit}
use Rattle.trie_text_definitions.specs.Versions.{Version}
use Rattle.trie_text_definitions.specs.VersionTexts.{IsTrieText}
use Rattle.run_definitions.specs.Arguments.{FileWord, AreNamed}
use Rattle.run_definitions.specs.Ends as ends
use Rattle.run_definitions.specs.Ends.{Outcome, AnyFault, Done, ReadFault, BadFile, outcome_over}
use Rattle.run_definitions.specs.Refusals.{file_refusal, usage_outcome}
use Rattle.run_definitions.specs.LexiconTells.{FileTells, NotThere, Refused, Holds, DoesTell}
use Rattle.run_definitions.specs.LongTexts.{HasLongText}

-- ---- the words

-- it takes the names of a lexicon file and of a file to write
abbrev pub TakesMigrate : FileWord → FileWord → List (List ℕ) → List FileWord → Type 0
TakesMigrate lex out values arguments = (values ≡ []) × (arguments ≡ lex ∷ out ∷ [])

-- the words are those of `migrate` with these names
abbrev pub AreMigrateWords : FileWord → FileWord → List (List ℕ) → Type 0
AreMigrateWords lex out words = AreNamed (codes "migrate") (TakesMigrate lex out) words

-- ---- the outcome

-- the fault of a lexicon file of which no line is at fault, but whose newest text would be too long for a file
abbrev pub text_fault : AnyFault
text_fault = ends.Lexicon (record { line = 0; why = Limit })

-- `nodes N`, the number of nodes that the text tells
abbrev pub printed_nodes : ℕ → List ℕ
printed_nodes nodes = output_line (codes "nodes " ++ decimal nodes)

-- what is left where the text is written: the file has these bytes, all others are as they were, and then the number of nodes is printed
abbrev pub migrated_outcome : ℕ → List ℕ → FileWord → Files → Outcome
migrated_outcome nodes bytes out files =
    record { output = printed_nodes nodes; files = with_file files out.name bytes; end = Done }

-- with a lexicon, its file is refused where its newest text is too long for a file, and otherwise this text is written
pub data IsMigratedOutcome (lexicon : Lexicon) (lex out : FileWord) (files : Files) (outcome : Outcome) : Type 0 where
  OfLimit : HasLongText lexicon → outcome ≡ outcome_over files (file_refusal lex.name text_fault) (BadFile lex.place text_fault)
      → IsMigratedOutcome lexicon lex out files outcome
  OfText : (version : Version) (bytes : List ℕ) (text : IsTrieText version lexicon bytes) → length bytes ≤ MOST_FILE_BYTES
      → outcome ≡ migrated_outcome (length text.trie.rows) bytes out files → IsMigratedOutcome lexicon lex out files outcome

-- by what the file tells: nothing is written, its refusal is, or its lexicon is
abbrev pub IsMigrateOutcomeWith : FileTells → FileWord → FileWord → Files → Outcome → Type 0
IsMigrateOutcomeWith NotThere lex out files outcome = outcome ≡ outcome_over files [] ReadFault
IsMigrateOutcomeWith (Refused fault) lex out files outcome =
    outcome ≡ outcome_over files (file_refusal lex.name fault) (BadFile lex.place fault)
IsMigrateOutcomeWith (Holds lexicon) lex out files outcome = IsMigratedOutcome lexicon lex out files outcome

-- the outcome of `migrate` with these names of files
pub record IsMigrateOutcome (lex out : FileWord) (files : Files) (outcome : Outcome) : Type 0 where
  pub tells : FileTells
  pub does_tell : DoesTell files lex.name tells
  pub is_outcome : IsMigrateOutcomeWith tells lex out files outcome

-- ---- the run

-- the outcome of a run whose first word is `migrate`: that of the command, or where the words are not its words `usage`
pub data IsMigrateRun (words : List (List ℕ)) (files : Files) (outcome : Outcome) : Type 0 where
  OfWords : (lex out : FileWord) → AreMigrateWords lex out words → IsMigrateOutcome lex out files outcome
      → IsMigrateRun words files outcome
  OfOthers : ((lex out : FileWord) → AreMigrateWords lex out words → ⊥) → outcome ≡ usage_outcome files
      → IsMigrateRun words files outcome
