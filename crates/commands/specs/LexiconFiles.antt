-- What the bytes of a lexicon file hold, or why they are refused.
use Rattle.std.specs.Prelude.{◌≡◌, ℕ, ◌<◌, ◌≤◌, List, length, Ok, Err}
use Rattle.lexicon_definitions.specs.Lexicons.{Lexicon, IsLexicon, tree_of}
use Rattle.lexicon_definitions.specs.Limits.{IsWithinLimits, count_lines}
use Rattle.lexicon_definitions.specs.Tries.{IsTrieOf}
use Rattle.lexicon_text_definitions.specs.declared.limits.TheConstants.{MOST_FILE_BYTES}
use Rattle.trie_text_definitions.specs.VersionReadings.{IsReadAs}
use Rattle.trie_text_definitions.specs.TrieForms.{count_pairs, phases_of}
use Rattle.form_file.specs.declared.contents.Contents.{Contents}
use Rattle.form_file.specs.Contents.{lexicon_of}
use Rattle.lexicon_file.specs.Contents.{fault_of}
use Rattle.lexicon_file.specs.Writing.{HasNewestText}
use Rattle.phase_automaton.specs.Automata.{Recognizes}
use Rattle.commands.specs.declared.status.AnyFault.{AnyFault}
use Rattle.commands.specs.declared.status.AnyFault.TheVariants.{Large, Lexicon as OfLexicon, Rules, Tables, Stems, Spelling, Note}
use Rattle.commands.specs.declared.any_error.AnyError.{AnyError}
use Rattle.commands.specs.declared.any_error.AnyError.TheVariants.{Fault, Memory}

-- a lexicon can be built and written of what was read of a file: the trie is that of its forms, which are within the limits, have
-- stems with a spelling, and are as many as its pairs, and the automaton is that of the grammar
pub record IsBuildable (contents : Contents) : Type 0 where
  pub trie : IsTrieOf contents.store (phases_of contents.store)
  pub lexicon : IsLexicon (lexicon_of contents)
  pub limits : IsWithinLimits (lexicon_of contents)
  pub text : HasNewestText (lexicon_of contents)
  pub pairs : count_pairs contents.store ≡ count_lines (phases_of contents.store)
  pub recognizes : Recognizes contents.automaton (tree_of contents.rules)
  pub phases : contents.automaton.phases ≡ length contents.rules.names

-- the bytes are those of the lexicon's file
pub record IsLexiconFile (bytes : List ℕ) (lexicon : Lexicon) : Type 0 where
  pub within : length bytes ≤ MOST_FILE_BYTES
  pub read : IsReadAs bytes (Ok lexicon)

-- the bytes are those of no lexicon file, for this reason
abbrev pub IsRefusedFile : List ℕ → AnyFault → Type 0
IsRefusedFile bytes Large = MOST_FILE_BYTES < length bytes
IsRefusedFile bytes (OfLexicon fault) = (length bytes ≤ MOST_FILE_BYTES) × IsReadAs bytes (Err (fault_of fault))
IsRefusedFile bytes (Rules fault) = ⊥
IsRefusedFile bytes (Tables fault) = ⊥
IsRefusedFile bytes (Stems fault) = ⊥
IsRefusedFile bytes (Spelling fault) = ⊥
IsRefusedFile bytes (Note why) = ⊥

-- the error is a fault of the file, or memory ran out
abbrev pub IsFileError : List ℕ → AnyError → Type 0
IsFileError bytes (Fault fault) = IsRefusedFile bytes fault
IsFileError bytes Memory = Unit {0}
