-- What `migrate` writes of a lexicon.
use Rattle.std.specs.Prelude.{◌≡◌, ◌≤◌, length, string_bytes}
use Rattle.lexicon_definitions.specs.Lexicons.{Lexicon}
use Rattle.lexicon_text_definitions.specs.declared.limits.TheConstants.{MOST_FILE_BYTES}
use Rattle.trie_text_definitions.specs.Versions.{Version}
use Rattle.trie_text_definitions.specs.VersionTexts.{IsTrieText}
use Rattle.run_definitions.specs.MigrateOutcomes.{printed_nodes}
use Rattle.commands.specs.declared.migrate.Migrated.{Migrated}

-- this is the newest text of the lexicon, which is not too long for a file, and what is printed of it
pub record IsMigrated (lexicon : Lexicon) (migrated : Migrated) : Type 0 where
  pub version : Version
  pub is_text : IsTrieText version lexicon migrated.text.items
  pub within : length migrated.text.items ≤ MOST_FILE_BYTES
  pub output : string_bytes migrated.output ≡ printed_nodes (length is_text.trie.rows)
