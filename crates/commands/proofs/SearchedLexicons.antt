-- What is read of a lexicon file is a lexicon that can be built and written: it has a text, and so is within the limits.
use Rattle.std.proofs.Common.{◌≡◌, ℕ, List, length, Ok}
use Rattle.lexicon_definitions.specs.Lexicons.{IsLexicon, tree_of}
use Rattle.lexicon_definitions.specs.Tries.{IsTrieOf}
use Rattle.trie_text_definitions.specs.TrieForms.{phases_of}
use Rattle.trie_text_definitions.specs.VersionReadings.{IsReadAs}
use Rattle.trie_text_definitions.specs.Versions.{version_of}
use Rattle.trie_text_definitions.proofs.EndTests.{as_many_pairs}
use Rattle.trie_text_definitions.proofs.LexiconsTold.{read_lexicon}
use Rattle.phase_automaton.specs.Automata.{Recognizes}
use Rattle.form_file.specs.declared.contents.Contents.{Contents}
use Rattle.form_file.specs.Contents.{lexicon_of}
use Rattle.lexicon_file.specs.Writing.{HasNewestText}
use Rattle.lexicon_file.proofs.NewestTexts.{newest_by_text}
use Rattle.commands.specs.LexiconFiles.{IsBuildable}

has_newest_text : (contents : Contents) (bytes : List ℕ) → IsReadAs bytes (Ok (lexicon_of contents)) → HasNewestText (lexicon_of contents)
has_newest_text contents bytes read =
    newest_by_text (version_of bytes) (lexicon_of contents) (read_lexicon bytes (lexicon_of contents) read)

pub can_be_built : (contents : Contents) (bytes : List ℕ) → IsReadAs bytes (Ok (lexicon_of contents)) → IsTrieOf contents.store (phases_of contents.store)
    → Recognizes contents.automaton (tree_of contents.rules) → contents.automaton.phases ≡ length contents.rules.names
    → IsBuildable contents
can_be_built contents bytes read trie recognizes phases =
    let text = has_newest_text contents bytes read in
    record {
      trie = trie;
      lexicon = text.lexicon_itself;
      limits = text.limits;
      text = text;
      pairs = as_many_pairs contents.store (phases_of contents.store) trie text.lexicon_itself.phases text.limits.short_forms text.stems;
      recognizes = recognizes;
      phases = phases;
    }

-- and it is a lexicon
pub is_lexicon : (contents : Contents) (bytes : List ℕ) → IsReadAs bytes (Ok (lexicon_of contents)) → IsLexicon (lexicon_of contents)
is_lexicon contents bytes read = (has_newest_text contents bytes read).lexicon_itself
