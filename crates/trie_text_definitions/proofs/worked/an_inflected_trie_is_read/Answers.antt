-- Computed.
use Rattle.std.specs.Prelude.{refl}
use Rattle.std.specs.Fmt.{digits}
use Rattle.std.specs.Str.{is_utf8, chars}
use Rattle.text_definitions.specs.Slp1.{slp1_table, word_of_slp1, slp1_of_word}
use Rattle.lexicon_text_definitions.specs.FileContents.{is_tag_text}
use Rattle.lexicon_text_definitions.specs.FileReadings.{reading_of}
use Rattle.lexicon_text_definitions.specs.FileSteps as first
use Rattle.lexicon_text_definitions.specs.FileSteps.{take_phase, take_grammar, take_plain, take_rule, take_form}
use Rattle.trie_text_definitions.specs.TrieTexts.{text_in}
use Rattle.trie_text_definitions.specs.VersionSteps.{take_limited_rule, take_node, take_root, take_end, take_line}
use Rattle.trie_text_definitions.specs.VersionReadings.{reading_in}
use Rattle.trie_text_definitions.proofs.worked.an_inflected_trie_is_read.Goals as goal

pub returns-clause-same : goal.returns-clause-same
unfolding reading_in take_line take_phase take_grammar take_plain take_rule take_node take_root take_end take_limited_rule is_tag_text word_of_slp1 slp1_table slp1_of_word digits is_utf8 chars lib.Utf8.encode text_in reading_of first.take_line first.take_end take_form
returns-clause-same c = refl

pub returns-clause-written : goal.returns-clause-written
unfolding reading_in take_line take_phase take_grammar take_plain take_rule take_node take_root take_end take_limited_rule is_tag_text word_of_slp1 slp1_table slp1_of_word digits is_utf8 chars lib.Utf8.encode text_in reading_of first.take_line first.take_end take_form
returns-clause-written c = refl
