-- A text of any version asks for what the newest one does, and for rules of the version.
use Rattle.std.specs.Prelude.{Option, Some, None}
use Rattle.lexicon_definitions.specs.Lexicons.{Lexicon}
use Rattle.trie_text_definitions.specs.Versions.{Version}
use Rattle.trie_text_definitions.specs.VersionTexts.{HasTextIn}
use Rattle.lexicon_file.specs.Writing.{HasNewestText}

pub newest_by_text : (version : Option Version) (lexicon : Lexicon) → HasTextIn version lexicon → HasNewestText lexicon
newest_by_text None lexicon has = record { lexicon_itself = has.lexicon_itself; limits = has.limits; stems = has.stems }
newest_by_text (Some version) lexicon has = record { lexicon_itself = has.lexicon_itself; limits = has.limits; stems = has.stems }
