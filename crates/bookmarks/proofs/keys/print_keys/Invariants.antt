-- What is printed are the keys so far.
use Rattle.std.proofs.Common.{◌≡◌, map, take, string_bytes}
use Rattle.std.specs.List.{join_with_byte}
use Rattle.derivation.specs.Steps.{keys_meant}
use Rattle.bookmark_definitions.specs.BookmarkTexts.{text_of_key}
use Rattle.bookmarks.proofs.keys.print_keys.Given as goal

abbrev pub invariant-loop-key : goal.invariant-loop-key
invariant-loop-key l = record {
  printed : string_bytes l.text ≡ join_with_byte 44 (map text_of_key (keys_meant (take l.key-index l.keys)));
}
