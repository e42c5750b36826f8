-- What is printed are the choices so far.
use Rattle.std.proofs.Common.{◌≡◌, map, take, string_bytes}
use Rattle.std.specs.List.{join_with_byte}
use Rattle.bookmark_definitions.specs.BookmarkTexts.{text_of_choice}
use Rattle.bookmarks.proofs.choices.print_choices.Given as goal

abbrev pub invariant-loop-choice : goal.invariant-loop-choice
invariant-loop-choice l = record {
  printed : string_bytes l.text ≡ join_with_byte 44 (map text_of_choice (take l.choice-index l.choices));
}
