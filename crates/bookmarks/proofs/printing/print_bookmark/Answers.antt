-- The fields are put together with `;` between.
use Rattle.std.proofs.Common.{ap, map, ◌∙◌}
use Rattle.std.specs.List.{join_with_byte}
use Rattle.derivation.specs.Steps.{keys_meant}
use Rattle.bookmark_definitions.specs.BookmarkTexts.{text_of_choice, text_of_key}
use Rattle.bookmarks.specs.Values.{bookmark_of}
use Rattle.bookmarks.proofs.PrintedFields.{fields_printed}
use Rattle.bookmarks.proofs.printing.print_bookmark.Goals as goal

pub returns : goal.returns
returns c = record {
  ok = fields_printed (bookmark_of c.args.mark.now) _ _ _ _ c.in_ok-line.ensures.ok
      (c.in_ok-choices.ensures.ok ∙ ap (λ choices. join_with_byte 44 (map text_of_choice choices)) c.as_slice.ensures.value)
      (c.in_ok-keys.ensures.ok ∙ ap (λ keys. join_with_byte 44 (map text_of_key (keys_meant keys))) c.as_slice-2.ensures.value) c.in_ok-format.ensures.ok;
}
