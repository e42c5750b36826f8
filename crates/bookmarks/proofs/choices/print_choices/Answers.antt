-- One choice more is printed.
use Rattle.std.proofs.Common.{◌∙◌}
use Rattle.bookmark_definitions.specs.BookmarkTexts.{text_of_choice}
use Rattle.bookmark_definitions.proofs.WrittenParts.{choice_some}
use Rattle.bookmarks.proofs.ListsPrinted.{part_printed}
use Rattle.bookmarks.proofs.choices.print_choices.Goals as goal

pub loop-choice-preserved : goal.loop-choice-preserved
loop-choice-preserved c = record {
  printed = part_printed text_of_choice choice_some c.args.choices.now c.loop-choice.choice-index c.choice-item.result c.choice-item.result _ _ _ c.loop-choice-test.true c.choice-item.is
      c.loop-choice.invariant.printed (c.as_str.ensures.value ∙ c.in_ok-print_choice.ensures.ok) c.in_ok-push_part.ensures.ok;
}
