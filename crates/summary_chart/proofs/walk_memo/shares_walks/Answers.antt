-- A form that takes a letter may be entered, no blank stands before the limit, and where no choice is made each is allowed.
use Rattle.std.proofs.Common.{List, length, sym, subst, rules}
use Rattle.std.proofs.lemmas.Bool.{OnTrue_from}
use Rattle.segmentation_definitions.specs.Items.{Choice}
use Rattle.segmentation_definitions.specs.LocalTests.{Allows}
use Rattle.answer_paths.specs.Following.{is_start, placed_at}
use Rattle.search_frames.specs.Configurations.{rules_in}
use Rattle.search_frames.specs.Frames.{numbered_of}
use Rattle.search_frames.proofs.AheadTests.{enters_with_letter, no_blank_inside}
use Rattle.summary_chart.proofs.walk_memo.shares_walks.Goals as goal

pub returns-then-is_free : goal.returns-then-is_free
returns-then-is_free c =
    let here = c.args.here in
    let searched = here.site.lexicon.now in
    let line = here.site.line.now in
    let choices = here.site.choices.now in
    let stands = numbered_of searched here.site.place.now in
    let ahead = c.requires.ahead in
    let none = c.if-is_free.ensures in
    OnTrue_from here.ahead.enters _ (λ enters key some near possible begins. record {
      number = possible.number;
      within = possible.within;
      form = possible.form;
      enters = (enters_with_letter (rules_in searched) line stands.at stands.entrance key here.ahead.enters possible.within some begins ahead.entering).0 enters;
      blanks = no_blank_inside searched line choices stands key here.ahead ahead near;
      allowed = subst (λ (some : List Choice). Allows (rules_in searched) (length line.letters) some (is_start stands.entrance)
          (placed_at (rules_in searched) line stands.at stands.entrance key)) (sym none) (search rules);
    })
