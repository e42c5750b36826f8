-- The page of the text's line is written over the lexicon, or the run ends without one.
use Rattle.std.proofs.Common.{refl}
use Rattle.std.specs.Prelude.{None}
use Rattle.text_line.specs.Values.{scheme_of}
use Rattle.command_words.specs.Meant.{word_meant}
use Rattle.run_definitions.specs.SegmentOutcomes.{IsSegmentOutcome}
use Rattle.commands.specs.Openings.{IsUnopened}
use Rattle.commands.specs.Segments.{WritesSegmented}
use Rattle.commands.proofs.Runs.{embedded}
use Rattle.commands.proofs.OpenedFiles.{lexicon_lent, printed_over}
use Rattle.commands.proofs.SegmentRuns.{segment_outcome, segment_unopened, segment_not_usage}
use Rattle.commands.proofs.segment.run_segment.Goals as goal

pub returns-in-Ok : goal.returns-in-Ok
returns-in-Ok g c =
    let lex = word_meant c.args.lex.now in
    let scheme = scheme_of c.args.scheme in
    let text = c.args.text.now in
    let opened = lexicon_lent lex c.in-Ok.lexicon.value c.deref.result.now _ _ c.deref.ensures c.in-Ok.ensures.opened in
    printed_over lex c.deref.result.now.lexicon _ _ opened (IsSegmentOutcome lex scheme text) (WritesSegmented scheme text)
    (segment_not_usage lex scheme text) (segment_outcome lex scheme text) _ _ refl refl c.write_segmented.ensures

pub returns-in-Err : goal.returns-in-Err
returns-in-Err g c =
    let lex = word_meant c.args.lex.now in
    let scheme = scheme_of c.args.scheme in
    let text = c.args.text.now in
    embedded (IsUnopened lex) (IsSegmentOutcome lex scheme text) _ _ _ _ _ _ (λ told e outcome is. segment_unopened lex scheme text told outcome is)
    (λ word m. m) (c.in-Err.ensures.ended None)
