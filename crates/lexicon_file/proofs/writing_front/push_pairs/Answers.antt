-- One more pair is written.
use Rattle.std.proofs.Common.{map, refl, arith}
use Rattle.lexicon_text_definitions.specs.LexiconTexts.{text_of_lines, plain_line}
use Rattle.lexicon_file.proofs.LinesWritten.{one_written}
use Rattle.lexicon_file.proofs.writing_front.push_pairs.Goals as goal

pub loop-pair-preserved : goal.loop-pair-preserved
loop-pair-preserved c =
    one_written (λ pairs. text_of_lines (map plain_line pairs)) c.args.pairs.now c.loop-pair.pair-index c.pair-item.result _ c.loop-pair.out.items _ _ (omega arith)
    c.pair-item.is refl c.in_ok-push_pair.ensures.ok c.loop-pair.invariant
