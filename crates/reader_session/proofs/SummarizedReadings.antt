-- With its summary a line is read on as before; so the summary is the reply.
use Rattle.std.proofs.Common.{◌≡◌, ℕ, Some, List, ◌++◌, refl, subst}
use Rattle.std.specs.Prelude.{Vec}
use Rattle.std.specs.declared.alloc.Global.{Global}
use Rattle.segmentation_definitions.specs.Items.{Item}
use Rattle.segmentation_definitions.specs.Listings.{IsSummary}
use Rattle.annotated_trie.specs.Searched.{SearchedLexicon}
use Rattle.session_definitions.specs.PrintedSummaries.{printed_summary}
use Rattle.session_definitions.specs.Replies.{IsSummaryReply, reply_in}
use Rattle.reader_session.specs.declared.reading.Reading.{Reading}
use Rattle.reader_session.specs.Readings.{IsReading, GoesOnWith, state_with}

-- the same reading, with a summary
abbrev pub summarized : Reading → Vec Item Global → Reading
summarized reading items = record reading { summary = Some items }

module _ (searched : SearchedLexicon) (reading : Reading) (is : IsReading searched reading) (items : Vec Item Global)
    (is_summary : IsSummary searched.lexicon reading.line reading.choices items.items) where
  reading_with_summary : IsReading searched (summarized reading items)
  reading_with_summary = record {
    line = is.line;
    few = is.few;
    chart = is.chart;
    guide = is.guide;
    exact = is.exact;
    stack = is.stack;
    above = is.above;
    last = λ some. let steps = is.last some in record { stand_in = steps.stand_in; answer = steps.answer };
    some_printed = is.some_printed;
    printed = is.printed;
    items = is.items;
    summary = λ others same. let equal : items.items ≡ others = cc in subst (IsSummary searched.lexicon reading.line reading.choices) equal is_summary;
  }

  pub replies_with_summary : (before after : List ℕ) → after ≡ before ++ printed_summary searched.lexicon.rules items.items
      → GoesOnWith searched (IsSummaryReply searched.lexicon (state_with searched.lexicon.rules reading) reading.line) before after
      (summarized reading items)
  replies_with_summary before after bytes =
      let state = state_with searched.lexicon.rules reading in
      record {
        reply = reply_in (record state { summary = Some items.items }) (printed_summary searched.lexicon.rules items.items);
        is_it = record { items = items.items; summary = is_summary; is = refl };
        bytes = bytes;
        is_reading = reading_with_summary;
        stands = refl;
      }
