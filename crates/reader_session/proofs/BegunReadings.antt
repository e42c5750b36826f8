-- A line of which nothing was printed is read where a search over it stands before the first answer.
use Rattle.std.proofs.Common.{◌≡◌, ◌≤◌, [], None, length, All, sym, ap, subst, ◌∙◌, arith}
use Rattle.segmentation_definitions.specs.declared.limits.TheConstants.{MOST_CHOICES}
use Rattle.segmentation_definitions.specs.Listings.{Cursor, BeforeFirst, IsAbove}
use Rattle.bookmark_definitions.specs.Bookmarks.{IsItemWithinBounds}
use Rattle.annotated_trie.specs.Searched.{SearchedLexicon}
use Rattle.search_frames.specs.Guided.{IsGuideOf, IsExactOf}
use Rattle.segmenter.specs.Searches.{StandsWhere}
use Rattle.summary_chart.specs.Charts.{CoversPlace, says_of}
use Rattle.summary_chart.specs.PlaceWays.{IsChartOf}
use Rattle.reader_session.specs.declared.reading.Reading.{Reading}
use Rattle.reader_session.specs.Readings.{IsReading, cursor_at_last}
use Rattle.reader_session.proofs.ResumedReadings.{no_summary}

pub begun : (searched : SearchedLexicon) (reading : Reading) → length reading.choices ≤ MOST_CHOICES
    → All (λ choice. IsItemWithinBounds choice.item) reading.choices → IsChartOf searched reading.line reading.choices reading.chart
    → IsGuideOf searched reading.line reading.choices (CoversPlace reading.chart.table) (says_of reading.chart.table)
    → IsExactOf searched reading.line reading.choices (says_of reading.chart.table)
    → StandsWhere (record { searched = searched; line = reading.line; choices = reading.choices; cursor = BeforeFirst }) reading.resumption
    → reading.printed ≡ 0 → reading.last.items ≡ [] → reading.summary ≡ None → IsReading searched reading
begun searched reading few items chart guide exact stands zero none summary =
    let rules = searched.lexicon.rules in
    let same = stands.cursor ∙ sym (ap (cursor_at_last rules reading.line.letters) none) in
    let no_last : length reading.last.items ≡ 0 = ap length none in
    record {
      line = stands.is_stack.is_line;
      few = few;
      chart = chart;
      guide = guide;
      exact = exact;
      stack = stands.is_stack;
      above = λ answer is. (
        λ above. subst (λ (cursor : Cursor). IsAbove rules cursor answer) same above,
        λ above. subst (λ (cursor : Cursor). IsAbove rules cursor answer) (sym same) above,
      );
      last = λ some. absurd (omega (arith, some, no_last));
      some_printed = (λ some. absurd (omega (arith, some, no_last)), λ some. absurd (omega (arith, some, zero)));
      printed = omega (arith, zero);
      items = items;
      summary = λ items some. absurd (no_summary reading.summary items summary some);
    }
