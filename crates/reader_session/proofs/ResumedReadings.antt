-- What is read on from a bookmark is what its keys say: by the cases of whether there are keys, and whether there are last steps.
use Rattle.std.proofs.Common.{◌≡◌, ◌≢◌, ◌↔◌, ℕ, zero, suc, ◌<◌, Option, Some, None, List, [], ◌∷◌, length, refl, sym, subst, ◌∙◌, arith}
use Rattle.std.specs.Prelude.{Vec}
use Rattle.std.specs.Option.{option_map}
use Rattle.std.specs.declared.alloc.Global.{Global}
use Rattle.text_definitions.specs.Lines.{Line}
use Rattle.segmentation_definitions.specs.Items.{Item, Choice}
use Rattle.segmentation_definitions.specs.Derivations.{Step}
use Rattle.segmentation_definitions.specs.Answers.{IsAnswer}
use Rattle.segmentation_definitions.specs.Listings.{Key, Cursor, IsAbove}
use Rattle.derivation.specs.declared.item.Item.{Item as ProgramItem}
use Rattle.derivation.specs.declared.step.Step.{Step as ProgramStep}
use Rattle.derivation.specs.declared.step.Key.{Key as ProgramKey}
use Rattle.derivation.specs.Steps.{StandIn, steps_of, keys_meant}
use Rattle.annotated_trie.specs.Searched.{SearchedLexicon}
use Rattle.bookmark_definitions.specs.Bookmarks.{Bookmark, IsBookmark}
use Rattle.session_definitions.specs.Replies.{IsCursorOfKeys}
use Rattle.search_frames.specs.Guided.{IsGuideOf, IsExactOf}
use Rattle.derivation.specs.Steps.{keys_meant}
use Rattle.segmenter.specs.Searches.{SearchValue, AreNoKeys, StandsAtKeys, StandsWhere, cursor_of}
use Rattle.summary_chart.specs.Charts.{CoversPlace, says_of}
use Rattle.summary_chart.specs.PlaceWays.{IsChartOf}
use Rattle.reader_session.specs.declared.reading.Reading.{Reading}
use Rattle.reader_session.specs.Readings.{cursor_at_last, cursor_in}
use Rattle.reader_session.specs.Resumed.{HasPhases, IsLastOf, IsResumed, IsResumedAt}

-- ---- where a search stands at keys

-- the last steps tell where the search stands
cursor_by_last : (search : SearchValue) (keys : List Key) (last : List ProgramStep) → StandsAtKeys search keys → IsLastOf search last
    → search.cursor ≡ cursor_at_last search.searched.lexicon.rules search.line.letters last
cursor_by_last search [] [] at is_last = at
cursor_by_last search [] (step ∷ steps) at is_last = is_last.0
cursor_by_last search (key ∷ keys) [] at is_last = absurd (is_last at.0 at.1)
cursor_by_last search (key ∷ keys) (step ∷ steps) at is_last = is_last.0

-- they are those of an answer
record AreOfAnswer (search : SearchValue) (last : List ProgramStep) : Type 0 where
  stand_in : StandIn search.searched.lexicon.rules search.line.letters last
  answer : IsAnswer search.searched.lexicon search.line search.choices (steps_of search.searched.lexicon.rules search.line.letters last)

of_answer : (search : SearchValue) (keys : List Key) (last : List ProgramStep) → StandsAtKeys search keys → IsLastOf search last
    → 0 < length last → AreOfAnswer search last
of_answer search keys [] at is_last some = absurd (omega arith)
of_answer search [] (step ∷ steps) at is_last some = absurd (cc (at, is_last.0))
of_answer search (key ∷ keys) (step ∷ steps) at is_last some =
    let same : at.0 ≡ steps_of search.searched.lexicon.rules search.line.letters (step ∷ steps) = cc (at.1, is_last.0) in
    record {
      stand_in = is_last.1;
      answer = subst (IsAnswer search.searched.lexicon search.line search.choices) same at.2;
    }

not_none : (number : ℕ) → (number ≡ 0 → ⊥) → 0 < number
not_none zero none = absurd (none refl)
not_none (suc number) none = omega arith

-- there are last steps exactly where there are keys
last_if_printed : (search : SearchValue) (keys : List Key) (last : List ProgramStep) (printed : ℕ) → StandsAtKeys search keys
    → IsLastOf search last → (keys ≡ []) ↔ (printed ≡ 0) → (0 < length last) ↔ (0 < printed)
last_if_printed search [] [] printed at is_last no_keys =
    let none = no_keys.0 refl in (λ some. absurd (omega arith), λ some. absurd (omega arith))
last_if_printed search [] (step ∷ steps) printed at is_last no_keys = absurd (cc (at, is_last.0))
last_if_printed search (key ∷ keys) [] printed at is_last no_keys = absurd (is_last at.0 at.1)
last_if_printed search (key ∷ keys) (step ∷ steps) printed at is_last no_keys =
    (λ some. not_none printed (λ none. absurd (cc (no_keys.1 none))), λ some. omega arith)

-- ---- cursors of bookmarks

cursor_of_keys : (search : SearchValue) (keys : List Key) → StandsAtKeys search keys
    → IsCursorOfKeys search.searched.lexicon search.line search.choices keys search.cursor
cursor_of_keys search [] at = at
cursor_of_keys search (key ∷ keys) at = (at.0, at.2, at.3, at.1)

-- keys of no answer have no cursor
no_cursor : (searched : SearchedLexicon) (line : Line) (choices : List Choice) (keys : List ProgramKey) (cursor : Cursor)
    → keys ≢ [] → AreNoKeys searched line choices (keys_meant keys)
    → IsCursorOfKeys searched.lexicon line choices (keys_meant keys) cursor → ⊥
no_cursor searched line choices [] cursor some none is = absurd (some refl)
no_cursor searched line choices (key ∷ keys) cursor some none is = none is.0 is.1 is.2

-- a bookmark with keys of no answer is not one over the lexicon
pub none_resumed : (searched : SearchedLexicon) (line : Line) (choices : List Choice) (printed : ℕ) (keys : List ProgramKey)
    → keys ≢ [] → AreNoKeys searched line choices (keys_meant keys)
    → IsResumed searched (record { line = line; choices = choices; printed = printed; keys = keys_meant keys }) None
none_resumed searched line choices printed keys some none =
    λ cursor is. no_cursor searched line choices keys cursor some none is.keys

-- ---- what is read on

pub no_summary : (summary : Option (Vec ProgramItem Global)) (items : List Item) → summary ≡ None
    → option_map (λ items. items.items) summary ≡ Some items → ⊥
no_summary None items none some = cc
no_summary (Some summary) items none some = cc

module _ (searched : SearchedLexicon) (reading : Reading) (keys : List Key) (summary : reading.summary ≡ None) where
  -- the bookmark that is resumed
  abbrev pub mark_of : Bookmark
  mark_of = record { line = reading.line; choices = reading.choices; printed = reading.printed; keys = keys }

  -- a search over what is read, at this cursor
  abbrev pub search_at : Cursor → SearchValue
  search_at cursor = record { searched = searched; line = reading.line; choices = reading.choices; cursor = cursor }

  same_above : (cursor : Cursor) (answer : List Step) → cursor_of searched reading.line reading.resumption ≡ cursor
      → cursor ≡ cursor_in searched.lexicon.rules reading
      → IsAbove searched.lexicon.rules (cursor_of searched reading.line reading.resumption) answer
      ↔ IsAbove searched.lexicon.rules (cursor_in searched.lexicon.rules reading) answer
  same_above cursor answer stands is =
      let same = stands ∙ is in (
        λ above. subst (λ cursor. IsAbove searched.lexicon.rules cursor answer) same above,
        λ above. subst (λ cursor. IsAbove searched.lexicon.rules cursor answer) (sym same) above,
      )

  resumed_at : (cursor : Cursor) → IsBookmark mark_of → HasPhases searched.lexicon reading.choices
      → IsChartOf searched reading.line reading.choices reading.chart
      → IsGuideOf searched reading.line reading.choices (CoversPlace reading.chart.table) (says_of reading.chart.table)
      → IsExactOf searched reading.line reading.choices (says_of reading.chart.table)
      → StandsAtKeys (search_at cursor) keys → IsLastOf (search_at cursor) reading.last.items
      → StandsWhere (search_at cursor) reading.resumption → IsResumedAt searched mark_of reading cursor
  resumed_at cursor mark phases chart guide exact at is_last stands =
      let is : cursor ≡ cursor_in searched.lexicon.rules reading = cursor_by_last (search_at cursor) keys reading.last.items at is_last in
      record {
        is_reading = record {
          line = mark.line;
          few = mark.few_choices;
          chart = chart;
          guide = guide;
          exact = exact;
          stack = stands.is_stack;
          above = λ answer is_answer. same_above cursor answer stands.cursor is;
          last = λ some.
              let of = of_answer (search_at cursor) keys reading.last.items at is_last some in
              record { stand_in = of.stand_in; answer = of.answer };
          some_printed = last_if_printed (search_at cursor) keys reading.last.items reading.printed at is_last mark.no_keys;
          printed = mark.printed;
          items = mark.items;
          summary = λ items some. absurd (no_summary reading.summary items summary some);
        };
        is_cursor = record { phases = phases; keys = cursor_of_keys (search_at cursor) keys at };
        state = λ i. record {
          line = Some reading.line;
          choices = reading.choices;
          printed = reading.printed;
          cursor = sym is i;
          summary = option_map (λ items. items.items) (summary i);
        };
      }

  -- the line is read on where a search stands at the keys
  pub resumed : (search : SearchValue) → IsBookmark mark_of → HasPhases searched.lexicon reading.choices
      → IsChartOf searched reading.line reading.choices reading.chart
      → IsGuideOf searched reading.line reading.choices (CoversPlace reading.chart.table) (says_of reading.chart.table)
      → IsExactOf searched reading.line reading.choices (says_of reading.chart.table)
      → search ≡ search_at search.cursor → StandsAtKeys search keys → IsLastOf search reading.last.items
      → StandsWhere search reading.resumption → IsResumed searched mark_of (Some reading)
  resumed search mark phases chart guide exact over at is_last stands = (
    search.cursor,
    resumed_at search.cursor mark phases chart guide exact (subst (λ search. StandsAtKeys search keys) over at)
        (subst (λ search. IsLastOf search reading.last.items) over is_last) (subst (λ search. StandsWhere search reading.resumption) over stands),
  )
