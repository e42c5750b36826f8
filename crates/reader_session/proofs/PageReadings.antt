-- After a page the search stands where the last answer printed says, and its steps are kept; so the line is read on from there, and the
-- page is the reply.
use Rattle.std.proofs.Common.{◌≡◌, ◌↔◌, ℕ, ◌+◌, ◌<◌, ◌≤◌, min, IsTrue, List, [], ◌∷◌, ◌++◌, length, refl, sym, ap, subst, ◌∙◌, append_assoc, arith}
use Rattle.std.specs.declared.alloc.Global.{Global}
use Rattle.std.specs.Prelude.{Vec}
use Rattle.text_definitions.specs.Lines.{Line}
use Rattle.segmentation_definitions.specs.declared.limits.TheConstants.{LAST_ANSWER_NUMBER}
use Rattle.segmentation_definitions.specs.Derivations.{Step}
use Rattle.segmentation_definitions.specs.Items.{Choice}
use Rattle.segmentation_definitions.specs.Answers.{IsAnswer}
use Rattle.segmentation_definitions.specs.Listings.{Cursor, cursor_after, IsPage}
use Rattle.segmentation_definitions.specs.PrintedAnswers.{printed_answers, printed_rest, printed_page, next_number}
use Rattle.derivation.specs.Steps.{steps_of, StandIn}
use Rattle.derivation.specs.declared.step.Step.{Step as ProgramStep}
use Rattle.search_frames.specs.declared.resumption.Resumption.{Resumption}
use Rattle.annotated_trie.specs.Searched.{SearchedLexicon}
use Rattle.answer_paths.specs.Pages.{AreFirstAnswers}
use Rattle.segmenter.specs.Searches.{SearchValue, StandsWhere}
use Rattle.segmenter.specs.Skips.{value_of}
use Rattle.answer_printing.specs.Pages.{HasPrinted, KeepsLast, standing_at}
use Rattle.session_definitions.specs.States.{after_answers}
use Rattle.session_definitions.specs.Replies.{Open, IsPageReply, reply_in}
use Rattle.reader_session.specs.declared.reading.Reading.{Reading}
use Rattle.reader_session.specs.Readings.{IsReading, AreAnswerSteps, GoesOnWith, state_with, cursor_in, cursor_at_last}
use Rattle.reader_session.specs.PageEnds.{HasLeft, HasToldRest}
use Rattle.reader_session.proofs.PageCursors.{last_is_among, HaveSameAbove, same_then, same_after, page_there, stands_after, past_if_fewer}

-- the search that goes on from where a reading stands, as it is seen
abbrev pub search_in : SearchedLexicon → Reading → SearchValue
search_in searched reading = value_of searched reading.line reading.choices reading.resumption

-- the same reading, after a page
abbrev pub paged : Reading → Resumption → ℕ → Vec ProgramStep Global → Reading
paged reading resumption printed last = record reading { resumption = resumption; printed = printed; last = last }

-- ---- the steps that are kept

-- they are at the last answer that was printed
cursor_kept : (search : SearchValue) (answers : List (List Step)) (before after : List ProgramStep) → KeepsLast search answers before after
    → cursor_at_last search.searched.lexicon.rules search.line.letters after
    ≡ cursor_after (cursor_at_last search.searched.lexicon.rules search.line.letters before) answers
cursor_kept search [] before after kept = ap (cursor_at_last search.searched.lexicon.rules search.line.letters) kept
cursor_kept search (first ∷ answers) before [] kept = absurd (omega (arith, kept.2))
cursor_kept search (first ∷ answers) before (step ∷ after) kept = sym kept.0

-- the steps are those of an answer
abbrev AreStepsOf : SearchedLexicon → Line → List Choice → List ProgramStep → Type 0
AreStepsOf searched line choices steps =
    StandIn searched.lexicon.rules line.letters steps × IsAnswer searched.lexicon line choices (steps_of searched.lexicon.rules line.letters steps)

-- they are those of an answer
steps_kept : (search : SearchValue) (answers : List (List Step)) (before after : List ProgramStep) → KeepsLast search answers before after
    → AreFirstAnswers search.searched.lexicon search.line search.choices search.cursor answers
    → (0 < length before → AreStepsOf search.searched search.line search.choices before)
    → 0 < length after → AreStepsOf search.searched search.line search.choices after
steps_kept search [] before after kept firsts old some =
    subst (AreStepsOf search.searched search.line search.choices) (sym kept) (old (subst (λ (steps : List ProgramStep). 0 < length steps) kept some))
steps_kept search (first ∷ answers) before after kept firsts old some =
    (kept.1, firsts.only_answers _ (last_is_among first answers _ kept.0))

-- some answer was printed where steps are kept
number_kept : (search : SearchValue) (answers : List (List Step)) (before after : List ProgramStep) → KeepsLast search answers before after
    → (old new : ℕ) → (0 < length before) ↔ (0 < old) → old ≤ LAST_ANSWER_NUMBER → new ≡ min (old + length answers) LAST_ANSWER_NUMBER
    → (0 < length after) ↔ (0 < new)
number_kept search [] before after kept old new some within is =
    let same : length after ≡ length before = ap length kept in
    (λ kept. let more = some.0 (omega (arith, kept)) in omega (arith, more), λ more. let kept = some.1 (omega (arith, more)) in omega (arith, kept))
number_kept search (first ∷ answers) before after kept old new some within is =
    let steps = kept.2 in (λ more. omega arith, λ more. steps)

-- ---- the reading after a page

module _ (searched : SearchedLexicon) (reading : Reading) (is : IsReading searched reading) (new : SearchValue) (number count many total : ℕ)
    (before after end : List ℕ) (last : Vec ProgramStep Global) (resumption : Resumption)
    (printed : HasPrinted (search_in searched reading) new number count before after reading.last.items last.items many)
    (stands : StandsWhere new resumption) (told : HasToldRest new after end)
    (total_is : total ≡ min (reading.printed + many) LAST_ANSWER_NUMBER) where
  stays : new ≡ standing_at (search_in searched reading) new.cursor
  stays = printed.listed.same

  -- just the answers after the last one printed come after where the search stands
  same_above : HaveSameAbove searched.lexicon reading.line reading.choices new.cursor
      (cursor_after (cursor_in searched.lexicon.rules reading) printed.answers)
  same_above =
      same_then searched.lexicon reading.line reading.choices new.cursor (cursor_after (search_in searched reading).cursor printed.answers)
      (cursor_after (cursor_in searched.lexicon.rules reading) printed.answers)
      (stands_after (search_in searched reading) new count printed.answers printed.listed)
      (same_after searched.lexicon reading.line reading.choices (search_in searched reading).cursor (cursor_in searched.lexicon.rules reading)
      printed.answers is.above)

  cursor_is : cursor_in searched.lexicon.rules (paged reading resumption total last)
      ≡ cursor_after (cursor_in searched.lexicon.rules reading) printed.answers
  cursor_is = cursor_kept (search_in searched reading) printed.answers reading.last.items last.items printed.last

  -- the saved resumption is where the search was
  saved : StandsWhere (standing_at (search_in searched reading) new.cursor) resumption
  saved = subst (λ (search : SearchValue). StandsWhere search resumption) stays stands

  total_after : total ≡ min (reading.printed + length printed.answers) LAST_ANSWER_NUMBER
  total_after = total_is ∙ ap (λ n. min (reading.printed + n) LAST_ANSWER_NUMBER) (sym printed.many)

  old_steps : 0 < length reading.last.items → AreStepsOf searched reading.line reading.choices reading.last.items
  old_steps some = let steps = is.last some in (steps.stand_in, steps.answer)

  new_steps : 0 < length last.items → AreAnswerSteps searched (paged reading resumption total last)
  new_steps some =
      let steps = steps_kept (search_in searched reading) printed.answers reading.last.items last.items printed.last printed.listed.first old_steps some in
      record { stand_in = steps.0; answer = steps.1 }

  pub reading_after_page : IsReading searched (paged reading resumption total last)
  reading_after_page = record {
    line = is.line;
    few = is.few;
    chart = is.chart;
    guide = is.guide;
    exact = is.exact;
    stack = saved.is_stack;
    above = subst (λ cursor. HaveSameAbove searched.lexicon reading.line reading.choices cursor (cursor_in searched.lexicon.rules (paged reading resumption total last)))
        (sym saved.cursor)
        (subst (λ cursor. HaveSameAbove searched.lexicon reading.line reading.choices new.cursor cursor) (sym cursor_is) same_above);
    last = new_steps;
    some_printed = number_kept (search_in searched reading) printed.answers reading.last.items last.items printed.last reading.printed total is.some_printed
        is.printed total_after;
    printed = omega (arith, total_is);
    items = is.items;
    summary = is.summary;
  }

  -- the page is printed where the last answer printed was
  page : IsPage searched.lexicon reading.line reading.choices (cursor_in searched.lexicon.rules reading) count printed.answers told.more
  page =
      page_there searched.lexicon reading.line reading.choices (search_in searched reading).cursor (cursor_in searched.lexicon.rules reading) new.cursor
      printed.answers count told.more is.above printed.listed.first printed.listed.at_most same_above
      (λ fewer. ap (λ (search : SearchValue). search.cursor) (past_if_fewer (search_in searched reading) new count printed.answers printed.listed fewer))
      (subst (λ (search : SearchValue). IsTrue told.more ↔ HasLeft search) stays told.left)

  lines : number ≡ next_number reading.printed
      → end ≡ before ++ printed_page searched.lexicon.rules (next_number reading.printed) printed.answers told.more
  lines number_is =
      told.line ∙ ap (λ front. front ++ printed_rest told.more) printed.lines
      ∙ append_assoc before (printed_answers searched.lexicon.rules number printed.answers) (printed_rest told.more)
      ∙ ap (λ n. before ++ (printed_answers searched.lexicon.rules n printed.answers ++ printed_rest told.more)) number_is

  pub replies_with_page : number ≡ next_number reading.printed
      → GoesOnWith searched (IsPageReply searched.lexicon (state_with searched.lexicon.rules reading) count reading.line) before end
      (paged reading resumption total last)
  replies_with_page number_is =
      let state = state_with searched.lexicon.rules reading in
      record {
        reply = reply_in (after_answers state printed.answers)
            (printed_page searched.lexicon.rules (next_number reading.printed) printed.answers told.more);
        is_it = record { answers = printed.answers; more = told.more; page = page; is = refl };
        bytes = lines number_is;
        is_reading = reading_after_page;
        stands = ap (λ (p : ℕ × Cursor). Open (record state { printed = p.0; cursor = p.1 }))
            (λ i. (sym total_after i, sym cursor_is i));
      }
