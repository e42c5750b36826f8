-- The bookmark of what is read is one, and the reply with its text goes on: the keys of the last steps are those of an answer, by
-- the cases of whether there are last steps.
use Rattle.std.proofs.Common.{◌≡◌, ◌↔◌, ℕ, zero, suc, ◌*◌, ◌<◌, ◌≤◌, Option, Some, List, [], ◌∷◌, ◌++◌, length, All, refl, ap, sym, subst, ◌∙◌, arith}
use Rattle.std.proofs.lemmas.List.Elements.{All-nil}
use Rattle.std.specs.Global.{Box}
use Rattle.segmentation_definitions.specs.Answers.{IsAnswer}
use Rattle.segmentation_definitions.specs.Listings.{Key}
use Rattle.segmentation_definitions.specs.PrintedAnswers.{output_line}
use Rattle.derivation.specs.declared.step.Step.{Step as ProgramStep}
use Rattle.derivation.specs.Steps.{StandIn, steps_of, keys_of as step_keys}
use Rattle.derivation.proofs.PlacedSteps.{same_keys}
use Rattle.annotated_trie.specs.Searched.{SearchedLexicon, IsSearchedLexicon}
use Rattle.bookmark_definitions.specs.Bookmarks.{Bookmark, IsBookmark, IsKeyWithinBounds}
use Rattle.bookmark_definitions.specs.BookmarkTexts.{text_of_bookmark}
use Rattle.session_definitions.specs.States.{keys_at, bookmark_at}
use Rattle.session_definitions.specs.Requests.{Mark}
use Rattle.session_definitions.specs.Replies.{reply_to_mark, IsReplyTo}
use Rattle.reader_session.specs.declared.reading.Reading.{Reading}
use Rattle.reader_session.specs.Readings.{IsReading, IsReadingOver, GoesOn, GoesOnWith, cursor_at_last, state_with, state_of}
use Rattle.reader_session.specs.Marked.{mark_of}
use Rattle.reader_session.proofs.AnswerBounds.{keys_of_answer_within, few_keys_of_answer}

-- the bookmark of what is read
abbrev pub bookmark_of : SearchedLexicon → Reading → Bookmark
bookmark_of searched reading = bookmark_at searched.lexicon.rules (state_with searched.lexicon.rules reading) reading.line

-- where one number is above 0 only if the other is, it is 0 where the other is 0
none_by : (one other : ℕ) → (0 < one → 0 < other) → other ≡ 0 → one ≡ 0
none_by zero other only none = refl
none_by (suc one) other only none = absurd (omega (arith, only (omega arith)))

-- the keys are not too many and within the bounds, and there are some exactly where there are last steps
record AreMarkedKeys (letters steps : ℕ) (keys : List Key) : Type 0 where
  few : length keys ≤ 2 * letters
  within : All IsKeyWithinBounds keys
  none : (keys ≡ []) ↔ (steps ≡ 0)

-- the steps are those of an answer to the line that is read
abbrev IsAnswerAt : SearchedLexicon → Reading → List ProgramStep → Type 0
IsAnswerAt searched reading steps =
    IsAnswer searched.lexicon reading.line reading.choices (steps_of searched.lexicon.rules reading.line.letters steps)

module _ (searched : SearchedLexicon) (reading : Reading) (is : IsReading searched reading) where
  some_last : (step : ProgramStep) (steps : List ProgramStep) → reading.last.items ≡ step ∷ steps → 0 < length reading.last.items
  some_last step steps e = omega (arith, ap length e)

  keys_by_steps : (steps : List ProgramStep) → reading.last.items ≡ steps
      → step_keys steps ≡ keys_at searched.lexicon.rules (cursor_at_last searched.lexicon.rules reading.line.letters steps)
  keys_by_steps [] e = refl
  keys_by_steps (step ∷ steps) e =
      same_keys searched.lexicon.rules reading.line.letters (step ∷ steps)
      (subst (StandIn searched.lexicon.rules reading.line.letters) e (is.last (some_last step steps e)).stand_in)

  -- the parts of what is read and the keys of its last steps make its bookmark
  bookmark_is : mark_of reading ≡ bookmark_of searched reading
  bookmark_is =
      let same = keys_by_steps reading.last.items refl in
      λ i. record { line = reading.line; choices = reading.choices; printed = reading.printed; keys = same i }

  marked_keys : IsSearchedLexicon searched → (steps : List ProgramStep) → reading.last.items ≡ steps
      → AreMarkedKeys (length reading.line.letters) (length steps)
      (keys_at searched.lexicon.rules (cursor_at_last searched.lexicon.rules reading.line.letters steps))
  marked_keys lexicon [] e = record { few = omega arith; within = All-nil IsKeyWithinBounds; none = (λ _. refl, λ _. refl) }
  marked_keys lexicon (step ∷ steps) e =
      let taken = steps_of searched.lexicon.rules reading.line.letters (step ∷ steps) in
      let answer = subst (λ last. IsAnswerAt searched reading last) e (is.last (some_last step steps e)).answer in
      record {
        few = few_keys_of_answer searched reading.line reading.choices taken lexicon answer;
        within = keys_of_answer_within searched reading.line reading.choices taken lexicon answer;
        none = (λ none. absurd (cc (none)), λ none. absurd (omega arith));
      }

  has_bookmark : IsSearchedLexicon searched → IsBookmark (bookmark_of searched reading)
  has_bookmark lexicon =
      let keys = marked_keys lexicon reading.last.items refl in
      record {
        line = is.line;
        few_choices = is.few;
        items = is.items;
        printed = is.printed;
        few_keys = keys.few;
        keys = keys.within;
        no_keys = (
          λ none. none_by reading.printed (length reading.last.items) is.some_printed.1 (keys.none.0 none),
          λ none. keys.none.1 (none_by (length reading.last.items) reading.printed is.some_printed.0 none),
        );
      }

  pub mark_is_bookmark : IsSearchedLexicon searched → IsBookmark (mark_of reading)
  mark_is_bookmark lexicon = subst IsBookmark (sym bookmark_is) (has_bookmark lexicon)

  goes_on_marked : (before now : List ℕ) → now ≡ before ++ output_line (text_of_bookmark (mark_of reading))
      → GoesOnWith searched (IsReplyTo searched.lexicon (state_with searched.lexicon.rules reading) Mark) before now reading
  goes_on_marked before now e = record {
    reply = reply_to_mark searched.lexicon (state_with searched.lexicon.rules reading) reading.line;
    is_it = refl;
    bytes = e ∙ ap (λ mark. before ++ output_line (text_of_bookmark mark)) bookmark_is;
    is_reading = is;
    stands = refl;
  }

-- what is read, if any, is this
pub reading_marked : (searched : SearchedLexicon) (old : Option (Box Reading)) (reading : Box Reading) → old ≡ Some reading
    → IsReadingOver searched old → IsReading searched reading.value
reading_marked searched old reading e is = subst (IsReadingOver searched) e is

-- the reply with the text of the bookmark
pub reply_marked : (searched : SearchedLexicon) (old : Option (Box Reading)) (reading : Box Reading) (before now : List ℕ) → old ≡ Some reading
    → IsReadingOver searched old → now ≡ before ++ output_line (text_of_bookmark (mark_of reading.value))
    → GoesOn searched (IsReplyTo searched.lexicon (state_of searched.lexicon.rules old) Mark) before now (Some reading)
reply_marked searched old reading before now e is bytes =
    subst (λ old. GoesOn searched (IsReplyTo searched.lexicon (state_of searched.lexicon.rules old) Mark) before now (Some reading)) (sym e)
    (goes_on_marked searched reading.value (reading_marked searched old reading e is) before now bytes)
