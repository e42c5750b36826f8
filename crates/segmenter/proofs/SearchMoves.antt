-- The first path from the opening is the next answer of a search that stands before the first, and the first that comes after
-- the keys of an answer is the next one after it.
use Rattle.std.proofs.Common.{◌≡◌, List, Some, take, sym, ap, subst}
use Rattle.text_definitions.specs.Lines.{Line}
use Rattle.segmentation_definitions.specs.Items.{Choice}
use Rattle.segmentation_definitions.specs.Listings.{IsAbove, IsNext}
use Rattle.derivation.specs.Steps.{steps_of}
use Rattle.derivation.specs.declared.step.Step.{Step as ProgramStep}
use Rattle.annotated_trie.specs.Searched.{SearchedLexicon, IsSearchedLexicon}
use Rattle.search_frames.specs.declared.cursor.Cursor.TheVariants as cursor
use Rattle.search_frames.specs.declared.resumption.Resumption.{Resumption}
use Rattle.search_frames.specs.Configurations.{opening, rules_in}
use Rattle.segmenter.specs.Chains.{HasFound, HasNone, Every, ComesAfter}
use Rattle.segmenter.specs.Moves.{StandsAtNext, HasNoNext, HasMoved}
use Rattle.search_frames.specs.Stacks.{steps_in}
use Rattle.segmenter.specs.Searches.{IsStackOf, MovedOn, IsCurrent, cursor_of, cursor_at}
use Rattle.segmenter.proofs.StandingAnswers.{frames_stand, next_from_first, none_from_first, next_from_later, none_from_later}

module _ (searched : SearchedLexicon) (line : Line) (choices : List Choice) (old : Resumption) (is : IsSearchedLexicon searched)
    (stack_is : IsStackOf searched line choices old) where
  -- ---- before the first answer

  pub next_before : (new : Resumption) → old.cursor ≡ cursor.Before → HasFound searched line choices Every new 0 opening
      → StandsAtNext searched line choices old new
  next_before new before found =
      let stands = frames_stand searched line choices new found.keys is stack_is.is_line found.frames found.first.path in
      record {
        answer = record { keys = found.keys; frames = found.frames; path = found.first.path };
        next = subst (λ cursor. IsNext searched.lexicon line choices (cursor_at searched line old cursor)
            (steps_of (rules_in searched) line.letters (steps_in new))) (sym before)
            (next_from_first searched line choices is stack_is.is_line found.keys _ found.first stands.answer stands.same);
      }

  pub none_before : old.cursor ≡ cursor.Before → HasNone searched line choices Every opening → HasNoNext searched line choices old
  none_before before none answer answer_is above = none_from_first searched line choices is stack_is.is_line none answer answer_is

  -- ---- at an answer

  module _ (at : old.cursor ≡ cursor.At) where
    pub next_at : (new : Resumption) → HasFound searched line choices (ComesAfter (stack_is.answer at).keys) new 0 opening
        → StandsAtNext searched line choices old new
    next_at new found =
        let here = frames_stand searched line choices old (stack_is.answer at).keys is stack_is.is_line (stack_is.answer at).frames (stack_is.answer at).path in
        let stands = frames_stand searched line choices new found.keys is stack_is.is_line found.frames found.first.path in
        record {
          answer = record { keys = found.keys; frames = found.frames; path = found.first.path };
          next = subst (λ cursor. IsNext searched.lexicon line choices (cursor_at searched line old cursor)
              (steps_of (rules_in searched) line.letters (steps_in new))) (sym at)
              (next_from_later searched line choices is stack_is.is_line _ here.answer (stack_is.answer at).keys here.same found.keys _ found.first
              stands.answer stands.same);
        }

    pub none_at : HasNone searched line choices (ComesAfter (stack_is.answer at).keys) opening → HasNoNext searched line choices old
    none_at none answer answer_is above =
        let here = frames_stand searched line choices old (stack_is.answer at).keys is stack_is.is_line (stack_is.answer at).frames (stack_is.answer at).path in
        none_from_later searched line choices is stack_is.is_line _ here.answer (stack_is.answer at).keys here.same none answer answer_is
        (subst (λ cursor. IsAbove (rules_in searched) (cursor_at searched line old cursor) answer) at above)

    -- the steps of the stack are those of the answer at which it stands
    pub current_at : (items : List ProgramStep) → items ≡ old.steps.items
        → IsCurrent (record { searched = searched; line = line; choices = choices; cursor = cursor_of searched line old })
        (Some (take old.depth items))
    current_at items items_are =
        let here = frames_stand searched line choices old (stack_is.answer at).keys is stack_is.is_line (stack_is.answer at).frames (stack_is.answer at).path in
        subst (λ items. IsCurrent (record { searched = searched; line = line; choices = choices; cursor = cursor_of searched line old })
        (Some (take old.depth items))) (sym items_are)
        (ap (cursor_at searched line old) at, here.stands, here.some)

-- ---- what contracts see of a move

pub moved_on : (searched : SearchedLexicon) (line : Line) (choices : List Choice) (old new : Resumption) → HasMoved searched line choices old new
    → MovedOn (record { searched = searched; line = line; choices = choices; cursor = cursor_of searched line old })
    (record { searched = searched; line = line; choices = choices; cursor = cursor_of searched line new })
moved_on searched line choices old new moved = record {
  answer = steps_of (rules_in searched) line.letters (steps_in new);
  is = ap (λ cursor. record { searched = searched; line = line; choices = choices; cursor = cursor_at searched line new cursor }) moved.cursor;
  next = moved.next;
}
