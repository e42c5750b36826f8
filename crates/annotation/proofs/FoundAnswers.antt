-- A search that stood before the first answer and has moved stands at the first one; where it then comes past the last, this is the
-- only one, and where it moves again, it stands at the next.
use Rattle.std.proofs.Common.{◌≡◌, ◌≢◌, Some, List, [], refl, sym, ◌∙◌, ap, subst}
use Rattle.std.specs.declared.cmp.Ordering.{Ordering}
use Rattle.std.specs.declared.cmp.Ordering.TheVariants.{Less, Equal, Greater}
use Rattle.text_definitions.specs.Lines.{Line}
use Rattle.lexicon_definitions.specs.Lexicons.{Lexicon}
use Rattle.segmentation_definitions.specs.Derivations.{Step}
use Rattle.segmentation_definitions.specs.Items.{Choice}
use Rattle.segmentation_definitions.specs.Answers.{IsAnswer}
use Rattle.segmentation_definitions.specs.Listings.{compare_answers, Cursor, BeforeFirst, AtAnswer, PastLast, IsAbove, IsNext, Key, keys_of}
use Rattle.segmentation_definitions.proofs.KeyLists.{compare_key_lists_exact, same_steps}
use Rattle.derivation.specs.declared.step.Step.{Step as ProgramStep}
use Rattle.derivation.specs.Steps.{StandIn, steps_of, keys_of as step_keys}
use Rattle.derivation.proofs.PlacedSteps.{same_keys as kept_keys}
use Rattle.segmenter.specs.Searches.{SearchValue, MovedOn, HasEnded, IsCurrent}
use Rattle.note_definitions.specs.Notes.{IsOnlyAnswer}
use Rattle.note_definitions.specs.NoteOutcomes.{NoAnswer, Several, IsOutcome}
use Rattle.annotation.specs.Answers.{AreOnly, AreCurrent, HasNextSteps}

-- neither above nor below is equal
equal_if_neither : (o : Ordering) → o ≢ Greater → (o ≡ Less → ⊥) → o ≡ Equal
equal_if_neither Less above below = absurd (below refl)
equal_if_neither Equal above below = refl
equal_if_neither Greater above below = absurd (above refl)

-- the first answer is the only one where none comes after it
only_if_last : (lexicon : Lexicon) (line : Line) (choices : List Choice) (steps : List Step) → IsNext lexicon line choices BeforeFirst steps
    → ((other : List Step) → IsAnswer lexicon line choices other → IsAbove lexicon.rules (AtAnswer steps) other → ⊥)
    → IsOnlyAnswer lexicon line choices steps
only_if_last lexicon line choices steps first none = record {
  answer = first.answer;
  only = λ other answer.
      let equal = equal_if_neither (compare_answers lexicon.rules steps other) (first.least other answer tt) (none other answer) in
      sym (same_steps lexicon.rules steps other 0 0 [] [] line.letters line.letters [] [] refl refl first.answer.derives.covers answer.derives.covers
      (compare_key_lists_exact _ _ equal));
}

-- the search at this answer
abbrev pub standing_at : SearchValue → List Step → SearchValue
standing_at search answer = record { searched = search.searched; line = search.line; choices = search.choices; cursor = AtAnswer answer }

-- these are the program's steps of the answer
record AreStepsOf (search : SearchValue) (answer : List Step) (steps : List ProgramStep) : Type 0 where
  same : steps_of search.searched.lexicon.rules search.line.letters steps ≡ answer
  stand : StandIn search.searched.lexicon.rules search.line.letters steps

abbrev steps_at : List Step → Cursor → List Step
steps_at other BeforeFirst = other
steps_at other (AtAnswer steps) = steps
steps_at other PastLast = other

steps_by : (search : SearchValue) (answer : List Step) (steps : List ProgramStep) → IsCurrent (standing_at search answer) (Some steps)
    → AreStepsOf search answer steps
steps_by search answer steps current = record { same = ap (steps_at answer) (sym current.0); stand = current.1 }

steps_moved : (old new : SearchValue) (moved : MovedOn old new) (steps : List ProgramStep) → AreCurrent new steps
    → AreStepsOf old moved.answer steps
steps_moved old new moved steps current =
    steps_by old moved.answer steps
    (subst (λ (s : SearchValue). IsCurrent s (Some steps)) moved.is (current moved.answer (ap (λ (s : SearchValue). s.cursor) moved.is)))

-- ---- the three ends

pub none_found : (old new : SearchValue) → old.cursor ≡ BeforeFirst → HasEnded old new
    → IsOutcome old.searched.lexicon old.line old.choices NoAnswer
none_found old new before ended = λ steps answer. ended.none steps answer (subst (λ (c : Cursor). IsAbove old.searched.lexicon.rules c steps) (sym before) tt)

pub one_found : (old mid new : SearchValue) (steps : List ProgramStep) → old.cursor ≡ BeforeFirst → HasNextSteps old mid steps
    → HasEnded mid new → AreOnly old.searched.lexicon old.line old.choices steps
one_found old mid new steps before next ended =
    let moved = next.moved in
    let are = steps_moved old mid moved steps next.current in
    let first = subst (λ (c : Cursor). IsNext old.searched.lexicon old.line old.choices c moved.answer) before moved.next in
    let none = subst (λ (s : SearchValue). (other : List Step) → IsAnswer s.searched.lexicon s.line s.choices other → IsAbove s.searched.lexicon.rules s.cursor other → ⊥)
    moved.is ended.none in
    record {
      stand = are.stand;
      answer = subst (IsOnlyAnswer old.searched.lexicon old.line old.choices) (sym are.same)
          (only_if_last old.searched.lexicon old.line old.choices moved.answer first none);
    }

-- the keys of the program's steps are those of the answer
same_keys : (search : SearchValue) (answer : List Step) (steps : List ProgramStep) → AreStepsOf search answer steps
    → step_keys steps ≡ keys_of search.searched.lexicon.rules answer
same_keys search answer steps are =
    kept_keys search.searched.lexicon.rules search.line.letters steps are.stand ∙ ap (keys_of search.searched.lexicon.rules) are.same

pub two_found : (old mid new : SearchValue) (left right : List ProgramStep) (first second : List Key) → old.cursor ≡ BeforeFirst
    → HasNextSteps old mid left → HasNextSteps mid new right
    → first ≡ step_keys left → second ≡ step_keys right
    → IsOutcome old.searched.lexicon old.line old.choices (Several first second)
two_found old mid new left right first second before next after e f =
    let moved = next.moved in
    let later = after.moved in
    let one = steps_moved old mid moved left next.current in
    let two = steps_moved mid new later right after.current in
    let at : mid ≡ standing_at old moved.answer = moved.is in (
      moved.answer,
      later.answer,
      subst (λ (c : Cursor). IsNext old.searched.lexicon old.line old.choices c moved.answer) before moved.next,
      subst (λ (s : SearchValue). IsNext s.searched.lexicon s.line s.choices s.cursor later.answer) at later.next,
      e ∙ same_keys old moved.answer left one,
      f ∙ same_keys mid later.answer right two ∙ ap (λ (s : SearchValue). keys_of s.searched.lexicon.rules later.answer) at,
    )
