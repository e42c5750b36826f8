-- From answer to answer a search goes to the next front: before the first answer by its next answer, else by a skip, since what has
-- other first keys and comes later has a later front.
use Rattle.std.proofs.Common.{◌≡◌, ◌≢◌, ℕ, Bool, true, false, Option, Some, None, MatchOption, Bor, List, take, refl, sym, subst}
use Rattle.std.specs.Bool.{OnTrue, OnFalse}
use Rattle.std.specs.Option.{is_some}
use Rattle.std.specs.declared.cmp.Ordering.TheVariants.{Less, Greater}
use Rattle.text_definitions.specs.Lines.{Line}
use Rattle.segmentation_definitions.specs.Derivations.{Step}
use Rattle.segmentation_definitions.specs.Items.{Choice}
use Rattle.segmentation_definitions.specs.Answers.{IsAnswer}
use Rattle.segmentation_definitions.specs.Listings.{Key, keys_of, compare_answers, compare_key_lists, Cursor, BeforeFirst, AtAnswer, PastLast, IsAbove, IsNext}
use Rattle.front_definitions.specs.Fronts.{front_of, IsAfterFront, IsFirstAfter, HasNoneAfter}
use Rattle.front_definitions.proofs.KeyListFronts.{front_less, smaller_front}
use Rattle.derivation.specs.declared.step.Step.{Step as ProgramStep}
use Rattle.derivation.specs.Steps.{steps_of}
use Rattle.annotated_trie.specs.Searched.{SearchedLexicon}
use Rattle.segmenter.specs.Searches.{SearchValue, MovedOn, HasEnded, IsCurrent, IsPastKeys, Skipped, HasSkippedAll}
use Rattle.search_split.specs.NextFronts.{IsFrontAt, HasNextFront, HasNoNextFront}

abbrev steps_at : Cursor → List Step → List Step
steps_at BeforeFirst other = other
steps_at (AtAnswer answer) other = answer
steps_at PastLast other = other

pub same_answer : (left right : List Step) → AtAnswer left ≡ AtAnswer right → left ≡ right
same_answer left right same i = steps_at (same i) left

abbrev is_at : Cursor → Type 0
is_at BeforeFirst = ⊥
is_at (AtAnswer answer) = Unit {0}
is_at PastLast = ⊥

not_before : (answer : List Step) → BeforeFirst ≡ AtAnswer answer → ⊥
not_before answer same = subst is_at (sym same) tt

module _ (searched : SearchedLexicon) (line : Line) (choices : List Choice) (depth : ℕ) where
  abbrev at_cursor : Cursor → SearchValue
  at_cursor cursor = record { searched = searched; line = line; choices = choices; cursor = cursor }

  first_by_next : (cursor : Cursor) (answer : List Step) → ((here : List Step) → cursor ≡ AtAnswer here → ⊥) → IsNext searched.lexicon line choices cursor answer
      → (front : Option (List Key)) → IsFrontAt searched.lexicon.rules depth cursor front → IsFirstAfter searched.lexicon line choices depth front answer
  first_by_next BeforeFirst answer none next front at = record {
    is_answer = next.answer;
    after = subst (λ earlier. IsAfterFront earlier (front_of searched.lexicon.rules depth answer)) (sym at) tt;
    least = λ other of after. next.least other of tt;
  }
  first_by_next (AtAnswer here) answer none next front at = absurd (none here refl)
  first_by_next PastLast answer none next front at = absurd at

  none_by_end : (cursor : Cursor) → ((here : List Step) → cursor ≡ AtAnswer here → ⊥)
      → ((answer : List Step) → IsAnswer searched.lexicon line choices answer → IsAbove searched.lexicon.rules cursor answer → ⊥)
      → (front : Option (List Key)) → IsFrontAt searched.lexicon.rules depth cursor front → HasNoneAfter searched.lexicon line choices depth front
  none_by_end BeforeFirst not_at none front at = λ answer of after. none answer of tt
  none_by_end (AtAnswer here) not_at none front at = absurd (not_at here refl)
  none_by_end PastLast not_at none front at = absurd at

  -- an answer with a later front comes later and has other first keys
  past_keys : (here answer : List Step) → compare_key_lists (front_of searched.lexicon.rules depth here) (front_of searched.lexicon.rules depth answer) ≡ Less
      → IsPastKeys (at_cursor (AtAnswer here)) depth answer
  past_keys here answer less =
      let apart = smaller_front searched.lexicon.rules depth here answer less in (
        apart.0,
        λ other same equal. apart.1
            (sym (subst (λ steps. take depth (keys_of searched.lexicon.rules answer) ≡ take depth (keys_of searched.lexicon.rules steps))
            (sym (same_answer here other same)) equal)),
      )

  first_by_skip : (cursor : Cursor) (answer : List Step) → (some : (here : List Step) × (cursor ≡ AtAnswer here))
      → IsAnswer searched.lexicon line choices answer → IsPastKeys (at_cursor cursor) depth answer
      → ((other : List Step) → IsAnswer searched.lexicon line choices other → IsPastKeys (at_cursor cursor) depth other
      → compare_answers searched.lexicon.rules answer other ≢ Greater)
      → (front : Option (List Key)) → IsFrontAt searched.lexicon.rules depth cursor front → IsFirstAfter searched.lexicon line choices depth front answer
  first_by_skip BeforeFirst answer some of past least front at = absurd (not_before some.0 some.1)
  first_by_skip (AtAnswer here) answer some of past least front at = record {
    is_answer = of;
    after = subst (λ earlier. IsAfterFront earlier (front_of searched.lexicon.rules depth answer)) (sym at)
        (front_less depth (keys_of searched.lexicon.rules here) (keys_of searched.lexicon.rules answer) past.0 (λ same. past.1 here refl (sym same)));
    least = λ other is after. least other is
        (past_keys here other (subst (λ earlier. IsAfterFront earlier (front_of searched.lexicon.rules depth other)) at after));
  }
  first_by_skip PastLast answer some of past least front at = absurd at

  none_by_skip : (cursor : Cursor) → ((answer : List Step) → IsAnswer searched.lexicon line choices answer → IsPastKeys (at_cursor cursor) depth answer → ⊥)
      → (some : (here : List Step) × (cursor ≡ AtAnswer here))
      → (front : Option (List Key)) → IsFrontAt searched.lexicon.rules depth cursor front → HasNoneAfter searched.lexicon line choices depth front
  none_by_skip BeforeFirst none some front at = absurd (not_before some.0 some.1)
  none_by_skip (AtAnswer here) none some front at = λ answer of after. none answer of
      (past_keys here answer (subst (λ earlier. IsAfterFront earlier (front_of searched.lexicon.rules depth answer)) at after))
  none_by_skip PastLast none some front at = absurd at

module _ (depth : ℕ) (old new : SearchValue) where
  pub moved_by_advance : IsCurrent old None → MovedOn old new → HasNextFront depth old new
  moved_by_advance none moved = record {
    answer = moved.answer;
    is = moved.is;
    first = first_by_next old.searched old.line old.choices depth old.cursor moved.answer none moved.next;
  }

  pub ended_by_advance : IsCurrent old None → HasEnded old new → HasNoNextFront depth old
  ended_by_advance none ended = none_by_end old.searched old.line old.choices depth old.cursor none ended.none

  pub moved_by_skip : (here : List Step) × (old.cursor ≡ AtAnswer here) → Skipped depth old new → HasNextFront depth old new
  moved_by_skip some moved = record {
    answer = moved.answer;
    is = moved.is;
    first = first_by_skip old.searched old.line old.choices depth old.cursor moved.answer some moved.is_answer moved.past moved.least;
  }

  pub ended_by_skip : (here : List Step) × (old.cursor ≡ AtAnswer here) → HasSkippedAll depth old new → HasNoNextFront depth old
  ended_by_skip some ended = none_by_skip old.searched old.line old.choices depth old.cursor ended.none some

  -- a search that has steps to show stands at an answer
  stands_somewhere : (current : Option (Bor (List ProgramStep))) → MatchOption current (IsCurrent old None) (λ steps. IsCurrent old (Some steps.now))
      → is_some current ≡ true → (here : List Step) × (old.cursor ≡ AtAnswer here)
  stands_somewhere None answer some = absurd (cc (some))
  stands_somewhere (Some steps) answer some = (steps_of old.searched.lexicon.rules old.line.letters steps.now, answer.0)

  pub on_skip_moved : (moved : Bool) (current : Option (Bor (List ProgramStep)))
      → MatchOption current (IsCurrent old None) (λ steps. IsCurrent old (Some steps.now)) → is_some current ≡ true
      → OnTrue moved (Skipped depth old new) → OnTrue moved (HasNextFront depth old new)
  on_skip_moved true current answer some skipped = moved_by_skip (stands_somewhere current answer some) skipped
  on_skip_moved false current answer some skipped = tt

  pub on_skip_ended : (moved : Bool) (current : Option (Bor (List ProgramStep)))
      → MatchOption current (IsCurrent old None) (λ steps. IsCurrent old (Some steps.now)) → is_some current ≡ true
      → OnFalse moved (HasSkippedAll depth old new) → OnFalse moved (HasNoNextFront depth old)
  on_skip_ended true current answer some ended = tt
  on_skip_ended false current answer some ended = ended_by_skip (stands_somewhere current answer some) ended
