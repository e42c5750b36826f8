-- The first path that comes after the first keys of an answer is the least answer past them, since both are told by keys; and
-- the frames of these keys stand as those of the answer do.
use Rattle.std.proofs.Common.{◌≡◌, ◌≢◌, ℕ, ◌<◌, ◌≤◌, List, length, take, min, refl, sym, ap, ◌∙◌, subst, arith}
use Rattle.text_definitions.specs.Lines.{Line, IsLine}
use Rattle.segmentation_definitions.specs.Derivations.{Step}
use Rattle.segmentation_definitions.specs.Items.{Choice}
use Rattle.segmentation_definitions.specs.Answers.{IsAnswer}
use Rattle.segmentation_definitions.specs.Listings.{Key, keys_of, AtAnswer}
use Rattle.listing_laws.specs.Cursors.{IsFirst}
use Rattle.derivation.specs.Steps.{steps_of}
use Rattle.annotated_trie.specs.Searched.{SearchedLexicon, IsSearchedLexicon}
use Rattle.search_frames.specs.declared.cursor.Cursor.{Cursor as StackCursor}
use Rattle.search_frames.specs.declared.cursor.Cursor.TheVariants as cursor
use Rattle.search_frames.specs.declared.resumption.Resumption.{Resumption}
use Rattle.search_frames.specs.Configurations.{opening, rules_in, ways_in}
use Rattle.search_frames.specs.Frames.{here_of}
use Rattle.segmenter.specs.Chains.{AreFrames, HasFound, HasNone, HasRoom, ComesAfter, LeadAlong}
use Rattle.search_frames.specs.Stacks.{steps_in}
use Rattle.segmenter.specs.Searches.{SearchValue, IsStackOf, StandsAtAnswer, IsPastKeys, Skipped, HasSkippedAll, cursor_at, cursor_of}
use Rattle.segmenter.specs.Skips.{IsLeastPast, HasNonePast, StandsPast, HasSkipped, HasSkippedOut, value_of}
use Rattle.segmenter.proofs.StandingAnswers.{StandAsAnswer, frames_stand, frames_count, frames_front, along_path, along_front, path_of, with_depth}
use Rattle.segmenter.proofs.SearchStacks.{at_opening, first_room, some_depth}
use Rattle.segmenter.proofs.SkippedKeys.{greater_than_first, others_than_first, after_first_keys}

same_answer : (left right : List Step) → AtAnswer left ≡ AtAnswer right → left ≡ right
same_answer left right same = cc

-- ---- answers past the first keys of one

module _ (searched : SearchedLexicon) (line : Line) (choices : List Choice) (is : IsSearchedLexicon searched) (line_is : IsLine line)
    (here : List Step) (here_is : IsAnswer searched.lexicon line choices here) (depth n : ℕ)
    (count : n ≡ min depth (length (keys_of (rules_in searched) here))) where
  -- the search that stands at the answer
  abbrev search_here : SearchValue
  search_here = record { searched = searched; line = line; choices = choices; cursor = AtAnswer here }

  past_if_after : (answer : List Step) → ComesAfter (take n (keys_of (rules_in searched) here)) (keys_of (rules_in searched) answer)
      → IsPastKeys search_here depth answer
  past_if_after answer later = (
    greater_than_first n (keys_of (rules_in searched) here) (keys_of (rules_in searched) answer) later,
    λ other same.
        subst (λ other. take depth (keys_of (rules_in searched) answer) ≢ take depth (keys_of (rules_in searched) other)) (same_answer here other same)
        (others_than_first n depth (keys_of (rules_in searched) here) (keys_of (rules_in searched) answer) (omega (arith, count)) later),
  )

  after_if_past : (answer : List Step) → IsAnswer searched.lexicon line choices answer → IsPastKeys search_here depth answer
      → ComesAfter (take n (keys_of (rules_in searched) here)) (keys_of (rules_in searched) answer)
  after_if_past answer answer_is past =
      after_first_keys searched line choices depth n (keys_of (rules_in searched) here) (keys_of (rules_in searched) answer) opening count
      (path_of searched line choices is line_is here here_is) (path_of searched line choices is line_is answer answer_is) past.0 (past.1 here refl)

  pub least_past : (answer : List Step) → IsAnswer searched.lexicon line choices answer
      → IsFirst (ways_in searched line choices) opening (ComesAfter (take n (keys_of (rules_in searched) here))) (keys_of (rules_in searched) answer)
      → IsLeastPast depth search_here answer
  least_past answer answer_is first = record {
    is_answer = answer_is;
    past = past_if_after answer first.wanted;
    least = λ other other_is past.
        first.least (keys_of (rules_in searched) other) (path_of searched line choices is line_is other other_is) (after_if_past other other_is past);
  }

  pub none_past : HasNone searched line choices (ComesAfter (take n (keys_of (rules_in searched) here))) opening → HasNonePast depth search_here
  none_past none answer answer_is past =
      none (keys_of (rules_in searched) answer) (path_of searched line choices is line_is answer answer_is) (after_if_past answer answer_is past)

-- ---- the stack of a search, of which only the first frames stay in use

module _ (searched : SearchedLexicon) (line : Line) (choices : List Choice) (old : Resumption) (is : IsSearchedLexicon searched)
    (stack_is : IsStackOf searched line choices old) (at : old.cursor ≡ cursor.At) (depth n : ℕ) (n_is : n ≡ min depth old.depth) where
  stands : StandsAtAnswer searched line choices old
  stands = stack_is.answer at

  -- the keys of the answer, of which the first are gone past
  pub keys_here : List Key
  keys_here = stands.keys

  as_answer : StandAsAnswer searched line choices old keys_here
  unfolding keys_here
  as_answer = frames_stand searched line choices old keys_here is stack_is.is_line stands.frames stands.path

  steps_here : List Step
  steps_here = steps_of (rules_in searched) line.letters (steps_in old)

  keys_counted : n ≡ min depth (length keys_here)
  unfolding keys_here
  keys_counted =
      let count = frames_count searched line choices old keys_here 0 opening stands.frames in
      omega (arith, n_is, count)

  here_opening : here_of searched old 0 ≡ opening
  here_opening = at_opening searched line choices old stands

  pub front_below : 1 ≤ depth → 0 < n
  front_below some = let deep = some_depth searched line choices old stands in omega (arith, n_is, deep, some)

  pub front_room : HasRoom line (with_depth n old) 0 (here_of searched old 0)
  front_room =
      let room = first_room searched line choices old stands stack_is in
      record { below = room.below; within = room.within; room = room.room }

  pub front_frames : AreFrames searched line (with_depth n old) 0 (here_of searched old 0) (take n keys_here)
  unfolding keys_here
  front_frames =
      subst (λ here. AreFrames searched line (with_depth n old) 0 here (take n keys_here)) (sym here_opening)
      (frames_front searched line old n n keys_here 0 opening stands.frames (let count = keys_counted in omega (arith, count)) (omega arith))

  pub front_along : 1 ≤ depth → LeadAlong searched line choices (here_of searched old 0) (take n keys_here)
  unfolding keys_here
  front_along some =
      subst (λ here. LeadAlong searched line choices here (take n keys_here)) (sym here_opening)
      (along_front searched line choices n keys_here opening (along_path searched line choices keys_here opening stands.path)
      (let below = front_below some in omega (arith, below)))

  -- what is seen of the stack
  seen_here : value_of searched line choices old
      ≡ record { searched = searched; line = line; choices = choices; cursor = AtAnswer steps_here }
  unfolding steps_here
  seen_here = ap (λ cursor. record { searched = searched; line = line; choices = choices; cursor = cursor_at searched line old cursor }) at

  count_here : n ≡ min depth (length (keys_of (rules_in searched) steps_here))
  unfolding steps_here
  count_here = keys_counted ∙ ap (λ keys. min depth (length keys)) (sym as_answer.same)

  pub stands_past : (new : Resumption)
      → HasFound searched line choices (ComesAfter (take n keys_here)) new 0 (here_of searched old 0)
      → StandsPast searched line choices depth old new
  unfolding steps_here
  stands_past new found_here =
      let found = subst (HasFound searched line choices (ComesAfter (take n keys_here)) new 0) here_opening found_here in
      let later = frames_stand searched line choices new found.keys is stack_is.is_line found.frames found.first.path in
      let first = subst (λ keys. IsFirst (ways_in searched line choices) opening (ComesAfter (take n keys_here)) keys) (sym later.same) found.first in
      record {
        answer = record { keys = found.keys; frames = found.frames; path = found.first.path };
        least = subst (λ search. IsLeastPast depth search (steps_of (rules_in searched) line.letters (steps_in new))) (sym seen_here)
            (least_past searched line choices is stack_is.is_line steps_here as_answer.answer depth n count_here
            (steps_of (rules_in searched) line.letters (steps_in new)) later.answer
            (subst (λ keys. IsFirst (ways_in searched line choices) opening (ComesAfter (take n keys))
            (keys_of (rules_in searched) (steps_of (rules_in searched) line.letters (steps_in new)))) (sym as_answer.same) first));
      }

  pub none_past_here : HasNone searched line choices (ComesAfter (take n keys_here)) (here_of searched old 0)
      → HasNonePast depth (value_of searched line choices old)
  unfolding steps_here
  none_past_here none_here =
      subst (HasNonePast depth) (sym seen_here)
      (none_past searched line choices is stack_is.is_line steps_here as_answer.answer depth n count_here
      (subst (λ keys. HasNone searched line choices (ComesAfter (take n keys)) opening) (sym as_answer.same)
      (subst (HasNone searched line choices (ComesAfter (take n keys_here))) here_opening none_here)))

-- ---- what the search is then seen as

module _ (searched : SearchedLexicon) (line : Line) (choices : List Choice) (depth : ℕ) (old new : Resumption) where
  pub skipped : HasSkipped searched line choices depth old new → Skipped depth (value_of searched line choices old) (value_of searched line choices new)
  skipped skip = record {
    answer = steps_of (rules_in searched) line.letters (steps_in new);
    is = ap (λ cursor. record { searched = searched; line = line; choices = choices; cursor = cursor_at searched line new cursor }) skip.cursor;
    is_answer = skip.least.is_answer;
    past = skip.least.past;
    least = skip.least.least;
  }

  pub skipped_all : HasSkippedOut searched line choices depth old new
      → HasSkippedAll depth (value_of searched line choices old) (value_of searched line choices new)
  skipped_all skip = record {
    is = ap (λ cursor. record { searched = searched; line = line; choices = choices; cursor = cursor_at searched line new cursor }) skip.cursor;
    none = skip.none;
  }

-- a stack that is seen at an answer stands at one
pub stands_at : (searched : SearchedLexicon) (line : Line) (stack : Resumption) (answer : List Step)
    → cursor_of searched line stack ≡ AtAnswer answer → stack.cursor ≡ cursor.At
stands_at searched line stack answer at = by_stand stack.cursor at
  where
    by_stand : (to : StackCursor) → cursor_at searched line stack to ≡ AtAnswer answer → to ≡ cursor.At
    by_stand cursor.Before at = absurd (cc (at))
    by_stand cursor.At at = refl
    by_stand cursor.Past at = absurd (cc (at))
