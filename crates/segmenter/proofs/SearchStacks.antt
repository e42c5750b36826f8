-- What the stack of a search knows does not change where only its stand is set, nor in a copy: a frame is told by the steps and
-- the frames. The frames of an answer stand from the opening on along a path.
use Rattle.std.proofs.Common.{◌≡◌, ℕ, ◌+◌, ◌*◌, ◌<◌, ◌≤◌, List, [], ◌∷◌, length, take, refl, sym, ap, ◌∙◌, subst, arith}
use Rattle.text_definitions.specs.Lines.{Line}
use Rattle.segmentation_definitions.specs.Items.{Choice}
use Rattle.segmentation_definitions.specs.Listings.{Key, AtAnswer}
use Rattle.listing_laws.specs.Ways.{IsPath}
use Rattle.derivation.specs.Steps.{steps_of}
use Rattle.annotated_trie.specs.Searched.{SearchedLexicon}
use Rattle.search_frames.specs.Copies.{IsCopyOf}
use Rattle.search_frames.specs.declared.cursor.Cursor.{Cursor as StackCursor}
use Rattle.search_frames.specs.declared.cursor.Cursor.TheVariants as cursor
use Rattle.search_frames.specs.declared.resumption.Resumption.{Resumption}
use Rattle.search_frames.specs.Configurations.{NumberedConfiguration, after, opening, rules_in, ways_in}
use Rattle.search_frames.specs.Stacks.{IsStack, KeepsBefore, steps_in, with_cursor}
use Rattle.search_frames.specs.Frames.{IsPlaced, here_of}
use Rattle.search_frames.specs.Reached.{IsReached}
use Rattle.segmenter.specs.Chains.{AreFrames, LeadAlong, HasRoom}
use Rattle.segmenter.specs.Searches.{IsStackOf, StandsAtAnswer, StandsWhere, cursor_of, cursor_at}
use Rattle.segmenter.proofs.KeptFrames.{frame_kept, placed_kept, here_kept, key_kept}
use Rattle.search_frames.proofs.ReachedConfigurations.{opening_reached}
use Rattle.segmenter.proofs.StandingAnswers.{frames_count}

-- ---- a stack that stands otherwise

module _ (searched : SearchedLexicon) (line : Line) (stack : Resumption) (to : StackCursor) where
  frame_restood : (level : ℕ) → IsPlaced searched line stack level → IsPlaced searched line (with_cursor stack to) level
  frame_restood level is = record {
    is_stack = record { steps = is.is_stack.steps; nodes = is.is_stack.nodes };
    there = is.there;
    within = is.within;
    lead = is.lead;
  }

  pub frames_restood : (keys : List Key) (level : ℕ) (here : NumberedConfiguration) → AreFrames searched line stack level here keys
      → AreFrames searched line (with_cursor stack to) level here keys
  frames_restood [] level here frames = frames
  frames_restood (key ∷ keys) level here (frame, here_is, possible, key_is, frames) =
      (frame_restood level frame, here_is, possible, key_is, frames_restood keys (level + 1) (after searched line here key) frames)

module _ (searched : SearchedLexicon) (line : Line) (choices : List Choice) where
  -- the stack of a search after its frames changed and its stand was set
  pub stack_restood : (old new : Resumption) (to : StackCursor) → IsStackOf searched line choices old → KeepsBefore 0 old new
      → (to ≡ cursor.At → StandsAtAnswer searched line choices new) → IsStackOf searched line choices (with_cursor new to)
  stack_restood old new to is keeps answer = record {
    is_line = is.is_line;
    is_stack = record { steps = keeps.is_stack.steps; nodes = keeps.is_stack.nodes };
    room = subst (λ n. 2 * length line.letters ≤ n) (sym keeps.room) is.room;
    answer = λ at.
        let stands = answer at in
        record { keys = stands.keys; frames = frames_restood searched line new to stands.keys 0 opening stands.frames; path = stands.path };
  }

-- ---- copies

copy_keeps : (level : ℕ) (old new : Resumption) → IsStack old → IsCopyOf old new → KeepsBefore level old new
copy_keeps level old new is copy = record {
  cursor = copy.cursor;
  room = ap length copy.frames;
  is_stack = record {
    steps = ap length copy.steps ∙ is.steps ∙ sym (ap length copy.frames);
    nodes = ap length copy.nodes ∙ is.nodes;
  };
  steps = ap (take level) copy.steps;
  frames = ap (take level) copy.frames;
}

module _ (searched : SearchedLexicon) (line : Line) (old new : Resumption) (copy : IsCopyOf old new) where
  frames_copied : (keys : List Key) (level : ℕ) (here : NumberedConfiguration) → AreFrames searched line old level here keys
      → AreFrames searched line new level here keys
  frames_copied [] level here frames = frames ∙ sym copy.depth
  frames_copied (key ∷ keys) level here (frame, here_is, possible, key_is, frames) =
      let keeps = copy_keeps (level + 1) old new frame.is_stack copy in
      let kept = frame_kept level old new keeps in (
        placed_kept searched line level old new keeps frame,
        here_kept searched line level old new kept ∙ here_is,
        possible,
        key_kept level old new kept ∙ key_is,
        frames_copied keys (level + 1) (after searched line here key) frames,
      )

  steps_copied : steps_in new ≡ steps_in old
  steps_copied = ap (λ depth. take depth new.steps.items) copy.depth ∙ ap (take old.depth) copy.steps

  cursor_as_copied : (at : StackCursor) → cursor_at searched line new at ≡ cursor_at searched line old at
  cursor_as_copied cursor.Before = refl
  cursor_as_copied cursor.At = ap (λ steps. AtAnswer (steps_of (rules_in searched) line.letters steps)) steps_copied
  cursor_as_copied cursor.Past = refl

  cursor_copied : cursor_of searched line new ≡ cursor_of searched line old
  cursor_copied = cursor_as_copied new.cursor ∙ ap (cursor_at searched line old) copy.cursor

  -- a copy stands where the original does
  pub copy_stands : (choices : List Choice) → IsStackOf searched line choices old
      → StandsWhere (record { searched = searched; line = line; choices = choices; cursor = cursor_of searched line old }) new
  copy_stands choices is = record {
    is_stack = record {
      is_line = is.is_line;
      is_stack = (copy_keeps 0 old new is.is_stack copy).is_stack;
      room = subst (λ n. 2 * length line.letters ≤ n) (sym (ap length copy.frames)) is.room;
      answer = λ at.
          let stands = is.answer (sym copy.cursor ∙ at) in
          record { keys = stands.keys; frames = frames_copied stands.keys 0 opening stands.frames; path = stands.path };
    };
    cursor = cursor_copied;
  }

-- ---- frames along a path

module _ (searched : SearchedLexicon) (line : Line) (choices : List Choice) where
  -- along a path each key but the last leads on
  pub path_leads_along : (keys : List Key) (here : NumberedConfiguration) → IsPath (ways_in searched line choices) here keys
      → LeadAlong searched line choices here keys
  path_leads_along [] here path = path
  path_leads_along (key ∷ []) here path = tt
  path_leads_along (key ∷ later ∷ keys) here (next, leads, path) = (
    leads.0,
    path_leads_along (later ∷ keys) (after searched line here key)
        (subst (λ here. IsPath (ways_in searched line choices) here (later ∷ keys)) leads.1 path),
  )

  first_stands : (stack : Resumption) (keys : List Key) (here : NumberedConfiguration) → AreFrames searched line stack 0 here keys
      → IsPath (ways_in searched line choices) here keys → here_of searched stack 0 ≡ here
  first_stands stack [] here frames path = absurd path
  first_stands stack (key ∷ keys) here frames path = frames.1

  -- the steps of frames are within the room
  frames_within : (stack : Resumption) (keys : List Key) (level : ℕ) (here : NumberedConfiguration) → AreFrames searched line stack level here keys
      → level ≤ length stack.steps.items → stack.depth ≤ length stack.steps.items
  frames_within stack [] level here frames le = let e : level ≡ stack.depth = frames in omega (arith, e)
  frames_within stack (key ∷ keys) level here (frame, here_is, possible, key_is, frames) le =
      let there = frame.there in
      let count = frame.is_stack.steps in
      frames_within stack keys (level + 1) (after searched line here key) frames (omega (arith, there, count))

  some_keys : (keys : List Key) → IsPath (ways_in searched line choices) opening keys → 0 < length keys
  some_keys [] path = absurd path
  some_keys (key ∷ keys) path = omega arith

module _ (searched : SearchedLexicon) (line : Line) (choices : List Choice) (stack : Resumption) (stands : StandsAtAnswer searched line choices stack) where
  pub depth_within : stack.depth ≤ length stack.steps.items
  depth_within = frames_within searched line choices stack stands.keys 0 opening stands.frames (omega arith)

  pub some_depth : 0 < stack.depth
  some_depth =
      let count = frames_count searched line choices stack stands.keys 0 opening stands.frames in
      let some = some_keys searched line choices stands.keys stands.path in
      omega (arith, count, some)

  pub at_opening : here_of searched stack 0 ≡ opening
  at_opening = first_stands searched line choices stack stands.keys opening stands.frames stands.path

  pub first_reached : IsReached searched line choices (here_of searched stack 0)
  first_reached = subst (IsReached searched line choices) (sym at_opening) (opening_reached searched line choices)

  pub frames_from_first : AreFrames searched line stack 0 (here_of searched stack 0) stands.keys
  frames_from_first = subst (λ here. AreFrames searched line stack 0 here stands.keys) (sym at_opening) stands.frames

  pub keys_lead_along : LeadAlong searched line choices (here_of searched stack 0) stands.keys
  keys_lead_along =
      subst (λ here. LeadAlong searched line choices here stands.keys) (sym at_opening)
      (path_leads_along searched line choices stands.keys opening stands.path)

  -- there is room for all frames from the first on
  pub first_room : IsStackOf searched line choices stack → HasRoom line stack 0 (here_of searched stack 0)
  first_room is =
      let some = is.is_line.not_empty in
      subst (HasRoom line stack 0) (sym at_opening) (record { below = omega arith; within = omega (arith, some); room = is.room })
