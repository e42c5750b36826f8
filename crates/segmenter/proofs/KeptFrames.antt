-- A frame stays as it is where a search changes only what stands after it: its step and its frame stand before the change.
use Rattle.std.proofs.Common.{◌≡◌, ℕ, ◌+◌, ◌<◌, ◌≤◌, List, length, take, get_or, refl, sym, ap, ◌∙◌, subst, arith}
use Rattle.std.proofs.lemmas.List.{get_or-take, take-take}
use Rattle.text_definitions.specs.Lines.{Line}
use Rattle.lexicon_definitions.specs.Leads.{leads_of}
use Rattle.answer_paths.specs.Fronts.{supplied}
use Rattle.derivation.specs.Guides.{entrance_of}
use Rattle.derivation.specs.Steps.{key_of}
use Rattle.derivation.specs.declared.step.Step.{Step}
use Rattle.annotated_trie.specs.Searched.{SearchedLexicon}
use Rattle.search_frames.specs.declared.frame.Frame.{Frame}
use Rattle.search_frames.specs.declared.resumption.Resumption.{Resumption}
use Rattle.search_frames.specs.Configurations.{rules_in}
use Rattle.search_frames.specs.Stacks.{IsStack, KeepsBefore, with_depth}
use Rattle.search_frames.specs.Frames.{IsConfigurationIn, IsPlaced, ChangesFrom, step_of, frame_of, configuration_at, here_of, key_at, numbered_of}

-- ---- what stays

pub keeps_itself : (level : ℕ) (stack : Resumption) → IsStack stack → KeepsBefore level stack stack
keeps_itself level stack is = record { cursor = refl; room = refl; is_stack = is; steps = refl; frames = refl }

pub keeps_if_changes : (level : ℕ) (old new : Resumption) → ChangesFrom level old new → KeepsBefore level old new
keeps_if_changes level old new c =
    record { cursor = c.cursor; room = c.room; is_stack = c.is_stack; steps = c.steps; frames = c.frames }

pub keeps_then : (level : ℕ) (old mid new : Resumption) → KeepsBefore level old mid → KeepsBefore level mid new → KeepsBefore level old new
keeps_then level old mid new a b = record {
  cursor = b.cursor ∙ a.cursor;
  room = b.room ∙ a.room;
  is_stack = b.is_stack;
  steps = b.steps ∙ a.steps;
  frames = b.frames ∙ a.frames;
}

-- what stays in a longer front stays in a shorter one
shorter_front : {X : Type 0} (n m : ℕ) (xs ys : List X) → n ≤ m → take m xs ≡ take m ys → take n xs ≡ take n ys
shorter_front n m xs ys le same = sym (take-take n m xs le) ∙ ap (take n) same ∙ take-take n m ys le

pub keeps_fewer : (level more : ℕ) (old new : Resumption) → level ≤ more → KeepsBefore more old new → KeepsBefore level old new
keeps_fewer level more old new le k = record {
  cursor = k.cursor;
  room = k.room;
  is_stack = k.is_stack;
  steps = shorter_front level more new.steps.items old.steps.items le k.steps;
  frames = shorter_front level more new.frames.items old.frames.items le k.frames;
}

pub keeps_less : (level : ℕ) (old new : Resumption) → KeepsBefore (level + 1) old new → KeepsBefore level old new
keeps_less level old new k = keeps_fewer level (level + 1) old new (omega arith) k

-- the frame at the level is the same
pub record FrameKept (level : ℕ) (old new : Resumption) : Type 0 where
  pub step : step_of new level ≡ step_of old level
  pub frame : frame_of new level ≡ frame_of old level

same_at : {X : Type 0} (n i : ℕ) (xs ys : List X) (d : X) → i < n → take n xs ≡ take n ys → get_or xs i d ≡ get_or ys i d
same_at n i xs ys d lt same = sym (get_or-take n xs i d lt) ∙ ap (λ l. get_or l i d) same ∙ get_or-take n ys i d lt

pub frame_kept : (level : ℕ) (old new : Resumption) → KeepsBefore (level + 1) old new → FrameKept level old new
frame_kept level old new k = record {
  step = same_at (level + 1) level new.steps.items old.steps.items _ (omega arith) k.steps;
  frame = same_at (level + 1) level new.frames.items old.frames.items _ (omega arith) k.frames;
}

pub place_kept : (level : ℕ) (old new : Resumption) → FrameKept level old new → configuration_at new level ≡ configuration_at old level
place_kept level old new k =
    let step = k.step in
    let frame = k.frame in
    λ i. record { at = (step i).at; entrance = (frame i).entrance; state = (frame i).state }

pub key_kept : (level : ℕ) (old new : Resumption) → FrameKept level old new → key_at new level ≡ key_at old level
key_kept level old new k = ap key_of k.step

module _ (searched : SearchedLexicon) (line : Line) where
  pub here_kept : (level : ℕ) (old new : Resumption) → FrameKept level old new → here_of searched new level ≡ here_of searched old level
  here_kept level old new k = ap (numbered_of searched) (place_kept level old new k)

  pub placed_kept : (level : ℕ) (old new : Resumption) → KeepsBefore (level + 1) old new → IsPlaced searched line old level
      → IsPlaced searched line new level
  placed_kept level old new keeps is =
      let kept = frame_kept level old new keeps in
      record {
        is_stack = keeps.is_stack;
        there = subst (λ n. level < n) (sym keeps.room) is.there;
        within = subst (IsConfigurationIn searched line) (sym (place_kept level old new kept)) is.within;
        lead = subst (λ (t : Step). t.lead ≡ length (supplied (entrance_of (leads_of (rules_in searched).rules) (frame_of new level).entrance))) (sym kept.step)
            (subst (λ (f : Frame). (step_of old level).lead ≡ length (supplied (entrance_of (leads_of (rules_in searched).rules) f.entrance))) (sym kept.frame) is.lead);
      }

  -- how many frames are in use is nothing to a frame
  pub other_depth : (stack : Resumption) (level depth : ℕ) → IsPlaced searched line stack level
      → IsPlaced searched line (with_depth stack depth) level
  other_depth stack level depth is = record {
    is_stack = record { steps = is.is_stack.steps; nodes = is.is_stack.nodes };
    there = is.there;
    within = is.within;
    lead = is.lead;
  }

-- nor to those before it
pub other_depth_keeps : (level : ℕ) (old stack : Resumption) (depth : ℕ) → KeepsBefore level old stack → KeepsBefore level old (with_depth stack depth)
other_depth_keeps level old stack depth keeps = record {
  cursor = keeps.cursor;
  room = keeps.room;
  is_stack = record { steps = keeps.is_stack.steps; nodes = keeps.is_stack.nodes };
  steps = keeps.steps;
  frames = keeps.frames;
}

pub keeps_other_depth : (level : ℕ) (old stack : Resumption) (depth : ℕ) → KeepsBefore level (with_depth old depth) stack → KeepsBefore level old stack
keeps_other_depth level old stack depth keeps = record {
  cursor = keeps.cursor;
  room = keeps.room;
  is_stack = keeps.is_stack;
  steps = keeps.steps;
  frames = keeps.frames;
}
