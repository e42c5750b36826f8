-- The state of a search as its users see it (own).
use Rattle.std.specs.Prelude.{◌≡◌, ℕ, List, length, take}
use Rattle.derivation.specs.declared.step.Step.{Step}
use Rattle.search_frames.specs.declared.frame.TheConstants.{NODES_OF_FRAME}
use Rattle.search_frames.specs.declared.cursor.Cursor.{Cursor}
use Rattle.search_frames.specs.declared.resumption.Resumption.{Resumption}

-- where the search stands among its answers
abbrev pub cursor_in : Resumption → Cursor
cursor_in stack = stack.cursor

-- how many frames are in use
abbrev pub depth_of : Resumption → ℕ
depth_of stack = stack.depth

-- for how many frames there is room
abbrev pub room_of : Resumption → ℕ
room_of stack = length stack.frames.items

-- the steps of the frames in use
abbrev pub steps_in : Resumption → List Step
steps_in stack = take stack.depth stack.steps.items

-- the same at another cursor
abbrev pub with_cursor : Resumption → Cursor → Resumption
with_cursor stack cursor = record { cursor = cursor; depth = stack.depth; steps = stack.steps; frames = stack.frames; nodes = stack.nodes }

-- the same with so many frames in use
abbrev pub with_depth : Resumption → ℕ → Resumption
with_depth stack depth = record { cursor = stack.cursor; depth = depth; steps = stack.steps; frames = stack.frames; nodes = stack.nodes }

-- there is a step for each frame, and room for the nodes along a form
pub record IsStack (stack : Resumption) : Type 0 where
  pub steps : length stack.steps.items ≡ length stack.frames.items
  pub nodes : length stack.nodes.items ≡ NODES_OF_FRAME

-- nothing changes before the level, and the room and the cursor stay
pub record KeepsBefore (level : ℕ) (old new : Resumption) : Type 0 where
  pub cursor : new.cursor ≡ old.cursor
  pub room : length new.frames.items ≡ length old.frames.items
  pub is_stack : IsStack new
  pub steps : take level new.steps.items ≡ take level old.steps.items
  pub frames : take level new.frames.items ≡ take level old.frames.items
