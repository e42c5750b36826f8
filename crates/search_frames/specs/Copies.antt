-- Copies of resumptions.
use Rattle.std.specs.Prelude.{◌≡◌}
use Rattle.search_frames.specs.declared.resumption.Resumption.{Resumption}

-- the copy is the same as the original in every field, with the same elements in each of its lists
pub record IsCopyOf (original copy : Resumption) : Type 0 where
  pub cursor : copy.cursor ≡ original.cursor
  pub depth : copy.depth ≡ original.depth
  pub steps : copy.steps.items ≡ original.steps.items
  pub frames : copy.frames.items ≡ original.frames.items
  pub nodes : copy.nodes.items ≡ original.nodes.items
