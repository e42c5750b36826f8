-- A frame that is brought to a key stands where it stood, at this key, and nothing before it changes.
use Rattle.std.proofs.Common.{◌≡◌, ℕ, ◌<◌, Some, List, length, take, get_or, sym, ◌∙◌, ap, subst, arith}
use Rattle.std.proofs.lemmas.List.{get_or_read}
use Rattle.text_definitions.specs.Lines.{Line}
use Rattle.derivation.specs.Steps.{key_of, key_meant}
use Rattle.derivation.specs.declared.entrance.Entrance.TheVariants as program
use Rattle.derivation.specs.declared.step.Key.{Key as ProgramKey}
use Rattle.derivation.specs.declared.step.Step.{Step}
use Rattle.answer_paths.specs.Fronts.{supplied}
use Rattle.annotated_trie.specs.Searched.{SearchedLexicon}
use Rattle.search_frames.specs.declared.configuration.Configuration.{Configuration}
use Rattle.search_frames.specs.declared.frame.Frame.{Frame}
use Rattle.search_frames.specs.declared.resumption.Resumption.{Resumption}
use Rattle.search_frames.specs.Frames.{IsPlaced, IsConfigurationIn, ChangesFrom, HasSet, configuration_at, frame_of, key_at, numbered_of, step_of}
use Rattle.search_frames.specs.Stacks.{IsStack}

-- what is read of its steps is its step
pub step_read : (stack : Resumption) (level : ℕ) (step : Step) → IsStack stack → level < length stack.frames.items → step ≡ get_or stack.steps.items level step
    → step ≡ step_of stack level
step_read stack level step is there read = get_or_read stack.steps.items level step (omega (arith, is.steps, there)) read _

module _ (level : ℕ) (old mid new : Resumption) (key : ProgramKey) (steps : mid.steps.items ≡ old.steps.items) (frames : mid.frames.items ≡ old.frames.items)
    (set : HasSet level (record (step_of mid level) { phase = key.phase; taken = key.taken; rule = key.rule }) (frame_of mid level) mid new) where
  step_is : step_of new level ≡ record (step_of old level) { phase = key.phase; taken = key.taken; rule = key.rule }
  step_is =
      set.is_step
      ∙ ap (λ (items : List Step). record (get_or items level (record { phase = 0; rule = 0; at = 0; lead = 0; taken = 0 })) { phase = key.phase; taken = key.taken; rule = key.rule }) steps

  frame_is : frame_of new level ≡ frame_of old level
  frame_is = set.is_frame ∙ ap (λ (items : List Frame). get_or items level (record { entrance = program.Start; state = Some 0 })) frames

  pub set_place : configuration_at new level ≡ configuration_at old level
  set_place = let step = step_is in let frame = frame_is in λ i. record { at = (step i).at; entrance = (frame i).entrance; state = (frame i).state }

  pub set_key : key_at new level ≡ key_meant key
  set_key = ap key_of step_is

  room_is : length new.frames.items ≡ length old.frames.items
  room_is = set.changes.room ∙ ap length frames

  pub set_placed : (searched : SearchedLexicon) (line : Line) → IsPlaced searched line old level → IsPlaced searched line new level
  set_placed searched line placed = record {
    is_stack = set.changes.is_stack;
    there = (let there = placed.there in let room = room_is in omega (arith, there, room));
    within = subst (IsConfigurationIn searched line) (sym set_place) placed.within;
    lead = ap (λ (s : Step). s.lead) step_is ∙ placed.lead ∙ ap (λ (p : Configuration). length (supplied (numbered_of searched p).entrance)) (sym set_place);
  }

  pub set_changes : mid.cursor ≡ old.cursor → mid.depth ≡ old.depth → ChangesFrom level old new
  set_changes cursor depth = record {
    cursor = set.changes.cursor ∙ cursor;
    depth = set.changes.depth ∙ depth;
    room = room_is;
    is_stack = set.changes.is_stack;
    steps = set.changes.steps ∙ ap (take level) steps;
    frames = set.changes.frames ∙ ap (take level) frames;
  }
