-- From the right: what the loop has not reached is the old word, and what it has passed is done.
use Rattle.std.proofs.Common.{◌≡◌, ◌<◌, ◌≤◌, length, ℕ, slice_index}
use Rattle.morphology_definitions.specs.InternalSandhi.{IsTurningSibilant, letter_z}
use Rattle.internal_sandhi.proofs.Turning.{IsDone}
use Rattle.internal_sandhi.proofs.sibilants.turn_sibilants.Given as goal

abbrev pub invariant-loop-place : goal.invariant-loop-place
invariant-loop-place l =
    record {
      in_ending : l.start ≤ l.place;
      before : (i : ℕ) → i < l.place → slice_index l.letters i ≡ slice_index l.fn.letters i;
      done : (i : ℕ) → l.place ≤ i → i < length l.letters → IsDone (IsTurningSibilant l.fn.letters i) letter_z (slice_index l.fn.letters i) (slice_index l.letters i);
    }
