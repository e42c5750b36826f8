-- The objects so far, and those of the steps that are left, are together those of all steps.
use Rattle.std.proofs.Common.{◌≡◌, ℕ, ◌≤◌, ◌++◌, length, map, drop, []}
use Rattle.serde_json.specs.View.{view}
use Rattle.lexicon_definitions.specs.Lexicons.{rule_of}
use Rattle.derivation.specs.Steps.{StandFrom, places_of}
use Rattle.note_definitions.specs.NoteTexts.{segment_of}
use Rattle.annotation.proofs.segments.segments_value.Given as goal

abbrev pub invariant-loop-step : goal.invariant-loop-step
invariant-loop-step l = record {
  before : l.before ≤ length l.lexicon.lexicon.rules.rules;
  stand : (start : ℕ) × StandFrom l.lexicon.lexicon.rules l.line.letters start (rule_of l.lexicon.lexicon.rules l.before).v (drop l.step-index l.steps);
  made : map view l.list.items
      ++ map (segment_of l.lexicon.lexicon) (places_of l.lexicon.lexicon.rules l.line.letters (rule_of l.lexicon.lexicon.rules l.before).v (drop l.step-index l.steps))
      ≡ map (segment_of l.lexicon.lexicon) (places_of l.lexicon.lexicon.rules l.line.letters [] l.steps);
}
