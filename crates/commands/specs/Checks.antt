-- What `check` writes over a lexicon.
use Rattle.std.specs.Prelude.{◌≡◌, ℕ, ◌<◌, List, length, Bool}
use Rattle.lexicon_definitions.specs.Lexicons.{Lexicon, RuleSet}
use Rattle.segmentation_definitions.specs.Derivations.{IsRuleNumber}
use Rattle.segmentation_definitions.specs.Overlaps.{Overlap}
use Rattle.run_definitions.specs.declared.limits.TheConstants.{CHECK_OVERLAPS}
use Rattle.run_definitions.specs.Overlaps.{AreFirstOverlaps, printed_check}
use Rattle.commands.specs.declared.status.Status.{Status}
use Rattle.commands.specs.declared.status.Status.TheVariants.{Done}

-- the overlap has a phase and two rules of the rule set
pub record CanBePrinted (rules : RuleSet) (overlap : Overlap) : Type 0 where
  pub phase : overlap.phase < length rules.names
  pub before : IsRuleNumber rules overlap.before
  pub after : IsRuleNumber rules overlap.after

-- the output is the counts of the lexicon and its first overlaps
pub record IsPrintedCheck (lexicon : Lexicon) (output : List ℕ) : Type 0 where
  pub overlaps : List Overlap
  pub more : Bool
  pub first : AreFirstOverlaps lexicon CHECK_OVERLAPS overlaps more
  pub printed : output ≡ printed_check lexicon overlaps more

-- what is written before the status: the counts and overlaps of the lexicon
pub record WritesCheck (lexicon : Lexicon) (status : Status) (output : List ℕ) : Type 0 where
  pub done : status ≡ Done
  pub check : IsPrintedCheck lexicon output
