-- What `demo` writes for a number.
use Rattle.std.specs.Prelude.{◌≡◌, ℕ, List}
use Rattle.run_definitions.specs.DemoOutcomes.{DemoCounts, AreDemoCounts, printed_demo}

-- the output is the printed counts of the number's input
pub record IsPrintedDemo (number : ℕ) (output : List ℕ) : Type 0 where
  pub counts : DemoCounts
  pub are_counts : AreDemoCounts number counts
  pub printed : output ≡ printed_demo counts
