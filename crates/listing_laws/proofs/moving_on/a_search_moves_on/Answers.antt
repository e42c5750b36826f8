-- Each clause is a lemma on what a stack stands for.
use Rattle.listing_laws.proofs.Standing.{stands_at_start, passes_over, enters, leaves, finds, goes_on_after, exhausted}
use Rattle.listing_laws.proofs.moving_on.a_search_moves_on.Goals as goal

pub returns : goal.returns
returns g c = record {
  starts = λ start. stands_at_start _ start;
  passes_over = λ orderly start frames top same stands. passes_over orderly _ same stands;
  enters = λ orderly start frames top branch next leads stands. enters orderly branch next leads stands;
  leaves = λ orderly start frames last top none stands. leaves orderly none stands;
  finds = λ orderly start frames top branch ends stands. finds orderly branch ends stands;
  goes_on = λ orderly start frames top branch ends stands. goes_on_after orderly branch ends stands;
  exhausted = λ orderly start top none stands. exhausted orderly none stands;
}
