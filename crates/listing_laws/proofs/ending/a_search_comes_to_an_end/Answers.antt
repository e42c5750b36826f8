-- The digits are a number that rises at each step, and stays below a power of its base.
use Rattle.std.proofs.Common.{[]}
use Rattle.listing_laws.proofs.Measures.{falls_at_entering, falls_at_passing, falls_at_leaving}
use Rattle.listing_laws.proofs.ending.a_search_comes_to_an_end.Goals as goal

pub returns : goal.returns
returns c = record {
  entering = λ base places taken next first some are above short. falls_at_entering base places taken next first some are above short;
  passing = λ base places taken next later some are less short. falls_at_passing base places taken next later [] some are less short;
  leaving = λ base places taken last next later some are less short. falls_at_leaving base places taken last next later some are less short;
}
