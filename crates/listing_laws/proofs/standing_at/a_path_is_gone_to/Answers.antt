-- What is left to go to is told at the top; at a branch that ends, the stack stands for what is above the path.
use Rattle.listing_laws.proofs.Paths.{path_from_top}
use Rattle.listing_laws.proofs.AtCursors.{stands_at_path, stands_past_last}
use Rattle.listing_laws.proofs.standing_at.a_path_is_gone_to.Goals as goal

pub returns : goal.returns
returns g c = record {
  rest = λ orderly start frames top rest leads. path_from_top orderly start frames top rest leads;
  at_path = λ orderly start frames top last leads ends. stands_at_path orderly start frames top last leads ends;
  past_last = λ start. stands_past_last g.S.Searched.ways start;
}
