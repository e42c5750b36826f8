-- By induction on the path.
use Rattle.listing_laws.proofs.KeptWays.{same_paths_of_kept}
use Rattle.listing_laws.proofs.listed_paths.branches_without_a_path_are_left_out.Goals as goal

pub returns : goal.returns
returns g c keeps at path = same_paths_of_kept g.S.Searched.ways g.S.Searched.IsKept keeps at path
