-- Frames are counted by their ranks, and visits by what is left of them.
use Rattle.std.proofs.Common.{false, arith}
use Rattle.listing_laws.proofs.Visits.{frames_bounded, branch_with_path, visits_bounded}
use Rattle.listing_laws.proofs.few_visits.a_move_visits_few_frames.Goals as goal

pub returns : goal.returns
returns g c = record {
  frames = λ rank bound ranked start frames top within leads. (frames_bounded ranked start frames top within leads).1;
  onward = λ at has. branch_with_path g.S.Searched.ways at has;
  left = λ bound has_entered frames visits within are. visits_bounded bound has_entered frames visits within are;
  all = λ bound frames visits within are. let most = visits_bounded bound false frames visits within are in omega arith;
}
