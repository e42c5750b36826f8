-- The law of listings at these ways; the small listing is computed.
use Rattle.std.proofs.Common.{◌+◌, refl, arith}
use Rattle.listing_laws.proofs.Listings.{listing_has_all}
use Rattle.listing_laws.proofs.SmallSums.{sums_are_orderly, sums_are_ranked, edges_are_written}
use Rattle.listing_laws.proofs.sums.sums_are_listed.Goals as goal

pub returns : goal.returns
returns c = record {
  listed = λ total. listing_has_all (sums_are_orderly total) (sums_are_ranked total) (edges_are_written total) (total + 1) 0 (omega arith) (omega arith);
  of_three = refl;
}
