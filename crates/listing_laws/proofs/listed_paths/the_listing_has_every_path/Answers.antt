-- By induction on the depth, and on the paths.
use Rattle.listing_laws.proofs.Paths.{no_front, same_path}
use Rattle.listing_laws.proofs.Listings.{listing_has_all}
use Rattle.listing_laws.proofs.listed_paths.the_listing_has_every_path.Goals as goal

pub returns : goal.returns
returns g c = record {
  listed = λ rank bound edges orderly ranked written deep at within enough. listing_has_all orderly ranked written deep at within enough;
  no_front = λ orderly at path more is longer. no_front orderly at path more is longer;
  same = λ orderly at left right p q e. same_path orderly at left right p q e;
}
