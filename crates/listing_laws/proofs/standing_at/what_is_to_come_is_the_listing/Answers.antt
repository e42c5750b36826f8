-- What is to come is what is above the cursor.
use Rattle.listing_laws.proofs.AtCursors.{listing_of_stack, listing_goes_on, listing_ends}
use Rattle.listing_laws.proofs.standing_at.what_is_to_come_is_the_listing.Goals as goal

pub returns : goal.returns
returns g c = record {
  listing = λ start cursor frames top paths stands all. listing_of_stack cursor paths stands all;
  goes_on = λ orderly start cursor path rest first later. listing_goes_on orderly start cursor path rest first later;
  ends = λ start cursor none. listing_ends g.S.Searched.ways start cursor none;
}
