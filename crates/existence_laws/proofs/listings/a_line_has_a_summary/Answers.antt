-- `summary_there` has the proof.
use Rattle.existence_laws.proofs.ListingsThere.{summary_there}
use Rattle.existence_laws.proofs.listings.a_line_has_a_summary.Goals as goal

pub returns : goal.returns
returns c = λ lexicon line choices is. summary_there lexicon line choices is
