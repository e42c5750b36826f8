-- By the replies to each of these requests.
use Rattle.session_definitions.proofs.KeptPlaces.{refusal_keeps, summary_keeps, tags_keep, mark_keeps}
use Rattle.session_definitions.proofs.page_laws.requests_between_pages_keep_the_place.Goals as goal

pub returns-clause-summary : goal.returns-clause-summary
returns-clause-summary c = summary_keeps

pub returns-clause-tags : goal.returns-clause-tags
returns-clause-tags c = tags_keep

pub returns-clause-mark : goal.returns-clause-mark
returns-clause-mark c = mark_keeps

pub returns-clause-refusal : goal.returns-clause-refusal
returns-clause-refusal c = refusal_keeps
