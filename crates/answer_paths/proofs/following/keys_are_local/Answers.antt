-- Fronts are led to one by one; what a key adds is told by where the front ends.
use Rattle.answer_paths.proofs.GuidedFronts.{led_to_top}
use Rattle.lexicon_definitions.specs.Lexicons.{tree_of}
use Rattle.answer_paths.proofs.LeadingOn.{ends_after}
use Rattle.answer_paths.proofs.LiveStates.{goes_on_if_live, live_if_goes_on}
use Rattle.answer_paths.proofs.LocalKeys.{leads_locally, ends_locally}
use Rattle.answer_paths.proofs.following.keys_are_local.Goals as goal

pub returns-clause-led : goal.returns-clause-led
returns-clause-led c = led_to_top

pub returns-clause-leads : goal.returns-clause-leads
returns-clause-leads c = leads_locally

pub returns-clause-ends : goal.returns-clause-ends
returns-clause-ends c = ends_locally

pub returns-clause-next : goal.returns-clause-next
returns-clause-next c lexicon line choices front next key at entrance at_is entrance_is leads =
    let after = ends_after lexicon line choices front next key at entrance at_is entrance_is leads in
    (after.covered, after.entered, after.phases, after.keys)

pub returns-clause-live : goal.returns-clause-live
returns-clause-live c rules phases phase state is = (
  λ live. goes_on_if_live (tree_of rules) phases phase state is live,
  λ goes. live_if_goes_on (tree_of rules) phases phase state is goes.0 goes.1,
)
