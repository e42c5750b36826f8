-- The states are those of what the memo keeps.
use Rattle.std.proofs.Common.{sym, subst}
use Rattle.summary_chart.specs.declared.state_set.StateSet.{StateSet}
use Rattle.summary_chart.specs.StateSets.{HasState}
use Rattle.summary_chart.proofs.spreading.known_states.Goals as goal

pub returns-in-Some : goal.returns-in-Some
returns-in-Some c number has =
    let (done, known, same, is) = c.in-Some.ensures in
    (done, known, same, subst (λ (set : StateSet). HasState set number) (sym is) has)
