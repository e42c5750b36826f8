-- One phase more (`AlikeLaws`); at first none is told, and each stands for itself.
use Rattle.std.proofs.Common.{◌+◌, [], ◌∷◌, length, sym, ap, subst, arith, length-append}
use Rattle.annotated_trie.specs.AlikePhases.{AreAlike}
use Rattle.annotated_trie.proofs.AlikeLaws.{one_more_alike}
use Rattle.annotated_trie.proofs.alike_phases.alike_phases.Goals as goal

pub loop-phase-preserved : goal.loop-phase-preserved
loop-phase-preserved c =
    let inv = c.loop-phase.invariant in
    let items = c.in_ok-push.ensures.items in
    let count = inv.count in
    record {
      count = omega (arith, count, ap length items, length-append c.loop-phase.firsts.items (c.first_alike.result ∷ []));
      alike = subst (AreAlike c.args.rules.now (c.loop-phase.phase + 1)) (sym items)
          (one_more_alike c.args.rules.now c.loop-phase.firsts.items c.first_alike.result c.loop-phase.phase inv.count c.first_alike.ensures.alike c.first_alike.ensures.first inv.alike);
    }
