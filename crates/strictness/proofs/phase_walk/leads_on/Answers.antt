-- A candidate is appended where it passes; all that pass are candidates.
use Rattle.std.proofs.Common.{ℕ, sym, subst}
use Rattle.std.specs.Ordering.{nat_cmp}
use Rattle.list_laws.specs.Firsts.{AreAll}
use Rattle.strictness.specs.Walks.{MayBegin}
use Rattle.strictness.proofs.NumberLists.{IsAmong, none_among, candidate_passes, candidate_fails, all_among}
use Rattle.strictness.proofs.phase_walk.leads_on.Goals as goal
use Rattle.strictness.proofs.phase_walk.leads_on.Goals.{then-may_begin+in_ok-push, else-may_begin}

pub loop-place-init : goal.loop-place-init
loop-place-init c =
    let P : ℕ → Type 0 = MayBegin c.args.walk.now.rules.now c.args.walk.now.phase c.args.walk.now.longest c.args.front.now in
    subst (AreAll nat_cmp (IsAmong P c.args.candidates.now 0)) (sym c.new-places.ensures.items) (none_among P c.args.candidates.now)

pub loop-place-preserved : goal.loop-place-preserved
loop-place-preserved c =
    let P : ℕ → Type 0 = MayBegin c.args.walk.now.rules.now c.args.walk.now.phase c.args.walk.now.longest c.args.front.now in
    elim c.if-may_begin.branch [
      | then-may_begin+in_ok-push w ↦
          rw (w.places-is, w.in_ok-push.ensures.items)
          (candidate_passes P c.args.candidates.now c.loop-place.place-index c.loop-place.places.items c.requires.rising c.loop-place-test.true
          (c.may_begin.ensures.0 w.if-may_begin.true) c.loop-place.invariant)
      | else-may_begin w ↦
          rw w.places-is
          (candidate_fails P c.args.candidates.now c.loop-place.place-index c.loop-place.places.items c.loop-place-test.true
          (λ is. let yes = c.may_begin.ensures.1 is in let no = w.if-may_begin.false in absurd (cc)) c.loop-place.invariant)
    ]

pub returns : goal.returns
returns c = record {
  ok = all_among (MayBegin c.args.walk.now.rules.now c.args.walk.now.phase c.args.walk.now.longest c.args.front.now) c.args.candidates.now c.loop-place.place-index
      c.loop-place.places.items c.loop-place-test.false c.requires.complete c.loop-place.invariant;
}
