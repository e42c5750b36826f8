-- Each place in turn is appended, so the places below the number of leads are there.
use Rattle.std.proofs.Common.{◌<◌, ◌+◌, length, ap, sym, subst, arith}
use Rattle.std.specs.Ordering.{nat_cmp}
use Rattle.list_laws.specs.Firsts.{AreAll}
use Rattle.lexicon_definitions.specs.Leads.{leads_of}
use Rattle.strictness.proofs.NumberLists.{no_number, next_number, all_numbers}
use Rattle.strictness.proofs.phase_walk.all_leads.Goals as goal

pub loop-place-init : goal.loop-place-init
loop-place-init c = subst (AreAll nat_cmp (λ place. place < 0)) (sym c.new-places.ensures.items) no_number

pub loop-place-preserved : goal.loop-place-preserved
loop-place-preserved c =
    subst (AreAll nat_cmp (λ place. place < c.loop-place.place + 1)) (sym c.in_ok-push.ensures.items) (next_number c.loop-place.place c.loop-place.places.items c.loop-place.invariant)

pub returns : goal.returns
returns c = record {
  ok = all_numbers c.loop-place.place (length (leads_of c.args.rules.now.rules)) c.loop-place.places.items
      (let end = c.loop-place.auto.place-end in let past = c.loop-place-test.false in let same = ap length c.leads.ensures in omega arith) c.loop-place.invariant;
}
