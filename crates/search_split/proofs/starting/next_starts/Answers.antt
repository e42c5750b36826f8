-- One part more is found; then the search stands at the next front, or none is left.
use Rattle.std.proofs.Common.{rules, ◌+◌, [], ◌∷◌, length, true, false, refl, ap, ◌∙◌, arith}
use Rattle.std.proofs.lemmas.List.{length-append}
use Rattle.search_split.specs.NextFronts.{HasNextFront, HasNoNextFront}
use Rattle.search_split.proofs.StartsFound.{taking_begins, taking_goes_on, taking_ends, taking_full}
use Rattle.search_split.proofs.starting.next_starts.Goals as goal

pub loop-init : goal.loop-init
loop-init g c = record {
  taking = taking_begins c.args.depth c.args.search.now c.new-list.result.items c.new-list.ensures.items;
  count = ap length c.new-list.ensures.items;
}

pub returns-then-not-go_to_next_front : goal.returns-then-not-go_to_next_front
returns-then-not-go_to_next_front g c =
    let none : HasNoNextFront c.args.depth c.loop.search = search rules in
    let count = c.loop.invariant.count in
    let test = c.loop-test.true in
    record {
      ok = taking_ends c.args.depth c.args.search.now c.loop.list.items c.push.new.self.items c.loop.search c.go_to_next_front.new.search c.loop.invariant.taking
          (record { keys = c.in_ok-keys_at.field-0 }) c.in_ok-push.ensures.items c.in_ok-keys_at.ensures.ok none
          (record { list = c.push.new.self; more = false }) c.args.most refl refl (omega (arith, count, test));
    }

pub loop-preserved : goal.loop-preserved
loop-preserved g c =
    let moved : HasNextFront c.args.depth c.loop.search c.go_to_next_front.new.search = search rules in
    record {
      taking = taking_goes_on c.args.depth c.args.search.now c.loop.list.items c.push.new.self.items c.loop.search c.go_to_next_front.new.search
          c.loop.invariant.taking (record { keys = c.in_ok-keys_at.field-0 }) c.in_ok-push.ensures.items c.in_ok-keys_at.ensures.ok moved;
      count = ap length c.in_ok-push.ensures.items ∙ length-append c.loop.list.items ((record { keys = c.in_ok-keys_at.field-0 }) ∷ [])
          ∙ ap (λ n. n + 1) c.loop.invariant.count;
    }

pub returns : goal.returns
returns g c =
    let count = c.loop.invariant.count in
    let test = c.loop-test.false in
    let end = c.loop.auto.counter-end in
    record {
      ok = taking_full c.args.depth c.args.search.now c.loop.search (record { list = c.loop.list; more = true }) c.args.most c.loop.invariant.taking refl
          (omega (arith, count, test, end));
    }
