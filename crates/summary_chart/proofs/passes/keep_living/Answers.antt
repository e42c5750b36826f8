-- One turn by the lemmas on turns, from an index to one before it from which on no place is passed over; before the pass the table has only
-- places that are reached, and every living one. What a turn leaves of the stops is told by their indices (`StopIndices`).
use Rattle.std.proofs.Common.{◌≡◌, ◌+◌, ◌-◌, ◌*◌, ◌++◌, ℕ, IsTrue, List, length, sym, ap, subst, arith}
use Rattle.summary_chart.specs.Spreading.{leads_in}
use Rattle.summary_chart.specs.Charts.{IsAliveFrom, set_count}
use Rattle.summary_chart.specs.declared.place_ways.Stop.{Stop}
use Rattle.summary_chart.specs.PlaceWays.{AreFew, AreLateStops, HaveLivingWays, HaveStops, indices_of}
use Rattle.summary_chart.specs.Summaries.{steps_of_items, steps_of_summary}
use Rattle.summary_chart.proofs.LivingPlaces.{gather_back, old_if_new, living_down, reached_back, chart_if_alive}
use Rattle.summary_chart.proofs.KeptWays.{living_of_all, fewer_places}
use Rattle.summary_chart.proofs.LateStops.{all_in_order, few_without, late_fewer, none_late}
use Rattle.summary_chart.proofs.LivingRooms.{LeadsPast, nothing_in_room, room_past, past_down, later_if_past, past_if_later, room_stays}
use Rattle.summary_chart.proofs.StopIndices.{from_end, from_lower, left_from, left_within, stops_of_fewer}
use Rattle.summary_chart.proofs.PassCosts.{one_frame_less, fewer_left}
use Rattle.summary_chart.proofs.passes.keep_living.Goals as goal

pub loop-until-init : goal.loop-until-init
loop-until-init g c =
    let searched = c.args.passage.lexicon.now in
    let line = c.args.passage.line.now in
    let choices = c.args.passage.choices.now in
    let table = c.args.table.now in
    let first = c.visit_until-until.result in
    let visit = c.visit_until-until.ensures in
    let lawful = c.requires.reached.lawful in
    let left : c.len-left.result ≡ length c.args.kept.now.stops.items = omega (arith, c.len-left.ensures, c.args.kept.now.stops.ok) in
    let all : c.len.result ≡ set_count searched line = omega (arith, c.len.ensures, table.sets.ok, lawful.count) in
    let from = subst (λ (n : ℕ). IsAliveFrom searched line choices n table) (sym all) (reached_back searched line choices table c.requires.reached) in
    record {
      from = living_down searched line choices first c.len.result table from (visit.none searched line lawful c.requires.stops);
      low = (let rises = visit.rises in omega (arith, rises, c.len.ensures, table.sets.ok));
      left = omega (arith, left);
      later = from_end c.args.kept.now.stops.items first c.len-left.result left;
      stops = c.requires.stops;
      kept = living_of_all searched line choices table c.args.kept.now.stops.items c.args.kept.now.ways.items c.requires.kept;
      late = subst (λ (late : List Stop). AreLateStops searched line choices table late c.args.kept.now.ways.items) (sym c.requires.late)
          (none_late searched line choices table c.args.kept.now.ways.items);
      few = subst (λ (late : List Stop). AreFew searched line (c.args.kept.now.stops.items ++ late) c.args.kept.now.ways.items) (sym c.requires.late)
          (few_without searched line choices c.args.kept.now.stops.items c.args.kept.now.ways.items c.requires.few);
      room = nothing_in_room searched line table c.args.room.now.walking c.requires.memo c.requires.walks c.requires.effects;
      past = room_past searched first c.args.room.now.walking c.requires.memo c.requires.walks;
      steps = λ most few.
          let less = fewer_left (c.args.steps.now + 2 * steps_of_summary searched line most) c.len.result first (2 * steps_of_items searched most) c.args.steps.now visit.rises
          (let same = ap (λ (n : ℕ). n * (2 * steps_of_items searched most)) all in let twice : set_count searched line * (2 * steps_of_items searched most) ≡ 2 * steps_of_summary searched line most = omega arith in omega (arith, same, twice)) in
          less;
    }

pub loop-until-preserved : goal.loop-until-preserved
loop-until-preserved g c =
    let searched = c.args.passage.lexicon.now in
    let line = c.args.passage.line.now in
    let choices = c.args.passage.choices.now in
    let index = c.loop-until.until - 1 in
    let old = c.loop-until.table in
    let new = c.replace.new.self in
    let inv = c.loop-until.invariant in
    let replace = c.replace.ensures in
    let living = c.in_ok-living.living in
    let here : c.loop-until.until ≡ index + 1 = omega (arith, c.loop-until-test.true) in
    let from = subst (λ (n : ℕ). IsAliveFrom searched line choices n old) here inv.from in
    let indexed = c.place-at.ensures (leads_in searched) (length line.letters) from.has.lawful in
    let gathers = c.in_ok-living.ensures.gathers in
    let back = gather_back searched line choices index c.place-at.result.0 c.place-at.result.1 old c.requires.searched from indexed
    new living replace.changes replace.set gathers in
    let fewer = old_if_new searched line choices index c.place-at.result.0 c.place-at.result.1 old c.requires.searched from indexed
    new living replace.changes replace.set gathers in
    let past : LeadsPast searched (index + 1) c.gather_from.new.room.walking =
    past_if_later searched line index c.place-at.result.0 c.place-at.result.1 indexed c.gather_from.new.room.walking
    (c.in_ok-living.ensures.later (later_if_past searched line index c.place-at.result.0 c.place-at.result.1 indexed c.loop-until.room.walking
    (subst (λ (n : ℕ). LeadsPast searched n c.loop-until.room.walking) here inv.past))) in
    let next = c.visit_until-until-in-loop-until.result in
    let visit = c.visit_until-until-in-loop-until.ensures in
    let stops = c.loop-until.kept.stops.items in
    let gathered = c.in_ok-living.ensures in
    let known = c.last_at-known.ensures.found in
    let left = c.unwrap_or-left.ensures in
    let later = left_from stops c.gather_from.new.kept.stops.items (length c.loop-until.kept.ways.items) index c.loop-until.until c.loop-until.left
    c.unwrap_or-left.result c.last_at-known.result inv.kept.are here inv.later known gathered.indices left in
    let each : IsTrue c.args.each_has_stop → HaveStops searched line new (indices_of c.gather_from.new.kept.stops.items) =
    λ told. subst (HaveStops searched line new) (sym gathered.indices)
    (stops_of_fewer searched line old new (indices_of stops) fewer (inv.stops told)) in
    record {
      from = living_down searched line choices next index new back (visit.none searched line back.has.lawful each);
      left = (
          let within = left_within stops index c.loop-until.left c.last_at-known.result inv.left known in
          let count = gathered.count in
          omega (arith, within, count, left)
          );
      later = from_lower (indices_of c.gather_from.new.kept.stops.items) next index c.unwrap_or-left.result visit.rises later;
      stops = each;
      kept = fewer_places searched line choices old new c.gather_from.new.kept.stops.items c.gather_from.new.kept.ways.items fewer
          c.in_ok-living.ensures.kept;
      late = late_fewer searched line choices old new c.gather_from.new.kept.late.items c.gather_from.new.kept.ways.items fewer gathered.late;
      few = gathered.few;
      room = room_stays searched line index old new c.requires.searched from.has.lawful replace.changes c.gather_from.new.room.walking past c.in_ok-living.ensures.room;
      past = past_down searched next (index + 1) c.gather_from.new.room.walking (let rises = visit.rises in omega (arith, rises)) past;
      low = (let rises = visit.rises in let low = inv.low in let count = replace.changes.count in omega (arith, rises, low, count, here));
      steps = λ most few.
          fewer_left (c.args.steps.now + 2 * steps_of_summary searched line most) index next (2 * steps_of_items searched most) c.gather_from.new.steps visit.rises
          (one_frame_less (c.args.steps.now + 2 * steps_of_summary searched line most) c.loop-until.until (2 * steps_of_items searched most)
          c.loop-until.steps c.gather_from.new.steps (omega (arith, here)) (inv.steps most few) (c.gather_from.ensures.steps most few));
    }

pub visit_until-until-requires-in-loop-until-clause-later : goal.visit_until-until-requires-in-loop-until-clause-later
visit_until-until-requires-in-loop-until-clause-later g c =
    let inv = c.loop-until.invariant in
    left_from c.loop-until.kept.stops.items c.gather_from.new.kept.stops.items (length c.loop-until.kept.ways.items) (c.loop-until.until - 1) c.loop-until.until
    c.loop-until.left c.unwrap_or-left.result c.last_at-known.result inv.kept.are (omega (arith, c.loop-until-test.true)) inv.later c.last_at-known.ensures.found
    c.in_ok-living.ensures.indices c.unwrap_or-left.ensures

pub returns-in_err-living-clause-steps : goal.returns-in_err-living-clause-steps
returns-in_err-living-clause-steps g c most few =
    let searched = c.args.passage.lexicon.now in
    let line = c.args.passage.line.now in
    let inv = c.loop-until.invariant in
    let one = one_frame_less (c.args.steps.now + 2 * steps_of_summary searched line most) c.loop-until.until (2 * steps_of_items searched most)
    c.loop-until.steps c.gather_from.new.steps (omega (arith, c.loop-until-test.true)) (inv.steps most few) (c.gather_from.ensures.steps most few) in
    omega (arith, one)

pub returns-clause-living : goal.returns-clause-living
returns-clause-living g c =
    let none : c.loop-until.until ≡ 0 = omega (arith, c.loop-until-test.false) in
    chart_if_alive c.args.passage.lexicon.now c.args.passage.line.now c.args.passage.choices.now c.loop-until.table
    (subst (λ (n : ℕ). IsAliveFrom c.args.passage.lexicon.now c.args.passage.line.now c.args.passage.choices.now n c.loop-until.table) none c.loop-until.invariant.from)

pub returns-clause-kept : goal.returns-clause-kept
returns-clause-kept g c =
    let inv = c.loop-until.invariant in
    let kept = c.loop-until.kept in
    subst (HaveLivingWays c.args.passage.lexicon.now c.args.passage.line.now c.args.passage.choices.now c.loop-until.table c.put_in_order.new.self.stops.items)
    (sym c.put_in_order.ensures.ways)
    (all_in_order c.args.passage.lexicon.now c.args.passage.line.now c.args.passage.choices.now c.loop-until.table kept.stops.items kept.late.items
    c.put_in_order.new.self.stops.items kept.ways.items inv.kept inv.late c.in_ok-put_in_order.ensures.rising c.in_ok-put_in_order.ensures.from)
