-- The ways from the states at the index were put in, with their stop after the others.
use Rattle.std.proofs.Common.{List, ◌≡◌, ◌∷◌, [], length, ap, refl, sym, subst, arith, length-append}
use Rattle.std.proofs.lemmas.Bool.{OnTrue_at}
use Rattle.search_frames.specs.Frames.{numbered_of}
use Rattle.search_frames.specs.declared.way.Way.{Way}
use Rattle.summary_chart.specs.declared.place_ways.Stop.{Stop}
use Rattle.summary_chart.specs.declared.state_set.StateSet.{StateSet}
use Rattle.summary_chart.specs.PlaceWays.{AppendsWays}
use Rattle.summary_chart.specs.Spreading.{EveryKey, IsLedByPhase}
use Rattle.summary_chart.specs.Tables.{set_of}
use Rattle.summary_chart.proofs.TableItems.{read_set}
use Rattle.summary_chart.proofs.passes.keep_ways.Goals as goal

pub returns-clause-kept : goal.returns-clause-kept
returns-clause-kept g c =
    let searched = c.args.site.lexicon.now in
    let old = c.args.kept.now in
    let ways = c.push_ways.new.ways in
    let read = read_set c.args.table.now c.args.index c.index-states.result.now c.requires.there c.index-states.ensures in
    let first : c.len-first.result ≡ length old.ways.items = omega (arith, c.len-first.ensures, old.ways.ok) in
    let kept : List Way = c.push.new.self.ways.items in
    let same : kept ≡ ways.items = c.push.ensures.ways in
    let count = ap length same in
    let end : c.len.result ≡ length kept = omega (arith, c.len.ensures, ways.ok, count) in
    let stop : Stop = record { index = c.args.index; first = c.len-first.result; end = c.len.result } in
    let room = c.if-not-has_room-2.ensures.0 refl in
    let added = c.in_ok-push.ensures.stops in
    let more = ap length added in
    let long = length-append old.stops.items (stop ∷ []) in (
      c.most_kept-most.result,
      c.most_kept-most.ensures,
      record {
        appends = subst (λ (items : List Way). AppendsWays searched c.args.site.line.now c.args.site.choices.now
            (numbered_of searched c.args.site.place.now) EveryKey (IsLedByPhase searched.machine (set_of c.args.table.now c.args.index)) old.ways.items items) (sym same)
            (subst (λ (set : StateSet). AppendsWays searched c.args.site.line.now c.args.site.choices.now (numbered_of searched c.args.site.place.now)
            EveryKey (IsLedByPhase searched.machine set) old.ways.items ways.items) (sym read) (OnTrue_at c.if-not-all.false c.in_ok-all.ensures.appends));
        few = (let short = OnTrue_at c.if-not-all.false c.in_ok-all.ensures.few in omega (arith, short, count));
        is = λ i. record { index = c.args.index; first = first i; end = end i };
        added = added;
        room = omega (arith, room, more, long, count);
      },
    )
