-- The living ways from the states at the index were put in, with their late stop (`LateStops`).
use Rattle.std.proofs.Common.{List, ◌≡◌, ◌∷◌, ◌++◌, [], length, ap, sym, subst, ◌∙◌, arith}
use Rattle.std.proofs.lemmas.Bool.{OnTrue_at}
use Rattle.summary_chart.specs.declared.place_ways.Stop.{Stop}
use Rattle.summary_chart.specs.PlaceWays.{AreLateStops, HaveLivingWays}
use Rattle.summary_chart.proofs.LateStops.{put_late}
use Rattle.summary_chart.proofs.TableItems.{read_set}
use Rattle.summary_chart.proofs.passes.keep_late.Goals as goal

pub returns-clause-kept : goal.returns-clause-kept
returns-clause-kept g c =
    let site = c.args.site in
    let searched = site.lexicon.now in
    let line = site.line.now in
    let choices = site.choices.now in
    let place = site.place.now in
    let table = c.args.table.now in
    let old = c.looks_back.new.self in
    let same = c.looks_back.ensures in
    let have = subst (λ (s : List Stop). HaveLivingWays searched line choices table s old.ways.items) (sym same.stops)
    (subst (HaveLivingWays searched line choices table c.args.kept.now.stops.items) (sym same.ways) c.requires.kept) in
    let are = subst (λ (s : List Stop). AreLateStops searched line choices table s old.ways.items) (sym same.late)
    (subst (AreLateStops searched line choices table c.args.kept.now.late.items) (sym same.ways) c.requires.late) in
    let ways = c.push_ways.new.ways in
    let set = c.index-states.result.now in
    let read = read_set table c.args.index set c.requires.there c.index-states.ensures in
    let put = put_late searched line choices c.args.index place.at place.entrance table c.requires.table c.requires.indexed place.state set read
    old.stops.items old.late.items old.ways.items ways.items (OnTrue_at c.if-not-all.false c.in_ok-all.ensures.appends)
    (OnTrue_at c.if-not-all.false c.in_ok-all.ensures.few) have are in
    subst (λ (s : List Stop). HaveLivingWays searched line choices table s c.push_late.new.self.ways.items) (sym c.push_late.ensures.stops)
    (subst (HaveLivingWays searched line choices table old.stops.items) (sym c.push_late.ensures.ways) put.0)

pub returns-clause-late : goal.returns-clause-late
returns-clause-late g c =
    let site = c.args.site in
    let searched = site.lexicon.now in
    let line = site.line.now in
    let choices = site.choices.now in
    let place = site.place.now in
    let table = c.args.table.now in
    let old = c.looks_back.new.self in
    let same = c.looks_back.ensures in
    let have = subst (λ (s : List Stop). HaveLivingWays searched line choices table s old.ways.items) (sym same.stops)
    (subst (HaveLivingWays searched line choices table c.args.kept.now.stops.items) (sym same.ways) c.requires.kept) in
    let are = subst (λ (s : List Stop). AreLateStops searched line choices table s old.ways.items) (sym same.late)
    (subst (AreLateStops searched line choices table c.args.kept.now.late.items) (sym same.ways) c.requires.late) in
    let ways = c.push_ways.new.ways in
    let set = c.index-states.result.now in
    let read = read_set table c.args.index set c.requires.there c.index-states.ensures in
    let put = put_late searched line choices c.args.index place.at place.entrance table c.requires.table c.requires.indexed place.state set read
    old.stops.items old.late.items old.ways.items ways.items (OnTrue_at c.if-not-all.false c.in_ok-all.ensures.appends)
    (OnTrue_at c.if-not-all.false c.in_ok-all.ensures.few) have are in
    let first : c.len-first.result ≡ length old.ways.items = omega (arith, c.len-first.ensures, old.ways.ok) in
    let end : c.len.result ≡ length ways.items = omega (arith, c.len.ensures, ways.ok) in
    let stop : Stop = record { index = c.args.index; first = length old.ways.items; end = length ways.items } in
    let last : stop ≡ record { index = c.args.index; first = c.len-first.result; end = c.len.result } =
    λ i. record { index = c.args.index; first = sym first i; end = sym end i } in
    let late : c.push_late.new.self.late.items ≡ old.late.items ++ stop ∷ [] =
    c.in_ok-push_late.ensures.late ∙ ap (λ (s : Stop). old.late.items ++ s ∷ []) (sym last) in
    subst (λ (s : List Stop). AreLateStops searched line choices table s c.push_late.new.self.ways.items) (sym late)
    (subst (AreLateStops searched line choices table (old.late.items ++ stop ∷ [])) (sym c.push_late.ensures.ways) put.1)
