-- One front more; what is kept of the walk on from one lives from there on (`LivingWalks`), and nothing does where no front is left.
use Rattle.std.proofs.Common.{◌≡◌, ◌<◌, ◌++◌, ◌∷◌, [], ℕ, length, refl, sym, ap, subst, arith, length-append}
use Rattle.search_frames.specs.Ahead.{MayBegin}
use Rattle.search_frames.specs.Frames.{numbered_of}
use Rattle.summary_chart.specs.Onward.{AreLivingBy}
use Rattle.summary_chart.specs.Walked.{IsFromFront}
use Rattle.summary_chart.specs.Spreading.{EveryKey}
use Rattle.summary_chart.proofs.LivingWalks.{living_known, no_longer_lives}
use Rattle.summary_chart.proofs.OrderedKeys.{fewer_left, fronts_left}
use Rattle.summary_chart.proofs.WalkSteps.{few_walked, first_walked, next_front, no_next, own_front, walked_on}
use Rattle.summary_chart.proofs.gathering.walk_to_known.Goals as goal

pub loop-next-init : goal.loop-next-init
loop-next-init g c =
    record {
      walked = first_walked c.args.here c.args.first.now.phase c.args.first.now c.requires.here.ahead.low c.requires.first refl c.args.nodes.now.items c.requires.nodes;
      spent = omega arith;
    }

pub known_living-requires-clause-limit : goal.known_living-requires-clause-limit
known_living-requires-clause-limit g c =
    let near = next_front c.args.here c.args.first.now.phase c.in-Some.front c.loop-next.next c.loop-next.nodes.items c.in-Some.is c.loop-next.invariant.walked in
    let close = near.near in
    let at = near.taken_is in
    omega (arith, close, at)

pub longer_front-next-requires-clause-front : goal.longer_front-next-requires-clause-front
longer_front-next-requires-clause-front g c =
    let nodes = c.loop-next.nodes.items in
    own_front c.args.here c.args.first.now.phase c.in-Some.front (length nodes)
    (next_front c.args.here c.args.first.now.phase c.in-Some.front c.loop-next.next nodes c.in-Some.is c.loop-next.invariant.walked)

pub longer_front-next-requires-clause-near : goal.longer_front-next-requires-clause-near
longer_front-next-requires-clause-near g c =
    let near = next_front c.args.here c.args.first.now.phase c.in-Some.front c.loop-next.next c.loop-next.nodes.items c.in-Some.is c.loop-next.invariant.walked in
    let close = near.near in
    let at = near.taken_is in
    omega (arith, close, at)

pub loop-next-preserved : goal.loop-next-preserved
loop-next-preserved g c =
    let inv = c.loop-next.invariant in
    let here = c.args.here in
    let phase = c.args.first.now.phase in
    let front = c.in-Some.front in
    let nodes = c.loop-next.nodes.items in
    let more = c.push.new.self.items in
    let pushed : more ≡ nodes ++ front.node ∷ [] = c.in_ok-push.ensures.items in
    let near = next_front here phase front c.loop-next.next nodes c.in-Some.is inv.walked in
    let long = length-append nodes (front.node ∷ []) in
    let count = ap length pushed in
    let spent = inv.spent in
    record {
      walked = walked_on here phase front c.longer_front-next.result nodes more near c.longer_front-next.ensures.front pushed inv.walked.fronts;
      spent = omega (arith, spent, long, count, c.known_living.ensures.steps, c.longer_front-next.ensures.steps);
    }

pub loop-next-smaller : goal.loop-next-smaller
loop-next-smaller g c =
    let here = c.args.here in
    let site = here.site in
    let stands = numbered_of site.lexicon.now site.place.now in
    let front = c.in-Some.front in
    let longer = c.longer_front-next.result in
    subst (λ (n : ℕ). fronts_left stands.at here.ahead.limit longer < n) (sym (ap (fronts_left stands.at here.ahead.limit) c.in-Some.is))
    (fewer_left site.lexicon.now site.line.now site.choices.now stands EveryKey front.phase here.ahead.limit front.taken longer c.longer_front-next.ensures.front)

pub returns-in-Some-known_living-clause-living : goal.returns-in-Some-known_living-clause-living
returns-in-Some-known_living-clause-living g c table are =
    let here = c.args.here in
    let site = here.site in
    let phase = c.args.first.now.phase in
    let front = c.in-Some.front in
    let nodes = c.loop-next.nodes.items in
    let living = c.in-Some-known_living.living in
    let stands = numbered_of site.lexicon.now site.place.now in
    let near = next_front here phase front c.loop-next.next nodes c.in-Some.is c.loop-next.invariant.walked in
    let (walked, kept, of) = c.in-Some-known_living.ensures.known in
    let Lives = λ (p t : ℕ). AreLivingBy site.lexicon.now site.line.now site.choices.now stands table (IsFromFront p t) living in
    let lives : Lives front.phase front.taken =
    living_known here c.requires.here table front c.args.shares living walked (own_front here phase front (length nodes) near)
    (subst (MayBegin stands.entrance) (sym near.phase_is) c.requires.first.own.begins) c.requires.shares of (are walked kept) in
    subst (λ (p : ℕ). Lives p (length nodes)) near.phase_is (subst (Lives front.phase) near.taken_is lives)

pub returns-in-Some-known_living-clause-steps : goal.returns-in-Some-known_living-clause-steps
returns-in-Some-known_living-clause-steps g c =
    let inv = c.loop-next.invariant in
    let few = few_walked c.args.here c.args.first.now.phase c.loop-next.nodes.items c.requires.here.site.searched inv.walked.fronts in
    let spent = inv.spent in
    omega (arith, spent, few, c.known_living.ensures.steps)

pub returns-in_err-push-clause-steps : goal.returns-in_err-push-clause-steps
returns-in_err-push-clause-steps g c =
    let inv = c.loop-next.invariant in
    let few = few_walked c.args.here c.args.first.now.phase c.loop-next.nodes.items c.requires.here.site.searched inv.walked.fronts in
    let spent = inv.spent in
    omega (arith, spent, few, c.known_living.ensures.steps)

pub returns-clause-living : goal.returns-clause-living
returns-clause-living g c table are =
    let here = c.args.here in
    let site = here.site in
    let phase = c.args.first.now.phase in
    let nodes = c.loop-next.nodes.items in
    no_longer_lives site.lexicon.now site.line.now site.choices.now site.place.now table phase here.ahead c.requires.here.ahead (length nodes)
    (no_next here phase c.loop-next.next nodes c.in_default.is c.loop-next.invariant.walked) c.empty.result c.empty.ensures.none

pub returns-clause-steps : goal.returns-clause-steps
returns-clause-steps g c =
    let inv = c.loop-next.invariant in
    let few = few_walked c.args.here c.args.first.now.phase c.loop-next.nodes.items c.requires.here.site.searched inv.walked.fronts in
    let spent = inv.spent in
    omega (arith, spent, few)
