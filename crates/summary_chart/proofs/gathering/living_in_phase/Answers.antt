-- One front more, before those from which it was found what lives; this is kept of each walk on from a front that takes a letter (`LivingWalks`).
use Rattle.std.proofs.Common.{◌≡◌, inl, inr, ℕ, ◌+◌, ◌-◌, ◌*◌, ◌<◌, length, sym, subst, arith}
use Rattle.std.proofs.lemmas.Bool.{OnTrue_at}
use Rattle.std.proofs.lemmas.List.{get_or_read}
use Rattle.std.specs.Prelude.{slice_index_or, IsTrue}
use Rattle.search_frames.specs.declared.frame.TheConstants.{NODES_OF_FRAME}
use Rattle.search_frames.specs.Frames.{numbered_of}
use Rattle.summary_chart.specs.Onward.{AreLivingBy}
use Rattle.summary_chart.specs.Walked.{FitWithLetter, IsFromFront}
use Rattle.summary_chart.specs.Fronts.{IsFrontAt}
use Rattle.summary_chart.proofs.LivingWalks.{all_fronts_live, front_lives, walk_living, walks_live}
use Rattle.summary_chart.proofs.PassCosts.{one_frame_less}
use Rattle.summary_chart.proofs.SummarySteps.{fewer_within}
use Rattle.summary_chart.proofs.WalkSteps.{few_walked}
use Rattle.summary_chart.proofs.gathering.living_in_phase.Goals as goal

pub walk_to_known-requires-clause-shares : goal.walk_to_known-requires-clause-shares
walk_to_known-requires-clause-shares g c says = OnTrue_at {P = FitWithLetter c.args.here} says c.shares_walks-shares.ensures

pub loop-taken-init : goal.loop-taken-init
loop-taken-init g c =
    let here = c.args.here in
    let site = here.site in
    let found = c.in_ok-living.ensures in
    let nodes = c.walk_to_known.new.nodes.items in
    let count : length nodes ≡ c.len-taken.result = omega (arith, c.len-taken.ensures, c.walk_to_known.new.nodes.ok) in
    record {
      walked = found.nodes;
      low = omega (arith, count);
      living = subst (λ (n : ℕ). AreLivingBy site.lexicon.now site.line.now site.choices.now (numbered_of site.lexicon.now site.place.now) c.args.table.now
          (IsFromFront c.args.first.now.phase n) c.in_ok-living.living) count (found.living c.args.table.now c.requires.room.walks);
      room = record { memo = c.requires.room.memo; walks = c.requires.room.walks };
      later = λ later. record { memo = later.memo; walks = later.walks };
      spent = λ most few.
          let short = few_walked here c.args.first.now.phase nodes c.requires.here.site.searched found.nodes in
          let all = fewer_within c.len-taken.result NODES_OF_FRAME (4 + 2 * most) (omega (arith, count, short)) in
          omega (arith, all, c.walk_to_known.ensures.steps);
    }

pub loop-taken-preserved : goal.loop-taken-preserved
loop-taken-preserved g c =
    let inv = c.loop-taken.invariant in
    let here = c.args.here in
    let site = here.site in
    let searched = site.lexicon.now in
    let line = site.line.now in
    let choices = site.choices.now in
    let place = site.place.now in
    let table = c.args.table.now in
    let phase = c.args.first.now.phase in
    let nodes = c.loop-taken.room.nodes.items in
    let taken = c.loop-taken.taken - 1 in
    let one : c.loop-taken.taken ≡ taken + 1 = omega (arith, c.loop-taken-test.true) in
    let below : taken < length nodes = omega (arith, inv.low, one) in
    let node : c.index.result.now ≡ slice_index_or nodes taken 0 = get_or_read nodes taken c.index.result.now below c.index.ensures 0 in
    let at_front : IsFrontAt searched line (numbered_of searched place) phase taken c.index.result.now =
    subst (IsFrontAt searched line (numbered_of searched place) phase taken) (sym node) (inv.walked.each taken below) in
    let longer = subst (λ (n : ℕ). AreLivingBy searched line choices (numbered_of searched place) table (IsFromFront phase n) c.loop-taken.living) one inv.living in
    let both = c.union-living.result in
    let lives : AreLivingBy searched line choices (numbered_of searched place) table (IsFromFront phase taken) both =
    front_lives searched line choices place table phase taken c.loop-taken.living c.in_ok-found.found both longer c.in_ok-found.ensures.living c.union-living.ensures in
    let fits : IsTrue c.shares_walks-shares.result → FitWithLetter here = λ says. OnTrue_at {P = FitWithLetter here} says c.shares_walks-shares.ensures in
    record {
      walked = inv.walked;
      low = omega (arith, below);
      living = lives;
      room = record {
        memo = c.in_ok-found.ensures.memo;
        walks = walks_live searched line table c.loop-taken.room.walks c.keep_walk.new.walks _ c.in_ok-keep_walk.ensures.keeps inv.room.walks
            (λ walked of. walk_living here c.requires.here table (record { phase = phase; taken = taken; node = c.index.result.now }) c.shares_walks-shares.result both walked
            at_front c.requires.first.own.begins fits of lives);
      };
      later = λ later.
          let before = inv.later later in
          record {
            memo = c.in_ok-found.ensures.ends before.memo;
            walks = λ walked kept. elim (c.in_ok-keep_walk.ensures.keeps walked kept) [
              | inl was ↦ before.walks walked was
              | inr now ↦
                  let end = now.from.end in
                  let some = now.some in
                  omega (arith, end, some)
            ];
          };
      spent = λ most few.
          let spent = c.living_at_front.ensures.steps most few in
          one_frame_less (c.args.steps.now + (2 * NODES_OF_FRAME + 1) + NODES_OF_FRAME * (4 + 2 * most)) c.loop-taken.taken (4 + 2 * most) c.loop-taken.steps c.keep_walk.new.steps
          (omega (arith, one)) (inv.spent most few) (omega (arith, spent, c.keep_walk.ensures.steps));
    }

pub overflow_cast-front : goal.overflow_cast-front
overflow_cast-front g c =
    let inv = c.loop-taken.invariant in
    let near = inv.walked.near (c.loop-taken.taken - 1) (omega (arith, c.loop-taken-test.true, inv.low)) in
    omega (arith, near)

pub living_at_front-requires-clause-limit : goal.living_at_front-requires-clause-limit
living_at_front-requires-clause-limit g c =
    let inv = c.loop-taken.invariant in
    inv.walked.near (c.loop-taken.taken - 1) (omega (arith, c.loop-taken-test.true, inv.low))

pub keep_walk-requires-clause-limit : goal.keep_walk-requires-clause-limit
keep_walk-requires-clause-limit g c =
    let inv = c.loop-taken.invariant in
    inv.walked.near (c.loop-taken.taken - 1) (omega (arith, c.loop-taken-test.true, inv.low))

pub living_at_front-requires-clause-front : goal.living_at_front-requires-clause-front
living_at_front-requires-clause-front g c =
    let inv = c.loop-taken.invariant in
    let here = c.args.here in
    let site = here.site in
    let nodes = c.loop-taken.room.nodes.items in
    let taken = c.loop-taken.taken - 1 in
    let below : taken < length nodes = omega (arith, inv.low, c.loop-taken-test.true) in
    let node : c.index.result.now ≡ slice_index_or nodes taken 0 = get_or_read nodes taken c.index.result.now below c.index.ensures 0 in
    subst (IsFrontAt site.lexicon.now site.line.now (numbered_of site.lexicon.now site.place.now) c.args.first.now.phase taken) (sym node) (inv.walked.each taken below)

pub returns-in_err-found-clause-steps : goal.returns-in_err-found-clause-steps
returns-in_err-found-clause-steps g c most few =
    let inv = c.loop-taken.invariant in
    let spent = c.living_at_front.ensures.steps most few in
    let one = one_frame_less (c.args.steps.now + (2 * NODES_OF_FRAME + 1) + NODES_OF_FRAME * (4 + 2 * most)) c.loop-taken.taken (4 + 2 * most) c.loop-taken.steps c.living_at_front.new.steps
    (omega (arith, c.loop-taken-test.true)) (inv.spent most few) (omega (arith, spent)) in
    omega (arith, one)

pub returns-in_err-keep_walk-clause-steps : goal.returns-in_err-keep_walk-clause-steps
returns-in_err-keep_walk-clause-steps g c most few =
    let inv = c.loop-taken.invariant in
    let spent = c.living_at_front.ensures.steps most few in
    let one = one_frame_less (c.args.steps.now + (2 * NODES_OF_FRAME + 1) + NODES_OF_FRAME * (4 + 2 * most)) c.loop-taken.taken (4 + 2 * most) c.loop-taken.steps c.keep_walk.new.steps
    (omega (arith, c.loop-taken-test.true)) (inv.spent most few) (omega (arith, spent, c.keep_walk.ensures.steps)) in
    omega (arith, one)

pub returns-clause-living : goal.returns-clause-living
returns-clause-living g c =
    let here = c.args.here in
    let site = here.site in
    let none : c.loop-taken.taken ≡ 0 = omega (arith, c.loop-taken-test.false) in
    all_fronts_live site.lexicon.now site.line.now site.choices.now site.place.now c.args.table.now c.args.first.now.phase c.loop-taken.living
    (subst (λ (n : ℕ). AreLivingBy site.lexicon.now site.line.now site.choices.now (numbered_of site.lexicon.now site.place.now) c.args.table.now
    (IsFromFront c.args.first.now.phase n) c.loop-taken.living) none c.loop-taken.invariant.living)

pub returns-clause-steps : goal.returns-clause-steps
returns-clause-steps g c most few = (let spent = c.loop-taken.invariant.spent most few in omega (arith, spent))
