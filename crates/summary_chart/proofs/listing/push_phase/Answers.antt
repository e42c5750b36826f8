-- One front more, which is longer than those before; where there is no next one, no possible key of the phase takes more letters.
use Rattle.std.proofs.lemmas.Bool.{OnTrue_at, OnFalse_at}
use Rattle.std.proofs.Common.{ℕ, ◌+◌, ◌<◌, Option, sym, ap, subst, arith, List, length, take, ◌≡◌}
use Rattle.lexicon_definitions.specs.declared.limits.TheConstants.{MOST_RULE_LETTERS}
use Rattle.search_frames.specs.declared.way.Way.{Way}
use Rattle.search_frames.specs.Ahead.{MayBegin}
use Rattle.search_frames.specs.Frames.{numbered_of}
use Rattle.summary_chart.specs.declared.site.Front.{Front}
use Rattle.summary_chart.specs.Fronts.{IsFrontAt, IsNextFront}
use Rattle.summary_chart.specs.PlaceWays.{AppendsFalling}
use Rattle.summary_chart.specs.Spreading.{IsAtFront, IsInPhase}
use Rattle.summary_chart.specs.Summaries.{steps_of_front}
use Rattle.summary_chart.proofs.AppendedWays.{append_longer, begins_so, still_begins}
use Rattle.summary_chart.proofs.OrderedKeys.{HasListed, HasSpent, fronts_left, append_no_front, append_front, list_next, spend_next, spent_within, fewer_left}
use Rattle.summary_chart.proofs.SummarySteps.{one_more_within}
use Rattle.summary_chart.proofs.Walks.{front_short}
use Rattle.summary_chart.proofs.listing.push_phase.Goals as goal

pub loop-next-init : goal.loop-next-init
loop-next-init g c =
    let searched = c.args.here.site.lexicon.now in
    let line = c.args.here.site.line.now in
    let here = numbered_of searched c.args.here.site.place.now in
    let ahead = c.args.here.ahead in
    let ways = c.args.ways.now.items in
    let next = c.first_front-next.ensures.front ahead.limit c.requires.here.ahead.low in
    record {
      listed = list_next searched line c.args.here.site.choices.now here (g.S.Sought.sought c.args.sought.now c.args.here.site) c.args.phase ahead c.requires.here.ahead 0 c.first_front-next.result next ways ways
          (append_no_front searched line c.args.here.site.choices.now here (g.S.Sought.sought c.args.sought.now c.args.here.site) c.args.phase ways);
      above = c.requires.first;
      few = c.requires.few;
      spent = λ most few. spend_next searched line c.args.here.site.choices.now here (g.S.Sought.sought c.args.sought.now c.args.here.site) c.args.phase ahead.limit most c.args.steps.now c.first_front-next.new.steps 0
          c.first_front-next.result next (omega arith) (omega (arith, c.first_front-next.ensures.steps));
    }

pub push_front-requires-clause-limit : goal.push_front-requires-clause-limit
push_front-requires-clause-limit g c =
    let site = c.args.here.site in
    let listed = subst (λ (next : Option Front). HasListed site.lexicon.now site.line.now site.choices.now (numbered_of site.lexicon.now site.place.now) (g.S.Sought.sought c.args.sought.now c.args.here.site) c.args.phase
    c.args.here.ahead.limit next c.args.ways.now.items c.loop-next.ways.items) c.in-Some.is c.loop-next.invariant.listed in
    listed.0.near

pub push_front-requires-clause-begins : goal.push_front-requires-clause-begins
push_front-requires-clause-begins g c =
    let site = c.args.here.site in
    let here = numbered_of site.lexicon.now site.place.now in
    let listed = subst (λ (next : Option Front). HasListed site.lexicon.now site.line.now site.choices.now here (g.S.Sought.sought c.args.sought.now c.args.here.site) c.args.phase
    c.args.here.ahead.limit next c.args.ways.now.items c.loop-next.ways.items) c.in-Some.is c.loop-next.invariant.listed in
    subst (MayBegin here.entrance) (sym listed.0.phase_is) c.requires.begins

pub push_front-requires-clause-front : goal.push_front-requires-clause-front
push_front-requires-clause-front g c =
    let site = c.args.here.site in
    let here = numbered_of site.lexicon.now site.place.now in
    let listed = subst (λ (next : Option Front). HasListed site.lexicon.now site.line.now site.choices.now here (g.S.Sought.sought c.args.sought.now c.args.here.site) c.args.phase
    c.args.here.ahead.limit next c.args.ways.now.items c.loop-next.ways.items) c.in-Some.is c.loop-next.invariant.listed in
    subst (λ (p : ℕ). IsFrontAt site.lexicon.now site.line.now here p c.in-Some.front.taken c.in-Some.front.node) (sym listed.0.phase_is) listed.0.is

pub longer_front-next-requires-clause-front : goal.longer_front-next-requires-clause-front
longer_front-next-requires-clause-front g c =
    let site = c.args.here.site in
    let here = numbered_of site.lexicon.now site.place.now in
    let listed = subst (λ (next : Option Front). HasListed site.lexicon.now site.line.now site.choices.now here (g.S.Sought.sought c.args.sought.now c.args.here.site) c.args.phase
    c.args.here.ahead.limit next c.args.ways.now.items c.loop-next.ways.items) c.in-Some.is c.loop-next.invariant.listed in
    subst (λ (p : ℕ). IsFrontAt site.lexicon.now site.line.now here p c.in-Some.front.taken c.in-Some.front.node) (sym listed.0.phase_is) listed.0.is

pub longer_front-next-requires-clause-near : goal.longer_front-next-requires-clause-near
longer_front-next-requires-clause-near g c =
    let site = c.args.here.site in
    let listed = subst (λ (next : Option Front). HasListed site.lexicon.now site.line.now site.choices.now (numbered_of site.lexicon.now site.place.now) (g.S.Sought.sought c.args.sought.now c.args.here.site) c.args.phase
    c.args.here.ahead.limit next c.args.ways.now.items c.loop-next.ways.items) c.in-Some.is c.loop-next.invariant.listed in
    listed.0.near

pub loop-next-preserved : goal.loop-next-preserved
loop-next-preserved g c =
    let inv = c.loop-next.invariant in
    let site = c.args.here.site in
    let searched = site.lexicon.now in
    let line = site.line.now in
    let here = numbered_of searched site.place.now in
    let ahead = c.args.here.ahead in
    let front = c.in-Some.front in
    let old = c.args.ways.now.items in
    let mid = c.loop-next.ways.items in
    let new = c.push_front.new.ways.items in
    let listed = subst (λ (next : Option Front). HasListed searched line site.choices.now here (g.S.Sought.sought c.args.sought.now c.args.here.site) c.args.phase ahead.limit next old mid) c.in-Some.is inv.listed in
    let one = subst (λ (p : ℕ). AppendsFalling searched line site.choices.now here (g.S.Sought.sought c.args.sought.now c.args.here.site) (IsAtFront p front.taken) mid new) listed.0.phase_is (OnTrue_at {P = AppendsFalling searched line site.choices.now here (g.S.Sought.sought c.args.sought.now c.args.here.site) (IsAtFront front.phase front.taken) mid new} c.if-not-branch.false c.in_ok-push_front.ensures.appends) in
    let next = subst (λ (p : ℕ). IsNextFront searched line here p ahead.limit (front.taken + 1) c.longer_front-next.result) listed.0.phase_is c.longer_front-next.ensures.front in
    let longer = append_longer searched line site.choices.now here (g.S.Sought.sought c.args.sought.now c.args.here.site) (IsAtFront c.args.phase front.taken) mid new one in
    let short = front_short searched c.requires.here.site.searched line here c.args.phase ahead.limit front.taken front.node listed.0.is in
    record {
      listed = list_next searched line site.choices.now here (g.S.Sought.sought c.args.sought.now c.args.here.site) c.args.phase ahead c.requires.here.ahead (front.taken + 1) c.longer_front-next.result next old new
          (append_front searched line site.choices.now here (g.S.Sought.sought c.args.sought.now c.args.here.site) c.args.phase front.taken old mid new listed.1 one);
      above = omega (arith, inv.above, longer);
      few = omega (arith, c.if-len-first-gt-MOST_WAYS.false, c.len.ensures, c.push_front.new.ways.ok);
      spent = λ most few.
          let so_far = subst (λ (n : Option Front). HasSpent most c.args.steps.now n c.loop-next.steps) c.in-Some.is (inv.spent most few) in
          let more = c.push_front.ensures.steps most few in
          spend_next searched line site.choices.now here (g.S.Sought.sought c.args.sought.now c.args.here.site) c.args.phase ahead.limit most c.args.steps.now c.longer_front-next.new.steps (front.taken + 1)
          c.longer_front-next.result next (omega (arith, short))
          (one_more_within (c.args.steps.now + MOST_RULE_LETTERS) front.taken (1 + steps_of_front most) c.loop-next.steps c.longer_front-next.new.steps
          so_far (omega (arith, more, c.longer_front-next.ensures.steps)));
    }

pub loop-next-smaller : goal.loop-next-smaller
loop-next-smaller g c =
    let site = c.args.here.site in
    let searched = site.lexicon.now in
    let line = site.line.now in
    let here = numbered_of searched site.place.now in
    let limit = c.args.here.ahead.limit in
    let front = c.in-Some.front in
    let listed = subst (λ (next : Option Front). HasListed searched line site.choices.now here (g.S.Sought.sought c.args.sought.now c.args.here.site) c.args.phase limit next c.args.ways.now.items c.loop-next.ways.items)
    c.in-Some.is c.loop-next.invariant.listed in
    let next = subst (λ (p : ℕ). IsNextFront searched line here p limit (front.taken + 1) c.longer_front-next.result) listed.0.phase_is c.longer_front-next.ensures.front in
    subst (λ (n : ℕ). fronts_left here.at limit c.longer_front-next.result < n) (sym (ap (fronts_left here.at limit) c.in-Some.is))
    (fewer_left searched line site.choices.now here (g.S.Sought.sought c.args.sought.now c.args.here.site) c.args.phase limit front.taken c.longer_front-next.result next)

pub returns-in_err-push_front-clause-steps : goal.returns-in_err-push_front-clause-steps
returns-in_err-push_front-clause-steps g c most few =
    let site = c.args.here.site in
    let searched = site.lexicon.now in
    let here = numbered_of searched site.place.now in
    let front = c.in-Some.front in
    let inv = c.loop-next.invariant in
    let listed = subst (λ (next : Option Front). HasListed searched site.line.now site.choices.now here (g.S.Sought.sought c.args.sought.now c.args.here.site) c.args.phase c.args.here.ahead.limit next
    c.args.ways.now.items c.loop-next.ways.items) c.in-Some.is inv.listed in
    let short = front_short searched c.requires.here.site.searched site.line.now here c.args.phase c.args.here.ahead.limit front.taken front.node listed.0.is in
    let so_far = subst (λ (n : Option Front). HasSpent most c.args.steps.now n c.loop-next.steps) c.in-Some.is (inv.spent most few) in
    let more = c.push_front.ensures.steps most few in
    spent_within most c.args.steps.now c.push_front.new.steps (front.taken + 1) (omega (arith, short))
    (one_more_within (c.args.steps.now + MOST_RULE_LETTERS) front.taken (1 + steps_of_front most) c.loop-next.steps c.push_front.new.steps so_far (omega (arith, more)))

pub returns-then-len-first-gt-MOST_WAYS-clause-steps : goal.returns-then-len-first-gt-MOST_WAYS-clause-steps
returns-then-len-first-gt-MOST_WAYS-clause-steps g c most few =
    let site = c.args.here.site in
    let searched = site.lexicon.now in
    let here = numbered_of searched site.place.now in
    let front = c.in-Some.front in
    let inv = c.loop-next.invariant in
    let listed = subst (λ (next : Option Front). HasListed searched site.line.now site.choices.now here (g.S.Sought.sought c.args.sought.now c.args.here.site) c.args.phase c.args.here.ahead.limit next
    c.args.ways.now.items c.loop-next.ways.items) c.in-Some.is inv.listed in
    let short = front_short searched c.requires.here.site.searched site.line.now here c.args.phase c.args.here.ahead.limit front.taken front.node listed.0.is in
    let so_far = subst (λ (n : Option Front). HasSpent most c.args.steps.now n c.loop-next.steps) c.in-Some.is (inv.spent most few) in
    let more = c.push_front.ensures.steps most few in
    spent_within most c.args.steps.now c.push_front.new.steps (front.taken + 1) (omega (arith, short))
    (one_more_within (c.args.steps.now + MOST_RULE_LETTERS) front.taken (1 + steps_of_front most) c.loop-next.steps c.push_front.new.steps so_far (omega (arith, more)))

pub returns-then-not-branch-clause-steps : goal.returns-then-not-branch-clause-steps
returns-then-not-branch-clause-steps g c most few =
    let site = c.args.here.site in
    let searched = site.lexicon.now in
    let here = numbered_of searched site.place.now in
    let front = c.in-Some.front in
    let inv = c.loop-next.invariant in
    let listed = subst (λ (next : Option Front). HasListed searched site.line.now site.choices.now here (g.S.Sought.sought c.args.sought.now c.args.here.site) c.args.phase c.args.here.ahead.limit next
    c.args.ways.now.items c.loop-next.ways.items) c.in-Some.is inv.listed in
    let short = front_short searched c.requires.here.site.searched site.line.now here c.args.phase c.args.here.ahead.limit front.taken front.node listed.0.is in
    let so_far = subst (λ (n : Option Front). HasSpent most c.args.steps.now n c.loop-next.steps) c.in-Some.is (inv.spent most few) in
    let more = c.push_front.ensures.steps most few in
    spent_within most c.args.steps.now c.push_front.new.steps (front.taken + 1) (omega (arith, short))
    (one_more_within (c.args.steps.now + MOST_RULE_LETTERS) front.taken (1 + steps_of_front most) c.loop-next.steps c.push_front.new.steps so_far (omega (arith, more)))

pub returns-then-not-branch-clause-appends : goal.returns-then-not-branch-clause-appends
returns-then-not-branch-clause-appends g c = tt

pub returns-then-not-branch-clause-few : goal.returns-then-not-branch-clause-few
returns-then-not-branch-clause-few g c = tt

pub returns-then-not-branch-clause-kept : goal.returns-then-not-branch-clause-kept
returns-then-not-branch-clause-kept g c =
    let site = c.args.here.site in
    let old = c.args.ways.now.items in
    let mid = c.loop-next.ways.items in
    let listed = subst (λ (next : Option Front). HasListed site.lexicon.now site.line.now site.choices.now (numbered_of site.lexicon.now site.place.now) (g.S.Sought.sought c.args.sought.now c.args.here.site) c.args.phase
    c.args.here.ahead.limit next old mid) c.in-Some.is c.loop-next.invariant.listed in
    let so_far = listed.1 in
    subst (λ (items : List Way). take (length old) items ≡ old) (sym (OnFalse_at c.if-not-branch.true c.in_ok-push_front.ensures.stays)) (begins_so old mid so_far.ways so_far.appended)

pub returns-then-len-first-gt-MOST_WAYS-clause-appends : goal.returns-then-len-first-gt-MOST_WAYS-clause-appends
returns-then-len-first-gt-MOST_WAYS-clause-appends g c = tt

pub returns-then-len-first-gt-MOST_WAYS-clause-few : goal.returns-then-len-first-gt-MOST_WAYS-clause-few
returns-then-len-first-gt-MOST_WAYS-clause-few g c = tt

pub returns-then-len-first-gt-MOST_WAYS-clause-kept : goal.returns-then-len-first-gt-MOST_WAYS-clause-kept
returns-then-len-first-gt-MOST_WAYS-clause-kept g c =
    let site = c.args.here.site in
    let old = c.args.ways.now.items in
    let mid = c.loop-next.ways.items in
    let new = c.push_front.new.ways.items in
    let listed = subst (λ (next : Option Front). HasListed site.lexicon.now site.line.now site.choices.now (numbered_of site.lexicon.now site.place.now) (g.S.Sought.sought c.args.sought.now c.args.here.site) c.args.phase
    c.args.here.ahead.limit next old mid) c.in-Some.is c.loop-next.invariant.listed in
    let so_far = listed.1 in
    let one = OnTrue_at {P = AppendsFalling site.lexicon.now site.line.now site.choices.now (numbered_of site.lexicon.now site.place.now) (g.S.Sought.sought c.args.sought.now c.args.here.site) (IsAtFront c.in-Some.front.phase c.in-Some.front.taken) mid new} c.if-not-branch.false c.in_ok-push_front.ensures.appends in
    still_begins old mid new so_far.ways so_far.appended (begins_so mid new one.ways one.appended)

pub returns-clause-kept : goal.returns-clause-kept
returns-clause-kept g c =
    let site = c.args.here.site in
    let old = c.args.ways.now.items in
    let new = c.loop-next.ways.items in
    let all : AppendsFalling site.lexicon.now site.line.now site.choices.now (numbered_of site.lexicon.now site.place.now) (g.S.Sought.sought c.args.sought.now c.args.here.site) (IsInPhase c.args.phase) old new =
    subst (λ (next : Option Front). HasListed site.lexicon.now site.line.now site.choices.now (numbered_of site.lexicon.now site.place.now) (g.S.Sought.sought c.args.sought.now c.args.here.site) c.args.phase
    c.args.here.ahead.limit next old new) c.in_default.is c.loop-next.invariant.listed in
    begins_so old new all.ways all.appended

pub returns-clause-appends : goal.returns-clause-appends
returns-clause-appends g c =
    let site = c.args.here.site in
    subst (λ (next : Option Front). HasListed site.lexicon.now site.line.now site.choices.now (numbered_of site.lexicon.now site.place.now) (g.S.Sought.sought c.args.sought.now c.args.here.site) c.args.phase
    c.args.here.ahead.limit next c.args.ways.now.items c.loop-next.ways.items) c.in_default.is c.loop-next.invariant.listed

pub returns-clause-steps : goal.returns-clause-steps
returns-clause-steps g c most few = subst (λ (n : Option Front). HasSpent most c.args.steps.now n c.loop-next.steps) c.in_default.is (c.loop-next.invariant.spent most few)

pub returns-clause-few : goal.returns-clause-few
returns-clause-few g c = c.loop-next.invariant.few
