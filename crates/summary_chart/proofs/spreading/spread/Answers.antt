-- One level more (`LevelFronts`); where no fronts are left, all was spread, and so was what was walked on from each front.
use Rattle.std.proofs.Common.{◌≡◌, ◌+◌, ◌*◌, [], List, All, length, get_or, sym, ap, subst, arith, rules}
use Rattle.std.proofs.lemmas.Bool.{OnTrue_at}
use Rattle.lexicon_definitions.specs.Lexicons.{RuleSet}
use Rattle.lexicon_definitions.specs.Leads.{leads_of}
use Rattle.lexicon_definitions.specs.declared.limits.TheConstants.{MOST_RULE_LETTERS}
use Rattle.derivation.specs.Guides.{entrance_of}
use Rattle.search_frames.specs.Ahead.{IsAhead}
use Rattle.search_frames.specs.Configurations.{rules_in}
use Rattle.search_frames.specs.declared.ahead.Ahead.{Ahead}
use Rattle.summary_chart.specs.declared.alike.AlikeFront.{AlikeFront}
use Rattle.summary_chart.specs.declared.site.Site.{Site}
use Rattle.summary_chart.specs.declared.site.SiteAhead.{SiteAhead}
use Rattle.summary_chart.specs.Levels.{IsFrontHere, IsLedFront, IsSpreadOn}
use Rattle.summary_chart.specs.Sites.{IsSite, IsSiteAhead}
use Rattle.summary_chart.specs.Walked.{FitWithLetter}
use Rattle.summary_chart.proofs.LevelFronts.{first_here, first_level, level_spreads, no_level, none_only, only_both, spread_on}
use Rattle.summary_chart.proofs.SummarySteps.{levels_within, one_level_more}
use Rattle.summary_chart.proofs.spreading.spread.Goals as goal
use Rattle.summary_chart.proofs.spreading.spread.Goals.{else-loop-test, then-loop-test+then-is_empty}

-- what the line tells of the forms at the site
site_ahead : (site : Site) (ahead : Ahead) (set : RuleSet) → IsSite site → set ≡ site.lexicon.now.lexicon.rules
    → IsAhead set site.line.now site.place.now.at (entrance_of (leads_of set.rules) site.place.now.entrance) ahead
    → IsSiteAhead (record { site = site; ahead = ahead })
site_ahead site ahead set is same tells = record {
  site = is;
  ahead = subst (λ (rules : RuleSet). IsAhead rules site.line.now site.place.now.at (entrance_of (leads_of rules.rules) site.place.now.entrance) ahead) same tells;
}

-- all of none
all_none : (P : AlikeFront → Type 0) (fronts : List AlikeFront) → fronts ≡ [] → All P fronts
all_none P fronts none = subst (All P) (sym {A = List AlikeFront} none) (λ number other low. absurd (omega (arith, low)))

pub loop-init : goal.loop-init
loop-init g c =
    let here : SiteAhead = record { site = c.args.site; ahead = c.of.result } in
    let is = site_ahead c.args.site c.of.result c.rules.result.now c.requires.site c.rules.ensures.value c.of.ensures in
    let fronts = c.find_onward.new.fronts.items in
    let table = c.args.table.now in
    let found = c.in_ok-find_onward.ensures.fronts in
    let count = ap {A = List AlikeFront} length c.clear.ensures.items in
    record {
      low = omega arith;
      fronts = first_here here is c.args.states fronts found;
      walked = all_none (IsFrontHere here) c.clear.new.self.items c.clear.ensures.items;
      lawful = c.requires.table;
      room = c.requires.room;
      level = first_level here is c.args.states fronts table found;
      only = none_only here is c.args.states table;
      led = all_none (IsLedFront here c.args.states) c.clear.new.self.items c.clear.ensures.items;
      few = c.in_ok-find_onward.ensures.few;
      spent = λ most few. omega (arith, c.find_onward.ensures.steps, count);
    }

pub loop-preserved : goal.loop-preserved
loop-preserved g c =
    let here : SiteAhead = record { site = c.args.site; ahead = c.of.result } in
    let is = site_ahead c.args.site c.of.result c.rules.result.now c.requires.site c.rules.ensures.value c.of.ensures in
    let inv = c.loop.invariant in
    let names = length (rules_in c.args.site.lexicon.now).names in
    let ensures = c.in_ok-spread_level.ensures in
    record {
      low = omega (arith, c.loop-test.true);
      fronts = ensures.fronts;
      walked = ensures.walked;
      lawful = ensures.table;
      room = ensures.room;
      level = ensures.level c.args.states c.loop.counter inv.level;
      only = only_both here is c.args.states c.args.table.now c.loop.table c.spread_level.new.table inv.only (ensures.only c.args.states c.loop.counter inv.level);
      led = ensures.led c.args.states c.loop.counter inv.level inv.led;
      few = (let few = inv.few in let fewer = ensures.few in omega (arith, few, fewer));
      spent = λ most few. one_level_more names most c.loop.counter (c.args.steps.now + names * (1 + MOST_RULE_LETTERS + names)) c.loop.steps (length c.loop.room.walked.items)
          (length c.loop.room.fronts.items) c.spread_level.new.steps (length c.spread_level.new.room.walked.items) inv.few (inv.spent most few)
          (c.spread_level.ensures.steps most few) ensures.few_walked;
    }

pub returns-in_err-spread_level-clause-steps : goal.returns-in_err-spread_level-clause-steps
returns-in_err-spread_level-clause-steps g c most few =
    let inv = c.loop.invariant in
    let names = length (rules_in c.args.site.lexicon.now).names in
    let one = one_level_more names most c.loop.counter (c.args.steps.now + names * (1 + MOST_RULE_LETTERS + names)) c.loop.steps (length c.loop.room.walked.items)
    (length c.loop.room.fronts.items) c.spread_level.new.steps (length c.loop.room.walked.items) inv.few (inv.spent most few)
    (c.spread_level.ensures.steps most few) (omega arith) in
    let all = levels_within names most (c.loop.counter + 1) c.args.steps.now c.spread_level.new.steps (length c.loop.room.walked.items) c.requires.site.searched.limits.phases
    (omega (arith, c.loop-test.true)) one in
    omega (arith, all)

pub returns-then-not-shares-clause-spreads : goal.returns-then-not-shares-clause-spreads
returns-then-not-shares-clause-spreads g c =
    let here : SiteAhead = record { site = c.args.site; ahead = c.of.result } in
    let is = site_ahead c.args.site c.of.result c.rules.result.now c.requires.site c.rules.ensures.value c.of.ensures in
    let inv = c.loop.invariant in
    let fronts = c.loop.room.fronts.items in
    let none : length fronts ≡ 0 = elim c.loop-test.branch [
      | else-loop-test w ↦ no_level here is c.args.states fronts c.loop.counter c.loop.table (omega (arith, w.loop-test.false)) inv.fronts inv.level
      | then-loop-test+then-is_empty w ↦ search rules
    ] in
    level_spreads here is c.args.states fronts c.loop.counter c.args.table.now c.loop.table none inv.level inv.only

pub returns-then-not-shares-clause-steps : goal.returns-then-not-shares-clause-steps
returns-then-not-shares-clause-steps g c most few =
    let inv = c.loop.invariant in
    let names = length (rules_in c.args.site.lexicon.now).names in
    let all = levels_within names most c.loop.counter c.args.steps.now c.loop.steps (length c.loop.room.walked.items) c.requires.site.searched.limits.phases inv.low (inv.spent most few) in
    omega (arith, all)

pub returns-in_err-keep_spread-clause-steps : goal.returns-in_err-keep_spread-clause-steps
returns-in_err-keep_spread-clause-steps g c most few =
    let inv = c.loop.invariant in
    let names = length (rules_in c.args.site.lexicon.now).names in
    let all = levels_within names most c.loop.counter c.args.steps.now c.loop.steps (length c.loop.room.walked.items) c.requires.site.searched.limits.phases inv.low (inv.spent most few) in
    let count = ap length c.as_slice.ensures.value in
    omega (arith, all, count, c.keep_spread.ensures.steps)

pub returns-clause-room : goal.returns-clause-room
returns-clause-room g c =
    let here : SiteAhead = record { site = c.args.site; ahead = c.of.result } in
    let is = site_ahead c.args.site c.of.result c.rules.result.now c.requires.site c.rules.ensures.value c.of.ensures in
    let inv = c.loop.invariant in
    let fronts = c.loop.room.fronts.items in
    let walked = c.loop.room.walked.items in
    let new = c.loop.table in
    let none : length fronts ≡ 0 = elim c.loop-test.branch [
      | else-loop-test w ↦ no_level here is c.args.states fronts c.loop.counter new (omega (arith, w.loop-test.false)) inv.fronts inv.level
      | then-loop-test+then-is_empty w ↦ search rules
    ] in
    let spreads = level_spreads here is c.args.states fronts c.loop.counter c.args.table.now new none inv.level inv.only in
    let fits : FitWithLetter here = OnTrue_at {P = FitWithLetter here} c.if-not-shares.false c.shares_walks-shares.ensures in
    let all : All (IsSpreadOn here new) walked = λ number other low.
    spread_on here is c.args.states c.args.table.now new (get_or walked number other) (inv.walked number other low) (inv.led number other low) fits spreads in
    record {
      memo = inv.room.memo;
      walks = c.in_ok-keep_spread.ensures.walks new inv.room.walks (subst (All (IsSpreadOn here new)) (sym {A = List AlikeFront} c.as_slice.ensures.value) all);
    }

pub returns-clause-spreads : goal.returns-clause-spreads
returns-clause-spreads g c =
    let here : SiteAhead = record { site = c.args.site; ahead = c.of.result } in
    let is = site_ahead c.args.site c.of.result c.rules.result.now c.requires.site c.rules.ensures.value c.of.ensures in
    let inv = c.loop.invariant in
    let fronts = c.loop.room.fronts.items in
    let none : length fronts ≡ 0 = elim c.loop-test.branch [
      | else-loop-test w ↦ no_level here is c.args.states fronts c.loop.counter c.loop.table (omega (arith, w.loop-test.false)) inv.fronts inv.level
      | then-loop-test+then-is_empty w ↦ search rules
    ] in
    level_spreads here is c.args.states fronts c.loop.counter c.args.table.now c.loop.table none inv.level inv.only

pub returns-clause-steps : goal.returns-clause-steps
returns-clause-steps g c most few =
    let inv = c.loop.invariant in
    let names = length (rules_in c.args.site.lexicon.now).names in
    let all = levels_within names most c.loop.counter c.args.steps.now c.loop.steps (length c.loop.room.walked.items) c.requires.site.searched.limits.phases inv.low (inv.spent most few) in
    let count = ap length c.as_slice.ensures.value in
    omega (arith, all, count, c.keep_spread.ensures.steps)
