-- One front more: where the memo has the walk on from it, nothing is left to it; else its keys are spread, and longer ones are left to the front
-- after one letter more, if there is one (`LevelFronts`).
use Rattle.std.proofs.Common.{◌≡◌, ◌+◌, ◌*◌, ◌<◌, ◌∷◌, [], ℕ, List, All, length, get_or, refl, sym, ap, subst, ◌∙◌, arith, length-append}
use Rattle.std.proofs.lemmas.List.{get_or_read}
use Rattle.std.proofs.lemmas.List.Elements.{All-get_or, All-push}
use Rattle.summary_chart.specs.declared.alike.AlikeFront.{AlikeFront}
use Rattle.summary_chart.specs.declared.site.SiteAhead.{SiteAhead}
use Rattle.summary_chart.specs.declared.state_set.StateSet.{StateSet}
use Rattle.summary_chart.specs.AlikeFronts.{front_at}
use Rattle.summary_chart.specs.Levels.{AreLevel, IsFrontHere, IsLedFront}
use Rattle.summary_chart.proofs.AlikeLists.{no_front}
use Rattle.summary_chart.proofs.LevelFronts.{ended_gone, front_only, known_gone, last_left, longer_gone, longer_here, longer_led, only_both, united_few, united_here, united_led, united_taken}
use Rattle.summary_chart.proofs.SpreadWalks.{room_grown, walk_known}
use Rattle.summary_chart.proofs.SummarySteps.{fewer_within, one_more_within}
use Rattle.summary_chart.proofs.spreading.spread_level.Goals as goal

-- the front with this number is the one that was read
read_front : (fronts others : List AlikeFront) (number : ℕ) (one : AlikeFront) → others ≡ fronts → number < length fronts → one ≡ get_or others number one → one ≡ front_at fronts number
read_front fronts others number one same low read =
    get_or_read fronts number one low (read ∙ ap (λ (list : List AlikeFront). get_or list number one) same) no_front

-- and so it is one of the level
own_front : (here : SiteAhead) (fronts : List AlikeFront) (number : ℕ) (one : AlikeFront) → number < length fronts → one ≡ front_at fronts number
    → All (IsFrontHere here) fronts → IsFrontHere here one
own_front here fronts number one low is all = subst (IsFrontHere here) (sym is) (All-get_or (IsFrontHere here) fronts number no_front low all)

own_led : (here : SiteAhead) (set : StateSet) (fronts : List AlikeFront) (number : ℕ) (one : AlikeFront) → number < length fronts → one ≡ front_at fronts number
    → All (IsLedFront here set) fronts → IsLedFront here set one
own_led here set fronts number one low is all = subst (IsLedFront here set) (sym is) (All-get_or (IsLedFront here set) fronts number no_front low all)

own_taken : (taken : ℕ) (fronts : List AlikeFront) (number : ℕ) (one : AlikeFront) → number < length fronts → one ≡ front_at fronts number
    → All (λ (it : AlikeFront). it.front.taken ≡ taken) fronts → one.front.taken ≡ taken
own_taken taken fronts number one low is all =
    ap (λ (it : AlikeFront). it.front.taken) is ∙ All-get_or (λ (it : AlikeFront). it.front.taken ≡ taken) fronts number no_front low all

pub loop-number-preserved-then-is_spread : goal.loop-number-preserved-then-is_spread
loop-number-preserved-then-is_spread g c =
    let inv = c.loop-number.invariant in
    let here = c.args.here in
    let is = c.requires.here in
    let fronts = c.args.room.now.fronts.items in
    let number = c.loop-number.number in
    let one = c.index.result.now in
    let low : number < length fronts = omega (arith, c.loop-number-test.true, inv.end) in
    let is_one = read_front fronts c.loop-number.room.fronts.items number one inv.fronts low c.index.ensures in
    let own = own_front here fronts number one low is_one c.requires.fronts in
    let (some, known) = c.if-is_spread.ensures.known in
    let (from, is_from, has) = known in
    record {
      end = inv.end;
      low = omega (arith, low);
      fronts = inv.fronts;
      longer = inv.longer;
      walked = inv.walked;
      lawful = inv.lawful;
      room = inv.room;
      goes = λ set taken level.
          let gone = inv.goes set taken level in
          record {
            left = known_gone here is set fronts number one is_one own c.loop-number.room.longer.items c.loop-number.table
                (walk_known here is one.front from own.own.leads some is_from one.states c.loop-number.table c.loop-number.room.walking.walks inv.room.walks has) gone.left;
            each = gone.each;
            led = gone.led;
            only = gone.only;
          };
      led = inv.led;
      few = (let few = inv.few in omega (arith, few));
      few_walked = (let few = inv.few_walked in omega (arith, few));
      spent = λ most few.
          one_more_within c.args.steps.now number (5 + 2 * most) c.loop-number.steps c.is_spread.new.steps (inv.spent most few) (omega (arith, c.is_spread.ensures.steps));
    }

pub loop-number-preserved-in_default : goal.loop-number-preserved-in_default
loop-number-preserved-in_default g c =
    let inv = c.loop-number.invariant in
    let here = c.args.here in
    let site = here.site in
    let is = c.requires.here in
    let fronts = c.args.room.now.fronts.items in
    let number = c.loop-number.number in
    let one = c.index.result.now in
    let low : number < length fronts = omega (arith, c.loop-number-test.true, inv.end) in
    let is_one = read_front fronts c.loop-number.room.fronts.items number one inv.fronts low c.index.ensures in
    let own = own_front here fronts number one low is_one c.requires.fronts in
    let old = c.loop-number.table in
    let new = c.spread_front.new.table in
    let puts = c.in_ok-spread_front.ensures.spreads in
    let walked = c.loop-number.room.walked.items in
    let pushed = c.in_ok-push.ensures.items in
    let count = length-append walked (one ∷ []) in
    let same_count = ap {A = List AlikeFront} length pushed in
    record {
      end = inv.end;
      low = omega (arith, low);
      fronts = inv.fronts;
      longer = inv.longer;
      walked = subst (All (IsFrontHere here)) (sym {A = List AlikeFront} pushed) (All-push (IsFrontHere here) walked one inv.walked own);
      lawful = c.in_ok-spread_front.ensures.table;
      room = room_grown site.lexicon.now site.line.now old new c.loop-number.room.walking (record c.loop-number.room.walking { memo = c.spread_front.new.memo })
          puts.keeps refl c.in_ok-spread_front.ensures.memo inv.room;
      goes = λ set taken level.
          let gone = inv.goes set taken level in
          let led = own_led here set fronts number one low is_one level.led in
          record {
            left = ended_gone here is set fronts number one is_one own c.loop-number.room.longer.items old new puts c.in_default.ensures.front gone.left;
            each = gone.each;
            led = gone.led;
            only = only_both here is set c.args.table.now old new gone.only (front_only here is set one own led old new puts);
          };
      led = λ set taken level were. subst (All (IsLedFront here set)) (sym {A = List AlikeFront} pushed)
          (All-push (IsLedFront here set) walked one (inv.led set taken level were) (own_led here set fronts number one low is_one level.led));
      few = (let few = inv.few in omega (arith, few));
      few_walked = (let few = inv.few_walked in omega (arith, few, count, same_count));
      spent = λ most few.
          let spent = c.spread_front.ensures.steps most few in
          one_more_within c.args.steps.now number (5 + 2 * most) c.loop-number.steps c.longer_front.new.steps (inv.spent most few)
          (omega (arith, c.is_spread.ensures.steps, spent, c.longer_front.ensures.steps));
    }

pub loop-number-preserved : goal.loop-number-preserved
loop-number-preserved g c =
    let inv = c.loop-number.invariant in
    let here = c.args.here in
    let site = here.site in
    let is = c.requires.here in
    let fronts = c.args.room.now.fronts.items in
    let number = c.loop-number.number in
    let one = c.index.result.now in
    let low : number < length fronts = omega (arith, c.loop-number-test.true, inv.end) in
    let is_one = read_front fronts c.loop-number.room.fronts.items number one inv.fronts low c.index.ensures in
    let own = own_front here fronts number one low is_one c.requires.fronts in
    let old = c.loop-number.table in
    let new = c.spread_front.new.table in
    let puts = c.in_ok-spread_front.ensures.spreads in
    let walked = c.loop-number.room.walked.items in
    let pushed = c.in_ok-push.ensures.items in
    let count = length-append walked (one ∷ []) in
    let same_count = ap {A = List AlikeFront} length pushed in
    let front = c.in-Some.front in
    let near = c.in-Some.ensures.front in
    let longer = c.loop-number.room.longer.items in
    let more = c.add_longer.new.fronts.items in
    let united = c.in_ok-add_longer.ensures in
    let next : AlikeFront = record { front = front; states = one.states } in
    record {
      end = inv.end;
      low = omega (arith, low);
      fronts = inv.fronts;
      longer = united_here here is longer next more (longer_here here is one own front near) inv.longer united;
      walked = subst (All (IsFrontHere here)) (sym {A = List AlikeFront} pushed) (All-push (IsFrontHere here) walked one inv.walked own);
      lawful = c.in_ok-spread_front.ensures.table;
      room = room_grown site.lexicon.now site.line.now old new c.loop-number.room.walking (record c.loop-number.room.walking { memo = c.spread_front.new.memo })
          puts.keeps refl c.in_ok-spread_front.ensures.memo inv.room;
      goes = λ set taken level.
          let gone = inv.goes set taken level in
          let led = own_led here set fronts number one low is_one level.led in
          record {
            left = longer_gone here is set fronts number one is_one own longer old new puts front more near united gone.left;
            each = united_taken here is (taken + 1) longer next more
                (near.taken_is ∙ ap (λ (t : ℕ). t + 1) (own_taken taken fronts number one low is_one level.each)) gone.each united;
            led = united_led here is set longer next more (longer_led here is one own front near set led) gone.led united;
            only = only_both here is set c.args.table.now old new gone.only (front_only here is set one own led old new puts);
          };
      led = λ set taken level were. subst (All (IsLedFront here set)) (sym {A = List AlikeFront} pushed)
          (All-push (IsLedFront here set) walked one (inv.led set taken level were) (own_led here set fronts number one low is_one level.led));
      few = (let few = inv.few in let more_few = united_few here longer next more united in omega (arith, few, more_few));
      few_walked = (let few = inv.few_walked in omega (arith, few, count, same_count));
      spent = λ most few.
          let spent = c.spread_front.ensures.steps most few in
          one_more_within c.args.steps.now number (5 + 2 * most) c.loop-number.steps c.longer_front.new.steps (inv.spent most few)
          (omega (arith, c.is_spread.ensures.steps, spent, c.longer_front.ensures.steps));
    }

pub returns-in_err-spread_front-clause-steps : goal.returns-in_err-spread_front-clause-steps
returns-in_err-spread_front-clause-steps g c most few =
    let inv = c.loop-number.invariant in
    let fronts = c.args.room.now.fronts.items in
    let number = c.loop-number.number in
    let spent = c.spread_front.ensures.steps most few in
    let one = one_more_within c.args.steps.now number (5 + 2 * most) c.loop-number.steps c.spread_front.new.steps (inv.spent most few)
    (omega (arith, c.is_spread.ensures.steps, spent)) in
    let all = fewer_within (number + 1) (length fronts) (5 + 2 * most) (omega (arith, c.loop-number-test.true, inv.end)) in
    omega (arith, one, all)

pub returns-in_err-push-clause-steps : goal.returns-in_err-push-clause-steps
returns-in_err-push-clause-steps g c most few =
    let inv = c.loop-number.invariant in
    let fronts = c.args.room.now.fronts.items in
    let number = c.loop-number.number in
    let spent = c.spread_front.ensures.steps most few in
    let one = one_more_within c.args.steps.now number (5 + 2 * most) c.loop-number.steps c.spread_front.new.steps (inv.spent most few)
    (omega (arith, c.is_spread.ensures.steps, spent)) in
    let all = fewer_within (number + 1) (length fronts) (5 + 2 * most) (omega (arith, c.loop-number-test.true, inv.end)) in
    omega (arith, one, all)

pub returns-in_err-add_longer-clause-steps : goal.returns-in_err-add_longer-clause-steps
returns-in_err-add_longer-clause-steps g c most few =
    let inv = c.loop-number.invariant in
    let fronts = c.args.room.now.fronts.items in
    let number = c.loop-number.number in
    let spent = c.spread_front.ensures.steps most few in
    let one = one_more_within c.args.steps.now number (5 + 2 * most) c.loop-number.steps c.longer_front.new.steps (inv.spent most few)
    (omega (arith, c.is_spread.ensures.steps, spent, c.longer_front.ensures.steps)) in
    let all = fewer_within (number + 1) (length fronts) (5 + 2 * most) (omega (arith, c.loop-number-test.true, inv.end)) in
    omega (arith, one, all)

pub returns-clause-level : goal.returns-clause-level
returns-clause-level g c set taken level =
    let inv = c.loop-number.invariant in
    let here = c.args.here in
    let fronts = c.args.room.now.fronts.items in
    let longer = c.loop-number.room.longer.items in
    let gone = inv.goes set taken level in
    subst (AreLevel here set (taken + 1) c.loop-number.table) (sym {A = List AlikeFront} (ap (λ v. v.items) c.swap.ensures.x_after)) (record {
      each = gone.each;
      led = gone.led;
      all = last_left here c.requires.here set fronts c.loop-number.number longer c.loop-number.table (omega (arith, c.loop-number-test.false, inv.end)) gone.left;
    })

pub returns-clause-only : goal.returns-clause-only
returns-clause-only g c set taken level = (c.loop-number.invariant.goes set taken level).only

pub returns-clause-steps : goal.returns-clause-steps
returns-clause-steps g c most few =
    let inv = c.loop-number.invariant in
    let fronts = c.args.room.now.fronts.items in
    let spent = inv.spent most few in
    let all = fewer_within c.loop-number.number (length fronts) (5 + 2 * most) inv.low in
    omega (arith, spent, all)
