-- The key is refused, or its way is not looked for, or it is appended.
use Rattle.std.proofs.Common.{subst, arith}
use Rattle.derivation.specs.Steps.{key_meant}
use Rattle.search_frames.specs.Frames.{numbered_of}
use Rattle.search_frames.specs.LetterTests.{IsLetterTestOf}
use Rattle.search_frames.specs.WaysFrom.{IsWayFrom}
use Rattle.summary_chart.proofs.AppendedWays.{append_refused, append_one, append_unsought}
use Rattle.summary_chart.proofs.listing.push_tested.Goals as goal

pub returns-in-Refused : goal.returns-in-Refused
returns-in-Refused g c = record {
  appends = append_refused c.args.site.lexicon.now c.args.site.line.now c.args.site.choices.now (numbered_of c.args.site.lexicon.now c.args.site.place.now) (g.S.Sought.sought c.args.sought.now c.args.site)
      (key_meant c.args.way.key) c.args.ways.now.items (subst (IsLetterTestOf c.args.site.lexicon.now c.args.site.line.now c.args.site.choices.now
      (numbered_of c.args.site.lexicon.now c.args.site.place.now) (key_meant c.args.way.key)) c.in-Refused.is c.requires.exact);
  steps = omega arith;
  counted = omega arith;
}

pub seeks-requires-clause-way : goal.seeks-requires-clause-way
seeks-requires-clause-way g c = record {
  possible = c.requires.possible;
  test = c.requires.exact;
  goes = c.in_default.not-Refused;
}

pub returns-then-not-seeks : goal.returns-then-not-seeks
returns-then-not-seeks g c =
    let site = c.args.site in
    record {
      appends = append_unsought site.lexicon.now site.line.now site.choices.now (numbered_of site.lexicon.now site.place.now) (g.S.Sought.sought c.args.sought.now site)
          (key_meant c.args.way.key) c.args.ways.now.items
          (λ sought. (let yes = c.seeks.ensures.1 sought in let no = c.if-not-seeks.true in cc (yes, no)));
      steps = omega arith;
      counted = omega arith;
    }

pub returns : goal.returns
returns g c =
    let searched = c.args.site.lexicon.now in
    let line = c.args.site.line.now in
    let choices = c.args.site.choices.now in
    let here = numbered_of searched c.args.site.place.now in
    let is : IsWayFrom searched line choices here c.args.way = record {
      possible = c.requires.possible;
      test = c.requires.exact;
      goes = c.in_default.not-Refused;
    } in
    record {
      appends = append_one searched line choices here (g.S.Sought.sought c.args.sought.now c.args.site) c.args.way c.args.ways.now.items c.push.new.self.items is c.in_ok-push.ensures.items;
      steps = omega (arith, c.tick.ensures);
      counted = omega (arith, c.tick.ensures);
    }
