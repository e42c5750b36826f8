-- A rule whose w does not come next does nothing, so nothing is appended for it.
use Rattle.std.proofs.Common.{◌≡◌, ◌+◌, length, take, drop, sym, subst, arith}
use Rattle.lexicon_definitions.specs.Lexicons.{RuleSet, rule_of}
use Rattle.derivation.specs.Steps.{key_meant}
use Rattle.search_frames.specs.Frames.{numbered_of}
use Rattle.search_frames.proofs.AheadTests.{not_standing}
use Rattle.summary_chart.proofs.AppendedWays.{append_refused}
use Rattle.summary_chart.proofs.listing.push_rule.Goals as goal

pub returns-then-not-is_written : goal.returns-then-not-is_written
returns-then-not-is_written g c =
    let site = c.args.here.site in
    let searched = site.lexicon.now in
    let here = numbered_of searched site.place.now in
    let key = key_meant c.args.key in
    record {
      appends = append_refused searched site.line.now site.choices.now here (g.S.Sought.sought c.args.sought.now c.args.here.site) key c.args.ways.now.items
          (not_standing searched site.line.now site.choices.now here key (λ stands.
          let written = subst (λ (rules : RuleSet). take (length (rule_of rules key.rule).w) (drop (site.place.now.at + key.taken) site.line.now.letters) ≡ (rule_of rules key.rule).w)
          (sym c.rules.ensures.value) stands.written in
          absurd (cc (c.is_written.ensures.1 written, c.if-not-is_written.true))));
      steps = omega arith;
      counted = omega arith;
    }
