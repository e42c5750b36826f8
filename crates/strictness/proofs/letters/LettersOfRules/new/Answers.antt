-- One letter more, in each list.
use Rattle.std.proofs.Common.{[], ◌∷◌, length, ap, arith, length-append}
use Rattle.strictness.specs.Matches.{HasFirst, HasLast}
use Rattle.strictness.proofs.RuleMatches.{lists_more}
use Rattle.strictness.proofs.letters.LettersOfRules.new.Goals as goal

pub loop-letter-preserved : goal.loop-letter-preserved
loop-letter-preserved c = record {
  all_firsts = omega (arith, ap length c.in_ok-push.ensures.items, length-append c.loop-letter.firsts.items (c.in_ok-rules_with_first.field-0 ∷ []), c.loop-letter.invariant.all_firsts);
  all_lasts = omega (arith, ap length c.in_ok-push-2.ensures.items, length-append c.loop-letter.lasts.items (c.in_ok-rules_with_last.field-0 ∷ []), c.loop-letter.invariant.all_lasts);
  firsts = lists_more (HasFirst c.args.rules.now) c.loop-letter.firsts.items c.loop-letter.letter c.push.new.self.items
      c.in_ok-rules_with_first.field-0 c.loop-letter.invariant.all_firsts c.loop-letter.invariant.firsts c.in_ok-rules_with_first.ensures.ok
      c.in_ok-push.ensures.items;
  lasts = lists_more (HasLast c.args.rules.now) c.loop-letter.lasts.items c.loop-letter.letter c.push-in-loop-letter.new.self.items
      c.in_ok-rules_with_last.field-0 c.loop-letter.invariant.all_lasts c.loop-letter.invariant.lasts c.in_ok-rules_with_last.ensures.ok
      c.in_ok-push-2.ensures.items;
}
