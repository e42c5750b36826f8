-- Each turn is one step of reading by longest spellings.
use Rattle.std.proofs.Common.{◌-◌, length, drop, length-take, length-drop, sym, ◌∙◌, arith}
use Rattle.more_schemes.proofs.SchemeSteps.{reads_none, reads_more, reads_fault}
use Rattle.more_schemes.proofs.read.read_spellings.Goals as goal

pub loop-at-init : goal.loop-at-init
loop-at-init c = record { within = omega arith; spelled = rw c.new-word.ensures (reads_none c.args.scheme c.args.text.now) }

pub returns-in_default-clause-fault : goal.returns-in_default-clause-fault
returns-in_default-clause-fault c =
    rw c.into.ensures (sym c.loop-at.invariant.spelled ∙ reads_fault c.args.scheme _ c.args.text.now c.loop-at.at c.next_spelling-begin.result c.loop-at-test.true c.next_spelling-begin.ensures.value c.in_default.ensures.value)

pub loop-at-preserved : goal.loop-at-preserved
loop-at-preserved c = record {
  within = omega (arith, c.in-Some.ensures.length, length-drop c.next_spelling-begin.result c.args.text.now, length-take (length c.args.text.now - c.next_spelling-begin.result) (drop c.next_spelling-begin.result c.args.text.now));
  spelled =
      rw c.in_ok-push.ensures.ok (sym (reads_more c.args.scheme _ c.args.text.now c.loop-at.at c.next_spelling-begin.result _ c.loop-at-test.true c.next_spelling-begin.ensures.value c.in-Some.ensures.value c.in-Some.ensures.length) ∙ c.loop-at.invariant.spelled);
}
