-- One byte more, by what the rest of the text begins with.
use Rattle.std.proofs.Common.{ap, sym, ◌∙◌, arith}
use borrow.Author.Tests.{both_ways}
use Rattle.text_line.specs.Values.{scheme_of, front_is}
use Rattle.text_line.proofs.Steps.{one_more}
use Rattle.text_line.proofs.front.piece_length.Goals as goal
use Rattle.text_line.proofs.front.piece_length.Goals.{in-Other, in_default}

pub loop-length-preserved : goal.loop-length-preserved
loop-length-preserved c =
    elim c.match-matches.branch [
      | in-Other w ↦
          let more = one_more (scheme_of c.args.scheme) c.args.text.now c.loop-length.length c.loop-length-test.true (ap front_is (sym w.in-Other.is) ∙ c.front_of.ensures.value) in
          record { within = omega arith; whole = omega (arith, c.loop-length.invariant.whole, more) }
      | in_default w ↦ absurd (both_ways _ w.matches-is c.if-matches.true)
    ]
