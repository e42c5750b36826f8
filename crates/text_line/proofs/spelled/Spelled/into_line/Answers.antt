-- Letters and blanks that are begun are a line, where there are letters and not too many.
use Rattle.std.proofs.Common.{length, ap, arith}
use Rattle.text_line.proofs.spelled.Spelled.into_line.Goals as goal

pub invariant_of-result : goal.invariant_of-result
invariant_of-result c =
    let same = ap length c.as_slice-length.ensures.value in
    record {
      word = c.self.invariant.word;
      not_empty = omega (arith, same, c.if-length-eq0.false);
      within_limit = omega (arith, same, c.if-length-gt-MOST_LINE_LETTERS.false);
      rising = c.self.invariant.rising;
      inside = c.self.invariant.inside;
    }
