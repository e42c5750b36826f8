-- Where the text does not begin with the bytes E0 A5 and one more, it begins with a mark of Latin letters or with none.
use Rattle.std.proofs.Common.{◌∙◌, arith}
use borrow.Author.Tests.{eqb-false, ltb-true}
use Rattle.more_schemes.proofs.MarkFronts.{devanagari_first}
use Rattle.more_schemes.proofs.marks.devanagari_mark.Goals as goal
use Rattle.more_schemes.proofs.marks.devanagari_mark.Goals.{in_default-via-then-text-lt3, in_default-via-else-text-lt3+in-224+in_default-1, in_default-via-else-text-lt3+in_default-1}

pub returns-in_default-clause-value : goal.returns-in_default-clause-value
returns-in_default-clause-value c =
    c.latin_mark.ensures.value
    ∙ devanagari_first c.args.text.now (λ long first second.
    elim c.in_default.branch [
      | in_default-via-then-text-lt3 w ↦ absurd (omega (arith, eqb-false, ltb-true))
      | in_default-via-else-text-lt3+in-224+in_default-1 w ↦ absurd (omega (arith, eqb-false, ltb-true))
      | in_default-via-else-text-lt3+in_default-1 w ↦ absurd (omega (arith, eqb-false, ltb-true))
    ])
