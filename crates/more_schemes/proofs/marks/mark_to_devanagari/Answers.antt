-- Two bars are a double danda; else the first byte tells the mark.
use Rattle.std.proofs.Common.{◌∙◌, arith, rules, drop}
use borrow.Author.Tests.{eqb-false, ltb-true}
use Rattle.conversion_definitions.specs.Marks.{marks_to_devanagari}
use Rattle.more_schemes.specs.Values.{found_mark}
use Rattle.more_schemes.proofs.MarkFronts.{to_devanagari_none, two_bars, by_first, one_sign}
use Rattle.more_schemes.proofs.marks.mark_to_devanagari.Goals as goal
use Rattle.more_schemes.proofs.marks.mark_to_devanagari.Goals.{then-text-lt2, else-text-lt2+in-124+in_default-1, else-text-lt2+in_default-1}

pub returns-in-empty-clause-value : goal.returns-in-empty-clause-value
returns-in-empty-clause-value c = to_devanagari_none c.args.text.now c.in-empty.len_below

pub returns-in-124-clause-value : goal.returns-in-124-clause-value
returns-in-124-clause-value c = two_bars c.args.text.now c.in-124.len_at_least (search rules) (search rules)

pub returns-in-len1-up-clause-value : goal.returns-in-len1-up-clause-value
returns-in-len1-up-clause-value c =
    by_first (drop 1 marks_to_devanagari) (found_mark c.sign_to_devanagari.result) c.args.text.now (search rules) c.sign_to_devanagari.ensures.value
    ∙ one_sign c.args.text.now (λ long first second.
    elim c.in-len1-up-1.branch [
      | then-text-lt2 w ↦ absurd (omega (arith, eqb-false, ltb-true))
      | else-text-lt2+in-124+in_default-1 w ↦ absurd (omega (arith, eqb-false, ltb-true))
      | else-text-lt2+in_default-1 w ↦ absurd (omega (arith, eqb-false, ltb-true))
    ])
