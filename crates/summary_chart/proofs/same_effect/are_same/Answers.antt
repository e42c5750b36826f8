-- Words that compare as equal are the same (`SameU`).
use Rattle.std.proofs.Common.{◌≡◌}
use Rattle.std.proofs.lemmas.Bool.{OnTrue_from}
use Rattle.summary_chart.proofs.SameU.{same_words}
use Rattle.summary_chart.proofs.same_effect.are_same.Goals as goal

pub returns : goal.returns
returns c =
    OnTrue_from c.is_eq.result (c.args.left.now ≡ c.args.right.now)
    (λ equal. same_words c.args.left.now c.args.right.now c.compare_letters.result c.compare_letters.ensures c.is_eq.result c.is_eq.ensures equal)
