-- Words are compared one after the other, or their ranks, which is the same.
use Rattle.form_tags.proofs.TagOrder.{compare_tags}
use Rattle.form_tags.proofs.RankOrder.{compare_nominals, compare_verbals}
use Rattle.form_tags.proofs.tag.Tag.compare.Goals as goal

pub returns-in-Nominal-Nominal : goal.returns-in-Nominal-Nominal
returns-in-Nominal-Nominal c =
    rw (c.in-Nominal-Nominal.is-0, c.in-Nominal-Nominal.is-1, compare_nominals, ← c.rank.ensures, ← c.rank-in-Nominal-Nominal.ensures, ← c.rank-in-Nominal-Nominal-2.ensures, ← c.rank-in-Nominal-Nominal-3.ensures, ← c.rank-in-Nominal-Nominal-4.ensures, ← c.rank-in-Nominal-Nominal-5.ensures) c.cmp.ensures

pub returns-in-Verbal-Verbal : goal.returns-in-Verbal-Verbal
returns-in-Verbal-Verbal c =
    rw (c.in-Verbal-Verbal.is-0, c.in-Verbal-Verbal.is-1, compare_verbals, ← c.rank-in-Verbal-Verbal.ensures, ← c.rank-in-Verbal-Verbal-2.ensures, ← c.rank-in-Verbal-Verbal-3.ensures, ← c.rank-in-Verbal-Verbal-4.ensures, ← c.rank-in-Verbal-Verbal-5.ensures, ← c.rank-in-Verbal-Verbal-6.ensures, ← c.rank-in-Verbal-Verbal-7.ensures, ← c.rank-in-Verbal-Verbal-8.ensures) c.cmp-in-Verbal-Verbal.ensures

pub returns-in_default : goal.returns-in_default
returns-in_default c =
    let h = compare_tags c.args.self.now c.args.other.now in
    rw h (rw (← c.words.ensures, ← c.words-in_default.ensures, c.cmp-in_default.ensures))
