-- One link more: what it takes and its w are appended.
use Rattle.std.proofs.Common.{◌≡◌, ◌≤◌, ◌+◌, [], drop, length, sym, ap, subst}
use Rattle.lexicon_definitions.specs.Lexicons.{rule_of}
use Rattle.segmentation_definitions.specs.Derivations.{Step, Covers}
use Rattle.joiner.proofs.LinkSteps.{left_at, covered_next, whole_next}
use Rattle.joiner.proofs.writing.covered_word.Goals as goal

pub loop-link-preserved : goal.loop-link-preserved
loop-link-preserved c =
    let rules = c.args.rules.now in
    let steps = c.args.links.now in
    let i = c.loop-link.link-index in
    let step = c.link-item.result in
    let rest = drop (i + 1) steps in
    let left = left_at steps i step c.loop-link-test.true c.link-item.is in
    let number : step.rule ≡ c.link.inside.rule = sym (ap (λ (s : Step). s.rule) c.link.view_is) in
    let kept = c.loop-link.invariant in
    let pushed = c.in_ok-push_link.ensures.ok in
    let short : step.rule ≤ length rules.rules = subst (λ (s : Step). s.rule ≤ length rules.rules) (sym c.link-item.is) (c.requires.rules i step c.loop-link-test.true) in
    let covered = covered_next rules c.loop-link.before step (drop i steps) rest left kept.covered in
    let whole = whole_next rules c.loop-link.before step steps (drop i steps) rest c.loop-link.word pushed.0 c.push_link.new.word left kept.whole pushed.1 pushed.2 in
    record {
      before = subst (λ n. n ≤ length rules.rules) number short;
      covered = (covered.0, subst (λ n. Covers rules (rule_of rules n).v rest covered.0 []) number covered.1);
      whole = λ following covers. whole following (subst (λ n. Covers rules (rule_of rules n).v rest following []) (sym number) covers);
    }
