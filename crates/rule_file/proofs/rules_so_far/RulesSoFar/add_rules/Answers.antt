-- A rule with a twin ends the search for twins; after the last rule all were added.
use Rattle.std.proofs.Common.{◌≡◌, true, Err, List, [], ◌∷◌, ◌++◌, length, sym, ◌∙◌, ap, subst, append_assoc, arith}
use Rattle.std.specs.List.{list_any}
use Rattle.std.specs.Vec.Iter.{into_iter_items}
use Rattle.std.proofs.lemmas.Result.{err_from_is_err_and}
use Rattle.lexicon_definitions.specs.Rules.{Rule, is_twin}
use Rattle.rule_file_definitions.specs.EntryWhys as entries
use Rattle.rule_file_definitions.specs.RuleEntries.{have_twins, add_rules}
use Rattle.rule_file.specs.declared.entry_error.EntryError.{EntryError}
use Rattle.rule_file.specs.Faults.{IfWhy}
use Rattle.rule_file.proofs.FaultLemmas.{with_why}
use Rattle.rule_file.proofs.TripleLemmas.{twice, twins_on, over_limits, all_added}
use Rattle.rule_file.proofs.rules_so_far.RulesSoFar.add_rules.Goals as goal
use Rattle.std.proofs.lemmas.List.{nil_from_length}

pub loop-rule-preserved : goal.loop-rule-preserved
loop-rule-preserved c =
    let at = c.loop-rule in
    let steps : into_iter_items at.rule-iterator ≡ c.in-Some.rule ∷ into_iter_items c.next.new.self = c.in-Some.ensures.steps.0 in
    let twins = subst (λ (left : List Rule). have_twins at.self.rules.items left ≡ have_twins c.args.self.now.rules.items (into_iter_items c.into_iter-rule-iterator.result)) steps at.invariant.twins in
    let all = subst (λ (left : List Rule). at.self.rules.items ++ left ≡ c.args.self.now.rules.items ++ into_iter_items c.into_iter-rule-iterator.result) steps at.invariant.all in
    let pushed = c.in_ok-add_rule.ensures.rules in
    record {
      kept = c.in_ok-add_rule.ensures.kept;
      twins = twins_on at.self.rules.items (into_iter_items c.next.new.self) c.in-Some.rule c.add_rule.new.self.rules.items _ c.in_ok-add_rule.ensures.is_new pushed twins;
      all = ap (λ (rules : List Rule). rules ++ into_iter_items c.next.new.self) pushed ∙ append_assoc at.self.rules.items (c.in-Some.rule ∷ []) (into_iter_items c.next.new.self) ∙ all;
      count = let was = at.invariant.count in let gone = c.in-Some.ensures.steps.1 in let short = ap length steps in omega arith;
    }

pub returns-in_err-add_rule-clause-why : goal.returns-in_err-add_rule-clause-why
returns-in_err-add_rule-clause-why c =
    let at = c.loop-rule in
    let steps : into_iter_items at.rule-iterator ≡ c.in-Some.rule ∷ into_iter_items c.next.new.self = c.in-Some.ensures.steps.0 in
    let twins = subst (λ (left : List Rule). have_twins at.self.rules.items left ≡ have_twins c.args.self.now.rules.items (into_iter_items c.into_iter-rule-iterator.result)) steps at.invariant.twins ∙ ap (have_twins c.args.self.now.rules.items) c.into_iter-rule-iterator.ensures.into_iter_gives.0 in
    let p = err_from_is_err_and c.from_residual.result c.from_residual.ensures.1 in
    rw (p.1, p.2)
    (with_why c.in_err-add_rule.field-0.0 (λ (why : entries.Why). (why ≡ entries.Twice) × (list_any (is_twin c.in-Some.rule) at.self.rules.items ≡ true))
    (λ (why : entries.Why). add_rules c.args.self.now.rules.items c.args.more.items ≡ Err why)
    (λ why h. twice c.args.self.now.rules.items c.args.more.items at.self.rules.items (into_iter_items c.next.new.self) c.in-Some.rule twins h.1 ∙ ap Err (sym h.0)) c.in_err-add_rule.ensures.twice)

pub returns-then-pass_limits-clause-why : goal.returns-then-pass_limits-clause-why
returns-then-pass_limits-clause-why c =
    let at = c.loop-rule in
    let none : into_iter_items at.rule-iterator ≡ [] = nil_from_length (into_iter_items at.rule-iterator) (sym at.invariant.count ∙ c.in-None.ensures.steps.0) in
    let twins = subst (λ (left : List Rule). have_twins at.self.rules.items left ≡ have_twins c.args.self.now.rules.items (into_iter_items c.into_iter-rule-iterator.result)) none at.invariant.twins ∙ ap (have_twins c.args.self.now.rules.items) c.into_iter-rule-iterator.ensures.into_iter_gives.0 in
    let all = subst (λ (left : List Rule). at.self.rules.items ++ left ≡ c.args.self.now.rules.items ++ into_iter_items c.into_iter-rule-iterator.result) none at.invariant.all ∙ ap (λ (more : List Rule). c.args.self.now.rules.items ++ more) c.into_iter-rule-iterator.ensures.into_iter_gives.0 in
    subst (λ (error : EntryError). IfWhy error (λ why. add_rules c.args.self.now.rules.items c.args.more.items ≡ Err why)) (sym c.into.ensures)
    (over_limits c.args.self.now.rules.items c.args.more.items at.self.rules.items twins all (sym c.pass_limits.ensures ∙ c.if-pass_limits.true))

pub returns-clause-ok : goal.returns-clause-ok
returns-clause-ok c =
    let at = c.loop-rule in
    let none : into_iter_items at.rule-iterator ≡ [] = nil_from_length (into_iter_items at.rule-iterator) (sym at.invariant.count ∙ c.in-None.ensures.steps.0) in
    let twins = subst (λ (left : List Rule). have_twins at.self.rules.items left ≡ have_twins c.args.self.now.rules.items (into_iter_items c.into_iter-rule-iterator.result)) none at.invariant.twins ∙ ap (have_twins c.args.self.now.rules.items) c.into_iter-rule-iterator.ensures.into_iter_gives.0 in
    let all = subst (λ (left : List Rule). at.self.rules.items ++ left ≡ c.args.self.now.rules.items ++ into_iter_items c.into_iter-rule-iterator.result) none at.invariant.all ∙ ap (λ (more : List Rule). c.args.self.now.rules.items ++ more) c.into_iter-rule-iterator.ensures.into_iter_gives.0 in
    all_added c.args.self.now.rules.items c.args.more.items at.self.rules.items twins all (sym c.pass_limits.ensures ∙ c.if-pass_limits.false)
