-- The rules before are gone over, rising; what each appends has it before the form.
use Rattle.std.proofs.Common.{◌≡◌, ◌+◌, ◌≤◌, length, vec_len, get_or, refl, sym, subst, ◌∙◌, arith}
use Rattle.std.specs.List.{All}
use Rattle.std.proofs.lemmas.Bool.{eqb-true}
use Rattle.std.proofs.lemmas.List.Elements.{Contains-get_or}
use Rattle.list_laws.specs.Firsts.{AreAll}
use Rattle.list_laws.proofs.Sorted.{All-from_Contains}
use Rattle.std.specs.Ordering.{nat_cmp}
use Rattle.lexicon_definitions.specs.Lexicons.{rule_of}
use Rattle.strictness.specs.Appending.{AppendsFirst}
use Rattle.strictness.specs.declared.found.Found.{Found}
use Rattle.strictness.specs.Matches.{BeginsForm, EndsForm, IsInForm}
use Rattle.strictness.proofs.AppendedFirsts.{appends_full}
use Rattle.strictness.proofs.KeyLoops.{HasKeyAmong, no_key, key_more, all_keys}
use Rattle.strictness.proofs.FormOverlaps.{HasBefore, rises_before, leaves_rule, none_in_long, none_without}
use Rattle.strictness.proofs.pairs.add_of_form.Goals as goal
use Rattle.strictness.proofs.pairs.add_of_form.Goals.{then-reaches_over+in_ok-add_of_rule, else-reaches_over}

pub returns-then-is_full : goal.returns-then-is_full
returns-then-is_full c = record {
  ok = appends_full (IsInForm c.args.rules.now c.args.phase c.args.form.now) c.args.found.now c.args.found.now
      (c.is_full.ensures.0 c.if-is_full.true) refl refl;
}

pub returns-then-len : goal.returns-then-len
returns-then-len c = record {
  ok = none_in_long c.args.rules.now c.args.phase c.args.form.now c.args.found.now c.requires.letters.limits
      (omega (arith, c.len.ensures.value, c.if-len.true));
}

pub returns-then-is_empty : goal.returns-then-is_empty
returns-then-is_empty c =
    let none : vec_len c.in_ok-befores.befores ≡ 0 = eqb-true (vec_len c.in_ok-befores.befores) 0 (sym c.is_empty.ensures ∙ c.if-is_empty.true) in
    record {
      ok = none_without c.args.rules.now c.args.phase c.args.form.now c.in_ok-befores.befores.items c.args.found.now c.in_ok-befores.ensures.ok (omega (arith, c.in_ok-befores.befores.ok));
    }

pub loop-before-init : goal.loop-before-init
loop-before-init c =
    no_key nat_cmp (λ x. x.before) (IsInForm c.args.rules.now c.args.phase c.args.form.now) c.deref-before-items.result.now c.args.found.now

pub add_of_rule-requires-clause-before : goal.add_of_rule-requires-clause-before
add_of_rule-requires-clause-before c =
    let all : AreAll nat_cmp (BeginsForm c.args.rules.now c.args.phase c.args.form.now) c.deref-before-items.result.now =
    subst (AreAll nat_cmp (BeginsForm c.args.rules.now c.args.phase c.args.form.now)) (sym c.deref-before-items.ensures.value) c.in_ok-befores.ensures.ok in
    all.only (get_or c.deref-before-items.result.now c.loop-before.before-index 0)
    (Contains-get_or c.deref-before-items.result.now c.loop-before.before-index 0 c.loop-before-test.true)

pub longest_u-longest-requires : goal.longest_u-longest-requires
longest_u-longest-requires c =
    let rules = c.args.rules.now in
    subst (All (λ n. n ≤ length rules.rules)) (sym c.deref.ensures.value)
    (All-from_Contains (λ n. n ≤ length rules.rules) c.in_ok-afters.afters.items
    (λ n m. let ends : EndsForm rules c.args.phase c.args.form.now n = c.in_ok-afters.ensures.ok.only n m in ends.rule.1))

pub reaches_over-requires-clause-before : goal.reaches_over-requires-clause-before
reaches_over-requires-clause-before c =
    let all : AreAll nat_cmp (BeginsForm c.args.rules.now c.args.phase c.args.form.now) c.deref-before-items.result.now =
    subst (AreAll nat_cmp (BeginsForm c.args.rules.now c.args.phase c.args.form.now)) (sym c.deref-before-items.ensures.value) c.in_ok-befores.ensures.ok in
    let begins : BeginsForm c.args.rules.now c.args.phase c.args.form.now (get_or c.deref-before-items.result.now c.loop-before.before-index 0) =
    all.only (get_or c.deref-before-items.result.now c.loop-before.before-index 0)
    (Contains-get_or c.deref-before-items.result.now c.loop-before.before-index 0 c.loop-before-test.true) in
    begins.rule.1

pub loop-before-preserved : goal.loop-before-preserved
loop-before-preserved c =
    let rules = c.args.rules.now in
    let phase = c.args.phase in
    let form = c.args.form.now in
    let keys = c.deref-before-items.result.now in
    let i = c.loop-before.before-index in
    let before = get_or keys i 0 in
    let all : AreAll nat_cmp (BeginsForm rules phase form) keys =
    subst (AreAll nat_cmp (BeginsForm rules phase form)) (sym c.deref-before-items.ensures.value) c.in_ok-befores.ensures.ok in
    let further : (new : Found) → AppendsFirst (HasBefore rules phase form before) c.loop-before.found new
    → AppendsFirst (HasKeyAmong (λ x. x.before) (IsInForm rules phase form) keys (i + 1)) c.args.found.now new =
    λ new these. key_more nat_cmp (λ x. x.before) (IsInForm rules phase form) (rises_before rules phase form) keys i 0
    c.args.found.now c.loop-before.found new all.rising c.loop-before-test.true c.loop-before.invariant these in
    elim c.if-reaches_over.branch [
      | then-reaches_over+in_ok-add_of_rule w ↦ rw w.found-is (further w.add_of_rule.new.found w.in_ok-add_of_rule.ensures.ok)
      | else-reaches_over w ↦
          rw w.found-is
          (further c.loop-before.found
          (leaves_rule rules phase form before c.longest_u-longest.result c.in_ok-afters.afters.items c.loop-before.found c.in_ok-afters.ensures.ok
          (subst (All (λ n. length (rule_of rules n).u ≤ c.longest_u-longest.result)) c.deref.ensures.value c.longest_u-longest.ensures.value)
          (λ over. let yes = c.reaches_over.ensures.1 over in let no = w.if-reaches_over.false in absurd (cc))))
    ]

pub returns : goal.returns
returns c =
    let all : AreAll nat_cmp (BeginsForm c.args.rules.now c.args.phase c.args.form.now) c.deref-before-items.result.now =
    subst (AreAll nat_cmp (BeginsForm c.args.rules.now c.args.phase c.args.form.now)) (sym c.deref-before-items.ensures.value) c.in_ok-befores.ensures.ok in
    record {
      ok = all_keys nat_cmp (λ x. x.before) (IsInForm c.args.rules.now c.args.phase c.args.form.now) c.deref-before-items.result.now
          c.loop-before.before-index c.args.found.now c.loop-before.found c.loop-before-test.false (λ x h. all.complete x.before h.begins)
          c.loop-before.invariant;
    }
