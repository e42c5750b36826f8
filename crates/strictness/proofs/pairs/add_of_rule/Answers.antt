-- The rules after are gone over, rising; each with which the two are longer than the form is taken.
use Rattle.std.proofs.Common.{◌≡◌, ◌+◌, get_or, refl}
use Rattle.std.specs.Ordering.{nat_cmp}
use Rattle.std.proofs.lemmas.List.Elements.{Contains-get_or}
use Rattle.strictness.specs.Matches.{EndsForm}
use Rattle.strictness.specs.Appending.{AppendsFirst}
use Rattle.strictness.specs.declared.found.Found.{Found}
use Rattle.strictness.proofs.AppendedFirsts.{appends_full}
use Rattle.strictness.proofs.KeyLoops.{HasKeyAmong, no_key, key_more, all_keys}
use Rattle.strictness.proofs.FormOverlaps.{HasBefore, rises_after, takes_pair, leaves_pair}
use Rattle.strictness.proofs.pairs.add_of_rule.Goals as goal
use Rattle.strictness.proofs.pairs.add_of_rule.Goals.{then-are_longer+in_ok-copy+in_ok-take, else-are_longer}

pub returns-then-is_full : goal.returns-then-is_full
returns-then-is_full c = record {
  ok = appends_full (HasBefore c.args.rules.now c.args.phase c.args.form.now c.args.before) c.args.found.now c.args.found.now
      (c.is_full.ensures.0 c.if-is_full.true) refl refl;
}

pub loop-after-init : goal.loop-after-init
loop-after-init c =
    no_key nat_cmp (λ x. x.after) (HasBefore c.args.rules.now c.args.phase c.args.form.now c.args.before) c.args.afters.now c.args.found.now

pub are_longer-requires-clause-after : goal.are_longer-requires-clause-after
are_longer-requires-clause-after c =
    let ends : EndsForm c.args.rules.now c.args.phase c.args.form.now (get_or c.args.afters.now c.loop-after.after-index 0) =
    c.requires.afters.only (get_or c.args.afters.now c.loop-after.after-index 0) (Contains-get_or c.args.afters.now c.loop-after.after-index 0 c.loop-after-test.true) in
    ends.rule.1

pub loop-after-preserved : goal.loop-after-preserved
loop-after-preserved c =
    let rules = c.args.rules.now in
    let phase = c.args.phase in
    let form = c.args.form.now in
    let before = c.args.before in
    let keys = c.args.afters.now in
    let i = c.loop-after.after-index in
    let after = get_or keys i 0 in
    let further : (new : Found) → AppendsFirst (λ x. HasBefore rules phase form before x × (x.after ≡ after)) c.loop-after.found new
    → AppendsFirst (HasKeyAmong (λ x. x.after) (HasBefore rules phase form before) keys (i + 1)) c.args.found.now new =
    λ new these. key_more nat_cmp (λ x. x.after) (HasBefore rules phase form before) (rises_after rules phase form before) keys i 0
    c.args.found.now c.loop-after.found new c.requires.afters.rising c.loop-after-test.true c.loop-after.invariant these in
    elim c.if-are_longer.branch [
      | then-are_longer+in_ok-copy+in_ok-take w ↦
          rw w.found-is
          (further w.take.new.self
          (takes_pair rules phase form before after (record { phase = phase; form = w.in_ok-copy.field-0; before = before; after = after })
          c.loop-after.found w.take.new.self c.requires.before
          (c.requires.afters.only after (Contains-get_or keys i 0 c.loop-after-test.true)) (c.are_longer.ensures.0 w.if-are_longer.true)
          refl w.in_ok-copy.ensures refl refl w.in_ok-take.ensures.ok))
      | else-are_longer w ↦
          rw w.found-is
          (further c.loop-after.found
          (leaves_pair rules phase form before after c.loop-after.found
          (λ longer. let yes = c.are_longer.ensures.1 longer in let no = w.if-are_longer.false in absurd (cc))))
    ]

pub returns : goal.returns
returns c = record {
  ok = all_keys nat_cmp (λ x. x.after) (HasBefore c.args.rules.now c.args.phase c.args.form.now c.args.before) c.args.afters.now c.loop-after.after-index
      c.args.found.now c.loop-after.found c.loop-after-test.false (λ x h. c.requires.afters.complete x.after h.0.ends) c.loop-after.invariant;
}
