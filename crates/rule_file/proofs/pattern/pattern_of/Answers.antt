-- The notation is read part by part.
use Rattle.std.proofs.Common.{◌≡◌, None}
use Rattle.std.proofs.lemmas.Result.{err_from_is_err_and}
use Rattle.text_definitions.specs.Slp1.{word_of_slp1}
use Rattle.rule_file_definitions.specs.EntryWhys.{Why, Spelling}
use Rattle.rule_file_definitions.specs.RuleNotations.{gap_of, pattern_of}
use Rattle.rule_file.specs.Held.{word_of}
use Rattle.rule_file.specs.Written.{part_of, written}
use Rattle.rule_file.proofs.FaultLemmas.{with_why}
use Rattle.rule_file.proofs.NotationLemmas.{unread_x, unread_u, unread_v, unread_w, all_read}
use Rattle.rule_file.proofs.pattern.pattern_of.Goals as goal

pub returns-in_err-x-clause-why : goal.returns-in_err-x-clause-why
returns-in_err-x-clause-why c =
    let p = err_from_is_err_and c.from_residual.result c.from_residual.ensures.1 in
    rw (p.1, p.2)
    (with_why c.in_err-x.field-0.0 (λ (why : Why). (why ≡ Spelling) × (None ≡ word_of (word_of_slp1 c.args.notation.now.x.now))) (λ (why : Why). (why ≡ Spelling) × (None ≡ pattern_of (written c.args.notation.now)))
    (λ why h. (h.0, unread_x (written c.args.notation.now) h.1)) c.in_err-x.ensures.why)

pub returns-in_err-u-clause-why : goal.returns-in_err-u-clause-why
returns-in_err-u-clause-why c =
    let p = err_from_is_err_and c.from_residual-in_err-u.result c.from_residual-in_err-u.ensures.1 in
    rw (p.1, p.2)
    (with_why c.in_err-u.field-0.0 (λ (why : Why). (why ≡ Spelling) × (None ≡ word_of (word_of_slp1 c.args.notation.now.u.now))) (λ (why : Why). (why ≡ Spelling) × (None ≡ pattern_of (written c.args.notation.now)))
    (λ why h. (h.0, unread_u (written c.args.notation.now) h.1)) c.in_err-u.ensures.why)

pub returns-in_err-v-clause-why : goal.returns-in_err-v-clause-why
returns-in_err-v-clause-why c =
    let p = err_from_is_err_and c.from_residual-in_err-v.result c.from_residual-in_err-v.ensures.1 in
    rw (p.1, p.2)
    (with_why c.in_err-v.field-0.0 (λ (why : Why). (why ≡ Spelling) × (None ≡ gap_of (part_of c.args.notation.now.v))) (λ (why : Why). (why ≡ Spelling) × (None ≡ pattern_of (written c.args.notation.now)))
    (λ why h. (h.0, unread_v (written c.args.notation.now) h.1)) c.in_err-v.ensures.why)

pub returns-in_err-w-clause-why : goal.returns-in_err-w-clause-why
returns-in_err-w-clause-why c =
    let p = err_from_is_err_and c.from_residual-in_err-w.result c.from_residual-in_err-w.ensures.1 in
    rw (p.1, p.2)
    (with_why c.in_err-w.field-0.0 (λ (why : Why). (why ≡ Spelling) × (None ≡ gap_of (part_of c.args.notation.now.w))) (λ (why : Why). (why ≡ Spelling) × (None ≡ pattern_of (written c.args.notation.now)))
    (λ why h. (h.0, unread_w (written c.args.notation.now) h.1)) c.in_err-w.ensures.why)

pub returns-clause-ok : goal.returns-clause-ok
returns-clause-ok c = all_read (written c.args.notation.now) _ _ _ _ c.in_ok-x.ensures.ok c.in_ok-u.ensures.ok c.in_ok-v.ensures.ok c.in_ok-w.ensures.ok
