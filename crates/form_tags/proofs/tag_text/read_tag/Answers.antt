-- By the number of dots that were found: no dot, one, two, three or more.
use Rattle.std.proofs.lemmas.Bool.{false≢true}
use Rattle.form_tags.proofs.TagShapes.{no_dot, one_dot_apart, two_dots_apart, three_dots_apart}
use Rattle.form_tags.proofs.tag_text.read_tag.Goals as goal

pub returns-in_default-split_at_dot-clause-some : goal.returns-in_default-split_at_dot-clause-some
returns-in_default-split_at_dot-clause-some c =
    let h = no_dot c.args.text.now c.in_default-split_at_dot.ensures in
    (λ s. h.1 (c.read_lone_word.ensures.some.0 s), λ t. c.read_lone_word.ensures.some.1 (h.0 t))

pub returns-in_err-second-clause-some : goal.returns-in_err-second-clause-some
returns-in_err-second-clause-some c =
    let no_tag = one_dot_apart c.args.text.now c.in-Some-split_at_dot.first.now c.in-Some-split_at_dot.rest.now c.in-Some-split_at_dot.ensures c.in_err-second.ensures in
    (λ s. absurd (false≢true (rw c.from_residual.ensures at s)), λ t. absurd (no_tag t))

pub returns-in-None-clause-some : goal.returns-in-None-clause-some
returns-in-None-clause-some c =
    let h = two_dots_apart c.args.text.now c.in-Some-split_at_dot.first.now c.in-Some-split_at_dot.rest.now c.in_ok-second.second.now c.in_ok-second.rest.now c.in-Some-split_at_dot.ensures c.in_ok-second.ensures c.in-None.ensures in
    (λ s. h.1 (c.read_nominal.ensures.some.0 s), λ t. c.read_nominal.ensures.some.1 (h.0 t))

pub returns-in-Some-split_at_dot-2-clause-some : goal.returns-in-Some-split_at_dot-2-clause-some
returns-in-Some-split_at_dot-2-clause-some c =
    let h = three_dots_apart c.args.text.now c.in-Some-split_at_dot.first.now c.in-Some-split_at_dot.rest.now c.in_ok-second.second.now c.in_ok-second.rest.now c.in-Some-split_at_dot-2.third.now c.in-Some-split_at_dot-2.rest.now c.in-Some-split_at_dot.ensures c.in_ok-second.ensures c.in-Some-split_at_dot-2.ensures in
    (λ s. h.1 (c.read_verbal.ensures.some.0 s), λ t. c.read_verbal.ensures.some.1 (h.0 t))
