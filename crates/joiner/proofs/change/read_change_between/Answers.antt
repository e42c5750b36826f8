-- `+` is no change; a rule between brackets is taken where it is inner.
use Rattle.std.proofs.Common.{◌≡◌, true}
use Rattle.std.proofs.lemmas.Result.{err_from_is_err_and}
use Rattle.joiner.specs.Triples.{words_of}
use Rattle.joiner.proofs.HandedOn.{handed_on}
use Rattle.joiner.proofs.PartsRead.{unchanged, between_refused, between_final, between_read}
use Rattle.joiner.proofs.change.read_change_between.Goals as goal

pub returns-then-eq : goal.returns-then-eq
returns-then-eq c = unchanged c.args.text.now c.as_slice.result.now c.eq.result c.eq.ensures c.as_slice.ensures c.if-eq.true

pub returns-in_err-triple : goal.returns-in_err-triple
returns-in_err-triple c =
    let p = err_from_is_err_and c.from_residual.result c.from_residual.ensures.1 in
    rw (p.1, p.2) (handed_on _ _ _ _ c.in_err-triple.field-0.0 _ _ c.in_err-triple.ensures
    (between_refused c.args.text.now c.as_slice.result.now c.eq.result c.eq.ensures c.as_slice.ensures c.if-eq.false))

pub returns-then-is_empty : goal.returns-then-is_empty
returns-then-is_empty c =
    between_final c.args.text.now c.as_slice.result.now c.eq.result c.eq.ensures c.as_slice.ensures c.if-eq.false (words_of c.in_ok-triple.triple)
    c.in_ok-triple.ensures (c.is_empty.ensures.0 c.if-is_empty.true)

pub returns-else-is_empty : goal.returns-else-is_empty
returns-else-is_empty c =
    between_read c.args.text.now c.as_slice.result.now c.eq.result c.eq.ensures c.as_slice.ensures c.if-eq.false (words_of c.in_ok-triple.triple)
    c.in_ok-triple.ensures
    (λ none. let t : c.is_empty.result ≡ true = c.is_empty.ensures.1 none in let f = c.if-is_empty.false in absurd (cc))
