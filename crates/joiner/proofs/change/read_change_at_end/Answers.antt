-- A rule between brackets is taken where it is final.
use Rattle.std.proofs.Common.{◌≡◌, true}
use Rattle.std.proofs.lemmas.Result.{err_from_is_err_and}
use Rattle.joiner.specs.Triples.{words_of}
use Rattle.joiner.proofs.HandedOn.{handed_on}
use Rattle.joiner.proofs.PartsRead.{end_refused, end_read, end_inner}
use Rattle.joiner.proofs.change.read_change_at_end.Goals as goal

pub returns-in_err-triple : goal.returns-in_err-triple
returns-in_err-triple c =
    let p = err_from_is_err_and c.from_residual.result c.from_residual.ensures.1 in
    rw (p.1, p.2) (handed_on _ _ _ _ c.in_err-triple.field-0.0 _ _ c.in_err-triple.ensures (end_refused c.args.text.now))

pub returns-then-is_empty : goal.returns-then-is_empty
returns-then-is_empty c =
    end_read c.args.text.now (words_of c.in_ok-triple.triple) c.in_ok-triple.ensures (c.is_empty.ensures.0 c.if-is_empty.true)

pub returns-else-is_empty : goal.returns-else-is_empty
returns-else-is_empty c =
    end_inner c.args.text.now (words_of c.in_ok-triple.triple) c.in_ok-triple.ensures
    (λ none. let t : c.is_empty.result ≡ true = c.is_empty.ensures.1 none in let f = c.if-is_empty.false in absurd (cc))
