-- The two parts tell what the line asks for.
use Rattle.std.proofs.Common.{◌≡◌, IfOk, subst}
use Rattle.reader_session.specs.Meant.{request_meant}
use Rattle.reader_session.proofs.CutLemmas.{asked}
use Rattle.reader_session.proofs.request.read_request.Goals as goal

pub returns-clause-ok : goal.returns-clause-ok
returns-clause-ok c =
    subst (λ meant. IfOk c.request_with.result (λ request. request_meant request ≡ meant))
    (asked c.args.line.now _ _ c.word_and_rest.ensures.word c.word_and_rest.ensures.rest) c.request_with.ensures.ok
