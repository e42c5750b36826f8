-- The front decides.
use Rattle.std.proofs.lemmas.Result.{err_from_is_err_and}
use Rattle.lexicon_file.proofs.AnswerLemmas.{limited_taken, limited_refused}
use Rattle.lexicon_file.proofs.told.TrieTold.take_limited.Goals as goal

pub returns-in_err-take_limited : goal.returns-in_err-take_limited
returns-in_err-take_limited c =
    let p = err_from_is_err_and c.from_residual.result c.from_residual.ensures.1 in
    rw (p.1, p.2)
    (limited_refused (Unit {0}) (Unit {0}) _ c.args.self.now _ c.args.rule c.in_err-take_limited.field-0.0 c.take_limited.new.self c.self.view_is c.in_err-take_limited.ensures)

pub returns : goal.returns
returns c = limited_taken _ c.args.self.now c.args.rule c.take_limited.new.self c.self.view_is c.in_ok-take_limited.ensures
