-- Each block is served after those before it; where it stops, the blocks before are written, and a prefix of the next. Where the
-- texts of the rules find no memory, no block is.
use Rattle.std.proofs.Common.{◌≡◌, ℕ, length, subst, arith, ◌∙◌, refl, rules}
use Rattle.text_line.specs.Values.{scheme_of}
use Rattle.batch_reader.proofs.ServedLines.{HasServedSoFar, served_none, served_all, served_more, stopped_before, stopped_within}
use Rattle.batch_reader.proofs.batch.Batch.serve.Goals as goal
use Rattle.list_laws.proofs.Booleans.{on_err}

pub returns-in_err-rule_texts-clause-prefix : goal.returns-in_err-rule_texts-clause-prefix
returns-in_err-rule_texts-clause-prefix g c = on_err c.from_residual.result _ (stopped_before _ _ _ _ _ _ _ _ (served_none _ _ _ _ _))

pub loop-rest-init : goal.loop-rest-init
loop-rest-init g c = record { served = served_none _ _ _ _ _; faults = refl }

pub returns-clause-ok : goal.returns-clause-ok
returns-clause-ok g c =
    let none : length c.loop-rest.rest.now ≡ 0 = search rules in served_all _ _ _ _ _ _ _ _ c.loop-rest.invariant.served none

pub returns-in_err-lines-clause-prefix : goal.returns-in_err-lines-clause-prefix
returns-in_err-lines-clause-prefix g c =
    on_err c.from_residual-in_err-lines.result _ (stopped_before _ _ _ _ _ _ _ _ c.loop-rest.invariant.served)

pub returns-in_err-pieces-clause-prefix : goal.returns-in_err-pieces-clause-prefix
returns-in_err-pieces-clause-prefix g c =
    on_err c.from_residual-in_err-pieces.result _ (stopped_before _ _ _ _ _ _ _ _ c.loop-rest.invariant.served)

pub returns-in_err-write_replies-clause-prefix : goal.returns-in_err-write_replies-clause-prefix
returns-in_err-write_replies-clause-prefix g c =
    on_err c.from_residual-in_err-write_replies.result _ (stopped_within _ _ _ _ _ _ _ _ c.loop-rest.invariant.served c.in_ok-lines.lines.items
    c.in_ok-lines.following.now _ c.in_ok-lines.ensures (rw c.as_slice.ensures.value at c.in_ok-pieces.ensures) _
    (rw c.as_slice-in-loop-rest.ensures.value at c.in_err-write_replies.ensures.prefix))

pub loop-rest-preserved : goal.loop-rest-preserved
loop-rest-preserved g c = record {
  served = subst (λ (n : ℕ). HasServedSoFar c.args.self.now.lexicon.now.lexicon (scheme_of c.args.self.now.scheme) c.args.self.now.count n c.args.text.now
      c.in_ok-lines.following.now (g.O.Sink.written c.args.sink.now) (g.O.Sink.written c.write_replies.new.sink))
      (omega (arith, c.len.ensures, c.in_ok-lines.lines.ok))
      (served_more _ _ _ _ _ _ _ _ c.loop-rest.invariant.served c.in_ok-lines.lines.items c.in_ok-lines.following.now _ c.in_ok-lines.ensures
      (rw c.as_slice.ensures.value at c.in_ok-pieces.ensures) _ (rw c.as_slice-in-loop-rest.ensures.value at c.in_ok-write_replies.ensures.ok));
  faults = c.in_ok-write_replies.ensures.faults ∙ c.loop-rest.invariant.faults;
}
