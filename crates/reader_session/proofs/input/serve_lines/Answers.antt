-- Each way to end, from what was served of the bytes that were taken before it.
use Rattle.std.proofs.Common.{◌≡◌, ◌≢◌, ℕ, ◌-◌, take, refl, sym, ◌∙◌, subst, arith, rules}
use Rattle.std.proofs.lemmas.List.Elements.{All-nil}
use Rattle.outside.specs.declared.sink.WriteError.{WriteError}
use Rattle.outside.specs.declared.sink.WriteError.TheVariants as write
use Rattle.reader_session.specs.declared.serve_end.ServeEnd.TheVariants as end
use Rattle.reader_session.specs.Served.{IsEnd}
use Rattle.reader_session.specs.Serving.{HasNoEnd, end_at}
use Rattle.reader_session.proofs.ServedInputs.{IsServing, serving_none}
use Rattle.reader_session.proofs.TakenPieces.{has_taken, piece_stopped, piece_front, piece_over, piece_too_long, piece_served, read_failed, replied, rest_stopped, rest_front, rest_served}
use Rattle.reader_session.proofs.input.serve_lines.Goals as goal

pub loop-count-init : goal.loop-count-init
loop-count-init g c = record {
  serving = λ input told. serving_none c.args.session.now.searched input c.args.session.now c.new-rest.result.items (g.O.Sink.written c.args.sink.now) (g.I.Source.left c.args.source.now) (λ i. record { searched = c.args.session.now.searched; state = c.requires i }) c.new-rest.ensures.items told;
  no_end = subst HasNoEnd (sym c.new-rest.ensures.items) (All-nil (λ byte. byte ≢ 10));
  room = search rules;
  faults = refl;
  read_faults = refl;
}

pub returns-in_default-clause-prefix : goal.returns-in_default-clause-prefix
returns-in_default-clause-prefix g c input told =
    read_failed _ _ _ _ _ _ _ _ (c.loop-count.invariant.serving input told)

pub returns-in_default-clause-replies : goal.returns-in_default-clause-replies
returns-in_default-clause-replies g c fault input old told written =
    replied _ _ _ _ _ _ _ _ (c.loop-count.invariant.serving input told) old _ c.in_default.ensures.unchanged c.loop-count.invariant.no_end written

-- ---- the end of the input

-- an error of the sink is no end of a session, and no fault of the source
no_end : (error : WriteError) → IsEnd (end_at error) → ⊥
no_end write.Failed is_end = is_end
no_end write.Memory is_end = is_end

no_read_fault : (error : WriteError) → end_at error ≡ end.ReadFault → ⊥
no_read_fault write.Failed fault = cc
no_read_fault write.Memory fault = cc

pub returns-in-Err-clause-session : goal.returns-in-Err-clause-session
returns-in-Err-clause-session g c is_end = absurd (no_end c.in-Err.error (subst IsEnd c.end_by.ensures is_end))

pub returns-in-Err-clause-replies : goal.returns-in-Err-clause-replies
returns-in-Err-clause-replies g c fault = absurd (no_read_fault c.in-Err.error (sym c.end_by.ensures ∙ fault))

pub returns-in-Err-clause-prefix : goal.returns-in-Err-clause-prefix
returns-in-Err-clause-prefix g c input told =
    let ended = c.in-Ok.ensures.end c.if-count-eq0.true in
    rest_stopped _ _ _ _ _ _ _ _ (c.loop-count.invariant.serving input told) _ ended (rw c.deref.ensures.value at c.in-Err.ensures.stopped)

pub returns-then-count-eq0-clause-session : goal.returns-then-count-eq0-clause-session
returns-then-count-eq0-clause-session g c is_end input old told written =
    let ended = c.in-Ok.ensures.end c.if-count-eq0.true in
    rest_served _ _ _ _ _ _ _ _ (c.loop-count.invariant.serving input told) _ _ _ old ended (rw c.deref.ensures.value at c.in_default-serve_rest.ensures.ok) written

pub returns-then-count-eq0-clause-prefix : goal.returns-then-count-eq0-clause-prefix
returns-then-count-eq0-clause-prefix g c input told =
    let ended = c.in-Ok.ensures.end c.if-count-eq0.true in
    rest_front _ _ _ _ _ _ _ _ (c.loop-count.invariant.serving input told) _ _ _ ended (rw c.deref.ensures.value at c.in_default-serve_rest.ensures.ok)

-- ---- a piece

pub returns-in-Err-serve_piece-clause-session : goal.returns-in-Err-serve_piece-clause-session
returns-in-Err-serve_piece-clause-session g c is_end =
    absurd (no_end c.in-Err-serve_piece.error (subst IsEnd c.end_by-in-Err-serve_piece.ensures is_end))

pub returns-in-Err-serve_piece-clause-replies : goal.returns-in-Err-serve_piece-clause-replies
returns-in-Err-serve_piece-clause-replies g c fault =
    absurd (no_read_fault c.in-Err-serve_piece.error (sym c.end_by-in-Err-serve_piece.ensures ∙ fault))

pub returns-in-Err-serve_piece-clause-prefix : goal.returns-in-Err-serve_piece-clause-prefix
returns-in-Err-serve_piece-clause-prefix g c input told =
    let piece = take c.min-within.result c.read.new.buf in
    let taken = has_taken _ _ _ piece _ _ _ _ _ _ _ _ _ (c.loop-count.invariant.serving input told) c.in-Ok.ensures.ok refl c.min-within.ensures c.in-Ok.ensures.bound in
    piece_stopped _ _ _ _ _ _ _ _ _ _ _ taken c.in-Err-serve_piece.ensures.stopped

pub returns-in-Ok-Over-clause-session : goal.returns-in-Ok-Over-clause-session
returns-in-Ok-Over-clause-session g c is_end input old told written =
    let piece = take c.min-within.result c.read.new.buf in
    let taken = has_taken _ _ _ piece _ _ _ _ _ _ _ _ _ (c.loop-count.invariant.serving input told) c.in-Ok.ensures.ok refl c.min-within.ensures c.in-Ok.ensures.bound in
    piece_over _ _ _ _ _ _ _ _ _ _ _ taken _ _ old (rw c.in-Ok-Over.field-0-is at c.in-Ok-Over.ensures.ok) written

pub returns-in-Ok-Over-clause-prefix : goal.returns-in-Ok-Over-clause-prefix
returns-in-Ok-Over-clause-prefix g c input told =
    let piece = take c.min-within.result c.read.new.buf in
    let taken = has_taken _ _ _ piece _ _ _ _ _ _ _ _ _ (c.loop-count.invariant.serving input told) c.in-Ok.ensures.ok refl c.min-within.ensures c.in-Ok.ensures.bound in
    piece_front _ _ _ _ _ _ _ _ _ _ _ taken _ _ _ c.in-Ok-Over.ensures.ok

pub returns-then-within-count-clause-session : goal.returns-then-within-count-clause-session
returns-then-within-count-clause-session g c is_end input old told written =
    let piece = take c.min-within.result c.read.new.buf in
    let taken = has_taken _ _ _ piece _ _ _ _ _ _ _ _ _ (c.loop-count.invariant.serving input told) c.in-Ok.ensures.ok refl c.min-within.ensures c.in-Ok.ensures.bound in
    let least = c.min-within.ensures in
    piece_too_long _ _ _ _ _ _ _ _ _ _ _ taken _ _ old (rw c.in-Ok-Open.field-0-is at c.in-Ok-Open.ensures.ok) (omega arith) (omega arith) written

pub returns-then-within-count-clause-prefix : goal.returns-then-within-count-clause-prefix
returns-then-within-count-clause-prefix g c input told =
    let piece = take c.min-within.result c.read.new.buf in
    let taken = has_taken _ _ _ piece _ _ _ _ _ _ _ _ _ (c.loop-count.invariant.serving input told) c.in-Ok.ensures.ok refl c.min-within.ensures c.in-Ok.ensures.bound in
    piece_front _ _ _ _ _ _ _ _ _ _ _ taken _ _ _ c.in-Ok-Open.ensures.ok

pub loop-count-preserved : goal.loop-count-preserved
loop-count-preserved g c =
    let least = c.min-within.ensures in
    let all : c.min-within.result ≡ c.in-Ok.count = omega arith in
    let piece = take c.min-within.result c.read.new.buf in
    let done = rw c.in-Ok-Open.field-0-is at c.in-Ok-Open.ensures.ok in
    record {
      serving = λ input told.
          let taken = has_taken _ _ _ piece _ _ _ _ _ _ _ _ _ (c.loop-count.invariant.serving input told) c.in-Ok.ensures.ok refl least c.in-Ok.ensures.bound in
          subst (λ (within : ℕ). IsServing c.args.session.now.searched input c.serve_piece.new.session c.serve_piece.new.rest.items (c.loop-count.allowed - within) (g.O.Sink.written c.args.sink.now) (g.I.Source.left c.read.new.self) (g.O.Sink.written c.serve_piece.new.sink)) all
          (piece_served _ _ _ _ _ _ _ _ _ _ _ taken _ _ done (omega arith));
      no_end = done.no_end refl;
      room = c.read.auto.buf ∙ c.loop-count.invariant.room;
      faults = c.in-Ok-Open.ensures.faults ∙ c.loop-count.invariant.faults;
      read_faults = c.in-Ok.ensures.faults ∙ c.loop-count.invariant.read_faults;
    }
