-- What is kept besides is what the walk on from the front gave.
use Rattle.std.proofs.Common.{inl, inr, sym, ap, subst, arith}
use Rattle.std.proofs.lemmas.Result.{on_ok_weaker}
use Rattle.summary_chart.specs.declared.walk_memo.Walked.{Walked}
use Rattle.summary_chart.specs.Walked.{IsWalkFrom, KeepsWalked}
use Rattle.summary_chart.proofs.gathering.keep_walk.Goals as goal

pub returns-clause-keeps : goal.returns-clause-keeps
returns-clause-keeps g c =
    let here = c.args.here in
    let front = c.args.front.now in
    on_ok_weaker c.keep.result
    (λ (keeps : KeepsWalked c.from.result c.args.living c.args.walks.now c.keep.new.self) walked kept. elim (keeps walked kept) [
      | inl was ↦ inl was
      | inr same ↦ inr (record {
        shared = c.if-not-shares.false;
        some = omega (arith, c.if-front-eq0.false);
        from = subst (λ (w : Walked). IsWalkFrom here front w.walk) (sym same) c.from.ensures;
        gave = ap (λ (w : Walked). w.states) same;
      })
    ])
    c.keep.ensures
