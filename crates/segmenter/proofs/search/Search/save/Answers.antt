-- A copy stands where the original does.
use Rattle.std.proofs.Common.{subst}
use Rattle.std.specs.Result.{IfOk}
use Rattle.std.proofs.lemmas.Result.{IfOk-weaker}
use Rattle.segmenter.specs.Searches.{StandsWhere}
use Rattle.segmenter.proofs.SearchStacks.{copy_stands}
use Rattle.segmenter.proofs.search.Search.save.Goals as goal

pub returns : goal.returns
returns g c =
    let s = c.self.inside in
    record {
      ok = subst (λ search. IfOk c.copy.result (StandsWhere search)) c.self.view_is
          (IfOk-weaker c.copy.result _ _ (λ copy is. copy_stands s.space.lexicon.now s.space.line.now s.stack copy is s.space.choices.now c.self.invariant.2) c.copy.ensures.ok);
    }
