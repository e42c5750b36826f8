-- The steps have the keys of the answer.
use Rattle.std.proofs.lemmas.Result.{IfOk-weaker}
use Rattle.search_split.proofs.CurrentFronts.{front_of_current}
use Rattle.search_split.proofs.fronts.front_at.Goals as goal

pub returns-in-Some : goal.returns-in-Some
returns-in-Some g c = record {
  ok = IfOk-weaker c.front_of.result _ _
      (λ front taken. front_of_current c.args.search.now c.args.depth c.in-Some.steps.now front.items c.in-Some.ensures.answer taken) c.front_of.ensures.ok;
}
