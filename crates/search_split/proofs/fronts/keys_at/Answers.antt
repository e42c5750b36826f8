-- The steps have the keys of the answer.
use Rattle.std.proofs.lemmas.Result.{IfOk-weaker}
use Rattle.search_split.proofs.CurrentFronts.{keys_of_current}
use Rattle.search_split.proofs.fronts.keys_at.Goals as goal

pub returns-in-Some : goal.returns-in-Some
returns-in-Some g c = record {
  ok = IfOk-weaker c.keys_of.result _ _ (λ keys taken. keys_of_current c.args.search.now c.in-Some.steps.now keys.items c.in-Some.ensures.answer taken)
      c.keys_of.ensures.ok;
}
