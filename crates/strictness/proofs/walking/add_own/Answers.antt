-- The overlaps in the front, where a form ends at the node.
use Rattle.strictness.proofs.WalkedForms.{no_own, own_appended}
use Rattle.strictness.proofs.walking.add_own.Goals as goal

pub returns-then-not-accepts : goal.returns-then-not-accepts
returns-then-not-accepts c = record {
  ok = no_own c.args.walk.now.rules.now c.args.walk.now.store.now.rows c.args.walk.now.phase c.args.front.now c.args.node c.args.found.now
      (λ some. let yes = c.accepts.ensures.1 some in let no = c.if-not-accepts.true in absurd (cc));
}

pub returns : goal.returns
returns c = record {
  ok = own_appended c.args.walk.now.rules.now c.args.walk.now.store.now.rows c.args.walk.now.phase c.args.front.now c.args.node c.args.found.now c.add_of_form.new.found c.add_of_form.result
      (c.accepts.ensures.0 c.if-not-accepts.false) c.add_of_form.ensures.ok;
}
