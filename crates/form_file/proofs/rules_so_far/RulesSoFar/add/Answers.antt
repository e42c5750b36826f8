-- Where no rule has the triple the rule goes last, and the triples and leads are those of the rules with it.
use Rattle.std.proofs.Common.{◌≡◌, List, [], ◌∷◌, ◌++◌, sym, ◌∙◌, ap, subst}
use Rattle.std.proofs.lemmas.Result.{err_from_is_err_and}
use Rattle.lexicon_definitions.specs.Rules.{Rule}
use Rattle.form_file.specs.Added.{AreKept, has_twin}
use Rattle.form_file.proofs.TripleLemmas.{keys_stay, rules_stay}
use Rattle.form_file.proofs.rules_so_far.RulesSoFar.add.Goals as goal

pub invariant_of-self : goal.invariant_of-self
invariant_of-self c = (
  subst (λ (rs : List Rule). AreKept rs c.make_ready.new.triples.keys c.make_ready.new.leads.keys) (sym c.make_ready.ensures.same)
      (keys_stay c.self.inside.rules.items c.args.rule c.in_err-make_ready.field-0.0 c.make_ready.new.triples.keys c.make_ready.new.leads.keys
      (c.in_err-make_ready.ensures.keys c.self.invariant.0)),
  tt,
)

pub invariant_of-self-2 : goal.invariant_of-self-2
invariant_of-self-2 c =
    let rules : c.push.new.self.items ≡ c.self.inside.rules.items ++ c.args.rule ∷ [] =
    c.in_ok-push.ensures.items ∙ ap (λ (rs : List Rule). rs ++ c.args.rule ∷ []) c.make_ready.ensures.same in
    (subst (λ (rs : List Rule). AreKept rs c.make_ready.new.triples.keys c.make_ready.new.leads.keys) (sym rules) (c.in_ok-make_ready.ensures.keys c.self.invariant.0).1, tt)

pub returns-in_err-make_ready : goal.returns-in_err-make_ready
returns-in_err-make_ready c =
    let p = err_from_is_err_and c.from_residual.result c.from_residual.ensures.1 in
    rw (p.1, p.2)
    (rules_stay c.args.self.now c.self.inside.rules.items c.make_ready.new.rules.items c.args.rule c.in_err-make_ready.field-0.0 c.make_ready.new.triples.keys
    c.make_ready.new.leads.keys c.self.view_is (c.make_ready.ensures.same ∙ c.self.view_is) (c.in_err-make_ready.ensures.keys c.self.invariant.0))

pub returns : goal.returns
returns c =
    let ready = c.in_ok-make_ready.ensures.keys c.self.invariant.0 in (
      ap (λ (rs : List Rule). has_twin rs c.args.rule) (sym c.self.view_is) ∙ ready.0,
      c.in_ok-push.ensures.items ∙ ap (λ (rs : List Rule). rs ++ c.args.rule ∷ []) (c.make_ready.ensures.same ∙ c.self.view_is),
    )
