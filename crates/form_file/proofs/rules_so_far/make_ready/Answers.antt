-- The keys are those with the rule where its triple was new, and else they stay.
use Rattle.std.proofs.Common.{Bool, not, if◌then◌else◌, [], ◌∷◌, ◌++◌, sym, ◌∙◌, ap, subst}
use Rattle.std.proofs.lemmas.Result.{err_from_is_err_and}
use Rattle.form_file.specs.Added.{AreKept}
use Rattle.form_file.proofs.TripleLemmas.{refused}
use Rattle.form_file.proofs.rules_so_far.make_ready.Goals as goal

pub returns-in_err-add_keys-clause-keys : goal.returns-in_err-add_keys-clause-keys
returns-in_err-add_keys-clause-keys c =
    let p = err_from_is_err_and c.from_residual-in_err-add_keys.result c.from_residual-in_err-add_keys.ensures.1 in
    let same = c.in_err-add_keys.ensures.err in
    rw (p.1, p.2) (λ kept. subst (λ triples. AreKept c.args.rules.now.items triples c.add_keys.new.leads.keys) (sym same.0) (subst (AreKept c.args.rules.now.items c.args.triples.now.keys) (sym same.1) kept))

pub returns-then-not-branch-clause-keys : goal.returns-then-not-branch-clause-keys
returns-then-not-branch-clause-keys c =
    λ kept.
    let keys = c.in_ok-add_keys.ensures.ok c.args.rules.now.items kept in
    refused c.args.rules.now.items c.args.rule.now c.into.result c.add_keys.new.triples.keys c.add_keys.new.leads.keys c.into.ensures (keys.0 ∙ ap not c.if-not-branch.true)
    (subst (λ (is_new : Bool). AreKept (if is_new then c.args.rules.now.items ++ c.args.rule.now ∷ [] else c.args.rules.now.items) c.add_keys.new.triples.keys c.add_keys.new.leads.keys)
    c.if-not-branch.true keys.1)

pub returns-clause-keys : goal.returns-clause-keys
returns-clause-keys c =
    λ kept.
    let keys = c.in_ok-add_keys.ensures.ok c.args.rules.now.items kept in (
      keys.0 ∙ ap not c.if-not-branch.false,
      subst (λ (is_new : Bool). AreKept (if is_new then c.args.rules.now.items ++ c.args.rule.now ∷ [] else c.args.rules.now.items) c.add_keys.new.triples.keys c.add_keys.new.leads.keys)
          c.if-not-branch.false keys.1,
    )
