-- A triple that is new goes last, and the rule's v is put among the leads; one that is there is a twin, and both stay.
use Rattle.std.proofs.Common.{not, refl, ◌∙◌, ap}
use Rattle.lexicon_definitions.specs.Rules.{Rule}
use Rattle.sandhi_rules.proofs.TripleLemmas.{triples_pushed}
use Rattle.form_file.proofs.LeadLemmas.{leads_put}
use Rattle.form_file.proofs.TripleLemmas.{twin_told, triples_kept}
use Rattle.form_file.proofs.rules_so_far.add_keys.Goals as goal

pub returns-then-not-branch-clause-ok : goal.returns-then-not-branch-clause-ok
returns-then-not-branch-clause-ok c = λ rules kept. (
  twin_told rules rules c.args.rule.now c.args.triples.now.keys c.in_ok-triple.triple c.in_ok-insert.field-0 refl kept.alike c.in_ok-triple.ensures
      c.in_ok-insert.ensures.added ∙ ap not c.if-not-branch.true,
  record {
    alike = triples_kept rules c.args.triples.now.keys _ c.in_ok-triple.triple c.in_ok-insert.field-0 kept.alike c.in_ok-insert.ensures.keys c.in_ok-insert.ensures.added
        c.if-not-branch.true;
    leading = c.reserve.ensures.keys ∙ kept.leading;
  },
)

pub returns-clause-ok : goal.returns-clause-ok
returns-clause-ok c = λ rules kept. (
  twin_told rules rules c.args.rule.now c.args.triples.now.keys c.in_ok-triple.triple c.in_ok-insert.field-0 refl kept.alike c.in_ok-triple.ensures
      c.in_ok-insert.ensures.added ∙ ap not c.if-not-branch.false,
  record {
    alike = triples_pushed rules _ c.args.rule.now c.args.triples.now.keys _ c.in_ok-triple.triple c.in_ok-insert.field-0 kept.alike c.in_ok-triple.ensures
        c.in_ok-insert.ensures.keys c.in_ok-insert.ensures.added c.if-not-branch.false refl;
    leading = leads_put rules _ c.args.rule.now c.args.leads.now.keys c.reserve.new.self.keys _ c.in_ok-lead.lead kept.leading c.reserve.ensures.keys
        (c.in_ok-lead.ensures ∙ ap (λ (rule : Rule). rule.v) c.rule.view_is)
        c.in_ok-add_lead.ensures.ok refl;
  },
)
