-- A triple that is new goes last with its rule, whose lead is put in its place; one that is there is a twin.
use Rattle.std.proofs.Common.{not, refl, ap, ◌∙◌}
use Rattle.sandhi_rules.specs.Triples.{triple_of}
use Rattle.sandhi_rules.proofs.TripleLemmas.{twin_told, triples_pushed}
use Rattle.rule_file.proofs.TripleLemmas.{leads_rising, leads_pushed, told_twice}
use Rattle.rule_file.proofs.rules_so_far.RulesSoFar.add_rule.Goals as goal

pub returns-then-not-branch-clause-twice : goal.returns-then-not-branch-clause-twice
returns-then-not-branch-clause-twice c =
    let old = c.args.self.now in
    told_twice c.into.result c.args.rule old.rules.items c.into.ensures
    (twin_told old.rules.items old.rules.items c.args.rule old.triples.keys (triple_of c.args.rule) c.in_ok-add_triple.field-0 refl
    c.requires.triples_are refl c.in_ok-add_triple.ensures.added ∙ ap not c.if-not-branch.true)

pub push_rule-requires : goal.push_rule-requires
push_rule-requires c = leads_rising c.args.self.now.rules.items c.args.self.now.leads.items c.requires.leads_are

pub returns-clause-kept : goal.returns-clause-kept
returns-clause-kept c =
    let old = c.args.self.now in
    record {
      triples_are = triples_pushed old.rules.items _ c.args.rule old.triples.keys _ (triple_of c.args.rule) c.in_ok-add_triple.field-0
          c.requires.triples_are refl c.in_ok-add_triple.ensures.keys c.in_ok-add_triple.ensures.added c.if-not-branch.false c.in_ok-push_rule.ensures.rules;
      leads_are = leads_pushed old.rules.items _ c.args.rule old.leads.items _ c.requires.leads_are c.in_ok-push_rule.ensures.leads c.in_ok-push_rule.ensures.rules;
    }

pub returns-clause-is_new : goal.returns-clause-is_new
returns-clause-is_new c =
    let old = c.args.self.now in
    twin_told old.rules.items old.rules.items c.args.rule old.triples.keys (triple_of c.args.rule) c.in_ok-add_triple.field-0 refl
    c.requires.triples_are refl c.in_ok-add_triple.ensures.added ∙ ap not c.if-not-branch.false
