-- At most one list is added, so rows stay as they were.
use Rattle.std.proofs.Common.{map}
use Rattle.form_tags.specs.Analyses.{text_delta}
use Rattle.shared_trie.proofs.InternedLaws.{interned_listed, number_told, rows_listed}
use Rattle.shared_trie.proofs.interned.Interned.number_list.Goals as goal

pub invariant_of-self : goal.invariant_of-self
invariant_of-self c =
    let parts = c.self.inside in
    interned_listed parts.children.items parts.lists.keys c.number_list.new.lists.keys parts.nodes.items parts.chains parts.heights.items parts.roots.items c.args.self.now
    c.self.invariant c.self.view_is c.number_list.ensures.grown (c.number_list.ensures.apart c.self.invariant.apart) c.requires

pub returns-clause-rows : goal.returns-clause-rows
returns-clause-rows c =
    let parts = c.self.inside in
    rows_listed parts.children.items parts.lists.keys c.number_list.new.lists.keys parts.nodes.items parts.chains parts.heights.items parts.roots.items c.args.self.now
    c.self.invariant c.self.view_is c.number_list.ensures.grown

pub returns-clause-ok : goal.returns-clause-ok
returns-clause-ok c =
    number_told c.number_list.new.lists.keys (map text_delta c.args.deltas.items) c.number_list.result c.number_list.ensures.ok
