-- the group is read that the node's list has for the letter
use Rattle.std.proofs.Common.{◌<◌, ◌∙◌, arith}
use Rattle.annotated_trie.proofs.RuleGroupLaws.{choices_with-read}
use Rattle.annotated_trie.proofs.annotated.Annotated.choices_with.Goals as goal

pub get-requires : goal.get-requires
get-requires g c =
    let inside = c.self.inside in
    let code = c.code.result in
    let small : code < 51 = omega (arith, c.code.ensures.letter, c.code.ensures.value) in
    (choices_with-read inside.store inside.lists.items inside.places.items inside.groups.firsts.value.items inside.groups.lists inside.parts.rules inside.most c.args.self.now c.number.result c.args.node c.index.result.now code c.args.letter
    c.self.view_is c.requires c.self.invariant.0 c.self.invariant.1 c.index.ensures c.number.ensures c.code.ensures.value small).0

pub returns-clause-value : goal.returns-clause-value
returns-clause-value g c =
    let inside = c.self.inside in
    let code = c.code.result in
    let small : code < 51 = omega (arith, c.code.ensures.letter, c.code.ensures.value) in
    c.get.ensures
    ∙ (choices_with-read inside.store inside.lists.items inside.places.items inside.groups.firsts.value.items inside.groups.lists inside.parts.rules inside.most c.args.self.now c.number.result c.args.node c.index.result.now code c.args.letter
    c.self.view_is c.requires c.self.invariant.0 c.self.invariant.1 c.index.ensures c.number.ensures c.code.ensures.value small).1
