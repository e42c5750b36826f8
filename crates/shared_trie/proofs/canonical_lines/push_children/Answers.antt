-- One child more comes after a comma.
use Rattle.std.proofs.Common.{◌++◌, ◌∙◌, ℕ, List, ap, arith}
use Rattle.std.specs.Prelude.{Contains}
use Rattle.std.proofs.lemmas.List.Elements.{All-contains}
use Rattle.trie_text_definitions.specs.NodeLines.{child_text}
use Rattle.trie_text_definitions.specs.PrintableRows.{IsPrintableChild}
use Rattle.shared_trie.specs.CanonicalNodes.{numbered_child}
use Rattle.shared_trie.proofs.ListedTexts.{listed_first, listed_more, listed_whole, other_there}
use Rattle.shared_trie.proofs.canonical_lines.push_children.Goals as goal

pub push_child-requires-in-loop-child : goal.push_child-requires-in-loop-child
push_child-requires-in-loop-child c =
    All-contains (λ (child : ℕ × ℕ). Contains c.args.numbers.now.nodes child.1) c.args.children.now c.child-item.result c.requires
    (other_there c.args.children.now c.in-Some.others.now c.in-Some.first.now c.loop-child.child-index c.child-item.result c.in-Some.ensures.cases.0 (omega arith) c.child-item.is)

pub loop-child-preserved : goal.loop-child-preserved
loop-child-preserved c =
    listed_more (numbered_child c.args.numbers.now.nodes) child_text IsPrintableChild c.args.out.now.items c.loop-child.out.items _ c.args.children.now c.in-Some.others.now c.in-Some.first.now c.loop-child.child-index c.child-item.result
    c.in-Some.ensures.cases.0 (omega arith) c.child-item.is c.loop-child.invariant
    (c.in_ok-push_child-2.ensures.ok ∙ ap (λ (text : List ℕ). text ++ child_text (numbered_child c.args.numbers.now.nodes c.child-item.result)) c.in_ok-push-2.ensures.items) c.in_ok-push_child-2.ensures.printable

pub loop-child-init : goal.loop-child-init
loop-child-init c =
    listed_first (numbered_child c.args.numbers.now.nodes) child_text IsPrintableChild c.args.out.now.items _ c.args.children.now c.in-Some.others.now c.in-Some.first.now c.in-Some.ensures.cases.0
    c.in_ok-push_child.ensures.ok c.in_ok-push_child.ensures.printable

pub returns-clause-ok : goal.returns-clause-ok
returns-clause-ok c =
    (listed_whole (numbered_child c.args.numbers.now.nodes) child_text IsPrintableChild c.args.out.now.items c.loop-child.out.items c.args.children.now c.in-Some.others.now c.in-Some.first.now c.loop-child.child-index
    c.in-Some.ensures.cases.0 c.loop-child-test.false c.loop-child.invariant).text

pub returns-clause-printable : goal.returns-clause-printable
returns-clause-printable c =
    (listed_whole (numbered_child c.args.numbers.now.nodes) child_text IsPrintableChild c.args.out.now.items c.loop-child.out.items c.args.children.now c.in-Some.others.now c.in-Some.first.now c.loop-child.child-index
    c.in-Some.ensures.cases.0 c.loop-child-test.false c.loop-child.invariant).each
