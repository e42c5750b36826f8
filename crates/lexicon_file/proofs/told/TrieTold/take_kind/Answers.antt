-- Each kind of line is taken by its function, and only after a grammar's the last line is one.
use Rattle.std.proofs.Common.{rules, ◌≡◌, ◌≢◌}
use Rattle.trie_text_definitions.specs.VersionSteps.{are_rooted}
use Rattle.lexicon_file.specs.Kinds.{version_of}
use Rattle.lexicon_file.specs.declared.kind.Kind.TheVariants.{End}
use Rattle.lexicon_file.specs.declared.error.FileWhy.TheVariants.{Field}
use Rattle.lexicon_file.proofs.LinesTaken.{line_refused, rule_answer, node_answer, root_answer, end_answer, no_text}
use Rattle.lexicon_file.proofs.told.TrieTold.take_kind.Goals as goal

pub returns-then-eq : goal.returns-then-eq
returns-then-eq c =
    let last : c.args.kind ≡ End = search rules in
    end_answer (Unit {0}) (version_of c.args.version) c.args.self.now _ c.args.line.now c.take_end.result c.args.kind c.args.rest last c.take_end.ensures

pub returns-in_default : goal.returns-in_default
returns-in_default c =
    let other : c.args.kind ≢ End = search rules in
    line_refused (Unit {0}) _ c.into.result Field c.args.self.now c.into.ensures
    (no_text (version_of c.args.version) c.args.self.now c.args.line.now (are_rooted c.args.self.now) c.args.self.now.last c.args.kind c.args.rest c.requires.follows other c.in_default.is)

pub returns-in-Rule : goal.returns-in-Rule
returns-in-Rule c =
    rule_answer (Unit {0}) (version_of c.args.version) c.args.self.now _ c.args.line.now c.take_rule.result c.args.kind c.args.rest c.in-Some.text c.in-Rule.is c.in-Some.is c.take_rule.ensures

pub returns-in-Node : goal.returns-in-Node
returns-in-Node c =
    node_answer (Unit {0}) (version_of c.args.version) c.args.self.now _ c.args.line.now c.take_node.result c.args.kind c.args.rest c.requires.line c.in-Some.text c.in-Node.is c.in-Some.is
    c.take_node.ensures

pub returns-in-Root : goal.returns-in-Root
returns-in-Root c =
    root_answer (Unit {0}) (version_of c.args.version) c.args.self.now _ c.args.line.now c.take_root.result c.args.kind c.args.rest c.requires.line c.in-Some.text c.in-Root.is c.in-Some.is
    c.take_root.ensures
