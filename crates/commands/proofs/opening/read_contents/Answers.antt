-- What is read can be built.
use Rattle.commands.proofs.SearchedLexicons.{can_be_built}
use Rattle.commands.proofs.opening.read_contents.Goals as goal

pub returns-clause-buildable : goal.returns-clause-buildable
returns-clause-buildable c =
    rw (c.in_ok-in_box.ensures) (can_be_built c.in_ok-contents.contents c.args.bytes.now c.in_ok-contents.ensures.ok c.in_ok-contents.ensures.trie c.in_ok-contents.ensures.automaton c.in_ok-contents.ensures.phases)
