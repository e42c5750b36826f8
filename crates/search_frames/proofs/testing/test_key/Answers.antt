-- What the letters tell, and then the grammar.
use Rattle.std.proofs.Common.{refl}
use Rattle.derivation.specs.Steps.{key_of}
use Rattle.search_frames.specs.Frames.{numbered_of}
use Rattle.search_frames.proofs.PossibleKeys.{possible_phase}
use Rattle.search_frames.proofs.testing.test_key.Goals as goal

pub test_in_grammar-requires-clause-phase : goal.test_in_grammar-requires-clause-phase
test_in_grammar-requires-clause-phase c =
    possible_phase c.args.lexicon.now c.rules.ensures.searched c.args.line.now (numbered_of c.args.lexicon.now c.args.place.now) (key_of c.args.step.now) c.requires.possible

pub returns : goal.returns
returns c = record {
  exact = c.test_in_grammar.ensures.exact c.args.line.now c.args.choices.now (key_of c.args.step.now) c.requires.place refl c.requires.possible c.test_letters-test.ensures.exact;
}
