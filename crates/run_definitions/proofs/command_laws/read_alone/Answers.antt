-- The words are those of one command, and its name is of it alone.
use Rattle.run_definitions.specs.Commands.{Read}
use Rattle.run_definitions.proofs.OneCommandAlone.{outcome_alone, so_far_alone, writes_alone, input_alone, read_run_alone}
use Rattle.run_definitions.proofs.command_laws.read_alone.Goals as goal

pub returns-clause-words : goal.returns-clause-words
returns-clause-words c lex words = (λ p. p, λ p. p)

pub returns-clause-run : goal.returns-clause-run
returns-clause-run c words following files input outcome e = read_run_alone words following files input outcome e

pub returns-clause-outcome : goal.returns-clause-outcome
returns-clause-outcome c lex words files input outcome are = outcome_alone words (Read lex) are files input outcome

pub returns-clause-so_far : goal.returns-clause-so_far
returns-clause-so_far c lex words files input output are = so_far_alone words (Read lex) are files input output

pub returns-clause-writes : goal.returns-clause-writes
returns-clause-writes c lex words are out writes =
    let e = (writes_alone words (Read lex) are out).0 writes in cc (e)

pub returns-clause-input : goal.returns-clause-input
returns-clause-input c lex words are = (input_alone words (Read lex) are).1 tt
