-- The words are those of one command, and its name is of it alone.
use Rattle.run_definitions.specs.Commands.{Reread}
use Rattle.run_definitions.proofs.OneCommandAlone.{outcome_alone, so_far_alone, writes_alone, input_alone, reread_run_alone}
use Rattle.run_definitions.proofs.command_laws.reread_alone.Goals as goal

pub returns-clause-words : goal.returns-clause-words
returns-clause-words c lex file words = (λ p. p, λ p. p)

pub returns-clause-run : goal.returns-clause-run
returns-clause-run c words following files input outcome e = reread_run_alone words following files input outcome e

pub returns-clause-outcome : goal.returns-clause-outcome
returns-clause-outcome c lex file words files input outcome are = outcome_alone words (Reread lex file) are files input outcome

pub returns-clause-so_far : goal.returns-clause-so_far
returns-clause-so_far c lex file words files input output are = so_far_alone words (Reread lex file) are files input output

pub returns-clause-writes : goal.returns-clause-writes
returns-clause-writes c lex file words are out writes =
    let e = (writes_alone words (Reread lex file) are out).0 writes in cc (e)

pub returns-clause-input : goal.returns-clause-input
returns-clause-input c lex file words are reads = (input_alone words (Reread lex file) are).0 reads
