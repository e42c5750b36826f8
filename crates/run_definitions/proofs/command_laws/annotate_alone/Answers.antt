-- The words are those of one command, and its name is of it alone.
use Rattle.run_definitions.specs.Commands.{Annotate}
use Rattle.run_definitions.proofs.OneCommandAlone.{outcome_alone, so_far_alone, writes_alone, input_alone, annotate_run_alone}
use Rattle.run_definitions.proofs.command_laws.annotate_alone.Goals as goal

pub returns-clause-words : goal.returns-clause-words
returns-clause-words c lex mark out words = (λ p. p, λ p. p)

pub returns-clause-run : goal.returns-clause-run
returns-clause-run c words following files input outcome e = annotate_run_alone words following files input outcome e

pub returns-clause-outcome : goal.returns-clause-outcome
returns-clause-outcome c lex mark out words files input outcome are = outcome_alone words (Annotate lex mark out) are files input outcome

pub returns-clause-so_far : goal.returns-clause-so_far
returns-clause-so_far c lex mark out words files input output are = so_far_alone words (Annotate lex mark out) are files input output

pub returns-clause-writes : goal.returns-clause-writes
returns-clause-writes c lex mark out words other are writes =
    let e = (writes_alone words (Annotate lex mark out) are other).0 writes in cc (e)

pub returns-clause-input : goal.returns-clause-input
returns-clause-input c lex mark out words are reads = (input_alone words (Annotate lex mark out) are).0 reads
