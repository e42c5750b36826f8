-- The words are those of one command, and its name is of it alone.
use Rattle.run_definitions.specs.Commands.{Migrate}
use Rattle.run_definitions.proofs.OneCommandAlone.{outcome_alone, so_far_alone, writes_alone, input_alone, migrate_run_alone}
use Rattle.run_definitions.proofs.command_laws.migrate_alone.Goals as goal

pub returns-clause-words : goal.returns-clause-words
returns-clause-words c lex out words = (λ p. p, λ p. p)

pub returns-clause-run : goal.returns-clause-run
returns-clause-run c words following files input outcome e = migrate_run_alone words following files input outcome e

pub returns-clause-outcome : goal.returns-clause-outcome
returns-clause-outcome c lex out words files input outcome are = outcome_alone words (Migrate lex out) are files input outcome

pub returns-clause-so_far : goal.returns-clause-so_far
returns-clause-so_far c lex out words files input output are = so_far_alone words (Migrate lex out) are files input output

pub returns-clause-writes : goal.returns-clause-writes
returns-clause-writes c lex out words other are writes =
    let e = (writes_alone words (Migrate lex out) are other).0 writes in cc (e)

pub returns-clause-input : goal.returns-clause-input
returns-clause-input c lex out words are reads = (input_alone words (Migrate lex out) are).0 reads
