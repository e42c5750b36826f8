-- The words are those of one command, and its name is of it alone.
use Rattle.run_definitions.specs.Commands.{Split}
use Rattle.run_definitions.proofs.OneCommandAlone.{outcome_alone, so_far_alone, writes_alone, input_alone, split_run_alone}
use Rattle.run_definitions.proofs.command_laws.split_alone.Goals as goal

pub returns-clause-words : goal.returns-clause-words
returns-clause-words c lex text count depth words = (λ p. p, λ p. p)

pub returns-clause-run : goal.returns-clause-run
returns-clause-run c words following files input outcome e = split_run_alone words following files input outcome e

pub returns-clause-outcome : goal.returns-clause-outcome
returns-clause-outcome c lex text count depth words files input outcome are = outcome_alone words (Split lex text count depth) are files input outcome

pub returns-clause-so_far : goal.returns-clause-so_far
returns-clause-so_far c lex text count depth words files input output are = so_far_alone words (Split lex text count depth) are files input output

pub returns-clause-writes : goal.returns-clause-writes
returns-clause-writes c lex text count depth words are out writes =
    let e = (writes_alone words (Split lex text count depth) are out).0 writes in cc (e)

pub returns-clause-input : goal.returns-clause-input
returns-clause-input c lex text count depth words are reads = (input_alone words (Split lex text count depth) are).0 reads
