-- What the chain is joined to is written over the lexicon, or the run ends without one.
use Rattle.std.proofs.Common.{refl}
use Rattle.std.specs.Prelude.{None}
use Rattle.command_words.specs.Meant.{word_meant}
use Rattle.run_definitions.specs.JoinOutcomes.{IsJoinOutcome}
use Rattle.commands.specs.Openings.{IsUnopened}
use Rattle.commands.specs.Joins.{WritesChain}
use Rattle.commands.proofs.Runs.{embedded}
use Rattle.commands.proofs.OpenedFiles.{lexicon_lent, printed_over}
use Rattle.commands.proofs.JoinRuns.{chain_outcome, join_unopened, chain_not_usage}
use Rattle.commands.proofs.join.run_join.Goals as goal

pub returns-in-Ok : goal.returns-in-Ok
returns-in-Ok g c =
    let lex = word_meant c.args.words.now.lex in
    let chain = c.args.words.now.chain.name.now in
    let opened = lexicon_lent lex c.in-Ok.lexicon.value c.deref.result.now _ _ c.deref.ensures c.in-Ok.ensures.opened in
    printed_over lex c.deref.result.now.lexicon _ _ opened (IsJoinOutcome lex chain) (WritesChain chain) (chain_not_usage lex chain)
    (chain_outcome lex chain) _ _ refl refl c.write_chain.ensures

pub returns-in-Err : goal.returns-in-Err
returns-in-Err g c =
    let lex = word_meant c.args.words.now.lex in
    let chain = c.args.words.now.chain.name.now in
    embedded (IsUnopened lex) (IsJoinOutcome lex chain) _ _ _ _ _ _ (λ told e outcome is. join_unopened lex chain told outcome is) (λ word m. m)
    (c.in-Err.ensures.ended None)
