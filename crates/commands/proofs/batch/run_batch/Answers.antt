-- The run goes on over the lexicon of the file, or ends without one.
use Rattle.std.proofs.Common.{[], ◌∷◌}
use Rattle.std.specs.Prelude.{None}
use Rattle.std.proofs.lemmas.List.Elements.{Contains-append_left}
use Rattle.list_laws.proofs.Sorted.{Contains-later}
use Rattle.text_line.specs.Values.{scheme_of}
use Rattle.command_words.specs.Meant.{word_meant}
use Rattle.run_definitions.specs.BatchOutcomes.{IsTextOutcome, IsBatchOutcome}
use Rattle.commands.specs.Openings.{IsUnopened}
use Rattle.commands.specs.Batches.{NoReplies, WithReplies, NoText, OnText}
use Rattle.commands.proofs.Runs.{embedded, goes_on}
use Rattle.commands.proofs.OpenedFiles.{lexicon_lent}
use Rattle.commands.proofs.BatchRuns.{batch_unopened, batch_goes_on, replies_from}
use Rattle.commands.proofs.batch.run_batch.Goals as goal

pub returns-in-Ok : goal.returns-in-Ok
returns-in-Ok g c =
    let lex = word_meant c.args.words.now.lex in
    let scheme = scheme_of c.args.words.now.scheme in
    let file = word_meant c.args.words.now.file in
    let count = c.args.words.now.count in
    let lexicon = c.deref.result.now.lexicon in
    let opened = lexicon_lent lex c.in-Ok.lexicon.value c.deref.result.now _ _ c.deref.ensures c.in-Ok.ensures.opened in
    elim c.batch_over.ensures [
      | NoText ran ↦ NoReplies (goes_on (IsTextOutcome lexicon scheme file count) (IsBatchOutcome lex scheme file count) (file ∷ []) (lex ∷ file ∷ []) _ _ _ _
          (batch_goes_on lex scheme file count lexicon _ opened.holds) (λ word m. Contains-later lex (file ∷ []) word m) _ opened.same ran)
      | OnText r ↦ WithReplies (record {
        lexicon = lexicon;
        holds = opened.holds;
        on_text = replies_from lexicon scheme file count _ _ _ _ opened.same r;
      })
    ]

pub returns-in-Err : goal.returns-in-Err
returns-in-Err g c =
    let lex = word_meant c.args.words.now.lex in
    let scheme = scheme_of c.args.words.now.scheme in
    let file = word_meant c.args.words.now.file in
    let count = c.args.words.now.count in
    NoReplies (embedded (IsUnopened lex) (IsBatchOutcome lex scheme file count) (lex ∷ []) (lex ∷ file ∷ []) _ _ _ _
    (λ told e outcome is. batch_unopened lex scheme file count told outcome is) (λ word m. Contains-append_left (lex ∷ []) (file ∷ []) word m) (c.in-Err.ensures.ended None))
