-- It goes on with the file of the note over the lexicon, or ends without one.
use Rattle.std.proofs.Common.{[], ◌∷◌}
use Rattle.std.specs.Prelude.{None}
use Rattle.std.proofs.lemmas.List.Elements.{Contains-append_left}
use Rattle.list_laws.proofs.Sorted.{Contains-later}
use Rattle.command_words.specs.Meant.{word_meant}
use Rattle.run_definitions.specs.RereadOutcomes.{IsNoteFileOutcome, IsRereadOutcome}
use Rattle.commands.specs.Openings.{IsUnopened}
use Rattle.commands.proofs.Runs.{embedded, goes_on}
use Rattle.commands.proofs.OpenedFiles.{lexicon_lent}
use Rattle.commands.proofs.RereadRuns.{reread_unopened, reread_goes_on}
use Rattle.commands.proofs.reread.run_reread.Goals as goal

pub returns-in-Ok : goal.returns-in-Ok
returns-in-Ok g c =
    let lex = word_meant c.args.words.now.lex in
    let file = word_meant c.args.words.now.file in
    let lexicon = c.deref.result.now.lexicon in
    let opened = lexicon_lent lex c.in-Ok.lexicon.value c.deref.result.now _ _ c.deref.ensures c.in-Ok.ensures.opened in
    goes_on (IsNoteFileOutcome lexicon file) (IsRereadOutcome lex file) (file ∷ []) (lex ∷ file ∷ []) _ _ _ _
    (reread_goes_on lex file lexicon _ opened.holds) (λ word m. Contains-later lex (file ∷ []) word m) _ opened.same c.reread_over.ensures

pub returns-in-Err : goal.returns-in-Err
returns-in-Err g c =
    let lex = word_meant c.args.words.now.lex in
    let file = word_meant c.args.words.now.file in
    embedded (IsUnopened lex) (IsRereadOutcome lex file) (lex ∷ []) (lex ∷ file ∷ []) _ _ _ _ (λ told e outcome is. reread_unopened lex file told outcome is)
    (λ word m. Contains-append_left (lex ∷ []) (file ∷ []) word m) (c.in-Err.ensures.ended None)
