-- The file that `annotate` has written holds the text of the note of its bookmark's line and choices, which is read back; and the lexicon
-- file, which has another name, tells the same lexicon as before.
use Rattle.std.proofs.Common.{◌≡◌, ◌≢◌, ℕ, ◌<◌, ◌≤◌, List, [], ◌∷◌, length, false, Some, refl, sym, ◌∙◌, subst}
use Rattle.std.specs.List.{AllByRecursion}
use Rattle.std.proofs.lemmas.List.Elements.{All-from_recursion, recursion_from_All}
use Rattle.outside.specs.Files.{Files, contents_of, with_file}
use Rattle.outside.proofs.FilesLemmas.{contents_of-with_file_same, contents_of-with_file_other}
use Rattle.lexicon_definitions.specs.Lexicons as lexicons
use Rattle.lexicon_definitions.specs.Lexicons.{Lexicon}
use Rattle.lexicon_definitions.specs.Limits.{IsWithinLimits}
use Rattle.segmentation_definitions.specs.Derivations.{Step}
use Rattle.segmentation_definitions.specs.Items.{Choice}
use Rattle.segmentation_definitions.specs.PrintedAnswers.{printed_page}
use Rattle.lexicon_text_definitions.specs.declared.limits.TheConstants.{MOST_FILE_BYTES}
use Rattle.trie_text_definitions.specs.Versions.{version_of}
use Rattle.trie_text_definitions.proofs.LexiconsTold.{read_lexicon}
use Rattle.bookmark_definitions.specs.Bookmarks.{Bookmark, IsItemWithinBounds}
use Rattle.bookmark_definitions.proofs.WrittenBookmarks.{bookmark_tells}
use Rattle.note_definitions.specs.Notes.{Note, IsOnlyAnswer, IsChoiceOver, IsNote}
use Rattle.note_definitions.specs.NoteTexts.{text_of_note}
use Rattle.note_definitions.proofs.NotesBack.{note_back}
use Rattle.run_definitions.specs.Arguments.{FileWord}
use Rattle.run_definitions.specs.Ends.{Outcome, Done, outcome_over}
use Rattle.run_definitions.specs.LexiconTells.{FileTells, NotThere, Refused, Holds, DoesTell, IsMissing, IsLarge, IsFaulty, IsLexicon}
use Rattle.run_definitions.specs.SourceTells as sources
use Rattle.run_definitions.specs.AnnotateOutcomes.{IsMarkOver, IsNotedOutcome, OfOnly, OfNone, OfSeveral, IsMarkOutcome, OfNoMark, OfMark, IsAnnotateOutcomeWith, IsAnnotateOutcome}
use Rattle.run_definitions.specs.RereadOutcomes.{IsRereadOutcome}
use Rattle.existence_laws.proofs.NewestTextsThere.{lexicon_of_text}

-- ---- the lexicon file

-- a file with the same bytes tells the same
tells_kept : (old new : Files) (name : List ℕ) (tells : FileTells) → contents_of new name ≡ contents_of old name → DoesTell old name tells
    → DoesTell new name tells
tells_kept old new name tells same (IsMissing e told) = IsMissing (same ∙ e) told
tells_kept old new name tells same (IsLarge bytes e large told) = IsLarge bytes (same ∙ e) large told
tells_kept old new name tells same (IsFaulty bytes e small fault read told) = IsFaulty bytes (same ∙ e) small fault read told
tells_kept old new name tells same (IsLexicon bytes e small lexicon read told) = IsLexicon bytes (same ∙ e) small lexicon read told

-- what it tells is a lexicon within the limits
tells_lexicon : (files : Files) (name : List ℕ) (lexicon : Lexicon) (tells : FileTells) → tells ≡ Holds lexicon → DoesTell files name tells
    → lexicons.IsLexicon lexicon × IsWithinLimits lexicon
tells_lexicon files name lexicon tells is (IsMissing e told) = let f : NotThere ≡ Holds lexicon = sym told ∙ is in cc
tells_lexicon files name lexicon tells is (IsLarge bytes e large told) = let f : Refused _ ≡ Holds lexicon = sym told ∙ is in cc
tells_lexicon files name lexicon tells is (IsFaulty bytes e small fault read told) = let f : Refused _ ≡ Holds lexicon = sym told ∙ is in cc
tells_lexicon files name lexicon tells is (IsLexicon bytes e small other read told) =
    let f : Holds other ≡ Holds lexicon = sym told ∙ is in
    let same : other ≡ lexicon = cc in
    subst (λ l. lexicons.IsLexicon l × IsWithinLimits l) same (lexicon_of_text (version_of bytes) other (read_lexicon bytes other read))

-- ---- the note

each_over : (lexicon : Lexicon) (choices : List Choice) → AllByRecursion (λ (choice : Choice). IsItemWithinBounds choice.item) choices
    → AllByRecursion (λ (choice : Choice). choice.item.phase < length lexicon.phases) choices → AllByRecursion (IsChoiceOver lexicon) choices
each_over lexicon [] items phases = tt
each_over lexicon (choice ∷ choices) items phases =
    (record { item = items.0; phase = phases.0 }, each_over lexicon choices items.1 phases.1)

-- the line and the choices of a bookmark, with their only answer, are a note
note_of_mark : (lexicon : Lexicon) (text : List ℕ) (mark : Bookmark) → IsMarkOver lexicon text mark → (steps : List Step)
    → IsOnlyAnswer lexicon mark.line mark.choices steps → IsNote lexicon (record { line = mark.line; choices = mark.choices; steps = steps })
note_of_mark lexicon text mark over steps only =
    let bounds = (bookmark_tells text mark over.read).1 in
    record {
      line = bounds.line;
      few_choices = bounds.few_choices;
      choices = All-from_recursion (IsChoiceOver lexicon) mark.choices
          (each_over lexicon mark.choices (recursion_from_All (λ (choice : Choice). IsItemWithinBounds choice.item) mark.choices bounds.items)
          (recursion_from_All (λ (choice : Choice). choice.item.phase < length lexicon.phases) mark.choices over.is_cursor.phases));
      answer = only;
    }

-- ---- the two commands

-- what is to be shown: the note of the bookmark's line and choices is reread from the files
abbrev pub IsReread : FileWord → FileWord → List ℕ → Files → Type 0
IsReread lex file mark files =
    (lexicon : Lexicon) × ((bookmark : Bookmark) × ((steps : List Step)
    × (IsMarkOver lexicon mark bookmark × (IsOnlyAnswer lexicon bookmark.line bookmark.choices steps
    × IsRereadOutcome lex file files (outcome_over files (printed_page lexicon.rules 1 (steps ∷ []) false) Done)))))

module _ (lex file out : FileWord) (mark : List ℕ) (files : Files) (same_name : file.name ≡ out.name) (apart : lex.name ≢ out.name) where
  noted_reread : (lexicon : Lexicon) → DoesTell files lex.name (Holds lexicon) → (bookmark : Bookmark) → IsMarkOver lexicon mark bookmark
      → (steps : List Step) → IsOnlyAnswer lexicon bookmark.line bookmark.choices steps
      → length (text_of_note lexicon (record { line = bookmark.line; choices = bookmark.choices; steps = steps })) ≤ MOST_FILE_BYTES
      → IsReread lex file mark
      (with_file files out.name (text_of_note lexicon (record { line = bookmark.line; choices = bookmark.choices; steps = steps })))
  noted_reread lexicon tells bookmark over steps only small =
      let note : Note = record { line = bookmark.line; choices = bookmark.choices; steps = steps } in
      let text = text_of_note lexicon note in
      let is = tells_lexicon files lex.name lexicon (Holds lexicon) refl tells in
      let read = note_back lexicon note is.0 is.1 (note_of_mark lexicon mark bookmark over steps only) in
      let there : contents_of (with_file files out.name text) file.name ≡ Some text =
      subst (λ name. contents_of (with_file files out.name text) name ≡ Some text) (sym same_name) (contents_of-with_file_same files out.name text) in (
        lexicon,
        (
          bookmark,
          (
            steps,
            (
              over,
              (
                only,
                record {
                  tells = Holds lexicon;
                  does_tell = tells_kept files (with_file files out.name text) lex.name (Holds lexicon)
                      (contents_of-with_file_other files out.name text lex.name apart) tells;
                  is_outcome = record {
                    tells = sources.Holds note;
                    do_tell = sources.IsSound text there small note read refl;
                    is_outcome = refl;
                  };
                },
              ),
            ),
          ),
        ),
      )

  -- the note was written, since the run is done
  of_noted : (lexicon : Lexicon) → DoesTell files lex.name (Holds lexicon) → (bookmark : Bookmark) → IsMarkOver lexicon mark bookmark
      → (outcome : Outcome) → outcome.end ≡ Done
      → ((text : List ℕ) → contents_of outcome.files out.name ≡ Some text → length text ≤ MOST_FILE_BYTES)
      → IsNotedOutcome lexicon bookmark.line bookmark.choices out files outcome → IsReread lex file mark outcome.files
  of_noted lexicon tells bookmark over outcome done small (OfOnly steps only e) =
      let note : Note = record { line = bookmark.line; choices = bookmark.choices; steps = steps } in
      let text = text_of_note lexicon note in
      let after : with_file files out.name text ≡ outcome.files = cc in
      subst (IsReread lex file mark) after
      (noted_reread lexicon tells bookmark over steps only
      (small text (subst (λ (told : Files). contents_of told out.name ≡ Some text) after (contents_of-with_file_same files out.name text))))
  of_noted lexicon tells bookmark over outcome done small (OfNone none e) = absurd cc
  of_noted lexicon tells bookmark over outcome done small (OfSeveral first second p q e) = absurd cc

  of_mark_outcome : (lexicon : Lexicon) → DoesTell files lex.name (Holds lexicon) → (outcome : Outcome) → outcome.end ≡ Done
      → ((text : List ℕ) → contents_of outcome.files out.name ≡ Some text → length text ≤ MOST_FILE_BYTES)
      → IsMarkOutcome lexicon mark out files outcome → IsReread lex file mark outcome.files
  of_mark_outcome lexicon tells outcome done small (OfNoMark bad e) = absurd cc
  of_mark_outcome lexicon tells outcome done small (OfMark bookmark over noted) =
      of_noted lexicon tells bookmark over outcome done small noted

  by_tells : (tells : FileTells) → DoesTell files lex.name tells → (outcome : Outcome) → outcome.end ≡ Done
      → ((text : List ℕ) → contents_of outcome.files out.name ≡ Some text → length text ≤ MOST_FILE_BYTES)
      → IsAnnotateOutcomeWith tells lex mark out files outcome → IsReread lex file mark outcome.files
  by_tells NotThere told outcome done small e = absurd cc
  by_tells (Refused fault) told outcome done small e = absurd cc
  by_tells (Holds lexicon) told outcome done small of = of_mark_outcome lexicon told outcome done small of

  pub written_reread : (outcome : Outcome) → outcome.end ≡ Done
      → ((text : List ℕ) → contents_of outcome.files out.name ≡ Some text → length text ≤ MOST_FILE_BYTES)
      → IsAnnotateOutcome lex mark out files outcome → IsReread lex file mark outcome.files
  written_reread outcome done small is = by_tells is.tells is.does_tell outcome done small is.is_outcome
