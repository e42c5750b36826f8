-- What a run of `split` writes is the output of an outcome; and the texts of answers, a line each, are the printed page.
use Rattle.std.proofs.Common.{◌≡◌, ℕ, ◌++◌, List, [], ◌∷◌, refl, sym, ◌∙◌, ap, subst}
use Rattle.outside.specs.Files.{Files}
use Rattle.lexicon_definitions.specs.Lexicons.{Lexicon, RuleSet}
use Rattle.segmentation_definitions.specs.Derivations.{Step}
use Rattle.segmentation_definitions.specs.PrintedAnswers.{output_line, printed_answer, printed_answers, next_number}
use Rattle.run_definitions.specs.Commands.{FileWord}
use Rattle.run_definitions.specs.Ends as ends
use Rattle.run_definitions.specs.Ends.{Outcome, outcome_over}
use Rattle.run_definitions.specs.LexiconTells.{NotThere, Refused, Holds, DoesTell}
use Rattle.run_definitions.specs.SplitOutcomes as outcomes
use Rattle.run_definitions.specs.SplitOutcomes.{IsSplitOutcome}
use Rattle.search_split.specs.PrintedPages.{answer_texts}
use Rattle.text_line.specs.Values.{text_fault}
use Rattle.commands.specs.declared.status.Status.{Status}
use Rattle.commands.specs.declared.status.Status.TheVariants.{Done, Usage, BadText}
use Rattle.commands.specs.Faults.{Tells}
use Rattle.commands.specs.RunEnds.{HasOutcome}
use Rattle.commands.specs.Openings.{IsUnopened, Missing, Faulty}
use Rattle.commands.specs.Splits.{text_lines, WritesSplit, Page, OfText}

-- ---- the outcome

module _ (lex : FileWord) (text : List ℕ) (count : ℕ) where
  -- the outcome whose output `split` writes over the lexicon of its file
  pub split_outcome : (files : Files) (lexicon : Lexicon) → DoesTell files lex.name (Holds lexicon) → (status : Status) (output : List ℕ)
      → WritesSplit text count lexicon status output → HasOutcome (IsSplitOutcome lex text count files) status output files
  split_outcome files lexicon tells status output (Page line st spelled p) = record {
    end = ends.Done;
    told = subst (λ (x : Status). Tells x ends.Done) (sym st) refl;
    is_it = record {
      tells = Holds lexicon;
      does_tell = tells;
      is_outcome = outcomes.OfPage line spelled (record {
        answers = p.answers;
        more = p.more;
        page = p.page;
        is = ap (λ out. outcome_over files out ends.Done) p.printed;
      });
    };
  }
  split_outcome files lexicon tells status output (OfText fault st misspelled o) = record {
    end = ends.BadText (text_fault fault);
    told = subst (λ (x : Status). Tells x (ends.BadText (text_fault fault))) (sym st) refl;
    is_it = record {
      tells = Holds lexicon;
      does_tell = tells;
      is_outcome = outcomes.OfText (text_fault fault) misspelled (ap (λ out. outcome_over files out (ends.BadText (text_fault fault))) o);
    };
  }

  -- a run without a lexicon has its outcome
  pub split_unopened : (told : Files) (outcome : Outcome) → IsUnopened lex told outcome → IsSplitOutcome lex text count told outcome
  split_unopened told outcome (Missing tells is) = record { tells = NotThere; does_tell = tells; is_outcome = is }
  split_unopened told outcome (Faulty fault tells is) = record { tells = Refused fault; does_tell = tells; is_outcome = is }

  -- words that are refused are written by no command
  pub split_not_usage : (lexicon : Lexicon) (status : Status) (output : List ℕ) → WritesSplit text count lexicon status output
      → status ≡ Usage → ⊥
  split_not_usage lexicon status output (Page line st spelled p) e = let f : Done ≡ Usage = sym st ∙ e in cc (f)
  split_not_usage lexicon status output (OfText fault st misspelled o) e = let f : BadText fault ≡ Usage = sym st ∙ e in cc (f)

-- ---- the page

-- the texts of answers, a line each, are the printed answers
pub texts_printed : (rules : RuleSet) (number : ℕ) (answers : List (List Step))
    → text_lines (answer_texts rules number answers) ≡ printed_answers rules number answers
texts_printed rules number [] = refl
texts_printed rules number (steps ∷ answers) =
    ap (λ rest. output_line (printed_answer rules number steps) ++ rest) (texts_printed rules (next_number number) answers)
