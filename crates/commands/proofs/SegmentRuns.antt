-- What a run of `segment` writes is the output of an outcome.
use Rattle.std.proofs.Common.{◌≡◌, ℕ, List, refl, sym, ap, subst, ◌∙◌}
use Rattle.text_definitions.specs.Schemes.{Scheme}
use Rattle.outside.specs.Files.{Files}
use Rattle.lexicon_definitions.specs.Lexicons.{Lexicon}
use Rattle.run_definitions.specs.Commands.{FileWord}
use Rattle.run_definitions.specs.Ends as ends
use Rattle.run_definitions.specs.Ends.{Outcome, outcome_over}
use Rattle.run_definitions.specs.SegmentOutcomes as outcomes
use Rattle.run_definitions.specs.LexiconTells.{DoesTell, NotThere, Refused, Holds}
use Rattle.run_definitions.specs.SegmentOutcomes.{IsSegmentOutcome}
use Rattle.text_line.specs.Values.{text_fault}
use Rattle.commands.specs.declared.status.Status.{Status}
use Rattle.commands.specs.declared.status.Status.TheVariants.{Done, Usage, BadText}
use Rattle.commands.specs.Faults.{Tells}
use Rattle.commands.specs.RunEnds.{HasOutcome}
use Rattle.commands.specs.Openings.{IsUnopened, Missing, Faulty}
use Rattle.commands.specs.Segments.{WritesSegmented, Page, OfText}

module _ (lex : FileWord) (scheme : Scheme) (text : List ℕ) where
  -- the outcome whose output `segment` writes over the lexicon of its file
  pub segment_outcome : (files : Files) (lexicon : Lexicon) → DoesTell files lex.name (Holds lexicon) → (status : Status) (output : List ℕ)
      → WritesSegmented scheme text lexicon status output → HasOutcome (IsSegmentOutcome lex scheme text files) status output files
  segment_outcome files lexicon tells status output (Page line st spelled p) = record {
    end = ends.Done;
    told = subst (λ (x : Status). Tells x ends.Done) (sym st) refl;
    is_it = record {
      tells = Holds lexicon;
      does_tell = tells;
      is_outcome = outcomes.OfPage line spelled (record {
        answers = p.answers;
        more = p.more;
        page = p.page;
        is = ap (λ out. outcome_over files out ends.Done) p.printed;
      });
    };
  }
  segment_outcome files lexicon tells status output (OfText fault st misspelled o) = record {
    end = ends.BadText (text_fault fault);
    told = subst (λ (x : Status). Tells x (ends.BadText (text_fault fault))) (sym st) refl;
    is_it = record {
      tells = Holds lexicon;
      does_tell = tells;
      is_outcome = outcomes.OfText (text_fault fault) misspelled (ap (λ out. outcome_over files out (ends.BadText (text_fault fault))) o);
    };
  }

  -- a run without a lexicon has its outcome
  pub segment_unopened : (files : Files) (outcome : Outcome) → IsUnopened lex files outcome → IsSegmentOutcome lex scheme text files outcome
  segment_unopened files outcome (Missing tells is) = record { tells = NotThere; does_tell = tells; is_outcome = is }
  segment_unopened files outcome (Faulty fault tells is) = record { tells = Refused fault; does_tell = tells; is_outcome = is }

  -- words that are refused are written by no command
  pub segment_not_usage : (lexicon : Lexicon) (status : Status) (output : List ℕ) → WritesSegmented scheme text lexicon status output
      → status ≡ Usage → ⊥
  segment_not_usage lexicon status output (Page line st spelled p) e = let f : Done ≡ Usage = sym st ∙ e in cc (f)
  segment_not_usage lexicon status output (OfText fault st misspelled o) e = let f : BadText fault ≡ Usage = sym st ∙ e in cc (f)
