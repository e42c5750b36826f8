-- What a run of `check` writes is the output of an outcome.
use Rattle.std.proofs.Common.{◌≡◌, ℕ, List, refl, sym, ap, subst, ◌∙◌}
use Rattle.outside.specs.Files.{Files}
use Rattle.lexicon_definitions.specs.Lexicons.{Lexicon}
use Rattle.run_definitions.specs.Commands.{FileWord}
use Rattle.run_definitions.specs.Ends as ends
use Rattle.run_definitions.specs.Ends.{Outcome, outcome_over}
use Rattle.run_definitions.specs.LexiconTells.{NotThere, Refused, Holds, DoesTell}
use Rattle.run_definitions.specs.CheckOutcomes.{IsCheckOutcome}
use Rattle.commands.specs.declared.status.Status.{Status}
use Rattle.commands.specs.declared.status.Status.TheVariants.{Done, Usage}
use Rattle.commands.specs.Faults.{Tells}
use Rattle.commands.specs.RunEnds.{HasOutcome}
use Rattle.commands.specs.Openings.{IsUnopened, Missing, Faulty}
use Rattle.commands.specs.Checks.{WritesCheck}

module _ (lex : FileWord) where
  -- the outcome whose output `check` writes over the lexicon of its file
  pub check_outcome : (files : Files) (lexicon : Lexicon) → DoesTell files lex.name (Holds lexicon) → (status : Status) (output : List ℕ)
      → WritesCheck lexicon status output → HasOutcome (IsCheckOutcome lex files) status output files
  check_outcome files lexicon tells status output w = record {
    end = ends.Done;
    told = subst (λ (x : Status). Tells x ends.Done) (sym w.done) refl;
    is_it = record {
      tells = Holds lexicon;
      does_tell = tells;
      is_outcome = record {
        overlaps = w.check.overlaps;
        more = w.check.more;
        first = w.check.first;
        is = ap (λ out. outcome_over files out ends.Done) w.check.printed;
      };
    };
  }

  -- a run without a lexicon has its outcome
  pub check_unopened : (files : Files) (outcome : Outcome) → IsUnopened lex files outcome → IsCheckOutcome lex files outcome
  check_unopened files outcome (Missing tells is) = record { tells = NotThere; does_tell = tells; is_outcome = is }
  check_unopened files outcome (Faulty fault tells is) = record { tells = Refused fault; does_tell = tells; is_outcome = is }

  -- words that are refused are written by no command
  pub check_not_usage : (lexicon : Lexicon) (status : Status) (output : List ℕ) → WritesCheck lexicon status output → status ≡ Usage → ⊥
  check_not_usage lexicon status output w e = let f : Done ≡ Usage = sym w.done ∙ e in cc (f)
