-- What a run of `join` writes is the output of an outcome; and an overlap that a chain has can be printed.
use Rattle.std.proofs.Common.{◌≡◌, ℕ, List, [], ◌∷◌, refl, sym, ◌∙◌, ap, subst, inl, inr, arith, ◌++◌, codes, append_assoc}
use Rattle.outside.specs.Files.{Files}
use Rattle.lexicon_definitions.specs.Lexicons.{Lexicon, IsLexicon}
use Rattle.segmentation_definitions.specs.Derivations.{Step}
use Rattle.segmentation_definitions.specs.Overlaps as overlaps
use Rattle.segmentation_definitions.specs.Overlaps.{IsOverlap}
use Rattle.segmentation_definitions.proofs.Coverings.{phase_within}
use Rattle.chain_definitions.specs.JoinedChains.{Overlap, IsFirstOverlap}
use Rattle.run_definitions.specs.Commands.{FileWord}
use Rattle.run_definitions.specs.Ends as ends
use Rattle.run_definitions.specs.Ends.{Outcome, outcome_over}
use Rattle.run_definitions.specs.LexiconTells.{NotThere, Refused, Holds, DoesTell}
use Rattle.run_definitions.specs.JoinOutcomes as outcomes
use Rattle.run_definitions.specs.JoinOutcomes.{IsJoinOutcome}
use Rattle.joiner.specs.Faults.{fault_of}
use Rattle.commands.specs.declared.status.Status.{Status}
use Rattle.commands.specs.declared.status.Status.TheVariants.{Done, Usage, BadChain}
use Rattle.commands.specs.Faults.{Tells}
use Rattle.commands.specs.RunEnds.{HasOutcome}
use Rattle.commands.specs.Openings.{IsUnopened, Missing, Faulty}
use Rattle.commands.specs.Checks.{CanBePrinted}
use Rattle.commands.specs.Joins.{WritesChain, Told, OfChain}

-- ---- the outcome

module _ (lex : FileWord) (chain : List ℕ) where
  -- the outcome whose output `join` writes over the lexicon of its file
  pub chain_outcome : (files : Files) (lexicon : Lexicon) → DoesTell files lex.name (Holds lexicon) → (status : Status) (output : List ℕ)
      → WritesChain chain lexicon status output → HasOutcome (IsJoinOutcome lex chain files) status output files
  chain_outcome files lexicon tells status output (Told steps st read p) = record {
    end = ends.Done;
    told = subst (λ (x : Status). Tells x ends.Done) (sym st) refl;
    is_it = record {
      tells = Holds lexicon;
      does_tell = tells;
      is_outcome = outcomes.OfSteps steps read (record {
        joined = p.joined;
        is_joined = p.is_joined;
        is = ap (λ out. outcome_over files out ends.Done) p.printed;
      });
    };
  }
  chain_outcome files lexicon tells status output (OfChain fault st read o) = record {
    end = ends.BadChain (fault_of fault);
    told = subst (λ (x : Status). Tells x (ends.BadChain (fault_of fault))) (sym st) refl;
    is_it = record {
      tells = Holds lexicon;
      does_tell = tells;
      is_outcome = outcomes.OfFault (fault_of fault) read (ap (λ out. outcome_over files out (ends.BadChain (fault_of fault))) o);
    };
  }

  -- a run without a lexicon has its outcome
  pub join_unopened : (told : Files) (outcome : Outcome) → IsUnopened lex told outcome → IsJoinOutcome lex chain told outcome
  join_unopened told outcome (Missing tells is) = record { tells = NotThere; does_tell = tells; is_outcome = is }
  join_unopened told outcome (Faulty fault tells is) = record { tells = Refused fault; does_tell = tells; is_outcome = is }

  -- words that are refused are written by no command
  pub chain_not_usage : (lexicon : Lexicon) (status : Status) (output : List ℕ) → WritesChain chain lexicon status output → status ≡ Usage → ⊥
  chain_not_usage lexicon status output (Told steps st read p) e = let f : Done ≡ Usage = sym st ∙ e in cc (f)
  chain_not_usage lexicon status output (OfChain fault st read o) e = let f : BadChain fault ≡ Usage = sym st ∙ e in cc (f)

-- ---- its overlap

-- the first overlap of a chain is one of the lexicon
found_overlap : (lexicon : Lexicon) (number : ℕ) (steps : List Step) (phase : ℕ) (form : List ℕ) (before after : ℕ)
    → IsFirstOverlap lexicon number steps (Overlap phase form before after)
    → IsOverlap lexicon (record { phase = phase; form = form; before = before; after = after })
found_overlap lexicon number [] phase form before after first = absurd first
found_overlap lexicon number (step ∷ steps) phase form before after first = elim first [
  | inl here ↦
      let e = here.1 in
      let p : phase ≡ step.phase = cc in
      let f : form ≡ step.form = cc in
      let b : before ≡ number = cc in
      let a : after ≡ step.rule = cc in
      let same : record { phase = step.phase; form = step.form; before = number; after = step.rule }
      ≡ record { phase = phase; form = form; before = before; after = after } =
      λ i. record { phase = sym p i; form = sym f i; before = sym b i; after = sym a i } in
      subst (λ (o : overlaps.Overlap). IsOverlap lexicon o) same here.0
  | inr later ↦ found_overlap lexicon step.rule steps phase form before after later.1
]

-- so it can be printed
pub overlap_printable : (lexicon : Lexicon) (steps : List Step) (phase : ℕ) (form : List ℕ) (before after : ℕ)
    → IsLexicon lexicon → IsFirstOverlap lexicon 0 steps (Overlap phase form before after)
    → CanBePrinted lexicon.rules (record { phase = phase; form = form; before = before; after = after })
overlap_printable lexicon steps phase form before after is first =
    let o = found_overlap lexicon 0 steps phase form before after first in
    let count = is.count in
    record {
      phase = omega (arith, phase_within lexicon phase form o.of_phase, count);
      before = o.inner.0;
      after = o.rule;
    }

-- ---- its word

-- the line of the word, with what comes after it put last
pub text_line : (spelled rest : List ℕ) → codes "text " ++ (spelled ++ (codes "\n" ++ rest)) ≡ ((codes "text " ++ spelled) ++ 10 ∷ []) ++ rest
text_line spelled rest =
    sym (append_assoc (codes "text ") spelled (codes "\n" ++ rest)) ∙ sym (append_assoc (codes "text " ++ spelled) (10 ∷ []) rest)
