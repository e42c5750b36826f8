-- What a run of `read` leaves, from what the session that it served did.
use Rattle.std.proofs.Common.{◌≡◌, ℕ, List, Option, Some, refl, sym, ap, subst, ◌∙◌, inr}
use Rattle.outside.specs.Counts.{Rose}
use Rattle.outside.specs.Files.{Files}
use Rattle.lexicon_definitions.specs.Lexicons.{Lexicon}
use Rattle.session_definitions.specs.Sessions as sessions
use Rattle.reader_session.specs.declared.serve_end.ServeEnd.{ServeEnd}
use Rattle.reader_session.specs.declared.serve_end.ServeEnd.TheVariants as serve
use Rattle.reader_session.specs.Served as served
use Rattle.reader_session.specs.Served.{IsEnd, WroteSession}
use Rattle.run_definitions.specs.Commands.{FileWord}
use Rattle.run_definitions.specs.Ends.{Outcome, outcome_over}
use Rattle.run_definitions.specs.LexiconTells.{NotThere, Refused, Holds}
use Rattle.run_definitions.specs.ReadOutcomes.{end_with, IsReadOutcome, IsReadSoFar}
use Rattle.commands.specs.declared.status.Status.{Status}
use Rattle.commands.specs.declared.status.Status.TheVariants.{Usage, ReadFault, WriteFault}
use Rattle.commands.specs.Faults.{Tells}
use Rattle.commands.specs.Headline.{WrotePrefix, IsNoFault}
use Rattle.commands.specs.RunEnds.{WroteOutcome, Devices}
use Rattle.commands.specs.Openings.{HasOpened, IsUnopened, Missing, Faulty}
use Rattle.commands.specs.Sessions.{status_at, SourceTold, sink_told, HasServed, Serves}
use Rattle.commands.proofs.OpenedFiles.{holds_on}

-- ---- ends

-- the status tells what the end of serving tells
tells_with : (end : ServeEnd) (e : sessions.End) → served.Tells end e → Tells (status_at end) (end_with e)
tells_with serve.Done e t = ap end_with t
tells_with serve.TooMuch e t = ap end_with t
tells_with serve.Memory e t = absurd t
tells_with serve.ReadFault e t = absurd t
tells_with serve.WriteFault e t = absurd t

is_end_at : (end : ServeEnd) → IsNoFault (status_at end) → IsEnd end
is_end_at serve.Done own = tt
is_end_at serve.TooMuch own = tt
is_end_at serve.Memory own = absurd own
is_end_at serve.ReadFault own = absurd own
is_end_at serve.WriteFault own = absurd own

read_fault_at : (end : ServeEnd) → status_at end ≡ ReadFault → end ≡ serve.ReadFault
read_fault_at serve.ReadFault e = refl
read_fault_at serve.Done e = absurd (cc (e))
read_fault_at serve.TooMuch e = absurd (cc (e))
read_fault_at serve.Memory e = absurd (cc (e))
read_fault_at serve.WriteFault e = absurd (cc (e))

write_fault_at : (end : ServeEnd) → status_at end ≡ WriteFault → end ≡ serve.WriteFault
write_fault_at serve.WriteFault e = refl
write_fault_at serve.Done e = absurd (cc (e))
write_fault_at serve.TooMuch e = absurd (cc (e))
write_fault_at serve.Memory e = absurd (cc (e))
write_fault_at serve.ReadFault e = absurd (cc (e))

not_usage_at : (end : ServeEnd) → status_at end ≡ Usage → ⊥
not_usage_at serve.Done e = cc (e)
not_usage_at serve.TooMuch e = cc (e)
not_usage_at serve.Memory e = cc (e)
not_usage_at serve.ReadFault e = cc (e)
not_usage_at serve.WriteFault e = cc (e)

-- ---- what a session that was served leaves

module _ (lex : FileWord) (result : Status) (old new : Devices) (source source_now : SourceTold) (s : Serves lex result old new source source_now) where
  pub serves_outcome : IsNoFault result → (files : Files) (told input : List ℕ) → old.files ≡ Some files → old.written ≡ Some told
      → source.left ≡ Some input → WroteOutcome (IsReadOutcome lex files source.left) new.files told new.written result
  serves_outcome own files told input f o l =
      let w : WroteSession s.lexicon input told new.written s.end = s.served.session (is_end_at s.end (subst IsNoFault s.is own)) input told l o in record {
        outcome = outcome_over files w.output (end_with w.end);
        is_it = record {
          tells = Holds s.lexicon;
          does_tell = s.holds files f;
          is_outcome = record { told = input; is_told = l; output = w.output; end = w.end; session = w.session; is = refl };
        };
        output = w.wrote;
        files = s.files ∙ f;
        told = subst (λ (x : Status). Tells x (end_with w.end)) (sym s.is) (tells_with s.end w.end w.tells);
      }

  pub serves_prefix : (files : Files) (input : List ℕ) → old.files ≡ Some files → source.left ≡ Some input
      → WrotePrefix (IsReadSoFar lex files source.left) old.written new.written
  serves_prefix files input f l =
      let w = s.served.prefix input l in
      inr (
        w.output,
        record {
          tells = Holds s.lexicon;
          does_tell = s.holds files f;
          is_output = record { told = input; is_told = l; lines = w.lines; others = w.others; first = w.first; after = w.after; replies = w.replies };
        },
        w.grown,
      )

  pub serves_usage : result ≡ Usage → ⊥
  serves_usage u = not_usage_at s.end (sym s.is ∙ u)

  pub serves_read_fault : result ≡ ReadFault → s.end ≡ serve.ReadFault
  serves_read_fault r = read_fault_at s.end (sym s.is ∙ r)

  pub serves_write_fault : result ≡ WriteFault → Rose old.faults new.faults
  serves_write_fault w = s.served.write_fault (write_fault_at s.end (sym s.is ∙ w))

-- ---- the lexicon file

-- over the lexicon of the file that was opened, a session was served
pub served_over : (lex : FileWord) (lexicon : Lexicon) (result : Status) (old mid new : Devices) (source source_now : SourceTold)
    → HasOpened lex lexicon old mid → (end : ServeEnd) → result ≡ status_at end → new.files ≡ mid.files → new.failed_writes ≡ mid.failed_writes
    → HasServed lexicon end source source_now (sink_told mid.written mid.faults) (sink_told new.written new.faults)
    → Serves lex result old new source source_now
served_over lex lexicon result old mid new source source_now opened end is files failed_writes served =
    subst (λ (d : Devices). Serves lex result d new source source_now) opened.same (record {
      lexicon = lexicon;
      holds = holds_on lex lexicon old mid opened;
      end = end;
      is = is;
      files = files;
      failed_writes = failed_writes;
      served = served;
    })

-- a run without a lexicon has its outcome, whatever the input is
pub read_unopened : (lex : FileWord) (input : Option (List ℕ)) (files : Files) (outcome : Outcome) → IsUnopened lex files outcome
    → IsReadOutcome lex files input outcome
read_unopened lex input files outcome (Missing tells is) = record { tells = NotThere; does_tell = tells; is_outcome = is }
read_unopened lex input files outcome (Faulty fault tells is) = record { tells = Refused fault; does_tell = tells; is_outcome = is }
