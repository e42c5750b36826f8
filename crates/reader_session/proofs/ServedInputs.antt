-- What was served of the bytes that were taken goes on with each piece; the lines that were cut off are the first of the input, so
-- at each end of serving what was written is what the session writes, or a prefix of the replies to its first lines.
use Rattle.std.proofs.Common.{◌≡◌, ℕ, ◌+◌, ◌<◌, ◌≤◌, Bool, true, List, [], ◌++◌, length, refl, sym, ◌∙◌, ap, subst, arith, append_assoc}
use Rattle.std.specs.Prelude.{Option, None, Some, if◌then◌else◌}
use Rattle.std.proofs.lemmas.List.{append-nil}
use Rattle.outside.specs.Told.{bytes_after, bytes_before}
use Rattle.annotated_trie.specs.Searched.{SearchedLexicon}
use Rattle.lexicon_text_definitions.specs.FileLines.{Line, lines_of_bytes}
use Rattle.session_definitions.specs.declared.limits.TheConstants.{MOST_INPUT_BYTES}
use Rattle.session_definitions.specs.SessionLines.{fits_session, lines_of_input}
use Rattle.session_definitions.specs.States.{opening}
use Rattle.session_definitions.specs.Replies as replies
use Rattle.session_definitions.specs.Sessions as sessions
use Rattle.session_definitions.specs.Sessions.{End, AreReplies, IsSession, end_of}
use Rattle.session_definitions.proofs.FrontReplies.{joined}
use Rattle.reader_session.specs.SessionValues.{SessionValue, stands_after}
use Rattle.reader_session.specs.declared.after.After.{After}
use Rattle.reader_session.specs.declared.after.After.TheVariants.{Open, Over}
use Rattle.reader_session.specs.declared.serve_end.ServeEnd.TheVariants.{Done, TooMuch}
use Rattle.reader_session.specs.Served.{WroteSession, WroteFront, RepliedToTaken}
use Rattle.reader_session.specs.Serving.{HasNoEnd, AreCutOff, HasServed, HasStopped, HasServedWithin, HasStoppedWithin}
use Rattle.reader_session.proofs.CutLines.{none_cut, cut_on, cut_longer, all_lines, complete_lines, lines_that_fit, lines_that_do_not_fit, front_of_input}
use Rattle.reader_session.proofs.ServedLines.{none_served, none_stopped, served_on, stopped_on, all_stopped}

-- a session over this lexicon that has replied to nothing
abbrev pub opened : SearchedLexicon → SessionValue
opened lexicon = record { searched = lexicon; state = opening }

-- the lines that were cut off the bytes taken were served, from the beginning of the session on
pub record HasServedTaken (lexicon : SearchedLexicon) (taken left : List ℕ) (session : SessionValue) (start now : Option (List ℕ)) (after : After) : Type 0 where
  pub lines : List Line
  pub cut : AreCutOff taken lines left
  pub served : HasServed lines (opened lexicon) session start now after

-- some bytes of the input were taken, of which `rest` is not served, and as many as `allowed` may still be
pub record IsServing (lexicon : SearchedLexicon) (input : List ℕ) (session : SessionValue) (rest : List ℕ) (allowed : ℕ) (start left now : Option (List ℕ)) : Type 0 where
  pub taken : List ℕ
  pub others : List ℕ
  pub input_is : input ≡ taken ++ others
  pub left_is : left ≡ Some others
  pub allowed_is : length taken + allowed ≡ MOST_INPUT_BYTES
  pub served : HasServedTaken lexicon taken rest session start now Open

-- nothing was taken yet
pub serving_none : (lexicon : SearchedLexicon) (input : List ℕ) (session : SessionValue) (rest : List ℕ) (start left : Option (List ℕ))
    → session ≡ opened lexicon → rest ≡ [] → left ≡ Some input → IsServing lexicon input session rest MOST_INPUT_BYTES start left start
serving_none lexicon input session rest start left new empty told =
    let served : HasServedTaken lexicon [] [] (opened lexicon) start start Open =
    record { lines = []; cut = none_cut []; served = none_served (opened lexicon) start } in
    let at_session : HasServedTaken lexicon [] [] session start start Open =
    subst (λ (x : SessionValue). HasServedTaken lexicon [] [] x start start Open) (sym new) served in
    record {
      taken = [];
      others = input;
      input_is = refl;
      left_is = told;
      allowed_is = refl;
      served = subst (λ (x : List ℕ). HasServedTaken lexicon [] x session start start Open) (sym empty) at_session;
    }

-- ---- a piece more

-- what a source gave comes first in what it had left
pub record WasRead (others bytes : List ℕ) (now : Option (List ℕ)) : Type 0 where
  pub next : List ℕ
  pub now_is : now ≡ Some next
  pub parts : others ≡ bytes ++ next

pub was_read : (others bytes : List ℕ) (old now : Option (List ℕ)) → old ≡ Some others → old ≡ bytes_before bytes now → WasRead others bytes now
was_read others bytes old None told read = let wrong : Some others ≡ None = sym told ∙ read in absurd (cc)
was_read others bytes old (Some next) told read =
    let same : Some others ≡ Some (bytes ++ next) = sym told ∙ read in record { next = next; now_is = refl; parts = cc }

pub served_piece : (lexicon : SearchedLexicon) (taken rest piece unread : List ℕ) (session last : SessionValue) (start between now : Option (List ℕ)) (after : After)
    → HasServedTaken lexicon taken rest session start between Open → (p : HasServedWithin (rest ++ piece) unread session last between now after)
    → HasServedTaken lexicon (taken ++ piece) p.left last start now after
served_piece lexicon taken rest piece unread session last start between now after done p = record {
  lines = done.lines ++ p.lines;
  cut = cut_on (taken ++ piece) (rest ++ piece) p.left done.lines p.lines (cut_longer taken rest piece done.lines done.cut) p.cut;
  served = served_on done.lines p.lines (opened lexicon) session start between done.served last now after p.served;
}

-- ---- prefixes

-- what was written of the lines that were cut off is written of the input
front_from : (lexicon : SearchedLexicon) (taken others left : List ℕ) (lines : List Line) (start now : Option (List ℕ)) → AreCutOff taken lines left
    → length taken ≤ MOST_INPUT_BYTES → HasStopped lines (opened lexicon) start now → WroteFront lexicon.lexicon (taken ++ others) start now
front_from lexicon taken others left lines start now cut few stopped =
    let (more, is) : (more : List Line) × (lines_of_input (taken ++ others) ≡ lines ++ more) = front_of_input taken others left lines cut few in
    record {
      lines = stopped.served;
      others = stopped.others ++ more;
      first = is ∙ ap (λ (x : List Line). x ++ more) stopped.first ∙ append_assoc stopped.served stopped.others more;
      output = stopped.output;
      after = stopped.after;
      replies = stopped.replies;
      grown = stopped.grown;
    }

pub front_of_none : (lexicon : SearchedLexicon) (input : List ℕ) (start now : Option (List ℕ)) → now ≡ start → WroteFront lexicon.lexicon input start now
front_of_none lexicon input start now same =
    let stopped : HasStopped [] (opened lexicon) start now = none_stopped [] (opened lexicon) start now same in
    front_from lexicon [] input [] [] start now (none_cut []) (omega arith) stopped

pub front_served : (lexicon : SearchedLexicon) (input taken others left : List ℕ) (session : SessionValue) (start now : Option (List ℕ)) (after : After)
    → input ≡ taken ++ others → length taken ≤ MOST_INPUT_BYTES → HasServedTaken lexicon taken left session start now after
    → WroteFront lexicon.lexicon input start now
front_served lexicon input taken others left session start now after parts few done =
    subst (λ (x : List ℕ). WroteFront lexicon.lexicon x start now) (sym parts)
    (front_from lexicon taken others left done.lines start now done.cut few (all_stopped done.lines (opened lexicon) session start now after done.served))

pub front_stopped : (lexicon : SearchedLexicon) (input taken rest piece others : List ℕ) (session : SessionValue) (start between now : Option (List ℕ))
    → input ≡ (taken ++ piece) ++ others → length (taken ++ piece) ≤ MOST_INPUT_BYTES → HasServedTaken lexicon taken rest session start between Open
    → HasStoppedWithin (rest ++ piece) session between now → WroteFront lexicon.lexicon input start now
front_stopped lexicon input taken rest piece others session start between now parts few done p =
    let cut : AreCutOff (taken ++ piece) (done.lines ++ p.lines) p.left =
    cut_on (taken ++ piece) (rest ++ piece) p.left done.lines p.lines (cut_longer taken rest piece done.lines done.cut) p.cut in
    subst (λ (x : List ℕ). WroteFront lexicon.lexicon x start now) (sym parts)
    (front_from lexicon (taken ++ piece) others p.left (done.lines ++ p.lines) start now cut few
    (stopped_on done.lines p.lines (opened lexicon) session start between done.served now p.stopped))

-- ---- whole sessions

told_after : (start now : Option (List ℕ)) (old output : List ℕ) → start ≡ Some old → now ≡ bytes_after start output → now ≡ Some (old ++ output)
told_after start now old output told wrote = wrote ∙ ap (λ (x : Option (List ℕ)). bytes_after x output) told

-- a line that ends the session was served
pub session_over : (lexicon : SearchedLexicon) (input taken others left old : List ℕ) (session : SessionValue) (start now : Option (List ℕ))
    → input ≡ taken ++ others → length taken ≤ MOST_INPUT_BYTES → HasServedTaken lexicon taken left session start now Over → start ≡ Some old
    → WroteSession lexicon.lexicon input old now Done
session_over lexicon input taken others left old session start now parts few done told =
    let (more, is) : (more : List Line) × (lines_of_input (taken ++ others) ≡ done.lines ++ more) = front_of_input taken others left done.lines done.cut few in
    let all : AreReplies lexicon.lexicon opening (done.lines ++ more) (done.served.output ++ []) replies.Over =
    joined lexicon.lexicon done.lines more opening done.served.output [] replies.Over replies.Over done.served.replies (refl, refl) in
    let all_here : AreReplies lexicon.lexicon opening (lines_of_input input) (done.served.output ++ []) replies.Over =
    subst (λ (x : List Line). AreReplies lexicon.lexicon opening x (done.served.output ++ []) replies.Over) (sym (ap lines_of_input parts ∙ is)) all in
    record {
      output = done.served.output ++ [];
      end = sessions.Done;
      session = record { after = replies.Over; replies = all_here; ends = refl };
      wrote = told_after start now old done.served.output told done.served.wrote ∙ ap (λ (x : List ℕ). Some (old ++ x)) (sym (append-nil done.served.output));
      tells = refl;
    }

done_if_fits : (after : replies.After) (input : List ℕ) → fits_session input ≡ true → sessions.Done ≡ end_of after input
done_if_fits replies.Over input fits = refl
done_if_fits (replies.Open state) input fits = sym (ap (λ (test : Bool). if test then sessions.Done else sessions.TooMuch) fits)

-- the input came to its end, and what was left of it was served
pub session_ended : (lexicon : SearchedLexicon) (input taken rest old : List ℕ) (session last : SessionValue) (start between now : Option (List ℕ)) (after : After)
    → input ≡ taken → length taken ≤ MOST_INPUT_BYTES → HasServedTaken lexicon taken rest session start between Open
    → HasServed (lines_of_bytes rest) session last between now after → start ≡ Some old → WroteSession lexicon.lexicon input old now Done
session_ended lexicon input taken rest old session last start between now after whole few done p told =
    let fit = lines_that_fit taken few in
    let lines : lines_of_input input ≡ done.lines ++ lines_of_bytes rest =
    ap lines_of_input whole ∙ fit.0 ∙ all_lines taken rest done.lines done.cut in
    let all : HasServed (done.lines ++ lines_of_bytes rest) (opened lexicon) last start now after =
    served_on done.lines (lines_of_bytes rest) (opened lexicon) session start between done.served last now after p in
    record {
      output = all.output;
      end = sessions.Done;
      session = record {
        after = stands_after after last.state;
        replies = subst (λ (x : List Line). AreReplies lexicon.lexicon opening x all.output (stands_after after last.state)) (sym lines) all.replies;
        ends = done_if_fits (stands_after after last.state) input (ap fits_session whole ∙ fit.1);
      };
      wrote = told_after start now old all.output told all.wrote;
      tells = refl;
    }

-- a prefix of what was left was written
pub front_ended : (lexicon : SearchedLexicon) (input taken rest : List ℕ) (session : SessionValue) (start between now : Option (List ℕ))
    → input ≡ taken → length taken ≤ MOST_INPUT_BYTES → HasServedTaken lexicon taken rest session start between Open
    → HasStopped (lines_of_bytes rest) session between now → WroteFront lexicon.lexicon input start now
front_ended lexicon input taken rest session start between now whole few done p =
    let fit = lines_that_fit taken few in
    let lines : lines_of_input input ≡ done.lines ++ lines_of_bytes rest =
    ap lines_of_input whole ∙ fit.0 ∙ all_lines taken rest done.lines done.cut in
    let all : HasStopped (done.lines ++ lines_of_bytes rest) (opened lexicon) start now =
    stopped_on done.lines (lines_of_bytes rest) (opened lexicon) session start between done.served now p in
    record {
      lines = all.served;
      others = all.others;
      first = lines ∙ all.first;
      output = all.output;
      after = all.after;
      replies = all.replies;
      grown = all.grown;
    }

-- the first bytes were served, and there are more
pub session_too_long : (lexicon : SearchedLexicon) (input taken others rest old : List ℕ) (session : SessionValue) (start now : Option (List ℕ))
    → input ≡ taken ++ others → length taken ≡ MOST_INPUT_BYTES → 0 < length others → HasServedTaken lexicon taken rest session start now Open
    → HasNoEnd rest → start ≡ Some old → WroteSession lexicon.lexicon input old now TooMuch
session_too_long lexicon input taken others rest old session start now parts full some done none told =
    let long = lines_that_do_not_fit taken others full some in
    let lines : lines_of_input input ≡ done.lines = ap lines_of_input parts ∙ long.0 ∙ complete_lines taken rest done.lines done.cut none in
    record {
      output = done.served.output;
      end = sessions.TooMuch;
      session = record {
        after = replies.Open session.state;
        replies = subst (λ (x : List Line). AreReplies lexicon.lexicon opening x done.served.output (replies.Open session.state)) (sym lines) done.served.replies;
        ends = sym (ap (λ (test : Bool). if test then sessions.Done else sessions.TooMuch) (ap fits_session parts ∙ long.1));
      };
      wrote = told_after start now old done.served.output told done.served.wrote;
      tells = refl;
    }

-- the source failed
pub replied_to_taken : (lexicon : SearchedLexicon) (input taken others rest old : List ℕ) (session : SessionValue) (start left now : Option (List ℕ))
    → input ≡ taken ++ others → left ≡ Some others → HasServedTaken lexicon taken rest session start now Open → HasNoEnd rest → start ≡ Some old
    → RepliedToTaken lexicon.lexicon input old left now
replied_to_taken lexicon input taken others rest old session start left now parts is_left done none told = record {
  taken = taken;
  others = others;
  input_is = parts;
  left_is = is_left;
  output = done.served.output;
  state = session.state;
  replies = subst (λ (x : List Line). AreReplies lexicon.lexicon opening x done.served.output (replies.Open session.state)) (sym (complete_lines taken rest done.lines done.cut none))
      done.served.replies;
  wrote = told_after start now old done.served.output told done.served.wrote;
}
