-- Of what was read as many bytes are served as are allowed; so either all of it is, or the input is too long.
use Rattle.std.proofs.Common.{◌≡◌, ℕ, ◌+◌, ◌-◌, ◌<◌, ◌≤◌, min, List, [], ◌++◌, length, take, drop, refl, sym, ◌∙◌, ap, subst, arith, append_assoc}
use Rattle.std.specs.Prelude.{Option, None, Some}
use Rattle.std.proofs.lemmas.List.{append-nil, take-append-drop, length-append, length-take, length-drop, nil_from_length}
use Rattle.std.proofs.Math.Seq.{take-take}
use Rattle.outside.specs.Told.{bytes_before, IsAtEnd}
use Rattle.annotated_trie.specs.Searched.{SearchedLexicon}
use Rattle.lexicon_text_definitions.specs.FileLines.{lines_of_bytes}
use Rattle.session_definitions.specs.declared.limits.TheConstants.{MOST_INPUT_BYTES}
use Rattle.reader_session.specs.SessionValues.{SessionValue}
use Rattle.reader_session.specs.declared.after.After.{After}
use Rattle.reader_session.specs.declared.after.After.TheVariants.{Open, Over}
use Rattle.reader_session.specs.declared.serve_end.ServeEnd.TheVariants.{Done, TooMuch}
use Rattle.reader_session.specs.Served.{WroteSession, WroteFront, RepliedToTaken}
use Rattle.reader_session.specs.Serving.{HasNoEnd, HasServed, HasStopped, HasServedWithin, HasStoppedWithin}
use Rattle.reader_session.proofs.ServedLines.{all_stopped}
use Rattle.reader_session.proofs.ServedInputs.{HasServedTaken, IsServing, was_read, served_piece, front_served, front_stopped, front_ended, session_over, session_ended, session_too_long, replied_to_taken}

-- a piece of what was read is served next: so many bytes of it were not allowed, and so many may still be taken
pub record HasTaken (lexicon : SearchedLexicon) (input rest piece : List ℕ) (session : SessionValue) (allowed unread : ℕ) (start left between : Option (List ℕ)) : Type 0 where
  pub taken : List ℕ
  pub beyond : List ℕ
  pub others : List ℕ
  pub input_is : input ≡ (taken ++ piece) ++ (beyond ++ others)
  pub left_is : left ≡ Some others
  pub allowed_is : length (taken ++ piece) + allowed ≡ MOST_INPUT_BYTES
  pub unread_is : length beyond ≡ unread
  pub served : HasServedTaken lexicon taken rest session start between Open

regroup : (taken piece beyond others : List ℕ) → taken ++ ((piece ++ beyond) ++ others) ≡ (taken ++ piece) ++ (beyond ++ others)
regroup taken piece beyond others =
    ap (λ (x : List ℕ). taken ++ x) (append_assoc piece beyond others) ∙ sym (append_assoc taken piece (beyond ++ others))

pub has_taken : (lexicon : SearchedLexicon) (input rest piece bytes : List ℕ) (session : SessionValue) (allowed count within : ℕ) (start old left between : Option (List ℕ))
    → IsServing lexicon input session rest allowed start old between → old ≡ bytes_before (take count bytes) left → piece ≡ take within bytes
    → within ≡ min count allowed → count ≤ length bytes
    → HasTaken lexicon input rest piece session (allowed - within) (count - within) start left between
has_taken lexicon input rest piece bytes session allowed count within start old left between s read is_piece least few =
    let r = was_read s.others (take count bytes) old left s.left_is read in
    let beyond = drop within (take count bytes) in
    let some : within ≤ count = omega arith in
    let front : take within (take count bytes) ≡ piece = take-take within count bytes some ∙ sym is_piece in
    let parts : take count bytes ≡ piece ++ beyond = sym (take-append-drop within (take count bytes)) ∙ ap (λ (x : List ℕ). x ++ beyond) front in
    let long : length piece ≡ within = ap length is_piece ∙ omega (arith, length-take within bytes) in
    let sum : length (s.taken ++ piece) ≡ length s.taken + length piece = length-append s.taken piece in
    let before = s.allowed_is in
    record {
      taken = s.taken;
      beyond = beyond;
      others = r.next;
      input_is = s.input_is ∙ ap (λ (x : List ℕ). s.taken ++ x) (r.parts ∙ ap (λ (x : List ℕ). x ++ r.next) parts) ∙ regroup s.taken piece beyond r.next;
      left_is = r.now_is;
      allowed_is = omega arith;
      unread_is = omega (arith, length-drop within (take count bytes), length-take count bytes);
      served = s.served;
    }

module _ (lexicon : SearchedLexicon) (input rest piece : List ℕ) (session : SessionValue) (allowed unread : ℕ) (start left between now : Option (List ℕ)) (t : HasTaken lexicon input rest piece session allowed unread start left between) where
  few_taken : length (t.taken ++ piece) ≤ MOST_INPUT_BYTES
  few_taken = let sum = t.allowed_is in omega arith

  pub piece_stopped : HasStoppedWithin (rest ++ piece) session between now → WroteFront lexicon.lexicon input start now
  piece_stopped p = front_stopped lexicon input t.taken rest piece (t.beyond ++ t.others) session start between now t.input_is few_taken t.served p

  module _ (all : List ℕ) (last : SessionValue) where
    pub piece_front : (after : After) → HasServedWithin (rest ++ piece) all session last between now after → WroteFront lexicon.lexicon input start now
    piece_front after p =
        front_served lexicon input (t.taken ++ piece) (t.beyond ++ t.others) p.left last start now after t.input_is few_taken
        (served_piece lexicon t.taken rest piece all session last start between now after t.served p)

    pub piece_over : (old : List ℕ) → HasServedWithin (rest ++ piece) all session last between now Over → start ≡ Some old
        → WroteSession lexicon.lexicon input old now Done
    piece_over old p told =
        session_over lexicon input (t.taken ++ piece) (t.beyond ++ t.others) p.left old last start now t.input_is few_taken
        (served_piece lexicon t.taken rest piece all session last start between now Over t.served p) told

    -- what is left of the piece is the unfinished line
    open_piece : HasServedWithin (rest ++ piece) all session last between now Open → HasServedTaken lexicon (t.taken ++ piece) all last start now Open
    open_piece p =
        subst (λ (x : List ℕ). HasServedTaken lexicon (t.taken ++ piece) x last start now Open) (p.is_left refl)
        (served_piece lexicon t.taken rest piece all session last start between now Open t.served p)

    pub piece_too_long : (old : List ℕ) → HasServedWithin (rest ++ piece) all session last between now Open → allowed ≡ 0 → 0 < unread → start ≡ Some old
        → WroteSession lexicon.lexicon input old now TooMuch
    piece_too_long old p none some told =
        let sum = t.allowed_is in
        let beyond = t.unread_is in
        let full : length (t.taken ++ piece) ≡ MOST_INPUT_BYTES = omega arith in
        session_too_long lexicon input (t.taken ++ piece) (t.beyond ++ t.others) all old last start now t.input_is full
        (omega (arith, length-append t.beyond t.others)) (open_piece p) (p.no_end refl) told

    pub piece_served : HasServedWithin (rest ++ piece) all session last between now Open → unread ≡ 0 → IsServing lexicon input last all allowed start left now
    piece_served p none =
        let no_more : t.beyond ≡ [] = nil_from_length t.beyond (t.unread_is ∙ none) in
        record {
          taken = t.taken ++ piece;
          others = t.others;
          input_is = t.input_is ∙ ap (λ (x : List ℕ). (t.taken ++ piece) ++ (x ++ t.others)) no_more;
          left_is = t.left_is;
          allowed_is = t.allowed_is;
          served = open_piece p;
        }

-- ---- the end of the input, and a source that fails

none_left : (others : List ℕ) (left : Option (List ℕ)) → left ≡ Some others → IsAtEnd left → others ≡ []
none_left others None told ended = absurd (cc)
none_left others (Some bytes) told ended = let same : bytes ≡ others = cc in sym same ∙ ended

module _ (lexicon : SearchedLexicon) (input rest : List ℕ) (session : SessionValue) (allowed : ℕ) (start left between : Option (List ℕ)) (s : IsServing lexicon input session rest allowed start left between) where
  few : length s.taken ≤ MOST_INPUT_BYTES
  few = let sum = s.allowed_is in omega arith

  whole : IsAtEnd left → input ≡ s.taken
  whole ended = s.input_is ∙ ap (λ (x : List ℕ). s.taken ++ x) (none_left s.others left s.left_is ended) ∙ append-nil s.taken

  pub read_failed : WroteFront lexicon.lexicon input start between
  read_failed = front_served lexicon input s.taken s.others rest session start between Open s.input_is few s.served

  pub replied : (old : List ℕ) (now : Option (List ℕ)) → now ≡ left → HasNoEnd rest → start ≡ Some old → RepliedToTaken lexicon.lexicon input old now between
  replied old now same none told =
      replied_to_taken lexicon input s.taken s.others rest old session start now between s.input_is (same ∙ s.left_is) s.served none told

  pub rest_stopped : (now : Option (List ℕ)) → IsAtEnd left → HasStopped (lines_of_bytes rest) session between now → WroteFront lexicon.lexicon input start now
  rest_stopped now ended p = front_ended lexicon input s.taken rest session start between now (whole ended) few s.served p

  pub rest_front : (last : SessionValue) (now : Option (List ℕ)) (after : After) → IsAtEnd left → HasServed (lines_of_bytes rest) session last between now after
      → WroteFront lexicon.lexicon input start now
  rest_front last now after ended p = rest_stopped now ended (all_stopped (lines_of_bytes rest) session last between now after p)

  pub rest_served : (last : SessionValue) (now : Option (List ℕ)) (after : After) (old : List ℕ) → IsAtEnd left
      → HasServed (lines_of_bytes rest) session last between now after → start ≡ Some old → WroteSession lexicon.lexicon input old now Done
  rest_served last now after old ended p told =
      session_ended lexicon input s.taken rest old session last start between now after (whole ended) few s.served p told
