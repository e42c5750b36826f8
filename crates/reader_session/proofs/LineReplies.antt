-- What is looked at of a line, and the replies to a line that is too long or empty.
use Rattle.std.proofs.Common.{◌≡◌, ℕ, ◌≤◌, ◌<◌, nat_lt, Bool, true, false, List, [], ◌∷◌, ◌++◌, length, refl, sym, ◌∙◌, ap, subst, arith}
use Rattle.std.specs.Prelude.{MatchBool, codes, ◌==◌, if◌then◌else◌}
use Rattle.std.proofs.lemmas.Bool.{lt-ltb, le-ltb, ne_eqb, eqb-true}
use Rattle.std.proofs.lemmas.List.{append-nil}
use Rattle.lexicon_text_definitions.specs.FileLines as file
use Rattle.segmentation_definitions.specs.PrintedAnswers.{output_line}
use Rattle.session_definitions.specs.declared.limits.TheConstants.{MOST_SESSION_LINE_BYTES}
use Rattle.session_definitions.specs.SessionLines.{without_return, line_text}
use Rattle.session_definitions.specs.Requests.{request_of}
use Rattle.session_definitions.specs.Replies.{refused, reply_in, IsReplyToText, IsReply}
use Rattle.reader_session.specs.declared.request.Request as asked_data
use Rattle.reader_session.specs.declared.request.Request.TheVariants as asked
use Rattle.reader_session.specs.Meant.{request_meant}
use Rattle.reader_session.specs.declared.after.After.TheVariants as after
use Rattle.reader_session.specs.SessionValues.{SessionValue, HasReplied}
use Rattle.reader_session.specs.Answered.{HasShortText}
use Rattle.reader_session.proofs.ShortTexts.{text_length, short_text}

-- a line of bytes that a line end follows, or not
abbrev pub line_with : List ℕ → Bool → file.Line
line_with bytes ended = record { bytes = bytes; ended = ended }

-- a carriage return at the end is dropped
pub dropped : (front : List ℕ) → without_return (front ++ 13 ∷ []) ≡ front
dropped [] = refl
dropped (byte ∷ []) = refl
dropped (byte ∷ next ∷ front) = ap (λ rest. byte ∷ rest) (dropped (next ∷ front))

-- any other byte stays
kept : (front : List ℕ) (byte : ℕ) → (byte == 13) ≡ false → without_return (front ++ byte ∷ []) ≡ front ++ byte ∷ []
kept [] byte other = ap (λ b. if b then [] else byte ∷ []) other
kept (first ∷ []) byte other = ap (λ rest. first ∷ rest) (kept [] byte other)
kept (first ∷ next ∷ front) byte other = ap (λ rest. first ∷ rest) (kept (next ∷ front) byte other)

-- the line by its front and its last byte
pub front_kept : (line front : List ℕ) (last : ℕ) → line ≡ front ++ last ∷ [] → last ≡ 13 → front ≡ without_return line
front_kept line front last is return = sym (ap without_return (is ∙ ap (λ b. front ++ b ∷ []) return) ∙ dropped front)

pub line_kept : (line front : List ℕ) (last : ℕ) → line ≡ front ++ last ∷ [] → (last ≡ 13 → ⊥) → line ≡ without_return line
line_kept line front last is other = is ∙ sym (kept front last (ne_eqb last 13 other)) ∙ ap without_return (sym is)

pub nothing_kept : (line : List ℕ) → length line ≡ 0 → line ≡ without_return line
nothing_kept [] e = refl
nothing_kept (byte ∷ line) e = absurd (omega (arith, e))

without_return_within : (bytes : List ℕ) → length (without_return bytes) ≤ length bytes
without_return_within [] = omega arith
without_return_within (byte ∷ []) = one_or_none (byte == 13)
  where
    one_or_none : (b : Bool) → length (if b then [] else byte ∷ []) ≤ 1
    one_or_none true = omega arith
    one_or_none false = omega arith
without_return_within (byte ∷ next ∷ bytes) =
    let shorter = without_return_within (next ∷ bytes) in
    omega (arith, shorter)

text_within : (bytes : List ℕ) (ended : Bool) → length (line_text (line_with bytes ended)) ≤ length bytes
text_within bytes true = without_return_within bytes
text_within bytes false = omega arith

-- what is asked to be read is short
short_if : (request : asked_data.Request) (most : ℕ) → text_length (request_meant request) ≤ most → most ≤ MOST_SESSION_LINE_BYTES
    → HasShortText request
short_if (asked.Text scheme text) most within few = omega (arith, within, few)
short_if (asked.Page count) most within few = tt
short_if asked.Summary most within few = tt
short_if (asked.Choose kept number) most within few = tt
short_if asked.Undo most within few = tt
short_if (asked.Tags number) most within few = tt
short_if asked.Mark most within few = tt
short_if (asked.Resume mark) most within few = tt
short_if asked.Quit most within few = tt
short_if asked.NoWord most within few = tt

pub short_request : (bytes : List ℕ) (ended : Bool) (text : List ℕ) (request : asked_data.Request) → length bytes ≤ MOST_SESSION_LINE_BYTES
    → text ≡ line_text (line_with bytes ended) → request_meant request ≡ request_of text → HasShortText request
short_request bytes ended text request few is meant =
    let asked_length : text_length (request_meant request) ≡ text_length (request_of text) = ap text_length meant in
    let of_text = short_text text in
    let text_is : length text ≡ length (line_text (line_with bytes ended)) = ap length is in
    let of_line = text_within bytes ended in
    short_if request (length bytes) (omega (arith, asked_length, of_text, text_is, of_line)) few

if_true : (P Q : Type 0) (b : Bool) → b ≡ true → P → MatchBool b P Q
if_true P Q true e p = p
if_true P Q false e p = absurd (cc (e))

if_false : (P Q : Type 0) (b : Bool) → b ≡ false → Q → MatchBool b P Q
if_false P Q true e q = absurd (cc (e))
if_false P Q false e q = q

-- a line that is too long is refused
pub long_line : (session : SessionValue) (bytes : List ℕ) (ended : Bool) (before now : List ℕ) → MOST_SESSION_LINE_BYTES < length bytes
    → now ≡ before ++ output_line (codes "? " ++ codes "long line")
    → HasReplied (IsReply session.searched.lexicon session.state (line_with bytes ended)) session session before now after.Open
long_line session bytes ended before now long bytes_are = record {
  reply = refused session.state (codes "long line");
  is_it = if_true _ _ (nat_lt MOST_SESSION_LINE_BYTES (length bytes)) (lt-ltb MOST_SESSION_LINE_BYTES (length bytes) long) refl;
  bytes = bytes_are;
  searched = refl;
  stands = refl;
}

-- an empty line has no reply
pub empty_line : (session : SessionValue) (bytes : List ℕ) (ended : Bool) (before : List ℕ) → length bytes ≤ MOST_SESSION_LINE_BYTES
    → line_text (line_with bytes ended) ≡ []
    → HasReplied (IsReply session.searched.lexicon session.state (line_with bytes ended)) session session before before after.Open
empty_line session bytes ended before few none = record {
  reply = reply_in session.state [];
  is_it = if_false _ _ (nat_lt MOST_SESSION_LINE_BYTES (length bytes)) (le-ltb MOST_SESSION_LINE_BYTES (length bytes) few)
      (subst (λ text. IsReplyToText session.searched.lexicon session.state text (reply_in session.state [])) (sym none) refl);
  bytes = sym (append-nil before);
  searched = refl;
  stands = refl;
}

-- nothing is left to be looked at
pub nothing_left : (text bytes : List ℕ) (ended : Bool) → (length text == 0) ≡ true → text ≡ line_text (line_with bytes ended)
    → line_text (line_with bytes ended) ≡ []
nothing_left text bytes ended none is = sym is ∙ empty text (eqb-true (length text) 0 none)
  where
    empty : (xs : List ℕ) → length xs ≡ 0 → xs ≡ []
    empty [] e = refl
    empty (x ∷ xs) e = absurd (omega (arith, e))
