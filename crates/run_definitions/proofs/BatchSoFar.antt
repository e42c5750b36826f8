-- The replies to the first lines of a text begin the replies to all of its lines, by induction on the first lines.
use Rattle.std.proofs.Common.{◌≡◌, ℕ, ◌+◌, List, [], ◌∷◌, ◌++◌, sym, ◌∙◌, ap, subst, append_assoc, append-nil}
use Rattle.outside.specs.Files.{Files}
use Rattle.text_definitions.specs.Schemes.{Scheme}
use Rattle.lexicon_definitions.specs.Lexicons.{Lexicon}
use Rattle.lexicon_text_definitions.specs.FileLines as file
use Rattle.lexicon_text_definitions.specs.FileLines.{lines_of_bytes}
use Rattle.run_definitions.specs.Commands.{FileWord}
use Rattle.run_definitions.specs.Ends.{Outcome}
use Rattle.run_definitions.specs.SourceTells.{SourceTells, Missing, Refused, Holds, IsOutcomeAfter}
use Rattle.run_definitions.specs.BatchOutcomes.{numbered_reply, AreNumberedReplies, IsAnyText, no_text_fault, IsRepliesOutcome, IsTextOutcome, AreFirstReplies, IsTextSoFarWith, IsTextSoFar}
use Rattle.run_definitions.proofs.OneBuildOutcome.{one_telling}
use Rattle.run_definitions.proofs.OneBatchOutcome.{one_line_reply}

-- the first begin the second
abbrev pub Begins : List ℕ → List ℕ → Type 0
Begins front whole = (rest : List ℕ) × (whole ≡ front ++ rest)

pub same_begins : (front whole : List ℕ) → front ≡ whole → Begins front whole
same_begins front whole e = ([], sym e ∙ sym (append-nil front))

first_begin : (lexicon : Lexicon) (scheme : Scheme) (count number : ℕ) (lines others : List file.Line) (front whole : List ℕ)
    → AreNumberedReplies lexicon scheme count number lines front → AreNumberedReplies lexicon scheme count number (lines ++ others) whole
    → Begins front whole
first_begin lexicon scheme count number [] others front whole p q = (whole, ap (λ (x : List ℕ). x ++ whole) (sym p))
first_begin lexicon scheme count number (line ∷ lines) others front whole (reply, rest, is, e, p) (other, more, too, f, q) =
    let same : other ≡ reply = one_line_reply lexicon scheme count line.bytes other reply too is in
    let (tail, parts) : Begins rest more = first_begin lexicon scheme count (number + 1) lines others rest more p q in (
      tail,
      f ∙ (λ i. numbered_reply number (same i) ++ parts i) ∙ sym (append_assoc (numbered_reply number reply) rest tail)
          ∙ ap (λ (x : List ℕ). x ++ tail) (sym e),
    )

replies_begin : (lexicon : Lexicon) (scheme : Scheme) (count : ℕ) (bytes : List ℕ) (files : Files) (output : List ℕ) (outcome : Outcome)
    → AreFirstReplies lexicon scheme count bytes output → IsRepliesOutcome lexicon scheme count bytes files outcome → Begins output outcome.output
replies_begin lexicon scheme count bytes files output outcome p q =
    let whole = subst (λ (l : List file.Line). AreNumberedReplies lexicon scheme count 1 l q.output) p.first q.replies in
    let (rest, parts) = first_begin lexicon scheme count 1 p.lines p.others output q.output p.replies whole in
    (rest, ap (λ (o : Outcome). o.output) q.is ∙ parts)

text_begins_with : (tells : SourceTells (List ℕ)) (lexicon : Lexicon) (scheme : Scheme) (file : FileWord) (count : ℕ) (files : Files)
    (output : List ℕ) (outcome : Outcome) → IsTextSoFarWith tells lexicon scheme file count output
    → IsOutcomeAfter tells file files outcome (λ bytes. IsRepliesOutcome lexicon scheme count bytes files outcome) → Begins output outcome.output
text_begins_with Missing lexicon scheme file count files output outcome p q =
    same_begins output outcome.output (p ∙ sym (ap (λ (o : Outcome). o.output) q))
text_begins_with (Refused fault) lexicon scheme file count files output outcome p q =
    same_begins output outcome.output (p ∙ sym (ap (λ (o : Outcome). o.output) q))
text_begins_with (Holds bytes) lexicon scheme file count files output outcome p q =
    replies_begin lexicon scheme count bytes files output outcome p q

-- what may have come to be written with the text file begins the output of its outcome
pub text_begins : (lexicon : Lexicon) (scheme : Scheme) (file : FileWord) (count : ℕ) (files : Files) (output : List ℕ) (outcome : Outcome)
    → IsTextSoFar lexicon scheme file count files output → IsTextOutcome lexicon scheme file count files outcome → Begins output outcome.output
text_begins lexicon scheme file count files output outcome p q =
    let same = one_telling IsAnyText no_text_fault (λ bytes left right l r. l ∙ sym r) files file.name p.tells q.tells p.do_tell q.do_tell in
    text_begins_with q.tells lexicon scheme file count files output outcome
    (subst (λ (t : SourceTells (List ℕ)). IsTextSoFarWith t lexicon scheme file count output) same p.is_output) q.is_outcome

all_text_with : (tells : SourceTells (List ℕ)) (lexicon : Lexicon) (scheme : Scheme) (file : FileWord) (count : ℕ) (files : Files)
    (outcome : Outcome) → IsOutcomeAfter tells file files outcome (λ bytes. IsRepliesOutcome lexicon scheme count bytes files outcome)
    → IsTextSoFarWith tells lexicon scheme file count outcome.output
all_text_with Missing lexicon scheme file count files outcome p = ap (λ (o : Outcome). o.output) p
all_text_with (Refused fault) lexicon scheme file count files outcome p = ap (λ (o : Outcome). o.output) p
all_text_with (Holds bytes) lexicon scheme file count files outcome p = record {
  lines = lines_of_bytes bytes;
  others = [];
  first = sym (append-nil (lines_of_bytes bytes));
  replies = subst (λ (o : Outcome). AreNumberedReplies lexicon scheme count 1 (lines_of_bytes bytes) o.output) (sym p.is) p.replies;
}

-- all of the output may have come to be written
pub all_text : (lexicon : Lexicon) (scheme : Scheme) (file : FileWord) (count : ℕ) (files : Files) (outcome : Outcome)
    → IsTextOutcome lexicon scheme file count files outcome → IsTextSoFar lexicon scheme file count files outcome.output
all_text lexicon scheme file count files outcome p =
    record { tells = p.tells; do_tell = p.do_tell; is_output = all_text_with p.tells lexicon scheme file count files outcome p.is_outcome }
