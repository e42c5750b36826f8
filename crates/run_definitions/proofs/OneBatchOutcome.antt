-- The text file tells one thing, and by induction on its lines each of them has one reply.
use Rattle.std.proofs.Common.{◌≡◌, ℕ, ◌+◌, List, [], ◌∷◌, ◌++◌, Ok, Err, sym, ◌∙◌, ap, subst}
use Rattle.std.specs.Prelude.{codes}
use Rattle.outside.specs.Files.{Files}
use Rattle.text_definitions.specs.Lines.{Line}
use Rattle.text_definitions.specs.Schemes.{Scheme}
use Rattle.text_definitions.specs.LineTexts.{LineFault}
use Rattle.lexicon_definitions.specs.Lexicons.{Lexicon}
use Rattle.lexicon_text_definitions.specs.FileLines as file
use Rattle.lexicon_text_definitions.specs.FileLines.{lines_of_bytes}
use Rattle.segmentation_definitions.specs.Listings.{BeforeFirst, IsPage}
use Rattle.segmentation_definitions.specs.PrintedAnswers.{output_line, printed_page}
use Rattle.segmentation_definitions.proofs.Listings.{same_page}
use Rattle.session_definitions.specs.LineWhys.{why_no_line}
use Rattle.run_definitions.specs.Commands.{FileWord}
use Rattle.run_definitions.specs.Ends.{Outcome, Done, outcome_over}
use Rattle.run_definitions.specs.SourceTells.{SourceTells, IsOutcomeAfter}
use Rattle.run_definitions.specs.BatchOutcomes.{IsLineReply, OfFault, OfPage, numbered_reply, AreNumberedReplies, IsAnyText, no_text_fault, IsRepliesOutcome, IsTextOutcome}
use Rattle.run_definitions.proofs.OneBuildOutcome.{one_telling, one_after}

-- a line has one reply
pub one_line_reply : (lexicon : Lexicon) (scheme : Scheme) (count : ℕ) (text left right : List ℕ)
    → IsLineReply lexicon scheme count text left → IsLineReply lexicon scheme count text right → left ≡ right
one_line_reply lexicon scheme count text left right (OfFault fault p e) (OfFault other q f) =
    let same : Err fault ≡ Err other = sym p ∙ q in
    let same_fault : fault ≡ other = cc in
    e ∙ ap (λ (x : LineFault). output_line (codes "? " ++ why_no_line x)) same_fault ∙ sym f
one_line_reply lexicon scheme count text left right (OfFault fault p e) (OfPage line answers more q page f) =
    let same : Err fault ≡ Ok line = sym p ∙ q in absurd (cc)
one_line_reply lexicon scheme count text left right (OfPage line answers more p page e) (OfFault fault q f) =
    let same : Ok line ≡ Err fault = sym p ∙ q in absurd (cc)
one_line_reply lexicon scheme count text left right (OfPage line answers more p page e) (OfPage other answers_too more_too q page_too f) =
    let same : Ok line ≡ Ok other = sym p ∙ q in
    let same_line : line ≡ other = cc in
    let here = subst (λ (l : Line). IsPage lexicon l [] BeforeFirst count answers more) same_line page in
    let one = same_page lexicon other [] BeforeFirst count answers answers_too more more_too here page_too in
    e ∙ (λ i. printed_page lexicon.rules 1 (one.0 i) (one.1 i)) ∙ sym f

-- and so have all lines
one_list_of_replies : (lexicon : Lexicon) (scheme : Scheme) (count number : ℕ) (lines : List file.Line) (left right : List ℕ)
    → AreNumberedReplies lexicon scheme count number lines left → AreNumberedReplies lexicon scheme count number lines right → left ≡ right
one_list_of_replies lexicon scheme count number [] left right p q = p ∙ sym q
one_list_of_replies lexicon scheme count number (line ∷ lines) left right (reply, rest, is, e, p) (other, more, too, f, q) =
    let same : reply ≡ other = one_line_reply lexicon scheme count line.bytes reply other is too in
    let same_rest : rest ≡ more = one_list_of_replies lexicon scheme count (number + 1) lines rest more p q in
    e ∙ (λ i. numbered_reply number (same i) ++ same_rest i) ∙ sym f

one_replies_outcome : (lexicon : Lexicon) (scheme : Scheme) (count : ℕ) (bytes : List ℕ) (files : Files) (a b : Outcome)
    → IsRepliesOutcome lexicon scheme count bytes files a → IsRepliesOutcome lexicon scheme count bytes files b → a ≡ b
one_replies_outcome lexicon scheme count bytes files a b p q =
    let same = one_list_of_replies lexicon scheme count 1 (lines_of_bytes bytes) p.output q.output p.replies q.replies in
    p.is ∙ ap (λ (output : List ℕ). outcome_over files output Done) same ∙ sym q.is

-- with a lexicon, the text file gives one outcome
pub one_text_outcome : (lexicon : Lexicon) (scheme : Scheme) (file : FileWord) (count : ℕ) (files : Files) (a b : Outcome)
    → IsTextOutcome lexicon scheme file count files a → IsTextOutcome lexicon scheme file count files b → a ≡ b
one_text_outcome lexicon scheme file count files a b p q =
    let following = λ (outcome : Outcome) (bytes : List ℕ). IsRepliesOutcome lexicon scheme count bytes files outcome in
    let same = one_telling IsAnyText no_text_fault (λ bytes left right l r. l ∙ sym r) files file.name p.tells q.tells p.do_tell q.do_tell in
    one_after q.tells file files a b (following a) (following b) (λ bytes. one_replies_outcome lexicon scheme count bytes files a b)
    (subst (λ (t : SourceTells (List ℕ)). IsOutcomeAfter t file files a (following a)) same p.is_outcome) q.is_outcome
