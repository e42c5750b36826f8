-- A text in SLP1 has one line or one fault, and a line one page; so `split` has one outcome.
use Rattle.std.proofs.Common.{◌≡◌, ℕ, List, [], Ok, Err, sym, ◌∙◌, ap, subst}
use Rattle.outside.specs.Files.{Files}
use Rattle.text_definitions.specs.Lines.{Line}
use Rattle.text_definitions.specs.LineTexts.{LineFault}
use Rattle.lexicon_definitions.specs.Lexicons.{Lexicon}
use Rattle.segmentation_definitions.specs.Listings.{BeforeFirst}
use Rattle.segmentation_definitions.specs.PrintedAnswers.{printed_page}
use Rattle.segmentation_definitions.proofs.Listings.{same_page}
use Rattle.run_definitions.specs.Ends.{Outcome, Done, BadText, outcome_over}
use Rattle.run_definitions.specs.Refusals.{text_refusal}
use Rattle.run_definitions.specs.SplitOutcomes.{IsSplitPageOutcome, IsSplitTextOutcome, OfText, OfPage}

one_split_page : (lexicon : Lexicon) (line : Line) (count : ℕ) (files : Files) (a b : Outcome)
    → IsSplitPageOutcome lexicon line count files a → IsSplitPageOutcome lexicon line count files b → a ≡ b
one_split_page lexicon line count files a b p q =
    let page = same_page lexicon line [] BeforeFirst count p.answers q.answers p.more q.more p.page q.page in
    let printed : outcome_over files (printed_page lexicon.rules 1 p.answers p.more) Done
    ≡ outcome_over files (printed_page lexicon.rules 1 q.answers q.more) Done =
    λ i. outcome_over files (printed_page lexicon.rules 1 (page.0 i) (page.1 i)) Done in
    p.is ∙ printed ∙ sym q.is

-- `split` has one outcome over a lexicon
pub one_split_text : (lexicon : Lexicon) (text : List ℕ) (count : ℕ) (files : Files) (a b : Outcome)
    → IsSplitTextOutcome lexicon text count files a → IsSplitTextOutcome lexicon text count files b → a ≡ b
one_split_text lexicon text count files a b (OfText fault p e) (OfText other q f) =
    let same : Err fault ≡ Err other = sym p ∙ q in
    let same_fault : fault ≡ other = cc in
    e ∙ ap (λ (x : LineFault). outcome_over files (text_refusal x) (BadText x)) same_fault ∙ sym f
one_split_text lexicon text count files a b (OfText fault p e) (OfPage line q f) =
    let same : Err fault ≡ Ok line = sym p ∙ q in absurd (cc)
one_split_text lexicon text count files a b (OfPage line p e) (OfText fault q f) =
    let same : Ok line ≡ Err fault = sym p ∙ q in absurd (cc)
one_split_text lexicon text count files a b (OfPage line p e) (OfPage other q f) =
    let same : Ok line ≡ Ok other = sym p ∙ q in
    let same_line : line ≡ other = cc in
    one_split_page lexicon other count files a b (subst (λ (l : Line). IsSplitPageOutcome lexicon l count files a) same_line e) f
