-- A text is that of one bookmark, and a line under choices has one answer, or none, or several with the same first two; so `annotate` has one
-- outcome.
use Rattle.std.proofs.Common.{◌≡◌, ℕ, List, Some, sym, ◌∙◌, ap, subst}
use Rattle.outside.specs.Files.{Files}
use Rattle.text_definitions.specs.Lines.{Line}
use Rattle.lexicon_definitions.specs.Lexicons.{Lexicon}
use Rattle.segmentation_definitions.specs.Derivations.{Step}
use Rattle.segmentation_definitions.specs.Items.{Choice}
use Rattle.segmentation_definitions.specs.Listings.{BeforeFirst, AtAnswer, IsNext, keys_of}
use Rattle.bookmark_definitions.specs.Bookmarks.{Bookmark}
use Rattle.note_definitions.proofs.OnlyAnswers.{one_next, one_only, none_after_only}
use Rattle.run_definitions.specs.Arguments.{FileWord}
use Rattle.run_definitions.specs.Ends.{Outcome, Several, outcome_over}
use Rattle.run_definitions.specs.AnnotateOutcomes.{IsMarkOver, printed_several, noted_outcome, IsNotedOutcome, OfOnly, OfNone, OfSeveral, IsMarkOutcome, OfNoMark, OfMark}

module _ (lexicon : Lexicon) (line : Line) (choices : List Choice) (out : FileWord) (files : Files) where
  -- what is told of the first two answers
  told_of : List Step → List Step → Outcome
  told_of first second =
      outcome_over files (printed_several lexicon.rules first second) (Several (keys_of lexicon.rules first) (keys_of lexicon.rules second))

  several_once : (first second third fourth : List Step) → IsNext lexicon line choices BeforeFirst first
      → IsNext lexicon line choices (AtAnswer first) second → IsNext lexicon line choices BeforeFirst third
      → IsNext lexicon line choices (AtAnswer third) fourth → told_of first second ≡ told_of third fourth
  several_once first second third fourth p q r s =
      let left = one_next lexicon line choices BeforeFirst first third p r in
      let after : IsNext lexicon line choices (AtAnswer third) second =
      subst (λ (steps : List Step). IsNext lexicon line choices (AtAnswer steps) second) left q in
      let right = one_next lexicon line choices (AtAnswer third) second fourth after s in
      λ i. told_of (left i) (right i)

  one_noted : (a b : Outcome) → IsNotedOutcome lexicon line choices out files a → IsNotedOutcome lexicon line choices out files b → a ≡ b
  unfolding told_of
  one_noted a b (OfOnly steps p e) (OfOnly other q f) =
      let same = one_only lexicon line choices steps other p q in
      e ∙ ap (λ (s : List Step). noted_outcome lexicon (record { line = line; choices = choices; steps = s }) out files) same ∙ sym f
  one_noted a b (OfOnly steps p e) (OfNone none f) = absurd (none steps p.answer)
  one_noted a b (OfOnly steps p e) (OfSeveral first second q r f) = absurd (none_after_only lexicon line choices steps first second p q r)
  one_noted a b (OfNone none e) (OfOnly steps q f) = absurd (none steps q.answer)
  one_noted a b (OfNone none e) (OfNone other f) = e ∙ sym f
  one_noted a b (OfNone none e) (OfSeveral first second q r f) = absurd (none first q.answer)
  one_noted a b (OfSeveral first second p q e) (OfOnly steps r f) = absurd (none_after_only lexicon line choices steps first second r p q)
  one_noted a b (OfSeveral first second p q e) (OfNone none f) = absurd (none first p.answer)
  one_noted a b (OfSeveral first second p q e) (OfSeveral third fourth r s f) = e ∙ several_once first second third fourth p q r s ∙ sym f

-- a text is that of one bookmark over a lexicon
pub one_mark : (lexicon : Lexicon) (text : List ℕ) (left right : Bookmark) → IsMarkOver lexicon text left → IsMarkOver lexicon text right
    → left ≡ right
one_mark lexicon text left right p q = let same : Some left ≡ Some right = sym p.read ∙ q.read in cc (same)

-- `annotate` has one outcome over a lexicon
pub one_mark_outcome : (lexicon : Lexicon) (text : List ℕ) (out : FileWord) (files : Files) (a b : Outcome)
    → IsMarkOutcome lexicon text out files a → IsMarkOutcome lexicon text out files b → a ≡ b
one_mark_outcome lexicon text out files a b (OfNoMark bad e) (OfNoMark other f) = e ∙ sym f
one_mark_outcome lexicon text out files a b (OfNoMark bad e) (OfMark mark over f) = absurd (bad mark over)
one_mark_outcome lexicon text out files a b (OfMark mark over e) (OfNoMark bad f) = absurd (bad mark over)
one_mark_outcome lexicon text out files a b (OfMark mark over e) (OfMark other too f) =
    let same = one_mark lexicon text mark other over too in
    one_noted lexicon other.line other.choices out files a b
    (subst (λ (m : Bookmark). IsNotedOutcome lexicon m.line m.choices out files a) same e) f
