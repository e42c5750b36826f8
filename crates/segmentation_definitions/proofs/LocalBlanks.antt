-- Blanks are local: for one blank by induction over the steps in their places, which the letters taken and the seams cut
-- the word into; then the two orders of "each blank" and "each step" are exchanged.
use Rattle.std.proofs.Common.{ℕ, ◌+◌, ◌<◌, ◌≤◌, inl, inr, List, [], ◌∷◌, All, arith}
use Rattle.std.specs.List.{AllByRecursion}
use Rattle.std.proofs.lemmas.Bool.{cases_lt}
use Rattle.lexicon_definitions.specs.Lexicons.{Lexicon, IsLexicon}
use Rattle.text_definitions.specs.Lines.{Line, IsLine}
use Rattle.segmentation_definitions.specs.Derivations.{Step, Derives}
use Rattle.segmentation_definitions.specs.Items.{Placed, placed}
use Rattle.segmentation_definitions.specs.Answers.{IsAtSomeSeam, KeepsBlanks}
use Rattle.segmentation_definitions.specs.LocalTests.{HasNoBlankAfterLast, KeepsBlanksLocally}
use Rattle.segmentation_definitions.proofs.Coverings.{AreInPlace, LastStep, EarlierStep, in_place}

-- ---- one blank

abbrev pub IsOutside : ℕ → Placed → Type 0
IsOutside blank p = p.at < blank → blank < p.at + p.taken → ⊥

abbrev pub IsNotAfter : List Placed → ℕ → Type 0
IsNotAfter [] blank = Unit {0}
IsNotAfter (p ∷ []) blank = blank ≤ p.at
IsNotAfter (p ∷ q ∷ ps) blank = IsNotAfter (q ∷ ps) blank

-- a blank at a seam stands after the beginning of the first step
seam_after : {lexicon : Lexicon} {letters : ℕ} {p : Placed} {ps : List Placed} (blank : ℕ) → AreInPlace lexicon letters (p ∷ ps)
    → IsAtSomeSeam lexicon.rules blank (p ∷ ps) → p.at ≤ blank
seam_after blank (LastStep stands last) seam = elim seam [ ]
seam_after blank (EarlierStep stands before rest) seam = elim seam [
  | inl here ↦ omega arith
  | inr later ↦ omega (arith, seam_after blank rest later)
]

-- a blank before the first step is outside each step, and before the last
outside_before : {lexicon : Lexicon} {letters : ℕ} {p : Placed} {ps : List Placed} (blank : ℕ) → AreInPlace lexicon letters (p ∷ ps)
    → blank ≤ p.at → AllByRecursion (IsOutside blank) (p ∷ ps)
outside_before blank (LastStep stands last) below = (λ above inside. omega arith, tt)
outside_before blank (EarlierStep stands before rest) below = (λ above inside. omega arith, outside_before blank rest (omega arith))

not_after_before : {lexicon : Lexicon} {letters : ℕ} {p : Placed} {ps : List Placed} (blank : ℕ) → AreInPlace lexicon letters (p ∷ ps)
    → blank ≤ p.at → IsNotAfter (p ∷ ps) blank
not_after_before blank (LastStep stands last) below = below
not_after_before blank (EarlierStep stands before rest) below = not_after_before blank rest (omega arith)

outside_at_seam : {lexicon : Lexicon} {letters : ℕ} {ps : List Placed} (blank : ℕ) → AreInPlace lexicon letters ps
    → IsAtSomeSeam lexicon.rules blank ps → AllByRecursion (IsOutside blank) ps
outside_at_seam blank (LastStep stands last) seam = elim seam [ ]
outside_at_seam blank (EarlierStep stands before rest) seam = elim seam [
  | inl here ↦ (λ above inside. omega arith, outside_before blank rest (omega arith))
  | inr later ↦ (λ above inside. omega (arith, seam_after blank rest later), outside_at_seam blank rest later)
]

not_after_at_seam : {lexicon : Lexicon} {letters : ℕ} {ps : List Placed} (blank : ℕ) → AreInPlace lexicon letters ps
    → IsAtSomeSeam lexicon.rules blank ps → IsNotAfter ps blank
not_after_at_seam blank (LastStep stands last) seam = elim seam [ ]
not_after_at_seam blank (EarlierStep stands before rest) seam = elim seam [
  | inl here ↦ not_after_before blank rest (omega arith)
  | inr later ↦ not_after_at_seam blank rest later
]

-- a blank that is outside each step, and after the first but not after the last, is at a seam
seam_from_outside : {lexicon : Lexicon} {letters : ℕ} {p : Placed} {ps : List Placed} (blank : ℕ) → AreInPlace lexicon letters (p ∷ ps)
    → p.at < blank → AllByRecursion (IsOutside blank) (p ∷ ps) → IsNotAfter (p ∷ ps) blank → IsAtSomeSeam lexicon.rules blank (p ∷ ps)
seam_from_outside blank (LastStep stands last) above outside not_after = absurd (omega arith)
seam_from_outside blank (EarlierStep {p = p} {q = q} stands before rest) above outside not_after = elim (cases_lt blank (p.at + p.taken)) [
  | inl inside ↦ absurd (outside.0 above inside)
  | inr following ↦ elim (cases_lt q.at blank) [
    | inl later ↦ inr (seam_from_outside blank rest later outside.1 not_after)
    | inr here ↦ inl (following, omega arith)
  ]
]

-- ---- all blanks

-- of each x each y is of each y each x
pub each_of_each : {X Y : Type 0} (R : X → Y → Type 0) (xs : List X) (ys : List Y)
    → All (λ x. AllByRecursion (R x) ys) xs → AllByRecursion (λ y. All (λ x. R x y) xs) ys
each_of_each R xs [] h = tt
each_of_each R xs (y ∷ ys) h = (λ k d lt. (h k d lt).0, each_of_each R xs ys (λ k d lt. (h k d lt).1))

pub each_of_each_back : {X Y : Type 0} (R : X → Y → Type 0) (xs : List X) (ys : List Y)
    → AllByRecursion (λ y. All (λ x. R x y) xs) ys → All (λ x. AllByRecursion (R x) ys) xs
each_of_each_back R xs [] h k d lt = tt
each_of_each_back R xs (y ∷ ys) h k d lt = (h.0 k d lt, each_of_each_back R xs ys h.1 k d lt)

none_after : (blanks : List ℕ) (ps : List Placed) → All (IsNotAfter ps) blanks → HasNoBlankAfterLast blanks ps
none_after blanks [] h = tt
none_after blanks (p ∷ []) h = h
none_after blanks (p ∷ q ∷ ps) h = none_after blanks (q ∷ ps) h

none_after_back : (blanks : List ℕ) (ps : List Placed) → HasNoBlankAfterLast blanks ps → All (IsNotAfter ps) blanks
none_after_back blanks [] h k d lt = tt
none_after_back blanks (p ∷ []) h k d lt = h k d lt
none_after_back blanks (p ∷ q ∷ ps) h k d lt = none_after_back blanks (q ∷ ps) h k d lt

pub locally_from_seams : (lexicon : Lexicon) (line : Line) (steps : List Step) → IsLexicon lexicon → Derives lexicon steps line.letters
    → KeepsBlanks lexicon.rules line.blanks steps → KeepsBlanksLocally lexicon.rules line.blanks steps
locally_from_seams lexicon line steps is derives seams =
    let stand = in_place lexicon line.letters steps is derives in
    record {
      inside = each_of_each IsOutside line.blanks (placed lexicon.rules steps) (λ k d lt. outside_at_seam _ stand (seams k d lt));
      following = none_after line.blanks (placed lexicon.rules steps) (λ k d lt. not_after_at_seam _ stand (seams k d lt));
    }

pub seams_from_locally : (lexicon : Lexicon) (line : Line) (steps : List Step) → IsLexicon lexicon → IsLine line → Derives lexicon steps line.letters
    → KeepsBlanksLocally lexicon.rules line.blanks steps → KeepsBlanks lexicon.rules line.blanks steps
seams_from_locally lexicon line [] is of_line derives locally k d lt = elim derives.ends [ ]
seams_from_locally lexicon line (step ∷ steps) is of_line derives locally k d lt =
    let outside = each_of_each_back IsOutside line.blanks (placed lexicon.rules (step ∷ steps)) locally.inside k d lt in
    let not_after = none_after_back line.blanks (placed lexicon.rules (step ∷ steps)) locally.following k d lt in
    seam_from_outside _ (in_place lexicon line.letters (step ∷ steps) is derives) (of_line.inside k d lt).0 outside not_after
