-- What an answer is for a lexicon, a line of text and a reader's choices (derivation after Huet 2005; choices after Goyal
-- and Huet 2016; blanks are own).
use Rattle.std.specs.Prelude.{ℕ, ◌+◌, ◌≤◌, ◌⊎◌, MatchBool, List, [], ◌∷◌, length, All, Contains}
use Rattle.text_definitions.specs.Lines.{Line}
use Rattle.lexicon_definitions.specs.Lexicons.{Lexicon, RuleSet, IsPhaseWord}
use Rattle.segmentation_definitions.specs.Derivations.{Step, rule_after, phases_of, Derives}
use Rattle.segmentation_definitions.specs.Items.{Placed, placed, Item, items_of, Choice}

-- the blank stands at the seam after the step: in the w after it or at one of its ends
abbrev pub IsAtSeam : RuleSet → ℕ → Placed → Type 0
IsAtSeam rules blank p =
    (p.at + p.taken ≤ blank) × (blank ≤ p.at + p.taken + length (rule_after rules p.step).w)

-- the blank stands at the seam after some step that is not the last
abbrev pub IsAtSomeSeam : RuleSet → ℕ → List Placed → Type 0
IsAtSomeSeam rules blank [] = ⊥
IsAtSomeSeam rules blank (p ∷ []) = ⊥
IsAtSomeSeam rules blank (p ∷ q ∷ ps) = IsAtSeam rules blank p ⊎ IsAtSomeSeam rules blank (q ∷ ps)

-- each blank stands at a seam
abbrev pub KeepsBlanks : RuleSet → List ℕ → List Step → Type 0
KeepsBlanks rules blanks steps = All (λ blank. IsAtSomeSeam rules blank (placed rules steps)) blanks

-- a kept item is among the items, and a rejected one is not
abbrev pub KeepsChoice : List Item → Choice → Type 0
KeepsChoice items choice = MatchBool choice.kept (Contains items choice.item) (Contains items choice.item → ⊥)

-- each kept item is the item of some step, and no rejected item is the item of any step
abbrev pub KeepsChoices : RuleSet → List Choice → List Step → Type 0
KeepsChoices rules choices steps = All (KeepsChoice (items_of rules steps)) choices

-- an answer derives the line's word, its phases are a word of the grammar, and it keeps the blanks and the choices
pub record IsAnswer (lexicon : Lexicon) (line : Line) (choices : List Choice) (steps : List Step) : Type 0 where
  pub derives : Derives lexicon steps line.letters
  pub accepted : IsPhaseWord lexicon.rules (phases_of steps)
  pub blanks_kept : KeepsBlanks lexicon.rules line.blanks steps
  pub choices_kept : KeepsChoices lexicon.rules choices steps
