-- Which lexicons have a text of version 1 (own).
use Rattle.std.specs.Prelude.{◌≡◌, ◌≢◌, ℕ, List, [], length, All}
use Rattle.text_definitions.specs.Words.{IsWord}
use Rattle.lexicon_definitions.specs.Rules.{IsUnlimited}
use Rattle.lexicon_definitions.specs.Lexicons.{Lexicon, Form, IsLexicon}
use Rattle.lexicon_definitions.specs.Limits.{IsWithinLimits}
use Rattle.lexicon_text_definitions.specs.LexiconTexts.{text_of}

-- each stem of the form is a word that is not empty
abbrev pub HasSpelledStems : Form → Type 0
HasSpelledStems form = All (λ analysis. IsWord analysis.stem × (analysis.stem ≢ [])) form.analyses

-- the lexicon is within the limits, its rules are unlimited, and its stems have a spelling
pub record HasText (lexicon : Lexicon) : Type 0 where
  pub lexicon_itself : IsLexicon lexicon
  pub limits : IsWithinLimits lexicon
  pub unlimited : All (IsUnlimited (length lexicon.rules.names)) lexicon.rules.rules
  pub stems : All (λ forms. All HasSpelledStems forms) lexicon.phases

-- the bytes are the text of the lexicon
pub record IsTextOf (lexicon : Lexicon) (bytes : List ℕ) : Type 0 where
  pub has_text : HasText lexicon
  pub text : bytes ≡ text_of lexicon
