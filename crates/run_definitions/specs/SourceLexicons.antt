-- The lexicon of a rule set, tables and stems: as its forms it has the entries of all stems (after Huet 2005; exact clauses are
-- own).
use Rattle.std.specs.Prelude.{◌≡◌, ◌↔◌, ◌<◌, ◌⊎◌, List, Contains}
use Rattle.lexicon_definitions.specs.declared.limits.TheConstants.{MOST_FORM_LINES}
use Rattle.lexicon_definitions.specs.FormEntries.{Entry, HasEntry}
use Rattle.lexicon_definitions.specs.Lexicons.{RuleSet, Form, Lexicon, IsLexicon}
use Rattle.lexicon_definitions.specs.Limits.{count_lines}
use Rattle.morphology_definitions.specs.Inflection.{Class, Stem, AreAllInflected}
use Rattle.run_definitions.specs.LongTexts.{HasLongText}

-- the phases have just these entries
abbrev pub HaveJust : List (List Form) → List Entry → Type 0
HaveJust phases entries = (entry : Entry) → HasEntry phases entry ↔ Contains entries entry

-- the lexicon has this rule set, and as forms with analyses just the entries of all stems and all rows of their classes
pub record IsLexiconOf (rules : RuleSet) (classes : List Class) (stems : List Stem) (lexicon : Lexicon) : Type 0 where
  pub same_rules : lexicon.rules ≡ rules
  pub lexicon_itself : IsLexicon lexicon
  pub entries : List Entry
  pub inflected : AreAllInflected classes stems entries
  pub just_these : HaveJust lexicon.phases entries

-- the lexicon has too many lines of forms, or its newest text has too many bytes for a file
abbrev pub IsOversized : Lexicon → Type 0
IsOversized lexicon = (MOST_FORM_LINES < count_lines lexicon.phases) ⊎ HasLongText lexicon
