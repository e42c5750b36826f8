-- What is asked of the sources of a lexicon, which is so of all that are read; and what a refusal says of them.
use Rattle.std.specs.Prelude.{◌<◌, List, length, All}
use Rattle.lexicon_definitions.specs.declared.limits.TheConstants.{MOST_FORM_LINES}
use Rattle.lexicon_definitions.specs.Lexicons.{RuleSet, Lexicon, IsRuleSet}
use Rattle.lexicon_definitions.specs.Limits.{IsRuleSetWithinLimits, count_lines}
use Rattle.morphology_definitions.specs.Inflection.{Class, Stem, IsInflectableStem}
use Rattle.run_definitions.specs.SoundSources.{HasSoundRows, HasStemWord}
use Rattle.run_definitions.specs.SourceLexicons.{IsLexiconOf}
use Rattle.lexicon_builder.specs.declared.error.BuildError.{BuildError}
use Rattle.lexicon_builder.specs.declared.error.BuildError.TheVariants.{Limit, Memory}

-- a rule set within the limits; classes whose rows have its phases, tags and words; and stems that are words, each with a form for each row
-- of its class
pub record AreSources (rules : RuleSet) (classes : List Class) (stems : List Stem) : Type 0 where
  pub rule_set : IsRuleSet rules
  pub limits : IsRuleSetWithinLimits rules
  pub rows : All (HasSoundRows (length rules.names)) classes
  pub words : All HasStemWord stems
  pub inflectable : All (IsInflectableStem classes) stems

-- the lexicon of the sources has too many lines of forms
pub record HaveTooManyLines (rules : RuleSet) (classes : List Class) (stems : List Stem) : Type 0 where
  pub lexicon : Lexicon
  pub is_of : IsLexiconOf rules classes stems lexicon
  pub lines : MOST_FORM_LINES < count_lines lexicon.phases

-- what holds where the lexicon is too large, and memory was not wanting
abbrev pub IfLimit : BuildError → Type 0 → Type 0
IfLimit Limit P = P
IfLimit Memory P = Unit {0}
