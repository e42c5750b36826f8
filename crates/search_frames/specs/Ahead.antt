-- What a line tells of every form that begins at a place, and what a rule does after so many letters of the line, wherever the
-- form before it begins (own).
use Rattle.std.specs.Prelude.{◌≡◌, ℕ, ◌+◌, ◌<◌, ◌≤◌, ◌↔◌, ◌⊎◌, Bool, IsTrue, List, length, take, drop, slice_index, All, Contains}
use Rattle.text_definitions.specs.Lines.{Line}
use Rattle.lexicon_definitions.specs.Leads.{leads_of}
use Rattle.lexicon_definitions.specs.Rules.{IsInner, IsFinal, HasPhase}
use Rattle.lexicon_definitions.specs.Lexicons.{RuleSet, rule_of, IsForm, IsPlain}
use Rattle.segmentation_definitions.specs.Items.{Choice}
use Rattle.segmentation_definitions.specs.Listings.{Key}
use Rattle.segmentation_definitions.specs.LocalTests.{Allows, HasNoBlankInside, IsLast}
use Rattle.segmentation_definitions.specs.Configurations.{Entrance, Start, Plain, Lead}
use Rattle.derivation.specs.declared.entrance.Entrance.{Entrance as ProgramEntrance}
use Rattle.derivation.specs.Guides.{IsEntranceOver, entrance_of}
use Rattle.annotated_trie.specs.Searched.{SearchedLexicon}
use Rattle.answer_paths.specs.Following.{MayEnter, is_start, step_at, placed_at}
use Rattle.search_frames.specs.declared.ahead.Ahead.{Ahead}
use Rattle.search_frames.specs.declared.letter_testing.LetterTest.{LetterTest}
use Rattle.search_frames.specs.declared.letter_testing.LetterTest.TheVariants as test
use Rattle.search_frames.specs.Configurations.{NumberedConfiguration, IsPossible, rules_in}

-- the blank is the first one after so many letters
pub record IsNextBlank (blanks : List ℕ) (at blank : ℕ) : Type 0 where
  pub there : Contains blanks blank
  pub later : at < blank
  pub first : All (λ other. at < other → other < blank → ⊥) blanks

-- a form that takes a letter of the line may be entered so: after a letter, this and the next letter of the line are a plain pair
abbrev pub LetsLetterIn : RuleSet → Line → ℕ → Entrance → Type 0
LetsLetterIn rules line at Start = Unit {0}
LetsLetterIn rules line at (Plain letter) = at < length line.letters → IsPlain rules letter (slice_index line.letters at)
LetsLetterIn rules line at (Lead v after) = Unit {0}

-- a form that takes no letter of the line may be entered so: after a letter, this and the first letter of the rule's u are a plain pair
abbrev pub LetsRuleIn : RuleSet → Entrance → ℕ → Type 0
LetsRuleIn rules Start rule = Unit {0}
LetsRuleIn rules (Plain letter) rule = 0 < length (rule_of rules rule).u → IsPlain rules letter (slice_index (rule_of rules rule).u 0)
LetsRuleIn rules (Lead v after) rule = Unit {0}

-- a form of the phase may be entered so: after a rule, this may precede the phase
abbrev pub MayBegin : Entrance → ℕ → Type 0
MayBegin Start phase = Unit {0}
MayBegin (Plain letter) phase = Unit {0}
MayBegin (Lead v after) phase = HasPhase after phase

-- what the line tells of the forms that begin at the place and are entered so: no blank stands between the place and the limit, and one
-- stands there unless the line ends there, or the place is there and no form that takes a letter may be entered; whether a blank stands
-- after the place; and whether the next letter of the line may begin a form
pub record IsAhead (rules : RuleSet) (line : Line) (at : ℕ) (entrance : Entrance) (ahead : Ahead) : Type 0 where
  pub low : at ≤ ahead.limit
  pub within : ahead.limit ≤ length line.letters
  pub blanks : All (λ blank. at < blank → blank < ahead.limit → ⊥) line.blanks
  pub stop : ahead.limit < length line.letters → (Contains line.blanks ahead.limit × (at < ahead.limit)) ⊎ (LetsLetterIn rules line at entrance → ⊥)
  pub ending : IsTrue ahead.may_end ↔ All (λ blank. blank ≤ at) line.blanks
  pub entering : IsTrue ahead.enters ↔ LetsLetterIn rules line at entrance

-- the form of a key with one of these rules that takes so many letters may be entered at the place just where the Bool says
abbrev pub LetIn : SearchedLexicon → Line → NumberedConfiguration → ℕ → List ℕ → Bool → Type 0
LetIn searched line here taken rules lets =
    (key : Key) → key.taken ≡ taken → Contains rules key.rule → IsPossible searched line here key → MayBegin here.entrance key.phase
    → IsTrue lets ↔ MayEnter (rules_in searched) here.entrance (step_at (rules_in searched) line here.at here.entrance key)

-- all that is asked of a key at a place but what its rule asks: the form may be entered, no blank stands inside, and the choices allow it
pub record FitsPlace (searched : SearchedLexicon) (line : Line) (choices : List Choice) (here : NumberedConfiguration) (key : Key) : Type 0 where
  pub number : key.rule ≤ length (rules_in searched).rules
  pub within : here.at + key.taken ≤ length line.letters
  pub form : IsForm searched.lexicon key.phase (step_at (rules_in searched) line here.at here.entrance key).form
  pub enters : MayEnter (rules_in searched) here.entrance (step_at (rules_in searched) line here.at here.entrance key)
  pub blanks : HasNoBlankInside line.blanks (placed_at (rules_in searched) line here.at here.entrance key)
  pub allowed : Allows (rules_in searched) (length line.letters) choices (is_start here.entrance) (placed_at (rules_in searched) line here.at here.entrance key)

-- each key that takes so many letters at the place, entered so, is allowed by the choices just where it is not last, or may be
-- last as the Bool says
abbrev pub AllowsWhicheverRule : RuleSet → List Choice → ℕ → Entrance → ℕ → Bool → Type 0
AllowsWhicheverRule rules choices at entrance taken may_end =
    (line : Line) (key : Key) → key.taken ≡ taken
    → Allows rules (length line.letters) choices (is_start entrance) (placed_at rules line at entrance key)
    ↔ (IsLast rules (length line.letters) (placed_at rules line at entrance key) → IsTrue may_end)

-- the rule may follow a form of the phase, and its w comes next after so many letters of the line
pub record RuleStands (rules : RuleSet) (line : Line) (end phase rule : ℕ) : Type 0 where
  pub follows : HasPhase (rule_of rules rule).before phase
  pub written : take (length (rule_of rules rule).w) (drop end line.letters) ≡ (rule_of rules rule).w

-- the rule stands there, and another form begins after so many letters, entered so
pub record RuleLeadsTo (rules : RuleSet) (line : Line) (end phase rule at : ℕ) (entrance : ProgramEntrance) : Type 0 where
  pub stands : RuleStands rules line end phase rule
  pub inner : IsInner (rule_of rules rule)
  pub at_is : at ≡ end + length (rule_of rules rule).w
  pub entrance_is : entrance_of (leads_of rules.rules) entrance ≡ Lead (rule_of rules rule).v (rule_of rules rule).after
  pub over : IsEntranceOver (leads_of rules.rules) entrance

-- the rule stands there, and the line ends after it, as it may
pub record RuleEnds (rules : RuleSet) (line : Line) (end : ℕ) (may_end : Bool) (phase rule : ℕ) : Type 0 where
  pub stands : RuleStands rules line end phase rule
  pub final_rule : IsFinal (rule_of rules rule)
  pub all : end + length (rule_of rules rule).w ≡ length line.letters
  pub may : IsTrue may_end

-- neither
pub record RuleFails (rules : RuleSet) (line : Line) (end : ℕ) (may_end : Bool) (phase rule : ℕ) : Type 0 where
  pub leads : RuleStands rules line end phase rule → IsInner (rule_of rules rule) → ⊥
  pub ends : RuleEnds rules line end may_end phase rule → ⊥

-- the answer says what the rule does after a form of the phase that ends after so many letters of the line, wherever the form begins
abbrev pub IsRuleTest : RuleSet → Line → ℕ → Bool → ℕ → ℕ → LetterTest → Type 0
IsRuleTest rules line end may_end phase rule test.Refused = RuleFails rules line end may_end phase rule
IsRuleTest rules line end may_end phase rule test.Ends = RuleEnds rules line end may_end phase rule
IsRuleTest rules line end may_end phase rule (test.LeadsOn at entrance) = RuleLeadsTo rules line end phase rule at entrance
