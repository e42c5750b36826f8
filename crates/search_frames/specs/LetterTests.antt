-- What a key does where a search stands as far as the letters of the line, the blanks and the choices tell, whatever the
-- grammar says (own).
use Rattle.std.specs.Prelude.{◌≡◌, ℕ, ◌+◌, ◌<◌, ◌≤◌, Bool, List, length, All, Contains}
use Rattle.text_definitions.specs.Lines.{Line}
use Rattle.lexicon_definitions.specs.Rules.{IsInner, IsFinal}
use Rattle.lexicon_definitions.specs.Lexicons.{rule_of}
use Rattle.lexicon_definitions.specs.Leads.{leads_of}
use Rattle.segmentation_definitions.specs.Items.{Choice}
use Rattle.segmentation_definitions.specs.Listings.{Key}
use Rattle.derivation.specs.Guides.{IsEntranceOver, entrance_of}
use Rattle.derivation.specs.declared.entrance.Entrance.{Entrance}
use Rattle.annotated_trie.specs.Searched.{SearchedLexicon}
use Rattle.answer_paths.specs.Following.{MayStand}
use Rattle.search_frames.specs.declared.letter_testing.LetterTest.{LetterTest}
use Rattle.search_frames.specs.declared.letter_testing.LetterTest.TheVariants as test
use Rattle.search_frames.specs.Ahead.{MayBegin, IsRuleTest}
use Rattle.search_frames.specs.Configurations.{NumberedConfiguration, IsPossible, rules_in, after}

-- the step may stand here, and another form can follow it
pub record MayLeadOn (searched : SearchedLexicon) (line : Line) (choices : List Choice) (here : NumberedConfiguration) (key : Key) : Type 0 where
  pub stands : MayStand searched.lexicon line choices here.at here.entrance key
  pub inner : 0 < key.rule → IsInner (rule_of (rules_in searched) key.rule)
  pub left : key.rule ≡ 0 → here.at + key.taken < length line.letters

-- the step may stand here, and the line ends after it
pub record MayEndLine (searched : SearchedLexicon) (line : Line) (choices : List Choice) (here : NumberedConfiguration) (key : Key) : Type 0 where
  pub stands : MayStand searched.lexicon line choices here.at here.entrance key
  pub final_rule : 0 < key.rule → IsFinal (rule_of (rules_in searched) key.rule)
  pub all : here.at + key.taken + length (rule_of (rules_in searched) key.rule).w ≡ length line.letters
  pub blanks_before : All (λ blank. blank ≤ here.at) line.blanks

-- neither
pub record MayNeither (searched : SearchedLexicon) (line : Line) (choices : List Choice) (here : NumberedConfiguration) (key : Key) : Type 0 where
  pub leads_on : MayLeadOn searched line choices here key → ⊥
  pub ends : MayEndLine searched line choices here key → ⊥

-- another form can follow, entered so after so many letters
pub record MayLeadTo (searched : SearchedLexicon) (line : Line) (choices : List Choice) (here : NumberedConfiguration) (key : Key) (at : ℕ) (entrance : Entrance) : Type 0 where
  pub may : MayLeadOn searched line choices here key
  pub at_is : at ≡ (after searched line here key).at
  pub entrance_is : entrance_of (leads_of (rules_in searched).rules) entrance ≡ (after searched line here key).entrance
  pub within : at ≤ length line.letters
  pub over : IsEntranceOver (leads_of (rules_in searched).rules) entrance

-- the answer says what the key may do here
abbrev pub IsLetterTestOf : SearchedLexicon → Line → List Choice → NumberedConfiguration → Key → LetterTest → Type 0
IsLetterTestOf searched line choices here key test.Refused = MayNeither searched line choices here key
IsLetterTestOf searched line choices here key test.Ends = MayEndLine searched line choices here key
IsLetterTestOf searched line choices here key (test.LeadsOn at entrance) = MayLeadTo searched line choices here key at entrance

-- whichever its rule, each key with one that takes so many letters does at the place just what its rule does after these letters, with
-- this Bool to say whether the line may end there
abbrev pub DoAsRules : SearchedLexicon → Line → List Choice → NumberedConfiguration → ℕ → Bool → Type 0
DoAsRules searched line choices here taken may_end =
    (key : Key) (test : LetterTest) → key.taken ≡ taken → 0 < key.rule → IsPossible searched line here key → MayBegin here.entrance key.phase
    → IsRuleTest (rules_in searched) line (here.at + taken) may_end key.phase key.rule test → IsLetterTestOf searched line choices here key test

-- the same for keys with one of these rules
abbrev pub DoAsTheseRules : SearchedLexicon → Line → List Choice → NumberedConfiguration → ℕ → Bool → List ℕ → Type 0
DoAsTheseRules searched line choices here taken may_end rules =
    (key : Key) (test : LetterTest) → key.taken ≡ taken → 0 < key.rule → Contains rules key.rule → IsPossible searched line here key → MayBegin here.entrance key.phase
    → IsRuleTest (rules_in searched) line (here.at + taken) may_end key.phase key.rule test → IsLetterTestOf searched line choices here key test

-- no key with one of these rules that takes so many letters may stand at the place
abbrev pub NoneStands : SearchedLexicon → Line → List Choice → NumberedConfiguration → ℕ → List ℕ → Type 0
NoneStands searched line choices here taken rules =
    (key : Key) → key.taken ≡ taken → Contains rules key.rule → MayStand searched.lexicon line choices here.at here.entrance key → ⊥
