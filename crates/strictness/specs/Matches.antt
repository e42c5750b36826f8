-- Which rules match a form, at its beginning or at its end, and the lists of rules that are tried.
use Rattle.std.specs.Prelude.{◌≡◌, ℕ, ◌-◌, ◌<◌, ◌≤◌, Some, List, ◌++◌, length, slice_get, slice_index_or, All, Contains}
use Rattle.std.specs.Global.{Vec}
use Rattle.std.specs.Ordering.{nat_cmp}
use Rattle.std.specs.List.Sorted.{IsStrictlySortedBy}
use Rattle.lexicon_definitions.specs.Rules.{IsInner, HasPhase}
use Rattle.lexicon_definitions.specs.Lexicons.{RuleSet, IsRuleSet, rule_of}
use Rattle.lexicon_definitions.specs.Limits.{IsRuleSetWithinLimits}
use Rattle.segmentation_definitions.specs.Derivations.{IsRuleNumber}
use Rattle.segmentation_definitions.specs.Overlaps.{Overlap}
use Rattle.list_laws.specs.Firsts.{AreAll}
use Rattle.strictness.specs.declared.letters.TheConstants.{CODES}
use Rattle.strictness.specs.declared.letters.LettersOfRules.{LettersOfRules}

-- the number is that of an inner rule that may precede the phase, and its v begins the form
pub record BeginsForm (rules : RuleSet) (phase : ℕ) (form : List ℕ) (number : ℕ) : Type 0 where
  pub rule : IsRuleNumber rules number
  pub inner : IsInner (rule_of rules number)
  pub precedes : HasPhase (rule_of rules number).after phase
  pub begins : (rest : List ℕ) × (form ≡ (rule_of rules number).v ++ rest)

-- the number is that of a rule that may follow the phase, and its u ends the form
pub record EndsForm (rules : RuleSet) (phase : ℕ) (form : List ℕ) (number : ℕ) : Type 0 where
  pub rule : IsRuleNumber rules number
  pub follows : HasPhase (rule_of rules number).before phase
  pub ends : (front : List ℕ) × (form ≡ front ++ (rule_of rules number).u)

-- the v of the one rule and the u of the other have more letters together than the form
abbrev pub AreLonger : RuleSet → ℕ → ℕ → List ℕ → Type 0
AreLonger rules before after form = length form < length ((rule_of rules before).v ++ (rule_of rules after).u)

-- the overlap is one of the form of the phase, whether or not the phase has the form
pub record IsInForm (rules : RuleSet) (phase : ℕ) (form : List ℕ) (overlap : Overlap) : Type 0 where
  pub phase_is : overlap.phase ≡ phase
  pub form_is : overlap.form ≡ form
  pub begins : BeginsForm rules phase form overlap.before
  pub ends : EndsForm rules phase form overlap.after
  pub longer : AreLonger rules overlap.before overlap.after form

-- the number is that of a rule whose v begins with the letter
pub record HasFirst (rules : RuleSet) (letter number : ℕ) : Type 0 where
  pub rule : IsRuleNumber rules number
  pub first : slice_get (rule_of rules number).v 0 ≡ Some letter

-- the number is that of a rule whose u ends with the letter
pub record HasLast (rules : RuleSet) (letter number : ℕ) : Type 0 where
  pub rule : IsRuleNumber rules number
  pub last : slice_get (rule_of rules number).u (length (rule_of rules number).u - 1) ≡ Some letter

-- the rules are a rule set within its limits, and these are the rules that begin and end with each letter, by its code
pub record AreLettersOf (rules : RuleSet) (letters : LettersOfRules) : Type 0 where
  pub set : IsRuleSet rules
  pub limits : IsRuleSetWithinLimits rules
  pub firsts : (letter : ℕ) (none : Vec ℕ) → letter < length letters.firsts.items
      → AreAll nat_cmp (HasFirst rules letter) (slice_index_or letters.firsts.items letter none).items
  pub lasts : (letter : ℕ) (none : Vec ℕ) → letter < length letters.lasts.items
      → AreAll nat_cmp (HasLast rules letter) (slice_index_or letters.lasts.items letter none).items
  pub all_firsts : length letters.firsts.items ≡ CODES
  pub all_lasts : length letters.lasts.items ≡ CODES

-- the numbers of rules, rising, among which are all that have the property
pub record AreCandidates (rules : RuleSet) (P : ℕ → Type 0) (numbers : List ℕ) : Type 0 where
  pub rising : IsStrictlySortedBy nat_cmp numbers
  pub rule : All (λ number. number ≤ length rules.rules) numbers
  pub complete : (number : ℕ) → P number → Contains numbers number
