-- Rules of external sandhi (Huet 2005), each with sets of phases before and after it (own).
use Rattle.std.specs.Prelude.{◌≡◌, ◌≢◌, ℕ, zero, suc, ◌<◌, ◌^◌, ◌-◌, ◌↔◌, ◌&&◌, Bool, List, [], ◌∷◌, ◌++◌, codes, slice_index_or}
use Rattle.std.specs.Int.{IsBitSet}
use Rattle.std.specs.Str.{bytes_eq}
use Rattle.text_definitions.specs.Words.{IsWord}
use Rattle.text_definitions.specs.Slp1.{slp1_of_word}

-- a form that ends in u, of a phase in before, followed by a form that begins with v, of a phase in after, is written w
-- at the seam; bit k of a set of phases stands for phase k
pub record Rule : Type 0 where
  pub u : List ℕ
  pub v : List ℕ
  pub w : List ℕ
  pub before : ℕ
  pub after : ℕ

-- phase k is in the set of phases
abbrev pub HasPhase : ℕ → ℕ → Type 0
HasPhase phases k = IsBitSet phases k

-- the set of the first count phases
abbrev pub all_phases : ℕ → ℕ
all_phases count = 2 ^ count - 1

-- a rule is strict where u and w are not empty
abbrev pub IsStrict : Rule → Type 0
IsStrict rule = (rule.u ≢ []) × (rule.w ≢ [])

-- a rule is inner where v is not empty
abbrev pub IsInner : Rule → Type 0
IsInner rule = rule.v ≢ []

-- a rule is final where v is empty: it changes the end of the last form
abbrev pub IsFinal : Rule → Type 0
IsFinal rule = rule.v ≡ []

-- a rule is unlimited where before is all phases and, for an inner rule, after is all phases; else it is limited
abbrev pub IsUnlimited : ℕ → Rule → Type 0
IsUnlimited count rule = (rule.before ≡ all_phases count) × (IsInner rule → rule.after ≡ all_phases count)

-- the set of the phases after an unlimited rule with this v: all phases, or no phase where v is empty, so that the rule is final
abbrev pub phases_after : ℕ → List ℕ → ℕ
phases_after count [] = 0
phases_after count (letter ∷ v) = all_phases count

-- the rule with this triple that is unlimited over so many phases
abbrev pub unlimited_rule : ℕ → List ℕ → List ℕ → List ℕ → Rule
unlimited_rule count u v w =
    record { u = u; v = v; w = w; before = all_phases count; after = phases_after count v }

-- a rule over count phases is a strict triple of words with two sets of these phases; before is not empty, and after is
-- empty exactly where the rule is final
pub record IsRule (count : ℕ) (rule : Rule) : Type 0 where
  pub u_is_word : IsWord rule.u
  pub v_is_word : IsWord rule.v
  pub w_is_word : IsWord rule.w
  pub strict : IsStrict rule
  pub before_some : 0 < rule.before
  pub before_within : rule.before < 2 ^ count
  pub after_within : rule.after < 2 ^ count
  pub after_none : (rule.after ≡ 0) ↔ IsFinal rule

-- the two rules have the same triple
abbrev pub IsSameTriple : Rule → Rule → Type 0
IsSameTriple left right = (left.u ≡ right.u) × (left.v ≡ right.v) × (left.w ≡ right.w)

-- the test whether they have
abbrev pub is_twin : Rule → Rule → Bool
is_twin left right = bytes_eq left.u right.u && bytes_eq left.v right.v && bytes_eq left.w right.w

-- the number 0 stands for no change: u, v and w are empty
abbrev pub no_change : Rule
no_change = record { u = []; v = []; w = []; before = 0; after = 0 }

-- the rule with this number, counted from 1; a number past the last rule is no change either
abbrev pub rule_at : List Rule → ℕ → Rule
rule_at rules zero = no_change
rule_at rules (suc n) = slice_index_or rules n no_change

-- a rule's notation u|v>w, in SLP1
abbrev pub printed_rule : Rule → List ℕ
printed_rule rule = slp1_of_word rule.u ++ codes "|" ++ slp1_of_word rule.v ++ codes ">" ++ slp1_of_word rule.w
