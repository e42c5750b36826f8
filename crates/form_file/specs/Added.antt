-- What is kept of the rules that were read, and what becomes of them when one more comes.
use Rattle.std.specs.Prelude.{◌≡◌, ℕ, ◌++◌, ◌⊎◌, ◌||◌, nat_le, nat_lt, Bool, true, false, Result, Ok, Err, List, [], ◌∷◌, length, map}
use Rattle.std.specs.List.{list_any}
use Rattle.lexicon_definitions.specs.declared.limits.TheConstants.{MOST_RULES, MOST_LEADS}
use Rattle.lexicon_definitions.specs.Rules.{Rule}
use Rattle.lexicon_definitions.specs.Leads.{with_lead, leads_of}
use Rattle.lexicon_text_definitions.specs.FileContents.{has_triple, different_v}
use Rattle.form_file.specs.declared.error.FileWhy.TheVariants.{Limit, Twice}
use Rattle.form_file.specs.declared.take_error.TakeError.{TakeError}
use Rattle.form_file.specs.declared.take_error.TakeError.TheVariants.{Why, Memory}
use Rattle.sandhi_rules.specs.declared.triple.Triple.{Triple}
use Rattle.sandhi_rules.specs.Triples.{triple_of}

-- these are the triples of the rules, in their order, and these are their leads
pub record AreKept (rules : List Rule) (triples : List Triple) (leads : List (List ℕ)) : Type 0 where
  pub alike : triples ≡ map triple_of rules
  pub leading : leads ≡ different_v rules

-- one of the rules has the triple of this one
abbrev pub has_twin : List Rule → Rule → Bool
has_twin rules new = list_any (has_triple new.u new.v new.w) rules

-- the rule is appended where no rule has its triple, and it is a twin where one has; memory may be wanting; a refusal leaves all
-- as it was
abbrev pub IsAdded : {A : Type 0} → List Rule → Rule → Result A TakeError → List Rule → Type 0
IsAdded old rule (Ok done) new = (has_twin old rule ≡ false) × (new ≡ old ++ rule ∷ [])
IsAdded old rule (Err (Why why)) new = (why ≡ Twice) × (has_twin old rule ≡ true) × (new ≡ old)
IsAdded old rule (Err Memory) new = new ≡ old

-- where no rule has the rule's triple the keys are those of all with it, and else they are those of the rules; memory may be wanting
abbrev pub AreReady : {A : Type 0} → List Rule → Rule → Result A TakeError → List Triple → List (List ℕ) → Type 0
AreReady rules rule (Ok done) triples leads = (has_twin rules rule ≡ false) × AreKept (rules ++ rule ∷ []) triples leads
AreReady rules rule (Err (Why why)) triples leads = (why ≡ Twice) × (has_twin rules rule ≡ true) × AreKept rules triples leads
AreReady rules rule (Err Memory) triples leads = AreKept rules triples leads

-- with this rule there are too many rules or leads
abbrev pub is_over : List Rule → Rule → Bool
is_over rules rule = nat_le MOST_RULES (length rules) || nat_lt MOST_LEADS (length (with_lead (leads_of rules) rule.v rule.after))

-- the only reason is that there are too many; memory may be wanting
abbrev pub IsOver : List Rule → Rule → TakeError → Type 0
IsOver rules rule (Why why) = (why ≡ Limit) × (is_over rules rule ≡ true)
IsOver rules rule Memory = Unit {0}

-- the rule is appended where there are not too many with it and no rule has its triple; else this is the reason; memory may be
-- wanting
abbrev pub IsAddedWithin : {A : Type 0} → List Rule → Rule → Result A TakeError → List Rule → Type 0
IsAddedWithin old rule (Ok done) new = (is_over old rule ≡ false) × (has_twin old rule ≡ false) × (new ≡ old ++ rule ∷ [])
IsAddedWithin old rule (Err (Why why)) new =
    ((why ≡ Limit) × (is_over old rule ≡ true)) ⊎ ((why ≡ Twice) × (is_over old rule ≡ false) × (has_twin old rule ≡ true))
IsAddedWithin old rule (Err Memory) new = Unit {0}
