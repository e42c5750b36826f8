-- The triples of rules stand in the order of the rules, since no two rules have the same; so the place of a triple is that of the
-- first rule with its words.
use Rattle.std.proofs.Common.{◌≡◌, ℕ, ◌+◌, ◌<◌, Bool, true, false, cond, not, if◌then◌else◌, ◌&&◌, nat_eq, nat_lt, Option, Some, None, List, [], ◌∷◌, ◌++◌, length, map, get_or, take, AllPairs, refl, sym, ◌∙◌, ap, subst, arith, position}
use Rattle.std.specs.Prelude.{option_map}
use Rattle.std.specs.Cmp.Lexicographic.{pointwise}
use Rattle.std.specs.List.{list_any, position_or_len}
use Rattle.std.proofs.lemmas.Bool.{and_parts, false_from_ne_true}
use Rattle.std.proofs.lemmas.List.{length-map, take_more, get_or-take, get_or_default, length-take-le}
use Rattle.std.proofs.lemmas.List.Folds.{list_any_none}
use Rattle.list_laws.proofs.Booleans.{and_regrouped}
use Rattle.list_laws.proofs.Texts.{bytes_same}
use Rattle.lexicon_definitions.specs.Rules.{Rule, IsSameTriple, is_twin}
use Rattle.lexicon_definitions.specs.Lexicons.{RuleSet}
use Rattle.sandhi_rules.specs.declared.triple.Triple.{Triple}
use Rattle.sandhi_rules.specs.contracts.triple.TriplePartialEq.TheImpl.{eq-value as triple_eq}
use Rattle.sandhi_rules.specs.Triples.{triple_of}
use Rattle.sandhi_rules.proofs.TripleLemmas.{twin_told, triples_pushed}
use Rattle.chain_definitions.specs.ChainReadings.{has_words, rule_with_words}
use Rattle.joiner.specs.Triples.{words_of}

-- ---- rules that are put in

no_twin : (rule other : Rule) → (IsSameTriple other rule → ⊥) → is_twin rule other ≡ false
no_twin rule other differ =
    false_from_ne_true (is_twin rule other) (λ h.
    let parts = and_parts (pointwise nat_eq rule.u other.u && pointwise nat_eq rule.v other.v) (pointwise nat_eq rule.w other.w) h in
    let front = and_parts (pointwise nat_eq rule.u other.u) (pointwise nat_eq rule.v other.v) parts.0 in
    differ (sym (bytes_same rule.u other.u front.0), sym (bytes_same rule.v other.v front.1), sym (bytes_same rule.w other.w parts.1)))

none_before : (rules : List Rule) (k : ℕ) (rule : Rule) → AllPairs (λ left right. IsSameTriple left right → ⊥) rules → k < length rules
    → rule ≡ get_or rules k rule → list_any (is_twin rule) (take k rules) ≡ false
none_before rules k rule distinct low is =
    list_any_none (is_twin rule) (take k rules) (λ i d inside.
    let size : length (take k rules) ≡ k = length-take-le k rules (omega (arith, low)) in
    let below : i < k = omega (arith, inside, size) in
    let here : get_or rules k d ≡ rule = get_or_default rules k d rule low ∙ sym is in
    ap (is_twin rule) (get_or-take k rules i d below)
    ∙ no_twin rule (get_or rules i d)
    (subst (λ (r : Rule). IsSameTriple (get_or rules i d) r → ⊥) here (distinct i k d below low)))

when_not : (b : Bool) → false ≡ not b → b ≡ true
when_not true h = refl
when_not false h = absurd (cc)

-- the triple of one rule more goes last
pub triple_added : (rules : List Rule) (k : ℕ) (rule : Rule) (triples after : List Triple) (triple : Triple) (is_new : Bool)
    → AllPairs (λ left right. IsSameTriple left right → ⊥) rules → k < length rules → rule ≡ get_or rules k rule
    → triples ≡ map triple_of (take k rules) → triple ≡ triple_of rule
    → after ≡ (if list_any (triple_eq.it triple) triples then triples else triples ++ triple ∷ [])
    → is_new ≡ not (list_any (triple_eq.it triple) triples) → after ≡ map triple_of (take (k + 1) rules)
triple_added rules k rule triples after triple is_new distinct low is alike same put added =
    let told = twin_told (take k rules) (take k rules) rule triples triple is_new refl alike same added in
    let new : is_new ≡ true = when_not is_new (sym (none_before rules k rule distinct low is) ∙ told) in
    triples_pushed (take k rules) (take (k + 1) rules) rule triples after triple is_new alike same put added new
    (take_more rules k rule low ∙ ap (λ r. take k rules ++ r ∷ []) (sym is))

-- ---- the rule with some words

same_words : (triple : Triple) (rule : Rule) → triple_eq.it triple (triple_of rule) ≡ has_words (words_of triple) rule
same_words triple rule = and_regrouped (pointwise nat_eq triple.u rule.u) (pointwise nat_eq triple.v rule.v) (pointwise nat_eq triple.w rule.w)

places_same : (triple : Triple) (rules : List Rule)
    → position_or_len (triple_eq.it triple) (map triple_of rules) ≡ position_or_len (has_words (words_of triple)) rules
places_same triple [] = refl
places_same triple (rule ∷ rules) = λ i. cond (not (same_words triple rule i)) (1 + places_same triple rules i) 0

positions_same : (triple : Triple) (rules : List Rule) → position (triple_eq.it triple) (map triple_of rules) ≡ position (has_words (words_of triple)) rules
positions_same triple rules =
    let places = places_same triple rules in
    let size = length-map rules triple_of in
    λ i. cond (nat_lt (places i) (size i)) (Some (places i)) None

-- the number after the place of the triple is that of the rule with its words
pub number_found : (rules : RuleSet) (triples : List Triple) (triple : Triple) (place : Option ℕ) → triples ≡ map triple_of rules.rules
    → place ≡ position (triple_eq.it triple) triples → option_map (λ at. at + 1) place ≡ rule_with_words rules (Some (words_of triple))
number_found rules triples triple place are found =
    ap (option_map (λ at. at + 1)) (found ∙ ap (position (triple_eq.it triple)) are ∙ positions_same triple rules.rules)
