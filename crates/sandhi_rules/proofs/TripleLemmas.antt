-- The set of the rules' triples has a triple exactly where some rule has it, rule by rule; a new one goes last with its rule.
use Rattle.std.proofs.Common.{◌≡◌, Bool, true, false, not, if◌then◌else◌, ◌||◌, nat_eq, List, [], ◌∷◌, ◌++◌, map, refl, sym, ◌∙◌, ap}
use Rattle.std.specs.Cmp.Lexicographic.{pointwise}
use Rattle.std.specs.List.{list_any}
use Rattle.std.proofs.lemmas.List.{map-append}
use Rattle.lexicon_definitions.specs.Rules.{Rule, is_twin}
use Rattle.sandhi_rules.specs.contracts.triple.TriplePartialEq.TheImpl.{eq-value as triple_eq}
use Rattle.sandhi_rules.specs.declared.triple.Triple.{Triple}
use Rattle.sandhi_rules.specs.Triples.{triple_of}
use Rattle.list_laws.proofs.Booleans.{not_of_each_other, and_regrouped}

same_triple : (new rule : Rule) → triple_eq.it (triple_of new) (triple_of rule) ≡ is_twin new rule
same_triple new rule = and_regrouped (pointwise nat_eq new.u rule.u) (pointwise nat_eq new.v rule.v) (pointwise nat_eq new.w rule.w)

-- the triples have the new one exactly where the rules do
any_triple : (new : Rule) (rules : List Rule) → list_any (triple_eq.it (triple_of new)) (map triple_of rules) ≡ list_any (is_twin new) rules
any_triple new [] = refl
any_triple new (rule ∷ rules) = λ i. same_triple new rule i || any_triple new rules i

-- one of the rules has the triple exactly where it was not new
pub twin_told : (old before : List Rule) (rule : Rule) (triples : List Triple) (triple : Triple) (is_new : Bool) → before ≡ old
    → triples ≡ map triple_of before → triple ≡ triple_of rule → is_new ≡ not (list_any (triple_eq.it triple) triples) → list_any (is_twin rule) old ≡ not is_new
twin_told old before rule triples triple is_new same alike is added =
    let all : triples ≡ map triple_of old = alike ∙ ap (map triple_of) same in
    sym (any_triple rule old) ∙ sym (λ i. list_any (triple_eq.it (is i)) (all i)) ∙ not_of_each_other (list_any (triple_eq.it triple) triples) is_new added

-- a new one goes last, as its rule does
pub triples_pushed : (before rules : List Rule) (rule : Rule) (triples after : List Triple) (triple : Triple) (is_new : Bool)
    → triples ≡ map triple_of before → triple ≡ triple_of rule
    → after ≡ (if list_any (triple_eq.it triple) triples then triples else triples ++ triple ∷ [])
    → is_new ≡ not (list_any (triple_eq.it triple) triples) → is_new ≡ true → rules ≡ before ++ rule ∷ [] → after ≡ map triple_of rules
triples_pushed before rules rule triples after triple is_new alike is put added new pushed =
    let absent : list_any (triple_eq.it triple) triples ≡ false = not_of_each_other (list_any (triple_eq.it triple) triples) is_new added ∙ ap not new in
    put ∙ ap (λ (b : Bool). if b then triples else triples ++ triple ∷ []) absent ∙ (λ i. alike i ++ is i ∷ [])
    ∙ sym (ap (map triple_of) pushed ∙ map-append triple_of before (rule ∷ []))
