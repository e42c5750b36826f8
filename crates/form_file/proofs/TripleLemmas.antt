-- A rule is a twin of another exactly where it has its triple, word by word.
use Rattle.std.proofs.Common.{◌≡◌, ℕ, Bool, true, false, not, if◌then◌else◌, Err, ◌&&◌, ◌||◌, List, [], ◌∷◌, ◌++◌, map, refl, sym, ◌∙◌, ap, subst}
use Rattle.std.specs.List.{list_any}
use Rattle.std.specs.Str.{bytes_eq}
use Rattle.lexicon_definitions.specs.Rules.{Rule, is_twin}
use Rattle.lexicon_text_definitions.specs.FileContents.{has_triple}
use Rattle.sandhi_rules.specs.contracts.triple.TriplePartialEq.TheImpl.{eq-value as triple_eq}
use Rattle.form_file.specs.declared.error.FileWhy.TheVariants.{Twice}
use Rattle.form_file.specs.declared.take_error.TakeError.{TakeError}
use Rattle.form_file.specs.declared.take_error.TakeError.TheVariants.{Why, Memory}
use Rattle.sandhi_rules.specs.declared.triple.Triple.{Triple}
use Rattle.form_file.specs.Added.{AreKept, AreReady, IsAdded, has_twin}
use Rattle.sandhi_rules.specs.Triples.{triple_of}
use Rattle.list_laws.proofs.Booleans.{not_of_each_other}
use Rattle.list_laws.proofs.Texts.{bytes_same, bytes_itself}
use Rattle.std.specs.Cmp.{both_ways}
use Rattle.sandhi_rules.proofs.TripleLemmas.{twin_told as twin_by_test}

-- both tests of two words say the same, whichever word is first
same_words : (x y : List ℕ) → bytes_eq x y ≡ bytes_eq y x
same_words x y =
    both_ways (bytes_eq x y) (bytes_eq y x)
    (λ e. subst (λ w. bytes_eq w x ≡ true) (bytes_same x y e) (bytes_itself x))
    (λ e. subst (λ w. bytes_eq w y ≡ true) (bytes_same y x e) (bytes_itself y))

same_test : (new rule : Rule) → is_twin new rule ≡ has_triple new.u new.v new.w rule
same_test new rule = λ i. same_words new.u rule.u i && same_words new.v rule.v i && same_words new.w rule.w i

-- one of the rules is a twin of the new one exactly where one has its triple
same_tests : (new : Rule) (rules : List Rule) → list_any (is_twin new) rules ≡ has_twin rules new
same_tests new [] = refl
same_tests new (rule ∷ rules) = λ i. same_test new rule i || same_tests new rules i

-- one of the rules has the triple exactly where it was not new
pub twin_told : (old before : List Rule) (rule : Rule) (triples : List Triple) (triple : Triple) (is_new : Bool) → before ≡ old
    → triples ≡ map triple_of before → triple ≡ triple_of rule → is_new ≡ not (list_any (triple_eq.it triple) triples) → has_twin old rule ≡ not is_new
twin_told old before rule triples triple is_new same alike is added =
    sym (same_tests rule old) ∙ twin_by_test old before rule triples triple is_new same alike is added

-- where it was there the triples stay
pub triples_kept : (rules : List Rule) (triples after : List Triple) (triple : Triple) (is_new : Bool) → triples ≡ map triple_of rules
    → after ≡ (if list_any (triple_eq.it triple) triples then triples else triples ++ triple ∷ []) → is_new ≡ not (list_any (triple_eq.it triple) triples)
    → is_new ≡ false → after ≡ map triple_of rules
triples_kept rules triples after triple is_new alike put added old =
    put ∙ ap (λ (there : Bool). if there then triples else triples ++ triple ∷ []) (not_of_each_other (list_any (triple_eq.it triple) triples) is_new added ∙ ap not old)
    ∙ alike

-- then a rule with the triple is refused
pub refused : (rules : List Rule) (rule : Rule) (error : TakeError) (triples : List Triple) (leads : List (List ℕ)) → error ≡ Why Twice → has_twin rules rule ≡ true
    → AreKept rules triples leads → AreReady {A = Unit {0}} rules rule (Err error) triples leads
refused rules rule error triples leads why twin kept = subst (λ (e : TakeError). AreReady {A = Unit {0}} rules rule (Err e) triples leads) (sym why) (refl, twin, kept)

-- after a refusal the keys are those of the rules, which stay
pub keys_stay : (rules : List Rule) (rule : Rule) (error : TakeError) (triples : List Triple) (leads : List (List ℕ)) → AreReady {A = Unit {0}} rules rule (Err error) triples leads
    → AreKept rules triples leads
keys_stay rules rule (Why why) triples leads ready = ready.2
keys_stay rules rule Memory triples leads ready = ready

pub rules_stay : (old before now : List Rule) (rule : Rule) (error : TakeError) (triples : List Triple) (leads : List (List ℕ)) → before ≡ old → now ≡ old
    → AreReady {A = Unit {0}} before rule (Err error) triples leads → IsAdded {A = Unit {0}} old rule (Err error) now
rules_stay old before now rule (Why why) triples leads kept same ready = (ready.0, ap (λ (rules : List Rule). has_twin rules rule) (sym kept) ∙ ready.1, same)
rules_stay old before now rule Memory triples leads kept same ready = same
