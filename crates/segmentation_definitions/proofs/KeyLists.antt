-- Keys are compared by three numbers, so keys that compare as equal are the same, and so are lists of them. The keys of
-- steps that derive a word give the steps from the first to the last: each tells its phase, its rule and how many of the
-- word's letters it takes, and with them its form and what is left of the word.
use Rattle.std.proofs.Common.{◌≡◌, ℕ, List, [], ◌∷◌, ◌++◌, length, map, refl, sym, ◌∙◌, ap, arith}
use Rattle.std.specs.Cmp.{IsTotalOrder}
use Rattle.std.specs.Cmp.Lexicographic.{slice_cmp}
use Rattle.std.specs.Ordering.{nat_cmp}
use Rattle.std.specs.declared.cmp.Ordering.{Ordering}
use Rattle.std.proofs.lemmas.Cmp.{nat_cmp_total, lists_total, then_total, on_total, back_total}
use Rattle.std.proofs.lemmas.Map.Lookups.{CmpEqualImpliesEq, exact_unsigned}
use Rattle.std.proofs.lemmas.List.{append_assoc}
use Rattle.lexicon_definitions.specs.Lexicons.{RuleSet, rule_of}
use Rattle.segmentation_definitions.specs.Derivations.{Step, rule_after, Covers}
use Rattle.segmentation_definitions.specs.Items.{taken_by, placed_from}
use Rattle.segmentation_definitions.specs.Listings.{Key, key_of, keys_of, compare_answers, compare_keys, compare_key_lists}
use Rattle.segmentation_definitions.proofs.Coverings.{taken_length}
use Rattle.list_laws.proofs.Orderings.{equal_then_both}

-- the order of keys is total
pub compare_keys_total : IsTotalOrder compare_keys
compare_keys_total =
    then_total (on_total (λ (k : Key). k.phase) nat_cmp_total)
    (then_total (back_total (on_total (λ (k : Key). k.taken) nat_cmp_total)) (on_total (λ (k : Key). k.rule) nat_cmp_total))

-- the order of answers is total
pub compare_answers_total : (rules : RuleSet) → IsTotalOrder (compare_answers rules)
compare_answers_total rules = on_total (keys_of rules) (lists_total compare_keys_total)

-- keys with the same phase, number of letters and rule are the same
same_key : (left right : Key) → left.phase ≡ right.phase → left.taken ≡ right.taken → left.rule ≡ right.rule → left ≡ right
same_key left right p t r = λ i. record { phase = p i; taken = t i; rule = r i }

-- keys that compare as equal are the same
pub compare_keys_exact : CmpEqualImpliesEq compare_keys
compare_keys_exact left right e =
    let f = equal_then_both (nat_cmp left.phase right.phase) _ e in
    let g = equal_then_both (nat_cmp right.taken left.taken) _ f.1 in
    same_key left right (exact_unsigned _ _ f.0) (sym (exact_unsigned _ _ g.0)) (exact_unsigned _ _ g.1)

-- where elements that compare as equal are the same, so are lists
pub exact_lists : {X : Type 0} (R : X → X → Ordering) → CmpEqualImpliesEq R → CmpEqualImpliesEq (slice_cmp R)
exact_lists R exact [] [] e = refl
exact_lists R exact [] (y ∷ ys) e = cc
exact_lists R exact (x ∷ xs) [] e = cc
exact_lists R exact (x ∷ xs) (y ∷ ys) e =
    let f = equal_then_both (R x y) (slice_cmp R xs ys) e in
    let first : x ≡ y = exact x y f.0 in
    let later : xs ≡ ys = exact_lists R exact xs ys f.1 in
    cc

-- lists of keys that compare as equal are the same
pub compare_key_lists_exact : CmpEqualImpliesEq compare_key_lists
compare_key_lists_exact = exact_lists compare_keys compare_keys_exact

-- lists of the same length at the front of one list are the same, and so is what is after them
same_parts : {A : Type 0} (a b x y : List A) → length a ≡ length b → a ++ x ≡ b ++ y → (a ≡ b) × (x ≡ y)
same_parts [] [] x y l e = (refl, e)
same_parts [] (d ∷ b) x y l e = cc
same_parts (c ∷ a) [] x y l e = cc
same_parts (c ∷ a) (d ∷ b) x y l e =
    let rest : a ++ x ≡ b ++ y = cc in
    let len : length a ≡ length b = omega arith in
    let r = same_parts a b x y len rest in
    let front : c ∷ a ≡ d ∷ b = cc in
    (front, r.1)

-- lists with a first element are the same only where their first elements and their rests are
pub same_cons : {A : Type 0} (a b : A) (x y : List A) → a ∷ x ≡ b ∷ y → (a ≡ b) × (x ≡ y)
same_cons a b x y e = (cc, cc)

-- steps with the same phase, form and rule are the same
same_step : (left right : Step) → left.phase ≡ right.phase → left.form ≡ right.form → left.rule ≡ right.rule → left ≡ right
same_step left right p f r = λ i. record { phase = p i; form = f i; rule = r i }

-- the key of a step with this lead
abbrev pub key_at : RuleSet → List ℕ → Step → Key
key_at rules lead step = record { phase = step.phase; taken = taken_by rules lead step; rule = step.rule }

-- two first steps over one word with the same lead and the same key are the same, and leave the same rest
pub same_first_step : (rules : RuleSet) (lead lead' word word' : List ℕ) (x y : Step) (t b u c : List ℕ) → lead ≡ lead' → word ≡ word'
    → x.form ≡ lead ++ t ++ (rule_after rules x).u → word ≡ t ++ (rule_after rules x).w ++ b
    → y.form ≡ lead' ++ u ++ (rule_after rules y).u → word' ≡ u ++ (rule_after rules y).w ++ c
    → key_at rules lead x ≡ key_at rules lead' y → (x ≡ y) × (b ≡ c)
same_first_step rules lead lead' word word' x y t b u c l w fx wx fy wy k =
    let same_count = ap (λ (key : Key). key.taken) k in
    let count : length t ≡ length u = sym (taken_length rules lead x t fx) ∙ same_count ∙ taken_length rules lead' y u fy in
    let number : x.rule ≡ y.rule = ap (λ (key : Key). key.rule) k in
    let rule : rule_after rules x ≡ rule_after rules y = ap (rule_of rules) number in
    let parts = λ (step : Step) (taken following : List ℕ). append_assoc taken (rule_after rules step).w following in
    let same_word = sym (parts x t b) ∙ sym wx ∙ w ∙ wy ∙ parts y u c in
    let outer = same_parts t u _ _ count same_word in
    let inner = same_parts (rule_after rules x).w (rule_after rules y).w b c (ap (λ r. length r.w) rule) outer.1 in
    let taken : t ≡ u = outer.0 in
    let form : x.form ≡ y.form = cc in
    (same_step x y (ap (λ (key : Key). key.phase) k) form number, inner.1)

-- steps over one word with the same lead and the same keys are the same
pub same_steps : (rules : RuleSet) (xs ys : List Step) (i j : ℕ) (lead lead' word word' rest rest' : List ℕ) → lead ≡ lead' → word ≡ word'
    → Covers rules lead xs word rest → Covers rules lead' ys word' rest'
    → map key_of (placed_from rules i lead xs) ≡ map key_of (placed_from rules j lead' ys) → xs ≡ ys
same_steps rules [] [] i j lead lead' word word' rest rest' l w p q e = refl
same_steps rules [] (y ∷ ys) i j lead lead' word word' rest rest' l w p q e = cc
same_steps rules (x ∷ xs) [] i j lead lead' word word' rest rest' l w p q e = cc
same_steps rules (x ∷ xs) (y ∷ ys) i j lead lead' word word' rest rest' l w (t, b, fx, wx, p) (u, c, fy, wy, q) e =
    let keys = same_cons _ _ _ _ e in
    let first = same_first_step rules lead lead' word word' x y t b u c l w fx wx fy wy keys.0 in
    let here : x ≡ y = first.0 in
    let leads = ap (λ step. (rule_after rules step).v) here in
    let later : xs ≡ ys = same_steps rules xs ys _ _ _ _ b c rest rest' leads first.1 p q keys.1 in
    cc
