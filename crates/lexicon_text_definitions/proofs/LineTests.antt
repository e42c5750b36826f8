-- The tests of a line's parts as facts, each by cases of the test or by induction on a list.
use Rattle.std.proofs.Common.{◌≡◌, ℕ, ◌<◌, true, false, cond, ◌&&◌, ◌||◌, List, [], ◌∷◌, ◌++◌, length, get_or, All, AllPairs, refl, ◌∙◌, ap, subst, arith, eqb}
use Rattle.std.specs.List.{AllByRecursion, list_any, list_all}
use Rattle.std.specs.Str.{bytes_eq}
use Rattle.std.proofs.lemmas.Bool.{and_parts, or_parts, and_from, false_from_ne_true, eqb-true, or_left}
use Rattle.std.proofs.lemmas.List.{get_or_append_left, get_or_at, length-append}
use Rattle.std.proofs.lemmas.List.Elements.{All-from_recursion, recursion_from_All}
use Rattle.std.proofs.lemmas.List.Quantifiers.{all_pairs_push}
use Rattle.std.proofs.lemmas.Slice.Eq.{bytes_eq-Decides}
use Rattle.lexicon_definitions.specs.GrammarTexts.{is_name_byte}
use Rattle.lexicon_definitions.specs.Lexicons.{IsPhaseName}
use Rattle.lexicon_definitions.specs.Rules.{Rule, IsSameTriple}
use Rattle.lexicon_text_definitions.specs.FileContents.{has_triple}
use Rattle.list_laws.proofs.Marks.{is_free}
use Rattle.list_laws.proofs.Texts.{bytes_same}

-- ---- pairs of a list

module _ {X : Type 0} (R : X → X → Type 0) where
  pub pairs_push : (xs : List X) (y : X) → AllPairs R xs → All (λ x. R x y) xs → AllPairs R (xs ++ y ∷ [])
  pairs_push xs y h all = all_pairs_push R xs y h all

  pub pairs_before : (xs : List X) (y : X) (ys : List X) → AllPairs R (xs ++ y ∷ ys) → All (λ x. R x y) xs
  pairs_before xs y ys h = λ k d below.
      let inside : length xs < length (xs ++ y ∷ ys) = omega (arith, length-append xs (y ∷ ys)) in
      let both = h k (length xs) d below inside in
      let first = get_or_append_left xs (y ∷ ys) d k below in
      let second = get_or_at xs y ys d (length xs) refl in
      subst (λ z. R z y) first (subst (λ z. R (get_or (xs ++ y ∷ ys) k d) z) second both)

-- ---- a phase's name

-- a name has no blank and no line end
name_byte_free : (mark byte : ℕ) → is_name_byte mark ≡ false → is_name_byte byte ≡ true → eqb byte mark ≡ false
name_byte_free mark byte n h = false_from_ne_true (eqb byte mark) (λ e. let same : byte ≡ mark = (eqb-true byte mark e) in let both = ap is_name_byte same in cc)

name_free : (mark : ℕ) (bytes : List ℕ) → is_name_byte mark ≡ false → list_all is_name_byte bytes ≡ true → is_free mark bytes ≡ true
name_free mark [] n h = refl
name_free mark (byte ∷ bytes) n h =
    let parts = and_parts (is_name_byte byte) (list_all is_name_byte bytes) h in
    ap (λ test. cond test false (is_free mark bytes)) (name_byte_free mark byte n parts.0) ∙ name_free mark bytes n parts.1

-- a name is free of each byte that no name has
pub free_name : (mark : ℕ) (name : List ℕ) → is_name_byte mark ≡ false → IsPhaseName name → is_free mark name ≡ true
free_name mark [] n h = refl
free_name mark (byte ∷ bytes) n h =
    let first : is_name_byte byte ≡ true = or_left _ _ (or_left _ _ h.0) in
    ap (λ test. cond test false (is_free mark bytes)) (name_byte_free mark byte n first) ∙ name_free mark bytes n h.2

-- ---- triples

pub triple_from_test : (u v w : List ℕ) (rule : Rule) → has_triple u v w rule ≡ true → (rule.u ≡ u) × (rule.v ≡ v) × (rule.w ≡ w)
triple_from_test u v w rule h =
    let parts = and_parts (bytes_eq rule.u u && bytes_eq rule.v v) (bytes_eq rule.w w) h in
    let front = and_parts (bytes_eq rule.u u) (bytes_eq rule.v v) parts.0 in
    (bytes_same rule.u u front.0, bytes_same rule.v v front.1, bytes_same rule.w w parts.1)

pub test_from_triple : (u v w : List ℕ) (rule : Rule) → rule.u ≡ u → rule.v ≡ v → rule.w ≡ w → has_triple u v w rule ≡ true
test_from_triple u v w rule d e f =
    and_from _ _ (and_from _ _ ((bytes_eq-Decides rule.u u).1 d) ((bytes_eq-Decides rule.v v).1 e)) ((bytes_eq-Decides rule.w w).1 f)

-- the rule is of another triple
abbrev pub IsOther : Rule → Rule → Type 0
IsOther left right = IsSameTriple left right → ⊥

others_by : (new : Rule) (rules : List Rule) → list_any (has_triple new.u new.v new.w) rules ≡ false → AllByRecursion (λ rule. IsOther rule new) rules
others_by new [] h = tt
others_by new (rule ∷ rules) h =
    let parts = or_parts (has_triple new.u new.v new.w rule) (list_any (has_triple new.u new.v new.w) rules) h in
    let other : IsOther rule new = λ (d, e, f). let same = test_from_triple new.u new.v new.w rule d e f in cc in
    (other, others_by new rules parts.1)

-- no rule has this one's triple
pub others_from_test : (new : Rule) (rules : List Rule) → list_any (has_triple new.u new.v new.w) rules ≡ false → All (λ rule. IsOther rule new) rules
others_from_test new rules h = All-from_recursion (λ rule. IsOther rule new) rules (others_by new rules h)

test_by : (new : Rule) (rules : List Rule) → AllByRecursion (λ rule. IsOther rule new) rules → list_any (has_triple new.u new.v new.w) rules ≡ false
test_by new [] h = refl
test_by new (rule ∷ rules) h =
    let first = false_from_ne_true (has_triple new.u new.v new.w rule) (λ e. h.0 (triple_from_test new.u new.v new.w rule e)) in
    ap (λ test. test || list_any (has_triple new.u new.v new.w) rules) first ∙ test_by new rules h.1

pub test_from_others : (new : Rule) (rules : List Rule) → All (λ rule. IsOther rule new) rules → list_any (has_triple new.u new.v new.w) rules ≡ false
test_from_others new rules h = test_by new rules (recursion_from_All (λ rule. IsOther rule new) rules h)
