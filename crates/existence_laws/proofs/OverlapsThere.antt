-- The first overlaps of a lexicon are there: an overlap has one of finitely many phases, forms and rules, and each of its facts is
-- decided; the first ones are the front of all.
use Rattle.std.proofs.Common.{◌≡◌, ◌≢◌, ℕ, ◌+◌, ◌≤◌, ◌↔◌, inl, inr, Bool, true, false, List, [], ◌∷◌, ◌++◌, length, map, take, drop, refl, sym, subst, arith, Ordering}
use Rattle.std.specs.List.{Contains, flat_map}
use Rattle.std.specs.List.Sorted.{IsStrictlySortedBy}
use Rattle.std.specs.Cmp.{IsTotalOrder}
use Rattle.std.specs.Ordering.{nat_cmp}
use Rattle.std.specs.declared.cmp.Ordering.TheVariants.{Equal}
use Rattle.std.proofs.lemmas.Bool.{cases_eq}
use Rattle.std.proofs.lemmas.List.{take-append-drop, length-take, length-drop}
use Rattle.std.proofs.lemmas.Map.Lookups.{exact_unsigned, exact_bytes}
use Rattle.list_laws.specs.Firsts.{AreFirst, AreAll}
use Rattle.list_laws.proofs.Sorted.{Contains-from_take, Contains-from_drop, Contains-parts, following_front, sorted_front}
use Rattle.list_laws.proofs.Elements.{some_element, some_by_element}
use Rattle.list_laws.proofs.FirstOnes.{Contains-map}
use Rattle.list_laws.proofs.Orderings.{equal_then_both}
use Rattle.text_definitions.specs.Words.{compare_words}
use Rattle.lexicon_definitions.specs.Lexicons.{Lexicon, Form, rule_of, forms_of}
use Rattle.segmentation_definitions.specs.Derivations.{IsRuleNumber}
use Rattle.segmentation_definitions.proofs.Coverings.{phase_within}
use Rattle.segmentation_definitions.specs.Overlaps.{Overlap, IsOverlap, compare_overlaps}
use Rattle.segmentation_definitions.proofs.OverlapOrder.{compare_overlaps_total}
use Rattle.run_definitions.specs.Overlaps.{AreFirstOverlaps}
use Rattle.existence_laws.proofs.Decisions.{Decided, told_by, both, is_below, is_same_word}
use Rattle.existence_laws.proofs.FiniteLists.{numbers_below, Contains-numbers_below, Contains-flat_map, all_that_have}
use Rattle.existence_laws.proofs.AnswerDecisions.{has_phase, is_inner, is_rule_number, is_form}

-- ---- the front of all

is_some : {X : Type 0} (xs : List X) → (more : Bool) × ((more ≡ true) ↔ (xs ≢ []))
is_some [] = (false, ((λ e. cc), λ n. absurd (n refl)))
is_some (x ∷ xs) = (true, ((λ e n. cc), λ n. refl))

-- the first of all that have a property, at most so many
pub record FirstOnes {X : Type 0} (R : X → X → Ordering) (P : X → Type 0) (most : ℕ) : Type 0 where
  pub list : List X
  pub more : Bool
  pub first : AreFirst R P list more
  pub at_most : length list ≤ most
  pub full : more ≡ true → length list ≡ most

full_front : {X : Type 0} (most : ℕ) (xs : List X) (x : X) → Contains (drop most xs) x → length (take most xs) ≡ most
full_front most xs x (k, below, at) = omega (arith, length-take most xs, length-drop most xs)

pub front_of_all : {X : Type 0} {R : X → X → Ordering} (o : IsTotalOrder R) (P : X → Type 0) (all : List X) → AreAll R P all → (most : ℕ) → FirstOnes R P most
front_of_all {R = R} o P all are most =
    let front = take most all in
    let rest = drop most all in
    let more = is_some rest in
    let rising = subst (IsStrictlySortedBy R) (sym (take-append-drop most all)) are.rising in
    record {
      list = front;
      more = more.0;
      first = record {
        rising = sorted_front o front rest rising;
        only = λ x m. are.only x (Contains-from_take most all x m);
        complete = λ x p. elim (Contains-parts most all x (are.complete x p)) [
          | inl m ↦ inl m
          | inr m ↦ inr (more.1.1 (some_by_element rest x m), following_front o front rest x rising m)
        ];
        left = λ e. let (x, m) : (x : _) × Contains rest x = some_element rest (more.1.0 e) in (
          x,
          are.only x (Contains-from_drop most all x m),
          following_front o front rest x rising m,
        );
      };
      at_most = omega (arith, length-take most all);
      full = λ e. let last = some_element rest (more.1.0 e) in full_front most all last.0 last.1;
    }

-- ---- overlaps are decided

cons_is : (x y : ℕ) (xs ys : List ℕ) → x ≡ y → xs ≡ ys → x ∷ xs ≡ y ∷ ys
cons_is x y xs ys e f = cc

begins_with : (front form : List ℕ) → Decided ((rest : List ℕ) × (form ≡ front ++ rest))
begins_with [] form = inl (form, refl)
begins_with (x ∷ front) [] = inr (λ h. let e = h.1 in cc)
begins_with (x ∷ front) (y ∷ form) =
    told_by (λ h. (h.1.0, cons_is y x form (front ++ h.1.0) h.0 h.1.1)) (λ h. let e = h.1 in (cc, (h.0, cc)))
    (both (cases_eq y x) (begins_with front form))

ends_with : (form end : List ℕ) → Decided ((front : List ℕ) × (form ≡ front ++ end))
ends_with [] end = told_by (λ e. ([], e)) (λ h. nothing_before h.0 h.1) (is_same_word [] end)
  where
    nothing_before : (front : List ℕ) → [] ≡ front ++ end → [] ≡ end
    nothing_before [] e = e
    nothing_before (x ∷ front) e = cc
ends_with (x ∷ form) end = by_rest (is_same_word (x ∷ form) end) (ends_with form end)
  where
    later : (front : List ℕ) → x ∷ form ≡ front ++ end → (x ∷ form ≡ end → ⊥) → (front : List ℕ) × (form ≡ front ++ end)
    later [] e n = absurd (n e)
    later (y ∷ front) e n = (front, cc)

    by_rest : Decided (x ∷ form ≡ end) → Decided ((front : List ℕ) × (form ≡ front ++ end)) → Decided ((front : List ℕ) × (x ∷ form ≡ front ++ end))
    by_rest (inl e) d = inl ([], e)
    by_rest (inr n) (inl h) = inl (x ∷ h.0, cons_is x x form (h.0 ++ end) refl h.1)
    by_rest (inr n) (inr m) = inr (λ h. m (later h.0 h.1 n))

module _ (lexicon : Lexicon) where
  is_overlap : (overlap : Overlap) → Decided (IsOverlap lexicon overlap)
  is_overlap overlap =
      let before = rule_of lexicon.rules overlap.before in
      let after = rule_of lexicon.rules overlap.after in
      told_by
      (λ h.
      record {
        of_phase = h.0.0.0;
        inner = h.0.0.1;
        rule = h.0.1.0;
        precedes = h.0.1.1;
        follows = h.1.0.0;
        begins = h.1.0.1;
        ends = h.1.1.0;
        longer = h.1.1.1;
      })
      (λ o. (((o.of_phase, o.inner), (o.rule, o.precedes)), ((o.follows, o.begins), (o.ends, o.longer))))
      (both
      (both (both (is_form lexicon overlap.phase overlap.form) (both (is_rule_number lexicon.rules overlap.before) (is_inner before)))
      (both (is_rule_number lexicon.rules overlap.after) (has_phase before.after overlap.phase)))
      (both (both (has_phase after.before overlap.phase) (begins_with before.v overlap.form))
      (both (ends_with overlap.form after.u) (is_below (length overlap.form) (length (before.v ++ after.u))))))

  -- ---- and finitely many

  abbrev rule_numbers : List ℕ
  rule_numbers = numbers_below (length lexicon.rules.rules + 1)

  abbrev with_rules : ℕ → List ℕ → ℕ → List Overlap
  with_rules phase form before = map (λ after. record { phase = phase; form = form; before = before; after = after }) rule_numbers

  abbrev with_form : ℕ → List ℕ → List Overlap
  with_form phase form = flat_map (with_rules phase form) rule_numbers

  abbrev with_phase : ℕ → List Overlap
  with_phase phase = flat_map (with_form phase) (map (λ (form : Form). form.letters) (forms_of lexicon phase))

  abbrev candidates : List Overlap
  candidates = flat_map with_phase (numbers_below (length lexicon.phases))

  number_within : (number : ℕ) → IsRuleNumber lexicon.rules number → Contains rule_numbers number
  number_within number h = Contains-numbers_below (length lexicon.rules.rules + 1) number (omega (arith, h.1))

  is_candidate : (overlap : Overlap) → IsOverlap lexicon overlap → Contains candidates overlap
  is_candidate overlap o =
      let letters : List (List ℕ) = map (λ (form : Form). form.letters) (forms_of lexicon overlap.phase) in
      Contains-flat_map with_phase (numbers_below (length lexicon.phases)) overlap.phase overlap
      (Contains-numbers_below (length lexicon.phases) overlap.phase (phase_within lexicon overlap.phase overlap.form o.of_phase))
      (Contains-flat_map (with_form overlap.phase) letters overlap.form overlap o.of_phase
      (Contains-flat_map (with_rules overlap.phase overlap.form) rule_numbers overlap.before overlap (number_within overlap.before o.inner.0)
      (Contains-map (λ (after : ℕ). record { phase = overlap.phase; form = overlap.form; before = overlap.before; after = after }) rule_numbers
      overlap.after (number_within overlap.after o.rule))))

  overlaps_exact : (left right : Overlap) → compare_overlaps left right ≡ Equal → left ≡ right
  overlaps_exact left right e =
      let f = equal_then_both (nat_cmp left.phase right.phase) _ e in
      let g = equal_then_both (compare_words left.form right.form) _ f.1 in
      let h = equal_then_both (nat_cmp left.before right.before) _ g.1 in
      let phase = exact_unsigned left.phase right.phase f.0 in
      let form = exact_bytes left.form right.form g.0 in
      let before = exact_unsigned left.before right.before h.0 in
      let after = exact_unsigned left.after right.after h.1 in
      λ i. record { phase = phase i; form = form i; before = before i; after = after i }

  pub overlaps_there : (most : ℕ) → (overlaps : List Overlap) × (more : Bool) × AreFirstOverlaps lexicon most overlaps more
  overlaps_there most =
      let all = all_that_have compare_overlaps_total (IsOverlap lexicon) (λ x y p q e. overlaps_exact x y e) candidates
      (λ overlap m. is_overlap overlap) is_candidate in
      let first = front_of_all compare_overlaps_total (IsOverlap lexicon) all.0 all.1 most in
      (first.list, first.more, record { first = first.first; at_most = first.at_most; full = first.full })
