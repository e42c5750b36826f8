-- A loop over rising keys, each turn of which appends the first overlaps with its key: those with one of the keys so far are
-- appended, and a later turn's come after those of an earlier one.
use Rattle.std.proofs.Common.{◌≡◌, ℕ, ◌+◌, ◌<◌, ◌≤◌, ◌⊎◌, inl, inr, List, [], ◌∷◌, ◌++◌, length, take, get_or, sym, subst, ◌∙◌, arith}
use Rattle.std.specs.List.{Contains}
use Rattle.std.specs.List.Sorted.{IsStrictlySortedBy}
use Rattle.std.specs.declared.cmp.Ordering.{Ordering}
use Rattle.std.specs.declared.cmp.Ordering.TheVariants.{Less}
use Rattle.std.proofs.lemmas.List.{length-take, take_more, take_all, get_or-take, get_or_default}
use Rattle.std.proofs.lemmas.List.Elements.{Contains-append_left, Contains-push, Contains-push_cases}
use Rattle.std.proofs.lemmas.Map.Keys.{Less-from_sorted}
use Rattle.list_laws.proofs.Sorted.{not_Contains-nil}
use Rattle.segmentation_definitions.specs.Overlaps.{Overlap, compare_overlaps}
use Rattle.strictness.specs.Appending.{AppendsFirst}
use Rattle.strictness.specs.declared.found.Found.{Found}
use Rattle.strictness.proofs.AppendedFirsts.{appends_none, appends_with, appends_both}

-- the keys before a place are below the key there
pub earlier_is_less : {K : Type 0} (R : K → K → Ordering) (keys : List K) (i : ℕ) (none key : K) → IsStrictlySortedBy R keys
    → i < length keys → Contains (take i keys) key → R key (get_or keys i none) ≡ Less
earlier_is_less R keys i none key sorted below (j, within, is) =
    let shorter : j < i = omega (arith, length-take i keys) in
    let at : get_or keys j key ≡ key = sym (get_or-take i keys j key shorter) ∙ is in
    let less : R (get_or keys j key) (get_or keys i key) ≡ Less = Less-from_sorted R keys j i key sorted shorter below in
    subst (λ k. R k (get_or keys i none) ≡ Less) at
    (subst (λ k. R (get_or keys j key) k ≡ Less) (get_or_default keys i key none below) less)

-- one place more is another key
pub taken_before : {K : Type 0} (keys : List K) (i : ℕ) (none key : K) → i < length keys → Contains (take i keys) key → Contains (take (i + 1) keys) key
taken_before keys i none key below m =
    subst (λ ks. Contains ks key) (sym (take_more keys i none below)) (Contains-append_left (take i keys) (get_or keys i none ∷ []) key m)

pub taken_here : {K : Type 0} (keys : List K) (i : ℕ) (none key : K) → i < length keys → key ≡ get_or keys i none → Contains (take (i + 1) keys) key
taken_here keys i none key below e =
    subst (λ ks. Contains ks key) (sym (take_more keys i none below))
    (subst (λ k. Contains (take i keys ++ get_or keys i none ∷ []) k) (sym e) (Contains-push (take i keys) (get_or keys i none)))

pub taken_cases : {K : Type 0} (keys : List K) (i : ℕ) (none key : K) → i < length keys → Contains (take (i + 1) keys) key
    → Contains (take i keys) key ⊎ (key ≡ get_or keys i none)
taken_cases keys i none key below m =
    elim (Contains-push_cases (take i keys) (get_or keys i none) key (subst (λ ks. Contains ks key) (take_more keys i none below) m)) [
      | inl n ↦ inl n
      | inr e ↦ inr (sym e)
    ]

-- has the property, and its key is among the first so many keys
abbrev pub HasKeyAmong : {K : Type 0} → (Overlap → K) → (Overlap → Type 0) → List K → ℕ → Overlap → Type 0
HasKeyAmong key Q keys count x = Q x × Contains (take count keys) (key x)

-- the property's overlaps rise as their keys do
abbrev pub RisesWith : {K : Type 0} → (K → K → Ordering) → (Overlap → K) → (Overlap → Type 0) → Type 0
RisesWith R key Q = (x y : Overlap) → Q x → Q y → R (key x) (key y) ≡ Less → compare_overlaps x y ≡ Less

module _ {K : Type 0} (R : K → K → Ordering) (key : Overlap → K) (Q : Overlap → Type 0) where
  pub no_key : (keys : List K) (found : Found) → AppendsFirst (HasKeyAmong key Q keys 0) found found
  no_key keys found = appends_none (HasKeyAmong key Q keys 0) found (λ x h. not_Contains-nil (key x) h.1)

  pub key_more : RisesWith R key Q → (keys : List K) (i : ℕ) (none : K) (before between after : Found) → IsStrictlySortedBy R keys → i < length keys
      → AppendsFirst (HasKeyAmong key Q keys i) before between → AppendsFirst (λ x. Q x × (key x ≡ get_or keys i none)) between after
      → AppendsFirst (HasKeyAmong key Q keys (i + 1)) before after
  key_more rise keys i none before between after sorted below these one =
      let P = HasKeyAmong key Q keys i in
      let H : Overlap → Type 0 = λ x. Q x × (key x ≡ get_or keys i none) in
      appends_with (λ x. P x ⊎ H x) (HasKeyAmong key Q keys (i + 1)) before after
      (λ x h. elim h [
        | inl p ↦ (p.0, taken_before keys i none (key x) below p.1)
        | inr q ↦ (q.0, taken_here keys i none (key x) below q.1)
      ])
      (λ x h. elim (taken_cases keys i none (key x) below h.1) [ inl m ↦ inl (h.0, m) | inr e ↦ inr (h.0, e) ])
      (appends_both P H before between after these one
      (λ x y p q. rise x y p.0 q.0
      (subst (λ k. R (key x) k ≡ Less) (sym q.1) (earlier_is_less R keys i none (key x) sorted below p.1))))

  pub all_keys : (keys : List K) (count : ℕ) (before after : Found) → length keys ≤ count → ((x : Overlap) → Q x → Contains keys (key x))
      → AppendsFirst (HasKeyAmong key Q keys count) before after → AppendsFirst Q before after
  all_keys keys count before after enough complete appends =
      appends_with (HasKeyAmong key Q keys count) Q before after (λ x h. h.0)
      (λ x q. (q, subst (λ ks. Contains ks (key x)) (sym (take_all count keys enough)) (complete x q))) appends
