-- Each fact is an induction on the branches taken.
use Rattle.std.proofs.Common.{◌≡◌, ℕ, zero, suc, ◌<◌, inl, inr, List, [], ◌∷◌, refl, sym, ap, subst, ◌∙◌, arith}
use Rattle.std.specs.Cmp.Lexicographic.{slice_cmp}
use Rattle.std.specs.Ordering.{ordering_then}
use Rattle.std.specs.declared.cmp.Ordering.{Ordering}
use Rattle.std.specs.declared.cmp.Ordering.TheVariants.{Less, Equal}
use Rattle.listing_laws.specs.Stacks.{IsToCome}
use Rattle.listing_laws.specs.Depths.{IsToComeAt}

module _ {Branch : Type 0} (compare : Branch → Branch → Ordering) where
  -- what is to come is so at some depth
  pub to_come_at_some : (taken : List Branch) (IsLeft : Branch → Type 0) (path : List Branch) → IsToCome compare taken IsLeft path
      → (depth : ℕ) × IsToComeAt compare taken IsLeft depth path
  to_come_at_some taken IsLeft [] come = absurd (nothing taken come)
    where
      nothing : (taken : List Branch) → IsToCome compare taken IsLeft [] → ⊥
      nothing [] none = none
      nothing (first ∷ taken) none = none
  to_come_at_some [] IsLeft (branch ∷ path) left = (zero, left)
  to_come_at_some (first ∷ taken) IsLeft (branch ∷ path) (inl less) = (zero, less)
  to_come_at_some (first ∷ taken) IsLeft (branch ∷ path) (inr (same, later)) =
      let h = to_come_at_some taken IsLeft path later in
      (suc h.0, (same, h.1))

  -- what is to come at a depth is to come
  pub to_come_from_depth : (taken : List Branch) (IsLeft : Branch → Type 0) (depth : ℕ) (path : List Branch)
      → IsToComeAt compare taken IsLeft depth path → IsToCome compare taken IsLeft path
  to_come_from_depth [] IsLeft zero [] none = none
  to_come_from_depth [] IsLeft zero (branch ∷ path) left = left
  to_come_from_depth [] IsLeft (suc depth) [] none = none
  to_come_from_depth [] IsLeft (suc depth) (branch ∷ path) none = absurd none
  to_come_from_depth (first ∷ taken) IsLeft zero [] none = none
  to_come_from_depth (first ∷ taken) IsLeft zero (branch ∷ path) less = inl less
  to_come_from_depth (first ∷ taken) IsLeft (suc depth) [] none = none
  to_come_from_depth (first ∷ taken) IsLeft (suc depth) (branch ∷ path) (same, later) =
      inr (same, to_come_from_depth taken IsLeft depth path later)

  -- what is to come at a greater depth comes first
  pub deeper_first : ((branch : Branch) → compare branch branch ≡ Equal) → (taken : List Branch) (IsLeft : Branch → Type 0)
      (deep shallow : ℕ) (left right : List Branch) → shallow < deep → IsToComeAt compare taken IsLeft deep left
      → IsToComeAt compare taken IsLeft shallow right → slice_cmp compare left right ≡ Less
  deeper_first tied taken IsLeft zero shallow left right below p q = absurd (omega arith)
  deeper_first tied [] IsLeft (suc deep) shallow [] right below p q = absurd p
  deeper_first tied [] IsLeft (suc deep) shallow (x ∷ left) right below p q = absurd p
  deeper_first tied (first ∷ taken) IsLeft (suc deep) shallow [] right below p q = absurd p
  deeper_first tied (first ∷ taken) IsLeft (suc deep) zero (x ∷ left) [] below p q = absurd q
  deeper_first tied (first ∷ taken) IsLeft (suc deep) zero (x ∷ left) (y ∷ right) below (same, p) less =
      ap (λ order. ordering_then order (slice_cmp compare left right)) (subst (λ c. compare c y ≡ Less) same less)
  deeper_first tied (first ∷ taken) IsLeft (suc deep) (suc shallow) (x ∷ left) [] below p q = absurd q
  deeper_first tied (first ∷ taken) IsLeft (suc deep) (suc shallow) (x ∷ left) (y ∷ right) below (same, p) (same', q) =
      let here : compare x y ≡ Equal = subst (λ c. compare x c ≡ Equal) (sym same ∙ same') (tied x) in
      let rest = deeper_first tied taken IsLeft deep shallow left right (omega arith) p q in
      rw here rest

  -- it is so at one depth
  pub one_depth : ((branch : Branch) → compare branch branch ≡ Equal) → (taken : List Branch) (IsLeft : Branch → Type 0)
      (depth other : ℕ) (path : List Branch) → IsToComeAt compare taken IsLeft depth path → IsToComeAt compare taken IsLeft other path
      → depth ≡ other
  one_depth tied taken IsLeft depth other [] p q = absurd (elim_nothing taken depth p)
    where
      elim_nothing : (taken : List Branch) (depth : ℕ) → IsToComeAt compare taken IsLeft depth [] → ⊥
      elim_nothing [] zero none = none
      elim_nothing [] (suc depth) none = none
      elim_nothing (first ∷ taken) zero none = none
      elim_nothing (first ∷ taken) (suc depth) none = none
  one_depth tied [] IsLeft zero zero (branch ∷ path) p q = refl
  one_depth tied [] IsLeft zero (suc other) (branch ∷ path) p q = absurd q
  one_depth tied [] IsLeft (suc depth) other (branch ∷ path) p q = absurd p
  one_depth tied (first ∷ taken) IsLeft zero zero (branch ∷ path) p q = refl
  one_depth tied (first ∷ taken) IsLeft zero (suc other) (branch ∷ path) less (same, q) =
      let equal = tied first in let less' : compare first first ≡ Less = subst (λ c. compare first c ≡ Less) (sym same) less in absurd (cc)
  one_depth tied (first ∷ taken) IsLeft (suc depth) zero (branch ∷ path) (same, p) less =
      let equal = tied first in let less' : compare first first ≡ Less = subst (λ c. compare first c ≡ Less) (sym same) less in absurd (cc)
  one_depth tied (first ∷ taken) IsLeft (suc depth) (suc other) (branch ∷ path) (same, p) (same', q) =
      ap suc (one_depth tied taken IsLeft depth other path p q)
