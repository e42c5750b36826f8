-- The first overlaps of one property and then those of another, which come after them, are the first ones of both: where the
-- first are as many as are wanted already, nothing more is appended.
use Rattle.std.proofs.Common.{◌≡◌, ◌+◌, ◌⊎◌, inl, inr, [], ◌∷◌, ◌++◌, length, length-append, refl, sym, ap, subst, ◌∙◌, arith}
use Rattle.std.specs.List.{All, Contains}
use Rattle.std.specs.List.Sorted.{IsStrictlySortedBy}
use Rattle.std.specs.declared.cmp.Ordering.TheVariants.{Less}
use Rattle.std.proofs.lemmas.Bool.{cases_eq}
use Rattle.std.proofs.lemmas.List.{append-nil, append_assoc, nil_from_length}
use Rattle.std.proofs.lemmas.List.Elements.{All-nil, All-append, Contains-append_left, Contains-append_right, Contains-append_cases}
use Rattle.list_laws.specs.Firsts.{ComesAfter}
use Rattle.list_laws.proofs.FirstOnes.{sorted-append}
use Rattle.list_laws.proofs.Sorted.{Contains-first, Contains-cons_cases, not_Contains-nil, All-from_Contains}
use Rattle.segmentation_definitions.specs.Overlaps.{Overlap, compare_overlaps}
use Rattle.strictness.specs.Appending.{IsFull, Takes, AppendsFirst}
use Rattle.strictness.specs.declared.found.Found.{Found}

-- nothing is appended where nothing has the property
pub appends_none : (P : Overlap → Type 0) (found : Found) → ((x : Overlap) → P x → ⊥) → AppendsFirst P found found
unfolding IsStrictlySortedBy
appends_none P found none = record {
  added = [];
  is = sym (append-nil found.overlaps.items);
  most = refl;
  rising = tt;
  only = λ x m. absurd (not_Contains-nil x m);
  at_most = λ h. h;
  first = λ x p. absurd (none x p);
}

-- nothing is appended where no more are wanted
pub appends_full : (P : Overlap → Type 0) (old new : Found) → IsFull old → new.overlaps.items ≡ old.overlaps.items → new.most ≡ old.most
    → AppendsFirst P old new
unfolding IsStrictlySortedBy
appends_full P old new full same most =
    let n : length new.overlaps.items ≡ length old.overlaps.items = ap length same in
    record {
      added = [];
      is = same ∙ sym (append-nil old.overlaps.items);
      most = most;
      rising = tt;
      only = λ x m. absurd (not_Contains-nil x m);
      at_most = λ h. omega arith;
      first = λ x p. inr (n ∙ full ∙ sym most, All-nil (λ y. compare_overlaps y x ≡ Less));
    }

-- the only one that has the property is taken
pub appends_one : (P : Overlap → Type 0) (old new : Found) (one : Overlap) → P one → ((x : Overlap) → P x → x ≡ one) → Takes one old new
    → AppendsFirst P old new
unfolding IsStrictlySortedBy
appends_one P old new one here same takes = elim (cases_eq (length old.overlaps.items) old.most) [
  | inl full ↦ appends_full P old new full (takes.full full) takes.most
  | inr room ↦
      let is : new.overlaps.items ≡ old.overlaps.items ++ one ∷ [] = takes.room room in
      let n : length new.overlaps.items ≡ length old.overlaps.items + 1 = ap length is ∙ length-append old.overlaps.items (one ∷ []) in
      record {
        added = one ∷ [];
        is = is;
        most = takes.most;
        rising = (tt, tt);
        only = λ x m. elim (Contains-cons_cases one [] x m) [ inl e ↦ subst P e here | inr n ↦ absurd (not_Contains-nil x n) ];
        at_most = λ h. omega (arith, takes.most);
        first = λ x p. inl (subst (λ y. Contains (one ∷ []) y) (sym (same x p)) (Contains-first one []));
      }
]

-- the same overlaps have another property
pub appends_with : (P Q : Overlap → Type 0) (old new : Found) → ((x : Overlap) → P x → Q x) → ((x : Overlap) → Q x → P x)
    → AppendsFirst P old new → AppendsFirst Q old new
appends_with P Q old new to from appends = record {
  added = appends.added;
  is = appends.is;
  most = appends.most;
  rising = appends.rising;
  only = λ x m. to x (appends.only x m);
  at_most = appends.at_most;
  first = λ x q. appends.first x (from x q);
}

-- nothing more is appended where no more are wanted
nothing_more : (P : Overlap → Type 0) (old new : Found) (appends : AppendsFirst P old new) → IsFull old → (appends.added ≡ []) × IsFull new
nothing_more P old new appends full =
    let n : length new.overlaps.items ≡ length old.overlaps.items + length appends.added =
    ap length appends.is ∙ length-append old.overlaps.items appends.added in
    let most : new.most ≡ old.most = appends.most in
    let below = appends.at_most (omega arith) in (
      nil_from_length appends.added (omega (arith, below)),
      omega (arith, below),
    )

-- one after another
pub appends_both : (P Q : Overlap → Type 0) (before between after : Found) → AppendsFirst P before between → AppendsFirst Q between after
    → ((x y : Overlap) → P x → Q y → compare_overlaps x y ≡ Less) → AppendsFirst (λ x. P x ⊎ Q x) before after
appends_both P Q before between after left right less =
    let later : (x : Overlap) → P x → ComesAfter compare_overlaps left.added x → IsFull between
    → IsFull after × ComesAfter compare_overlaps (left.added ++ right.added) x =
    λ x p b full. (
    let more = nothing_more Q between after right full in (
      more.1,
      All-append (λ y. compare_overlaps y x ≡ Less) left.added right.added b
          (subst (λ ys. All (λ y. compare_overlaps y x ≡ Less) ys) (sym more.0) (All-nil (λ y. compare_overlaps y x ≡ Less))),
    )
    ) in
    record {
      added = left.added ++ right.added;
      is = right.is ∙ ap (λ xs. xs ++ right.added) left.is ∙ append_assoc before.overlaps.items left.added right.added;
      most = right.most ∙ left.most;
      rising = sorted-append compare_overlaps left.added right.added left.rising right.rising
          (λ x y m n. less x y (left.only x m) (right.only y n));
      only = λ x m. elim (Contains-append_cases left.added right.added x m) [ inl a ↦ inl (left.only x a) | inr b ↦ inr (right.only x b) ];
      at_most = λ h. right.at_most (left.at_most h);
      first = λ x h. elim h [
        | inl p ↦ elim (left.first x p) [
          | inl m ↦ inl (Contains-append_left left.added right.added x m)
          | inr (full, b) ↦ inr (later x p b full)
        ]
        | inr q ↦ elim (right.first x q) [
          | inl m ↦ inl (Contains-append_right left.added right.added x m)
          | inr (full, b) ↦ inr (
            full,
            All-append (λ y. compare_overlaps y x ≡ Less) left.added right.added
                (All-from_Contains (λ y. compare_overlaps y x ≡ Less) left.added (λ y m. less y x (left.only y m) q)) b,
          )
        ]
      ];
    }
