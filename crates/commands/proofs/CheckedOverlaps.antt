-- Of one more overlap than may be printed the first ones are kept: they rise, and the last one, where it is there, comes
-- after them. What may be printed of an overlap is told by what an overlap is.
use Rattle.std.proofs.Common.{◌≡◌, ℕ, ◌+◌, ◌<◌, ◌⊎◌, ◌↔◌, List, [], ◌∷◌, ◌++◌, length, map, take, drop, Bool, true, inl, inr, sym, subst, refl, arith, length-take}
use Rattle.std.specs.Prelude.{IsTrue, slice_index_or}
use Rattle.std.specs.List.{All, Contains}
use Rattle.std.specs.List.Sorted.{IsStrictlySortedBy}
use Rattle.std.specs.declared.cmp.Ordering.TheVariants.{Less}
use Rattle.std.proofs.lemmas.Bool.{cases_lt}
use Rattle.std.proofs.lemmas.List.{length-drop, take-append-drop, get_or_past}
use Rattle.std.proofs.lemmas.List.Elements.{All-take}
use Rattle.list_laws.specs.Firsts.{ComesAfter}
use Rattle.list_laws.proofs.Sorted.{Contains-first, Contains-from_take, Contains-from_drop, Contains-parts, All-from_Contains, not_Contains-nil, sorted_front, following_front}
use Rattle.lexicon_definitions.specs.Lexicons.{Lexicon, Form}
use Rattle.strictness.specs.Overlaps as found
use Rattle.segmentation_definitions.specs.Overlaps.{Overlap, IsOverlap, compare_overlaps}
use Rattle.segmentation_definitions.proofs.OverlapOrder.{compare_overlaps_total}
use Rattle.run_definitions.specs.Overlaps.{AreFirstOverlaps}
use Rattle.commands.specs.Checks.{CanBePrinted}

module _ (lexicon : Lexicon) (most : ℕ) (xs : List Overlap) (more : Bool) (a : found.AreFirstOverlaps lexicon (most + 1) xs)
    (tells : IsTrue more ↔ (most < length xs)) where
  cut_rises : IsStrictlySortedBy compare_overlaps (take most xs ++ drop most xs)
  cut_rises = subst (IsStrictlySortedBy compare_overlaps) (sym (take-append-drop most xs)) a.rising

  -- what is left after the first ones comes after them
  dropped_after : (x : Overlap) → Contains (drop most xs) x → ComesAfter compare_overlaps (take most xs) x
  dropped_after x m = following_front compare_overlaps_total (take most xs) (drop most xs) x cut_rises m

  -- where one is left there is more
  is_more : (x : Overlap) → Contains (drop most xs) x → more ≡ true
  is_more x (k, l, e) = tells.1 (omega (arith, length-drop most xs))

  complete : (x : Overlap) → IsOverlap lexicon x
      → Contains (take most xs) x ⊎ ((more ≡ true) × ComesAfter compare_overlaps (take most xs) x)
  complete x p =
      elim (a.first x p) [
        | inl m ↦ elim (Contains-parts most xs x m) [ inl n ↦ inl n | inr n ↦ inr (is_more x n, dropped_after x n) ]
        | inr (full, after) ↦ inr (tells.1 (omega arith), All-take (λ y. compare_overlaps y x ≡ Less) most xs after)
      ]

  left : more ≡ true → (x : Overlap) × IsOverlap lexicon x × ComesAfter compare_overlaps (take most xs) x
  left t = go (drop most xs) refl (omega (arith, length-drop most xs, tells.0 t))
    where
      go : (rest : List Overlap) → drop most xs ≡ rest → 0 < length rest
          → (x : Overlap) × IsOverlap lexicon x × ComesAfter compare_overlaps (take most xs) x
      go [] e l = absurd (omega arith)
      go (x ∷ rest) e l =
          let m = subst (λ list. Contains list x) (sym e) (Contains-first x rest) in
          (x, a.only x (Contains-from_drop most xs x m), dropped_after x m)

  pub first_of_more : AreFirstOverlaps lexicon most (take most xs) more
  first_of_more = record {
    first = record {
      rising = sorted_front compare_overlaps_total (take most xs) (drop most xs) cut_rises;
      only = λ x m. a.only x (Contains-from_take most xs x m);
      complete = complete;
      left = left;
    };
    at_most = omega (arith, length-take most xs);
    full = λ t. omega (arith, length-take most xs, tells.0 t);
  }

-- a phase that has a form is a phase of the lexicon
phase_within : (lists : List (List Form)) (phase : ℕ) (word : List ℕ)
    → Contains (map (λ (form : Form). form.letters) (slice_index_or lists phase [])) word → phase < length lists
phase_within lists phase word m =
    elim (cases_lt phase (length lists)) [
      | inl low ↦ low
      | inr high ↦ absurd (not_Contains-nil word
          (subst (λ (forms : List Form). Contains (map (λ (form : Form). form.letters) forms) word) (get_or_past lists phase [] high) m))
    ]

-- overlaps can be printed
pub can_be_printed : (lexicon : Lexicon) (xs : List Overlap) (most : ℕ) (more : Bool)
    → length lexicon.phases ≡ length lexicon.rules.names → AreFirstOverlaps lexicon most xs more
    → All (CanBePrinted lexicon.rules) xs
can_be_printed lexicon xs most more count a =
    All-from_Contains (CanBePrinted lexicon.rules) xs (λ x m.
    let o = a.first.only x m in
    record {
      phase = omega (arith, phase_within lexicon.phases x.phase x.form o.of_phase);
      before = o.inner.0;
      after = o.rule;
    })
