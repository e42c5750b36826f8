-- Each analysis of a form has a delta: the letters that form and stem share at their beginning are kept, and by induction no
-- delta keeps more.
use Rattle.std.proofs.Common.{◌≡◌, ℕ, zero, suc, ◌-◌, ◌≤◌, ◌==◌, Bool, true, false, List, [], ◌∷◌, ◌++◌, length, take, refl, ◌∙◌, ap, arith}
use Rattle.std.proofs.lemmas.Bool.{eqb-true, eq-eqb}
use Rattle.lexicon_definitions.specs.Analyses.{Analysis}
use Rattle.lexicon_definitions.specs.Deltas.{Delta, IsDelta}

-- the longest front of the form with which the stem begins, and the rest of the stem
record Shares (form stem : List ℕ) : Type 0 where
  kept : ℕ
  rest : List ℕ
  within : kept ≤ length form
  is : take kept form ++ rest ≡ stem
  most : (other : ℕ) (append : List ℕ) → take other form ++ append ≡ stem → other ≤ length form → other ≤ kept

-- nothing is shared
most_none : (x : ℕ) (form stem : List ℕ) → ((rest : List ℕ) → x ∷ rest ≡ stem → ⊥) → (other : ℕ) (append : List ℕ)
    → take other (x ∷ form) ++ append ≡ stem → other ≤ 0
most_none x form stem differ zero append e = omega arith
most_none x form stem differ (suc other) append e = absurd (differ (take other form ++ append) e)

-- one letter more is shared
most_more : (x y : ℕ) (form stem : List ℕ) → (shares : Shares form stem) → (other : ℕ) (append : List ℕ)
    → take other (x ∷ form) ++ append ≡ y ∷ stem → other ≤ suc (length form) → other ≤ suc shares.kept
most_more x y form stem shares zero append e low = omega arith
most_more x y form stem shares (suc other) append e low =
    let rest : take other form ++ append ≡ stem = cc in
    let most = shares.most other append rest (omega (arith, low)) in
    omega (arith, most)

shared : (form stem : List ℕ) → Shares form stem
shared [] stem = record { kept = 0; rest = stem; within = omega arith; is = refl; most = λ other append e low. low }
shared (x ∷ form) [] =
    record { kept = 0; rest = []; within = omega arith; is = refl; most = λ other append e low. most_none x form [] (λ rest same. absurd cc) other append e }
shared (x ∷ form) (y ∷ stem) =
    let go : (b : Bool) → x == y ≡ b → Shares (x ∷ form) (y ∷ stem) =
    elim [
      | true ↦ λ e.
          let same : x ≡ y = eqb-true x y e in
          let rest = shared form stem in
          record {
            kept = suc rest.kept;
            rest = rest.rest;
            within = let w = rest.within in omega (arith, w);
            is = λ i. same i ∷ rest.is i;
            most = λ other append f low. most_more x y form stem rest other append f low;
          }
      | false ↦ λ e.
          record {
            kept = 0;
            rest = y ∷ stem;
            within = omega arith;
            is = refl;
            most = λ other append f low. most_none x form (y ∷ stem)
                (λ rest same. let b : x == y ≡ true = eq-eqb x y (cc) in absurd (cc)) other append f;
          }
    ]
    in go (x == y) refl

-- an analysis of a form has a delta
pub delta_exists : (form : List ℕ) (analysis : Analysis) → (delta : Delta) × IsDelta form analysis delta
delta_exists form analysis =
    let s = shared form analysis.stem in
    let w = s.within in
    let kept : length form - (length form - s.kept) ≡ s.kept = omega (arith, w) in
    let stem : take (length form - (length form - s.kept)) form ++ s.rest ≡ analysis.stem =
    ap (λ (n : ℕ). take n form ++ s.rest) kept ∙ s.is in (
      record { cut = length form - s.kept; append = s.rest; tag = analysis.tag },
      record {
        within = omega arith;
        gives = λ i. record { stem = stem i; tag = analysis.tag };
        least = λ other low gives.
            let most = s.most (length form - other.cut) other.append (ap (λ (a : Analysis). a.stem) gives) (omega arith) in
            omega (arith, most, low);
      },
    )
