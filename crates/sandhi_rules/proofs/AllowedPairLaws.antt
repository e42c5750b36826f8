-- One pair more is set at its place; the places of two pairs of codes below 51 differ where the pairs do.
use Rattle.std.proofs.Common.{◌≡◌, ℕ, ◌+◌, ◌*◌, ◌<◌, Bool, true, false, inl, inr, IsTrue, List, [], ◌∷◌, ◌++◌, get_or, set, Contains, sym, ◌∙◌, ap, subst, arith}
use Rattle.std.proofs.lemmas.Bool.{cases_eq}
use Rattle.std.proofs.lemmas.List.{get_or-set_other, length-set}
use Rattle.std.proofs.lemmas.List.Elements.{Contains-append_left, Contains-push, Contains-push_cases}
use Rattle.std.proofs.lemmas.Grind.{get_or-set_at}
use Rattle.sandhi_rules.specs.AllowedPairs.{AreAllowed}

-- one pair more
pub AreAllowed-push : (pairs : List (ℕ × ℕ)) (pair : ℕ × ℕ) (allowed : List Bool) (place : ℕ) → AreAllowed pairs allowed → place ≡ 51 * pair.0 + pair.1
    → pair.0 < 51 → pair.1 < 51 → AreAllowed (pairs ++ pair ∷ []) (set allowed place true)
AreAllowed-push pairs pair allowed place are at low_x low_y =
    let count = are.count in
    record {
      count = length-set allowed place true ∙ count;
      each = λ x y l m. elim (cases_eq (51 * x + y) place) [
        | inl here ↦
            let same_x : pair.0 ≡ x = omega (arith, here, at, m, low_y) in
            let same_y : pair.1 ≡ y = omega (arith, here, at, m, low_y) in
            let same : pair ≡ (x, y) = λ i. (same_x i, same_y i) in
            let told : IsTrue (get_or (set allowed place true) (51 * x + y) false) =
            get_or-set_at allowed place (51 * x + y) true false here (omega (arith, at, low_x, low_y, count)) in
            (λ _. subst (Contains (pairs ++ pair ∷ [])) same (Contains-push pairs pair), λ _. told)
        | inr elsewhere ↦
            let kept : get_or (set allowed place true) (51 * x + y) false ≡ get_or allowed (51 * x + y) false =
            get_or-set_other allowed place (51 * x + y) true false elsewhere in
            let before = are.each x y l m in (
              λ told. Contains-append_left pairs (pair ∷ []) (x, y) (before.0 (subst IsTrue kept told)),
              λ has. elim (Contains-push_cases pairs pair (x, y) has) [
                | inl earlier ↦ subst IsTrue (sym kept) (before.1 earlier)
                | inr last ↦ absurd (elsewhere (sym (at ∙ ap (λ (p : ℕ × ℕ). 51 * p.0 + p.1) last)))
              ],
            )
      ];
    }
