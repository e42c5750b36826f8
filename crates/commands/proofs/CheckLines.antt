-- The line of an overlap, with its line end put last; and the name of its phase.
use Rattle.std.proofs.Common.{◌≡◌, ℕ, ◌<◌, List, [], ◌∷◌, ◌++◌, length, map, codes, sym, ap, ◌∙◌, arith}
use Rattle.std.specs.Prelude.{slice_index_or}
use Rattle.std.proofs.lemmas.List.{length-map, get_or-map}
use Rattle.list_laws.proofs.Elements.{append_regrouped}

pub overlap_line : (phase form before after : List ℕ)
    → codes "overlap " ++ (phase ++ (codes " " ++ (form ++ (codes " " ++ (before ++ (codes " " ++ (after ++ codes "\n")))))))
    ≡ (codes "overlap " ++ phase ++ codes " " ++ form ++ codes " " ++ before ++ codes " " ++ after) ++ 10 ∷ []
overlap_line p f b a =
    let o = codes "overlap " in
    let s = codes " " in
    let e : List ℕ = 10 ∷ [] in
    append_regrouped o p (s ++ (f ++ (s ++ (b ++ (s ++ (a ++ e))))))
    ∙ append_regrouped (o ++ p) s (f ++ (s ++ (b ++ (s ++ (a ++ e)))))
    ∙ append_regrouped ((o ++ p) ++ s) f (s ++ (b ++ (s ++ (a ++ e))))
    ∙ append_regrouped (((o ++ p) ++ s) ++ f) s (b ++ (s ++ (a ++ e)))
    ∙ append_regrouped ((((o ++ p) ++ s) ++ f) ++ s) b (s ++ (a ++ e))
    ∙ append_regrouped (((((o ++ p) ++ s) ++ f) ++ s) ++ b) s (a ++ e)
    ∙ append_regrouped ((((((o ++ p) ++ s) ++ f) ++ s) ++ b) ++ s) a e

-- what stands at a place of mapped elements
pub mapped_at : {X : Type 0} (f : X → List ℕ) (xs : List X) (names : List (List ℕ)) (k : ℕ) (x : X) → map f xs ≡ names
    → k < length names → x ≡ slice_index_or xs k x → f x ≡ slice_index_or names k []
mapped_at f xs names k x same l e =
    let low : k < length xs = omega (arith, length-map xs f, ap length same) in
    ap f e ∙ sym (get_or-map f xs k x [] low) ∙ ap (λ list. slice_index_or list k []) same
