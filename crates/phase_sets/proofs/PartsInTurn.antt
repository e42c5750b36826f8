-- The parts of a text that a loop has passed, the one of this turn and those to come are all of them: what is passed is a front.
use Rattle.std.proofs.Common.{◌≡◌, ℕ, ◌+◌, Option, Some, None, List, ◌∷◌, ◌++◌, length, drop, map, sym, ◌∙◌, add-one}
use Rattle.std.specs.Iterator.{Yields}
use Rattle.std.proofs.lemmas.Iterator.{YieldsList}
use Rattle.std.proofs.lemmas.Iterator.Consumers.{YieldsList-so_far, YieldsList-turn, YieldsList-end}
use Rattle.std.proofs.lemmas.List.{take-append-drop}
use Rattle.std.proofs.Math.Seq.{drop-cons}

module _ {S B : Type 0} {steps : S → Option B → S → Type 0} {v : B → List ℕ} {s : S} {all : List (List ℕ)} (e : YieldsList steps v s all)
    (passed : List B) (t : S) (y : Yields steps s passed t) where
  pub parts_in_turn : (r : Option B) (u : S) (part : B) → r ≡ Some part → steps t r u → map v passed ++ v part ∷ drop (length passed + 1) all ≡ all
  parts_in_turn r u part is step =
      let turn = YieldsList-turn e passed t y r u part is step in
      let front = YieldsList-so_far e passed t y in
      let back : drop (length passed) all ≡ v part ∷ drop (length passed + 1) all =
      drop-cons all (length passed) (v part) turn.0 ∙ (λ i. sym turn.1 i ∷ drop (sym (add-one (length passed)) i) all) in
      (λ i. front i ++ sym back i) ∙ take-append-drop (length passed) all

  pub parts_at_end : (r : Option B) (u : S) → r ≡ None → steps t r u → map v passed ≡ all
  parts_at_end r u is step = (YieldsList-end e passed t y r u is step).0
