-- One turn of a loop over a list: its element is the first of what is left, and goes last in what was made so far.
use Rattle.std.proofs.Common.{◌≡◌, ℕ, ◌+◌, ◌<◌, List, [], ◌∷◌, ◌++◌, length, take, drop, get_or, map, sym, ◌∙◌, ap}
use Rattle.std.proofs.lemmas.List.{drop_more, take_more, map_push}

module _ {S T : Type 0} (f : S → T) where
  pub left_first : (xs : List S) (i : ℕ) (x : S) → i < length xs → x ≡ get_or xs i x → map f (drop i xs) ≡ f x ∷ map f (drop (i + 1) xs)
  left_first xs i x l is = ap (map f) (drop_more xs i x l) ∙ ap (λ y. f y ∷ map f (drop (i + 1) xs)) (sym is)

  -- what is made of the elements so far, with that of one more
  pub made_more : (xs : List S) (i : ℕ) (x : S) (made more : List T) → i < length xs → x ≡ get_or xs i x → more ≡ made ++ f x ∷ []
      → made ≡ map f (take i xs) → more ≡ map f (take (i + 1) xs)
  made_more xs i x made more l is pushed so_far =
      pushed ∙ ap (λ (ys : List T). ys ++ f x ∷ []) so_far ∙ sym (map_push f (take i xs) x)
      ∙ ap (λ (y : S). map f (take i xs ++ y ∷ [])) is ∙ sym (ap (map f) (take_more xs i x l))
