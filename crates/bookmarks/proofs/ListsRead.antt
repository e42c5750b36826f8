-- Texts that are read one after another: what is read of two lists of texts is put together, by induction on the first and by
-- cases on what is read of each.
use Rattle.std.proofs.Common.{◌≡◌, ℕ, ◌+◌, ◌<◌, List, [], ◌∷◌, ◌++◌, length, drop, map, Option, Some, None, refl, sym, ◌∙◌, ap, arith, add-one}
use Rattle.std.specs.Prelude.{option_map, option_and_then}
use Rattle.std.specs.Iterator.{Yields}
use Rattle.std.proofs.lemmas.Iterator.{YieldsList}
use Rattle.std.proofs.lemmas.Iterator.Consumers.{YieldsList-so_far, YieldsList-turn, YieldsList-end}
use Rattle.std.proofs.lemmas.List.{take-append-drop, map_push}
use Rattle.std.proofs.Math.Seq.{drop-cons}
use Rattle.bookmark_definitions.specs.BookmarkReadings.{each_read, parts_of_list}
use Rattle.bookmarks.specs.Parts.{parts_at}

module _ {A : Type 0} where
  -- what is read of a first list, and then of a second
  abbrev pub put_together : Option (List A) → Option (List A) → Option (List A)
  put_together front back = option_and_then (λ xs. option_map (λ ys. xs ++ ys) back) front

  from_nothing : (back : Option (List A)) → back ≡ put_together (Some []) back
  from_nothing None = refl
  from_nothing (Some ys) = refl

  one_before : (first : Option A) (front back : Option (List A))
      → option_and_then (λ x. option_map (λ xs. x ∷ xs) (put_together front back)) first
      ≡ put_together (option_and_then (λ x. option_map (λ xs. x ∷ xs) front) first) back
  one_before None front back = refl
  one_before (Some x) None back = refl
  one_before (Some x) (Some xs) None = refl
  one_before (Some x) (Some xs) (Some ys) = refl

  module _ (read : List ℕ → Option A) where
    pub each_append : (texts more : List (List ℕ)) → each_read read (texts ++ more) ≡ put_together (each_read read texts) (each_read read more)
    each_append [] more = from_nothing (each_read read more)
    each_append (text ∷ texts) more =
        ap (λ others. option_and_then (λ x. option_map (λ xs. x ∷ xs) others) (read text)) (each_append texts more)
        ∙ one_before (read text) (each_read read texts) (each_read read more)

    -- one text more is read
    pub one_read : (texts : List (List ℕ)) (text : List ℕ) (xs : List A) (x : A) → each_read read texts ≡ Some xs → read text ≡ Some x
        → each_read read (texts ++ text ∷ []) ≡ Some (xs ++ x ∷ [])
    one_read texts text xs x h k =
        each_append texts (text ∷ [])
        ∙ (λ i. put_together (h i) (option_and_then (λ y. option_map (λ ys. y ∷ ys) (Some [])) (k i)))

    -- one that is not read leaves nothing
    pub one_refused : (texts : List (List ℕ)) (text : List ℕ) (more : List (List ℕ)) (xs : List A) → each_read read texts ≡ Some xs → read text ≡ None
        → each_read read (texts ++ text ∷ more) ≡ None
    one_refused texts text more xs h k =
        each_append texts (text ∷ more)
        ∙ (λ i. put_together (h i) (option_and_then (λ y. option_map (λ ys. y ∷ ys) (each_read read more)) (k i)))

-- ---- a loop over the parts of a text

module _ {S B : Type 0} {steps : S → Option B → S → Type 0} {v : B → List ℕ} {s : S} {all : List (List ℕ)} (e : YieldsList steps v s all)
    (passed : List B) (t : S) (y : Yields steps s passed t) where
  -- in a turn the parts are those that are passed, this one, and others
  pub parts_in_turn : (r : Option B) (u : S) (part : B) → r ≡ Some part → steps t r u → map v passed ++ v part ∷ drop (length passed + 1) all ≡ all
  parts_in_turn r u part is step =
      let turn = YieldsList-turn e passed t y r u part is step in
      let front = YieldsList-so_far e passed t y in
      let back : drop (length passed) all ≡ v part ∷ drop (length passed + 1) all =
      drop-cons all (length passed) (v part) turn.0 ∙ (λ i. sym turn.1 i ∷ drop (sym (add-one (length passed)) i) all) in
      (λ i. front i ++ sym back i) ∙ take-append-drop (length passed) all

  pub parts_at_end : (r : Option B) (u : S) → r ≡ None → steps t r u → map v passed ≡ all
  parts_at_end r u is step = (YieldsList-end e passed t y r u is step).0

-- ---- a list with `,` between

some_parts : (text : List ℕ) → 0 < length text → parts_of_list text ≡ parts_at 44 text
some_parts [] some = absurd (omega (arith, some))
some_parts (byte ∷ text) some = refl

module _ {A : Type 0} (read : List ℕ → Option A) where
  pub part_refused : (text : List ℕ) (passed : List (List ℕ)) (part : List ℕ) (more : List (List ℕ)) (xs : List A) → 0 < length text
      → passed ++ part ∷ more ≡ parts_at 44 text → each_read read passed ≡ Some xs → read part ≡ None → each_read read (parts_of_list text) ≡ None
  part_refused text passed part more xs some cut h k =
      ap (each_read read) (some_parts text some ∙ sym cut) ∙ one_refused read passed part more xs h k

  pub list_read : (text : List ℕ) (passed : List (List ℕ)) (xs : List A) → 0 < length text → passed ≡ parts_at 44 text → each_read read passed ≡ Some xs
      → each_read read (parts_of_list text) ≡ Some xs
  list_read text passed xs some cut h = ap (each_read read) (some_parts text some ∙ sym cut) ∙ h

  pub part_read : {B : Type 0} (v : B → List ℕ) (passed : List B) (part : B) (xs ys : List A) (x : A) → each_read read (map v passed) ≡ Some xs → read (v part) ≡ Some x
      → ys ≡ xs ++ x ∷ [] → each_read read (map v (passed ++ part ∷ [])) ≡ Some ys
  part_read v passed part xs ys x h k is =
      ap (each_read read) (map_push v passed part) ∙ one_read read (map v passed) (v part) xs x h k ∙ ap (λ (zs : List A). Some zs) (sym is)
