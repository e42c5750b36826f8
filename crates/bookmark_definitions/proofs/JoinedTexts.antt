-- Texts with a mark between each two are cut at it again, by induction on the list; and so are lists that are read and
-- written text by text.
use Rattle.std.proofs.Common.{◌≡◌, ℕ, ◌<◌, true, false, cond, List, [], ◌∷◌, length, map, eqb, Option, Some, None, refl, sym, ◌∙◌, ap, subst, arith, length-append}
use Rattle.std.specs.Prelude.{option_map, option_and_then}
use Rattle.std.specs.List.{AllByRecursion, slice_split, join_with_byte}
use Rattle.std.proofs.lemmas.Bool.{eq-eqb}
use Rattle.std.proofs.lemmas.List.Splits.{slice_split_at, slice_split_none, join_with_byte-slice_split}
use Rattle.list_laws.proofs.Marks.{is_free, free_append, bytes_apart_from}
use Rattle.bookmark_definitions.specs.BookmarkReadings.{each_read, parts_of_list}

-- ---- cutting what was joined

abbrev pub AreFree : ℕ → List (List ℕ) → Type 0
AreFree mark texts = AllByRecursion (λ text. is_free mark text ≡ true) texts

split_more : (mark : ℕ) (first : List ℕ) (texts : List (List ℕ)) → AreFree mark (first ∷ texts)
    → slice_split (λ byte. eqb byte mark) (join_with_byte mark (first ∷ texts)) ≡ first ∷ texts
split_more mark first [] h = slice_split_none (λ byte. eqb byte mark) first (bytes_apart_from mark first h.0)
split_more mark first (next ∷ texts) h =
    slice_split_at (λ byte. eqb byte mark) first mark (join_with_byte mark (next ∷ texts)) (bytes_apart_from mark first h.0) (eq-eqb mark mark refl)
    ∙ ap (◌∷◌ first) (split_more mark next texts h.1)

-- where there is a text and no text has the mark
pub split_joined : (mark : ℕ) (texts : List (List ℕ)) → 0 < length texts → AreFree mark texts
    → slice_split (λ byte. eqb byte mark) (join_with_byte mark texts) ≡ texts
split_joined mark [] some h = absurd (omega (arith, some))
split_joined mark (first ∷ texts) some h = split_more mark first texts h

-- joined texts are free of another mark where each of them is
pub free_joined : (mark other : ℕ) → eqb mark other ≡ false → (texts : List (List ℕ)) → AreFree other texts
    → is_free other (join_with_byte mark texts) ≡ true
free_joined mark other e [] h = refl
free_joined mark other e (text ∷ []) h = h.0
free_joined mark other e (text ∷ next ∷ texts) h =
    free_append other text (mark ∷ join_with_byte mark (next ∷ texts)) h.0
    (ap (λ test. cond test false (is_free other (join_with_byte mark (next ∷ texts)))) e ∙ free_joined mark other e (next ∷ texts) h.1)

-- ---- lists with `,` between

pub parts_joined : (text : List ℕ) → text ≡ join_with_byte 44 (parts_of_list text)
parts_joined [] = refl
parts_joined (byte ∷ text) = sym (join_with_byte-slice_split 44 (byte ∷ text))

some_parts : (text : List ℕ) → 0 < length text → parts_of_list text ≡ slice_split (λ byte. eqb byte 44) text
some_parts [] some = absurd (omega (arith, some))
some_parts (byte ∷ text) some = refl

pub some_joined : (first : List ℕ) (texts : List (List ℕ)) → 0 < length first → 0 < length (join_with_byte 44 (first ∷ texts))
some_joined first [] some = some
some_joined first (next ∷ texts) some = omega (arith, some, length-append first (44 ∷ join_with_byte 44 (next ∷ texts)))

pub parts_of_joined : (texts : List (List ℕ)) → AreFree 44 texts → AllByRecursion (λ text. 0 < length text) texts
    → parts_of_list (join_with_byte 44 texts) ≡ texts
parts_of_joined [] h k = refl
parts_of_joined (first ∷ texts) h k =
    some_parts (join_with_byte 44 (first ∷ texts)) (some_joined first texts k.0) ∙ split_more 44 first texts h

-- ---- reading each text

module _ {A : Type 0} (read : List ℕ → Option A) (write : A → List ℕ) (P : A → Type 0) where
  by_first : (text : List ℕ) (texts : List (List ℕ)) (xs : List A) (first : Option A) (others : Option (List A))
      → ((x : A) → first ≡ Some x → (text ≡ write x) × P x)
      → ((ys : List A) → others ≡ Some ys → (texts ≡ map write ys) × AllByRecursion P ys)
      → option_and_then (λ x. option_map (λ ys. x ∷ ys) others) first ≡ Some xs → (text ∷ texts ≡ map write xs) × AllByRecursion P xs
  by_first text texts xs None others f t h = absurd (cc)
  by_first text texts xs (Some x) None f t h = absurd (cc)
  by_first text texts xs (Some x) (Some ys) f t h =
      let same : x ∷ ys ≡ xs = cc in
      let one = f x refl in
      let rest = t ys refl in
      subst (λ (zs : List A). (text ∷ texts ≡ map write zs) × AllByRecursion P zs) same ((λ i. one.0 i ∷ rest.0 i), (one.1, rest.1))

  -- what is read of texts is written as these texts, where that is so of each
  pub each_tells : ((text : List ℕ) (x : A) → read text ≡ Some x → (text ≡ write x) × P x) → (texts : List (List ℕ)) (xs : List A)
      → each_read read texts ≡ Some xs → (texts ≡ map write xs) × AllByRecursion P xs
  each_tells tells [] xs h =
      let same : [] ≡ xs = cc in subst (λ (zs : List A). ([] ≡ map write zs) × AllByRecursion P zs) same (refl, tt)
  each_tells tells (text ∷ texts) xs h =
      by_first text texts xs (read text) (each_read read texts) (tells text) (each_tells tells texts) h

  -- and the other way
  pub each_back : ((x : A) → P x → read (write x) ≡ Some x) → (xs : List A) → AllByRecursion P xs → each_read read (map write xs) ≡ Some xs
  each_back back [] h = refl
  each_back back (x ∷ xs) h =
      λ i. option_and_then (λ first. option_map (λ others. first ∷ others) (each_back back xs h.1 i)) (back x h.0 i)

  -- a property of each text that is written
  pub each_written : (Q : List ℕ → Type 0) → ((x : A) → P x → Q (write x)) → (xs : List A) → AllByRecursion P xs → AllByRecursion Q (map write xs)
  each_written Q q [] h = tt
  each_written Q q (x ∷ xs) h = (q x h.0, each_written Q q xs h.1)
