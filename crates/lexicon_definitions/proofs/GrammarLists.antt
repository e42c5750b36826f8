-- Lists that are cut at an element: by recursion on the list, or on the list of lists that it is joined from.
use Rattle.std.proofs.Common.{◌≡◌, ◌⊎◌, inl, inr, List, [], ◌∷◌, ◌++◌, map, refl, sym, ap, ◌∙◌, append_assoc}
use Rattle.std.specs.List.{AllByRecursion}
use Rattle.std.proofs.lemmas.List.Concat.{flat_map-append}
use Rattle.lexicon_definitions.specs.Grammars.{joined}

-- an empty list has no element
pub nil_is_no_cut : {A : Type 0} (a : List A) (m : A) (b : List A) → [] ≡ a ++ m ∷ b → ⊥
nil_is_no_cut [] m b e = cc
nil_is_no_cut (x ∷ a) m b e = cc

-- an element of x ++ y stands in x
pub record CutLeft {A : Type 0} (x y a : List A) (m : A) (b : List A) : Type 0 where
  pub rest : List A
  pub left_is : x ≡ a ++ m ∷ rest
  pub right_is : b ≡ rest ++ y

-- an element of x ++ y stands in y
pub record CutRight {A : Type 0} (x y a : List A) (m : A) (b : List A) : Type 0 where
  pub front : List A
  pub left_is : a ≡ x ++ front
  pub right_is : y ≡ front ++ m ∷ b

pub cut_append : {A : Type 0} (x y a : List A) (m : A) (b : List A) → x ++ y ≡ a ++ m ∷ b
    → CutLeft x y a m b ⊎ CutRight x y a m b
cut_append [] y a m b e = inr (record { front = a; left_is = refl; right_is = e })
cut_append (h ∷ x) y [] m b e = inl (record { rest = x; left_is = cc; right_is = cc })
cut_append (h ∷ x) y (k ∷ a) m b e =
    let same : h ≡ k = cc in
    let tails : x ++ y ≡ a ++ m ∷ b = cc in
    elim (cut_append x y a m b tails) [
      | inl c ↦ inl (record { rest = c.rest; left_is = cc (c.left_is); right_is = c.right_is })
      | inr c ↦ inr (record { front = c.front; left_is = cc (c.left_is); right_is = c.right_is })
    ]

-- an element of lists that are joined stands in one of them
pub record CutJoined {A : Type 0} (parts : List (List A)) (a : List A) (m : A) (b : List A) : Type 0 where
  pub before : List (List A)
  pub after : List (List A)
  pub front : List A
  pub rest : List A
  pub parts_is : parts ≡ before ++ (front ++ m ∷ rest) ∷ after
  pub left_is : a ≡ joined before ++ front
  pub right_is : b ≡ rest ++ joined after

pub cut_joined : {A : Type 0} (parts : List (List A)) (a : List A) (m : A) (b : List A)
    → joined parts ≡ a ++ m ∷ b → CutJoined parts a m b
cut_joined [] a m b e = absurd (nil_is_no_cut a m b e)
cut_joined (part ∷ parts) a m b e = elim (cut_append part (joined parts) a m b e) [
  | inl c ↦ record {
    before = [];
    after = parts;
    front = a;
    rest = c.rest;
    parts_is = ap (λ p. p ∷ parts) c.left_is;
    left_is = refl;
    right_is = c.right_is;
  }
  | inr c ↦
      let d = cut_joined parts c.front m b c.right_is in
      record {
        before = part ∷ d.before;
        after = d.after;
        front = d.front;
        rest = d.rest;
        parts_is = ap (λ ps. part ∷ ps) d.parts_is;
        left_is = c.left_is ∙ (ap (λ f. part ++ f) d.left_is ∙ sym (append_assoc part (joined d.before) d.front));
        right_is = d.right_is;
      }
]

pub joined-append : {A : Type 0} (xs ys : List (List A)) → joined (xs ++ ys) ≡ joined xs ++ joined ys
joined-append xs ys = flat_map-append (λ part. part) xs ys

-- what holds of each element of a list holds of each of its parts, and the other way round
module _ {A : Type 0} (P : A → Type 0) where
  pub all_append : (xs ys : List A) → AllByRecursion P xs → AllByRecursion P ys → AllByRecursion P (xs ++ ys)
  all_append [] ys h k = k
  all_append (x ∷ xs) ys h k = (h.0, all_append xs ys h.1 k)

  pub all_left : (xs ys : List A) → AllByRecursion P (xs ++ ys) → AllByRecursion P xs
  all_left [] ys h = tt
  all_left (x ∷ xs) ys h = (h.0, all_left xs ys h.1)

  pub all_right : (xs ys : List A) → AllByRecursion P (xs ++ ys) → AllByRecursion P ys
  all_right [] ys h = h
  all_right (x ∷ xs) ys h = all_right xs ys h.1

  -- the element at which a list is cut
  pub all_at : (xs : List A) (x : A) (ys : List A) → AllByRecursion P (xs ++ x ∷ ys) → P x
  all_at [] x ys h = h.0
  all_at (y ∷ xs) x ys h = all_at xs x ys h.1

-- a map that is cut was cut before
pub record CutMap {A B : Type 0} (f : A → B) (xs : List A) (front rest : List B) : Type 0 where
  pub left : List A
  pub right : List A
  pub xs_is : xs ≡ left ++ right
  pub left_is : map f left ≡ front
  pub right_is : map f right ≡ rest

pub cut_map : {A B : Type 0} (f : A → B) (xs : List A) (front rest : List B)
    → map f xs ≡ front ++ rest → CutMap f xs front rest
cut_map f xs [] rest e = record { left = []; right = xs; xs_is = refl; left_is = refl; right_is = e }
cut_map f [] (y ∷ front) rest e = absurd (cc)
cut_map f (x ∷ xs) (y ∷ front) rest e =
    let head : f x ≡ y = cc in
    let tails : map f xs ≡ front ++ rest = cc in
    let c = cut_map f xs front rest tails in
    record {
      left = x ∷ c.left;
      right = c.right;
      xs_is = ap (λ ys. x ∷ ys) c.xs_is;
      left_is = cc (head, c.left_is);
      right_is = c.right_is;
    }

-- a list that is not empty has a last element
pub last_of : {A : Type 0} (x : A) (xs : List A) → (front : List A) × (last : A) × (x ∷ xs ≡ front ++ last ∷ [])
last_of x [] = ([], x, refl)
last_of x (y ∷ xs) =
    let inner = last_of y xs in
    (x ∷ inner.0, inner.1, ap (λ ys. x ∷ ys) inner.2)
