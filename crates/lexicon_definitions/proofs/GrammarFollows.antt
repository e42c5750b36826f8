-- By cases on the syntax tree, each list cut at one element: which marks a reading can begin with, end with, and have one
-- after another, of a tree from those of its parts.
use Rattle.std.proofs.Common.{◌≡◌, ◌≢◌, ◌⊎◌, inl, inr, ℕ, ◌+◌, ◌↔◌, List, [], ◌∷◌, ◌++◌, refl, sym, ap, ◌∙◌, append_assoc, subst}
use Rattle.std.specs.List.{AllByRecursion}
use Rattle.std.proofs.lemmas.List.{append-nil}
use Rattle.lexicon_definitions.specs.Grammars.{Grammar, Name, Sequence, Either, AnyTimes, OnceOrMore, AtMostOnce, joined, Mark, count_names, Reads}
use Rattle.lexicon_definitions.specs.GrammarMarks.{IsFirst, IsLast, IsPair}
use Rattle.lexicon_definitions.proofs.GrammarLists.{nil_is_no_cut, cut_append, cut_joined, all_at, all_right}

-- lists that are empty, joined
append_is_nil : {A : Type 0} (xs ys : List A) → [] ≡ xs ++ ys → (xs ≡ []) × (ys ≡ [])
append_is_nil [] ys e = (refl, sym e)
append_is_nil (x ∷ xs) ys e = cc

-- each tree has a reading
pub some_reading : (g : Grammar) (from : ℕ) → (marks : List Mark) × Reads g from marks
some_reading (Name phase) from = (record { position = from; phase = phase } ∷ [], refl)
some_reading (Sequence first second) from =
    let left = some_reading first from in
    let right = some_reading second (from + count_names first) in
    (left.0 ++ right.0, (left.0, right.0, refl, left.1, right.1))
some_reading (Either left right) from = let r = some_reading left from in (r.0, inl r.1)
some_reading (AnyTimes inner) from = ([], ([], refl, tt))
some_reading (OnceOrMore inner) from =
    let r = some_reading inner from in
    (r.0 ++ [], (r.0 ∷ [], (λ e. cc), refl, (r.1, tt)))
some_reading (AtMostOnce inner) from = ([], inl refl)

-- ---- the empty reading
pub sequence_empty : (first second : Grammar) (from : ℕ)
    → Reads (Sequence first second) from [] ↔ (Reads first from [] × Reads second (from + count_names first) [])
sequence_empty first second from = (
  (λ h.
      let both = append_is_nil h.0 h.1 h.2 in
      (subst (λ ms. Reads first from ms) both.0 h.3, subst (λ ms. Reads second (from + count_names first) ms) both.1 h.4)),
  (λ h. ([], [], refl, h.0, h.1)),
)

pub any_times_empty : (inner : Grammar) (from : ℕ) → Reads (AnyTimes inner) from []
any_times_empty inner from = ([], refl, tt)

pub once_or_more_empty : (inner : Grammar) (from : ℕ) → Reads (OnceOrMore inner) from [] ↔ Reads inner from []
once_or_more_empty inner from = (
  (λ h. go h.0 h.1 h.2 h.3),
  (λ h. ([] ∷ [], (λ e. cc), refl, (h, tt))),
)
  where
    go : (parts : List (List Mark)) → parts ≢ [] → [] ≡ joined parts → AllByRecursion (Reads inner from) parts → Reads inner from []
    go [] not_empty e all = absurd (not_empty refl)
    go (part ∷ parts) not_empty e all =
        subst (λ ms. Reads inner from ms) (append_is_nil part (joined parts) e).0 all.0

pub at_most_once_empty : (inner : Grammar) (from : ℕ) → Reads (AtMostOnce inner) from []
at_most_once_empty inner from = inl refl

-- ---- the first mark
pub name_first : (phase from : ℕ) (m : Mark) → IsFirst (Name phase) from m ↔ (m ≡ record { position = from; phase = phase })
name_first phase from m = ((λ h. let e = h.1 in cc), (λ e. ([], ap (λ x. x ∷ []) e)))

pub sequence_first : (first second : Grammar) (from : ℕ) (m : Mark)
    → IsFirst (Sequence first second) from m
    ↔ (IsFirst first from m ⊎ (Reads first from [] × IsFirst second (from + count_names first) m))
sequence_first first second from m = ((λ h. to h.0 h.1.0 h.1.1 h.1.2 h.1.3 h.1.4), (λ h. back h))
  where
    to : (r front rest : List Mark) → m ∷ r ≡ front ++ rest → Reads first from front
        → Reads second (from + count_names first) rest
        → IsFirst first from m ⊎ (Reads first from [] × IsFirst second (from + count_names first) m)
    to r [] rest e a b = inr (a, (r, subst (λ ms. Reads second (from + count_names first) ms) (sym e) b))
    to r (x ∷ front) rest e a b =
        let same : x ≡ m = cc in
        inl (front, subst (λ y. Reads first from (y ∷ front)) same a)

    back : IsFirst first from m ⊎ (Reads first from [] × IsFirst second (from + count_names first) m)
        → IsFirst (Sequence first second) from m
    back (inl a) =
        let w = some_reading second (from + count_names first) in
        (a.0 ++ w.0, (m ∷ a.0, w.0, refl, a.1, w.1))
    back (inr b) = (b.1.0, ([], m ∷ b.1.0, refl, b.0, b.1.1))

pub either_first : (left right : Grammar) (from : ℕ) (m : Mark)
    → IsFirst (Either left right) from m ↔ (IsFirst left from m ⊎ IsFirst right (from + count_names left) m)
either_first left right from m = ((λ h. to h.0 h.1), (λ h. back h))
  where
    to : (r : List Mark) → Reads (Either left right) from (m ∷ r) → IsFirst left from m ⊎ IsFirst right (from + count_names left) m
    to r (inl a) = inl (r, a)
    to r (inr b) = inr (r, b)

    back : IsFirst left from m ⊎ IsFirst right (from + count_names left) m → IsFirst (Either left right) from m
    back (inl a) = (a.0, inl a.1)
    back (inr b) = (b.0, inr b.1)

-- of parts that are joined
parts_first : (inner : Grammar) (from : ℕ) (m : Mark) (r : List Mark) (parts : List (List Mark)) → m ∷ r ≡ joined parts
    → AllByRecursion (Reads inner from) parts → IsFirst inner from m
parts_first inner from m r [] e all = cc
parts_first inner from m r ([] ∷ parts) e all = parts_first inner from m r parts e all.1
parts_first inner from m r ((x ∷ part) ∷ parts) e all =
    let same : x ≡ m = cc in
    (part, subst (λ y. Reads inner from (y ∷ part)) same all.0)

pub any_times_first : (inner : Grammar) (from : ℕ) (m : Mark) → IsFirst (AnyTimes inner) from m ↔ IsFirst inner from m
any_times_first inner from m = (
  (λ h. parts_first inner from m h.0 h.1.0 h.1.1 h.1.2),
  (λ h. (h.0, ((m ∷ h.0) ∷ [], sym (append-nil (m ∷ h.0)), (h.1, tt)))),
)

pub once_or_more_first : (inner : Grammar) (from : ℕ) (m : Mark) → IsFirst (OnceOrMore inner) from m ↔ IsFirst inner from m
once_or_more_first inner from m = (
  (λ h. parts_first inner from m h.0 h.1.0 h.1.2 h.1.3),
  (λ h. (h.0, ((m ∷ h.0) ∷ [], (λ e. cc), sym (append-nil (m ∷ h.0)), (h.1, tt)))),
)

pub at_most_once_first : (inner : Grammar) (from : ℕ) (m : Mark) → IsFirst (AtMostOnce inner) from m ↔ IsFirst inner from m
at_most_once_first inner from m = ((λ h. to h.0 h.1), (λ h. (h.0, inr h.1)))
  where
    to : (r : List Mark) → Reads (AtMostOnce inner) from (m ∷ r) → IsFirst inner from m
    to r (inl e) = cc
    to r (inr a) = (r, a)

-- ---- the last mark
pub name_last : (phase from : ℕ) (m : Mark) → IsLast (Name phase) from m ↔ (m ≡ record { position = from; phase = phase })
name_last phase from m = ((λ h. to h.0 h.1), (λ e. ([], ap (λ x. x ∷ []) e)))
  where
    to : (front : List Mark) → front ++ m ∷ [] ≡ record { position = from; phase = phase } ∷ [] → m ≡ record { position = from; phase = phase }
    to [] e = cc
    to (x ∷ front) e = absurd (nil_is_no_cut front m [] (cc))

pub sequence_last : (first second : Grammar) (from : ℕ) (m : Mark)
    → IsLast (Sequence first second) from m
    ↔ (IsLast second (from + count_names first) m ⊎ (Reads second (from + count_names first) [] × IsLast first from m))
sequence_last first second from m = ((λ h. to h.0 h.1.0 h.1.1 h.1.2 h.1.3 h.1.4), (λ h. back h))
  where
    to : (f front rest : List Mark) → f ++ m ∷ [] ≡ front ++ rest → Reads first from front
        → Reads second (from + count_names first) rest
        → IsLast second (from + count_names first) m ⊎ (Reads second (from + count_names first) [] × IsLast first from m)
    to f front rest e a b = elim (cut_append front rest f m [] (sym e)) [
      | inl c ↦
          let both = append_is_nil c.rest rest c.right_is in
          inr (
            subst (λ ms. Reads second (from + count_names first) ms) both.1 b,
            (f, subst (λ ms. Reads first from ms) (c.left_is ∙ ap (λ ms. f ++ m ∷ ms) both.0) a),
          )
      | inr c ↦ inl (c.front, subst (λ ms. Reads second (from + count_names first) ms) c.right_is b)
    ]

    back : IsLast second (from + count_names first) m ⊎ (Reads second (from + count_names first) [] × IsLast first from m)
        → IsLast (Sequence first second) from m
    back (inl b) =
        let w = some_reading first from in
        (w.0 ++ b.0, (w.0, b.0 ++ m ∷ [], append_assoc w.0 b.0 (m ∷ []), w.1, b.1))
    back (inr a) = (a.1.0, (a.1.0 ++ m ∷ [], [], sym (append-nil (a.1.0 ++ m ∷ [])), a.1.1, a.0))

pub either_last : (left right : Grammar) (from : ℕ) (m : Mark)
    → IsLast (Either left right) from m ↔ (IsLast left from m ⊎ IsLast right (from + count_names left) m)
either_last left right from m = ((λ h. to h.0 h.1), (λ h. back h))
  where
    to : (f : List Mark) → Reads (Either left right) from (f ++ m ∷ []) → IsLast left from m ⊎ IsLast right (from + count_names left) m
    to f (inl a) = inl (f, a)
    to f (inr b) = inr (f, b)

    back : IsLast left from m ⊎ IsLast right (from + count_names left) m → IsLast (Either left right) from m
    back (inl a) = (a.0, inl a.1)
    back (inr b) = (b.0, inr b.1)

parts_last : (inner : Grammar) (from : ℕ) (m : Mark) (f : List Mark) (parts : List (List Mark)) → f ++ m ∷ [] ≡ joined parts
    → AllByRecursion (Reads inner from) parts → IsLast inner from m
parts_last inner from m f parts e all =
    let c = cut_joined parts f m [] (sym e) in
    let both = append_is_nil c.rest (joined c.after) c.right_is in
    let part = all_at (Reads inner from) c.before (c.front ++ m ∷ c.rest) c.after (subst (λ ps. AllByRecursion (Reads inner from) ps) c.parts_is all) in
    (c.front, subst (λ ms. Reads inner from (c.front ++ m ∷ ms)) both.0 part)

pub any_times_last : (inner : Grammar) (from : ℕ) (m : Mark) → IsLast (AnyTimes inner) from m ↔ IsLast inner from m
any_times_last inner from m = (
  (λ h. parts_last inner from m h.0 h.1.0 h.1.1 h.1.2),
  (λ h. (h.0, ((h.0 ++ m ∷ []) ∷ [], sym (append-nil (h.0 ++ m ∷ [])), (h.1, tt)))),
)

pub once_or_more_last : (inner : Grammar) (from : ℕ) (m : Mark) → IsLast (OnceOrMore inner) from m ↔ IsLast inner from m
once_or_more_last inner from m = (
  (λ h. parts_last inner from m h.0 h.1.0 h.1.2 h.1.3),
  (λ h. (h.0, ((h.0 ++ m ∷ []) ∷ [], (λ e. cc), sym (append-nil (h.0 ++ m ∷ [])), (h.1, tt)))),
)

pub at_most_once_last : (inner : Grammar) (from : ℕ) (m : Mark) → IsLast (AtMostOnce inner) from m ↔ IsLast inner from m
at_most_once_last inner from m = ((λ h. to h.0 h.1), (λ h. (h.0, inr h.1)))
  where
    to : (f : List Mark) → Reads (AtMostOnce inner) from (f ++ m ∷ []) → IsLast inner from m
    to f (inl e) = absurd (nil_is_no_cut f m [] (sym e))
    to f (inr a) = (f, a)

-- ---- one mark after another
pub name_pair : (phase from : ℕ) (x y : Mark) → IsPair (Name phase) from x y → ⊥
name_pair phase from x y h = go h.0 h.2
  where
    go : (front : List Mark) → front ++ x ∷ y ∷ h.1 ≡ record { position = from; phase = phase } ∷ [] → ⊥
    go [] e = cc
    go (z ∷ front) e = nil_is_no_cut front x (y ∷ h.1) (cc)

-- one mark after another in parts that are joined: both in one part, or at the end of one and the beginning of another
parts_pair : (inner : Grammar) (from : ℕ) (x y : Mark) (f r : List Mark) (parts : List (List Mark))
    → f ++ x ∷ y ∷ r ≡ joined parts → AllByRecursion (Reads inner from) parts
    → IsPair inner from x y ⊎ (IsLast inner from x × IsFirst inner from y)
parts_pair inner from x y f r parts e all =
    let c = cut_joined parts f x (y ∷ r) (sym e) in
    let all' = subst (λ ps. AllByRecursion (Reads inner from) ps) c.parts_is all in
    go c.front c.rest c.after c.right_is
    (all_at (Reads inner from) c.before (c.front ++ x ∷ c.rest) c.after all')
    (all_right (Reads inner from) c.before ((c.front ++ x ∷ c.rest) ∷ c.after) all').1
  where
    go : (front rest : List Mark) (after : List (List Mark)) → y ∷ r ≡ rest ++ joined after
        → Reads inner from (front ++ x ∷ rest) → AllByRecursion (Reads inner from) after
        → IsPair inner from x y ⊎ (IsLast inner from x × IsFirst inner from y)
    go front [] after e here all = inr ((front, here), parts_first inner from y r after e all)
    go front (z ∷ rest) after e here all =
        let same : z ≡ y = cc in
        inl (front, rest, subst (λ w. Reads inner from (front ++ x ∷ w ∷ rest)) same here)

pub sequence_pair : (first second : Grammar) (from : ℕ) (x y : Mark)
    → IsPair (Sequence first second) from x y
    ↔ (IsPair first from x y ⊎ IsPair second (from + count_names first) x y
    ⊎ (IsLast first from x × IsFirst second (from + count_names first) y))
sequence_pair first second from x y = ((λ h. to h.0 h.1 h.2.0 h.2.1 h.2.2 h.2.3 h.2.4), (λ h. back h))
  where
    left_side : (f r front rest t : List Mark) → front ≡ f ++ x ∷ t → y ∷ r ≡ t ++ rest → Reads first from front
        → Reads second (from + count_names first) rest
        → IsPair first from x y ⊎ IsPair second (from + count_names first) x y
        ⊎ (IsLast first from x × IsFirst second (from + count_names first) y)
    left_side f r front rest [] e k a b =
        inr (inr ((f, subst (λ ms. Reads first from ms) e a), (r, subst (λ ms. Reads second (from + count_names first) ms) (sym k) b)))
    left_side f r front rest (z ∷ t) e k a b =
        let same : z ≡ y = cc in
        inl (f, t, subst (λ w. Reads first from (f ++ x ∷ w ∷ t)) same (subst (λ ms. Reads first from ms) e a))

    to : (f r front rest : List Mark) → f ++ x ∷ y ∷ r ≡ front ++ rest → Reads first from front
        → Reads second (from + count_names first) rest
        → IsPair first from x y ⊎ IsPair second (from + count_names first) x y
        ⊎ (IsLast first from x × IsFirst second (from + count_names first) y)
    to f r front rest e a b = elim (cut_append front rest f x (y ∷ r) (sym e)) [
      | inl c ↦ left_side f r front rest c.rest c.left_is c.right_is a b
      | inr c ↦ inr (inl (c.front, r, subst (λ ms. Reads second (from + count_names first) ms) c.right_is b))
    ]

    back : IsPair first from x y ⊎ IsPair second (from + count_names first) x y
        ⊎ (IsLast first from x × IsFirst second (from + count_names first) y)
        → IsPair (Sequence first second) from x y
    back (inl a) =
        let w = some_reading second (from + count_names first) in
        (a.0, a.1 ++ w.0, (a.0 ++ x ∷ y ∷ a.1, w.0, sym (append_assoc a.0 (x ∷ y ∷ a.1) w.0), a.2, w.1))
    back (inr (inl b)) =
        let w = some_reading first from in
        (w.0 ++ b.0, b.1, (w.0, b.0 ++ x ∷ y ∷ b.1, append_assoc w.0 b.0 (x ∷ y ∷ b.1), w.1, b.2))
    back (inr (inr c)) =
        (c.0.0, c.1.0, (c.0.0 ++ x ∷ [], y ∷ c.1.0, sym (append_assoc c.0.0 (x ∷ []) (y ∷ c.1.0)), c.0.1, c.1.1))

pub either_pair : (left right : Grammar) (from : ℕ) (x y : Mark)
    → IsPair (Either left right) from x y ↔ (IsPair left from x y ⊎ IsPair right (from + count_names left) x y)
either_pair left right from x y = ((λ h. to h.0 h.1 h.2), (λ h. back h))
  where
    to : (f r : List Mark) → Reads (Either left right) from (f ++ x ∷ y ∷ r) → IsPair left from x y ⊎ IsPair right (from + count_names left) x y
    to f r (inl a) = inl (f, r, a)
    to f r (inr b) = inr (f, r, b)

    back : IsPair left from x y ⊎ IsPair right (from + count_names left) x y → IsPair (Either left right) from x y
    back (inl a) = (a.0, a.1, inl a.2)
    back (inr b) = (b.0, b.1, inr b.2)

-- a pair within a part, or the end of one and the beginning of the next, as a reading of two parts
one_part : (inner : Grammar) (from : ℕ) (x y : Mark) → IsPair inner from x y ⊎ (IsLast inner from x × IsFirst inner from y)
    → (front rest : List Mark) × (parts : List (List Mark)) × (parts ≢ []) × (front ++ x ∷ y ∷ rest ≡ joined parts)
    × AllByRecursion (Reads inner from) parts
one_part inner from x y (inl a) =
    (a.0, a.1, (a.0 ++ x ∷ y ∷ a.1) ∷ [], (λ e. cc), sym (append-nil (a.0 ++ x ∷ y ∷ a.1)), (a.2, tt))
one_part inner from x y (inr b) = (
  b.0.0,
  b.1.0,
  (b.0.0 ++ x ∷ []) ∷ (y ∷ b.1.0) ∷ [],
  (λ e. cc),
  sym (ap (λ ms. (b.0.0 ++ x ∷ []) ++ ms) (append-nil (y ∷ b.1.0)) ∙ append_assoc b.0.0 (x ∷ []) (y ∷ b.1.0)),
  (b.0.1, (b.1.1, tt)),
)

pub any_times_pair : (inner : Grammar) (from : ℕ) (x y : Mark)
    → IsPair (AnyTimes inner) from x y ↔ (IsPair inner from x y ⊎ (IsLast inner from x × IsFirst inner from y))
any_times_pair inner from x y = (
  (λ h. parts_pair inner from x y h.0 h.1 h.2.0 h.2.1 h.2.2),
  (λ h. let p = one_part inner from x y h in (p.0, p.1, (p.2, p.4, p.5))),
)

pub once_or_more_pair : (inner : Grammar) (from : ℕ) (x y : Mark)
    → IsPair (OnceOrMore inner) from x y ↔ (IsPair inner from x y ⊎ (IsLast inner from x × IsFirst inner from y))
once_or_more_pair inner from x y = (
  (λ h. parts_pair inner from x y h.0 h.1 h.2.0 h.2.2 h.2.3),
  (λ h. let p = one_part inner from x y h in (p.0, p.1, (p.2, p.3, p.4, p.5))),
)

pub at_most_once_pair : (inner : Grammar) (from : ℕ) (x y : Mark) → IsPair (AtMostOnce inner) from x y ↔ IsPair inner from x y
at_most_once_pair inner from x y = ((λ h. to h.0 h.1 h.2), (λ h. (h.0, h.1, inr h.2)))
  where
    to : (f r : List Mark) → Reads (AtMostOnce inner) from (f ++ x ∷ y ∷ r) → IsPair inner from x y
    to f r (inl e) = absurd (nil_is_no_cut f x (y ∷ r) (sym e))
    to f r (inr a) = (f, r, a)
