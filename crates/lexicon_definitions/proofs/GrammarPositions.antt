-- By induction on the syntax tree: what is read after a position can be exchanged for what is read after the same position
-- elsewhere, since a position belongs to one side of a sequence or a choice alone.
use Rattle.std.proofs.Common.{◌≡◌, ◌≢◌, inl, inr, ℕ, ◌+◌, ◌<◌, ◌≤◌, List, [], ◌∷◌, ◌++◌, map, refl, sym, ap, ◌∙◌, append_assoc, arith, subst}
use Rattle.std.specs.List.{AllByRecursion}
use Rattle.std.proofs.lemmas.List.{map-append}
use Rattle.lexicon_definitions.specs.Grammars.{Grammar, Name, Sequence, Either, AnyTimes, OnceOrMore, AtMostOnce, joined, Accepts, Mark, count_names, Reads, phases_of, IsPositionAfter, State, Opening, After, IsStateAfter, HaveSamePositions}
use Rattle.lexicon_definitions.proofs.GrammarLists.{nil_is_no_cut, cut_append, cut_joined, joined-append, all_append, all_left, all_right, all_at, cut_map, last_of}

-- the position is one of those that the grammar's names have
abbrev pub IsPositionOf : Grammar → ℕ → Mark → Type 0
IsPositionOf g from mark = (from ≤ mark.position) × (mark.position < from + count_names g)

-- what holds of each mark of each part holds of each mark of all
pub all_of_joined : (P : Mark → Type 0) (Q : List Mark → Type 0) → ((part : List Mark) → Q part → AllByRecursion P part)
    → (parts : List (List Mark)) → AllByRecursion Q parts → AllByRecursion P (joined parts)
all_of_joined P Q each [] h = tt
all_of_joined P Q each (part ∷ parts) h =
    all_append P part (joined parts) (each part h.0) (all_of_joined P Q each parts h.1)

all_weaker : (P Q : Mark → Type 0) → ((mark : Mark) → P mark → Q mark) → (marks : List Mark)
    → AllByRecursion P marks → AllByRecursion Q marks
all_weaker P Q weaker [] h = tt
all_weaker P Q weaker (mark ∷ marks) h = (weaker mark h.0, all_weaker P Q weaker marks h.1)

-- a reading reads at the grammar's positions
pub positions_within : (g : Grammar) (from : ℕ) (marks : List Mark) → Reads g from marks
    → AllByRecursion (IsPositionOf g from) marks
positions_within (Name phase) from marks h =
    let here : IsPositionOf (Name phase) from (record { position = from; phase = phase }) = (omega arith, omega arith) in
    subst (λ ms. AllByRecursion (IsPositionOf (Name phase) from) ms) (sym h) (here, tt)
positions_within (Sequence first second) from marks h =
    let P = IsPositionOf (Sequence first second) from in
    let left = all_weaker (IsPositionOf first from) P (λ mark k. (k.0, omega (arith, k.1))) h.0 (positions_within first from h.0 h.3) in
    let right = all_weaker (IsPositionOf second (from + count_names first)) P (λ mark k. (omega (arith, k.0), omega (arith, k.1))) h.1 (positions_within second (from + count_names first) h.1 h.4) in
    subst (λ ms. AllByRecursion P ms) (sym h.2) (all_append P h.0 h.1 left right)
positions_within (Either left right) from marks h =
    let P = IsPositionOf (Either left right) from in
    elim h [
      | inl k ↦ all_weaker (IsPositionOf left from) P (λ mark j. (j.0, omega (arith, j.1))) marks (positions_within left from marks k)
      | inr k ↦ all_weaker (IsPositionOf right (from + count_names left)) P (λ mark j. (omega (arith, j.0), omega (arith, j.1))) marks (positions_within right (from + count_names left) marks k)
    ]
positions_within (AnyTimes inner) from marks h =
    let P = IsPositionOf inner from in
    subst (λ ms. AllByRecursion P ms) (sym h.1) (all_of_joined P (Reads inner from) (positions_within inner from) h.0 h.2)
positions_within (OnceOrMore inner) from marks h =
    let P = IsPositionOf inner from in
    subst (λ ms. AllByRecursion P ms) (sym h.2) (all_of_joined P (Reads inner from) (positions_within inner from) h.0 h.3)
positions_within (AtMostOnce inner) from marks h =
    let P = IsPositionOf inner from in
    elim h [
      | inl e ↦ subst (λ ms. AllByRecursion P ms) (sym e) tt
      | inr k ↦ positions_within inner from marks k
    ]

-- the phases of a reading are a word
phases_of-joined : (parts : List (List Mark)) → phases_of (joined parts) ≡ joined (map phases_of parts)
phases_of-joined [] = refl
phases_of-joined (part ∷ parts) =
    map-append (λ (mark : Mark). mark.phase) part (joined parts) ∙ ap (λ word. phases_of part ++ word) (phases_of-joined parts)

all_mapped : (Q : List Mark → Type 0) (P : List ℕ → Type 0) → ((part : List Mark) → Q part → P (phases_of part))
    → (parts : List (List Mark)) → AllByRecursion Q parts → AllByRecursion P (map phases_of parts)
all_mapped Q P each [] h = tt
all_mapped Q P each (part ∷ parts) h = (each part h.0, all_mapped Q P each parts h.1)

mapped_is_not_empty : (parts : List (List Mark)) → parts ≢ [] → map phases_of parts ≢ []
mapped_is_not_empty [] h e = h refl
mapped_is_not_empty (part ∷ parts) h e = cc

pub reads_accepts : (g : Grammar) (from : ℕ) (marks : List Mark) → Reads g from marks → Accepts g (phases_of marks)
reads_accepts (Name phase) from marks h = ap phases_of h
reads_accepts (Sequence first second) from marks h = (
  phases_of h.0,
  phases_of h.1,
  ap phases_of h.2 ∙ map-append (λ (mark : Mark). mark.phase) h.0 h.1,
  reads_accepts first from h.0 h.3,
  reads_accepts second (from + count_names first) h.1 h.4,
)
reads_accepts (Either left right) from marks h = elim h [
  | inl k ↦ inl (reads_accepts left from marks k)
  | inr k ↦ inr (reads_accepts right (from + count_names left) marks k)
]
reads_accepts (AnyTimes inner) from marks h = (
  map phases_of h.0,
  ap phases_of h.1 ∙ phases_of-joined h.0,
  all_mapped (Reads inner from) (Accepts inner) (reads_accepts inner from) h.0 h.2,
)
reads_accepts (OnceOrMore inner) from marks h = (
  map phases_of h.0,
  mapped_is_not_empty h.0 h.1,
  ap phases_of h.2 ∙ phases_of-joined h.0,
  all_mapped (Reads inner from) (Accepts inner) (reads_accepts inner from) h.0 h.3,
)
reads_accepts (AtMostOnce inner) from marks h = elim h [
  | inl e ↦ inl (ap phases_of e)
  | inr k ↦ inr (reads_accepts inner from marks k)
]

-- a word has a reading
pub record Reading (g : Grammar) (from : ℕ) (word : List ℕ) : Type 0 where
  pub marks : List Mark
  pub reads : Reads g from marks
  pub phases_are : phases_of marks ≡ word

-- words that are joined have readings that are joined
record Parts (g : Grammar) (from : ℕ) (words : List (List ℕ)) : Type 0 where
  parts : List (List Mark)
  all : AllByRecursion (Reads g from) parts
  words_are : map phases_of parts ≡ words

parts_of : (g : Grammar) (from : ℕ) → ((word : List ℕ) → Accepts g word → Reading g from word)
    → (words : List (List ℕ)) → AllByRecursion (Accepts g) words → Parts g from words
parts_of g from each [] h = record { parts = []; all = tt; words_are = refl }
parts_of g from each (word ∷ words) h =
    let first = each word h.0 in
    let rest = parts_of g from each words h.1 in
    record {
      parts = first.marks ∷ rest.parts;
      all = (first.reads, rest.all);
      words_are = cc (first.phases_are, rest.words_are);
    }

parts_are_not_empty : (parts : List (List Mark)) (words : List (List ℕ)) → map phases_of parts ≡ words → words ≢ [] → parts ≢ []
parts_are_not_empty parts words e h k = h (sym e ∙ ap (map phases_of) k)

pub accepts_reads : (g : Grammar) (from : ℕ) (word : List ℕ) → Accepts g word → Reading g from word
accepts_reads (Name phase) from word h =
    record { marks = record { position = from; phase = phase } ∷ []; reads = refl; phases_are = sym h }
accepts_reads (Sequence first second) from word h =
    let left = accepts_reads first from h.0 h.3 in
    let right = accepts_reads second (from + count_names first) h.1 h.4 in
    record {
      marks = left.marks ++ right.marks;
      reads = (left.marks, right.marks, refl, left.reads, right.reads);
      phases_are = map-append (λ (mark : Mark). mark.phase) left.marks right.marks
          ∙ cc (left.phases_are, right.phases_are, h.2);
    }
accepts_reads (Either left right) from word h = elim h [
  | inl k ↦ let r = accepts_reads left from word k in record { marks = r.marks; reads = inl r.reads; phases_are = r.phases_are }
  | inr k ↦ let r = accepts_reads right (from + count_names left) word k in record { marks = r.marks; reads = inr r.reads; phases_are = r.phases_are }
]
accepts_reads (AnyTimes inner) from word h =
    let p = parts_of inner from (accepts_reads inner from) h.0 h.2 in
    record {
      marks = joined p.parts;
      reads = (p.parts, refl, p.all);
      phases_are = phases_of-joined p.parts ∙ (ap joined p.words_are ∙ sym h.1);
    }
accepts_reads (OnceOrMore inner) from word h =
    let p = parts_of inner from (accepts_reads inner from) h.0 h.3 in
    record {
      marks = joined p.parts;
      reads = (p.parts, parts_are_not_empty p.parts h.0 p.words_are h.1, refl, p.all);
      phases_are = phases_of-joined p.parts ∙ (ap joined p.words_are ∙ sym h.2);
    }
accepts_reads (AtMostOnce inner) from word h = elim h [
  | inl e ↦ record { marks = []; reads = inl refl; phases_are = sym e }
  | inr k ↦ let r = accepts_reads inner from word k in record { marks = r.marks; reads = inr r.reads; phases_are = r.phases_are }
]

-- two readings that come to one position read the same name there, and the rest of the second may follow the first
pub record Exchanged (g : Grammar) (from : ℕ) (a : List Mark) (m l : Mark) (d : List Mark) : Type 0 where
  pub reads : Reads g from (a ++ m ∷ d)
  pub same : m ≡ l

-- parts of which one is exchanged
exchange_parts : (g : Grammar) (from : ℕ) (a b c d : List Mark) (m l : Mark)
    → ((a b c d : List Mark) → Reads g from (a ++ m ∷ b) → Reads g from (c ++ l ∷ d) → Exchanged g from a m l d)
    → (left right : List (List Mark)) → a ++ m ∷ b ≡ joined left → c ++ l ∷ d ≡ joined right
    → AllByRecursion (Reads g from) left → AllByRecursion (Reads g from) right
    → (parts : List (List Mark)) × (parts ≢ []) × (a ++ m ∷ d ≡ joined parts) × AllByRecursion (Reads g from) parts × (m ≡ l)
exchange_parts g from a b c d m l each left right le re lh rh =
    let p = cut_joined left a m b (sym le) in
    let q = cut_joined right c l d (sym re) in
    let R : List Mark → Type 0 = Reads g from in
    let lh' = subst (λ ps. AllByRecursion R ps) p.parts_is lh in
    let rh' = subst (λ ps. AllByRecursion R ps) q.parts_is rh in
    let both = each p.front p.rest q.front q.rest
    (all_at R p.before (p.front ++ m ∷ p.rest) p.after lh')
    (all_at R q.before (q.front ++ l ∷ q.rest) q.after rh') in
    let after = (all_right R q.before ((q.front ++ l ∷ q.rest) ∷ q.after) rh').1 in (
      p.before ++ (p.front ++ m ∷ q.rest) ∷ q.after,
      (λ e. nil_is_no_cut p.before (p.front ++ m ∷ q.rest) q.after (sym e)),
      joined_exchanged p.before p.front q.rest q.after a d m p.left_is q.right_is,
      all_append R p.before ((p.front ++ m ∷ q.rest) ∷ q.after)
          (all_left R p.before ((p.front ++ m ∷ p.rest) ∷ p.after) lh') (both.reads, after),
      both.same,
    )
  where
    joined_exchanged : (before : List (List Mark)) (front rest : List Mark) (after : List (List Mark)) (a d : List Mark) (m : Mark)
        → a ≡ joined before ++ front → d ≡ rest ++ joined after
        → a ++ m ∷ d ≡ joined (before ++ (front ++ m ∷ rest) ∷ after)
    joined_exchanged before front rest after a d m e k =
        ap (λ x. x ++ m ∷ d) e
        ∙ (ap (λ y. (joined before ++ front) ++ m ∷ y) k
        ∙ (append_assoc (joined before) front (m ∷ (rest ++ joined after))
        ∙ (ap (λ y. joined before ++ y) (sym (append_assoc front (m ∷ rest) (joined after)))
        ∙ sym (joined-append before ((front ++ m ∷ rest) ∷ after)))))

-- a position of the one side is no position of the other
sides_differ : (left right : Grammar) (from : ℕ) (m l : Mark) → m.position ≡ l.position → IsPositionOf left from m
    → IsPositionOf right (from + count_names left) l → ⊥
sides_differ left right from m l e h k = omega (arith, e, h.1, k.0)

-- a list with one element is cut there
one_is_cut : {A : Type 0} (a : List A) (m : A) (b : List A) (x : A) → a ++ m ∷ b ≡ x ∷ [] → (a ≡ []) × (m ≡ x) × (b ≡ [])
one_is_cut [] m b x e = (refl, cc, cc)
one_is_cut (y ∷ a) m b x e = absurd (nil_is_no_cut a m b (cc))

pub exchange : (g : Grammar) (from : ℕ) (m l : Mark) → m.position ≡ l.position → (a b c d : List Mark)
    → Reads g from (a ++ m ∷ b) → Reads g from (c ++ l ∷ d) → Exchanged g from a m l d
exchange (Name phase) from m l e a b c d h k =
    let mark : Mark = record { position = from; phase = phase } in
    let p = one_is_cut a m b mark h in
    let q = one_is_cut c l d mark k in
    record { reads = ap (λ front. front ++ m ∷ d) p.0 ∙ cc (p.1, q.2); same = p.1 ∙ sym q.1 }
exchange (Sequence first second) from m l e a b c d h k =
    elim (cut_append h.0 h.1 a m b (sym h.2)) [
      | inl p ↦ elim (cut_append k.0 k.1 c l d (sym k.2)) [
        | inl q ↦
            let r = exchange first from m l e a p.rest c q.rest (subst (λ ms. Reads first from ms) p.left_is h.3) (subst (λ ms. Reads first from ms) q.left_is k.3) in
            record {
              reads = (a ++ m ∷ q.rest, k.1, ap (λ rest. a ++ m ∷ rest) q.right_is ∙ sym (append_assoc a (m ∷ q.rest) k.1), r.reads, k.4);
              same = r.same;
            }
        | inr q ↦ absurd (sides_differ first second from m l e (of_first a m p.rest h.0 p.left_is h.3) (of_second q.front l d k.1 q.right_is k.4))
      ]
      | inr p ↦ elim (cut_append k.0 k.1 c l d (sym k.2)) [
        | inl q ↦ absurd (sides_differ first second from l m (sym e) (of_first c l q.rest k.0 q.left_is k.3) (of_second p.front m b h.1 p.right_is h.4))
        | inr q ↦
            let r = exchange second (from + count_names first) m l e p.front b q.front d (subst (λ ms. Reads second (from + count_names first) ms) p.right_is h.4) (subst (λ ms. Reads second (from + count_names first) ms) q.right_is k.4) in
            record {
              reads = (h.0, p.front ++ m ∷ d, ap (λ front. front ++ m ∷ d) p.left_is ∙ append_assoc h.0 p.front (m ∷ d), h.3, r.reads);
              same = r.same;
            }
      ]
    ]
  where
    of_first : (a : List Mark) (m : Mark) (b ms : List Mark) → ms ≡ a ++ m ∷ b → Reads first from ms → IsPositionOf first from m
    of_first a m b ms is h = all_at (IsPositionOf first from) a m b (positions_within first from (a ++ m ∷ b) (subst (λ xs. Reads first from xs) is h))

    of_second : (a : List Mark) (m : Mark) (b ms : List Mark) → ms ≡ a ++ m ∷ b → Reads second (from + count_names first) ms
        → IsPositionOf second (from + count_names first) m
    of_second a m b ms is h =
        all_at (IsPositionOf second (from + count_names first)) a m b
        (positions_within second (from + count_names first) (a ++ m ∷ b) (subst (λ xs. Reads second (from + count_names first) xs) is h))
exchange (Either left right) from m l e a b c d h k = elim h [
  | inl h' ↦ elim k [
    | inl k' ↦ let r = exchange left from m l e a b c d h' k' in record { reads = inl r.reads; same = r.same }
    | inr k' ↦ absurd (sides_differ left right from m l e
        (all_at (IsPositionOf left from) a m b (positions_within left from (a ++ m ∷ b) h'))
        (all_at (IsPositionOf right (from + count_names left)) c l d (positions_within right (from + count_names left) (c ++ l ∷ d) k')))
  ]
  | inr h' ↦ elim k [
    | inl k' ↦ absurd (sides_differ left right from l m (sym e)
        (all_at (IsPositionOf left from) c l d (positions_within left from (c ++ l ∷ d) k'))
        (all_at (IsPositionOf right (from + count_names left)) a m b (positions_within right (from + count_names left) (a ++ m ∷ b) h')))
    | inr k' ↦ let r = exchange right (from + count_names left) m l e a b c d h' k' in record { reads = inr r.reads; same = r.same }
  ]
]
exchange (AnyTimes inner) from m l e a b c d h k =
    let p = exchange_parts inner from a b c d m l (exchange inner from m l e) h.0 k.0 h.1 k.1 h.2 k.2 in
    record { reads = (p.0, p.2, p.3); same = p.4 }
exchange (OnceOrMore inner) from m l e a b c d h k =
    let p = exchange_parts inner from a b c d m l (exchange inner from m l e) h.0 k.0 h.2 k.2 h.3 k.3 in
    record { reads = (p.0, p.1, p.2, p.3); same = p.4 }
exchange (AtMostOnce inner) from m l e a b c d h k = elim h [
  | inl n ↦ absurd (nil_is_no_cut a m b (sym n))
  | inr h' ↦ elim k [
    | inl n ↦ absurd (nil_is_no_cut c l d (sym n))
    | inr k' ↦ let r = exchange inner from m l e a b c d h' k' in record { reads = inr r.reads; same = r.same }
  ]
]

-- a reading of a list that goes on from a front that is not empty: the mark at the front's end, and the rest
pub record Front (g : Grammar) (p r : List ℕ) : Type 0 where
  pub front : List Mark
  pub last : Mark
  pub rest : List Mark
  pub reads : Reads g 1 (front ++ last ∷ rest)
  pub p_is : p ≡ phases_of (front ++ last ∷ [])
  pub r_is : phases_of rest ≡ r

pub front_of : (g : Grammar) (p r : List ℕ) → p ≢ [] → Accepts g (p ++ r) → Front g p r
front_of g p r not_empty h =
    let reading = accepts_reads g 1 (p ++ r) h in
    let c = cut_map (λ (mark : Mark). mark.phase) reading.marks p r reading.phases_are in
    go c.left c.right c.left_is (subst (λ ms. Reads g 1 ms) c.xs_is reading.reads) c.right_is
  where
    go : (left right : List Mark) → phases_of left ≡ p → Reads g 1 (left ++ right) → phases_of right ≡ r → Front g p r
    go [] right e reads k = absurd (not_empty (sym e))
    go (mark ∷ marks) right e reads k =
        let last = last_of mark marks in
        record {
          front = last.0;
          last = last.1;
          rest = right;
          reads = subst (λ ms. Reads g 1 ms)
              (ap (λ ms. ms ++ right) last.2 ∙ append_assoc last.0 (last.1 ∷ []) right) reads;
          p_is = sym e ∙ ap phases_of last.2;
          r_is = k;
        }

-- the position at which the front of a word ends is a position after it
pub position_of : (g : Grammar) (p r : List ℕ) (f : Front g p r) → IsPositionAfter g p f.last.position
position_of g p r f = (f.front, f.last, f.rest, f.reads, f.p_is, refl)

-- one position after both lists is enough
go_on_from_position : (g : Grammar) (q r : List ℕ) (front rest : List Mark) (last : Mark) → Reads g 1 (front ++ last ∷ rest)
    → phases_of rest ≡ r → IsPositionAfter g q last.position → Accepts g (q ++ r)
go_on_from_position g q r front rest last reads r_is h =
    let x = exchange g 1 h.1 last h.5 h.0 h.2 front rest h.3 reads in
    let word : Accepts g (phases_of (h.0 ++ h.1 ∷ rest)) = reads_accepts g 1 (h.0 ++ h.1 ∷ rest) x.reads in
    subst (λ w. Accepts g w) (phases_are h.0 h.1 rest q r h.4 r_is) word
  where
    phases_are : (front : List Mark) (last : Mark) (rest : List Mark) (q r : List ℕ) → q ≡ phases_of (front ++ last ∷ [])
        → phases_of rest ≡ r → phases_of (front ++ last ∷ rest) ≡ q ++ r
    phases_are front last rest q r q_is r_is =
        ap phases_of (sym (append_assoc front (last ∷ []) rest))
        ∙ (map-append (λ (mark : Mark). mark.phase) (front ++ last ∷ []) rest ∙ cc)

-- lists with the same positions after them go on by the same rests
pub same_positions_go_on : (g : Grammar) (p q r : List ℕ) → HaveSamePositions g p q → Accepts g (p ++ r) → Accepts g (q ++ r)
same_positions_go_on g p q r (inl both) h = subst (λ x. Accepts g (x ++ r)) (both.0 ∙ sym both.1) h
same_positions_go_on g p q r (inr same) h =
    let f = front_of g p r same.0 h in
    go_on_from_position g q r f.front f.rest f.last f.reads f.r_is ((same.2 f.last.position).0 (position_of g p r f))

-- a list with no position after it begins no word
pub no_position_no_word : (g : Grammar) (p r : List ℕ) → p ≢ [] → ((position : ℕ) → IsPositionAfter g p position → ⊥)
    → Accepts g (p ++ r) → ⊥
no_position_no_word g p r not_empty none h =
    let f = front_of g p r not_empty h in
    none f.last.position (position_of g p r f)

-- lists that have one state have the same positions after them
pub same_state_same_positions : (g : Grammar) (p q : List ℕ) (state : State) → IsStateAfter g p state → IsStateAfter g q state
    → HaveSamePositions g p q
same_state_same_positions g [] [] state h k = inl (refl, refl)
same_state_same_positions g [] (phase ∷ q) Opening h k = absurd k
same_state_same_positions g [] (phase ∷ q) (After positions) h k = absurd (cc)
same_state_same_positions g (phase ∷ p) [] Opening h k = absurd h
same_state_same_positions g (phase ∷ p) [] (After positions) h k = absurd (cc)
same_state_same_positions g (phase ∷ p) (other ∷ q) Opening h k = absurd h
same_state_same_positions g (phase ∷ p) (other ∷ q) (After positions) h k =
    inr ((λ e. cc), (λ e. cc), λ position. ((λ x. (k.1 position).0 ((h.1 position).1 x)), (λ x. (h.1 position).0 ((k.1 position).1 x))))
