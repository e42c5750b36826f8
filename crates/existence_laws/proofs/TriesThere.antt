-- Phases have a trie: for each front, from the longest ones on, there are rows with a node that stands for what follows it. They come after
-- the rows that are there already, and a row that is there is not put again.
use Rattle.std.proofs.Common.{◌≡◌, ◌≢◌, ◌↔◌, inl, inr, ℕ, zero, suc, ◌+◌, ◌<◌, ◌≤◌, List, [], ◌∷◌, ◌++◌, length, map, get_or, refl, sym, ◌∙◌, ap, subst, arith, append_assoc, append-nil}
use Rattle.std.specs.Prelude.{All, AllPairs, Contains}
use Rattle.std.specs.List.{AllByRecursion}
use Rattle.std.specs.List.Sorted.{IsStrictlySortedBy}
use Rattle.std.specs.Ordering.{nat_cmp, ordering_then, on}
use Rattle.std.specs.Cmp.Lexicographic.{slice_cmp}
use Rattle.std.specs.declared.cmp.Ordering.TheVariants.{Equal, Less}
use Rattle.std.proofs.lemmas.Bool.{cases_lt, cases_eq}
use Rattle.std.proofs.lemmas.Cmp.{nat_cmp_total, nat_list_cmp_total, on_total}
use Rattle.std.proofs.lemmas.List.{get_or_append_left, get_or_push, get_or_default, length-append, length_push}
use Rattle.std.proofs.lemmas.List.Elements.{All-nil, All-cons, All-push, All-weaker, All-contains, recursion_from_All, Contains-append_left, Contains-append_right, Contains-get_or}
use Rattle.std.proofs.lemmas.Map.Keys.{sorted_tail}
use Rattle.std.proofs.lemmas.Map.Lookups.{CmpEqualImpliesEq, exact_bytes}
use Rattle.list_laws.specs.RisingSets.{with_elements}
use Rattle.list_laws.proofs.Elements.{some_element, some_by_element}
use Rattle.list_laws.proofs.FirstOnes.{Contains-map, Contains-map_cases}
use Rattle.list_laws.proofs.Orderings.{equal_then_both, nat_cmp-Less}
use Rattle.list_laws.proofs.RisingSetLaws.{Contains-with_elements, sorted-with_elements}
use Rattle.list_laws.proofs.Sorted.{sorted_append, sorted_nil, Less-from_later, not_Less-itself, Contains-first, Contains-cons_cases, not_Contains-nil}
use Rattle.text_definitions.specs.Letters.{IsLetter}
use Rattle.text_definitions.specs.Words.{compare_words}
use Rattle.lexicon_definitions.specs.Analyses.{Analysis}
use Rattle.lexicon_definitions.specs.Deltas.{Delta, IsDelta, compare_deltas}
use Rattle.lexicon_definitions.specs.Lexicons.{Form, IsFormEntry, IsPhase}
use Rattle.lexicon_definitions.specs.Tries.{Row, Trie, AreRows, IsChild, IsRow, IsNodeAfter, IsTrieOf, BeginsForm, HasDelta, row_of, empty_row}
use Rattle.lexicon_definitions.proofs.FormsWithEntry.{by_letters, forms_total}
use Rattle.lexicon_definitions.proofs.TrieGrowth.{AreRows-push, IsNodeAfter-append, row_of-append, row_of-push}
use Rattle.lexicon_definitions.proofs.TrieSteps.{IsRowAfter, IsNodeAfter-row}
use Rattle.lexicon_definitions.proofs.TrieSuffixes.{compare_deltas-total}
use Rattle.trie_text_definitions.proofs.RootNodes.{one_delta}
use Rattle.trie_text_definitions.proofs.TrieLexicons.{delta_there}
use Rattle.existence_laws.proofs.Decisions.{Decided, told_by, both, all_three, is_same_list, is_same_word, is_element, holds_of_some}

-- ---- a row among rows

is_same_delta : (x y : Delta) → Decided (x ≡ y)
is_same_delta x y =
    told_by
    (λ h i. record { cut = h.0 i; append = h.1 i; tag = h.2 i })
    (λ e. (ap (λ (d : Delta). d.cut) e, ap (λ (d : Delta). d.append) e, ap (λ (d : Delta). d.tag) e))
    (all_three (cases_eq x.cut y.cut) (is_same_word x.append y.append) (is_same_word x.tag y.tag))

is_same_child : (x y : ℕ × ℕ) → Decided (x ≡ y)
is_same_child x y =
    told_by (λ h i. (h.0 i, h.1 i)) (λ e. (ap (λ (c : ℕ × ℕ). c.0) e, ap (λ (c : ℕ × ℕ). c.1) e)) (both (cases_eq x.0 y.0) (cases_eq x.1 y.1))

is_same_row : (x y : Row) → Decided (x ≡ y)
is_same_row x y =
    told_by
    (λ h i. record { deltas = h.0 i; children = h.1 i })
    (λ e. (ap (λ (r : Row). r.deltas) e, ap (λ (r : Row). r.children) e))
    (both (is_same_list is_same_delta x.deltas y.deltas) (is_same_list is_same_child x.children y.children))

-- rows with one more, which is not among them, differ
apart_push : (rows : List Row) (row : Row) → AllPairs (λ left right. left ≢ right) rows → (Contains rows row → ⊥)
    → AllPairs (λ left right. left ≢ right) (rows ++ row ∷ [])
apart_push rows row apart absent i j d less within e =
    let long = length_push rows row in
    elim (cases_lt j (length rows)) [
      | inl inside ↦
          let left = get_or_append_left rows (row ∷ []) d i (omega (arith, less, inside)) in
          let right = get_or_append_left rows (row ∷ []) d j inside in
          apart i j d less inside (sym left ∙ e ∙ right)
      | inr last ↦
          let here : length rows ≡ j = omega (arith, last, within, long) in
          let low : i < length rows = omega (arith, less, here) in
          let left = get_or_append_left rows (row ∷ []) d i low in
          let right = get_or_push rows row d j here in
          absent (subst (Contains rows) (sym left ∙ e ∙ right) (Contains-get_or rows i d low))
    ]

-- rows that begin with the given ones, with a node that has the row
record HasNode (rows : List Row) (row : Row) : Type 0 where
  pub after : List Row
  pub more : List Row
  pub is_more : after ≡ rows ++ more
  pub are : AreRows after
  pub node : ℕ
  pub there : node < length after
  pub is : row_of after node ≡ row

interned : (rows : List Row) → AreRows rows → (row : Row) → IsRow rows (length rows) row → HasNode rows row
interned rows are row is =
    elim (is_element is_same_row rows row) [
      | inl m ↦
          let (k, low, e) = m in
          record { after = rows; more = []; is_more = sym (append-nil rows); are = are; node = k; there = low; is = get_or_default rows k empty_row row low ∙ e }
      | inr absent ↦
          let long = length_push rows row in
          record {
            after = rows ++ row ∷ [];
            more = row ∷ [];
            is_more = refl;
            are = AreRows-push rows row are is (apart_push rows row are.distinct absent);
            node = length rows;
            there = omega (arith, long);
            is = row_of-push rows row;
          }
    ]

-- ---- the deltas of a front

deltas_exact : CmpEqualImpliesEq compare_deltas
deltas_exact left right e =
    let parts = equal_then_both (nat_cmp left.cut right.cut) (ordering_then (compare_words left.append right.append) (slice_cmp nat_cmp left.tag right.tag)) e in
    let later = equal_then_both (compare_words left.append right.append) (slice_cmp nat_cmp left.tag right.tag) parts.1 in
    let cuts : left.cut ≡ right.cut = same_number left.cut right.cut parts.0 in
    let appends = exact_bytes left.append right.append later.0 in
    let tags = exact_bytes left.tag right.tag later.1 in
    λ i. record { cut = cuts i; append = appends i; tag = tags i }
  where
    same_number : (m n : ℕ) → nat_cmp m n ≡ Equal → m ≡ n
    same_number m n f =
        let words : slice_cmp nat_cmp (m ∷ []) (n ∷ []) ≡ Equal = ap (λ o. ordering_then o Equal) f in
        let same = exact_bytes (m ∷ []) (n ∷ []) words in cc

-- two forms of a rising list with the same letters are one
one_form : (forms : List Form) → IsStrictlySortedBy by_letters forms → (left right : Form) → Contains forms left → Contains forms right
    → left.letters ≡ right.letters → left ≡ right
one_form [] s left right m n e = absurd (not_Contains-nil left m)
one_form (first ∷ forms) s left right m n e =
    elim (Contains-cons_cases first forms left m) [
      | inl a ↦ elim (Contains-cons_cases first forms right n) [
        | inl b ↦ sym a ∙ b
        | inr later ↦ absurd (apart first right (Less-from_later forms_total first forms right s later) (ap (λ (f : Form). f.letters) a ∙ e))
      ]
      | inr k ↦ elim (Contains-cons_cases first forms right n) [
        | inl b ↦ absurd (apart first left (Less-from_later forms_total first forms left s k) (ap (λ (f : Form). f.letters) b ∙ sym e))
        | inr later ↦ one_form forms (sorted_tail by_letters first forms s) left right k later e
      ]
    ]
  where
    apart : (left right : Form) → compare_words left.letters right.letters ≡ Less → left.letters ≡ right.letters → ⊥
    apart left right l same = not_Less-itself nat_list_cmp_total right.letters (subst (λ (w : List ℕ). compare_words w right.letters ≡ Less) same l)

-- the deltas of the analyses of the form that the front is, or none
record HasDeltas (forms : List Form) (front : List ℕ) : Type 0 where
  pub deltas : List Delta
  pub rising : IsStrictlySortedBy compare_deltas deltas
  pub are : (delta : Delta) → Contains deltas delta ↔ HasDelta forms front delta
  pub some : (form : Form) → Contains forms form → form.letters ≡ front → deltas ≢ []

deltas_there : (forms : List Form) → IsPhase forms → (front : List ℕ) → HasDeltas forms front
deltas_there forms phase front =
    elim (holds_of_some (λ (form : Form). form.letters ≡ front) (λ form. is_same_word form.letters front) forms) [
      | inl found ↦ of_form found.0 found.1 found.2
      | inr none ↦ record {
        deltas = [];
        rising = sorted_nil compare_deltas;
        are = λ delta. (λ m. absurd (not_Contains-nil delta m), λ h. absurd (none (h.form, h.is_among, h.has_letters)));
        some = λ form m e. absurd (none (form, m, e));
      }
    ]
  where
    of_form : (form : Form) → Contains forms form → form.letters ≡ front → HasDeltas forms front
    of_form form m e =
        let delta_of : Analysis → Delta = λ analysis. (delta_there front analysis).0 in
        let all = map delta_of form.analyses in
        let law = Contains-with_elements compare_deltas-total deltas_exact [] all in
        let to : (delta : Delta) → Contains (with_elements compare_deltas [] all) delta → HasDelta forms front delta =
        λ delta n. elim ((law delta).0 n) [
          | inl none ↦ absurd (not_Contains-nil delta none)
          | inr k ↦
              let (analysis, among, same) = Contains-map_cases delta_of form.analyses delta k in
              record { form = form; is_among = m; has_letters = e; analysis = analysis; is_analyzed = among; is_delta = subst (IsDelta front analysis) same (delta_there front analysis).1 }
        ] in
        let back : (delta : Delta) → HasDelta forms front delta → Contains (with_elements compare_deltas [] all) delta =
        λ delta h.
        let one = one_form forms phase.rising h.form form h.is_among m (h.has_letters ∙ sym e) in
        let among : Contains form.analyses h.analysis = subst (λ (f : Form). Contains f.analyses h.analysis) one h.is_analyzed in
        let same : delta_of h.analysis ≡ delta = one_delta front h.analysis (delta_of h.analysis) delta (delta_there front h.analysis).1 h.is_delta in
        (law delta).1 (inr (subst (Contains all) same (Contains-map delta_of form.analyses h.analysis among)))
        in
        record {
          deltas = with_elements compare_deltas [] all;
          rising = sorted-with_elements compare_deltas-total deltas_exact [] all (sorted_nil compare_deltas);
          are = λ delta. (to delta, back delta);
          some = λ other n f.
              let entry = All-contains IsFormEntry forms form phase.each m in
              let (analysis, among) = some_element form.analyses entry.analyzed in
              some_by_element (with_elements compare_deltas [] all) (delta_of analysis)
              ((law (delta_of analysis)).1 (inr (Contains-map delta_of form.analyses analysis among)));
        }

-- ---- fronts of forms

-- a word begins another, or does not
begins_with : (word whole : List ℕ) → Decided ((rest : List ℕ) × (whole ≡ word ++ rest))
begins_with [] whole = inl (whole, refl)
begins_with (letter ∷ word) [] = inr (λ h. let e = h.1 in cc)
begins_with (letter ∷ word) (first ∷ whole) =
    told_by
    (λ h. (h.1.0, λ i. h.0 i ∷ h.1.1 i))
    (λ h. let e = h.1 in (cc, (h.0, cc)))
    (both (cases_eq first letter) (begins_with word whole))

begins_decided : (forms : List Form) (word : List ℕ) → Decided (BeginsForm forms word)
begins_decided forms word =
    told_by
    (λ h. record { form = h.0; is_among = h.1; rest = h.2.0; has_letters = h.2.1 })
    (λ (b : BeginsForm forms word). (b.form, b.is_among, (b.rest, b.has_letters)))
    (holds_of_some (λ (form : Form). (rest : List ℕ) × (form.letters ≡ word ++ rest)) (λ form. begins_with word form.letters) forms)

-- a letter after a front of a form is a letter
letter_of : (forms : List Form) → IsPhase forms → (front : List ℕ) (letter : ℕ) → BeginsForm forms (front ++ letter ∷ []) → IsLetter letter
letter_of forms phase front letter b =
    let entry = All-contains IsFormEntry forms b.form phase.each b.is_among in
    let there : Contains ((front ++ letter ∷ []) ++ b.rest) letter =
    Contains-append_left (front ++ letter ∷ []) b.rest letter (Contains-append_right front (letter ∷ []) letter (Contains-first letter [])) in
    All-contains IsLetter b.form.letters letter entry.word (subst (λ (w : List ℕ). Contains w letter) (sym b.has_letters) there)

-- a longer front of a form begins it too
shorter_front : (forms : List Form) (front : List ℕ) (letter : ℕ) (word : List ℕ) → BeginsForm forms (front ++ letter ∷ word) → BeginsForm forms (front ++ letter ∷ [])
shorter_front forms front letter word b =
    record {
      form = b.form;
      is_among = b.is_among;
      rest = word ++ b.rest;
      has_letters =
          b.has_letters ∙ append_assoc front (letter ∷ word) b.rest ∙ sym (append_assoc front (letter ∷ []) (word ++ b.rest));
    }

-- ---- nodes of fronts

-- rows that begin with the given ones, with a node that stands for what follows the front, and for something
record HasFrontNode (rows : List Row) (forms : List Form) (front : List ℕ) : Type 0 where
  pub after : List Row
  pub more : List Row
  pub is_more : after ≡ rows ++ more
  pub are : AreRows after
  pub node : ℕ
  pub there : node < length after
  pub not_empty : row_of after node ≢ empty_row
  pub stands : IsNodeAfter after forms front node

-- the child stands for what follows the front and its letter, with which some form begins
record IsKnownChild (rows : List Row) (forms : List Form) (front : List ℕ) (child : ℕ × ℕ) : Type 0 where
  pub letter : IsLetter child.0
  pub there : child.1 < length rows
  pub not_empty : row_of rows child.1 ≢ empty_row
  pub stands : IsNodeAfter rows forms (front ++ child.0 ∷ []) child.1
  pub begins : BeginsForm forms (front ++ child.0 ∷ [])

known_still : (rows more after : List Row) (forms : List Form) (front : List ℕ) → AreRows rows → after ≡ rows ++ more → (child : ℕ × ℕ)
    → IsKnownChild rows forms front child → IsKnownChild after forms front child
known_still rows more after forms front are is_more child k =
    let long = length-append rows more in
    let low = k.there in
    subst (λ (all : List Row). IsKnownChild all forms front child) (sym is_more) (record {
      letter = k.letter;
      there = omega (arith, long, low);
      not_empty = λ e. k.not_empty (sym (row_of-append rows more child.1 low) ∙ e);
      stands = IsNodeAfter-append rows more forms (front ++ child.0 ∷ []) child.1 are low k.stands;
      begins = k.begins;
    })

-- the children of a front for all letters below a bound
record HasChildren (rows : List Row) (forms : List Form) (front : List ℕ) (bound : ℕ) : Type 0 where
  pub after : List Row
  pub more : List Row
  pub is_more : after ≡ rows ++ more
  pub are : AreRows after
  pub children : List (ℕ × ℕ)
  pub rising : IsStrictlySortedBy (on (λ (c : ℕ × ℕ). c.0) nat_cmp) children
  pub known : All (IsKnownChild after forms front) children
  pub low : All (λ (c : ℕ × ℕ). c.0 < bound) children
  pub all : (letter : ℕ) → letter < bound → BeginsForm forms (front ++ letter ∷ []) → (child : ℕ) × Contains children (letter, child)

-- children that rise, and one with a greater letter
rising_push : (children : List (ℕ × ℕ)) (letter child : ℕ) → IsStrictlySortedBy (on (λ (c : ℕ × ℕ). c.0) nat_cmp) children
    → All (λ (c : ℕ × ℕ). c.0 < letter) children → IsStrictlySortedBy (on (λ (c : ℕ × ℕ). c.0) nat_cmp) (children ++ (letter, child) ∷ [])
unfolding IsStrictlySortedBy
rising_push children letter child rising below =
    sorted_append (on_total (λ (c : ℕ × ℕ). c.0) nat_cmp_total) children ((letter, child) ∷ []) rising (one_rises (letter, child))
    (λ y m. elim (Contains-cons_cases (letter, child) [] y m) [
      | inl e ↦ subst (λ (c : ℕ × ℕ). All (λ (x : ℕ × ℕ). nat_cmp x.0 c.0 ≡ Less) children) e (All-weaker (λ (c : ℕ × ℕ). c.0 < letter) (λ (x : ℕ × ℕ). nat_cmp x.0 letter ≡ Less) (λ x l. nat_cmp-Less x.0 letter l) children below)
      | inr n ↦ absurd (not_Contains-nil y n)
    ])
  where
    one_rises : (c : ℕ × ℕ) → IsStrictlySortedBy (on (λ (c : ℕ × ℕ). c.0) nat_cmp) (c ∷ [])
    one_rises c = (tt, tt)

module _ (forms : List Form) (phase : IsPhase forms) (front : List ℕ) (each : (letter : ℕ) → BeginsForm forms (front ++ letter ∷ []) → (rows : List Row) → AreRows rows → HasFrontNode rows forms (front ++ letter ∷ [])) where
  one_more : (rows : List Row) (bound : ℕ) → HasChildren rows forms front bound → Decided (BeginsForm forms (front ++ bound ∷ [])) → HasChildren rows forms front (suc bound)
  one_more rows bound c (inr none) = record {
    after = c.after;
    more = c.more;
    is_more = c.is_more;
    are = c.are;
    children = c.children;
    rising = c.rising;
    known = c.known;
    low = All-weaker (λ (x : ℕ × ℕ). x.0 < bound) (λ (x : ℕ × ℕ). x.0 < suc bound) (λ x l. omega (arith, l)) c.children c.low;
    all = λ letter below b. elim (cases_lt letter bound) [
      | inl less ↦ c.all letter less b
      | inr here ↦ let same : letter ≡ bound = omega (arith, below, here) in absurd (none (subst (λ (n : ℕ). BeginsForm forms (front ++ n ∷ [])) same b))
    ];
  }
  one_more rows bound c (inl begins) =
      let n = each bound begins c.after c.are in
      let child : ℕ × ℕ = (bound, n.node) in
      let kept = All-weaker (IsKnownChild c.after forms front) (IsKnownChild n.after forms front) (known_still c.after n.more n.after forms front c.are n.is_more) c.children c.known in
      let new : IsKnownChild n.after forms front child = record { letter = letter_of forms phase front bound begins; there = n.there; not_empty = n.not_empty; stands = n.stands; begins = begins } in
      record {
        after = n.after;
        more = c.more ++ n.more;
        is_more = n.is_more ∙ ap (λ (all : List Row). all ++ n.more) c.is_more ∙ append_assoc rows c.more n.more;
        are = n.are;
        children = c.children ++ child ∷ [];
        rising = rising_push c.children bound n.node c.rising c.low;
        known = All-push (IsKnownChild n.after forms front) c.children child kept new;
        low = All-push (λ (x : ℕ × ℕ). x.0 < suc bound) c.children child (All-weaker (λ (x : ℕ × ℕ). x.0 < bound) (λ (x : ℕ × ℕ). x.0 < suc bound) (λ x l. omega (arith, l)) c.children c.low) (omega arith);
        all = λ letter below b. elim (cases_lt letter bound) [
          | inl less ↦ let (found, m) = c.all letter less b in (found, Contains-append_left c.children (child ∷ []) (letter, found) m)
          | inr here ↦
              let same : bound ≡ letter = omega (arith, below, here) in
              (n.node, subst (λ (l : ℕ). Contains (c.children ++ child ∷ []) (l, n.node)) same (Contains-append_right c.children (child ∷ []) child (Contains-first child [])))
        ];
      }

  children_there : (rows : List Row) → AreRows rows → (bound : ℕ) → HasChildren rows forms front bound
  children_there rows are zero = record {
    after = rows;
    more = [];
    is_more = sym (append-nil rows);
    are = are;
    children = [];
    rising = sorted_nil (on (λ (c : ℕ × ℕ). c.0) nat_cmp);
    known = All-nil (IsKnownChild rows forms front);
    low = All-nil (λ (c : ℕ × ℕ). c.0 < 0);
    all = λ letter below b. absurd (omega (arith, below));
  }
  children_there rows are (suc bound) = one_more rows bound (children_there rows are bound) (begins_decided forms (front ++ bound ∷ []))

  -- the node of a front that begins a form
  front_there : BeginsForm forms front → (rows : List Row) → AreRows rows → HasFrontNode rows forms front
  front_there begins rows are =
      let c = children_there rows are 51 in
      let d = deltas_there forms phase front in
      let row : Row = record { deltas = d.deltas; children = c.children } in
      let all_there : (letter : ℕ) (word : List ℕ) → BeginsForm forms (front ++ letter ∷ word) → (child : ℕ) × Contains c.children (letter, child) =
      λ letter word b.
      let short = shorter_front forms front letter word b in
      let is = letter_of forms phase front letter short in
      let most = is.1 in
      c.all letter (omega (arith, most)) short
      in
      let is_row : IsRow c.after (length c.after) row =
      record {
        deltas = d.rising;
        children = All-weaker (IsKnownChild c.after forms front) (IsChild c.after (length c.after)) (λ child k. record { letter = k.letter; before = k.there; not_empty = k.not_empty }) c.children c.known;
        letters = c.rising;
      } in
      let n = interned c.after c.are row is_row in
      let stands : IsRowAfter n.after forms front row =
      record {
        rising = c.rising;
        deltas = d.are;
        children = All-weaker (IsKnownChild c.after forms front) (λ (child : ℕ × ℕ). IsNodeAfter n.after forms (front ++ child.0 ∷ []) child.1 × BeginsForm forms (front ++ child.0 ∷ []))
            (λ child k. let still = known_still c.after n.more n.after forms front c.are n.is_more child k in (still.stands, still.begins)) c.children c.known;
        letters = all_there;
      } in
      let filled : row ≢ empty_row = λ e. by_rest begins.rest begins.has_letters e in
      record {
        after = n.after;
        more = c.more ++ n.more;
        is_more = n.is_more ∙ ap (λ (all : List Row). all ++ n.more) c.is_more ∙ append_assoc rows c.more n.more;
        are = n.are;
        node = n.node;
        there = n.there;
        not_empty = λ e. filled (sym n.is ∙ e);
        stands = IsNodeAfter-row n.after forms front n.node (subst (IsRowAfter n.after forms front) (sym n.is) stands);
      }
    where
      by_rest : (rest : List ℕ) → begins.form.letters ≡ front ++ rest
          → record { deltas = (deltas_there forms phase front).deltas; children = (children_there rows are 51).children } ≡ empty_row → ⊥
      by_rest [] e f = (deltas_there forms phase front).some begins.form begins.is_among (e ∙ append-nil front) (ap (λ (r : Row). r.deltas) f)
      by_rest (letter ∷ rest) e f =
          let b : BeginsForm forms (front ++ letter ∷ []) = shorter_front forms front letter rest (record { form = begins.form; is_among = begins.is_among; rest = []; has_letters = e ∙ sym (append-nil (front ++ letter ∷ rest)) }) in
          let is = letter_of forms phase front letter b in
          let most = is.1 in
          let (child, m) = (children_there rows are 51).all letter (omega (arith, most)) b in
          not_Contains-nil (letter, child) (subst (λ (cs : List (ℕ × ℕ)). Contains cs (letter, child)) (ap (λ (r : Row). r.children) f) m)

-- forms that begin with a front are not longer than the front and so many letters
abbrev AreWithin : List Form → ℕ → Type 0
AreWithin forms most = (form : Form) → Contains forms form → length form.letters ≤ most

longer_front : (front : List ℕ) (letter : ℕ) → length (front ++ letter ∷ []) ≡ length front + 1
longer_front front letter = length_push front letter

node_there : (more : ℕ) (forms : List Form) → IsPhase forms → (front : List ℕ) → AreWithin forms (length front + more) → BeginsForm forms front
    → (rows : List Row) → AreRows rows → HasFrontNode rows forms front
node_there zero forms phase front within =
    front_there forms phase front (λ letter b rows are.
    let long = ap (λ (w : List ℕ). length w) b.has_letters in
    let parts = length-append (front ++ letter ∷ []) b.rest in
    let one = longer_front front letter in
    let short = within b.form b.is_among in
    absurd (omega (arith, long, parts, one, short)))
node_there (suc more) forms phase front within =
    front_there forms phase front (λ letter b.
    node_there more forms phase (front ++ letter ∷ []) (λ form m.
    let one = longer_front front letter in
    let short = within form m in
    omega (arith, one, short)) b)

-- ---- phases

longest : (forms : List Form) → (most : ℕ) × AreWithin forms most
longest [] = (0, λ form m. absurd (not_Contains-nil form m))
longest (first ∷ forms) =
    let (most, within) = longest forms in (
      length first.letters + most,
      λ form m. elim (Contains-cons_cases first forms form m) [
        | inl e ↦ let same = ap (λ (f : Form). length f.letters) e in omega (arith, same)
        | inr n ↦ let short = within form n in omega (arith, short)
      ],
    )

record HasRoot (rows : List Row) (forms : List Form) : Type 0 where
  pub after : List Row
  pub more : List Row
  pub is_more : after ≡ rows ++ more
  pub are : AreRows after
  pub root : ℕ
  pub there : root < length after
  pub stands : IsNodeAfter after forms [] root

root_there : (forms : List Form) → IsPhase forms → (rows : List Row) → AreRows rows → HasRoot rows forms
root_there [] phase rows are =
    let n = interned rows are empty_row (record { deltas = sorted_nil compare_deltas; children = All-nil (IsChild rows (length rows)); letters = sorted_nil (on (λ (c : ℕ × ℕ). c.0) nat_cmp) }) in
    let none : IsRowAfter n.after [] [] empty_row =
    record {
      rising = sorted_nil (on (λ (c : ℕ × ℕ). c.0) nat_cmp);
      deltas = λ delta. (λ m. absurd (not_Contains-nil delta m), λ h. absurd (not_Contains-nil h.form h.is_among));
      children = All-nil (λ (child : ℕ × ℕ). IsNodeAfter n.after [] ([] ++ child.0 ∷ []) child.1 × BeginsForm [] ([] ++ child.0 ∷ []));
      letters = λ letter word b. absurd (not_Contains-nil b.form b.is_among);
    } in
    record {
      after = n.after;
      more = n.more;
      is_more = n.is_more;
      are = n.are;
      root = n.node;
      there = n.there;
      stands = IsNodeAfter-row n.after [] [] n.node (subst (IsRowAfter n.after [] []) (sym n.is) none);
    }
root_there (first ∷ forms) phase rows are =
    let (most, within) = longest (first ∷ forms) in
    let n = node_there most (first ∷ forms) phase [] (λ form m. let short = within form m in omega (arith, short)) (record { form = first; is_among = Contains-first first forms; rest = first.letters; has_letters = refl }) rows are in
    record { after = n.after; more = n.more; is_more = n.is_more; are = n.are; root = n.node; there = n.there; stands = n.stands }

record HasRoots (rows : List Row) (phases : List (List Form)) : Type 0 where
  pub after : List Row
  pub more : List Row
  pub is_more : after ≡ rows ++ more
  pub are : AreRows after
  pub roots : List ℕ
  pub count : length roots ≡ length phases
  pub low : All (λ root. root < length after) roots
  pub each : (k : ℕ) → k < length phases → IsNodeAfter after (get_or phases k []) [] (get_or roots k 0)

roots_there : (phases : List (List Form)) → AllByRecursion IsPhase phases → (rows : List Row) → AreRows rows → HasRoots rows phases
roots_there [] each rows are = record {
  after = rows;
  more = [];
  is_more = sym (append-nil rows);
  are = are;
  roots = [];
  count = refl;
  low = All-nil (λ root. root < length rows);
  each = λ k below. absurd (omega (arith, below));
}
roots_there (forms ∷ phases) each rows are =
    let r = root_there forms each.0 rows are in
    let s = roots_there phases each.1 r.after r.are in
    let long = length-append r.after s.more in
    let all = ap (λ (x : List Row). length x) s.is_more in
    let low = r.there in
    let count = s.count in
    record {
      after = s.after;
      more = r.more ++ s.more;
      is_more = s.is_more ∙ ap (λ (x : List Row). x ++ s.more) r.is_more ∙ append_assoc rows r.more s.more;
      are = s.are;
      roots = r.root ∷ s.roots;
      count = omega (arith, count);
      low = All-cons (λ root. root < length s.after) r.root s.roots (omega (arith, long, all, low)) s.low;
      each = λ k below. by_place r s k below;
    }
  where
    by_place : (r : HasRoot rows forms) (s : HasRoots r.after phases) (k : ℕ) → k < length (forms ∷ phases)
        → IsNodeAfter s.after (get_or (forms ∷ phases) k []) [] (get_or (r.root ∷ s.roots) k 0)
    by_place r s zero below = subst (λ (x : List Row). IsNodeAfter x forms [] r.root) (sym s.is_more) (IsNodeAfter-append r.after s.more forms [] r.root r.are r.there r.stands)
    by_place r s (suc k) below = s.each k (omega (arith, below))

-- phases have a trie
pub trie_there : (phases : List (List Form)) → All IsPhase phases → (trie : Trie) × IsTrieOf trie phases
trie_there phases each =
    let none : AreRows [] = record { each = λ node low. absurd (omega (arith, low)); distinct = λ i j d less within. absurd (omega (arith, within)) } in
    let r = roots_there phases (recursion_from_All IsPhase phases each) [] none in (
      record { rows = r.after; roots = r.roots },
      record { is_trie = record { rows = r.are; roots = r.low }; count = r.count; each = r.each },
    )
