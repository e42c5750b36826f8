-- The suffixes of a node are those of its children with a letter before them, and the empty one where a form ends at it: a word is
-- empty, or its first letter tells the child.
use Rattle.std.proofs.Common.{◌≡◌, ◌≢◌, ℕ, ◌+◌, ◌<◌, ◌≤◌, ◌⊎◌, ◌↔◌, inl, inr, Bool, true, false, Option, Some, None, List, [], ◌∷◌, ◌++◌, length, get_or, slice_get, nat_eq, if◌then◌else◌, refl, sym, ◌∙◌, ap, subst, arith, length-append, append-nil}
use Rattle.std.specs.Global.{Vec}
use Rattle.std.specs.Cmp.Lexicographic.{pointwise}
use Rattle.std.specs.Prelude.{Contains, position}
use Rattle.std.proofs.lemmas.Bool.Decides.{Decides-eqb}
use Rattle.std.proofs.lemmas.Slice.Eq.{slice_eq-Decides}
use Rattle.std.proofs.lemmas.Bool.{cases_lt}
use Rattle.std.proofs.lemmas.List.{get_or_append_left, get_or_default, get_or_push, length_push}
use Rattle.std.proofs.lemmas.List.Elements.{All-contains, Contains-get_or, Contains-append_left, Contains-push, Contains-push_cases}
use Rattle.std.proofs.lemmas.List.Quantifiers.{position-Some}
use Rattle.std.proofs.lemmas.Option.{same_Some, slice_get_within, get_or_from_slice_get}
use Rattle.lexicon_definitions.specs.Tries.{Row, AreRows, IsChild, child_in, row_of}
use Rattle.lexicon_definitions.proofs.TrieChildren.{Contains-child_among, IsChild-child_in}
use Rattle.lexicon_definitions.proofs.TrieGrowth.{walk-child, walk-none}
use Rattle.lexicon_definitions.proofs.TrieSteps.{child_among-Contains}
use Rattle.annotated_trie.specs.Choices.{LeadsToEnd}
use Rattle.annotated_trie.specs.Suffixes.{AddsNode, AreSetsAt, AreSuffixesAt, GoesOn, GoesOnFrom}
use Rattle.annotated_trie.specs.Views.{list_at}
use Rattle.annotated_trie.proofs.ListPlaces.{list_at-append, list_at-read}

-- a word that leads from a child leads from the node with the child's letter before it
LeadsToEnd-child : (rows : List Row) (node letter child : ℕ) (word : List ℕ) → child_in rows node letter ≡ Some child → LeadsToEnd rows child word
    → LeadsToEnd rows node (letter ∷ word)
LeadsToEnd-child rows node letter child word e leads =
    record { reached = leads.reached; walked = walk-child rows node letter child word e ∙ leads.walked; ends = leads.ends }

-- a word that is not empty leads through a child
LeadsToEnd-rest : (rows : List Row) (node letter : ℕ) (word : List ℕ) → LeadsToEnd rows node (letter ∷ word)
    → (child : ℕ) × (child_in rows node letter ≡ Some child) × LeadsToEnd rows child word
LeadsToEnd-rest rows node letter word leads =
    let go : (o : Option ℕ) → child_in rows node letter ≡ o → (child : ℕ) × (child_in rows node letter ≡ Some child) × LeadsToEnd rows child word =
    elim [
      | None ↦ λ e. let none = walk-none rows node letter word e in let walked = leads.walked in absurd cc
      | Some child ↦ λ e. (child, e, record { reached = leads.reached; walked = sym (walk-child rows node letter child word e) ∙ leads.walked; ends = leads.ends })
    ]
    in go (child_in rows node letter) refl

module _ (suffixes : List (ℕ × ℕ)) (rows : List Row) (sets : List (Vec ℕ)) (places : List ℕ) (node : ℕ) (numbers : List ℕ)
    (are : AreRows rows) (low : node < length rows) (known : AreSetsAt suffixes rows node sets places)
    (members : (number : ℕ) → Contains numbers number
    ↔ (((number ≡ 0) × ((row_of rows node).deltas ≢ [])) ⊎ GoesOnFrom suffixes sets places (row_of rows node).children number)) where
  -- the numbers are those of the node's suffixes
  pub AreSuffixesAt-children : AreSuffixesAt suffixes rows node numbers
  AreSuffixesAt-children number [] stands = (
    λ (has : Contains numbers number). elim ((members number).0 has) [
      | inl e ↦ record { reached = node; walked = refl; ends = e.1 }
      | inr g ↦ absurd (let follows = g.goes_on.longer.follows in omega (arith, follows, stands))
    ],
    λ (leads : LeadsToEnd rows node []).
        let walked = leads.walked in
        let here : leads.reached ≡ node = cc in
        (members number).1 (inl (stands, subst (λ (n : ℕ). (row_of rows n).deltas ≢ []) here leads.ends)),
  )
  AreSuffixesAt-children number (letter ∷ word) (rest, longer, stands) = (
    λ (has : Contains numbers number). elim ((members number).0 has) [
      | inl e ↦ absurd (let follows = longer.follows in let none = e.0 in omega (arith, follows, none))
      | inr g ↦
          let child = g.child in
          let own = g.goes_on in
          let children = (row_of rows node).children in
          let follows = longer.follows in
          let own_follows = own.longer.follows in
          let same_place : own.longer.place ≡ longer.place = omega (arith, follows, own_follows) in
          let pair : (child.0, own.rest) ≡ (letter, rest) = same_Some (child.0, own.rest) (letter, rest) (sym own.longer.stored ∙ ap (slice_get suffixes) same_place ∙ longer.stored) in
          let same_letter : child.0 ≡ letter = ap (λ (p : ℕ × ℕ). p.0) pair in
          let same_rest : own.rest ≡ rest = ap (λ (p : ℕ × ℕ). p.1) pair in
          let before = (All-contains (IsChild rows node) children child (are.each node low).children g.is_child).before in
          let found : child_in rows node letter ≡ Some child.1 =
          ap (child_in rows node) (sym same_letter) ∙ child_among-Contains child.0 child.1 children (are.each node low).letters g.is_child in
          LeadsToEnd-child rows node letter child.1 word found ((known.each child.1 before rest word stands).0 (subst (Contains (list_at sets (get_or places child.1 0))) same_rest own.among))
    ],
    λ (leads : LeadsToEnd rows node (letter ∷ word)).
        let (child, found, rest_leads) = LeadsToEnd-rest rows node letter word leads in
        let before = (IsChild-child_in rows node letter child are low found).before in
        (members number).1 (inr (record {
          child = (letter, child);
          is_child = Contains-child_among letter child (row_of rows node).children found;
          goes_on = record { rest = rest; among = (known.each child before rest word stands).1 rest_leads; longer = longer };
        })),
  )

-- a child that is read has a smaller number
pub child_before : (rows : List Row) (node k : ℕ) (children : List (ℕ × ℕ)) (child : ℕ × ℕ) → AreRows rows → node < length rows → children ≡ (row_of rows node).children
    → k < length children → child ≡ get_or children k child → child.1 < node
child_before rows node k children child are low e within is =
    let among : Contains (row_of rows node).children child = subst (λ (cs : List (ℕ × ℕ)). Contains cs child) e (subst (Contains children) (sym is) (Contains-get_or children k child within)) in
    (All-contains (IsChild rows node) (row_of rows node).children child (are.each node low).children among).before

-- the place that is read for a child
pub place_read : (places : List ℕ) (n child place : ℕ) → place ≡ get_or places n place → n ≡ child → child < length places → place ≡ get_or places child 0
place_read places n child place is same low = is ∙ ap (λ (m : ℕ). get_or places m place) same ∙ get_or_default places child place 0 low

-- the list that is read for a child
pub set_read : (sets read : List (Vec ℕ)) (place at : ℕ) (list : Vec ℕ) (rests : List ℕ) → read ≡ sets → list ≡ get_or read place list → place ≡ at → at < length sets → rests ≡ list.items
    → rests ≡ list_at sets at
set_read sets read place at list rests keys is same low items =
    let there : list ≡ get_or sets at list = is ∙ ap (λ (lists : List (Vec ℕ)). get_or lists place list) keys ∙ ap (λ (m : ℕ). get_or sets m list) same in
    items ∙ sym (list_at-read sets at list low there)

-- one child more
pub GoesOnFrom-push : (suffixes : List (ℕ × ℕ)) (sets : List (Vec ℕ)) (places : List ℕ) (children : List (ℕ × ℕ)) (child : ℕ × ℕ) (rests old new : List ℕ) (Empty : ℕ → Type 0)
    → rests ≡ list_at sets (get_or places child.1 0)
    → ((number : ℕ) → Contains old number ↔ (Empty number ⊎ GoesOnFrom suffixes sets places children number))
    → ((number : ℕ) → Contains new number ↔ (Contains old number ⊎ GoesOn suffixes child.0 rests number))
    → (number : ℕ) → Contains new number ↔ (Empty number ⊎ GoesOnFrom suffixes sets places (children ++ child ∷ []) number)
GoesOnFrom-push suffixes sets places children child rests old new Empty are so_far added number = (
  λ (has : Contains new number). elim ((added number).0 has) [
    | inl before ↦ elim ((so_far number).0 before) [
      | inl e ↦ inl e
      | inr g ↦ inr (record { child = g.child; is_child = Contains-append_left children (child ∷ []) g.child g.is_child; goes_on = g.goes_on })
    ]
    | inr goes ↦ inr (record { child = child; is_child = Contains-push children child; goes_on = subst (λ (xs : List ℕ). GoesOn suffixes child.0 xs number) are goes })
  ],
  elim [
    | inl e ↦ (added number).1 (inl ((so_far number).1 (inl e)))
    | inr g ↦ elim (Contains-push_cases children child g.child g.is_child) [
      | inl before ↦ (added number).1 (inl ((so_far number).1 (inr (record { child = g.child; is_child = before; goes_on = g.goes_on }))))
      | inr same ↦ (added number).1 (inr (subst (λ (xs : List ℕ). GoesOn suffixes child.0 xs number) (sym are)
          (subst (λ (c : ℕ × ℕ). GoesOn suffixes c.0 (list_at sets (get_or places c.1 0)) number) (sym same) g.goes_on)))
    ]
  ],
)

-- a list that is put into a set of lists stands there, and the others stay
pub AddsNode-insert : (old new : List (Vec ℕ)) (numbers : Vec ℕ) (old_places new_places : List ℕ) (place : ℕ) (b : Bool) → new ≡ (if b then old else old ++ numbers ∷ [])
    → (list : Vec ℕ) × (slice_get new place ≡ Some list) × (pointwise nat_eq numbers.items list.items ≡ true) → new_places ≡ old_places ++ place ∷ []
    → AddsNode old new old_places new_places numbers.items
AddsNode-insert old new numbers old_places new_places place b keys (list, at, same) places =
    let adds : (c : Bool) → new ≡ (if c then old else old ++ numbers ∷ []) → (more : List (Vec ℕ)) × (new ≡ old ++ more) × (length more ≤ 1) =
    elim [
      | true ↦ λ e. ([], e ∙ sym (append-nil old), omega arith)
      | false ↦ λ e. (numbers ∷ [], e, omega arith)
    ]
    in
    let (more, is, few) = adds b keys in
    let there = slice_get_within new place list at in
    let equal : numbers.items ≡ list.items = (slice_eq-Decides Decides-eqb numbers.items list.items (pointwise nat_eq numbers.items list.items) refl).0 same in
    record {
      more = more;
      sets = is;
      few = few;
      place = place;
      places = places;
      there = there;
      has = list_at-read new place list there (sym (get_or_from_slice_get new place list list at)) ∙ sym equal;
    }

-- a list that is found in a set of lists stands there, and the set stays
pub AddsNode-found : (sets : List (Vec ℕ)) (numbers old_places new_places : List ℕ) (place : ℕ) (default : Vec ℕ)
    → position (λ (list : Vec ℕ). pointwise nat_eq numbers list.items) sets ≡ Some place → new_places ≡ old_places ++ place ∷ []
    → AddsNode sets sets old_places new_places numbers
AddsNode-found sets numbers old_places new_places place default found places =
    let (there, same, before) = position-Some (λ (list : Vec ℕ). pointwise nat_eq numbers list.items) sets place default found in
    let list = get_or sets place default in
    let equal : numbers ≡ list.items = (slice_eq-Decides Decides-eqb numbers list.items (pointwise nat_eq numbers list.items) refl).0 same in
    record {
      more = [];
      sets = sym (append-nil sets);
      few = omega arith;
      place = place;
      places = places;
      there = there;
      has = list_at-read sets place list there (get_or_default sets place default list there) ∙ sym equal;
    }

-- one node more
pub AreSetsAt-push : (suffixes : List (ℕ × ℕ)) (rows : List Row) (node : ℕ) (old_sets new_sets : List (Vec ℕ)) (old_places new_places numbers : List ℕ)
    → AreSetsAt suffixes rows node old_sets old_places → AddsNode old_sets new_sets old_places new_places numbers → AreSuffixesAt suffixes rows node numbers
    → AreSetsAt suffixes rows (node + 1) new_sets new_places
AreSetsAt-push suffixes rows node old_sets new_sets old_places new_places numbers are adds at_node =
    let count = are.count in
    let fewer = are.fewer in
    let few = adds.few in
    let there = adds.there in
    let new_long : length new_sets ≡ length (old_sets ++ adds.more) = ap (λ (lists : List (Vec ℕ)). length lists) adds.sets in
    let long = length-append old_sets adds.more in
    let places_long : length new_places ≡ length (old_places ++ adds.place ∷ []) = ap (λ (ps : List ℕ). length ps) adds.places in
    let pushed = length_push old_places adds.place in
    let before : (n : ℕ) → n < node → get_or new_places n 0 ≡ get_or old_places n 0 =
    λ n l. ap (λ (ps : List ℕ). get_or ps n 0) adds.places ∙ get_or_append_left old_places (adds.place ∷ []) 0 n (omega (arith, l, count)) in
    let last : (n : ℕ) → node ≡ n → get_or new_places n 0 ≡ adds.place =
    λ n e. ap (λ (ps : List ℕ). get_or ps n 0) adds.places ∙ get_or_push old_places adds.place 0 n (count ∙ e) in
    record {
      count = omega (arith, count, places_long, pushed);
      fewer = omega (arith, fewer, few, new_long, long);
      within = λ n l. elim (cases_lt n node) [
        | inl b ↦ let same = before n b in let old = are.within n b in omega (arith, same, old, new_long, long)
        | inr g ↦ let same = last n (omega (arith, g, l)) in omega (arith, same, there)
      ];
      each = λ n l. elim (cases_lt n node) [
        | inl b ↦
            let same : list_at new_sets (get_or new_places n 0) ≡ list_at old_sets (get_or old_places n 0) =
            ap (list_at new_sets) (before n b) ∙ ap (λ (lists : List (Vec ℕ)). list_at lists (get_or old_places n 0)) adds.sets ∙ list_at-append old_sets adds.more (get_or old_places n 0) (are.within n b) in
            subst (AreSuffixesAt suffixes rows n) (sym same) (are.each n b)
        | inr g ↦
            let e : node ≡ n = omega (arith, g, l) in
            let same : list_at new_sets (get_or new_places n 0) ≡ numbers = ap (list_at new_sets) (last n e) ∙ adds.has in
            subst (AreSuffixesAt suffixes rows n) (sym same) (subst (λ (m : ℕ). AreSuffixesAt suffixes rows m numbers) e at_node)
      ];
    }
