-- Phases have one ordered trie. Nodes of two such tries are mates where they have the same suffixes, and each node has a mate. Where the rows
-- agree below a number, the row at this number is that of its mate; no mate stands before, and if both stood after, each of two lines would be
-- below the other. So the rows agree one after another, and roots are told by their suffixes.
use Rattle.std.proofs.Common.{◌≡◌, ◌↔◌, inl, inr, ℕ, zero, suc, ◌<◌, ◌≤◌, Option, Some, None, List, [], ◌∷◌, ◌++◌, length, get_or, refl, sym, ◌∙◌, ap, subst, arith}
use Rattle.std.specs.Prelude.{Contains, is_some}
use Rattle.std.specs.List.{AllByRecursion}
use Rattle.std.proofs.lemmas.Bool.{cases_lt}
use Rattle.std.proofs.lemmas.Cmp.{nat_cmp_total, on_total}
use Rattle.std.proofs.lemmas.List.{append-nil, get_or_default}
use Rattle.std.proofs.lemmas.List.Elements.{All-contains, All-get_or, recursion_from_All}
use Rattle.std.proofs.lemmas.Map.Keys.{Less-from_sorted}
use Rattle.list_laws.proofs.Elements.{some_element}
use Rattle.list_laws.proofs.Sorted.{same_sorted, not_Less-both}
use Rattle.lexicon_definitions.specs.Deltas.{Delta}
use Rattle.lexicon_definitions.specs.Lexicons.{Form}
use Rattle.lexicon_definitions.specs.Tries.{Row, Trie, AreRows, IsChild, HasSuffix, HasDelta, IsNodeAfter, child_in, row_of, walk, empty_row, child_among}
use Rattle.lexicon_definitions.proofs.TrieChildren.{Contains-child_among, IsChild-child_in}
use Rattle.lexicon_definitions.proofs.TrieGrowth.{walk-child, walk-none, walk-within}
use Rattle.lexicon_definitions.proofs.TrieSteps.{child_among-Contains}
use Rattle.lexicon_definitions.proofs.TrieSuffixes.{compare_deltas-total, one_from_suffixes}
use Rattle.lexicon_definitions.proofs.TrieWalks.{IsNodeAfter-walk}
use Rattle.trie_text_definitions.specs.NodeLines.{NodeLine, compare_node_lines, heights, node_line, node_line_over, node_lines}
use Rattle.trie_text_definitions.specs.VersionTexts.{IsOrderedTrieOf}
use Rattle.trie_text_definitions.proofs.NodeSteps.{node_lines_total}
use Rattle.trie_text_definitions.proofs.NodeValueLaws.{length-values, same_heights}
use Rattle.trie_text_definitions.proofs.RootNodes.{reached_by, ending_below}
use Rattle.trie_text_definitions.proofs.ToldTries.{no_line, heights_at, line_at}

-- ---- suffixes through children

suffix_of_child : (rows : List Row) (node letter child : ℕ) (word : List ℕ) (delta : Delta) → child_in rows node letter ≡ Some child
    → HasSuffix rows child word delta → HasSuffix rows node (letter ∷ word) delta
suffix_of_child rows node letter child word delta e has =
    record { reached = has.reached; walked = walk-child rows node letter child word e ∙ has.walked; has_delta = has.has_delta }

suffix_through : (rows : List Row) (node letter : ℕ) (word : List ℕ) (delta : Delta) → HasSuffix rows node (letter ∷ word) delta
    → (child : ℕ) × (child_in rows node letter ≡ Some child) × HasSuffix rows child word delta
suffix_through rows node letter word delta has =
    let go : (o : Option ℕ) → child_in rows node letter ≡ o → (child : ℕ) × (child_in rows node letter ≡ Some child) × HasSuffix rows child word delta =
    elim [
      | None ↦ λ e. let none = walk-none rows node letter word e in let walked = has.walked in absurd cc
      | Some child ↦ λ e. (child, e, record { reached = has.reached; walked = sym (walk-child rows node letter child word e) ∙ has.walked; has_delta = has.has_delta })
    ]
    in go (child_in rows node letter) refl

own_suffix : (rows : List Row) (node : ℕ) (delta : Delta) → HasSuffix rows node [] delta → Contains (row_of rows node).deltas delta
own_suffix rows node delta has =
    let walked = has.walked in
    let here : has.reached ≡ node = cc in
    subst (λ (n : ℕ). Contains (row_of rows n).deltas delta) here has.has_delta

-- a node of the one trie and a node of the other have the same suffixes
abbrev AreMates : List Row → List Row → ℕ → ℕ → Type 0
AreMates rows others node other = (word : List ℕ) (delta : Delta) → HasSuffix rows node word delta ↔ HasSuffix others other word delta

abbrev AgreeBelow : List Row → List Row → ℕ → Type 0
AgreeBelow rows others bound = (k : ℕ) → k < bound → row_of rows k ≡ row_of others k

turned : (rows others : List Row) (bound : ℕ) → AgreeBelow rows others bound → AgreeBelow others rows bound
turned rows others bound h = λ k below. sym (h k below)

-- ---- where rows agree

module _ (rows others : List Row) (are : AreRows rows) (bound : ℕ) (within : bound ≤ length rows) (agree : AgreeBelow rows others bound) where
  walks_agree : (word : List ℕ) (node : ℕ) → node < bound → walk rows node word ≡ walk others node word
  walks_agree [] node below = refl
  walks_agree (letter ∷ word) node below =
      let same : child_in rows node letter ≡ child_in others node letter = ap (λ (r : Row). child_among r.children letter) (agree node below) in
      let go : (o : Option ℕ) → child_in rows node letter ≡ o → walk rows node (letter ∷ word) ≡ walk others node (letter ∷ word) =
      elim [
        | None ↦ λ e. walk-none rows node letter word e ∙ sym (walk-none others node letter word (sym same ∙ e))
        | Some child ↦ λ e.
            let before = (IsChild-child_in rows node letter child are (omega (arith, below, within)) e).before in
            walk-child rows node letter child word e ∙ walks_agree word child (omega (arith, before, below)) ∙ sym (walk-child others node letter child word (sym same ∙ e))
      ]
      in go (child_in rows node letter) refl

  suffix_kept : (node : ℕ) → node < bound → (word : List ℕ) (delta : Delta) → HasSuffix rows node word delta → HasSuffix others node word delta
  suffix_kept node below word delta has =
      let low = walk-within rows are word node has.reached (omega (arith, below, within)) has.walked in
      record {
        reached = has.reached;
        walked = sym (walks_agree word node below) ∙ has.walked;
        has_delta = subst (λ (r : Row). Contains r.deltas delta) (agree has.reached (omega (arith, low, below))) has.has_delta;
      }

-- ---- mates have the same row

module _ (rows others : List Row) (are : AreRows rows) (are_others : AreRows others) (bound other : ℕ) (low : bound < length rows) (within : bound ≤ length others)
    (below_other : other < length others) (agree : AgreeBelow rows others bound) (mates : AreMates rows others bound other) where
  kept : (node : ℕ) → node < bound → AreMates rows others node node
  kept node below word delta = (
    suffix_kept rows others are bound (omega (arith, low)) agree node below word delta,
    suffix_kept others rows are_others bound within (turned rows others bound agree) node below word delta,
  )

  -- a child of the one is a child of its mate
  child_kept : (child : ℕ × ℕ) → Contains (row_of rows bound).children child → Contains (row_of others other).children child
  child_kept child among =
      let is = All-contains (IsChild rows bound) (row_of rows bound).children child (are.each bound low).children among in
      let before = is.before in
      let leads : child_in rows bound child.0 ≡ Some child.1 = child_among-Contains child.0 child.1 (row_of rows bound).children (are.each bound low).letters among in
      let ending = ending_below rows are (suc child.1) child.1 (omega arith) (omega (arith, before, low)) is.not_empty in
      let (delta, m) = some_element (row_of rows ending.reached).deltas ending.some in
      let has : HasSuffix rows child.1 ending.word delta = record { reached = ending.reached; walked = ending.walked; has_delta = m } in
      let (found, f, rest) = suffix_through others other child.0 ending.word delta ((mates (child.0 ∷ ending.word) delta).0 (suffix_of_child rows bound child.0 child.1 ending.word delta leads has)) in
      let found_low = (IsChild-child_in others other child.0 found are_others below_other f).before in
      let to : (w : List ℕ) (d : Delta) → HasSuffix others found w d → HasSuffix others child.1 w d =
      λ w d h.
      let (third, g, r) = suffix_through rows bound child.0 w d ((mates (child.0 ∷ w) d).1 (suffix_of_child others other child.0 found w d f h)) in
      let one : third ≡ child.1 = cc in
      (kept child.1 before w d).0 (subst (λ (n : ℕ). HasSuffix rows n w d) one r)
      in
      let from : (w : List ℕ) (d : Delta) → HasSuffix others child.1 w d → HasSuffix others found w d =
      λ w d h.
      let (third, g, r) = suffix_through others other child.0 w d ((mates (child.0 ∷ w) d).0 (suffix_of_child rows bound child.0 child.1 w d leads ((kept child.1 before w d).1 h))) in
      let one : third ≡ found = cc in
      subst (λ (n : ℕ). HasSuffix others n w d) one r
      in
      let one : found ≡ child.1 = one_from_suffixes others are_others found child.1 (omega (arith, found_low, below_other)) (omega (arith, before, within)) (λ w d. (to w d, from w d)) in
      subst (λ (n : ℕ). Contains (row_of others other).children (child.0, n)) one (Contains-child_among child.0 found (row_of others other).children f)

  -- and the other way: its letter leads somewhere from the one too, to the same node
  child_back : (child : ℕ × ℕ) → Contains (row_of others other).children child → Contains (row_of rows bound).children child
  child_back child among =
      let is = All-contains (IsChild others other) (row_of others other).children child (are_others.each other below_other).children among in
      let before = is.before in
      let leads : child_in others other child.0 ≡ Some child.1 = child_among-Contains child.0 child.1 (row_of others other).children (are_others.each other below_other).letters among in
      let ending = ending_below others are_others (suc child.1) child.1 (omega arith) (omega (arith, before, below_other)) is.not_empty in
      let (delta, m) = some_element (row_of others ending.reached).deltas ending.some in
      let has : HasSuffix others child.1 ending.word delta = record { reached = ending.reached; walked = ending.walked; has_delta = m } in
      let (found, f, rest) = suffix_through rows bound child.0 ending.word delta ((mates (child.0 ∷ ending.word) delta).1 (suffix_of_child others other child.0 child.1 ending.word delta leads has)) in
      let there = Contains-child_among child.0 found (row_of rows bound).children f in
      let kept_there = child_among-Contains child.0 found (row_of others other).children (are_others.each other below_other).letters (child_kept (child.0, found) there) in
      let both : Some found ≡ Some child.1 = sym kept_there ∙ leads in
      let one : found ≡ child.1 = cc in
      subst (λ (n : ℕ). Contains (row_of rows bound).children (child.0, n)) one there

  same_row : row_of rows bound ≡ row_of others other
  same_row =
      let deltas : (row_of rows bound).deltas ≡ (row_of others other).deltas =
      same_sorted compare_deltas-total (row_of rows bound).deltas (row_of others other).deltas (are.each bound low).deltas (are_others.each other below_other).deltas
      (λ d m. own_suffix others other d ((mates [] d).0 (record { reached = bound; walked = refl; has_delta = m })))
      (λ d m. own_suffix rows bound d ((mates [] d).1 (record { reached = other; walked = refl; has_delta = m })))
      in
      let children : (row_of rows bound).children ≡ (row_of others other).children =
      same_sorted (on_total (λ (c : ℕ × ℕ). c.0) nat_cmp_total) (row_of rows bound).children (row_of others other).children (are.each bound low).letters (are_others.each other below_other).letters
      child_kept child_back
      in
      λ i. record { deltas = deltas i; children = children i }

-- ---- lines of rows that agree

module _ (rows others : List Row) (are : AreRows rows) (are_others : AreRows others) (bound : ℕ) (within : bound ≤ length rows) (within_others : bound ≤ length others) (agree : AgreeBelow rows others bound) where
  heights_agree : (children : List (ℕ × ℕ)) (node : ℕ) → AllByRecursion (IsChild rows node) children → node ≤ bound
      → ((k : ℕ) → k < node → get_or (node_lines rows) k no_line ≡ get_or (node_lines others) k no_line)
      → AllByRecursion (λ (child : ℕ × ℕ). get_or (heights (node_lines rows)) child.1 0 ≡ get_or (heights (node_lines others)) child.1 0) children
  heights_agree [] node h below same = tt
  heights_agree (child ∷ children) node h below same =
      let before = h.0.before in
      let many = length-values node_line_over rows in
      let many_others = length-values node_line_over others in (
        heights_at (node_lines rows) child.1 (omega (arith, before, below, within, many)) ∙ ap (λ (n : NodeLine). n.height) (same child.1 before)
            ∙ sym (heights_at (node_lines others) child.1 (omega (arith, before, below, within_others, many_others))),
        heights_agree children node h.1 below same,
      )

  -- the line of a row over both
  over_both : (node : ℕ) → node < length rows → node ≤ bound → ((k : ℕ) → k < node → get_or (node_lines rows) k no_line ≡ get_or (node_lines others) k no_line)
      → node_line_over (node_lines rows) (row_of rows node) ≡ node_line_over (node_lines others) (row_of rows node)
  over_both node low below same =
      let row = row_of rows node in
      let high = same_heights (heights (node_lines rows)) (heights (node_lines others)) row.children (heights_agree row.children node (recursion_from_All (IsChild rows node) row.children (are.each node low).children) below same) in
      λ i. record { height = high i; bytes = node_line row }

  lines_below : (count k : ℕ) → k < count → k < bound → get_or (node_lines rows) k no_line ≡ get_or (node_lines others) k no_line
  lines_below zero k small below = absurd (omega (arith, small))
  lines_below (suc count) k small below =
      line_at rows k are (omega (arith, below, within)) ∙ over_both k (omega (arith, below, within)) (omega (arith, below)) (λ j less. lines_below count j (omega (arith, less, small)) (omega (arith, less, below)))
      ∙ ap (node_line_over (node_lines others)) (agree k below) ∙ sym (line_at others k are_others (omega (arith, below, within_others)))

  -- a row that agrees with another has the same line
  same_line : (other : ℕ) → bound < length rows → other < length others → row_of rows bound ≡ row_of others other
      → get_or (node_lines rows) bound no_line ≡ get_or (node_lines others) other no_line
  same_line other low below_other row =
      line_at rows bound are low ∙ over_both bound low (omega arith) (λ j less. lines_below (suc j) j (omega arith) less)
      ∙ ap (node_line_over (node_lines others)) row ∙ sym (line_at others other are_others below_other)

-- ---- each node has a mate

suffixes_told : (rows : List Row) (forms : List Form) (front : List ℕ) (node : ℕ) → IsNodeAfter rows forms front node → (word : List ℕ) (delta : Delta)
    → HasSuffix rows node word delta ↔ HasDelta forms (front ++ word) delta
suffixes_told rows forms front node is word delta = (
  λ has. (is.deltas word has.reached has.walked delta).0 has.has_delta,
  λ d.
      let (reached, walked) = reached_by (walk rows node word) ((is.walks word).1 (inr (record { form = d.form; is_among = d.is_among; rest = []; has_letters = d.has_letters ∙ sym (append-nil (front ++ word)) }))) in
      record { reached = reached; walked = walked; has_delta = (is.deltas word reached walked delta).1 d },
)

mates_by : (rows others : List Row) (forms : List Form) (front : List ℕ) (node other : ℕ) → IsNodeAfter rows forms front node → IsNodeAfter others forms front other → AreMates rows others node other
mates_by rows others forms front node other h k word delta =
    let left = suffixes_told rows forms front node h word delta in
    let right = suffixes_told others forms front other k word delta in
    (λ has. right.1 (left.0 has), λ has. left.1 (right.0 has))

module _ (left right : Trie) (phases : List (List Form)) (h : IsOrderedTrieOf left phases) (k : IsOrderedTrieOf right phases) where
  mate_of : (node : ℕ) → node < length left.rows → (other : ℕ) × (other < length right.rows) × AreMates left.rows right.rows node other
  mate_of node low =
      let led = h.is_used node low in
      let (phase, below, is) = led.is_root in
      let count = h.is_trie.count in
      let count_right = k.is_trie.count in
      let forms = get_or phases phase [] in
      let here : IsNodeAfter left.rows forms [] led.root = subst (IsNodeAfter left.rows forms []) (get_or_default left.roots phase 0 led.root below ∙ is) (h.is_trie.each phase (omega (arith, below, count))) in
      let there = k.is_trie.each phase (omega (arith, below, count)) in
      let root = get_or right.roots phase 0 in
      let (other, walked) = reached_by (walk right.rows root led.word) ((there.walks led.word).1 ((here.walks led.word).0 (ap is_some led.walked))) in
      let root_low = All-get_or (λ root. root < length right.rows) right.roots phase 0 (omega (arith, below, count, count_right)) k.is_trie.is_trie.roots in
      let within = walk-within right.rows k.is_trie.is_trie.rows led.word root other root_low walked in (
        other,
        omega (arith, within, root_low),
        mates_by left.rows right.rows forms led.word node other
            (IsNodeAfter-walk left.rows forms [] led.word led.root node here led.walked) (IsNodeAfter-walk right.rows forms [] led.word root other there walked),
      )

  -- where the rows agree below a node, its row is that of a node that does not stand before
  later_mate : (bound : ℕ) → bound < length left.rows → bound ≤ length right.rows → AgreeBelow left.rows right.rows bound
      → (other : ℕ) × (other < length right.rows) × (bound ≤ other) × (row_of left.rows bound ≡ row_of right.rows other)
  later_mate bound low within agree =
      let (other, below, mates) = mate_of bound low in
      let row = same_row left.rows right.rows h.is_trie.is_trie.rows k.is_trie.is_trie.rows bound other low within below agree mates in
      elim (cases_lt other bound) [
        | inl before ↦ absurd (h.is_trie.is_trie.rows.distinct other bound empty_row before low (agree other before ∙ sym row))
        | inr above ↦ (other, below, above, row)
      ]

module _ (left right : Trie) (phases : List (List Form)) (h : IsOrderedTrieOf left phases) (k : IsOrderedTrieOf right phases) where
  -- the next rows agree too
  next_agrees : (bound : ℕ) → bound < length left.rows → bound < length right.rows → AgreeBelow left.rows right.rows bound → row_of left.rows bound ≡ row_of right.rows bound
  next_agrees bound low low_right agree =
      let are = h.is_trie.is_trie.rows in
      let are_right = k.is_trie.is_trie.rows in
      let back = turned left.rows right.rows bound agree in
      let (other, below, above, row) = later_mate left right phases h k bound low (omega (arith, low_right)) agree in
      let (first, below_first, above_first, row_first) = later_mate right left phases k h bound low_right (omega (arith, low)) back in
      elim (cases_lt bound other) [
        | inr up_to ↦ let same : other ≡ bound = omega (arith, above, up_to) in row ∙ ap (row_of right.rows) same
        | inl more ↦ elim (cases_lt bound first) [
          | inr up_to ↦ let same : first ≡ bound = omega (arith, above_first, up_to) in sym (row_first ∙ ap (row_of left.rows) same)
          | inl more_first ↦
              let many = length-values node_line_over left.rows in
              let many_right = length-values node_line_over right.rows in
              let x = same_line left.rows right.rows are are_right bound (omega (arith, low)) (omega (arith, low_right)) agree other low below row in
              let y = same_line right.rows left.rows are_right are bound (omega (arith, low_right)) (omega (arith, low)) back first low_right below_first row_first in
              let up = Less-from_sorted compare_node_lines (node_lines left.rows) bound first no_line h.rising more_first (omega (arith, below_first, many)) in
              let down = Less-from_sorted compare_node_lines (node_lines right.rows) bound other no_line k.rising more (omega (arith, below, many_right)) in
              absurd (not_Less-both node_lines_total (get_or (node_lines left.rows) bound no_line) (get_or (node_lines right.rows) bound no_line)
              ((λ i. compare_node_lines (get_or (node_lines left.rows) bound no_line) (y i)) ∙ up) ((λ i. compare_node_lines (get_or (node_lines right.rows) bound no_line) (x i)) ∙ down))
        ]
      ]

  agree_to : (bound : ℕ) → bound ≤ length left.rows → bound ≤ length right.rows → AgreeBelow left.rows right.rows bound
  agree_to zero within within_right = λ j below. absurd (omega (arith, below))
  agree_to (suc bound) within within_right =
      let before = agree_to bound (omega (arith, within)) (omega (arith, within_right)) in
      λ j below. elim (cases_lt j bound) [
        | inl less ↦ before j less
        | inr here ↦ let same : bound ≡ j = omega (arith, below, here) in subst (λ (n : ℕ). row_of left.rows n ≡ row_of right.rows n) same (next_agrees bound (omega (arith, within)) (omega (arith, within_right)) before)
      ]

  -- the one has no more rows than the other
  no_more : length left.rows < length right.rows → ⊥
  no_more less =
      let agree = agree_to (length left.rows) (omega arith) (omega (arith, less)) in
      let (first, below, above, row) = later_mate right left phases k h (length left.rows) less (omega arith) (turned left.rows right.rows (length left.rows) agree) in
      omega (arith, below, above)

same_by_rows : (left right : List Row) → length left ≡ length right → AgreeBelow left right (length left) → left ≡ right
same_by_rows [] [] e f = refl
same_by_rows [] (y ∷ right) e f = absurd (omega (arith, e))
same_by_rows (x ∷ left) [] e f = absurd (omega (arith, e))
same_by_rows (x ∷ left) (y ∷ right) e f =
    λ i. f 0 (omega arith) i ∷ same_by_rows left right (omega (arith, e)) (λ k l. f (suc k) (omega (arith, l))) i

same_by_numbers : (left right : List ℕ) → length left ≡ length right → ((k : ℕ) → k < length left → get_or left k 0 ≡ get_or right k 0) → left ≡ right
same_by_numbers [] [] e f = refl
same_by_numbers [] (y ∷ right) e f = absurd (omega (arith, e))
same_by_numbers (x ∷ left) [] e f = absurd (omega (arith, e))
same_by_numbers (x ∷ left) (y ∷ right) e f =
    λ i. f 0 (omega arith) i ∷ same_by_numbers left right (omega (arith, e)) (λ k l. f (suc k) (omega (arith, l))) i

module _ (left right : Trie) (phases : List (List Form)) (h : IsOrderedTrieOf left phases) (k : IsOrderedTrieOf right phases) where
  as_many : length left.rows ≡ length right.rows
  as_many =
      elim (cases_lt (length left.rows) (length right.rows)) [
        | inl less ↦ absurd (no_more left right phases h k less)
        | inr up_to ↦ elim (cases_lt (length right.rows) (length left.rows)) [
          | inl less ↦ absurd (no_more right left phases k h less)
          | inr not_less ↦ omega (arith, up_to, not_less)
        ]
      ]

  same_rows : left.rows ≡ right.rows
  same_rows = let many = as_many in same_by_rows left.rows right.rows many (agree_to left right phases h k (length left.rows) (omega arith) (omega (arith, many)))

  same_root : (phase : ℕ) → phase < length left.roots → get_or left.roots phase 0 ≡ get_or right.roots phase 0
  same_root phase below =
      let count = h.is_trie.count in
      let count_right = k.is_trie.count in
      let one = get_or left.roots phase 0 in
      let other = get_or right.roots phase 0 in
      let low = All-get_or (λ root. root < length left.rows) left.roots phase 0 below h.is_trie.is_trie.roots in
      let low_right = All-get_or (λ root. root < length right.rows) right.roots phase 0 (omega (arith, below, count, count_right)) k.is_trie.is_trie.roots in
      let here = h.is_trie.each phase (omega (arith, below, count)) in
      let there : IsNodeAfter left.rows (get_or phases phase []) [] other = subst (λ (rows : List Row). IsNodeAfter rows (get_or phases phase []) [] other) (sym same_rows) (k.is_trie.each phase (omega (arith, below, count))) in
      let many = as_many in
      one_from_suffixes left.rows h.is_trie.is_trie.rows one other low (omega (arith, low_right, many)) (mates_by left.rows left.rows (get_or phases phase []) [] one other here there)

  pub one_trie : left ≡ right
  one_trie =
      let count = h.is_trie.count in
      let count_right = k.is_trie.count in
      let roots = same_by_numbers left.roots right.roots (count ∙ sym count_right) same_root in
      λ i. record { rows = same_rows i; roots = roots i }
