-- Phases within the limits have an ordered trie: that of the nodes to which a root leads, level by level. Each of them is reached by a front of a
-- form, so they are not too many for their numbers to be printed.
use Rattle.std.proofs.Common.{◌≡◌, ◌≢◌, inl, inr, ℕ, zero, suc, ◌+◌, ◌-◌, ◌*◌, ◌<◌, ◌≤◌, ◌^◌, Option, Some, None, List, [], ◌∷◌, ◌++◌, length, map, take, get_or, false, refl, sym, ◌∙◌, ap, subst, arith}
use Rattle.std.specs.Prelude.{All, AllPairs, Contains, is_some, sum_by}
use Rattle.std.specs.List.{range_with_len}
use Rattle.std.specs.List.Sorted.{IsSortedByKey}
use Rattle.std.specs.Ordering.{nat_cmp, ordering_then, ordering_reverse, is_lt}
use Rattle.std.specs.Cmp.Lexicographic.{slice_cmp}
use Rattle.std.specs.declared.cmp.Ordering.{Ordering}
use Rattle.std.specs.declared.cmp.Ordering.TheVariants.{Less, Equal, Greater}
use Rattle.std.proofs.lemmas.Bool.{cases_lt}
use Rattle.std.proofs.lemmas.Cmp.{nat_list_cmp_total}
use Rattle.std.proofs.lemmas.List.{get_or-map, get_or_default, length-append, length-map}
use Rattle.std.proofs.lemmas.List.Elements.{All-contains, All-get_or, Contains-append_left, Contains-append_right}
use Rattle.std.proofs.lemmas.List.FromFn.{length-range_with_len}
use Rattle.std.proofs.lemmas.List.Sorted.{IsPermutation-refl}
use Rattle.std.proofs.lemmas.List.Sums.{sum_by-cons}
use Rattle.std.proofs.lemmas.Map.Keys.{Less-from_sorted}
use Rattle.list_laws.proofs.FirstOnes.{Contains-map, Contains-map_cases}
use Rattle.list_laws.proofs.Sorted.{All-from_Contains, Contains-first, Contains-later, Contains-cons_cases, not_Contains-nil, not_Less-itself, sorted_nil}
use Rattle.text_definitions.specs.Letters.{IsLetter}
use Rattle.text_definitions.specs.Words.{IsWord}
use Rattle.lexicon_definitions.specs.declared.limits.TheConstants.{MOST_FORM_LINES, MOST_PHASES}
use Rattle.lexicon_definitions.specs.Analyses.{Analysis}
use Rattle.lexicon_definitions.specs.Deltas.{Delta}
use Rattle.lexicon_definitions.specs.Lexicons.{Form, IsAnalysis, IsFormEntry, IsPhase}
use Rattle.lexicon_definitions.specs.Limits.{IsShortForm, count_lines}
use Rattle.lexicon_definitions.specs.Tags.{IsTagText}
use Rattle.lexicon_definitions.specs.Tries.{Row, Trie, IsChild, IsTrieOf, row_of, walk}
use Rattle.lexicon_definitions.proofs.TrieGrowth.{walk-within}
use Rattle.lexicon_definitions.proofs.TrieSteps.{child_among-Contains}
use Rattle.demo_definitions.proofs.DifferentElements.{in_from_contains, contains_from_in, different_are_few, different_from_pairs}
use Rattle.trie_text_definitions.specs.NodeLines.{compare_node_lines, node_line}
use Rattle.trie_text_definitions.specs.PrintableRows.{IsPrintable, IsPrintableDelta, IsPrintableChild}
use Rattle.trie_text_definitions.specs.VersionTexts.{IsLedTo, IsOrderedTrieOf}
use Rattle.trie_text_definitions.proofs.NodeSteps.{node_lines_total}
use Rattle.trie_text_definitions.proofs.RootNodes.{in_range}
use Rattle.trie_text_definitions.proofs.ToldTries.{no_line}
use Rattle.shared_trie.specs.CanonicalNodes.{numbered_child, numbered_row, trie_of_nodes, height_of, line_in, NodeText, text_of_node, ArePlaced, IsLevelOf}
use Rattle.shared_trie.proofs.CanonicalLevels.{placed_next}
use Rattle.shared_trie.proofs.CanonicalOrders.{canonical_order}
use Rattle.shared_trie.proofs.LineHeights.{child_lower}
use Rattle.shared_trie.proofs.NumbersIn.{number_at}
use Rattle.shared_trie.proofs.NumberedTries.{led_to_child, ordered_trie}
use Rattle.existence_laws.proofs.OrderedNodes.{apart_sorted, compare, compare_total, level, level_has, level_rises}
use Rattle.existence_laws.proofs.TriesThere.{trie_there}

-- ---- candidates

abbrev or_zero : Option ℕ → ℕ
or_zero None = 0
or_zero (Some n) = n

take_front : (word rest : List ℕ) → take (length word) (word ++ rest) ≡ word
take_front [] rest = refl
take_front (letter ∷ word) rest = λ i. letter ∷ take_front word rest i

module _ (rows : List Row) where
  -- where the fronts of a form lead
  abbrev of_form : ℕ → Form → List ℕ
  of_form root form = map (λ k. or_zero (walk rows root (take k form.letters))) (range_with_len 0 (length form.letters + 1))

  abbrev of_forms : ℕ → List Form → List ℕ
  of_forms root [] = []
  of_forms root (form ∷ forms) = of_form root form ++ of_forms root forms

  abbrev of_phases : List ℕ → List (List Form) → List ℕ
  of_phases [] phases = []
  of_phases (root ∷ roots) [] = []
  of_phases (root ∷ roots) (forms ∷ phases) = (root ∷ of_forms root forms) ++ of_phases roots phases

  length-of_form : (root : ℕ) (form : Form) → length (of_form root form) ≡ length form.letters + 1
  length-of_form root form =
      length-map (range_with_len 0 (length form.letters + 1)) (λ k. or_zero (walk rows root (take k form.letters)))
      ∙ length-range_with_len 0 (length form.letters + 1)

  -- for each form no more than letters and one
  few_of_forms : (root : ℕ) (forms : List Form) → ((form : Form) → Contains forms form → IsFormEntry form) → ((form : Form) → Contains forms form → IsShortForm form)
      → length (of_forms root forms) ≤ 65 * sum_by (λ (form : Form). length form.analyses) forms
  few_of_forms root [] each short = omega arith
  few_of_forms root (form ∷ forms) each short =
      let parts = length-append (of_form root form) (of_forms root forms) in
      let here = length-of_form root form in
      let letters = (short form (Contains-first form forms)).letters in
      let some = some_analysis form.analyses (each form (Contains-first form forms)).analyzed in
      let rest = few_of_forms root forms (λ f m. each f (Contains-later form forms f m)) (λ f m. short f (Contains-later form forms f m)) in
      let sum = sum_by-cons (λ (f : Form). length f.analyses) form forms in
      omega (arith, parts, here, letters, some, rest, sum)
    where
      some_analysis : (analyses : List Analysis) → analyses ≢ [] → 0 < length analyses
      some_analysis [] n = absurd (n refl)
      some_analysis (analysis ∷ analyses) n = omega arith

  few_of_phases : (roots : List ℕ) (phases : List (List Form)) → ((forms : List Form) → Contains phases forms → IsPhase forms)
      → ((forms : List Form) → Contains phases forms → All IsShortForm forms)
      → length (of_phases roots phases) ≤ length phases + 65 * count_lines phases
  few_of_phases [] phases each short = omega arith
  few_of_phases (root ∷ roots) [] each short = omega arith
  few_of_phases (root ∷ roots) (forms ∷ phases) each short =
      let parts = length-append (root ∷ of_forms root forms) (of_phases roots phases) in
      let m = Contains-first forms phases in
      let here =
      few_of_forms root forms (λ form n. All-contains IsFormEntry forms form (each forms m).each n) (λ form n. All-contains IsShortForm forms form (short forms m) n) in
      let rest = few_of_phases roots phases (λ f n. each f (Contains-later forms phases f n)) (λ f n. short f (Contains-later forms phases f n)) in
      let sum = sum_by-cons (λ (fs : List Form). sum_by (λ (form : Form). length form.analyses) fs) forms phases in
      omega (arith, parts, here, rest, sum)

  -- a front of a form leads to a candidate
  among_form : (root : ℕ) (form : Form) (word rest : List ℕ) (node : ℕ) → form.letters ≡ word ++ rest → walk rows root word ≡ Some node → Contains (of_form root form) node
  among_form root form word rest node e walked =
      let long = ap (λ (w : List ℕ). length w) e in
      let parts = length-append word rest in
      let front : take (length word) form.letters ≡ word = ap (take (length word)) e ∙ take_front word rest in
      let is : or_zero (walk rows root (take (length word) form.letters)) ≡ node = ap (λ (w : List ℕ). or_zero (walk rows root w)) front ∙ ap (λ (o : Option ℕ). or_zero o) walked in
      subst (Contains (of_form root form)) is
      (Contains-map (λ k. or_zero (walk rows root (take k form.letters))) (range_with_len 0 (length form.letters + 1)) (length word)
      (in_range 0 (length form.letters + 1) (length word) (omega arith) (omega (arith, long, parts))))

  among_forms : (root : ℕ) (forms : List Form) (form : Form) (node : ℕ) → Contains forms form → Contains (of_form root form) node → Contains (of_forms root forms) node
  among_forms root [] form node m n = absurd (not_Contains-nil form m)
  among_forms root (first ∷ forms) form node m n =
      elim (Contains-cons_cases first forms form m) [
        | inl same ↦ Contains-append_left (of_form root first) (of_forms root forms) node (subst (λ (f : Form). Contains (of_form root f) node) (sym same) n)
        | inr later ↦ Contains-append_right (of_form root first) (of_forms root forms) node (among_forms root forms form node later n)
      ]

  among_phases : (roots : List ℕ) (phases : List (List Form)) (k node : ℕ) → k < length roots → length roots ≡ length phases
      → Contains (get_or roots k 0 ∷ of_forms (get_or roots k 0) (get_or phases k [])) node → Contains (of_phases roots phases) node
  among_phases [] phases k node low count m = absurd (omega (arith, low))
  among_phases (root ∷ roots) [] k node low count m = absurd (omega (arith, count))
  among_phases (root ∷ roots) (forms ∷ phases) zero node low count m = Contains-append_left (root ∷ of_forms root forms) (of_phases roots phases) node m
  among_phases (root ∷ roots) (forms ∷ phases) (suc k) node low count m =
      Contains-append_right (root ∷ of_forms root forms) (of_phases roots phases) node (among_phases roots phases k node (omega (arith, low)) (omega (arith, count)) m)

-- ---- the order

module _ (trie : Trie) (phases : List (List Form)) (h : IsTrieOf trie phases) (each : All IsPhase phases) (short : All (λ forms. All IsShortForm forms) phases)
    (few_phases : length phases ≤ MOST_PHASES) (few : count_lines phases ≤ MOST_FORM_LINES) where
  abbrev rows : List Row
  rows = trie.rows

  abbrev many : ℕ
  many = length phases + 65 * count_lines phases

  low : (node : ℕ) → IsLedTo trie node → node < length rows
  low node from =
      let root = All-contains (λ root. root < length trie.rows) trie.roots from.root h.is_trie.roots from.is_root in
      let within = walk-within rows h.is_trie.rows from.word from.root node root from.walked in
      omega (arith, root, within)

  -- what a word leads to from the root of a phase
  record IsReached (node : ℕ) : Type 0 where
    phase : ℕ
    inside : phase < length trie.roots
    word : List ℕ
    walked : walk rows (get_or trie.roots phase 0) word ≡ Some node

  reached : (node : ℕ) → IsLedTo trie node → IsReached node
  reached node from =
      let (k, below, is) = from.is_root in
      record { phase = k; inside = below; word = from.word; walked = ap (λ (r : ℕ). walk rows r from.word) (get_or_default trie.roots k 0 from.root below ∙ is) ∙ from.walked }

  is_candidate : (node : ℕ) → IsLedTo trie node → Contains (of_phases rows trie.roots phases) node
  is_candidate node from =
      let r = reached node from in
      let count = h.count in
      let inside = r.inside in
      let stands = h.each r.phase (omega (arith, inside, count)) in
      let root = get_or trie.roots r.phase 0 in
      let forms = get_or phases r.phase [] in
      among_phases rows trie.roots phases r.phase node r.inside count (elim ((stands.walks r.word).0 (ap is_some r.walked)) [
        | inl none ↦
            let here : Some root ≡ Some node = sym (ap (walk rows root) none) ∙ r.walked in
            let same : root ≡ node = cc (here) in
            subst (Contains (root ∷ of_forms rows root forms)) same (Contains-first root (of_forms rows root forms))
        | inr begins ↦
            Contains-later root (of_forms rows root forms) node
            (among_forms rows root forms begins.form node begins.is_among (among_form rows root begins.form r.word begins.rest node begins.has_letters r.walked))
      ])

  -- different nodes to which roots lead are not too many
  few_nodes : (nodes : List ℕ) → AllPairs (λ (left right : ℕ). left ≢ right) nodes → ((node : ℕ) → Contains nodes node → IsLedTo trie node) → length nodes < 2 ^ 64
  few_nodes nodes apart led =
      let all = of_phases rows trie.roots phases in
      let fewer = different_are_few nodes all (different_from_pairs nodes apart) (λ node m. in_from_contains node all (is_candidate node (led node (contains_from_in node nodes m)))) in
      let most = few_of_phases rows trie.roots phases (λ forms m. All-contains IsPhase phases forms each m) (λ forms m. All-contains (λ fs. All IsShortForm fs) phases forms short m) in
      omega (arith, fewer, most, few, few_phases)

  -- the deltas of a node are printable
  delta_printable : (node : ℕ) → IsLedTo trie node → (delta : Delta) → Contains (row_of rows node).deltas delta → IsPrintableDelta delta
  delta_printable node from delta m =
      let r = reached node from in
      let count = h.count in
      let inside = r.inside in
      let low_phase : r.phase < length phases = omega (arith, inside, count) in
      let has = ((h.each r.phase low_phase).deltas r.word node r.walked delta).0 m in
      let forms = get_or phases r.phase [] in
      let phase = All-get_or IsPhase phases r.phase [] low_phase each in
      let entry = All-contains IsFormEntry forms has.form phase.each has.is_among in
      let letters = (All-contains IsShortForm forms has.form (All-get_or (λ fs. All IsShortForm fs) phases r.phase [] low_phase short) has.is_among).letters in
      let analysis = All-contains IsAnalysis has.form.analyses has.analysis entry.analyses has.is_analyzed in
      let within = has.is_delta.within in
      let same = ap (λ (w : List ℕ). length w) has.has_letters in
      let stem : IsWord (take (length r.word - delta.cut) r.word ++ delta.append) = subst IsWord (sym (ap (λ (a : Analysis). a.stem) has.is_delta.gives)) analysis.stem in
      record {
        cut = omega (arith, within, same, letters);
        word = All-from_Contains IsLetter delta.append (λ letter n. All-contains IsLetter (take (length r.word - delta.cut) r.word ++ delta.append) letter stem (Contains-append_right (take (length r.word - delta.cut) r.word) delta.append letter n));
        tag = subst IsTagText (sym (ap (λ (a : Analysis). a.tag) has.is_delta.gives)) analysis.tag;
      }

  -- the nodes below a height are placed
  placed_there : (height : ℕ) → (nodes : List ℕ) × ArePlaced trie height nodes
  placed_there zero = (
    [],
    record {
      each = λ node. (λ m. absurd (not_Contains-nil node m), λ below. let none = below.1 in absurd (omega (arith, none)));
      rising = sorted_nil compare_node_lines;
    },
  )
  placed_there (suc height) =
      let (nodes, placed) = placed_there height in
      let order = compare rows trie.roots h.is_trie.rows h.is_trie.roots nodes in
      let all = level rows trie.roots h.is_trie.rows h.is_trie.roots height nodes (length rows) in
      let has = level_has rows trie.roots h.is_trie.rows h.is_trie.roots height nodes (length rows) in
      let rises = level_rises rows trie.roots h.is_trie.rows h.is_trie.roots height nodes (length rows) in
      let total = compare_total rows trie.roots h.is_trie.rows h.is_trie.roots nodes in
      let is_level : IsLevelOf trie height all =
      record {
        each = λ node. (
          λ m. let is = (has node).0 m in (is.1.2, is.1.1),
          λ is. (has node).1 (low node is.0, (low node is.0, is.1, is.0)),
        );
        apart = apart_sorted order total all rises;
      } in
      let apart_nodes : AllPairs (λ (left right : ℕ). left ≢ right) nodes =
      λ i j d less below e.
      let long = length-map nodes (line_in rows nodes) in
      let up = Less-from_sorted compare_node_lines (map (line_in rows nodes) nodes) i j no_line placed.rising less (omega (arith, below, long)) in
      let left = get_or-map (line_in rows nodes) nodes i d no_line (omega (arith, less, below)) in
      let right = get_or-map (line_in rows nodes) nodes j d no_line below in
      not_Less-itself node_lines_total (line_in rows nodes (get_or nodes j d))
      ((λ k. compare_node_lines (line_in rows nodes (sym e k)) (line_in rows nodes (get_or nodes j d))) ∙ (λ k. compare_node_lines (sym left k) (sym right k)) ∙ up)
      in
      let small = few_nodes nodes apart_nodes (λ node m. ((placed.each node).0 m).0) in
      let printable : All (λ node. IsPrintable (numbered_row nodes (row_of rows node))) all =
      All-from_Contains (λ node. IsPrintable (numbered_row nodes (row_of rows node))) all (λ node m.
      let is = (has node).0 m in
      let led = is.1.2 in
      let at = is.1.1 in
      record {
        deltas = All-from_Contains IsPrintableDelta (row_of rows node).deltas (delta_printable node led);
        children = All-from_Contains IsPrintableChild (map (numbered_child nodes) (row_of rows node).children) (λ child n.
            let (old, inside, same) = Contains-map_cases (numbered_child nodes) (row_of rows node).children child n in
            let row = h.is_trie.rows.each node (low node led) in
            let c = All-contains (IsChild rows node) (row_of rows node).children old row.children inside in
            let lower = child_lower rows h.is_trie.rows node (low node led) old inside in
            let there = (placed.each old.1).1 (child_is_led node led old inside, omega (arith, lower, at)) in
            let number = (number_at nodes old.1 there).0 in
            subst IsPrintableChild same (record { letter = c.letter; number = omega (arith, number, small) }));
      }) in
      let texts = map (text_of_node rows nodes) all in
      let in_order : IsSortedByKey (λ (text : NodeText). text.bytes) (slice_cmp nat_cmp) texts =
      λ k d from below.
      let long = length-map all (text_of_node rows nodes) in
      let within : k + 1 < length all = omega (arith, below, long) in
      let less = Less-from_sorted order all k (k + 1) 0 rises (omega arith) within in
      let left = get_or-map (text_of_node rows nodes) all k 0 d (omega (arith, within)) in
      let right = get_or-map (text_of_node rows nodes) all (k + 1) 0 d within in
      ap is_lt (λ i. slice_cmp nat_cmp (right i).bytes (left i).bytes) ∙ not_after (line_of nodes (get_or all k 0)) (line_of nodes (get_or all (k + 1) 0)) (nat_cmp (get_or all k 0) (get_or all (k + 1) 0)) less
      in (
        nodes ++ map (λ (text : NodeText). text.node) texts,
        subst (λ n. ArePlaced trie n (nodes ++ map (λ (text : NodeText). text.node) texts)) (omega arith)
            (placed_next trie h.is_trie height nodes all placed is_level printable texts (IsPermutation-refl texts) in_order),
      )
    where
      line_of : List ℕ → ℕ → List ℕ
      line_of nodes node = node_line (numbered_row nodes (row_of rows node))

      child_is_led : (node : ℕ) → IsLedTo trie node → (child : ℕ × ℕ) → Contains (row_of rows node).children child → IsLedTo trie child.1
      child_is_led node led child m =
          led_to_child trie node child.0 child.1 led (child_among-Contains child.0 child.1 (row_of rows node).children (h.is_trie.rows.each node (low node led)).letters m)

      not_after : (left right : List ℕ) (later : Ordering) → ordering_then (slice_cmp nat_cmp left right) later ≡ Less → is_lt (slice_cmp nat_cmp right left) ≡ false
      not_after left right later e =
          let back : slice_cmp nat_cmp right left ≡ ordering_reverse (slice_cmp nat_cmp left right) = nat_list_cmp_total.antisymm right left in
          let go : (order : Ordering) → slice_cmp nat_cmp left right ≡ order → is_lt (slice_cmp nat_cmp right left) ≡ false =
          elim [
            | Less ↦ λ f. ap is_lt (back ∙ ap ordering_reverse f)
            | Equal ↦ λ f. ap is_lt (back ∙ ap ordering_reverse f)
            | Greater ↦ λ f. let whole = sym e ∙ ap (λ o. ordering_then o later) f in absurd (cc (whole))
          ]
          in go (slice_cmp nat_cmp left right) refl

  -- some height is above those of all nodes
  above_all : (count : ℕ) → (most : ℕ) × ((node : ℕ) → node < count → height_of rows node < most)
  above_all zero = (0, λ node below. absurd (omega (arith, below)))
  above_all (suc count) =
      let (most, high) = above_all count in (
        most + height_of rows count + 1,
        λ node below. elim (cases_lt node count) [
          | inl less ↦ let under = high node less in omega (arith, under)
          | inr here ↦ let same : node ≡ count = omega (arith, here, below) in let e = ap (height_of rows) same in omega (arith, e)
        ],
      )

  ordered_there : (ordered : Trie) × IsOrderedTrieOf ordered phases
  ordered_there =
      let (most, high) = above_all (length rows) in
      let (nodes, placed) = placed_there most in (
        trie_of_nodes trie nodes,
        ordered_trie trie nodes phases h (canonical_order trie h.is_trie nodes (λ node m. ((placed.each node).0 m).0) (λ node led. (placed.each node).1 (led, high node (low node led))) placed.rising),
      )

-- phases within the limits have an ordered trie
pub ordered_trie_there : (phases : List (List Form)) → All IsPhase phases → All (λ forms. All IsShortForm forms) phases → length phases ≤ MOST_PHASES
    → count_lines phases ≤ MOST_FORM_LINES → (trie : Trie) × IsOrderedTrieOf trie phases
ordered_trie_there phases each short few_phases few =
    let (trie, h) = trie_there phases each in ordered_there trie phases h each short few_phases few
