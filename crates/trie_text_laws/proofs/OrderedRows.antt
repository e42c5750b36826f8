-- The rows of the ordered trie of a lexicon may be told one after another: a word leads from each node as far down as it is high, and this word
-- goes on in a form, which is short; its deltas are those of a form's analyses; and of rows that rise each is above those before it.
use Rattle.std.proofs.Common.{◌≡◌, ◌⊎◌, inl, inr, ℕ, zero, suc, ◌+◌, ◌-◌, ◌<◌, ◌≤◌, ◌^◌, Some, List, [], ◌∷◌, ◌++◌, length, take, get_or, refl, sym, ◌∙◌, ap, subst, arith}
use Rattle.std.specs.Prelude.{All, Contains, IsSome}
use Rattle.std.specs.List.{AllByRecursion}
use Rattle.std.specs.List.Sorted.{IsStrictlySortedBy}
use Rattle.std.specs.declared.cmp.Ordering.TheVariants.{Less}
use Rattle.std.proofs.lemmas.Bool.{cases_lt}
use Rattle.std.proofs.lemmas.List.{append_assoc, append-nil, length-append, get_or_at}
use Rattle.std.proofs.lemmas.List.Elements.{All-contains, All-from_get_or, All-get_or, Contains-append_right, recursion_from_All, All-from_recursion}
use Rattle.list_laws.proofs.Sorted.{All-from_Contains, Contains-first, Contains-later}
use Rattle.text_definitions.specs.Letters.{IsLetter}
use Rattle.text_definitions.specs.Words.{IsWord}
use Rattle.lexicon_definitions.specs.declared.limits.TheConstants.{MOST_FORM_LETTERS, MOST_FORM_LINES, MOST_PHASES}
use Rattle.lexicon_definitions.specs.Analyses.{Analysis}
use Rattle.lexicon_definitions.specs.Deltas.{Delta}
use Rattle.lexicon_definitions.specs.Lexicons.{Form, IsAnalysis, IsFormEntry, IsPhase}
use Rattle.lexicon_definitions.specs.Limits.{IsShortForm, count_lines}
use Rattle.lexicon_definitions.specs.Tags.{IsTagText}
use Rattle.lexicon_definitions.specs.Tries.{Row, Trie, AreRows, IsChild, IsRow, row_of, walk, empty_row}
use Rattle.lexicon_definitions.proofs.TrieGrowth.{row_of-append, walk-child}
use Rattle.lexicon_definitions.proofs.TrieSteps.{child_among-Contains}
use Rattle.lexicon_definitions.proofs.TrieWalks.{IsNodeAfter-walk}
use Rattle.lexicon_text_definitions.specs.FileContents.{compare_last}
use Rattle.lexicon_text_definitions.proofs.RisingLines.{last_below}
use Rattle.trie_text_definitions.specs.NodeLines.{NodeLine, compare_node_lines, heights, node_line_over, node_lines}
use Rattle.trie_text_definitions.specs.NodeValues.{height_over}
use Rattle.trie_text_definitions.specs.VersionSteps.{Told}
use Rattle.trie_text_definitions.specs.VersionTexts.{IsOrderedTrieOf}
use Rattle.trie_text_definitions.proofs.NodeSteps.{node_lines_total, IsRowDelta, IsRootNode}
use Rattle.trie_text_definitions.proofs.NodeValueLaws.{values_push, length-values}
use Rattle.trie_text_definitions.proofs.ToldTries.{no_line, heights_at, line_at}
use Rattle.trie_text_laws.proofs.NodeCounts.{reached, few_nodes}
use Rattle.trie_text_laws.proofs.NodeFieldsRead.{IsSmallChild}
use Rattle.trie_text_laws.proofs.NodeLinesRead.{MayTell}

-- ---- heights

-- a height over children is 0, or one more than that of a child
over_child : (hs : List ℕ) (children : List (ℕ × ℕ)) → (height_over hs children ≡ 0) ⊎ ((child : ℕ × ℕ) × Contains children child × (height_over hs children ≡ get_or hs child.1 0 + 1))
over_child hs [] = inl refl
over_child hs (child ∷ children) =
    let high = height_over hs children in
    let new = get_or hs child.1 0 + 1 in
    elim (cases_lt high new) [
      | inl l ↦ inr (child, Contains-first child children, omega (arith, l))
      | inr g ↦ elim (over_child hs children) [
        | inl z ↦ inl (omega (arith, z, g))
        | inr (c, among, e) ↦ inr (c, Contains-later child children c among, omega (arith, e, g))
      ]
    ]

module _ (rows : List Row) (are : AreRows rows) where
  abbrev pub height_at : ℕ → ℕ
  height_at node = (get_or (node_lines rows) node no_line).height

  -- a word leads from a node as far down as it is high
  height_word : (bound node : ℕ) → node < bound → node < length rows → (word : List ℕ) × IsSome (walk rows node word) × (length word ≡ height_at node)
  height_word zero node below low = absurd (omega (arith, below))
  height_word (suc bound) node below low =
      let hs = heights (node_lines rows) in
      let children = (row_of rows node).children in
      let here : height_at node ≡ height_over hs children = ap (λ (n : NodeLine). n.height) (line_at rows node are low) in
      elim (over_child hs children) [
        | inl z ↦ ([], refl, sym (here ∙ z))
        | inr (child, among, e) ↦
            let row = are.each node low in
            let before = (All-contains (IsChild rows node) children child row.children among).before in
            let (word, walks, long) = height_word bound child.1 (omega (arith, before, below)) (omega (arith, before, low)) in
            let many = length-values node_line_over rows in
            let down = heights_at (node_lines rows) child.1 (omega (arith, before, low, many)) in
            let leads = child_among-Contains child.0 child.1 children row.letters among in (
              child.0 ∷ word,
              subst IsSome (sym (walk-child rows node child.0 child.1 word leads)) walks,
              omega (arith, long, down, e, here),
            )
      ]

-- ---- rows that may be told

pub record AreTellable (rows : List Row) : Type 0 where
  pub each : AreRows rows
  pub rising : IsStrictlySortedBy compare_node_lines (node_lines rows)
  pub low : All (λ (node : NodeLine). node.height ≤ MOST_FORM_LETTERS) (node_lines rows)
  pub deltas : All (λ (row : Row). AllByRecursion IsRowDelta row.deltas) rows
  pub few : length rows ≤ 10 ^ 9

module _ (trie : Trie) (phases : List (List Form)) (h : IsOrderedTrieOf trie phases) (each : All IsPhase phases) (short : All (λ forms. All IsShortForm forms) phases) where
  -- a form of a phase, and that it is short
  entry_of : (phase : ℕ) → phase < length phases → (form : Form) → Contains (get_or phases phase []) form → IsFormEntry form × IsShortForm form
  entry_of phase low form m = (
    All-contains IsFormEntry (get_or phases phase []) form (All-get_or IsPhase phases phase [] low each).each m,
    All-contains IsShortForm (get_or phases phase []) form (All-get_or (λ forms. All IsShortForm forms) phases phase [] low short) m,
  )

  node_is_low : (node : ℕ) → node < length trie.rows → height_at trie.rows h.is_trie.is_trie.rows node ≤ MOST_FORM_LETTERS
  node_is_low node low =
      let r = reached trie phases h.is_trie node (h.is_used node low) in
      let (word, walks, long) = height_word trie.rows h.is_trie.is_trie.rows (suc node) node (omega arith) low in
      let after = IsNodeAfter-walk trie.rows (get_or phases r.phase []) [] r.word (get_or trie.roots r.phase 0) node r.stands r.walked in
      elim ((after.walks word).0 walks) [
        | inl none ↦ let e = ap (λ (w : List ℕ). length w) none in omega (arith, e, long)
        | inr begins ↦
            let letters = (entry_of r.phase r.low begins.form begins.is_among).1.letters in
            let whole = ap (λ (w : List ℕ). length w) begins.has_letters in
            let outer = length-append (r.word ++ word) begins.rest in
            let inner = length-append r.word word in
            omega (arith, letters, whole, outer, inner, long)
      ]

  delta_told : (node : ℕ) → node < length trie.rows → (delta : Delta) → Contains (row_of trie.rows node).deltas delta → IsRowDelta delta
  delta_told node low delta m =
      let r = reached trie phases h.is_trie node (h.is_used node low) in
      let has = (r.stands.deltas r.word node r.walked delta).0 m in
      let (entry, shorts) = entry_of r.phase r.low has.form has.is_among in
      let letters = shorts.letters in
      let analysis = All-contains IsAnalysis has.form.analyses has.analysis entry.analyses has.is_analyzed in
      let small = All-contains (λ (a : Analysis). length a.stem ≤ MOST_FORM_LETTERS) has.form.analyses has.analysis shorts.stems has.is_analyzed in
      let within = has.is_delta.within in
      let same = ap (λ (w : List ℕ). length w) has.has_letters in
      let front = take (length r.word - delta.cut) r.word in
      let gives : front ++ delta.append ≡ has.analysis.stem = ap (λ (a : Analysis). a.stem) has.is_delta.gives in
      let tags : delta.tag ≡ has.analysis.tag = ap (λ (a : Analysis). a.tag) has.is_delta.gives in
      let stem : IsWord (front ++ delta.append) = subst IsWord (sym gives) analysis.stem in
      let long = ap (λ (w : List ℕ). length w) gives in
      let parts = length-append front delta.append in (
        record {
          cut = omega (arith, within, same, letters);
          word = All-from_Contains IsLetter delta.append (λ letter n. All-contains IsLetter (front ++ delta.append) letter stem (Contains-append_right front delta.append letter n));
          tag = subst IsTagText (sym tags) analysis.tag;
        },
        omega (arith, small, long, parts),
      )

  pub rows_tellable : length phases ≤ MOST_PHASES → count_lines phases ≤ MOST_FORM_LINES → AreTellable trie.rows
  rows_tellable few_phases few_lines =
      let many = length-values node_line_over trie.rows in
      record {
        each = h.is_trie.is_trie.rows;
        rising = h.rising;
        low = All-from_get_or (λ (node : NodeLine). node.height ≤ MOST_FORM_LETTERS) (node_lines trie.rows) no_line (λ node below. node_is_low node (omega (arith, below, many)));
        deltas = All-from_get_or (λ (row : Row). AllByRecursion IsRowDelta row.deltas) trie.rows empty_row (λ node low.
            recursion_from_All IsRowDelta (row_of trie.rows node).deltas (All-from_Contains IsRowDelta (row_of trie.rows node).deltas (delta_told node low)));
        few = few_nodes trie phases h each short few_phases few_lines;
      }

  -- a root is a node without deltas, since the empty word is no form
  pub root_told : (root : ℕ) (phase : ℕ) → phase < length trie.roots → get_or trie.roots phase 0 ≡ root → IsRootNode trie.rows root
  root_told root phase inside e =
      let count = h.is_trie.count in
      let low : phase < length phases = omega (arith, inside, count) in
      let stands = h.is_trie.each phase low in
      record {
        within = subst (λ (r : ℕ). r < length trie.rows) e (All-get_or (λ r. r < length trie.rows) trie.roots phase 0 inside h.is_trie.is_trie.roots);
        no_deltas = none_by (row_of trie.rows root).deltas (λ delta m.
            let has = (stands.deltas [] root (ap Some e) delta).0 m in
            (entry_of phase low has.form has.is_among).0.not_empty has.has_letters);
      }
    where
      none_by : (deltas : List Delta) → ((delta : Delta) → Contains deltas delta → ⊥) → deltas ≡ []
      none_by [] n = refl
      none_by (delta ∷ deltas) n = absurd (n delta (Contains-first delta deltas))

-- ---- one row after another

-- the lines of the first rows are the first lines
lines_front : (before more : List Row) → (rest : List NodeLine) × (node_lines (before ++ more) ≡ node_lines before ++ rest)
lines_front before [] = ([], ap node_lines (append-nil before) ∙ sym (append-nil (node_lines before)))
lines_front before (row ∷ more) =
    let (rest, e) = lines_front (before ++ row ∷ []) more in
    let new = node_line_over (node_lines before) row in (
      new ∷ rest,
      ap node_lines (sym (append_assoc before (row ∷ []) more)) ∙ e ∙ ap (λ (lines : List NodeLine). lines ++ rest) (values_push node_line_over before row)
          ∙ append_assoc (node_lines before) (new ∷ []) rest,
    )

small_children : (rows : List Row) (node : ℕ) → node ≤ 10 ^ 9 → (children : List (ℕ × ℕ)) → AllByRecursion (IsChild rows node) children → AllByRecursion IsSmallChild children
small_children rows node few [] h = tt
small_children rows node few (child ∷ children) h =
    let before = h.0.before in (record { letter = h.0.letter; small = omega (arith, before, few) }, small_children rows node few children h.1)

-- the children of rows that may be told have letters and small numbers
pub children_small : (rows : List Row) → AreTellable rows → All (λ (row : Row). AllByRecursion IsSmallChild row.children) rows
children_small rows t =
    All-from_get_or (λ (row : Row). AllByRecursion IsSmallChild row.children) rows empty_row (λ node low.
    let few = t.few in
    small_children rows node (omega (arith, low, few)) (row_of rows node).children (recursion_from_All (IsChild rows node) (row_of rows node).children (t.each.each node low).children))

children_before : (rows more : List Row) (node : ℕ) → node ≤ length rows → (children : List (ℕ × ℕ)) → AllByRecursion (IsChild (rows ++ more) node) children → AllByRecursion (IsChild rows node) children
children_before rows more node low [] h = tt
children_before rows more node low (child ∷ children) h =
    let before = h.0.before in (
      record {
        letter = h.0.letter;
        before = before;
        not_empty = λ e. h.0.not_empty (row_of-append rows more child.1 (omega (arith, before, low)) ∙ e);
      },
      children_before rows more node low children h.1,
    )

-- a row may be told after those before it
pub may_tell : (told : Told) (before : List Row) (row : Row) (more : List Row) → told.rows ≡ before → told.nodes ≡ node_lines before → AreTellable (before ++ row ∷ more) → MayTell told row
may_tell told before row more same_rows same_nodes t =
    let rows = before ++ row ∷ more in
    let node = length before in
    let long = length-append before (row ∷ more) in
    let low : node < length rows = omega (arith, long) in
    let here : row_of rows node ≡ row = get_or_at before row more empty_row node refl in
    let is : IsRow rows node row = subst (IsRow rows node) here (t.each.each node low) in
    let new = node_line_over (node_lines before) row in
    let (rest, parts) = lines_front (before ++ row ∷ []) more in
    let lines : node_lines rows ≡ node_lines before ++ new ∷ rest =
    ap node_lines (sym (append_assoc before (row ∷ []) more)) ∙ parts ∙ ap (λ (lines : List NodeLine). lines ++ rest) (values_push node_line_over before row)
    ∙ append_assoc (node_lines before) (new ∷ []) rest in
    let children = recursion_from_All (IsChild rows node) row.children is.children in
    let few = t.few in
    let as_told = λ (P : List Row → List NodeLine → Type 0) (p : P before (node_lines before)). subst (P told.rows) (sym same_nodes) (subst (λ (rs : List Row). P rs (node_lines before)) (sym same_rows) p) in
    record {
      deltas = All-contains (λ (r : Row). AllByRecursion IsRowDelta r.deltas) rows row t.deltas (Contains-append_right before (row ∷ more) row (Contains-first row more));
      children = small_children rows node (omega (arith, low, few)) row.children children;
      row_itself = as_told (λ rs ns. IsRow rs (length rs) row) (record {
        deltas = is.deltas;
        children = All-from_recursion (IsChild before node) row.children (children_before before (row ∷ more) node (omega arith) row.children children);
        letters = is.letters;
      });
      low = as_told (λ rs ns. (node_line_over ns row).height ≤ MOST_FORM_LETTERS)
          (All-contains (λ (n : NodeLine). n.height ≤ MOST_FORM_LETTERS) (node_lines before ++ new ∷ rest) new (subst (All (λ (n : NodeLine). n.height ≤ MOST_FORM_LETTERS)) lines t.low)
          (Contains-append_right (node_lines before) (new ∷ rest) new (Contains-first new rest)));
      above = as_told (λ rs ns. compare_last compare_node_lines ns (node_line_over ns row) ≡ Less) (last_below node_lines_total (node_lines before) new rest (subst (IsStrictlySortedBy compare_node_lines) lines t.rising));
    }
