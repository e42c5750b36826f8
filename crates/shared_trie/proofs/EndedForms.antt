-- The last form is ended: its row gets its deltas, then the rows of its fronts become nodes, from the longest on, and the node of the
-- empty front is the phase's root.
use Rattle.std.proofs.Common.{◌≡◌, ◌≢◌, ◌↔◌, inl, inr, ℕ, zero, suc, ◌+◌, ◌*◌, ◌<◌, ◌≤◌, List, [], ◌∷◌, ◌++◌, length, take, drop, map, get_or, replicate, set, refl, sym, ◌∙◌, ap, subst, arith, append-nil}
use Rattle.std.specs.Prelude.{All, AllPairs, Contains}
use Rattle.std.specs.declared.cmp.Ordering.TheVariants.{Less}
use Rattle.std.specs.List.Sorted.{IsStrictlySortedBy}
use Rattle.std.proofs.lemmas.Bool.{cases_eq, cases_lt}
use Rattle.std.proofs.lemmas.Cmp.{nat_list_cmp_total}
use Rattle.std.proofs.lemmas.List.{get_or-set_other, get_or-set_same, get_or_append_left, get_or_past, get_or_push, length-append, length-replicate, length-set, length_push, map_push, take-append-drop, take_all, take_more}
use Rattle.std.proofs.lemmas.List.Elements.{All-contains, All-head, All-nil, All-push, All-tail, All-weaker, Contains-get_or, Contains-push}
use Rattle.list_laws.proofs.Sorted.{not_Contains-nil, not_Less-itself}
use Rattle.text_definitions.specs.Letters.{IsLetter}
use Rattle.text_definitions.specs.Words.{compare_words}
use Rattle.lexicon_definitions.specs.Analyses.{Analysis}
use Rattle.lexicon_definitions.specs.Deltas.{Delta, IsDelta}
use Rattle.lexicon_definitions.specs.FormEntries.{Entry, IsListedForm, IsListedPhase}
use Rattle.lexicon_definitions.specs.Lexicons.{Form, IsFormEntry, IsPhase}
use Rattle.lexicon_definitions.specs.Tries.{BeginsForm, HasDelta, IsNodeAfter, IsRow, IsTrie, Row, row_of}
use Rattle.shared_trie.specs.DeltaNumbers.{AddsDelta, IsListFor, delta_of}
use Rattle.shared_trie.specs.Growth.{Grows, HasRow}
use Rattle.shared_trie.specs.Interned.{AddsList, GrowingTrie, list_of, row_of_list, trie_of}
use Rattle.shared_trie.specs.OpenForms.{AreDeltas, AreNumbersOf, HasRoots, IsBetween, IsEnded, IsKept, IsKnownChild, IsKnownList, IsLastEntry, IsOpenRow, IsOpenTo, IsPath, IsPending, IsReadyFor, IsWholeRow, row_at}
use Rattle.shared_trie.specs.OpenPaths.{PathRow, no_row, path_row}
use Rattle.shared_trie.specs.Runs.{IsDeltaAmong, IsRootFor}
use Rattle.shared_trie.specs.declared.open_trie.OpenTrie.{OpenTrie}
use Rattle.shared_trie.proofs.DeltaLists.{AreDeltas-push, Contains-deltas, deltas_apart, some_element}
use Rattle.shared_trie.proofs.LastForms.{last_or_below, none_longer}
use Rattle.shared_trie.proofs.NextEntries.{last_form}
use Rattle.shared_trie.proofs.Roots.{IsNodeAfter-none, IsRootFor-grown, IsRow-empty}
use Rattle.shared_trie.proofs.OpenRowLaws.{open_grown, whole_node, whole_with_child}

-- ---- lists and deltas that are added

-- a list that was there
list_kept : (lists new : List (List Delta)) (number : ℕ) → AddsList lists new → number < length lists → list_of new number ≡ list_of lists number
list_kept lists new number adds low = ap (λ (ls : List (List Delta)). list_of ls number) adds.is ∙ get_or_append_left lists adds.more [] number low

-- a known list stays known when lists are added
pub known_listed : (deltas : List Delta) (lists new : List (List Delta)) (known : List ℕ × ℕ) → AddsList lists new → IsKnownList deltas lists known → IsKnownList deltas new known
known_listed deltas lists new known adds is =
    let long = length-append lists adds.more in
    let same = ap length adds.is in
    let within = is.within in
    record {
      within = omega (arith, within, long, same);
      is = subst (IsListFor deltas known.0) (sym (list_kept lists new known.1 adds is.within)) is.is;
    }

-- the deltas of numbers that were there
deltas_kept : (deltas more : List Delta) (numbers : List ℕ) → All (λ number. number < length deltas) numbers
    → map (delta_of (deltas ++ more)) numbers ≡ map (delta_of deltas) numbers
deltas_kept deltas more [] within = refl
deltas_kept deltas more (number ∷ numbers) within =
    let first = get_or_append_left deltas more (record { cut = 0; append = []; tag = [] }) number (All-head (λ n. n < length deltas) number numbers within) in
    let rest = deltas_kept deltas more numbers (All-tail (λ n. n < length deltas) number numbers within) in
    λ i. first i ∷ rest i

-- a known list stays known when deltas are added
pub known_numbered : (deltas new : List Delta) (lists : List (List Delta)) (known : List ℕ × ℕ) → AddsDelta deltas new → IsKnownList deltas lists known → IsKnownList new lists known
known_numbered deltas new lists known adds is =
    let long = length-append deltas adds.more in
    let same = ap length adds.is in
    record {
      within = is.within;
      is = record {
        within = All-weaker (λ n. n < length deltas) (λ n. n < length new) (λ n low. omega (arith, low, long, same)) known.0 is.is.within;
        rising = is.is.rising;
        among = λ delta.
            subst (λ (ds : List Delta). Contains (list_of lists known.1) delta ↔ Contains ds delta)
            (sym (ap (λ (ds : List Delta). map (delta_of ds) known.0) adds.is ∙ deltas_kept deltas adds.more known.0 is.is.within)) (is.is.among delta);
      };
    }

-- numbers of analyses stay so, and one more
pub numbers_more : (deltas new : List Delta) (form : List ℕ) (analyses : List Analysis) (numbers : List ℕ) (analysis : Analysis) (number : ℕ) → AddsDelta deltas new
    → AreNumbersOf deltas form analyses numbers → number < length new → IsDelta form analysis (delta_of new number)
    → AreNumbersOf new form (analyses ++ analysis ∷ []) (numbers ++ number ∷ [])
numbers_more deltas new form analyses numbers analysis number adds are low is =
    let long = length-append deltas adds.more in
    let same = ap length adds.is in
    let kept : map (delta_of new) numbers ≡ map (delta_of deltas) numbers =
    ap (λ (ds : List Delta). map (delta_of ds) numbers) adds.is ∙ deltas_kept deltas adds.more numbers are.within in
    record {
      within = All-push (λ n. n < length new) numbers number (All-weaker (λ n. n < length deltas) (λ n. n < length new) (λ n low. omega (arith, low, long, same)) numbers are.within) low;
      are =
          subst (AreDeltas form (analyses ++ analysis ∷ [])) (sym (map_push (delta_of new) numbers number))
          (AreDeltas-push form analyses (map (delta_of new) numbers) analysis (delta_of new number) (subst (AreDeltas form analyses) (sym kept) are.are) is);
    }

-- ---- rows of a path that is changed at one depth

-- a row that is set
row_set_same : (path : List PathRow) (depth : ℕ) (row : PathRow) → depth < length path → path_row (set path depth row) depth ≡ row
row_set_same path depth row low = get_or-set_same path depth row no_row low

-- the others
row_set_other : (path : List PathRow) (depth d : ℕ) (row : PathRow) → d ≢ depth → path_row (set path depth row) d ≡ path_row path d
row_set_other path depth d row other = get_or-set_other path depth d row no_row other

-- a path with another row at one depth
path_set : (lists new : List (List Delta)) (path : List PathRow) (depth : ℕ) (row : PathRow) → IsPath lists path → length lists ≤ length new → row.list < length new → IsPath new (set path depth row)
path_set lists new path depth row is more low = record {
  size = length-set path depth row ∙ is.size;
  listed = λ d.
      let listed = is.listed d in
      elim (cases_eq d depth) [
        | inl here ↦
            elim (cases_lt depth (length path)) [
              | inl within ↦ subst (λ (r : PathRow). r.list < length new) (sym (ap (path_row (set path depth row)) here ∙ row_set_same path depth row within)) low
              | inr past ↦ subst (λ (r : PathRow). r.list < length new) (sym (past_end d (omega (arith, past, here)))) (omega (arith, low))
            ]
        | inr other ↦ subst (λ (r : PathRow). r.list < length new) (sym (row_set_other path depth d row other)) (omega (arith, listed, more))
      ];
}
  where
    past_end : (d : ℕ) → length path ≤ d → path_row (set path depth row) d ≡ no_row
    past_end d past = get_or_past (set path depth row) d no_row (let long = length-set path depth row in omega (arith, past, long))

-- a row of a path is the same where it was not changed, and lists were only added
row_at_kept : (lists new : List (List Delta)) (path changed : List PathRow) (d : ℕ) → AddsList lists new → (path_row path d).list < length lists → path_row changed d ≡ path_row path d
    → row_at new changed d ≡ row_at lists path d
row_at_kept lists new path changed d adds low same =
    let kept = list_kept lists new (path_row path d).list adds low in
    ap (λ (row : PathRow). row_of_list new row.list row.children) same ∙ (λ i. record { deltas = kept i; children = (path_row path d).children })

-- no list was added
no_list : (lists new : List (List Delta)) → new ≡ lists → AddsList lists new
no_list lists new same = record { more = []; is = same ∙ sym (append-nil lists); few = omega arith }

-- ---- the row of the last form gets its deltas

module _ (phases : List (List Form)) (last : Entry) (told : IsLastEntry phases last) (listed : All IsListedPhase phases) where
  abbrev forms : List Form
  forms = get_or phases last.phase []

  abbrev form : Form
  form = last_form last told.analyses

  is_phase : IsPhase (told.before ++ form ∷ [])
  is_phase = subst IsPhase told.is (listed last.phase [] told.within).phase

  entered : IsFormEntry form
  entered = All-contains IsFormEntry (told.before ++ form ∷ []) form is_phase.each (Contains-push told.before form)

  -- the last form is short
  pub short_last : length last.letters ≤ 64
  short_last =
      (All-contains IsListedForm (told.before ++ form ∷ []) form (subst (All IsListedForm) told.is (listed last.phase [] told.within).each) (Contains-push told.before form)).short

  -- the deltas of its analyses are different
  pub numbers_apart : (deltas : List Delta) (numbers : List ℕ) → AreNumbersOf deltas last.letters (told.analyses ++ last.analysis ∷ []) numbers
      → AllPairs (λ left right. left ≢ right) (map (delta_of deltas) numbers)
  numbers_apart deltas numbers are = deltas_apart last.letters (told.analyses ++ last.analysis ∷ []) (map (delta_of deltas) numbers) are.are entered.rising

  -- what has its letters is this form
  deltas_of_last : (delta : Delta) → HasDelta forms last.letters delta ↔ IsDeltaAmong last.letters (told.analyses ++ last.analysis ∷ []) delta
  deltas_of_last delta = (
    λ has.
        let among = subst (λ (fs : List Form). Contains fs has.form) told.is has.is_among in
        elim (last_or_below told.before form is_phase.rising has.form among) [
          | inl same ↦
              record {
                analysis = has.analysis;
                is_analyzed = subst (λ (f : Form). Contains f.analyses has.analysis) same has.is_analyzed;
                is_delta = has.is_delta;
              }
          | inr below ↦ absurd (not_Less-itself nat_list_cmp_total last.letters (subst (λ (w : List ℕ). compare_words w last.letters ≡ Less) has.has_letters below))
        ],
    λ is.
        record {
          form = form;
          is_among = subst (λ (fs : List Form). Contains fs form) (sym told.is) (Contains-push told.before form);
          has_letters = refl;
          analysis = is.analysis;
          is_analyzed = is.is_analyzed;
          is_delta = is.is_delta;
        },
  )

  -- a row with its deltas and no children is whole
  whole_last : (rows : List Row) (deltas : List Delta) (numbers : List ℕ) (list : List Delta) → AreNumbersOf deltas last.letters (told.analyses ++ last.analysis ∷ []) numbers
      → IsListFor deltas numbers list → IsWholeRow rows forms last.letters (record { deltas = list; children = [] })
  unfolding IsStrictlySortedBy
  whole_last rows deltas numbers list are is = record {
    known = record {
      deltas_rise = is.rising;
      deltas = λ delta.
          let among = Contains-deltas last.letters (told.analyses ++ last.analysis ∷ []) (map (delta_of deltas) numbers) are.are delta in (
            λ m. (deltas_of_last delta).1 (among.0 ((is.among delta).0 m)),
            λ h. (is.among delta).1 (among.1 ((deltas_of_last delta).0 h)),
          );
      rising = tt;
      children = All-nil (IsKnownChild rows forms last.letters);
    };
    seen = λ other begins. absurd (none_longer told.before form is_phase.rising other (subst (λ (fs : List Form). BeginsForm fs (last.letters ++ other ∷ [])) told.is begins));
  }

  -- and not empty
  some_deltas : (deltas : List Delta) (numbers : List ℕ) (list : List Delta) → AreNumbersOf deltas last.letters (told.analyses ++ last.analysis ∷ []) numbers
      → IsListFor deltas numbers list → list ≢ []
  some_deltas deltas numbers list are is none =
      let all = map (delta_of deltas) numbers in
      let count = are.are.count in
      let long = length_push told.analyses last.analysis in
      let some : 0 < length all = omega (arith, count, long) in
      let any = some_element all 0 some in
      let there = (is.among (get_or all 0 any)).1 (Contains-get_or all 0 any some) in
      not_Contains-nil (get_or all 0 any) (subst (λ (ds : List Delta). Contains ds (get_or all 0 any)) none there)

  -- the form is ended
  pub ended : (lines : ℕ) (old new : OpenTrie) (list : ℕ) → IsPending phases lines last old → AreNumbersOf old.deltas last.letters (told.analyses ++ last.analysis ∷ []) old.numbers.items
      → new.trie.rows ≡ old.trie.rows → new.trie.roots ≡ old.trie.roots → AddsList old.trie.lists new.trie.lists → length new.known ≤ length old.known + 1
      → All (IsKnownList new.deltas new.trie.lists) new.known → new.deltas ≡ old.deltas → IsKnownList old.deltas new.trie.lists (old.numbers.items, list)
      → new.path ≡ set old.path (length last.letters) (record { list = list; children = (path_row old.path (length last.letters)).children }) → new.numbers.items ≡ []
      → IsEnded phases lines last (length last.letters) new
  ended lines old new list pending numbers rows roots lists few known deltas is path none =
      let word = last.letters in
      let depth = length word in
      let kept = pending.kept in
      let all_lists = length-append old.trie.lists lists.more in
      let same_lists = ap length lists.is in
      let one = lists.few in
      let few_rows = kept.few_rows in
      let few_lists = kept.few_lists in
      let few_known = kept.few_known in
      let short = short_last in
      let same_rows = ap length rows in
      let size = kept.path.size in
      let within : depth < length old.path = omega (arith, short, size) in
      let row : PathRow = record { list = list; children = (path_row old.path depth).children } in
      let here : path_row new.path depth ≡ record { list = list; children = [] } =
      ap (λ (p : List PathRow). path_row p depth) path ∙ row_set_same old.path depth row within ∙ ap (λ (r : PathRow). record { list = list; children = r.children }) pending.bottom in
      let own : row_at new.trie.lists new.path depth ≡ record { deltas = list_of new.trie.lists list; children = [] } = ap (λ (r : PathRow). row_of_list new.trie.lists r.list r.children) here in
      let others : (d : ℕ) → d ≢ depth → path_row new.path d ≡ path_row old.path d = λ d other. ap (λ (p : List PathRow). path_row p d) path ∙ row_set_other old.path depth d row other in
      let whole_word : take depth word ≡ word = take_all depth word (omega arith) in
      let whole = whole_last new.trie.rows old.deltas old.numbers.items (list_of new.trie.lists list) numbers is.is in
      record {
        kept = record {
          some = omega (arith, all_lists, same_lists, kept.some);
          first = list_kept old.trie.lists new.trie.lists 0 lists kept.some ∙ kept.first;
          known = known;
          path = subst (IsPath new.trie.lists) (sym path) (path_set old.trie.lists new.trie.lists old.path depth row kept.path (omega (arith, all_lists, same_lists)) is.within);
          few_rows = omega (arith, few_rows, short, same_rows);
          few_lists = omega (arith, few_lists, all_lists, same_lists, one);
          few_known = omega (arith, few_known, few);
          few_deltas = subst (λ (ds : List Delta). length ds ≤ lines) (sym deltas) kept.few_deltas;
        };
        roots = record {
          is_trie = subst (λ (rs : List Row). IsTrie (record { rows = rs; roots = new.trie.roots })) (sym rows) (subst (λ (rs : List ℕ). IsTrie (record { rows = old.trie.rows; roots = rs })) (sym roots) pending.roots.is_trie);
          count_is = ap length roots ∙ pending.roots.count_is;
          each = λ phase low. subst (λ (rs : List Row). IsRootFor rs (get_or phases phase []) (get_or new.trie.roots phase 0)) (sym rows)
              (subst (λ (rs : List ℕ). IsRootFor old.trie.rows (get_or phases phase []) (get_or rs phase 0)) (sym roots) (pending.roots.each phase low));
        };
        is_last = told;
        open_to = record {
          deep = omega arith;
          open_rows = λ d low.
              let other : d ≢ depth = omega (arith, low) in
              let row_same = row_at_kept old.trie.lists new.trie.lists old.path new.path d lists (kept.path.listed d) (others d other) in
              subst (IsOpenRow new.trie.rows forms (take d word) (get_or word d 0)) (sym row_same)
              (subst (λ (rs : List Row). IsOpenRow rs forms (take d word) (get_or word d 0) (row_at old.trie.lists old.path d)) (sym rows) (pending.open_to.open_rows d low));
          empty_rows = λ d after. let other : d ≢ depth = omega (arith, after) in others d other ∙ pending.open_to.empty_rows d after;
        };
        whole = subst (IsWholeRow new.trie.rows forms (take depth word)) (sym own) (subst (λ (w : List ℕ). IsWholeRow new.trie.rows forms w (record { deltas = list_of new.trie.lists list; children = [] })) (sym whole_word) whole);
        filled = λ e. some_deltas old.deltas old.numbers.items (list_of new.trie.lists list) numbers is.is (ap (λ (r : Row). r.deltas) (sym own ∙ e));
        no_numbers = none;
      }

-- ---- rows of fronts become nodes

-- what is kept with rows more
kept_rows : (lines left new_left lists_left phase new_phase : ℕ) (old new : OpenTrie) → IsKept lines left lists_left phase old → new.trie.lists ≡ old.trie.lists → new.known ≡ old.known → new.deltas ≡ old.deltas
    → IsPath new.trie.lists new.path → length new.trie.rows + new_left ≤ 64 * lines + new_phase → IsKept lines new_left lists_left new_phase new
kept_rows lines left new_left lists_left phase new_phase old new is lists known deltas path few = record {
  some = subst (λ (ls : List (List Delta)). 0 < length ls) (sym lists) is.some;
  first = ap (λ (ls : List (List Delta)). list_of ls 0) lists ∙ is.first;
  known =
      subst (λ (ks : List (List ℕ × ℕ)). All (IsKnownList new.deltas new.trie.lists) ks) (sym known)
      (subst (λ (ds : List Delta). All (IsKnownList ds new.trie.lists) old.known) (sym deltas) (subst (λ (ls : List (List Delta)). All (IsKnownList old.deltas ls) old.known) (sym lists) is.known));
  path = path;
  few_rows = few;
  few_lists = subst (λ (ls : List (List Delta)). length ls + lists_left ≤ lines + 1) (sym lists) is.few_lists;
  few_known = subst (λ (ks : List (List ℕ × ℕ)). length ks + lists_left ≤ lines) (sym known) is.few_known;
  few_deltas = subst (λ (ds : List Delta). length ds ≤ lines) (sym deltas) is.few_deltas;
}

-- roots stay when rows are added
roots_grown : (phases : List (List Form)) (old new : GrowingTrie) (count : ℕ) → HasRoots phases old count → IsTrie (trie_of new) → new.roots ≡ old.roots → Grows 1 old.rows new.rows → HasRoots phases new count
roots_grown phases old new count is trie roots grown = record {
  is_trie = trie;
  count_is = ap length roots ∙ is.count_is;
  each = λ phase low.
      subst (λ (rs : List ℕ). IsRootFor new.rows (get_or phases phase []) (get_or rs phase 0)) (sym roots)
      (IsRootFor-grown 1 old.rows new.rows (get_or phases phase []) (get_or old.roots phase 0) is.is_trie.rows grown (is.each phase low));
}

-- the row of one front more is a node, which is a child of the next shorter front
pub closed_more : (phases : List (List Form)) (lines : ℕ) (last : Entry) (depth : ℕ) (old new : OpenTrie) (letter node : ℕ) → All IsListedPhase phases → IsEnded phases lines last (depth + 1) old
    → new.deltas ≡ old.deltas → new.known ≡ old.known → new.numbers.items ≡ old.numbers.items → IsTrie (trie_of new.trie) → new.trie.lists ≡ old.trie.lists → new.trie.roots ≡ old.trie.roots
    → Grows 1 old.trie.rows new.trie.rows → HasRow new.trie.rows (row_at old.trie.lists old.path (depth + 1)) node → letter ≡ get_or last.letters depth 0 → IsLetter letter
    → (cleared : List PathRow) → cleared ≡ set old.path (depth + 1) no_row
    → new.path ≡ set cleared depth (record { list = (path_row cleared depth).list; children = (path_row cleared depth).children ++ (letter, node) ∷ [] })
    → IsEnded phases lines last depth new
closed_more phases lines last depth old new letter node listed is deltas known numbers trie lists roots grown there is_letter letter_is cleared clear path =
    let word = last.letters in
    let forms = get_or phases last.phase [] in
    let rows = old.trie.rows in
    let more = grown.more in
    let kept = is.kept in
    let size = kept.path.size in
    let deep = is.open_to.deep in
    let short = short_last phases last is.is_last listed in
    let low : depth < length word = omega (arith, deep) in
    let within : depth < length old.path = omega (arith, size, low, short) in
    let cleared_size : length cleared ≡ length old.path = ap length clear ∙ length-set old.path (depth + 1) no_row in
    let before : path_row cleared depth ≡ path_row old.path depth =
    ap (λ (p : List PathRow). path_row p depth) clear ∙ row_set_other old.path (depth + 1) depth no_row (let apart : depth ≢ depth + 1 = omega arith in apart) in
    let row : PathRow = record { list = (path_row old.path depth).list; children = (path_row old.path depth).children ++ (letter, node) ∷ [] } in
    let path_is : new.path ≡ set cleared depth row = path ∙ ap (λ (r : PathRow). set cleared depth (record { list = r.list; children = r.children ++ (letter, node) ∷ [] })) before in
    let here : path_row new.path depth ≡ row = ap (λ (p : List PathRow). path_row p depth) path_is ∙ row_set_same cleared depth row (omega (arith, within, cleared_size)) in
    let above : path_row new.path (depth + 1) ≡ no_row =
    ap (λ (p : List PathRow). path_row p (depth + 1)) path_is ∙ row_set_other cleared depth (depth + 1) row (let apart : depth + 1 ≢ depth = omega arith in apart)
    ∙ ap (λ (p : List PathRow). path_row p (depth + 1)) clear ∙ row_set_same old.path (depth + 1) no_row (omega (arith, size, deep, short)) in
    let others : (d : ℕ) → d ≢ depth → d ≢ depth + 1 → path_row new.path d ≡ path_row old.path d =
    λ d one two. ap (λ (p : List PathRow). path_row p d) path_is ∙ row_set_other cleared depth d row one ∙ ap (λ (p : List PathRow). path_row p d) clear ∙ row_set_other old.path (depth + 1) d no_row two in
    let none = no_list old.trie.lists new.trie.lists lists in
    let open_row : IsOpenRow new.trie.rows forms (take depth word) letter (row_at old.trie.lists old.path depth) =
    subst (λ (n : ℕ). IsOpenRow new.trie.rows forms (take depth word) n (row_at old.trie.lists old.path depth)) (sym is_letter)
    (subst (λ (rs : List Row). IsOpenRow rs forms (take depth word) (get_or word depth 0) (row_at old.trie.lists old.path depth)) (sym grown.is)
    (open_grown rows more forms (take depth word) (get_or word depth 0) (row_at old.trie.lists old.path depth) is.roots.is_trie.rows (is.open_to.open_rows depth (omega arith)))) in
    let front : take (depth + 1) word ≡ take depth word ++ letter ∷ [] = take_more word depth 0 low ∙ ap (λ (n : ℕ). take depth word ++ n ∷ []) (sym is_letter) in
    let child : IsKnownChild new.trie.rows forms (take depth word) (letter, node) =
    record {
      letter = letter_is;
      known = record {
        there = there.there;
        not_empty = λ e. is.filled (sym there.is ∙ e);
        after =
            subst (λ (w : List ℕ). IsNodeAfter new.trie.rows forms w node) front
            (subst (λ (rs : List Row). IsNodeAfter rs forms (take (depth + 1) word) node) (sym grown.is)
            (whole_node rows more forms (take (depth + 1) word) (row_at old.trie.lists old.path (depth + 1)) node is.roots.is_trie.rows is.whole
            (ap (λ (rs : List Row). row_of rs node) (sym grown.is) ∙ there.is)));
      };
      begins = record {
        form = last_form last is.is_last.analyses;
        is_among = subst (λ (fs : List Form). Contains fs (last_form last is.is_last.analyses)) (sym is.is_last.is) (Contains-push is.is_last.before (last_form last is.is_last.analyses));
        rest = drop (depth + 1) word;
        has_letters = sym (take-append-drop (depth + 1) word) ∙ ap (λ (w : List ℕ). w ++ drop (depth + 1) word) front;
      };
    } in
    let whole = whole_with_child new.trie.rows forms (take depth word) letter node (row_at old.trie.lists old.path depth) open_row child in
    let own : row_at new.trie.lists new.path depth ≡ record { deltas = (row_at old.trie.lists old.path depth).deltas; children = (row_at old.trie.lists old.path depth).children ++ (letter, node) ∷ [] } =
    (λ i. row_of_list (lists i) (here i).list (here i).children) in
    let old_rows = kept.few_rows in
    let all_rows = length-append rows more in
    let same_rows = ap length grown.is in
    let one = grown.few in
    record {
      kept =
          kept_rows lines (depth + 1) depth 0 last.phase last.phase old new kept lists known deltas
          (subst (IsPath new.trie.lists) (sym path_is)
          (path_set old.trie.lists new.trie.lists cleared depth row
          (subst (IsPath old.trie.lists) (sym clear) (path_set old.trie.lists old.trie.lists old.path (depth + 1) no_row kept.path (omega arith) kept.some))
          (let long = ap length lists in omega (arith, long)) (let long = ap length lists in let its = kept.path.listed depth in omega (arith, its, long))))
          (omega (arith, old_rows, all_rows, same_rows, one));
      roots = roots_grown phases old.trie new.trie last.phase is.roots trie roots grown;
      is_last = is.is_last;
      open_to = record {
        deep = omega (arith, deep);
        open_rows = λ d before_depth.
            let first : d ≢ depth = omega (arith, before_depth) in
            let second : d ≢ depth + 1 = omega (arith, before_depth) in
            let row_same = row_at_kept old.trie.lists new.trie.lists old.path new.path d none (kept.path.listed d) (others d first second) in
            subst (IsOpenRow new.trie.rows forms (take d word) (get_or word d 0)) (sym row_same)
            (subst (λ (rs : List Row). IsOpenRow rs forms (take d word) (get_or word d 0) (row_at old.trie.lists old.path d)) (sym grown.is)
            (open_grown rows more forms (take d word) (get_or word d 0) (row_at old.trie.lists old.path d) is.roots.is_trie.rows (is.open_to.open_rows d (omega (arith, before_depth)))));
        empty_rows = λ d after.
            elim (cases_eq d (depth + 1)) [
              | inl next ↦ ap (path_row new.path) next ∙ above
              | inr apart ↦ let first : d ≢ depth = omega (arith, after) in others d first apart ∙ is.open_to.empty_rows d (omega (arith, after, apart))
            ];
      };
      whole = subst (IsWholeRow new.trie.rows forms (take depth word)) (sym own) whole;
      filled = λ e. some_child (row_at old.trie.lists old.path depth).children (letter, node) (ap (λ (r : Row). r.children) (sym own ∙ e));
      no_numbers = numbers ∙ is.no_numbers;
    }
  where
    some_child : (children : List (ℕ × ℕ)) (child : ℕ × ℕ) → children ++ child ∷ [] ≡ [] → ⊥
    some_child [] child e = absurd cc
    some_child (first ∷ children) child e = absurd cc

-- ---- roots

-- one phase more has its root
root_more : (phases : List (List Form)) (old new : GrowingTrie) (count root : ℕ) → HasRoots phases old count → IsTrie (trie_of new) → Grows 1 old.rows new.rows → new.roots ≡ old.roots ++ root ∷ []
    → IsRootFor new.rows (get_or phases count []) root → HasRoots phases new (count + 1)
root_more phases old new count root is trie grown roots root_is =
    let long = length_push old.roots root in
    let same = ap length roots in
    let counted = is.count_is in
    record {
      is_trie = trie;
      count_is = omega (arith, long, same, counted);
      each = λ phase low.
          subst (λ (rs : List ℕ). IsRootFor new.rows (get_or phases phase []) (get_or rs phase 0)) (sym roots)
          (elim (cases_lt phase count) [
            | inl before ↦
                subst (IsRootFor new.rows (get_or phases phase [])) (sym (get_or_append_left old.roots (root ∷ []) 0 phase (omega (arith, before, counted))))
                (IsRootFor-grown 1 old.rows new.rows (get_or phases phase []) (get_or old.roots phase 0) is.is_trie.rows grown (is.each phase before))
            | inr past ↦
                let here : count ≡ phase = omega (arith, past, low) in
                subst (IsRootFor new.rows (get_or phases phase [])) (sym (get_or_push old.roots root 0 phase (omega (arith, counted, here))))
                (subst (λ (n : ℕ). IsRootFor new.rows (get_or phases n []) root) here root_is)
          ]);
    }

-- the node of the empty front is the root of the last form's phase
pub phase_ended : (phases : List (List Form)) (lines : ℕ) (last : Entry) (old new : OpenTrie) (node : ℕ) → IsEnded phases lines last 0 old
    → new.deltas ≡ old.deltas → new.known ≡ old.known → new.numbers.items ≡ old.numbers.items → IsTrie (trie_of new.trie) → new.trie.lists ≡ old.trie.lists → new.trie.roots ≡ old.trie.roots ++ node ∷ []
    → Grows 1 old.trie.rows new.trie.rows → HasRow new.trie.rows (row_at old.trie.lists old.path 0) node → new.path ≡ set old.path 0 no_row
    → IsBetween phases lines (last.phase + 1) new
phase_ended phases lines last old new node is deltas known numbers trie lists roots grown there path =
    let forms = get_or phases last.phase [] in
    let rows = old.trie.rows in
    let more = grown.more in
    let kept = is.kept in
    let size = kept.path.size in
    let old_rows = kept.few_rows in
    let all_rows = length-append rows more in
    let same_rows = ap length grown.is in
    let one = grown.few in
    let root : IsRootFor new.trie.rows forms node =
    record {
      there = there.there;
      after =
          subst (λ (rs : List Row). IsNodeAfter rs forms [] node) (sym grown.is)
          (whole_node rows more forms [] (row_at old.trie.lists old.path 0) node is.roots.is_trie.rows is.whole (ap (λ (rs : List Row). row_of rs node) (sym grown.is) ∙ there.is));
    } in
    record {
      kept =
          kept_rows lines 0 0 0 last.phase (last.phase + 1) old new kept lists known deltas
          (subst (IsPath new.trie.lists) (sym path)
          (path_set old.trie.lists new.trie.lists old.path 0 no_row kept.path (let long = ap length lists in omega (arith, long)) (let long = ap length lists in let some = kept.some in omega (arith, some, long))))
          (omega (arith, old_rows, all_rows, same_rows, one));
      roots = root_more phases old.trie new.trie last.phase node is.roots trie grown roots root;
      none = λ phase past. is.is_last.none_after phase (omega (arith, past));
      empty_rows = λ d.
          ap (λ (p : List PathRow). path_row p d) path
          ∙ elim (cases_eq d 0) [
            | inl first ↦ ap (path_row (set old.path 0 no_row)) first ∙ row_set_same old.path 0 no_row (omega (arith, size))
            | inr other ↦ row_set_other old.path 0 d no_row other ∙ is.open_to.empty_rows d (omega (arith, other))
          ];
      no_numbers = numbers ∙ is.no_numbers;
    }

-- a phase without forms has the node of the empty row as its root
pub phase_filled : (phases : List (List Form)) (lines phase : ℕ) (old new : OpenTrie) (node : ℕ) → IsBetween phases lines phase old
    → new.deltas ≡ old.deltas → new.known ≡ old.known → new.numbers.items ≡ old.numbers.items → new.path ≡ old.path → IsTrie (trie_of new.trie) → new.trie.lists ≡ old.trie.lists
    → new.trie.roots ≡ old.trie.roots ++ node ∷ [] → Grows 1 old.trie.rows new.trie.rows → HasRow new.trie.rows (row_of_list old.trie.lists 0 []) node
    → IsBetween phases lines (phase + 1) new
phase_filled phases lines phase old new node is deltas known numbers path trie lists roots grown there =
    let rows = old.trie.rows in
    let more = grown.more in
    let kept = is.kept in
    let old_rows = kept.few_rows in
    let all_rows = length-append rows more in
    let same_rows = ap length grown.is in
    let one = grown.few in
    record {
      kept =
          kept_rows lines 0 0 0 phase (phase + 1) old new kept lists known deltas
          (subst (IsPath new.trie.lists) (sym path) (subst (λ (ls : List (List Delta)). IsPath ls old.path) (sym lists) kept.path))
          (omega (arith, old_rows, all_rows, same_rows, one));
      roots =
          root_more phases old.trie new.trie phase node is.roots trie grown roots
          (record { there = there.there; after = IsNodeAfter-none new.trie.rows (get_or phases phase []) node (row_of_list old.trie.lists 0 []) (is.none phase (omega arith)) there.is kept.first refl });
      none = λ k past. is.none k (omega (arith, past));
      empty_rows = λ d. ap (λ (p : List PathRow). path_row p d) path ∙ is.empty_rows d;
      no_numbers = numbers ∙ is.no_numbers;
    }

-- the empty row may stand last
pub empty_may : (phases : List (List Form)) (lines phase : ℕ) (old : OpenTrie) → IsBetween phases lines phase old → IsRow old.trie.rows (length old.trie.rows) (row_of_list old.trie.lists 0 [])
empty_may phases lines phase old is = IsRow-empty old.trie.rows (length old.trie.rows) (row_of_list old.trie.lists 0 []) is.kept.first refl

-- ---- at first

-- nothing is open where nothing was told
pub begun : (phases : ℕ) (open_trie : OpenTrie) → open_trie.trie ≡ record { lists = [] ∷ []; rows = []; roots = [] } → open_trie.deltas ≡ [] → open_trie.known ≡ []
    → open_trie.path ≡ replicate 65 no_row → open_trie.numbers.items ≡ [] → IsBetween (replicate phases []) 0 0 open_trie
begun phases open_trie trie deltas known path numbers =
    let none : (d : ℕ) → path_row open_trie.path d ≡ no_row = λ d. ap (λ (p : List PathRow). path_row p d) path ∙ no_rows 65 d in
    let no_lists : open_trie.trie.lists ≡ [] ∷ [] = ap (λ (t : GrowingTrie). t.lists) trie in
    let one_list = ap length no_lists in
    let no_rows_yet : open_trie.trie.rows ≡ [] = ap (λ (t : GrowingTrie). t.rows) trie in
    let no_row_yet = ap length no_rows_yet in
    let no_known = ap length known in
    let no_deltas = ap length deltas in
    record {
      kept = record {
        some = omega (arith, one_list);
        first = ap (λ (ls : List (List Delta)). list_of ls 0) no_lists;
        known = subst (λ (ks : List (List ℕ × ℕ)). All (IsKnownList open_trie.deltas open_trie.trie.lists) ks) (sym known) (All-nil (IsKnownList open_trie.deltas open_trie.trie.lists));
        path = record {
          size = ap length path ∙ length-replicate 65 no_row;
          listed = λ d. subst (λ (row : PathRow). row.list < length open_trie.trie.lists) (sym (none d)) (omega (arith, one_list));
        };
        few_rows = omega (arith, no_row_yet);
        few_lists = omega (arith, one_list);
        few_known = omega (arith, no_known);
        few_deltas = omega (arith, no_deltas);
      };
      roots = record {
        is_trie = subst (λ (t : GrowingTrie). IsTrie (trie_of t)) (sym trie) empty_trie;
        count_is = ap (λ (t : GrowingTrie). length t.roots) trie;
        each = λ phase low. absurd (omega (arith, low));
      };
      none = λ k low. no_forms phases k;
      empty_rows = none;
      no_numbers = numbers;
    }
  where
    no_rows : (n d : ℕ) → path_row (replicate n no_row) d ≡ no_row
    no_rows zero d = refl
    no_rows (suc n) zero = refl
    no_rows (suc n) (suc d) = no_rows n d

    no_forms : (n k : ℕ) → get_or (let none : List (List Form) = replicate n [] in none) k [] ≡ []
    no_forms zero k = refl
    no_forms (suc n) zero = refl
    no_forms (suc n) (suc k) = no_forms n k

    empty_trie : IsTrie (record { rows = []; roots = [] })
    empty_trie = record {
      rows = record { each = λ node low. absurd (omega (arith, low)); distinct = λ i j d l h. absurd (omega (arith, h)) };
      roots = All-nil (λ (root : ℕ). root < 0);
    }

-- ---- the entry that all is ready for

-- it is pending once its delta has its number
pub pending_next : (phases : List (List Form)) (lines : ℕ) (entry : Entry) (old new : OpenTrie) (number : ℕ) → IsReadyFor phases lines entry old
    → new.trie ≡ old.trie → new.known ≡ old.known → new.path ≡ old.path → AddsDelta old.deltas new.deltas → new.numbers.items ≡ old.numbers.items ++ number ∷ []
    → number < length new.deltas → IsDelta entry.letters entry.analysis (delta_of new.deltas number) → IsPending phases (lines + 1) entry new
pending_next phases lines entry old new number is trie known path deltas numbers low delta =
    let kept = is.kept in
    let rows = kept.few_rows in
    let lists = kept.few_lists in
    let knowns = kept.few_known in
    let few_deltas = kept.few_deltas in
    let all_deltas = length-append old.deltas deltas.more in
    let same_deltas = ap length deltas.is in
    let one = deltas.few in
    let same_rows = ap (λ (t : GrowingTrie). length t.rows) trie in
    let same_lists = ap (λ (t : GrowingTrie). length t.lists) trie in
    let same_known = ap length known in
    record {
      kept = record {
        some = subst (λ (t : GrowingTrie). 0 < length t.lists) (sym trie) kept.some;
        first = ap (λ (t : GrowingTrie). list_of t.lists 0) trie ∙ kept.first;
        known =
            subst (λ (ks : List (List ℕ × ℕ)). All (IsKnownList new.deltas new.trie.lists) ks) (sym known)
            (subst (λ (t : GrowingTrie). All (IsKnownList new.deltas t.lists) old.known) (sym trie)
            (All-weaker (IsKnownList old.deltas old.trie.lists) (IsKnownList new.deltas old.trie.lists) (λ one its. known_numbered old.deltas new.deltas old.trie.lists one deltas its) old.known kept.known));
        path = subst (IsPath new.trie.lists) (sym path) (subst (λ (t : GrowingTrie). IsPath t.lists old.path) (sym trie) kept.path);
        few_rows = omega (arith, rows, same_rows);
        few_lists = omega (arith, lists, same_lists);
        few_known = omega (arith, knowns, same_known);
        few_deltas = omega (arith, few_deltas, all_deltas, same_deltas, one);
      };
      roots = subst (λ (t : GrowingTrie). HasRoots phases t entry.phase) (sym trie) is.roots;
      is_last = is.is_last;
      open_to =
          subst (λ (t : GrowingTrie). IsOpenTo t.rows t.lists (get_or phases entry.phase []) entry.letters (length entry.letters) new.path) (sym trie)
          (subst (IsOpenTo old.trie.rows old.trie.lists (get_or phases entry.phase []) entry.letters (length entry.letters)) (sym path) is.open_to);
      bottom = ap (λ (p : List PathRow). path_row p (length entry.letters)) path ∙ is.bottom;
      numbers =
          subst (AreNumbersOf new.deltas entry.letters (is.is_last.analyses ++ entry.analysis ∷ [])) (sym numbers)
          (numbers_more old.deltas new.deltas entry.letters is.is_last.analyses old.numbers.items entry.analysis number deltas is.numbers low delta);
    }
