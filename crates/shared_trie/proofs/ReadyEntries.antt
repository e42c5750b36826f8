-- What is ready for an entry that comes after the last one: the rows of the fronts of its form are open. The rows of the fronts that
-- it shares with the last form stay open, the row of the longest such front is opened towards a greater letter, and with longer
-- fronts no form begins, so their empty rows are open.
use Rattle.std.proofs.Common.{◌≡◌, ◌≢◌, inl, inr, ℕ, suc, ◌+◌, ◌-◌, ◌<◌, ◌≤◌, List, [], ◌∷◌, ◌++◌, length, take, drop, get_or, refl, sym, ◌∙◌, ap, subst, arith, zero, drop-cons, append-nil}
use Rattle.std.specs.Prelude.{All}
use Rattle.std.specs.declared.cmp.Ordering.TheVariants.{Less}
use Rattle.std.proofs.Math.Seq.{take-add}
use Rattle.std.proofs.lemmas.Bool.{cases_lt, cases_order}
use Rattle.std.proofs.lemmas.List.{get_or-take, length-drop, take-append-drop, take_all, take_more}
use Rattle.std.proofs.lemmas.List.Elements.{All-nil, All-weaker}
use Rattle.std.proofs.lemmas.Cmp.{nat_list_cmp_total}
use Rattle.list_laws.proofs.Sorted.{not_Contains-nil, not_Less-itself}
use Rattle.text_definitions.specs.Words.{compare_words}
use Rattle.lexicon_definitions.specs.Analyses.{compare_analyses}
use Rattle.lexicon_definitions.specs.Deltas.{Delta}
use Rattle.lexicon_definitions.specs.FormEntries.{Entry, IsListedPhase, with_entry, with_form}
use Rattle.lexicon_definitions.specs.Lexicons.{Form}
use Rattle.lexicon_definitions.specs.Tries.{BeginsForm, Row, empty_row}
use Rattle.lexicon_text_definitions.specs.FileContents.{compare_entries}
use Rattle.shared_trie.specs.Interned.{GrowingTrie, list_of, row_of_list}
use Rattle.shared_trie.specs.OpenForms.{AreNumbersOf, HasRoots, IsBetween, IsEnded, IsKept, IsKnownChild, IsOpenRow, IsOpenTo, IsPending, IsReadyFor, IsWholeRow, row_at}
use Rattle.shared_trie.specs.OpenPaths.{PathRow, no_row, path_row}
use Rattle.shared_trie.specs.Runs.{IsRootFor}
use Rattle.shared_trie.specs.declared.open_trie.OpenTrie.{OpenTrie}
use Rattle.shared_trie.proofs.FrontOrder.{compare_words-front, not_below_empty}
use Rattle.shared_trie.proofs.LastForms.{letters_below, none_with}
use Rattle.shared_trie.proofs.MoreForms.{HaveWord, word_analyzed, word_appended}
use Rattle.shared_trie.proofs.NextEntries.{after_last, form_again, form_next, forms_with, last_form, last_with, others_with, phase_is}
use Rattle.shared_trie.proofs.OpenRowLaws.{begins_front, empty_whole, open_stays, whole_opened}

-- a word is cut at a letter
pub cut_word : (word : List ℕ) (d : ℕ) → d < length word → word ≡ take d word ++ get_or word d 0 ∷ drop (suc d) word
cut_word word d low = sym (take-append-drop d word) ∙ ap (λ (w : List ℕ). take d word ++ w) (drop-cons word d 0 low)

-- an empty row of a path is empty
pub row_empty : (lists : List (List Delta)) (path : List PathRow) (d : ℕ) → list_of lists 0 ≡ [] → path_row path d ≡ no_row → row_at lists path d ≡ empty_row
row_empty lists path d first none = ap (λ (row : PathRow). row_of_list lists row.list row.children) none ∙ (λ i. record { deltas = first i; children = [] })

module _ (rows : List Row) (lists : List (List Delta)) (path : List PathRow) (old new : List Form) (word : List ℕ) (have : HaveWord old new word) where
  -- the rows that are open stay so
  pub all_stay : (depth : ℕ) → IsOpenTo rows lists old word depth path → IsOpenTo rows lists new word depth path
  all_stay depth is = record {
    deep = is.deep;
    open_rows = λ d low.
        let deep = is.deep in
        open_stays old new (take d word) (drop (suc d) word) word (get_or word d 0) have (cut_word word d (omega (arith, low, deep))) rows (row_at lists path d) (is.open_rows d low);
    empty_rows = is.empty_rows;
  }

  module _ (shared : ℕ) (within : shared < length word) (is : IsOpenTo rows lists old word shared path)
      (whole : IsWholeRow rows old (take shared word) (row_at lists path shared))
      (below : All (λ (child : ℕ × ℕ). child.0 < get_or word shared 0) (row_at lists path shared).children)
      (apart : BeginsForm old (take shared word ++ get_or word shared 0 ∷ []) → ⊥) (first : list_of lists 0 ≡ []) where
    -- no form begins with a longer front
    none_longer : (d : ℕ) → shared < d → BeginsForm old (take d word) → ⊥
    none_longer d more begins =
        let sum : shared + 1 + (d - (shared + 1)) ≡ d = omega (arith, more) in
        let parts : take d word ≡ take (shared + 1) word ++ take (d - (shared + 1)) (drop (shared + 1) word) = ap (λ (n : ℕ). take n word) (sym sum) ∙ take-add (shared + 1) (d - (shared + 1)) word in
        apart (subst (BeginsForm old) (take_more word shared 0 within) (begins_front old (take (shared + 1) word) (take (d - (shared + 1)) (drop (shared + 1) word)) (subst (BeginsForm old) parts begins)))

    -- all rows up to the word are open
    pub all_open : IsOpenTo rows lists new word (length word) path
    all_open = record {
      deep = omega arith;
      open_rows = λ d low.
          elim (cases_order d shared) [
            | inl here ↦
                subst (λ (n : ℕ). IsOpenRow rows new (take n word) (get_or word n 0) (row_at lists path n)) (sym here)
                (whole_opened old new (take shared word) (drop (suc shared) word) word (get_or word shared 0) have (cut_word word shared within) rows (row_at lists path shared) below whole)
            | inr (inl before) ↦
                open_stays old new (take d word) (drop (suc d) word) word (get_or word d 0) have (cut_word word d low) rows (row_at lists path d) (is.open_rows d before)
            | inr (inr after) ↦
                subst (IsOpenRow rows new (take d word) (get_or word d 0)) (sym (row_empty lists path d first (is.empty_rows d after)))
                (whole_opened old new (take d word) (drop (suc d) word) word (get_or word d 0) have (cut_word word d low) rows empty_row (All-nil (λ (child : ℕ × ℕ). child.0 < get_or word d 0))
                (empty_whole rows old (take d word) (none_longer d after)))
          ];
      empty_rows = λ d after. is.empty_rows d (omega (arith, after, within));
    }

-- a front of a front
shorter_front : (w : List ℕ) (d n : ℕ) → d ≤ n → take d w ≡ take d (take n w)
shorter_front w zero n low = refl
shorter_front w (suc d) zero low = absurd (omega (arith, low))
shorter_front [] (suc d) (suc n) low = refl
shorter_front (letter ∷ w) (suc d) (suc n) low = ap (λ (v : List ℕ). letter ∷ v) (shorter_front w d n (omega (arith, low)))

-- rows that are open towards a word are so towards one with the same front
pub open_moved : (rows : List Row) (lists : List (List Delta)) (path : List PathRow) (forms : List Form) (last word : List ℕ) (shared : ℕ) → take shared last ≡ take shared word → shared ≤ length word
    → IsOpenTo rows lists forms last shared path → IsOpenTo rows lists forms word shared path
open_moved rows lists path forms last word shared same within is = record {
  deep = within;
  open_rows = λ d low.
      let front : take d last ≡ take d word = shorter_front last d shared (omega (arith, low)) ∙ ap (take d) same ∙ sym (shorter_front word d shared (omega (arith, low))) in
      let letter : get_or last d 0 ≡ get_or word d 0 = sym (get_or-take shared last d 0 low) ∙ ap (λ (w : List ℕ). get_or w d 0) same ∙ get_or-take shared word d 0 low in
      subst (λ (w : List ℕ). IsOpenRow rows forms w (get_or word d 0) (row_at lists path d)) front
      (subst (λ (n : ℕ). IsOpenRow rows forms (take d last) n (row_at lists path d)) letter (is.open_rows d low));
  empty_rows = is.empty_rows;
}

-- roots of earlier phases stay
pub roots_with : (phases : List (List Form)) (entry : Entry) (trie : GrowingTrie) → HasRoots phases trie entry.phase → HasRoots (with_entry phases entry) trie entry.phase
roots_with phases entry trie roots = record {
  is_trie = roots.is_trie;
  count_is = roots.count_is;
  each = λ phase low.
      let other : phase ≢ entry.phase = omega (arith, low) in
      subst (λ (forms : List Form). IsRootFor trie.rows forms (get_or trie.roots phase 0)) (sym (others_with phases entry phase other)) (roots.each phase low);
}

-- what is kept, with less that is left to come
kept_less : (lines rows_left lists_left phase : ℕ) (open_trie : OpenTrie) → IsKept lines rows_left lists_left phase open_trie → IsKept lines 0 0 phase open_trie
kept_less lines rows_left lists_left phase open_trie is =
    let few_rows = is.few_rows in
    let few_lists = is.few_lists in
    let few_known = is.few_known in
    record {
      some = is.some;
      first = is.first;
      known = is.known;
      path = is.path;
      few_rows = omega (arith, few_rows);
      few_lists = omega (arith, few_lists);
      few_known = omega (arith, few_known);
      few_deltas = is.few_deltas;
    }

-- ---- how the entry comes after the last one

-- an analysis of the same form is above its last one
pub analysis_above : (last entry : Entry) → compare_entries last entry ≡ Less → last.phase ≡ entry.phase → last.letters ≡ entry.letters
    → compare_analyses last.analysis entry.analysis ≡ Less
analysis_above last entry less same letters =
    elim (after_last last entry less) [
      | inl phase ↦ absurd (omega (arith, phase, same))
      | inr (inl (here, below)) ↦ absurd (not_Less-itself nat_list_cmp_total entry.letters (subst (λ (w : List ℕ). compare_words w entry.letters ≡ Less) letters below))
      | inr (inr (here, there, below)) ↦ below
    ]

-- another form of the same phase is above the last one
pub form_above : (last entry : Entry) → compare_entries last entry ≡ Less → last.phase ≡ entry.phase → last.letters ≢ entry.letters → compare_words last.letters entry.letters ≡ Less
form_above last entry less same other =
    elim (after_last last entry less) [
      | inl phase ↦ absurd (omega (arith, phase, same))
      | inr (inl (here, below)) ↦ below
      | inr (inr (here, there, below)) ↦ absurd (other there)
    ]

-- a word above another goes on after what both share
pub goes_on_after : (last word : List ℕ) (shared : ℕ) → compare_words last word ≡ Less → take shared last ≡ take shared word → shared ≤ length word → shared < length word
goes_on_after last word shared less front within =
    elim (cases_lt shared (length word)) [
      | inl low ↦ low
      | inr past ↦
          let whole : take shared word ≡ word = take_all shared word past in
          let longer : last ≡ word ++ drop shared last = sym (take-append-drop shared last) ∙ ap (λ (w : List ℕ). w ++ drop shared last) (front ∙ whole) in
          absurd (not_below_empty (drop shared last) (sym (compare_words-front word (drop shared last) []) ∙ (λ i. compare_words (sym longer i) (append-nil word i)) ∙ less))
    ]

-- equal words share all their letters
pub shares_all : (last word : List ℕ) (shared : ℕ) → shared ≤ length last
    → (shared < length last → shared < length word → get_or last shared 0 ≢ get_or word shared 0) → last ≡ word → shared ≡ length last
shares_all last word shared within differ e =
    elim (cases_lt shared (length last)) [
      | inl low ↦ absurd (let long = ap length e in differ low (omega (arith, low, long)) (ap (λ (w : List ℕ). get_or w shared 0) e))
      | inr past ↦ omega (arith, past, within)
    ]

-- ---- the entry is one of the last form

pub ready_again : (phases : List (List Form)) (lines : ℕ) (last entry : Entry) (open_trie : OpenTrie) → All IsListedPhase phases → IsPending phases lines last open_trie
    → last.phase ≡ entry.phase → last.letters ≡ entry.letters → compare_analyses last.analysis entry.analysis ≡ Less → IsReadyFor (with_entry phases entry) lines entry open_trie
ready_again phases lines last entry open_trie listed is same letters above =
    let told = is.is_last in
    let within : entry.phase < length phases = subst (λ (n : ℕ). n < length phases) same told.within in
    let new = form_again phases last entry told listed same letters above in
    let rows = open_trie.trie.rows in
    let lists = open_trie.trie.lists in
    let path = open_trie.path in
    let old_forms : get_or phases last.phase [] ≡ told.before ++ record { letters = entry.letters; analyses = told.analyses ++ last.analysis ∷ [] } ∷ [] =
    told.is ∙ ap (λ (w : List ℕ). told.before ++ record { letters = w; analyses = told.analyses ++ last.analysis ∷ [] } ∷ []) letters in
    let new_forms = forms_with phases entry within ∙ new in
    let open_before : IsOpenTo rows lists (get_or phases last.phase []) entry.letters (length entry.letters) path =
    subst (λ (w : List ℕ). IsOpenTo rows lists (get_or phases last.phase []) w (length w) path) letters is.open_to in
    let have = word_analyzed told.before entry.letters (told.analyses ++ last.analysis ∷ []) entry.analysis in
    record {
      kept = subst (λ (n : ℕ). IsKept lines 0 0 n open_trie) same (kept_less lines 64 1 last.phase open_trie is.kept);
      roots = roots_with phases entry open_trie.trie (subst (HasRoots phases open_trie.trie) same is.roots);
      is_last = last_with phases entry told.before (told.analyses ++ last.analysis ∷ []) within (λ phase after. told.none_after phase (omega (arith, after, same))) new;
      open_to =
          subst (λ (forms : List Form). IsOpenTo rows lists forms entry.letters (length entry.letters) path) (sym new_forms)
          (all_stay rows lists path (told.before ++ record { letters = entry.letters; analyses = told.analyses ++ last.analysis ∷ [] } ∷ []) (told.before ++ last_form entry (told.analyses ++ last.analysis ∷ []) ∷ []) entry.letters have (length entry.letters)
          (subst (λ (forms : List Form). IsOpenTo rows lists forms entry.letters (length entry.letters) path) old_forms open_before));
      bottom = subst (λ (w : List ℕ). path_row path (length w) ≡ no_row) letters is.bottom;
      numbers = subst (λ (w : List ℕ). AreNumbersOf open_trie.deltas w (told.analyses ++ last.analysis ∷ []) open_trie.numbers.items) letters is.numbers;
    }

-- ---- the entry is of the next form

-- no numbers are those of no analyses
no_numbers_yet : (deltas : List Delta) (form : List ℕ) (numbers : List ℕ) → numbers ≡ [] → AreNumbersOf deltas form [] numbers
no_numbers_yet deltas form numbers none =
    subst (AreNumbersOf deltas form []) (sym none)
    (record {
      within = All-nil (λ (number : ℕ). number < length deltas);
      are = record { count = refl; each = λ k a d low. absurd (omega (arith, low)) };
    })

pub ready_next : (phases : List (List Form)) (lines shared : ℕ) (last entry : Entry) (open_trie : OpenTrie) → All IsListedPhase phases → IsEnded phases lines last shared open_trie
    → last.phase ≡ entry.phase → compare_words last.letters entry.letters ≡ Less → shared < length entry.letters → take shared last.letters ≡ take shared entry.letters
    → (shared < length last.letters → get_or last.letters shared 0 ≢ get_or entry.letters shared 0) → IsReadyFor (with_entry phases entry) lines entry open_trie
ready_next phases lines shared last entry open_trie listed is same above within front differ =
    let told = is.is_last in
    let there : entry.phase < length phases = subst (λ (n : ℕ). n < length phases) same told.within in
    let rows = open_trie.trie.rows in
    let lists = open_trie.trie.lists in
    let path = open_trie.path in
    let word = entry.letters in
    let form = last_form last told.analyses in
    let old = told.before ++ form ∷ [] in
    let rising = (phase_is phases last entry told listed same).rising in
    let new = form_next phases last entry told listed same above in
    let own = drop shared last.letters in
    let is_last : last.letters ≡ take shared word ++ own = sym (take-append-drop shared last.letters) ∙ ap (λ (w : List ℕ). w ++ own) front in
    let is_word = cut_word word shared within in
    let letter = get_or word shared 0 in
    let apart : (other : ℕ) (more : List ℕ) → own ≡ other ∷ more → other ≢ letter = λ other more e. own_letter last.letters shared other more letter e differ in
    let whole : IsWholeRow rows old (take shared word) (row_at lists path shared) =
    subst (λ (forms : List Form). IsWholeRow rows forms (take shared word) (row_at lists path shared)) told.is
    (subst (λ (w : List ℕ). IsWholeRow rows (get_or phases last.phase []) w (row_at lists path shared)) front is.whole) in
    let open_before : IsOpenTo rows lists old word shared path =
    subst (λ (forms : List Form). IsOpenTo rows lists forms word shared path) told.is
    (open_moved rows lists path (get_or phases last.phase []) last.letters word shared front (omega (arith, within)) is.open_to) in
    let rest = drop (suc shared) word in
    let below : All (λ (child : ℕ × ℕ). child.0 < letter) (row_at lists path shared).children =
    All-weaker (IsKnownChild rows old (take shared word)) (λ (child : ℕ × ℕ). child.0 < letter)
    (λ child known. letters_below told.before form rising (take shared word) own rest word letter is_last is_word above apart child.0 known.begins) (row_at lists path shared).children whole.known.children in
    record {
      kept = subst (λ (n : ℕ). IsKept lines 0 0 n open_trie) same (kept_less lines shared 0 last.phase open_trie is.kept);
      roots = roots_with phases entry open_trie.trie (subst (HasRoots phases open_trie.trie) same is.roots);
      is_last = last_with phases entry old [] there (λ phase after. told.none_after phase (omega (arith, after, same))) new;
      open_to =
          subst (λ (forms : List Form). IsOpenTo rows lists forms word (length word) path) (sym (forms_with phases entry there ∙ new))
          (all_open rows lists path old (old ++ last_form entry [] ∷ []) word (word_appended old (last_form entry [])) shared within open_before whole below
          (none_with told.before form rising (take shared word) own rest word letter is_last is_word above apart) is.kept.first);
      bottom = is.open_to.empty_rows (length word) within;
      numbers = no_numbers_yet open_trie.deltas word open_trie.numbers.items is.no_numbers;
    }
  where
    head : {a b : ℕ} {xs ys : List ℕ} → a ∷ xs ≡ b ∷ ys → a ≡ b
    head e = cc

    own_letter : (word : List ℕ) (shared other : ℕ) (more : List ℕ) (letter : ℕ) → drop shared word ≡ other ∷ more → (shared < length word → get_or word shared 0 ≢ letter) → other ≢ letter
    own_letter word shared other more letter e differ h =
        let long = length-drop shared word in
        let size = ap length e in
        let low : shared < length word = omega (arith, long, size) in
        let here : get_or word shared 0 ∷ drop (suc shared) word ≡ other ∷ more = sym (drop-cons word shared 0 low) ∙ e in
        differ low (head here ∙ h)

-- ---- the entry is the first of its phase

pub ready_first : (phases : List (List Form)) (lines : ℕ) (entry : Entry) (open_trie : OpenTrie) → IsBetween phases lines entry.phase open_trie → entry.phase < length phases
    → 0 < length entry.letters → IsReadyFor (with_entry phases entry) lines entry open_trie
ready_first phases lines entry open_trie is there some =
    let rows = open_trie.trie.rows in
    let lists = open_trie.trie.lists in
    let path = open_trie.path in
    let word = entry.letters in
    let none : get_or phases entry.phase [] ≡ [] = is.none entry.phase (omega arith) in
    let new : with_form word entry.analysis (get_or phases entry.phase []) ≡ [] ++ last_form entry [] ∷ [] = ap (with_form word entry.analysis) none in
    let first = row_empty lists path 0 is.kept.first (is.empty_rows 0) in
    let no_form : (w : List ℕ) → BeginsForm [] w → ⊥ = λ w begins. not_Contains-nil begins.form begins.is_among in
    record {
      kept = is.kept;
      roots = roots_with phases entry open_trie.trie is.roots;
      is_last = last_with phases entry [] [] there (λ phase after. is.none phase (omega (arith, after))) new;
      open_to =
          subst (λ (forms : List Form). IsOpenTo rows lists forms word (length word) path) (sym (forms_with phases entry there ∙ new))
          (all_open rows lists path [] ([] ++ last_form entry [] ∷ []) word (word_appended [] (last_form entry [])) 0 some
          (record { deep = omega arith; open_rows = λ d low. absurd (omega (arith, low)); empty_rows = λ d after. is.empty_rows d })
          (subst (IsWholeRow rows [] []) (sym first) (empty_whole rows [] [] (no_form [])))
          (subst (λ (row : Row). All (λ (child : ℕ × ℕ). child.0 < get_or word 0 0) row.children) (sym first) (All-nil (λ (child : ℕ × ℕ). child.0 < get_or word 0 0)))
          (no_form (get_or word 0 0 ∷ [])) is.kept.first);
      bottom = is.empty_rows (length word);
      numbers = no_numbers_yet open_trie.deltas word open_trie.numbers.items is.no_numbers;
    }
