-- A trie of phases tells just these phases: each analysis has a delta, the least cut that gives its stem, so a root's suffixes have just the
-- forms of the phase, with just their analyses; and both lists rise.
use Rattle.std.proofs.Common.{◌≡◌, inl, inr, ℕ, zero, suc, ◌+◌, ◌-◌, ◌<◌, ◌≤◌, Bool, true, false, List, [], ◌∷◌, ◌++◌, length, map, take, drop, get_or, refl, sym, ◌∙◌, ap, subst, arith, true≢false}
use Rattle.std.specs.Prelude.{All, Contains, nat_eq}
use Rattle.std.specs.List.{starts_with}
use Rattle.std.specs.List.Sorted.{IsStrictlySortedBy}
use Rattle.std.specs.Ordering.{on}
use Rattle.std.specs.declared.cmp.Ordering.TheVariants.{Less}
use Rattle.std.proofs.lemmas.Bool.{cases_lt}
use Rattle.std.proofs.lemmas.Cmp.{nat_list_cmp_total}
use Rattle.std.proofs.lemmas.List.{append-nil, length-map, get_or-map, take-append-drop}
use Rattle.std.proofs.lemmas.List.Elements.{All-contains, All-get_or}
use Rattle.std.proofs.lemmas.Map.Keys.{sorted_tail}
use Rattle.list_laws.proofs.Elements.{some_element, some_by_element}
use Rattle.list_laws.proofs.FirstOnes.{Contains-map, Contains-map_cases, sorted-map}
use Rattle.list_laws.proofs.RisingSetLaws.{sorted-with_elements}
use Rattle.list_laws.proofs.Sorted.{same_sorted, sorted_nil, Less-from_later, not_Less-itself, Contains-cons_cases, not_Contains-nil}
use Rattle.list_laws.proofs.Texts.{bytes_same}
use Rattle.text_definitions.specs.Words.{compare_words}
use Rattle.lexicon_definitions.specs.Analyses.{Analysis, compare_analyses}
use Rattle.lexicon_definitions.specs.Deltas.{Delta, replace_end, analysis_by, IsDelta}
use Rattle.lexicon_definitions.specs.Lexicons.{Form, IsFormEntry, IsPhase}
use Rattle.lexicon_definitions.specs.Tries.{Row, Trie, AreRows, IsNodeAfter, IsTrieOf, row_of, walk}
use Rattle.lexicon_definitions.proofs.FormsWithEntry.{analyses_total, by_letters, forms_total}
use Rattle.trie_text_definitions.specs.NodeValues.{Suffix, suffixes_of}
use Rattle.trie_text_definitions.specs.TrieForms.{analyses_by, form_of_suffix, forms_of_root, phases_of, may_cut}
use Rattle.trie_text_definitions.proofs.RootForms.{analyses_exact, analysis_from, analysis_there}
use Rattle.trie_text_definitions.proofs.RootNodes.{begins_with, reached_by}
use Rattle.trie_text_definitions.proofs.SuffixLaws.{suffix_by, suffix_there, suffixes_rise}

-- ---- each analysis has a delta

-- no smaller cut gives the stem
abbrev NoSmaller : List ℕ → List ℕ → ℕ → Type 0
NoSmaller form stem cut = (smaller : ℕ) → smaller < cut → may_cut form stem smaller ≡ false

-- the least cut from here on that gives the stem, where this many more cut the whole form
least_from : (form stem : List ℕ) (more cut : ℕ) → cut + more ≡ length form → NoSmaller form stem cut
    → (least : ℕ) × (least ≤ length form) × (may_cut form stem least ≡ true) × NoSmaller form stem least
least_from form stem zero cut e n =
    let none : length form - cut ≡ 0 = omega (arith, e) in
    (cut, omega (arith, e), ap (λ k. starts_with nat_eq stem (take k form)) none, n)
least_from form stem (suc more) cut e n =
    let go : (test : Bool) → may_cut form stem cut ≡ test → (least : ℕ) × (least ≤ length form) × (may_cut form stem least ≡ true) × NoSmaller form stem least =
    elim [
      | true ↦ λ t. (cut, omega (arith, e), t, n)
      | false ↦ λ t. least_from form stem more (cut + 1) (omega (arith, e)) (λ smaller below.
          elim (cases_lt smaller cut) [
            | inl less ↦ n smaller less
            | inr here ↦ let same : cut ≡ smaller = omega (arith, below, here) in subst (λ k. may_cut form stem k ≡ false) same t
          ])
    ]
    in go (may_cut form stem cut) refl

-- a stem that begins with the front of a form is this front and the rest
pub stem_parts : (stem front : List ℕ) → starts_with nat_eq stem front ≡ true → front ++ drop (length front) stem ≡ stem
stem_parts stem front h =
    let same = bytes_same front (take (length front) stem) h in
    ap (λ (f : List ℕ). f ++ drop (length front) stem) same ∙ take-append-drop (length front) stem

pub delta_there : (form : List ℕ) (analysis : Analysis) → (delta : Delta) × IsDelta form analysis delta
delta_there form analysis =
    let stem = analysis.stem in
    let (cut, within, may, least) = least_from form stem (length form) 0 (omega arith) (λ smaller below. absurd (omega (arith, below))) in
    let front = take (length form - cut) form in
    let delta : Delta = record { cut = cut; append = drop (length front) stem; tag = analysis.tag } in
    let parts = stem_parts stem front may in (
      delta,
      record {
        within = within;
        gives = λ i. record { stem = parts i; tag = analysis.tag };
        least = λ other inside same.
            elim (cases_lt other.cut cut) [
              | inl less ↦
                  let stems : replace_end form other.cut other.append ≡ stem = ap (λ (a : Analysis). a.stem) same in
                  let passes : may_cut form stem other.cut ≡ true =
                  subst (λ (s : List ℕ). starts_with nat_eq s (take (length form - other.cut) form) ≡ true) stems (begins_with (take (length form - other.cut) form) other.append) in
                  absurd (true≢false (sym passes ∙ least other.cut less))
              | inr above ↦ above
            ];
      },
    )

-- ---- the forms of a root

-- two forms of a rising list with the same letters are one
one_form : (forms : List Form) → IsStrictlySortedBy by_letters forms → (left right : Form) → Contains forms left → Contains forms right
    → left.letters ≡ right.letters → left ≡ right
one_form [] s left right m n e = absurd (not_Contains-nil left m)
one_form (first ∷ forms) s left right m n e =
    elim (Contains-cons_cases first forms left m) [
      | inl a ↦ elim (Contains-cons_cases first forms right n) [
        | inl b ↦ sym a ∙ b
        | inr later ↦ absurd (apart first right (Less-from_later forms_total first forms right s later) (ap (λ (f : Form). f.letters) a ∙ e))
      ]
      | inr k ↦ elim (Contains-cons_cases first forms right n) [
        | inl b ↦ absurd (apart first left (Less-from_later forms_total first forms left s k) (ap (λ (f : Form). f.letters) b ∙ sym e))
        | inr later ↦ one_form forms (sorted_tail by_letters first forms s) left right k later e
      ]
    ]
  where
    apart : (left right : Form) → compare_words left.letters right.letters ≡ Less → left.letters ≡ right.letters → ⊥
    apart left right l same = not_Less-itself nat_list_cmp_total right.letters (subst (λ (w : List ℕ). compare_words w right.letters ≡ Less) same l)

module _ (rows : List Row) (are : AreRows rows) (forms : List Form) (phase : IsPhase forms) (root : ℕ) (low : root < length rows) (node : IsNodeAfter rows forms [] root) where
  -- a suffix is one of the forms
  suffix_is_form : (suffix : Suffix) → Contains (suffixes_of rows root) suffix → Contains forms (form_of_suffix suffix)
  suffix_is_form suffix m =
      let found = suffix_by rows are root low suffix m in
      let word = suffix.word in
      let deltas = node.deltas word found.reached found.walked in
      let (delta, among) = some_element suffix.deltas found.some in
      let has = (deltas delta).0 (subst (λ (ds : List Delta). Contains ds delta) found.is_deltas among) in
      let form = has.form in
      let to : (a : Analysis) → Contains (analyses_by word suffix.deltas) a → Contains form.analyses a =
      λ a n.
      let (other, there, gives) = analysis_from word suffix.deltas a n in
      let its = (deltas other).0 (subst (λ (ds : List Delta). Contains ds other) found.is_deltas there) in
      let same : its.form ≡ form = one_form forms phase.rising its.form form its.is_among has.is_among (its.has_letters ∙ sym has.has_letters) in
      let one : its.analysis ≡ a = sym its.is_delta.gives ∙ gives in
      subst (λ (f : Form). Contains f.analyses a) same (subst (Contains its.form.analyses) one its.is_analyzed)
      in
      let from : (a : Analysis) → Contains form.analyses a → Contains (analyses_by word suffix.deltas) a =
      λ a n.
      let (other, is) = delta_there word a in
      let there = (deltas other).1 (record { form = form; is_among = has.is_among; has_letters = has.has_letters; analysis = a; is_analyzed = n; is_delta = is }) in
      subst (Contains (analyses_by word suffix.deltas)) is.gives (analysis_there word suffix.deltas other (subst (λ (ds : List Delta). Contains ds other) (sym found.is_deltas) there))
      in
      let entry = All-contains IsFormEntry forms form phase.each has.is_among in
      let rising = sorted-with_elements analyses_total analyses_exact [] (map (analysis_by word) suffix.deltas) (sorted_nil compare_analyses) in
      let same = same_sorted analyses_total (analyses_by word suffix.deltas) form.analyses rising entry.rising to from in
      let whole : form_of_suffix suffix ≡ form = λ i. record { letters = sym has.has_letters i; analyses = same i } in
      subst (Contains forms) (sym whole) has.is_among

  -- and each form is a suffix
  form_is_suffix : (form : Form) → Contains forms form → Contains (forms_of_root rows root) form
  form_is_suffix form m =
      let entry = All-contains IsFormEntry forms form phase.each m in
      let word = form.letters in
      let (analysis, among) = some_element form.analyses entry.analyzed in
      let (delta, is) = delta_there word analysis in
      let (reached, walked) = reached_by (walk rows root word) ((node.walks word).1 (inr (record { form = form; is_among = m; rest = []; has_letters = sym (append-nil word) }))) in
      let deltas = (row_of rows reached).deltas in
      let has = (node.deltas word reached walked delta).1 (record { form = form; is_among = m; has_letters = refl; analysis = analysis; is_analyzed = among; is_delta = is }) in
      let suffix : Suffix = record { word = word; deltas = deltas } in
      let there = suffix_there rows are word root reached deltas low walked refl (some_by_element deltas delta has) in
      let same : form_of_suffix suffix ≡ form = one_form forms phase.rising (form_of_suffix suffix) form (suffix_is_form suffix there) m refl in
      subst (Contains (forms_of_root rows root)) same (Contains-map form_of_suffix (suffixes_of rows root) suffix there)

  root_tells_forms : forms_of_root rows root ≡ forms
  root_tells_forms =
      same_sorted forms_total (forms_of_root rows root) forms
      (sorted-map (on (λ (s : Suffix). s.word) compare_words) by_letters form_of_suffix (λ s. Unit {0}) (λ x z p q l. l) (suffixes_of rows root) (λ z n. tt) (suffixes_rise rows are root low))
      phase.rising
      (λ form n. let (suffix, there, same) = Contains-map_cases form_of_suffix (suffixes_of rows root) form n in subst (Contains forms) same (suffix_is_form suffix there))
      form_is_suffix

-- ---- all phases

pub trie_tells_phases : (trie : Trie) (phases : List (List Form)) → IsTrieOf trie phases → All IsPhase phases → phases_of trie ≡ phases
trie_tells_phases trie phases t each =
    let count = length-map trie.roots (forms_of_root trie.rows) in
    let many = t.count in
    same_by_places (phases_of trie) phases (omega (arith, count, many)) (λ k below.
    let within : k < length trie.roots = omega (arith, count, below) in
    let root = get_or trie.roots k 0 in
    let low = All-get_or (λ root. root < length trie.rows) trie.roots k 0 within t.is_trie.roots in
    let phase = All-get_or IsPhase phases k [] (omega (arith, within, many)) each in
    get_or-map (forms_of_root trie.rows) trie.roots k 0 [] within
    ∙ root_tells_forms trie.rows t.is_trie.rows (get_or phases k []) phase root low (t.each k (omega (arith, within, many))))
  where
    same_by_places : (left right : List (List Form)) → length left ≡ length right → ((k : ℕ) → k < length left → get_or left k [] ≡ get_or right k []) → left ≡ right
    same_by_places [] [] e f = refl
    same_by_places [] (y ∷ right) e f = absurd (omega (arith, e))
    same_by_places (x ∷ left) [] e f = absurd (omega (arith, e))
    same_by_places (x ∷ left) (y ∷ right) e f =
        λ i. f 0 (omega arith) i ∷ same_by_places left right (omega (arith, e)) (λ k l. f (suc k) (omega (arith, l))) i
