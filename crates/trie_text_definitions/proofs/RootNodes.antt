-- The trie that is told is that of its phases: a root stands for just the forms that its suffixes are, since each node that is not empty leads
-- to some form, and the right delta of an analysis is the only one.
use Rattle.std.proofs.Common.{◌≡◌, ◌≢◌, ◌⊎◌, inl, inr, ℕ, zero, suc, ◌+◌, ◌-◌, ◌<◌, ◌≤◌, Bool, true, leb, Option, Some, None, List, [], ◌∷◌, ◌++◌, length, take, refl, sym, ◌∙◌, ap, subst, arith, true≢false}
use Rattle.std.specs.Prelude.{Contains, IsSome, is_some, nat_eq}
use Rattle.std.specs.List.{list_all, list_any, range_with_len, starts_with}
use Rattle.std.specs.Str.{bytes_eq}
use Rattle.std.proofs.lemmas.Bool.{and_parts, leb-true, not-true, cases_lt}
use Rattle.std.proofs.lemmas.List.{append_cancel_left}
use Rattle.std.proofs.lemmas.List.Elements.{All-contains}
use Rattle.std.proofs.lemmas.List.Folds.{list_any_at}
use Rattle.list_laws.proofs.Texts.{bytes_itself}
use Rattle.list_laws.proofs.FirstOnes.{Contains-map, Contains-map_cases}
use Rattle.list_laws.proofs.Elements.{some_by_element}
use Rattle.list_laws.proofs.Sorted.{Contains-first, Contains-later}
use Rattle.lexicon_definitions.specs.Analyses.{Analysis}
use Rattle.lexicon_definitions.specs.Deltas.{Delta, replace_end, analysis_by, IsDelta}
use Rattle.lexicon_definitions.specs.Lexicons.{Form}
use Rattle.lexicon_definitions.specs.Tries.{Row, AreRows, IsChild, BeginsForm, HasDelta, IsNodeAfter, child_in, row_of, walk, empty_row}
use Rattle.lexicon_definitions.proofs.TrieChildren.{IsChild-child_in}
use Rattle.lexicon_definitions.proofs.TrieGrowth.{walk-child, walk-none, walk-within}
use Rattle.lexicon_definitions.proofs.TrieSteps.{child_among-Contains}
use Rattle.lexicon_definitions.proofs.TrieWalks.{walk-two}
use Rattle.trie_text_definitions.specs.NodeValues.{Suffix, suffixes_of}
use Rattle.trie_text_definitions.specs.TrieForms.{analyses_by, form_of_suffix, forms_of_root, is_stem_length, is_right_delta, has_right_deltas, may_cut}
use Rattle.trie_text_definitions.proofs.RootForms.{passes_all, analysis_from, analysis_there}
use Rattle.trie_text_definitions.proofs.SuffixLaws.{suffix_by, suffix_there}

-- ---- right deltas

pub in_range : (from count k : ℕ) → from ≤ k → k < from + count → Contains (range_with_len from count) k
in_range from zero k l h = absurd (omega (arith, l, h))
in_range from (suc count) k l h =
    elim (cases_lt from k) [
      | inl above ↦ Contains-later from (range_with_len (from + 1) count) k (in_range (from + 1) count k (omega (arith, above)) (omega (arith, h)))
      | inr here ↦ let same : from ≡ k = omega (arith, l, here) in subst (λ n. Contains (from ∷ range_with_len (from + 1) count) n) same (Contains-first from (range_with_len (from + 1) count))
    ]

pub any_contained : {X : Type 0} (test : X → Bool) (xs : List X) (x : X) → Contains xs x → test x ≡ true → list_any test xs ≡ true
any_contained test xs x (k, below, is) t = list_any_at test xs k x below (ap test (is) ∙ t)

front_of : (front rest : List ℕ) → take (length front) (front ++ rest) ≡ front
front_of [] rest = refl
front_of (x ∷ front) rest = ap (◌∷◌ x) (front_of front rest)

pub begins_with : (front rest : List ℕ) → starts_with nat_eq (front ++ rest) front ≡ true
begins_with front rest = ap (bytes_eq front) (front_of front rest) ∙ bytes_itself front

-- a delta that passes the test is the delta of the analysis that it gives
pub right_is_delta : (form : List ℕ) (delta : Delta) → is_right_delta form delta ≡ true → IsDelta form (analysis_by form delta) delta
right_is_delta form delta h =
    let stem = replace_end form delta.cut delta.append in
    let tests = and_parts _ _ h in
    let first = and_parts (leb delta.cut (length form)) (is_stem_length stem) tests.0 in
    let none = not-true (list_any (may_cut form stem) (range_with_len 0 delta.cut)) tests.1 in
    record {
      within = leb-true delta.cut (length form) first.0;
      gives = refl;
      least = λ other within same.
          elim (cases_lt other.cut delta.cut) [
            | inl less ↦
                let stems : replace_end form other.cut other.append ≡ stem = ap (λ (a : Analysis). a.stem) same in
                let passes : may_cut form stem other.cut ≡ true =
                subst (λ (s : List ℕ). starts_with nat_eq s (take (length form - other.cut) form) ≡ true) stems (begins_with (take (length form - other.cut) form) other.append) in
                let some = any_contained (may_cut form stem) (range_with_len 0 delta.cut) other.cut (in_range 0 delta.cut other.cut (omega arith) (omega (arith, less))) passes in
                absurd (true≢false (sym some ∙ none))
            | inr above ↦ above
          ];
    }

-- an analysis has one delta
pub one_delta : (form : List ℕ) (analysis : Analysis) (left right : Delta) → IsDelta form analysis left → IsDelta form analysis right → left ≡ right
one_delta form analysis left right h k =
    let up = h.least right k.within k.gives in
    let down = k.least left h.within h.gives in
    let cuts : left.cut ≡ right.cut = omega (arith, up, down) in
    let tags : left.tag ≡ right.tag = ap (λ (a : Analysis). a.tag) (h.gives ∙ sym k.gives) in
    let stems : take (length form - left.cut) form ++ left.append ≡ take (length form - right.cut) form ++ right.append = ap (λ (a : Analysis). a.stem) (h.gives ∙ sym k.gives) in
    let level : take (length form - left.cut) form ++ left.append ≡ take (length form - left.cut) form ++ right.append =
    stems ∙ ap (λ n. take (length form - n) form ++ right.append) (sym cuts) in
    let appends : left.append ≡ right.append = append_cancel_left (take (length form - left.cut) form) left.append right.append level in
    λ i. record { cut = cuts i; append = appends i; tag = tags i }

-- ---- walks

-- where a word and more can be walked, the word can be
walks_front : (rows : List Row) (word rest : List ℕ) (node : ℕ) → IsSome (walk rows node (word ++ rest)) → IsSome (walk rows node word)
walks_front rows [] rest node h = refl
walks_front rows (letter ∷ word) rest node h =
    let go : (o : Option ℕ) → child_in rows node letter ≡ o → IsSome (walk rows node (letter ∷ word)) =
    elim [
      | None ↦ λ e. absurd (true≢false (sym h ∙ ap is_some (walk-none rows node letter (word ++ rest) e)))
      | Some child ↦ λ e.
          subst IsSome (sym (walk-child rows node letter child word e)) (walks_front rows word rest child (subst IsSome (walk-child rows node letter child (word ++ rest) e) h))
    ]
    in go (child_in rows node letter) refl

walks_by : (o : Option ℕ) (reached : ℕ) → o ≡ Some reached → IsSome o
walks_by o reached e = ap is_some e

pub reached_by : (o : Option ℕ) → IsSome o → (reached : ℕ) × (o ≡ Some reached)
reached_by None h = absurd (true≢false (sym h))
reached_by (Some reached) h = (reached, refl)

module _ (rows : List Row) (are : AreRows rows) where
  -- from a node that is not empty a word leads to one that is not
  stays_some : (word : List ℕ) (node reached : ℕ) → row_of rows node ≢ empty_row → node < length rows → walk rows node word ≡ Some reached → row_of rows reached ≢ empty_row
  stays_some [] node reached some low walked = let here : node ≡ reached = cc in subst (λ n. row_of rows n ≢ empty_row) here some
  stays_some (letter ∷ word) node reached some low walked =
      let go : (o : Option ℕ) → child_in rows node letter ≡ o → row_of rows reached ≢ empty_row =
      elim [
        | None ↦ λ e. let none = walk-none rows node letter word e in absurd cc
        | Some child ↦ λ e.
            let is = IsChild-child_in rows node letter child are low e in
            let before = is.before in
            stays_some word child reached is.not_empty (omega (arith, before, low)) (sym (walk-child rows node letter child word e) ∙ walked)
      ]
      in go (child_in rows node letter) refl

  -- and so does a word that is not empty from any node
  letter_leads : (letter : ℕ) (word : List ℕ) (node reached : ℕ) → node < length rows → walk rows node (letter ∷ word) ≡ Some reached → row_of rows reached ≢ empty_row
  letter_leads letter word node reached low walked =
      let go : (o : Option ℕ) → child_in rows node letter ≡ o → row_of rows reached ≢ empty_row =
      elim [
        | None ↦ λ e. let none = walk-none rows node letter word e in absurd cc
        | Some child ↦ λ e.
            let is = IsChild-child_in rows node letter child are low e in
            let before = is.before in
            stays_some word child reached is.not_empty (omega (arith, before, low)) (sym (walk-child rows node letter child word e) ∙ walked)
      ]
      in go (child_in rows node letter) refl

  -- a word that leads from the node to one with deltas
  pub record Ending (node : ℕ) : Type 0 where
    pub word : List ℕ
    pub reached : ℕ
    pub walked : walk rows node word ≡ Some reached
    pub some : (row_of rows reached).deltas ≢ []

  ending_by : (node : ℕ) → node < length rows → row_of rows node ≢ empty_row → (deltas : List Delta) → (row_of rows node).deltas ≡ deltas
      → (children : List (ℕ × ℕ)) → (row_of rows node).children ≡ children
      → ((child : ℕ × ℕ) → Contains (row_of rows node).children child → Ending child.1) → Ending node
  ending_by node low some (delta ∷ deltas) e children f later =
      record { word = []; reached = node; walked = refl; some = λ none. let no : delta ∷ deltas ≡ [] = sym e ∙ none in absurd (cc) }
  ending_by node low some [] e [] f later = absurd (some (λ i. record { deltas = e i; children = f i }))
  ending_by node low some [] e (child ∷ children) f later =
      let among : Contains (row_of rows node).children child = subst (λ (cs : List (ℕ × ℕ)). Contains cs child) (sym f) (Contains-first child children) in
      let rest = later child among in
      let leads = child_among-Contains child.0 child.1 (row_of rows node).children (are.each node low).letters among in
      record {
        word = child.0 ∷ rest.word;
        reached = rest.reached;
        walked = walk-child rows node child.0 child.1 rest.word leads ∙ rest.walked;
        some = rest.some;
      }

  pub ending_below : (bound node : ℕ) → node < bound → node < length rows → row_of rows node ≢ empty_row → Ending node
  ending_below zero node below low some = absurd (omega (arith, below))
  ending_below (suc bound) node below low some =
      ending_by node low some (row_of rows node).deltas refl (row_of rows node).children refl (λ child among.
      let is = All-contains (IsChild rows node) (row_of rows node).children child (are.each node low).children among in
      let before = is.before in
      ending_below bound child.1 (omega (arith, before, below)) (omega (arith, before, low)) is.not_empty)

  module _ (root : ℕ) (low : root < length rows) (right : list_all has_right_deltas (suffixes_of rows root) ≡ true) where
    abbrev forms : List Form
    forms = forms_of_root rows root

    begins : (word : List ℕ) → IsSome (walk rows root word) → (word ≡ []) ⊎ BeginsForm forms word
    begins [] h = inl refl
    begins (letter ∷ word) h =
        let (reached, walked) = reached_by (walk rows root (letter ∷ word)) h in
        let some = letter_leads letter word root reached low walked in
        let within = walk-within rows are (letter ∷ word) root reached low walked in
        let rest = ending_below (suc reached) reached (omega arith) (omega (arith, within, low)) some in
        let whole = walk-two rows (letter ∷ word) rest.word root reached walked ∙ rest.walked in
        let suffix : Suffix = record { word = letter ∷ word ++ rest.word; deltas = (row_of rows rest.reached).deltas } in
        let there = suffix_there rows are (letter ∷ word ++ rest.word) root rest.reached (row_of rows rest.reached).deltas low whole refl rest.some in
        inr (record {
          form = form_of_suffix suffix;
          is_among = Contains-map form_of_suffix (suffixes_of rows root) suffix there;
          rest = rest.word;
          has_letters = refl;
        })

    walked_by : (word : List ℕ) → (word ≡ []) ⊎ BeginsForm forms word → IsSome (walk rows root word)
    walked_by word (inl e) = subst (λ (w : List ℕ). IsSome (walk rows root w)) (sym e) refl
    walked_by word (inr b) =
        let (suffix, there, same) = Contains-map_cases form_of_suffix (suffixes_of rows root) b.form b.is_among in
        let found = suffix_by rows are root low suffix there in
        let letters : suffix.word ≡ word ++ b.rest = ap (λ (f : Form). f.letters) same ∙ b.has_letters in
        walks_front rows word b.rest root (subst (λ (w : List ℕ). IsSome (walk rows root w)) letters (walks_by (walk rows root suffix.word) found.reached found.walked))

    delta_of_form : (word : List ℕ) (reached : ℕ) → walk rows root word ≡ Some reached → (delta : Delta) → Contains (row_of rows reached).deltas delta → HasDelta forms word delta
    delta_of_form word reached walked delta m =
        let deltas = (row_of rows reached).deltas in
        let suffix : Suffix = record { word = word; deltas = deltas } in
        let there = suffix_there rows are word root reached deltas low walked refl (some_by_element deltas delta m) in
        let tested = passes_all (is_right_delta word) deltas delta (passes_all has_right_deltas (suffixes_of rows root) suffix right there) m in
        record {
          form = form_of_suffix suffix;
          is_among = Contains-map form_of_suffix (suffixes_of rows root) suffix there;
          has_letters = refl;
          analysis = analysis_by word delta;
          is_analyzed = analysis_there word deltas delta m;
          is_delta = right_is_delta word delta tested;
        }

    delta_of_node : (word : List ℕ) (reached : ℕ) → walk rows root word ≡ Some reached → (delta : Delta) → HasDelta forms word delta → Contains (row_of rows reached).deltas delta
    delta_of_node word reached walked delta d =
        let (suffix, there, same) = Contains-map_cases form_of_suffix (suffixes_of rows root) d.form d.is_among in
        let found = suffix_by rows are root low suffix there in
        let letters : suffix.word ≡ word = ap (λ (f : Form). f.letters) same ∙ d.has_letters in
        let here : Some found.reached ≡ Some reached = sym found.walked ∙ ap (walk rows root) letters ∙ walked in
        let node : found.reached ≡ reached = cc in
        let analyzed : Contains (analyses_by suffix.word suffix.deltas) d.analysis = subst (λ (f : Form). Contains f.analyses d.analysis) (sym same) d.is_analyzed in
        let (other, among, gives) = analysis_from suffix.word suffix.deltas d.analysis analyzed in
        let tested = passes_all (is_right_delta suffix.word) suffix.deltas other (passes_all has_right_deltas (suffixes_of rows root) suffix right there) among in
        let first : IsDelta suffix.word d.analysis other = subst (λ (a : Analysis). IsDelta suffix.word a other) gives (right_is_delta suffix.word other tested) in
        let second : IsDelta suffix.word d.analysis delta = subst (λ (w : List ℕ). IsDelta w d.analysis delta) (sym letters) d.is_delta in
        let one = one_delta suffix.word d.analysis other delta first second in
        let deltas : suffix.deltas ≡ (row_of rows reached).deltas = found.is_deltas ∙ ap (λ (n : ℕ). (row_of rows n).deltas) node in
        subst (λ (ds : List Delta). Contains ds delta) deltas (subst (Contains suffix.deltas) one among)

    -- the root stands for its forms
    pub node_of_root : IsNodeAfter rows forms [] root
    node_of_root = record {
      walks = λ word. (begins word, walked_by word);
      deltas = λ word reached walked delta. (delta_of_form word reached walked delta, delta_of_node word reached walked delta);
    }
