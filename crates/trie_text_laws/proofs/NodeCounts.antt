-- The ordered trie of a lexicon has fewer than 10^9 nodes: each is reached by a front of a form, or is the root of a phase, and a list that has
-- each number below another is as long as this one.
use Rattle.std.proofs.Common.{◌≡◌, ◌≢◌, ◌⊎◌, inl, inr, ℕ, zero, suc, ◌+◌, ◌*◌, ◌<◌, ◌≤◌, ◌^◌, Bool, true, false, cond, eqb, Option, Some, None, List, [], ◌∷◌, ◌++◌, length, map, take, get_or, refl, sym, ◌∙◌, ap, subst, arith, true≢false}
use Rattle.std.specs.Prelude.{All, Contains, is_some, sum_by}
use Rattle.std.specs.List.{range_with_len}
use Rattle.std.proofs.Math.Seq.{take-append_seam}
use Rattle.std.proofs.lemmas.Bool.{eqb-true, eq-eqb}
use Rattle.std.proofs.lemmas.List.{get_or_default, length-append, length-map}
use Rattle.std.proofs.lemmas.List.Elements.{All-contains, Contains-append_left, Contains-append_right}
use Rattle.std.proofs.lemmas.List.FromFn.{length-range_with_len}
use Rattle.std.proofs.lemmas.List.Sums.{sum_by-cons}
use Rattle.list_laws.proofs.FirstOnes.{Contains-map}
use Rattle.list_laws.proofs.Sorted.{Contains-first, Contains-later, Contains-cons_cases, not_Contains-nil}
use Rattle.lexicon_definitions.specs.declared.limits.TheConstants.{MOST_FORM_LINES, MOST_PHASES}
use Rattle.lexicon_definitions.specs.Analyses.{Analysis}
use Rattle.lexicon_definitions.specs.Lexicons.{Form, IsFormEntry, IsPhase}
use Rattle.lexicon_definitions.specs.Limits.{IsShortForm, count_lines}
use Rattle.lexicon_definitions.specs.Tries.{Row, Trie, IsNodeAfter, IsTrieOf, walk}
use Rattle.trie_text_definitions.specs.VersionTexts.{IsLedTo, IsOrderedTrieOf}
use Rattle.trie_text_definitions.proofs.RootNodes.{in_range}

-- ---- numbers in a list

-- the list without a number
without : ℕ → List ℕ → List ℕ
without n [] = []
without n (x ∷ xs) = cond (eqb x n) (without n xs) (x ∷ without n xs)

no_longer : (n : ℕ) (xs : List ℕ) → length (without n xs) ≤ length xs
unfolding without
no_longer n [] = omega arith
no_longer n (x ∷ xs) = by (eqb x n) (no_longer n xs)
  where
    by : (test : Bool) → length (without n xs) ≤ length xs → length (cond test (without n xs) (x ∷ without n xs)) ≤ length (x ∷ xs)
    by true rest = omega (arith, rest)
    by false rest = omega (arith, rest)

shorter : (n : ℕ) (xs : List ℕ) → Contains xs n → length (without n xs) < length xs
unfolding without
shorter n [] m = absurd (not_Contains-nil n m)
shorter n (x ∷ xs) m = by (eqb x n) refl (shorter n xs)
  where
    by : (test : Bool) → eqb x n ≡ test → (Contains xs n → length (without n xs) < length xs) → length (cond test (without n xs) (x ∷ without n xs)) < length (x ∷ xs)
    by true e later = let rest = no_longer n xs in omega (arith, rest)
    by false e later = elim (Contains-cons_cases x xs n m) [
      | inl same ↦ absurd (true≢false (sym (eq-eqb x n same) ∙ e))
      | inr inside ↦ let rest = later inside in omega (arith, rest)
    ]

still_there : (n k : ℕ) (xs : List ℕ) → k ≢ n → Contains xs k → Contains (without n xs) k
unfolding without
still_there n k [] other m = absurd (not_Contains-nil k m)
still_there n k (x ∷ xs) other m = by (eqb x n) refl (Contains-cons_cases x xs k m) (still_there n k xs other)
  where
    by : (test : Bool) → eqb x n ≡ test → (x ≡ k) ⊎ Contains xs k → (Contains xs k → Contains (without n xs) k) → Contains (cond test (without n xs) (x ∷ without n xs)) k
    by true e (inl same) rest = absurd (other (sym same ∙ eqb-true x n e))
    by true e (inr later) rest = rest later
    by false e (inl same) rest = subst (Contains (x ∷ without n xs)) same (Contains-first x (without n xs))
    by false e (inr later) rest = Contains-later x (without n xs) k (rest later)

-- a list that has each number below this one is as long
pub numbers_are_few : (n : ℕ) (xs : List ℕ) → ((k : ℕ) → k < n → Contains xs k) → n ≤ length xs
numbers_are_few zero xs h = omega arith
numbers_are_few (suc n) xs h =
    let rest = numbers_are_few n (without n xs) (λ k below. still_there n k xs (λ e. omega (arith, below, e)) (h k (omega (arith, below)))) in
    let less = shorter n xs (h n (omega arith)) in
    omega (arith, rest, less)

-- ---- where fronts lead

or_zero : Option ℕ → ℕ
or_zero None = 0
or_zero (Some n) = n

module _ (rows : List Row) where
  -- where the fronts of a form lead
  abbrev of_form : ℕ → Form → List ℕ
  of_form root form = map (λ k. or_zero (walk rows root (take k form.letters))) (range_with_len 0 (length form.letters + 1))

  abbrev of_forms : ℕ → List Form → List ℕ
  of_forms root [] = []
  of_forms root (form ∷ forms) = of_form root form ++ of_forms root forms

  -- the roots, and where the fronts of their forms lead
  abbrev of_phases : List ℕ → List (List Form) → List ℕ
  of_phases [] phases = []
  of_phases (root ∷ roots) [] = []
  of_phases (root ∷ roots) (forms ∷ phases) = (root ∷ of_forms root forms) ++ of_phases roots phases

  length-of_form : (root : ℕ) (form : Form) → length (of_form root form) ≡ length form.letters + 1
  length-of_form root form =
      length-map (range_with_len 0 (length form.letters + 1)) (λ k. or_zero (walk rows root (take k form.letters)))
      ∙ length-range_with_len 0 (length form.letters + 1)

  some_analysis : (analyses : List Analysis) → analyses ≢ [] → 0 < length analyses
  some_analysis [] n = absurd (n refl)
  some_analysis (analysis ∷ analyses) n = omega arith

  -- for each form no more than its letters and one
  few_of_forms : (root : ℕ) (forms : List Form) → ((form : Form) → Contains forms form → IsFormEntry form × IsShortForm form)
      → length (of_forms root forms) ≤ 65 * sum_by (λ (form : Form). length form.analyses) forms
  few_of_forms root [] each = omega arith
  few_of_forms root (form ∷ forms) each =
      let parts = length-append (of_form root form) (of_forms root forms) in
      let here = length-of_form root form in
      let first = each form (Contains-first form forms) in
      let letters = first.1.letters in
      let some = some_analysis form.analyses first.0.analyzed in
      let rest = few_of_forms root forms (λ f m. each f (Contains-later form forms f m)) in
      let sum = sum_by-cons (λ (f : Form). length f.analyses) form forms in
      omega (arith, parts, here, letters, some, rest, sum)

  few_of_phases : (roots : List ℕ) (phases : List (List Form)) → ((forms : List Form) → Contains phases forms → IsPhase forms × All IsShortForm forms)
      → length (of_phases roots phases) ≤ length phases + 65 * count_lines phases
  few_of_phases [] phases each = omega arith
  few_of_phases (root ∷ roots) [] each = omega arith
  few_of_phases (root ∷ roots) (forms ∷ phases) each =
      let parts = length-append (root ∷ of_forms root forms) (of_phases roots phases) in
      let first = each forms (Contains-first forms phases) in
      let here = few_of_forms root forms (λ form n. (All-contains IsFormEntry forms form first.0.each n, All-contains IsShortForm forms form first.1 n)) in
      let rest = few_of_phases roots phases (λ f n. each f (Contains-later forms phases f n)) in
      let sum = sum_by-cons (λ (fs : List Form). sum_by (λ (form : Form). length form.analyses) fs) forms phases in
      omega (arith, parts, here, rest, sum)

  -- a front of a form leads to a candidate
  among_form : (root : ℕ) (form : Form) (word rest : List ℕ) (node : ℕ) → form.letters ≡ word ++ rest → walk rows root word ≡ Some node → Contains (of_form root form) node
  unfolding or_zero
  among_form root form word rest node e walked =
      let long = ap (λ (w : List ℕ). length w) e in
      let parts = length-append word rest in
      let front : take (length word) form.letters ≡ word = ap (take (length word)) e ∙ take-append_seam word rest in
      let is : or_zero (walk rows root (take (length word) form.letters)) ≡ node = ap (λ (w : List ℕ). or_zero (walk rows root w)) front ∙ ap or_zero walked in
      subst (Contains (of_form root form)) is
      (Contains-map (λ k. or_zero (walk rows root (take k form.letters))) (range_with_len 0 (length form.letters + 1)) (length word)
      (in_range 0 (length form.letters + 1) (length word) (omega arith) (omega (arith, long, parts))))

  among_forms : (root : ℕ) (forms : List Form) (form : Form) (node : ℕ) → Contains forms form → Contains (of_form root form) node → Contains (of_forms root forms) node
  among_forms root [] form node m n = absurd (not_Contains-nil form m)
  among_forms root (first ∷ forms) form node m n =
      elim (Contains-cons_cases first forms form m) [
        | inl same ↦ Contains-append_left (of_form root first) (of_forms root forms) node (subst (λ (f : Form). Contains (of_form root f) node) (sym same) n)
        | inr later ↦ Contains-append_right (of_form root first) (of_forms root forms) node (among_forms root forms form node later n)
      ]

  among_phases : (roots : List ℕ) (phases : List (List Form)) (k node : ℕ) → k < length roots → length roots ≡ length phases
      → Contains (get_or roots k 0 ∷ of_forms (get_or roots k 0) (get_or phases k [])) node → Contains (of_phases roots phases) node
  among_phases [] phases k node low count m = absurd (omega (arith, low))
  among_phases (root ∷ roots) [] k node low count m = absurd (omega (arith, count))
  among_phases (root ∷ roots) (forms ∷ phases) zero node low count m = Contains-append_left (root ∷ of_forms root forms) (of_phases roots phases) node m
  among_phases (root ∷ roots) (forms ∷ phases) (suc k) node low count m =
      Contains-append_right (root ∷ of_forms root forms) (of_phases roots phases) node (among_phases roots phases k node (omega (arith, low)) (omega (arith, count)) m)

-- ---- the nodes to which roots lead

-- what a word leads to from the root of a phase: it stands for what follows the word in the forms of the phase
pub record IsReached (trie : Trie) (phases : List (List Form)) (node : ℕ) : Type 0 where
  pub phase : ℕ
  pub inside : phase < length trie.roots
  pub low : phase < length phases
  pub word : List ℕ
  pub walked : walk trie.rows (get_or trie.roots phase 0) word ≡ Some node
  pub stands : IsNodeAfter trie.rows (get_or phases phase []) [] (get_or trie.roots phase 0)

module _ (trie : Trie) (phases : List (List Form)) (h : IsTrieOf trie phases) where
  pub reached : (node : ℕ) → IsLedTo trie node → IsReached trie phases node
  reached node from =
      let (k, below, is) = from.is_root in
      let count = h.count in
      let low : k < length phases = omega (arith, below, count) in
      record {
        phase = k;
        inside = below;
        low = low;
        word = from.word;
        walked = ap (λ (r : ℕ). walk trie.rows r from.word) (get_or_default trie.roots k 0 from.root below ∙ is) ∙ from.walked;
        stands = h.each k low;
      }

  -- the roots of the phases, and where the fronts of forms lead
  pub candidates : List ℕ
  candidates = of_phases trie.rows trie.roots phases

  -- a node to which a root leads is among them
  pub is_candidate : (node : ℕ) → IsLedTo trie node → Contains candidates node
  unfolding candidates
  is_candidate node from =
      let r = reached node from in
      let root = get_or trie.roots r.phase 0 in
      let forms = get_or phases r.phase [] in
      among_phases trie.rows trie.roots phases r.phase node r.inside h.count (elim ((r.stands.walks r.word).0 (ap is_some r.walked)) [
        | inl none ↦
            let here : Some root ≡ Some node = sym (ap (walk trie.rows root) none) ∙ r.walked in
            let same : root ≡ node = cc (here) in
            subst (Contains (root ∷ of_forms trie.rows root forms)) same (Contains-first root (of_forms trie.rows root forms))
        | inr begins ↦
            Contains-later root (of_forms trie.rows root forms) node
            (among_forms trie.rows root forms begins.form node begins.is_among (among_form trie.rows root begins.form r.word begins.rest node begins.has_letters r.walked))
      ])

  -- and of a lexicon within the limits these are not many
  pub few_candidates : All IsPhase phases → All (λ forms. All IsShortForm forms) phases → length phases ≤ MOST_PHASES → count_lines phases ≤ MOST_FORM_LINES
      → length candidates ≤ 10 ^ 9
  unfolding candidates
  few_candidates each short few_phases few_lines =
      let most = few_of_phases trie.rows trie.roots phases (λ forms m. (All-contains IsPhase phases forms each m, All-contains (λ fs. All IsShortForm fs) phases forms short m)) in
      omega (arith, most, few_phases, few_lines)

pub few_nodes : (trie : Trie) (phases : List (List Form)) → IsOrderedTrieOf trie phases → All IsPhase phases → All (λ forms. All IsShortForm forms) phases
    → length phases ≤ MOST_PHASES → count_lines phases ≤ MOST_FORM_LINES → length trie.rows ≤ 10 ^ 9
few_nodes trie phases h each short few_phases few_lines =
    let nodes = numbers_are_few (length trie.rows) (candidates trie phases h.is_trie) (λ node low. is_candidate trie phases h.is_trie node (h.is_used node low)) in
    let most = few_candidates trie phases h.is_trie each short few_phases few_lines in
    omega (arith, nodes, most)
