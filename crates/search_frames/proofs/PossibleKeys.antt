-- A possible key's front can be walked, and its change is among those at the node that is reached, since its form goes on from
-- there by the u of its rule; and the other way, what leads from there to a form's end is a possible key.
use Rattle.std.proofs.Common.{◌≡◌, ◌≢◌, ℕ, zero, suc, ◌+◌, ◌<◌, ◌≤◌, ◌⊎◌, inl, inr, Option, Some, None, List, [], ◌∷◌, ◌++◌, length, take, drop, get_or, map, refl, sym, ◌∙◌, ap, subst, append-nil, length-append, arith}
use Rattle.std.specs.Prelude.{IsSome, All, Contains, slice_index_or}
use Rattle.std.proofs.lemmas.List.{length-map, get_or-map}
use Rattle.std.proofs.lemmas.List.Elements.{All-contains, All-get_or, Contains-get_or}
use Rattle.list_laws.proofs.Sorted.{Contains-first, Contains-later, not_Contains-nil}
use Rattle.text_definitions.specs.Lines.{Line}
use Rattle.lexicon_definitions.specs.declared.limits.TheConstants.{MOST_FORM_LETTERS}
use Rattle.lexicon_definitions.specs.Lexicons.{Form, IsFormEntry, IsPhase, IsForm, forms_of, rule_of}
use Rattle.lexicon_definitions.specs.Tries.{IsNodeAfter, BeginsForm, HasDelta, row_of, walk}
use Rattle.lexicon_definitions.proofs.TrieGrowth.{walk-within}
use Rattle.lexicon_definitions.proofs.TrieWalks.{walk-two}
use Rattle.segmentation_definitions.specs.Listings.{Key}
use Rattle.answer_paths.specs.Fronts.{supplied}
use Rattle.annotated_trie.specs.Choices.{LeadsToEnd, choices_of}
use Rattle.annotated_trie.specs.Searched.{SearchedLexicon, IsSearchedLexicon}
use Rattle.search_frames.specs.Configurations.{NumberedConfiguration, IsPossible, rules_in}
use Rattle.search_frames.proofs.WalkDeltas.{delta_exists}
use Rattle.list_laws.proofs.Elements.{some_element, some_by_element}

-- the letters by which a search that stands here comes to a form's u, where it takes so many letters of the line
abbrev pub front_at : Line → NumberedConfiguration → ℕ → List ℕ
front_at line here taken = supplied here.entrance ++ take taken (drop here.at line.letters)

-- the root of the phase
abbrev pub root_in : SearchedLexicon → ℕ → ℕ
root_in searched phase = slice_index_or searched.tries.trie.roots phase 0

-- what is there is something
pub some_there : (found : Option ℕ) → IsSome found → (x : ℕ) × (found ≡ Some x)
some_there None there = absurd cc
some_there (Some x) there = (x, refl)

-- forms of no phase
no_forms : (phases : List (List Form)) (phase : ℕ) (word : List ℕ) → Contains (map (λ (form : Form). form.letters) (get_or phases phase [])) word
    → phase < length phases
no_forms [] phase word among = absurd (not_Contains-nil word among)
no_forms (forms ∷ phases) zero word among = omega arith
no_forms (forms ∷ phases) (suc phase) word among = let low = no_forms phases phase word among in omega (arith, low)

-- a word among the letters of forms is that of one of them
form_with : (forms : List Form) (word : List ℕ) → Contains (map (λ (form : Form). form.letters) forms) word
    → (form : Form) × Contains forms form × (form.letters ≡ word)
form_with forms word (k, low, is) =
    let none : Form = record { letters = []; analyses = [] } in
    let l : k < length forms = omega (arith, low, length-map forms (λ (form : Form). form.letters)) in
    (get_or forms k none, Contains-get_or forms k none l, sym (get_or-map (λ (form : Form). form.letters) forms k none word l) ∙ is)

-- the letters of a form are among those of the forms
form_among : (forms : List Form) (form : Form) → Contains forms form → Contains (map (λ (form : Form). form.letters) forms) form.letters
form_among forms form (k, low, is) =
    let l : k < length (map (λ (form : Form). form.letters) forms) = omega (arith, low, length-map forms (λ (form : Form). form.letters)) in
    (k, l, get_or-map (λ (form : Form). form.letters) forms k form form.letters low ∙ ap (λ (form : Form). form.letters) is)

module _ (searched : SearchedLexicon) (is : IsSearchedLexicon searched) where
  -- the root of a phase is a node
  pub root_there : (phase : ℕ) → phase < length (rules_in searched).names → root_in searched phase < length searched.tries.trie.rows
  root_there phase low =
      let count = is.forms.count in
      let named = is.lexicon.count in
      let l : phase < length searched.tries.trie.roots = omega (arith, low, count, named) in
      All-get_or (λ (root : ℕ). root < length searched.tries.trie.rows) searched.tries.trie.roots phase 0 l is.forms.is_trie.roots

  -- what is walked to from there is a node
  pub reached_there : (phase node : ℕ) (word : List ℕ) → phase < length (rules_in searched).names
      → walk searched.tries.trie.rows (root_in searched phase) word ≡ Some node → node < length searched.tries.trie.rows
  reached_there phase node word low walked =
      let root = root_there phase low in
      let within = walk-within searched.tries.trie.rows is.forms.is_trie.rows word (root_in searched phase) node root walked in
      omega (arith, root, within)

  -- the root stands for all forms of the phase
  node_after : (phase : ℕ) → phase < length (rules_in searched).names
      → IsNodeAfter searched.tries.trie.rows (forms_of searched.lexicon phase) [] (root_in searched phase)
  node_after phase low = let named = is.lexicon.count in is.forms.each phase (omega (arith, low, named))

  -- no longer word than a form can be walked
  pub short_walks : (phase : ℕ) (word : List ℕ) → phase < length (rules_in searched).names
      → IsSome (walk searched.tries.trie.rows (root_in searched phase) word) → length word ≤ MOST_FORM_LETTERS
  short_walks phase word low walks =
      let named = is.lexicon.count in
      let l : phase < length searched.lexicon.phases = omega (arith, low, named) in
      let short = All-get_or (λ (forms : List Form). All (λ (form : Form). length form.letters ≤ MOST_FORM_LETTERS) forms) searched.lexicon.phases phase [] l is.short in
      elim (((node_after phase low).walks word).0 walks) [
        | inl e ↦ let none : length word ≡ 0 = ap length e in omega (arith, none)
        | inr begins ↦
            let long = ap length begins.has_letters in
            let both = length-append word begins.rest in
            let most = All-contains (λ (form : Form). length form.letters ≤ MOST_FORM_LETTERS) (forms_of searched.lexicon phase) begins.form short begins.is_among in
            omega (arith, long, both, most)
      ]

  -- a form of a phase leads from its root to its end
  form_walks : (phase : ℕ) (word : List ℕ) → phase < length (rules_in searched).names → IsForm searched.lexicon phase word
      → LeadsToEnd searched.tries.trie.rows (root_in searched phase) word
  form_walks phase word low among =
      let named = is.lexicon.count in
      let l : phase < length searched.lexicon.phases = omega (arith, low, named) in
      let root = node_after phase low in
      let (form, has, letters) = form_with (forms_of searched.lexicon phase) word among in
      let entry = All-contains IsFormEntry (forms_of searched.lexicon phase) form (All-get_or IsPhase searched.lexicon.phases phase [] l is.lexicon.phases).each has in
      let begins : BeginsForm (forms_of searched.lexicon phase) word = record { form = form; is_among = has; rest = []; has_letters = letters ∙ sym (append-nil word) } in
      let (reached, walked) = some_there (walk searched.tries.trie.rows (root_in searched phase) word) ((root.walks word).1 (inr begins)) in
      let (analysis, analyzed) = some_element form.analyses entry.analyzed in
      let (delta, is_delta) = delta_exists word analysis in
      let has_delta : HasDelta (forms_of searched.lexicon phase) word delta = record { form = form; is_among = has; has_letters = letters; analysis = analysis; is_analyzed = analyzed; is_delta = is_delta } in
      record { reached = reached; walked = walked; ends = some_by_element (row_of searched.tries.trie.rows reached).deltas delta ((root.deltas word reached walked delta).1 has_delta) }

  -- what leads from a root to an end is a form of the phase
  walked_form : (phase : ℕ) (word : List ℕ) → phase < length (rules_in searched).names
      → LeadsToEnd searched.tries.trie.rows (root_in searched phase) word → IsForm searched.lexicon phase word
  walked_form phase word low leads =
      let (delta, among) = some_element (row_of searched.tries.trie.rows leads.reached).deltas leads.ends in
      let has = ((node_after phase low).deltas word leads.reached leads.walked delta).0 among in
      subst (IsForm searched.lexicon phase) has.has_letters (form_among (forms_of searched.lexicon phase) has.form has.is_among)

  module _ (line : Line) (here : NumberedConfiguration) (key : Key) where
    -- a possible key's phase is one
    pub possible_phase : IsPossible searched line here key → key.phase < length (rules_in searched).names
    possible_phase possible =
        let named = is.lexicon.count in
        let low = no_forms searched.lexicon.phases key.phase (front_at line here key.taken ++ (rule_of (rules_in searched) key.rule).u) possible.form in
        omega (arith, low, named)

    -- a possible key's front can be walked
    pub possible_walks : IsPossible searched line here key
        → (node : ℕ) × (walk searched.tries.trie.rows (root_in searched key.phase) (front_at line here key.taken) ≡ Some node)
    possible_walks possible =
        let low = possible_phase possible in
        let (form, has, letters) = form_with (forms_of searched.lexicon key.phase) (front_at line here key.taken ++ (rule_of (rules_in searched) key.rule).u) possible.form in
        let begins : BeginsForm (forms_of searched.lexicon key.phase) (front_at line here key.taken) =
        record { form = form; is_among = has; rest = (rule_of (rules_in searched) key.rule).u; has_letters = letters } in
        some_there (walk searched.tries.trie.rows (root_in searched key.phase) (front_at line here key.taken)) (((node_after key.phase low).walks (front_at line here key.taken)).1 (inr begins))

    module _ (node : ℕ) (walked : walk searched.tries.trie.rows (root_in searched key.phase) (front_at line here key.taken) ≡ Some node) where
      -- the u of a possible key leads from there to a form's end
      pub possible_ends : IsPossible searched line here key → LeadsToEnd searched.tries.trie.rows node (rule_of (rules_in searched) key.rule).u
      possible_ends possible =
          let u = (rule_of (rules_in searched) key.rule).u in
          let leads = form_walks key.phase (front_at line here key.taken ++ u) (possible_phase possible) possible.form in
          let along = walk-two searched.tries.trie.rows (front_at line here key.taken) u (root_in searched key.phase) node walked in
          record { reached = leads.reached; walked = sym along ∙ leads.walked; ends = leads.ends }

      -- what leads from there to a form's end is a possible key
      pub ends_possible : key.phase < length (rules_in searched).names → here.at + key.taken ≤ length line.letters → key.rule ≤ length (rules_in searched).rules
          → LeadsToEnd searched.tries.trie.rows node (rule_of (rules_in searched) key.rule).u → IsPossible searched line here key
      ends_possible low within number leads =
          let u = (rule_of (rules_in searched) key.rule).u in
          let along = walk-two searched.tries.trie.rows (front_at line here key.taken) u (root_in searched key.phase) node walked in
          let whole : LeadsToEnd searched.tries.trie.rows (root_in searched key.phase) (front_at line here key.taken ++ u) =
          record { reached = leads.reached; walked = along ∙ leads.walked; ends = leads.ends } in
          record { number = number; within = within; form = walked_form key.phase (front_at line here key.taken ++ u) low whole }

      -- a possible key's change is among those at its node
      pub possible_change : IsPossible searched line here key → Contains (0 ∷ choices_of searched.tries node) key.rule
      possible_change possible =
          let low = reached_there key.phase node (front_at line here key.taken) (possible_phase possible) walked in
          let members = (is.tries.each node low).members key.rule in
          let leads = possible_ends possible in
          let go : (rule : ℕ) → key.rule ≡ rule → Contains (0 ∷ choices_of searched.tries node) key.rule =
          elim [
            | zero ↦ λ e. subst (Contains (0 ∷ choices_of searched.tries node)) (sym e) (Contains-first 0 (choices_of searched.tries node))
            | suc rule ↦ λ e. Contains-later 0 (choices_of searched.tries node) key.rule (members.1 (omega (arith, e), possible.number, leads))
          ]
          in go key.rule refl

      -- a choice at the node, or no change where a form ends there, is that of a possible key
      pub change_possible : key.phase < length (rules_in searched).names → here.at + key.taken ≤ length line.letters
          → ((key.rule ≡ 0) × ((row_of searched.tries.trie.rows node).deltas ≢ [])) ⊎ Contains (choices_of searched.tries node) key.rule
          → IsPossible searched line here key
      change_possible low within (inl (none, ends)) =
          let leads : LeadsToEnd searched.tries.trie.rows node (rule_of (rules_in searched) 0).u = record { reached = node; walked = refl; ends = ends } in
          ends_possible low within (omega (arith, none)) (subst (λ (rule : ℕ). LeadsToEnd searched.tries.trie.rows node (rule_of (rules_in searched) rule).u) (sym none) leads)
      change_possible low within (inr among) =
          let there = reached_there key.phase node (front_at line here key.taken) low walked in
          let member = ((is.tries.each node there).members key.rule).0 among in
          ends_possible low within member.1 member.2
