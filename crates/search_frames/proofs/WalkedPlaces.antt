-- What was walked along letters of a line from a place on, as far as an end, is what the definitions walk.
use Rattle.std.proofs.Common.{◌≡◌, ℕ, ◌+◌, ◌-◌, ◌<◌, ◌≤◌, Some, List, ◌++◌, length, take, drop, get_or, sym, ◌∙◌, ap, arith}
use Rattle.std.specs.Prelude.{IsSome, is_some}
use Rattle.std.proofs.lemmas.List.{length-drop, length-take-le, take-take, get_or-take}
use Rattle.text_definitions.specs.Lines.{Line}
use Rattle.lexicon_definitions.specs.Tries.{Row, walk}
use Rattle.answer_paths.specs.Fronts.{supplied}
use Rattle.annotated_trie.specs.Searched.{SearchedLexicon}
use Rattle.search_frames.specs.declared.frame.TheConstants.{NODES_OF_FRAME}
use Rattle.search_frames.specs.Configurations.{NumberedConfiguration}
use Rattle.search_frames.specs.Walks.{IsNodeAt, IsNodeAmong}
use Rattle.search_frames.proofs.PossibleKeys.{root_in}

module _ (searched : SearchedLexicon) (line : Line) (here : NumberedConfiguration) (phase : ℕ) (rows : List Row) (root : ℕ) (lead letters : List ℕ) (end count : ℕ) where
  ahead_long : here.at ≤ end → end ≤ length letters → length (take (end - here.at) (drop here.at letters)) ≡ end - here.at
  ahead_long order inside = length-take-le (end - here.at) (drop here.at letters) (omega (arith, order, inside, length-drop here.at letters))

  -- the walk in the definitions' words
  same_walk : (taken : ℕ) → rows ≡ searched.tries.trie.rows → root ≡ root_in searched phase → lead ≡ supplied here.entrance → letters ≡ line.letters
      → taken ≤ end - here.at
      → walk rows root (lead ++ take taken (take (end - here.at) (drop here.at letters)))
      ≡ walk searched.tries.trie.rows (root_in searched phase) (supplied here.entrance ++ take taken (drop here.at line.letters))
  same_walk taken rows_is root_is lead_is letters_is low =
      let ahead : take taken (take (end - here.at) (drop here.at letters)) ≡ take taken (drop here.at line.letters) =
      take-take taken (end - here.at) (drop here.at letters) low ∙ ap (λ (l : List ℕ). take taken (drop here.at l)) letters_is in
      λ i. walk (rows_is i) (root_is i) (lead_is i ++ ahead i)

  pub place_walked : (nodes : List ℕ) → rows ≡ searched.tries.trie.rows → root ≡ root_in searched phase → lead ≡ supplied here.entrance → letters ≡ line.letters
      → here.at ≤ end → end ≤ length letters → count ≤ NODES_OF_FRAME → NODES_OF_FRAME ≤ length nodes
      → count ≤ length (take (end - here.at) (drop here.at letters)) + 1
      → ((taken : ℕ) → taken < count → walk rows root (lead ++ take taken (take (end - here.at) (drop here.at letters))) ≡ Some (get_or nodes taken 0))
      → (taken : ℕ) → taken < count → IsNodeAmong searched line here phase (take count nodes) taken
  place_walked nodes rows_is root_is lead_is letters_is order inside few room within walked taken low =
      let long = ahead_long order inside in
      let whole = ap length letters_is in
      let first : get_or nodes taken 0 ≡ get_or (take count nodes) taken 0 = sym (get_or-take count nodes taken 0 low) in
      record {
        letters = omega (arith, low, within, long, order, inside, whole);
        there = omega (arith, low, length-take-le count nodes (omega (arith, few, room)));
        walked = sym (same_walk taken rows_is root_is lead_is letters_is (omega (arith, low, within, long))) ∙ walked taken low ∙ ap Some first;
      }

  pub place_reached : rows ≡ searched.tries.trie.rows → root ≡ root_in searched phase → lead ≡ supplied here.entrance → letters ≡ line.letters
      → here.at ≤ end → end ≤ length letters
      → ((taken : ℕ) → taken ≤ length (take (end - here.at) (drop here.at letters))
      → IsSome (walk rows root (lead ++ take taken (take (end - here.at) (drop here.at letters)))) → taken < count)
      → (taken node : ℕ) → here.at + taken ≤ end → IsNodeAt searched line here phase taken node → taken < count
  place_reached rows_is root_is lead_is letters_is order inside all taken node low walked =
      let long = ahead_long order inside in
      let same = same_walk taken rows_is root_is lead_is letters_is (omega (arith, low)) in
      all taken (omega (arith, low, long)) (ap is_some (same ∙ walked))
