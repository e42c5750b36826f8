-- A trie with its nodes in another order and none that no root leads to: a word leads from a node's new number to the new number of the node to
-- which it led, by induction on the word; so roots stand for what they stood for.
use Rattle.std.proofs.Common.{◌≡◌, ◌≢◌, ℕ, ◌<◌, ◌==◌, Bool, true, false, cond, Option, Some, None, List, [], ◌∷◌, ◌++◌, length, map, get_or, refl, sym, ◌∙◌, ap, subst, arith}
use Rattle.std.specs.Prelude.{find, AllPairs, Contains, IsSome}
use Rattle.std.specs.Option.{option_map}
use Rattle.std.proofs.lemmas.List.{get_or-map, length-map}
use Rattle.std.proofs.lemmas.List.Elements.{Contains-get_or}
use Rattle.list_laws.proofs.FirstOnes.{Contains-map}
use Rattle.lexicon_definitions.specs.Lexicons.{Form}
use Rattle.lexicon_definitions.specs.Tries.{Row, Trie, IsTrieOf, IsNodeAfter, child_among, child_in, row_of, walk, empty_row}
use Rattle.lexicon_definitions.proofs.TrieGrowth.{walk-child, walk-none}
use Rattle.lexicon_definitions.proofs.TrieWalks.{walk-two}
use Rattle.trie_text_definitions.specs.VersionTexts.{IsLedTo, IsOrderedTrieOf}
use Rattle.shared_trie.specs.CanonicalNodes.{number_in, numbered_child, numbered_row, rows_of_nodes, trie_of_nodes, IsCanonical}
use Rattle.shared_trie.proofs.NumbersIn.{number_at, number_of_place}

-- ---- where words lead

-- what is found among the numbered children is the number of what is found
numbered_among : (nodes : List ℕ) (children : List (ℕ × ℕ)) (letter : ℕ)
    → child_among (map (numbered_child nodes) children) letter ≡ option_map (number_in nodes) (child_among children letter)
numbered_among nodes [] letter = refl
numbered_among nodes (child ∷ children) letter =
    let go : (test : Bool) → child.0 == letter ≡ test
    → option_map (λ (c : ℕ × ℕ). c.1) (cond test (Some (numbered_child nodes child)) (find (λ (c : ℕ × ℕ). c.0 == letter) (map (numbered_child nodes) children)))
    ≡ option_map (number_in nodes) (option_map (λ (c : ℕ × ℕ). c.1) (cond test (Some child) (find (λ (c : ℕ × ℕ). c.0 == letter) children))) =
    elim [ true ↦ λ e. refl | false ↦ λ e. numbered_among nodes children letter ]
    in go (child.0 == letter) refl

-- the row at the number of a node
pub row_at_number : (rows : List Row) (nodes : List ℕ) (node : ℕ) → Contains nodes node → row_of (rows_of_nodes rows nodes) (number_in nodes node) ≡ numbered_row nodes (row_of rows node)
row_at_number rows nodes node m =
    let (within, is) = number_at nodes node m in
    get_or-map (λ (n : ℕ). numbered_row nodes (row_of rows n)) nodes (number_in nodes node) 0 empty_row within ∙ ap (λ n. numbered_row nodes (row_of rows n)) is

-- the row at a place
pub row_at_place : (rows : List Row) (nodes : List ℕ) (place : ℕ) → place < length nodes → row_of (rows_of_nodes rows nodes) place ≡ numbered_row nodes (row_of rows (get_or nodes place 0))
row_at_place rows nodes place below = get_or-map (λ (n : ℕ). numbered_row nodes (row_of rows n)) nodes place 0 empty_row below

-- a child of a node that some root leads to is led to
pub led_to_child : (trie : Trie) (node letter child : ℕ) → IsLedTo trie node → child_in trie.rows node letter ≡ Some child → IsLedTo trie child
led_to_child trie node letter child led e = record {
  root = led.root;
  is_root = led.is_root;
  word = led.word ++ letter ∷ [];
  walked = walk-two trie.rows led.word (letter ∷ []) led.root node led.walked ∙ walk-child trie.rows node letter child [] e;
}

module _ (trie : Trie) (nodes : List ℕ) (led : (node : ℕ) → Contains nodes node → IsLedTo trie node) (there : (node : ℕ) → IsLedTo trie node → Contains nodes node) where
  -- where a letter leads
  child_at_number : (node letter : ℕ) → Contains nodes node
      → child_in (rows_of_nodes trie.rows nodes) (number_in nodes node) letter ≡ option_map (number_in nodes) (child_in trie.rows node letter)
  child_at_number node letter m =
      ap (λ (row : Row). child_among row.children letter) (row_at_number trie.rows nodes node m) ∙ numbered_among nodes (row_of trie.rows node).children letter

  -- where a word leads
  pub walk_at_number : (word : List ℕ) (node : ℕ) → Contains nodes node
      → walk (rows_of_nodes trie.rows nodes) (number_in nodes node) word ≡ option_map (number_in nodes) (walk trie.rows node word)
  walk_at_number [] node m = refl
  walk_at_number (letter ∷ word) node m =
      let rows = trie.rows in
      let numbered = rows_of_nodes trie.rows nodes in
      let go : (o : Option ℕ) → child_in rows node letter ≡ o → walk numbered (number_in nodes node) (letter ∷ word) ≡ option_map (number_in nodes) (walk rows node (letter ∷ word)) =
      elim [
        | None ↦ λ e.
            walk-none numbered (number_in nodes node) letter word (child_at_number node letter m ∙ ap (option_map (number_in nodes)) e)
            ∙ ap (option_map (number_in nodes)) (sym (walk-none rows node letter word e))
        | Some child ↦ λ e.
            let among = there child (led_to_child trie node letter child (led node m) e) in
            walk-child numbered (number_in nodes node) letter (number_in nodes child) word (child_at_number node letter m ∙ ap (option_map (number_in nodes)) e)
            ∙ walk_at_number word child among ∙ ap (option_map (number_in nodes)) (sym (walk-child rows node letter child word e))
      ]
      in go (child_in rows node letter) refl

  -- a node to which a word leads from one that is there is there
  pub reached_there : (word : List ℕ) (node reached : ℕ) → Contains nodes node → walk trie.rows node word ≡ Some reached → Contains nodes reached
  reached_there word node reached m walked =
      let from = led node m in
      there reached (record { root = from.root; is_root = from.is_root; word = from.word ++ word; walked = walk-two trie.rows from.word word from.root node from.walked ∙ walked })

  some_mapped : (o : Option ℕ) → IsSome (option_map (number_in nodes) o) → IsSome o
  some_mapped None h = h
  some_mapped (Some n) h = h

  mapped_some : (o : Option ℕ) → IsSome o → IsSome (option_map (number_in nodes) o)
  mapped_some None h = h
  mapped_some (Some n) h = h

  mapped_is : (o : Option ℕ) (reached : ℕ) → option_map (number_in nodes) o ≡ Some reached → (before : ℕ) × (o ≡ Some before) × (number_in nodes before ≡ reached)
  mapped_is None reached e = absurd (cc)
  mapped_is (Some before) reached e = (before, refl, cc)

  -- a node stands for what it stood for
  pub node_at_number : (forms : List Form) (front : List ℕ) (node : ℕ) → Contains nodes node → IsNodeAfter trie.rows forms front node
      → IsNodeAfter (rows_of_nodes trie.rows nodes) forms front (number_in nodes node)
  node_at_number forms front node m is = record {
    walks = λ word. (
      λ walks. (is.walks word).0 (some_mapped (walk trie.rows node word) (subst IsSome (walk_at_number word node m) walks)),
      λ begins. subst IsSome (sym (walk_at_number word node m)) (mapped_some (walk trie.rows node word) ((is.walks word).1 begins)),
    );
    deltas = λ word reached walked delta.
        let (before, walked_before, number) = mapped_is (walk trie.rows node word) reached (sym (walk_at_number word node m) ∙ walked) in
        let row : row_of (rows_of_nodes trie.rows nodes) reached ≡ numbered_row nodes (row_of trie.rows before) =
        ap (row_of (rows_of_nodes trie.rows nodes)) (sym number) ∙ row_at_number trie.rows nodes before (reached_there word node before m walked_before) in
        let told = is.deltas word before walked_before delta in (
          λ among. told.0 (subst (λ (r : Row). Contains r.deltas delta) row among),
          λ has. subst (λ (r : Row). Contains r.deltas delta) (sym row) (told.1 has),
        );
  }

-- ---- the ordered trie

-- no node is there twice, since no row is
pub nodes_apart : (rows : List Row) (nodes : List ℕ) → AllPairs (λ left right. left ≢ right) (rows_of_nodes rows nodes) → AllPairs (λ (left right : ℕ). left ≢ right) nodes
nodes_apart rows nodes apart i j d less below e =
    let row = λ (n : ℕ). numbered_row nodes (row_of rows n) in
    apart i j (row d) less (let long = length-map nodes row in omega (arith, below, long))
    (get_or-map row nodes i d (row d) (omega (arith, less, below)) ∙ ap row e ∙ sym (get_or-map row nodes j d (row d) below))

pub ordered_trie : (trie : Trie) (nodes : List ℕ) (phases : List (List Form)) → IsTrieOf trie phases → IsCanonical trie nodes → IsOrderedTrieOf (trie_of_nodes trie nodes) phases
ordered_trie trie nodes phases is canonical =
    let led : (node : ℕ) → Contains nodes node → IsLedTo trie node = λ node m. (canonical.led_to node).0 m in
    let there : (node : ℕ) → IsLedTo trie node → Contains nodes node = λ node l. (canonical.led_to node).1 l in
    let count = is.count in
    let root_there : (phase : ℕ) → phase < length trie.roots → Contains nodes (get_or trie.roots phase 0) =
    λ phase below. there (get_or trie.roots phase 0) (record { root = get_or trie.roots phase 0; is_root = Contains-get_or trie.roots phase 0 below; word = []; walked = refl }) in
    record {
      is_trie = record {
        is_trie = canonical.is_trie;
        count = length-map trie.roots (number_in nodes) ∙ count;
        each = λ phase below.
            let low : phase < length trie.roots = omega (arith, below, count) in
            subst (IsNodeAfter (rows_of_nodes trie.rows nodes) (get_or phases phase []) []) (sym (get_or-map (number_in nodes) trie.roots phase 0 0 low))
            (node_at_number trie nodes led there (get_or phases phase []) [] (get_or trie.roots phase 0) (root_there phase low) (is.each phase below));
      };
      is_used = λ number below.
          let long = length-map nodes (λ (n : ℕ). numbered_row nodes (row_of trie.rows n)) in
          let low : number < length nodes = omega (arith, below, long) in
          let node = get_or nodes number 0 in
          let from = led node (Contains-get_or nodes number 0 low) in
          let place = number_of_place nodes (nodes_apart trie.rows nodes canonical.is_trie.rows.distinct) number low in
          let root = there from.root (record { root = from.root; is_root = from.is_root; word = []; walked = refl }) in
          record {
            root = number_in nodes from.root;
            is_root = Contains-map (number_in nodes) trie.roots from.root from.is_root;
            word = from.word;
            walked = walk_at_number trie nodes led there from.word from.root root ∙ ap (option_map (number_in nodes)) from.walked ∙ ap (λ (n : ℕ). Some n) place;
          };
      rising = canonical.rising;
    }
