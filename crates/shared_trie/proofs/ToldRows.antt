-- One row more, told after its children and other than the rows before, leaves a trie, and its height is known.
use Rattle.std.proofs.Common.{◌≡◌, ◌≢◌, ℕ, ◌+◌, ◌*◌, ◌<◌, ◌≤◌, ◌^◌, List, [], ◌∷◌, ◌++◌, length, sym, ap, subst, arith}
use Rattle.std.specs.Prelude.{All}
use Rattle.std.proofs.lemmas.List.{length_push}
use Rattle.std.proofs.lemmas.List.Elements.{All-weaker}
use Rattle.std.proofs.lemmas.List.Quantifiers.{all_pairs_push}
use Rattle.lexicon_definitions.specs.Tries.{Row, Trie, AreRows, IsRow, IsTrie}
use Rattle.lexicon_definitions.proofs.TrieGrowth.{AreRows-push}
use Rattle.shared_trie.specs.Heights.{AreHeights, IsHeightAbove}
use Rattle.shared_trie.proofs.HeightLemmas.{AreHeights-push}

-- the rows with one more
pub rows_with : (rows : List Row) (row : Row) → AreRows rows → IsRow rows (length rows) row → All (λ other. other ≢ row) rows → AreRows (rows ++ row ∷ [])
rows_with rows row are is other =
    AreRows-push rows row are is (all_pairs_push (λ left right. left ≢ right) rows row are.distinct other)

-- what holds of the fields of a store
abbrev pub AreParts : List Row → List ℕ → List ℕ → Type 0
AreParts rows heights roots =
    IsTrie (record { rows = rows; roots = roots }) × (length rows < 2 ^ 32) × AreHeights rows heights

-- holds with one row more
pub parts_with : (trie : Trie) (rows : List Row) (roots heights : List ℕ) (row : Row) (height : ℕ) → record { rows = rows; roots = roots } ≡ trie → AreParts rows heights roots
    → IsRow trie.rows (length trie.rows) row → All (λ other. other ≢ row) trie.rows → 64 * (length trie.rows + 1) < 2 ^ 32
    → IsHeightAbove heights row.children height → height ≤ length heights
    → AreParts (rows ++ row ∷ []) (heights ++ height ∷ []) roots
parts_with trie rows roots heights row height view parts is other room above low =
    let same : rows ≡ trie.rows = ap (λ (t : Trie). t.rows) view in
    let row_is : IsRow rows (length rows) row = subst (λ (rs : List Row). IsRow rs (length rs) row) (sym same) is in
    let others : All (λ other. other ≢ row) rows = subst (λ (rs : List Row). All (λ other. other ≢ row) rs) (sym same) other in
    let more = rows_with rows row parts.0.rows row_is others in
    let long = length_push rows row in
    let count = parts.2.count in
    let total = ap length same in (
      record { rows = more; roots = All-weaker (λ root. root < length rows) (λ root. root < length (rows ++ row ∷ [])) (λ root l. omega (arith, l, long)) roots parts.0.roots },
      omega (arith, long, room, total),
      AreHeights-push rows row heights height parts.0.rows more parts.2 above (omega (arith, low, count)) row_is,
    )

-- and where parts are told by other names
pub parts_same : (rows other : List Row) (heights others roots : List ℕ) → rows ≡ other → heights ≡ others → AreParts other others roots → AreParts rows heights roots
parts_same rows other heights others roots e f h = subst (λ (rs : List Row). AreParts rs heights roots) (sym e) (subst (λ (hs : List ℕ). AreParts other hs roots) (sym f) h)
