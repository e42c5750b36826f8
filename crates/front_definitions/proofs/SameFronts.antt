-- A listing's fronts are compared by their keys, which are the same where they compare as equal.
use Rattle.std.proofs.Common.{◌≡◌, ◌≢◌, ◌↔◌, ℕ, Bool, IsTrue, Option, None, List, [], take, drop}
use Rattle.std.specs.Cmp.{IsTotalOrder}
use Rattle.std.proofs.lemmas.Cmp.{lists_total}
use Rattle.text_definitions.specs.Lines.{Line}
use Rattle.lexicon_definitions.specs.Lexicons.{Lexicon}
use Rattle.segmentation_definitions.specs.Items.{Choice}
use Rattle.segmentation_definitions.specs.Listings.{Key, compare_key_lists}
use Rattle.segmentation_definitions.proofs.KeyLists.{compare_keys_total}
use Rattle.front_definitions.specs.Fronts.{IsFront, IsFrontAbove, AreFronts, AreNextFronts}
use Rattle.front_definitions.proofs.NextOnes.{same_all, same_next, front_of_all, next_with}

pub key_lists_total : IsTotalOrder compare_key_lists
key_lists_total = lists_total compare_keys_total

module _ (lexicon : Lexicon) (line : Line) (choices : List Choice) (depth : ℕ) where
  pub same_fronts : (left right : List (List Key)) → AreFronts lexicon line choices depth left → AreFronts lexicon line choices depth right → left ≡ right
  same_fronts left right = same_all key_lists_total (IsFront lexicon line choices depth) left right

  pub same_next_fronts : (earlier : Option (List Key)) (most : ℕ) (left right : List (List Key)) (left_more right_more : Bool)
      → AreNextFronts lexicon line choices depth earlier most left left_more → AreNextFronts lexicon line choices depth earlier most right right_more
      → (left ≡ right) × (left_more ≡ right_more)
  same_next_fronts earlier most left right left_more right_more =
      same_next key_lists_total (IsFrontAbove lexicon line choices depth earlier) most left right left_more right_more

  pub front_of_fronts : (most : ℕ) (all next : List (List Key)) (more : Bool) → AreFronts lexicon line choices depth all
      → AreNextFronts lexicon line choices depth None most next more → (next ≡ take most all) × (IsTrue more ↔ (drop most all ≢ []))
  front_of_fronts most all next more are is =
      front_of_all key_lists_total (IsFront lexicon line choices depth) most all next more are
      (next_with compare_key_lists (IsFrontAbove lexicon line choices depth None) (IsFront lexicon line choices depth) most next more
      (λ front of. of.0) (λ front of. (of, tt)) is)
