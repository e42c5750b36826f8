-- A list of one element, or of none, rises; deltas as they are read and with their tags' texts.
use Rattle.std.proofs.Common.{◌≡◌, ◌<◌, ◌||◌, nat_lt, true, List, [], ◌∷◌, length, map, refl, ap, arith}
use Rattle.std.specs.List.{list_any}
use Rattle.std.specs.declared.cmp.Ordering.{Ordering}
use Rattle.form_tags.specs.declared.delta.Delta.{Delta}
use Rattle.form_tags.specs.Analyses.{text_delta}
use Rattle.lexicon_definitions.specs.declared.limits.TheConstants.{MOST_FORM_LETTERS}
use Rattle.trie_text_definitions.specs.LimitedRules.{rises}
use Rattle.lexicon_file.specs.Rows.{are_too_long}

pub short_rises : {X : Type 0} (compare : X → X → Ordering) (xs : List X) → length xs < 2 → rises compare xs ≡ true
short_rises compare [] h = refl
short_rises compare (x ∷ []) h = refl
short_rises compare (x ∷ y ∷ xs) h = absurd (omega (arith, h))

-- the letters of some delta are too many exactly where they are so with its tag's text
pub long_among : (deltas : List Delta) → list_any (λ (delta : Delta). nat_lt MOST_FORM_LETTERS (length delta.append)) deltas ≡ are_too_long (map text_delta deltas)
long_among [] = refl
long_among (delta ∷ deltas) = ap (λ rest. nat_lt MOST_FORM_LETTERS (length delta.append) || rest) (long_among deltas)
