-- Tests as facts, each by cases of the test or by induction on a list.
use Rattle.std.proofs.Common.{◌≡◌, true, false, List, [], ◌∷◌, All, sym}
use Rattle.std.specs.List.{AllByRecursion, list_any}
use Rattle.std.proofs.lemmas.Bool.{or_parts, and_from}
use Rattle.std.proofs.lemmas.List.Elements.{All-from_recursion}
use Rattle.std.proofs.lemmas.Slice.Eq.{bytes_eq-Decides}
use Rattle.lexicon_definitions.specs.Rules.{Rule, IsSameTriple, is_twin}

-- ---- triples

pub test_from_triple : (left right : Rule) → IsSameTriple left right → is_twin right left ≡ true
test_from_triple left right (d, e, f) =
    and_from _ _ (and_from _ _ ((bytes_eq-Decides right.u left.u).1 (sym d)) ((bytes_eq-Decides right.v left.v).1 (sym e))) ((bytes_eq-Decides right.w left.w).1 (sym f))

-- the rules have different triples
abbrev pub IsOther : Rule → Rule → Type 0
IsOther left right = IsSameTriple left right → ⊥

others_by : (new : Rule) (rules : List Rule) → list_any (is_twin new) rules ≡ false → AllByRecursion (λ rule. IsOther rule new) rules
others_by new [] h = tt
others_by new (rule ∷ rules) h =
    let parts = or_parts (is_twin new rule) (list_any (is_twin new) rules) h in
    let other : IsOther rule new = λ same. let twin = test_from_triple rule new same in cc in
    (other, others_by new rules parts.1)

-- no rule has this one's triple
pub others_from_test : (new : Rule) (rules : List Rule) → list_any (is_twin new) rules ≡ false → All (λ rule. IsOther rule new) rules
others_from_test new rules h = All-from_recursion (λ rule. IsOther rule new) rules (others_by new rules h)
