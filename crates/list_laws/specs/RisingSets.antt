-- Finite sets as rising lists: elements are put in one at a time, each in its place (own).
use Rattle.std.specs.Prelude.{List, [], ◌∷◌}
use Rattle.std.specs.declared.cmp.Ordering.{Ordering}
use Rattle.std.specs.declared.cmp.Ordering.TheVariants.{Less, Equal, Greater}

-- how the first element of a rising list compares with a new one says where this goes: among the rest, nowhere, since it
-- is there, or before the first
abbrev pub put : {X : Type 0} → Ordering → X → X → List X → List X → List X
put Less x first rest rest_with_x = first ∷ rest_with_x
put Equal x first rest rest_with_x = first ∷ rest
put Greater x first rest rest_with_x = x ∷ first ∷ rest

-- a rising list with one element more, in its place; a list that has the element stays as it is
abbrev pub with_element : {X : Type 0} → (X → X → Ordering) → List X → X → List X
with_element compare [] x = x ∷ []
with_element compare (first ∷ rest) x = put (compare first x) x first rest (with_element compare rest x)

-- a rising list with each of these elements, which are put in one after another
abbrev pub with_elements : {X : Type 0} → (X → X → Ordering) → List X → List X → List X
with_elements compare set [] = set
with_elements compare set (x ∷ xs) = with_elements compare (with_element compare set x) xs
