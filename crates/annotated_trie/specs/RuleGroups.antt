-- Lists of rules in groups by the first letters of their `w`, one group after another.
use Rattle.std.specs.Prelude.{◌≡◌, ℕ, ◌+◌, ◌*◌, ◌<◌, ◌≤◌, List, [], ◌∷◌, ◌++◌, length, slice_index_or, slice_range, All}
use Rattle.std.specs.Global.{Vec}
use Rattle.annotated_trie.specs.Choices.{with_first}
use Rattle.annotated_trie.specs.Views.{list_at}

-- the parts of the list that lie one after another from the start, each up to its stop
unfoldable pub parts_from : List ℕ → ℕ → List ℕ → List (List ℕ)
parts_from rules start [] = []
parts_from rules start (stop ∷ stops) = slice_range rules start stop ∷ parts_from rules stop stops

-- the parts of the list between each bound and the next
unfoldable pub parts_of : List ℕ → List ℕ → List (List ℕ)
parts_of rules [] = []
parts_of rules (start ∷ stops) = parts_from rules start stops

-- the stops rise from the start, and the last one is the end
unfoldable pub AreStops : ℕ → ℕ → List ℕ → Type 0
AreStops end start [] = start ≡ end
AreStops end start (stop ∷ stops) = (start ≤ stop) × AreStops end stop stops

-- the bounds rise, and the last one, which there is, is the end
unfoldable pub AreBounds : ℕ → List ℕ → Type 0
AreBounds end [] = ⊥
AreBounds end (start ∷ stops) = AreStops end start stops

-- after the old lists so many were added, one for each code from 0 on: the rules whose w begins with the letter of this code
pub record AddsGroups (firsts list : List ℕ) (old new : List (List ℕ)) (count : ℕ) : Type 0 where
  pub more : List (List ℕ)
  pub is : new ≡ old ++ more
  pub size : length more ≡ count
  pub each : (code : ℕ) → code < count → slice_index_or more code [] ≡ with_first firsts code list

-- for each list there are 51 groups, one for each code
pub record AreGroupedBy (firsts : List ℕ) (lists : List (Vec ℕ)) (groups : List (List ℕ)) : Type 0 where
  pub count : length groups ≡ 51 * length lists
  pub each : (place code : ℕ) → place < length lists → code < 51
      → slice_index_or groups (51 * place + code) [] ≡ with_first firsts code (list_at lists place)

-- the number is that of one of so many rules, counted from 1
abbrev pub IsNumberUpTo : ℕ → ℕ → Type 0
IsNumberUpTo count number = (0 < number) × (number ≤ count)

-- each list has numbers of so many rules
abbrev pub HaveNumbersUpTo : ℕ → List (Vec ℕ) → Type 0
HaveNumbersUpTo count lists = All (λ (list : Vec ℕ). All (IsNumberUpTo count) list.items) lists
