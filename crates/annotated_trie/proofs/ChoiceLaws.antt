-- The rules whose u has a number among those of a node's suffixes are the node's choices. A rising list of numbers within bounds has
-- no more elements than numbers lie there, by induction from its first element.
use Rattle.std.proofs.Common.{◌≡◌, ℕ, zero, suc, ◌+◌, ◌^◌, ◌<◌, ◌≤◌, List, [], ◌∷◌, length, map, get_or, refl, sym, ap, subst, arith}
use Rattle.std.specs.Global.{Vec}
use Rattle.std.specs.Prelude.{All, Contains}
use Rattle.std.specs.declared.cmp.Ordering.TheVariants.{Less}
use Rattle.std.specs.Ordering.{nat_cmp}
use Rattle.std.specs.List.Sorted.{IsStrictlySortedBy}
use Rattle.std.proofs.lemmas.Bool.Decides.{nat_tests}
use Rattle.std.proofs.lemmas.List.{get_or-map, get_or_default}
use Rattle.std.proofs.lemmas.List.Elements.{All-contains, All-head, All-tail, All-from_recursion}
use Rattle.std.proofs.lemmas.Map.Keys.{sorted_head, sorted_tail}
use Rattle.list_laws.proofs.Sorted.{All-from_Contains}
use Rattle.lexicon_definitions.specs.Rules.{no_change}
use Rattle.lexicon_definitions.specs.Lexicons.{RuleSet, rule_of}
use Rattle.lexicon_definitions.specs.Tries.{Row, Trie, IsTrie}
use Rattle.annotated_trie.specs.Choices.{AreChoices, AreParts, HaveOneU, IsAnnotatedTrie, LeadsToEnd, choices_of, first_letter, parts_of}
use Rattle.annotated_trie.specs.RuleParts.{HaveParts}
use Rattle.annotated_trie.specs.Suffixes.{AreGroups, AreListsFrom, AreNumbers, AreSetsAt}
use Rattle.annotated_trie.specs.Views.{AreChosen, annotated_with, list_at, parts_in}

-- a number that compares as less is less
lt_from_Less : (x y : ℕ) → nat_cmp x y ≡ Less → x < y
lt_from_Less x y e = grind (arith, nat_tests)

-- a rising list of numbers between two bounds
pub rising_few : (list : List ℕ) (low most : ℕ) → IsStrictlySortedBy nat_cmp list → All (λ x. (low < x) × (x ≤ most)) list → low ≤ most → length list + low ≤ most
rising_few [] low most rising within order = omega (arith, order)
rising_few (x ∷ list) low most rising within order =
    let IsBetween : ℕ → ℕ → Type 0 = λ bottom y. (bottom < y) × (y ≤ most) in
    let first = All-head (IsBetween low) x list within in
    let rest = All-tail (IsBetween low) x list within in
    let above : All (λ (y : ℕ). nat_cmp x y ≡ Less) list = All-from_recursion (λ (y : ℕ). nat_cmp x y ≡ Less) list (sorted_head nat_cmp x list rising) in
    let higher : All (IsBetween x) list = All-from_Contains (IsBetween x) list (λ y among.
    (lt_from_Less x y (All-contains (λ (z : ℕ). nat_cmp x z ≡ Less) list y above among), (All-contains (IsBetween low) list y rest among).1)) in
    let tail = rising_few list x most (sorted_tail nat_cmp x list rising) higher first.1 in
    let bottom = first.0 in
    omega (arith, tail, bottom)

-- the choices of a node are not more than there are rules
pub choices_few : (rules : RuleSet) (rows : List Row) (node : ℕ) (choices : List ℕ) → AreChoices rules rows node choices → length choices ≤ length rules.rules
choices_few rules rows node choices are =
    let within : All (λ x. (0 < x) × (x ≤ length rules.rules)) choices = All-from_Contains (λ (x : ℕ). (0 < x) × (x ≤ length rules.rules)) choices (λ x among.
    let is = (are.members x).0 among in (is.0, is.1)) in
    let few = rising_few choices 0 (length rules.rules) are.rising within (omega arith) in
    omega (arith, few)

module _ (suffixes : List (ℕ × ℕ)) (rules : RuleSet) (rows : List Row) (numbers : List ℕ) (groups sets lists : List (Vec ℕ)) (places : List ℕ)
    (numbered : AreNumbers suffixes rules.rules numbers) (grouped : AreGroups numbers groups) (known : AreSetsAt suffixes rows (length rows) sets places)
    (from : AreListsFrom groups sets lists) where
  -- a rule is in the list just where its u leads on
  pub AreChoices-lists : (node : ℕ) → node < length rows → AreChoices rules rows node (list_at lists (get_or places node 0))
  AreChoices-lists node low =
      let place = get_or places node 0 in
      let is = from.each place (known.within node low) in
      let count = numbered.count in
      record {
        rising = is.rising;
        members = λ number. (
          λ (has : Contains (list_at lists place) number).
              let in_group = (is.members number).0 has in
              let (k, e, within, at) = (grouped.each in_group.number number).0 in_group.has in
              let stands = numbered.each k no_change within in
              let among : Contains (list_at sets place) (get_or numbers k 0) = subst (Contains (list_at sets place)) (sym at) in_group.among in
              let leads : LeadsToEnd rows node (get_or rules.rules k no_change).u = (known.each node low (get_or numbers k 0) (get_or rules.rules k no_change).u stands).0 among in
              let number_of : suc k ≡ number = omega (arith, e) in
              (omega (arith, e), omega (arith, e, within, count), subst (λ (n : ℕ). LeadsToEnd rows node (rule_of rules n).u) number_of leads),
          backward number,
        );
      }
    where
      backward : (number : ℕ) → (0 < number) × (number ≤ length rules.rules) × LeadsToEnd rows node (rule_of rules number).u → Contains (list_at lists (get_or places node 0)) number
      backward zero (some, within, leads) = absurd (omega (arith, some))
      backward (suc k) (some, within, leads) =
          let place = get_or places node 0 in
          let is = from.each place (known.within node low) in
          let count = numbered.count in
          let there : k < length numbers = omega (arith, within, count) in
          let stands = numbered.each k no_change there in
          let among = (known.each node low (get_or numbers k 0) (get_or rules.rules k no_change).u stands).1 leads in
          (is.members (suc k)).1 (record {
            number = get_or numbers k 0;
            among = among;
            has = (grouped.each (get_or numbers k 0) (suc k)).1 (k, omega arith, there, refl);
          })

  -- the lists are those of the nodes
  pub AreChosen-lists : AreChosen rules rows lists places
  AreChosen-lists =
      record {
        count = known.count;
        within = λ k d low.
            let count = known.count in
            let lists_count = from.count in
            let here = get_or_default places k d 0 low in
            let within = known.within k (omega (arith, low, count)) in
            omega (arith, here, within, lists_count);
        each = AreChoices-lists;
      }

-- no node has more choices than there are rules
pub chosen_few : (rules : RuleSet) (rows : List Row) (lists : List (Vec ℕ)) (places : List ℕ) (most : ℕ) → AreChosen rules rows lists places → length rules.rules < most
    → All (λ place. length (list_at lists place) < most) places
chosen_few rules rows lists places most are few k d low =
    let count = are.count in
    let here = get_or_default places k d 0 low in
    let node_low : k < length rows = omega (arith, low, count) in
    let short = choices_few rules rows k (list_at lists (get_or places k 0)) (are.each k node_low) in
    let same : length (list_at lists (get_or places k d)) ≡ length (list_at lists (get_or places k 0)) = ap (λ (place : ℕ). length (list_at lists place)) here in
    omega (arith, few, short, same)

-- the trie with the lists at the places has its choices
pub IsAnnotatedTrie-chosen : (rules : RuleSet) (trie : Trie) (lists : List (Vec ℕ)) (places firsts : List ℕ) (part_rules : List (List ℕ)) → AreChosen rules trie.rows lists places → IsTrie trie → length trie.rows < 2 ^ 32
    → firsts ≡ map first_letter rules.rules → HaveParts part_rules lists → HaveOneU rules part_rules → IsAnnotatedTrie rules (annotated_with trie lists places firsts part_rules)
IsAnnotatedTrie-chosen rules trie lists places firsts part_rules are is few are_firsts have one_u =
    let tries = annotated_with trie lists places firsts part_rules in
    let parts_at : ℕ → List ℕ = λ place. parts_in part_rules (list_at lists place) in
    let here : (node : ℕ) → node < length trie.rows → choices_of tries node ≡ list_at lists (get_or places node 0) =
    λ node low. let count = are.count in get_or-map (list_at lists) places node 0 [] (omega (arith, low, count)) in
    record {
      trie = is;
      few = few;
      each = λ node low. subst (AreChoices rules trie.rows node) (sym (here node low)) (are.each node low);
      firsts = are_firsts;
      parts = λ node low.
          let count = are.count in
          let there : node < length places = omega (arith, low, count) in
          let place = get_or places node 0 in
          let cut : parts_of tries node ≡ parts_at place = get_or-map parts_at places node 0 [] there in
          let within : place < length lists = are.within node 0 there in
          subst (AreParts tries (choices_of tries node)) (sym cut) (subst (λ (list : List ℕ). AreParts tries list (parts_at place)) (sym (here node low)) (have tries place refl within));
      one_u = one_u;
    }
