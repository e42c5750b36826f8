-- Lists one after another stay when one is added; the groups of one list more stand after those of the lists before it.
use Rattle.std.proofs.Common.{◌≡◌, inl, inr, ℕ, zero, suc, ◌+◌, ◌-◌, ◌*◌, ◌<◌, ◌≤◌, ◌==◌, Bool, cond, List, [], ◌∷◌, ◌++◌, length, take, drop, get_or, refl, sym, ◌∙◌, ap, subst, arith}
use Rattle.std.specs.Global.{Vec}
use Rattle.std.specs.Prelude.{All, slice_range, slice_index}
use Rattle.std.proofs.lemmas.Bool.{cases_lt}
use Rattle.std.proofs.lemmas.List.{append-nil, append_assoc, drop-append-le, drop_at, get_or-append-add, get_or-map, get_or_default, get_or_append_left, get_or_push, length-append, length-drop, length_push, take-append-le, take_all}
use Rattle.std.proofs.lemmas.List.Elements.{filter_more}
use Rattle.list_laws.proofs.Sorted.{All-from_Contains}
use Rattle.lexicon_definitions.specs.Tries.{Trie}
use Rattle.annotated_trie.specs.Choices.{AnnotatedTrie, choices_of, choices_with, with_first}
use Rattle.annotated_trie.specs.RuleGroups.{AddsGroups, AreBounds, AreGroupedBy, AreStops, HaveNumbersUpTo, IsNumberUpTo, parts_from, parts_of}
use Rattle.annotated_trie.specs.Suffixes.{AreGroups, AreListsFrom}
use Rattle.annotated_trie.specs.Views.{ArePlaces, annotated_with, list_at}
use Rattle.annotated_trie.proofs.ListPlaces.{list_at-append, list_at-push, list_at-read}

-- the start does not lie past the end
start_below : (end start : ℕ) (stops : List ℕ) → AreStops end start stops → start ≤ end
unfolding AreStops
start_below end start [] are = omega (arith, are)
start_below end start (stop ∷ stops) are =
    let first = are.0 in
    let rest = start_below end stop stops are.1 in
    omega (arith, first, rest)

-- a part that was there
part_kept : (rules more : List ℕ) (start stop : ℕ) → start ≤ stop → stop ≤ length rules → slice_range (rules ++ more) start stop ≡ slice_range rules start stop
part_kept rules more start stop order within =
    let long = length-drop start rules in
    ap (take (stop - start)) (drop-append-le start rules more (omega (arith, order, within)))
    ∙ take-append-le (stop - start) (drop start rules) more (omega (arith, long, within, order))

-- one list more
module _ (rules list : List ℕ) (end : ℕ) (to : end ≡ length (rules ++ list)) where
  stops_pushed : (start : ℕ) (stops : List ℕ) → AreStops (length rules) start stops → AreStops end start (stops ++ end ∷ [])
  unfolding AreStops
  stops_pushed start [] are =
      let long = length-append rules list in
      (omega (arith, are, to, long), refl)
  stops_pushed start (stop ∷ stops) are = (are.0, stops_pushed stop stops are.1)

  parts_pushed : (start : ℕ) (stops : List ℕ) → AreStops (length rules) start stops
      → parts_from (rules ++ list) start (stops ++ end ∷ []) ≡ parts_from rules start stops ++ list ∷ []
  unfolding AreStops parts_from
  parts_pushed start [] are =
      let long = length-append rules list in
      let last : slice_range (rules ++ list) start end ≡ list =
      ap (take (end - start)) (drop_at rules list start (sym are)) ∙ take_all (end - start) list (omega (arith, are, to, long)) in
      λ i. last i ∷ []
  parts_pushed start (stop ∷ stops) are =
      let first = part_kept rules list start stop are.0 (start_below (length rules) stop stops are.1) in
      let rest = parts_pushed stop stops are.1 in
      λ i. first i ∷ rest i

  pub bounds_pushed : (bounds : List ℕ) → AreBounds (length rules) bounds → AreBounds end (bounds ++ end ∷ [])
  unfolding AreBounds
  bounds_pushed [] are = absurd are
  bounds_pushed (start ∷ stops) are = stops_pushed start stops are

  pub list_pushed : (bounds : List ℕ) → AreBounds (length rules) bounds → parts_of (rules ++ list) (bounds ++ end ∷ []) ≡ parts_of rules bounds ++ list ∷ []
  unfolding AreBounds parts_of parts_from
  list_pushed [] are = absurd are
  list_pushed (start ∷ stops) are = parts_pushed start stops are

-- how many parts there are
parts_count : (rules : List ℕ) (start : ℕ) (stops : List ℕ) → length (parts_from rules start stops) ≡ length stops
unfolding parts_from
parts_count rules start [] = refl
parts_count rules start (stop ∷ stops) = ap suc (parts_count rules stop stops)

-- a part that is read lies within the rules
part_read : (rules : List ℕ) (start : ℕ) (stops : List ℕ) (place from to : ℕ) → AreStops (length rules) start stops → place < length stops
    → from ≡ get_or (start ∷ stops) place from → to ≡ get_or stops place to
    → (from ≤ to) × (to ≤ length rules) × (slice_range rules from to ≡ get_or (parts_from rules start stops) place [])
unfolding AreStops parts_from
part_read rules start [] place from to are low first last = absurd (omega (arith, low))
part_read rules start (stop ∷ stops) zero from to are low first last =
    let order = are.0 in
    let within = start_below (length rules) stop stops are.1 in
    (omega (arith, order, first, last), omega (arith, within, last), λ i. slice_range rules (first i) (last i))
part_read rules start (stop ∷ stops) (suc place) from to are low first last = part_read rules stop stops place from to are.1 (omega (arith, low)) first last

-- where no list was added yet
pub no_lists : (rules bounds : List ℕ) → rules ≡ [] → bounds ≡ 0 ∷ [] → AreBounds (length rules) bounds × (parts_of rules bounds ≡ [])
unfolding AreBounds AreStops parts_of parts_from
no_lists rules bounds none only = (
  subst (λ (bs : List ℕ). AreBounds (length rules) bs) (sym only) (sym (ap length none)),
  ap (parts_of rules) only,
)

-- the bounds of a list that is read are there
pub bounds_there : (rules bounds : List ℕ) (lists : List (List ℕ)) (place : ℕ) → parts_of rules bounds ≡ lists → place < length lists → place + 1 < length bounds
unfolding parts_of
bounds_there rules [] lists place view low =
    let none = ap length view in
    absurd (omega (arith, low, none))
bounds_there rules (start ∷ stops) lists place view low =
    let count = parts_count rules start stops in
    let same = ap length view in
    omega (arith, low, count, same)

-- a list that is read
pub list_read : (rules bounds : List ℕ) (lists : List (List ℕ)) (place start stop : ℕ) → parts_of rules bounds ≡ lists → place < length lists
    → AreBounds (length rules) bounds → start ≡ get_or bounds place start → stop ≡ get_or bounds (place + 1) stop
    → (start ≤ stop) × (stop ≤ length rules) × (slice_range rules start stop ≡ get_or lists place [])
unfolding AreBounds parts_of
list_read rules [] lists place start stop view low are first last = absurd are
list_read rules (from ∷ stops) lists place start stop view low are first last =
    let there = bounds_there rules (from ∷ stops) lists place view low in
    let next : place + 1 ≡ suc place = omega arith in
    let read = part_read rules from stops place start stop are (omega (arith, there)) first
    (last ∙ ap (λ (n : ℕ). get_or (from ∷ stops) n stop) next) in
    (read.0, read.1, read.2 ∙ ap (λ (ls : List (List ℕ)). get_or ls place []) view)

-- no groups were added
pub AddsGroups-none : (firsts list : List ℕ) (old : List (List ℕ)) → AddsGroups firsts list old old 0
AddsGroups-none firsts list old = record { more = []; is = sym (append-nil old); size = refl; each = λ code low. absurd (omega (arith, low)) }

-- one group more
pub AddsGroups-push : (firsts list : List ℕ) (old between new : List (List ℕ)) (code : ℕ) (group : List ℕ) → AddsGroups firsts list old between code
    → new ≡ between ++ group ∷ [] → group ≡ with_first firsts code list → AddsGroups firsts list old new (code + 1)
AddsGroups-push firsts list old between new code group adds pushed is =
    let size = adds.size in
    let long = length_push adds.more group in
    record {
      more = adds.more ++ group ∷ [];
      is = pushed ∙ ap (λ (gs : List (List ℕ)). gs ++ group ∷ []) adds.is ∙ append_assoc old adds.more (group ∷ []);
      size = omega (arith, size, long);
      each = λ other low. elim (cases_lt other code) [
        | inl l ↦ get_or_append_left adds.more (group ∷ []) [] other (omega (arith, l, size)) ∙ adds.each other l
        | inr g ↦
            let here : code ≡ other = omega (arith, g, low) in
            get_or_push adds.more group [] other (size ∙ here) ∙ is ∙ ap (λ (c : ℕ). with_first firsts c list) here
      ];
    }

-- no lists have no groups
pub AreGroupedBy-none : (firsts : List ℕ) (groups : List (List ℕ)) → groups ≡ [] → AreGroupedBy firsts [] groups
AreGroupedBy-none firsts groups none = record { count = ap length none; each = λ place code low. absurd (omega (arith, low)) }

-- one list more
pub AreGroupedBy-push : (firsts : List ℕ) (lists : List (Vec ℕ)) (list : Vec ℕ) (old new : List (List ℕ)) → AreGroupedBy firsts lists old
    → AddsGroups firsts list.items old new 51 → AreGroupedBy firsts (lists ++ list ∷ []) new
AreGroupedBy-push firsts lists list old new are adds =
    let count = are.count in
    let size = adds.size in
    let all = length-append old adds.more in
    let same = ap length adds.is in
    let long = length_push lists list in
    record {
      count = omega (arith, count, size, all, same, long);
      each = λ place code low small. elim (cases_lt place (length lists)) [
        | inl l ↦
            ap (λ (gs : List (List ℕ)). get_or gs (51 * place + code) []) adds.is
            ∙ get_or_append_left old adds.more [] (51 * place + code) (omega (arith, l, small, count))
            ∙ are.each place code l small
            ∙ ap (with_first firsts code) (sym (list_at-append lists (list ∷ []) place l))
        | inr g ↦
            let last : length lists ≡ place = omega (arith, g, low, long) in
            let at : 51 * place + code ≡ length old + code = omega (arith, last, count) in
            ap (λ (gs : List (List ℕ)). get_or gs (51 * place + code) []) adds.is
            ∙ ap (λ (n : ℕ). get_or (old ++ adds.more) n []) at
            ∙ get_or-append-add old adds.more code []
            ∙ adds.each code small
            ∙ ap (with_first firsts code) (sym (list_at-push lists list place last))
      ];
    }

-- one rule more, which begins with the letter
pub with_first-more : (firsts list : List ℕ) (code k number first : ℕ) → k < length list → number ≡ get_or list k number → first ≡ get_or firsts (number - 1) first
    → number - 1 < length firsts → with_first firsts code (take (k + 1) list) ≡ with_first firsts code (take k list) ++ cond (first == code) (number ∷ []) []
with_first-more firsts list code k number first low read at within =
    let Begins : ℕ → Bool = λ n. slice_index firsts (n - 1) == code in
    let here : slice_index firsts (number - 1) ≡ first = get_or_default firsts (number - 1) 0 first within ∙ sym at in
    filter_more Begins list k number low
    ∙ ap (λ (n : ℕ). with_first firsts code (take k list) ++ cond (Begins n) (n ∷ []) []) (sym read)
    ∙ ap (λ (f : ℕ). with_first firsts code (take k list) ++ cond (f == code) (number ∷ []) []) here

-- the numbers of lists that were put together of places
pub lists_numbered : (numbers : List ℕ) (groups sets lists : List (Vec ℕ)) (count : ℕ) → length numbers ≡ count → AreGroups numbers groups → AreListsFrom groups sets lists
    → HaveNumbersUpTo count lists
lists_numbered numbers groups sets lists count size grouped from k none low =
    let lists_count = from.count in
    let at = list_at-read lists k (get_or lists k none) low (get_or_default lists k none (get_or lists k none) low) in
    let is = from.each k (omega (arith, low, lists_count)) in
    subst (All (IsNumberUpTo count)) at
    (All-from_Contains (IsNumberUpTo count) (list_at lists k) (λ number has.
    let there = (is.members number).0 has in
    let (place, e, within, _) = (grouped.each there.number number).0 there.has in
    (omega (arith, e), omega (arith, e, within, size))))

-- the group of a node's list that has the letter
pub choices_with-read : (trie : Trie) (lists : List (Vec ℕ)) (places firsts : List ℕ) (groups part_rules : List (List ℕ)) (most : ℕ) (tries : AnnotatedTrie) (n node place code letter : ℕ)
    → annotated_with trie lists places firsts part_rules ≡ tries → node < length tries.trie.rows → ArePlaces lists (length trie.rows) places most → AreGroupedBy firsts lists groups
    → place ≡ get_or places n place → n ≡ node → code ≡ letter → code < 51
    → (51 * place + code < length groups) × (get_or groups (51 * place + code) [] ≡ choices_with tries node letter)
choices_with-read trie lists places firsts groups part_rules most tries n node place code letter view low are grouped read number same small =
    let nodes : length trie.rows ≡ length tries.trie.rows = ap (λ (t : AnnotatedTrie). length t.trie.rows) view in
    let count = are.count in
    let there : node < length places = omega (arith, low, nodes, count) in
    let here : place ≡ get_or places node place = read ∙ ap (λ (k : ℕ). get_or places k place) number in
    let within : place < length lists = subst (λ (p : ℕ). p < length lists) (sym here) (are.within node place there) in
    let groups_count = grouped.count in
    let chosen : list_at lists place ≡ choices_of tries node =
    ap (list_at lists) here ∙ sym (get_or-map (list_at lists) places node place [] there) ∙ ap (λ (t : AnnotatedTrie). choices_of t node) view in (
      omega (arith, within, small, groups_count),
      grouped.each place code within small ∙ (λ i. with_first (view i).firsts (same i) (chosen i)),
    )
