-- The list at a place, where lists are added or one is put in place of another: what std says of elements, through the map.
use Rattle.std.proofs.Common.{◌≡◌, ◌≢◌, ℕ, ◌<◌, ◌≤◌, List, [], ◌∷◌, ◌++◌, length, map, get_or, set, sym, ◌∙◌, ap, arith}
use Rattle.std.specs.Global.{Vec}
use Rattle.std.proofs.lemmas.List.{map-append, map_push, map-set, length-map, get_or_append_left, get_or-map, get_or_past, get_or_push, get_or-set_same, get_or-set_other}
use Rattle.annotated_trie.specs.Views.{list_at}

-- the items of a list
abbrev items_of : Vec ℕ → List ℕ
items_of list = list.items

-- a list that was there
pub list_at-append : (lists more : List (Vec ℕ)) (place : ℕ) → place < length lists → list_at (lists ++ more) place ≡ list_at lists place
list_at-append lists more place low =
    let long = length-map lists items_of in
    ap (λ (texts : List (List ℕ)). get_or texts place []) (map-append items_of lists more) ∙ get_or_append_left (map items_of lists) (map items_of more) [] place (omega (arith, low, long))

-- the last list
pub list_at-push : (lists : List (Vec ℕ)) (list : Vec ℕ) (place : ℕ) → length lists ≡ place → list_at (lists ++ list ∷ []) place ≡ list.items
list_at-push lists list place last =
    ap (λ (texts : List (List ℕ)). get_or texts place []) (map_push items_of lists list) ∙ get_or_push (map items_of lists) list.items [] place (length-map lists items_of ∙ last)

-- a list that is read
pub list_at-read : (lists : List (Vec ℕ)) (place : ℕ) (list : Vec ℕ) → place < length lists → list ≡ get_or lists place list → list_at lists place ≡ list.items
list_at-read lists place list low is = get_or-map items_of lists place list [] low ∙ ap items_of (sym is)

-- past the last list
pub list_at-past : (lists : List (Vec ℕ)) (place : ℕ) → length lists ≤ place → list_at lists place ≡ []
list_at-past lists place past =
    let long = length-map lists items_of in
    get_or_past (map items_of lists) place [] (omega (arith, past, long))

-- a list that was put there
pub list_at-set_same : (lists : List (Vec ℕ)) (place : ℕ) (list : Vec ℕ) → place < length lists → list_at (set lists place list) place ≡ list.items
list_at-set_same lists place list low =
    let long = length-map lists items_of in
    ap (λ (texts : List (List ℕ)). get_or texts place []) (map-set items_of lists place list) ∙ get_or-set_same (map items_of lists) place list.items [] (omega (arith, low, long))

-- another list
pub list_at-set_other : (lists : List (Vec ℕ)) (place other : ℕ) (list : Vec ℕ) → other ≢ place → list_at (set lists place list) other ≡ list_at lists other
list_at-set_other lists place other list apart =
    ap (λ (texts : List (List ℕ)). get_or texts other []) (map-set items_of lists place list) ∙ get_or-set_other (map items_of lists) place other list.items [] apart
