-- Deltas and known lists whose letters and numbers stand in one list: they stay when more are added after those that are there, and
-- one more comes after them.
use Rattle.std.proofs.Common.{◌≡◌, ℕ, ◌+◌, List, [], ◌∷◌, ◌++◌, length, map, refl, ◌∙◌}
use Rattle.std.specs.Prelude.{All}
use Rattle.std.proofs.lemmas.List.{map_push}
use Rattle.std.proofs.lemmas.List.Elements.{All-head, All-tail}
use Rattle.form_tags.specs.TagTexts.{tag_text}
use Rattle.shared_trie.specs.declared.delta_numbers.DeltaParts.{DeltaParts}
use Rattle.shared_trie.specs.declared.known_lists.KnownList.{KnownList}
use Rattle.shared_trie.specs.KnownLists.{IsKnownIn, known_in}
use Rattle.shared_trie.specs.PackedDeltas.{IsDeltaIn, delta_in}
use Rattle.shared_trie.proofs.PackedRows.{part_added, part_kept}

-- functions that agree on all elements
same_map : {X Y : Type 0} (P : X → Type 0) (f g : X → Y) → ((x : X) → P x → f x ≡ g x) → (xs : List X) → All P xs → map f xs ≡ map g xs
same_map P f g same [] are = refl
same_map P f g same (x ∷ xs) are =
    let first = same x (All-head P x xs are) in
    let rest = same_map P f g same xs (All-tail P x xs are) in
    λ i. first i ∷ rest i

-- one delta more, whose letters were added
pub deltas_pushed : (letters new_letters append : List ℕ) (deltas new_deltas : List DeltaParts) (parts : DeltaParts) → All (IsDeltaIn letters) deltas
    → new_letters ≡ letters ++ append → new_deltas ≡ deltas ++ parts ∷ [] → parts.first ≡ length letters → parts.end ≡ parts.first + length append
    → map (delta_in new_letters) new_deltas ≡ map (delta_in letters) deltas ++ record { cut = parts.cut; append = append; tag = tag_text parts.tag } ∷ []
deltas_pushed letters new_letters append deltas new_deltas parts are longer more first end =
    let before = same_map (IsDeltaIn letters) (delta_in (letters ++ append)) (delta_in letters)
    (λ d is i. record { cut = d.cut; append = part_kept letters append d.first d.end is.order is.within i; tag = tag_text d.tag }) deltas are in
    let last = part_added letters append parts.first parts.end first end in
    (λ i. map (delta_in (longer i)) (more i)) ∙ map_push (delta_in (letters ++ append)) deltas parts
    ∙ (λ i. before i ++ record { cut = parts.cut; append = last i; tag = tag_text parts.tag } ∷ [])

-- one list more, whose numbers were added
pub lists_pushed : (numbers new_numbers added : List ℕ) (lists new_lists : List KnownList) (list : KnownList) → All (IsKnownIn numbers) lists
    → new_numbers ≡ numbers ++ added → new_lists ≡ lists ++ list ∷ [] → list.first ≡ length numbers → list.end ≡ list.first + length added
    → map (known_in new_numbers) new_lists ≡ map (known_in numbers) lists ++ (added, list.list) ∷ []
lists_pushed numbers new_numbers added lists new_lists list are longer more first end =
    let before = same_map (IsKnownIn numbers) (known_in (numbers ++ added)) (known_in numbers)
    (λ l is i. (part_kept numbers added l.first l.end is.order is.within i, l.list)) lists are in
    let last = part_added numbers added list.first list.end first end in
    (λ i. map (known_in (longer i)) (more i)) ∙ map_push (known_in (numbers ++ added)) lists list ∙ (λ i. before i ++ (last i, list.list) ∷ [])
