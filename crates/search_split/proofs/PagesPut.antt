-- The answers of the next front are put after those of a page, as many as there is room for.
use Rattle.std.proofs.Common.{◌≡◌, ◌⊎◌, inl, inr, ℕ, zero, suc, ◌+◌, ◌-◌, ◌<◌, ◌≤◌, min, true, List, [], ◌∷◌, ◌++◌, length, map, take, drop, get_or, string_bytes, refl, sym, ap, ◌∙◌, subst, arith, add-one}
use Rattle.std.specs.List.Sorted.{IsStrictlySortedBy}
use Rattle.std.proofs.Math.Seq.{take-suc}
use Rattle.std.proofs.lemmas.List.{map-append, append_assoc, length-map, length-append, length-take, take-map}
use Rattle.text_definitions.specs.Lines.{Line}
use Rattle.segmentation_definitions.specs.Items.{Choice}
use Rattle.segmentation_definitions.specs.Listings.{Key, compare_key_lists}
use Rattle.list_laws.specs.Firsts.{ComesAfter}
use Rattle.list_laws.proofs.Sorted.{Contains-first, following_front}
use Rattle.front_definitions.proofs.PutFronts.{put_front, some_of_front}
use Rattle.front_definitions.proofs.SameFronts.{key_lists_total}
use Rattle.annotated_trie.specs.Searched.{SearchedLexicon}
use Rattle.search_split.specs.declared.start.Start.{Start}
use Rattle.search_split.specs.declared.listing.Listed.{Listed}
use Rattle.search_split.specs.Starts.{front_from, IsStart}
use Rattle.search_split.specs.Listing.{IsListed, IsPageOfFronts, HasPut}
use Rattle.search_split.specs.PrintedPages.{text_after_number}

module _ (limit : ℕ) (listed old new : Listed) (put : HasPut (limit - length old.texts.items) listed old new) where
  -- how many texts a page then has
  put_count : length new.texts.items ≡ length old.texts.items + put.fits
  put_count =
      let fit = put.fit in
      let same = ap length put.texts in
      let both = length-append old.texts.items (take put.fits listed.texts.items) in
      let taken = length-take put.fits listed.texts.items in
      omega (arith, fit, same, both, taken)

  pub room_left : length old.texts.items ≤ limit → length new.texts.items ≤ limit
  room_left room = let fit = put.fit in omega (arith, put_count, fit, room)

  pub put_grows : length old.texts.items ≤ limit → 0 < length listed.texts.items ⊎ (limit - length old.texts.items ≡ 0)
      → (length new.texts.items ≡ limit) ⊎ (length old.texts.items + 1 ≤ length new.texts.items)
  put_grows room (inr none) = let fit = put.fit in inl (omega (arith, put_count, fit, room, none))
  put_grows room (inl some) = by_room (length old.texts.items) (length listed.texts.items) put.fits put.fit put_count room some
    where
      by_room : (before many fits : ℕ) → fits ≡ min (limit - before) many → length new.texts.items ≡ before + fits → before ≤ limit
          → 0 < many → (length new.texts.items ≡ limit) ⊎ (before + 1 ≤ length new.texts.items)
      by_room before many zero fit count room some = inl (omega (arith, fit, count, room, some))
      by_room before many (suc more) fit count room some = inr (omega (arith, fit, count, room, some))

module _ (searched : SearchedLexicon) (line : Line) (choices : List Choice) (depth limit : ℕ) (start : Start) (listed : Listed)
    (are : IsListed searched line choices depth (front_from depth start) listed) where
  listed_count : length are.answers ≡ length listed.texts.items
  listed_count =
      sym (length-map are.answers (text_after_number searched.lexicon.rules)) ∙ sym (ap length are.texts) ∙ length-map listed.texts.items string_bytes

  -- where there is room, an answer was listed
  pub some_listed : IsStart searched line choices depth start → (room : ℕ) → (listed.more ≡ true → room ≤ length listed.texts.items)
      → 0 < length listed.texts.items ⊎ (room ≡ 0)
  some_listed is zero enough = inr refl
  some_listed is (suc room) enough =
      let some = some_of_front searched.lexicon line choices depth (front_from depth start) (suc room) are.answers listed.more (is.answer, is.first.has)
      (omega arith) are.first (λ told. let many = enough told in omega (arith, many, listed_count)) in
      inl (omega (arith, some, listed_count))

  pub put_listed : (fronts : List (List Key)) (old new : Listed) → HasPut (limit - length old.texts.items) listed old new
      → (listed.more ≡ true → limit - length old.texts.items ≤ length listed.texts.items)
      → ComesAfter compare_key_lists fronts (front_from depth start)
      → IsPageOfFronts searched line choices depth limit fronts old → IsPageOfFronts searched line choices depth limit (fronts ++ front_from depth start ∷ []) new
  put_listed fronts old new put enough after page =
      let rules = searched.lexicon.rules in
      let count : length old.texts.items ≡ length page.answers =
      sym (length-map old.texts.items string_bytes) ∙ ap length page.texts ∙ length-map page.answers (text_after_number rules) in
      let fit = put.fit in
      record {
        answers = page.answers ++ take put.fits are.answers;
        next = put_front searched.lexicon line choices depth fronts (front_from depth start) after limit page.answers are.answers old.more listed.more
            page.next are.first (λ told. let many = enough told in omega (arith, many, count, listed_count)) put.fits
            (omega (arith, fit, count, listed_count)) new.more
            (λ why. put.told (subst (λ n. (old.more ≡ true) ⊎ ((listed.more ≡ true) ⊎ (put.fits < n))) listed_count why))
            (λ told. subst (λ n. (old.more ≡ true) ⊎ ((listed.more ≡ true) ⊎ (put.fits < n))) (sym listed_count) (put.says told));
        texts = ap (map string_bytes) put.texts
            ∙ map-append string_bytes old.texts.items (take put.fits listed.texts.items)
            ∙ ap (λ texts. texts ++ map string_bytes (take put.fits listed.texts.items)) page.texts
            ∙ ap (λ texts. map (text_after_number rules) page.answers ++ texts)
            (sym (take-map string_bytes put.fits listed.texts.items) ∙ ap (take put.fits) are.texts ∙ take-map (text_after_number rules) put.fits are.answers)
            ∙ sym (map-append (text_after_number rules) page.answers (take put.fits are.answers));
      }

-- ---- one part after another

cut_at : (starts : List Start) (place : ℕ) (start : Start) → place < length starts → start ≡ get_or starts place start
    → starts ≡ take place starts ++ start ∷ drop (suc place) starts
cut_at [] place start low same = absurd (omega (arith, low))
cut_at (first ∷ starts) zero start low same = ap (λ (s : Start). s ∷ starts) (sym same)
cut_at (first ∷ starts) (suc place) start low same = ap (λ list. first ∷ list) (cut_at starts place start (omega (arith, low)) same)

module _ (depth : ℕ) (fronts : List (List Key)) (starts : List Start) (place : ℕ) (start : Start) (low : place < length starts)
    (same : start ≡ get_or starts place start) where
  abbrev before : List (List Key)
  before = fronts ++ map (front_from depth) (take place starts)

  whole : fronts ++ map (front_from depth) starts ≡ before ++ front_from depth start ∷ map (front_from depth) (drop (suc place) starts)
  whole =
      ap (λ list. fronts ++ map (front_from depth) list) (cut_at starts place start low same)
      ∙ ap (λ list. fronts ++ list) (map-append (front_from depth) (take place starts) (start ∷ drop (suc place) starts))
      ∙ sym (append_assoc fronts (map (front_from depth) (take place starts)) (front_from depth start ∷ map (front_from depth) (drop (suc place) starts)))

  -- the front of the next part comes after those before it
  pub next_after : IsStrictlySortedBy compare_key_lists (fronts ++ map (front_from depth) starts) → ComesAfter compare_key_lists before (front_from depth start)
  next_after rising =
      let later = map (front_from depth) (drop (suc place) starts) in
      following_front key_lists_total before (front_from depth start ∷ later) (front_from depth start)
      (subst (IsStrictlySortedBy compare_key_lists) whole rising) (Contains-first (front_from depth start) later)

  pub one_front_on : before ++ front_from depth start ∷ [] ≡ fronts ++ map (front_from depth) (take (place + 1) starts)
  one_front_on =
      append_assoc fronts (map (front_from depth) (take place starts)) (front_from depth start ∷ [])
      ∙ ap (λ list. fronts ++ list) (sym (map-append (front_from depth) (take place starts) (start ∷ [])))
      ∙ ap (λ (last : Start). fronts ++ map (front_from depth) (take place starts ++ last ∷ [])) same
      ∙ ap (λ list. fronts ++ map (front_from depth) list) (sym (take-suc starts place start low) ∙ ap (λ (n : ℕ). take n starts) (sym (add-one place)))

-- the page is full, or has an answer at least for each part so far
pub grows_on : (limit first place old new : ℕ) → new ≤ limit → (old ≡ limit) ⊎ (first + place ≤ old) → (new ≡ limit) ⊎ (old + 1 ≤ new)
    → (new ≡ limit) ⊎ (first + (place + 1) ≤ new)
grows_on limit first place old new room so_far (inl full) = inl full
grows_on limit first place old new room (inl full) (inr longer) = absurd (omega (arith, room, full, longer))
grows_on limit first place old new room (inr so_far) (inr longer) = inr (omega (arith, so_far, longer))
