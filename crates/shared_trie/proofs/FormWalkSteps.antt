-- Steps of a walk over forms: what is to come depends on no more letters than there are levels above the deepest; a child that is entered
-- is taken off its level's children; and at a node with deltas the first suffix is its own.
use Rattle.std.proofs.Common.{◌≡◌, ◌≢◌, ℕ, ◌+◌, ◌-◌, ◌<◌, ◌≤◌, Bool, true, false, Option, Some, None, List, [], ◌∷◌, ◌++◌, length, map, take, drop, get_or, refl, sym, ◌∙◌, ap, subst, arith, true≢false}
use Rattle.std.specs.Prelude.{Contains, IsSome, reverse, option_to_list, slice_get}
use Rattle.std.specs.List.{AllByRecursion, flat_map}
use Rattle.std.proofs.lemmas.List.{append_assoc, append-nil, map-append, take-append-le, take_all, take_at, length_push, drop_all, drop_more, take_more, reverse-append}
use Rattle.std.proofs.lemmas.Option.{get_or_from_slice_get, slice_get-get_or, slice_get_within}
use Rattle.std.proofs.lemmas.List.Elements.{All-contains, recursion_from_All}
use Rattle.lexicon_definitions.specs.Deltas.{Delta}
use Rattle.lexicon_definitions.specs.Tries.{Row, AreRows, IsChild, child_in, row_of}
use Rattle.lexicon_definitions.proofs.TrieGrowth.{walk-child}
use Rattle.lexicon_definitions.proofs.TrieSteps.{child_among-Contains}
use Rattle.trie_text_definitions.specs.NodeValues.{Suffix, values_of, suffixes_over, suffixes_of, own_suffix, child_suffixes, after_letter}
use Rattle.trie_text_definitions.proofs.NodeValueLaws.{value_at, value_before}
use Rattle.shared_trie.specs.declared.form_walk_level.Level.{Level}
use Rattle.shared_trie.specs.FormWalks.{after_front, suffixes_left, forms_to_come, forms_left, forms_from, HasRoom, IsAtForm, IsOnWay, IsGoingDown}

-- ---- suffixes

-- nothing is put before a word
after_none : (suffixes : List Suffix) → map (after_front []) suffixes ≡ suffixes
after_none [] = refl
after_none (suffix ∷ suffixes) = ap (◌∷◌ suffix) (after_none suffixes)

-- a letter after a front
after_both : (front : List ℕ) (letter : ℕ) (suffixes : List Suffix)
    → map (after_front front) (map (after_letter letter) suffixes) ≡ map (after_front (front ++ letter ∷ [])) suffixes
after_both front letter [] = refl
after_both front letter (suffix ∷ suffixes) =
    λ i. record { word = sym (append_assoc front (letter ∷ []) suffix.word) i; deltas = suffix.deltas } ∷ after_both front letter suffixes i

module _ (rows : List Row) (are : AreRows rows) where
  same_children : (node : ℕ) → node < length rows → (children : List (ℕ × ℕ)) → AllByRecursion (IsChild rows node) children
      → flat_map (child_suffixes (values_of suffixes_over (take node rows))) children ≡ flat_map (child_suffixes (values_of suffixes_over rows)) children
  same_children node low [] h = refl
  same_children node low (child ∷ children) h =
      let same = value_before suffixes_over rows child.1 node [] h.0.before low in
      λ i. map (after_letter child.0) (same i) ++ same_children node low children h.1 i

  -- the suffixes of a node are its own and those of its children
  suffixes_are : (node : ℕ) → node < length rows
      → suffixes_of rows node ≡ own_suffix (row_of rows node).deltas ++ flat_map (child_suffixes (values_of suffixes_over rows)) (row_of rows node).children
  suffixes_are node low =
      value_at suffixes_over rows node [] low
      ∙ ap (λ rest. own_suffix (row_of rows node).deltas ++ rest) (same_children node low (row_of rows node).children (recursion_from_All (IsChild rows node) (row_of rows node).children (are.each node low).children))

-- ---- what is to come

-- a letter more changes nothing
longer : (rows : List Row) (letters : List ℕ) (letter : ℕ) (levels : List Level) → length levels ≤ length letters + 1
    → forms_to_come rows (letters ++ letter ∷ []) levels ≡ forms_to_come rows letters levels
unfolding forms_to_come
longer rows letters letter [] few = refl
longer rows letters letter (level ∷ levels) few =
    let same = take-append-le (length levels) letters (letter ∷ []) (omega (arith, few)) in
    let rest = longer rows letters letter levels (omega (arith, few)) in
    λ i. map (after_front (same i)) (suffixes_left rows level) ++ rest i

-- the children that are left at a level, where there is one
abbrev pub next_level : Level → Level
next_level level = record { node = level.node; walked = level.walked + 1 }

module _ (rows : List Row) (letters : List ℕ) (levels : List Level) (level : Level) (child : ℕ × ℕ) (as_many : length letters ≡ length levels)
    (first : drop level.walked (row_of rows level.node).children ≡ child ∷ drop (level.walked + 1) (row_of rows level.node).children) where
  -- with a child entered, its suffixes come first
  pub entered : forms_from rows (letters ++ child.0 ∷ []) (next_level level ∷ levels) child.1 ≡ forms_to_come rows letters (level ∷ levels)
  unfolding forms_to_come
  entered =
      let left = flat_map (child_suffixes (values_of suffixes_over rows)) (drop (level.walked + 1) (row_of rows level.node).children) in
      let whole : take (length levels) letters ≡ letters = take_all (length levels) letters (omega (arith, as_many)) in
      let longer_whole : take (length levels) (letters ++ child.0 ∷ []) ≡ letters = take_at letters (child.0 ∷ []) (length levels) as_many in
      let rest = longer rows letters child.0 levels (omega (arith, as_many)) in
      let parts : map (after_front (take (length levels) letters)) (suffixes_left rows level)
      ≡ map (after_front (letters ++ child.0 ∷ [])) (suffixes_of rows child.1) ++ map (after_front letters) left =
      (λ i. map (after_front (whole i)) (flat_map (child_suffixes (values_of suffixes_over rows)) (first i)))
      ∙ map-append (after_front letters) (child_suffixes (values_of suffixes_over rows) child) left
      ∙ ap (λ suffixes. suffixes ++ map (after_front letters) left) (after_both letters child.0 (suffixes_of rows child.1))
      in
      sym (
      ap (λ suffixes. suffixes ++ forms_to_come rows letters levels) parts
      ∙ append_assoc (map (after_front (letters ++ child.0 ∷ [])) (suffixes_of rows child.1)) (map (after_front letters) left) (forms_to_come rows letters levels)
      ∙ sym (λ i. map (after_front (letters ++ child.0 ∷ [])) (suffixes_of rows child.1) ++ (map (after_front (longer_whole i)) left ++ rest i)))

-- nothing is left at a level whose children were all walked
pub exhausted : (rows : List Row) (letters : List ℕ) (levels : List Level) (level : Level) → length (row_of rows level.node).children ≤ level.walked
    → forms_to_come rows letters (level ∷ levels) ≡ forms_to_come rows letters levels
unfolding forms_to_come
exhausted rows letters levels level all =
    ap (λ children. map (after_front (take (length levels) letters)) (flat_map (child_suffixes (values_of suffixes_over rows)) children) ++ forms_to_come rows letters levels)
    (drop_all level.walked (row_of rows level.node).children all)

-- the last letter is taken off, if there is one
pub shorter : (rows : List Row) (letters rest : List ℕ) (levels : List Level) (last : Option ℕ) → letters ≡ rest ++ option_to_list last → length letters ≡ length levels
    → forms_to_come rows rest levels ≡ forms_to_come rows letters levels
shorter rows letters rest levels None e as_many = ap (λ ls. forms_to_come rows ls levels) (sym (append-nil rest) ∙ sym e)
shorter rows letters rest levels (Some last) e as_many =
    let long = length_push rest last in
    let same = ap length e in
    sym (longer rows rest last levels (omega (arith, long, same, as_many))) ∙ ap (λ ls. forms_to_come rows ls levels) (sym e)

-- ---- states

-- a level that is taken off leads on
pub way_from_level : (rows : List Row) (letters : List ℕ) (levels : List Level) (level : Level) (letter_room level_room : ℕ)
    → IsAtForm rows letters (level ∷ levels) letter_room level_room → IsOnWay rows letters levels letter_room level_room level.node
way_from_level rows letters levels level letter_room level_room at =
    let many = at.as_many in
    record {
      most = at.most;
      are_levels = at.are_levels.1;
      as_many = omega (arith, many);
      is_level = at.are_levels.0;
      letters_fit = at.letters_fit;
      levels_fit = at.levels_fit;
    }

-- a level above is where a form ended that goes on no more
pub form_from_way : (rows : List Row) (letters rest : List ℕ) (levels : List Level) (letter_room level_room node : ℕ)
    → IsOnWay rows letters levels letter_room level_room node → length rest ≡ length letters - 1 → IsAtForm rows rest levels letter_room level_room
form_from_way rows letters rest levels letter_room level_room node way short =
    let many = way.as_many in
    record {
      most = way.most;
      are_levels = way.are_levels;
      as_many = omega (arith, many, short);
      letters_fit = way.letters_fit;
      levels_fit = way.levels_fit;
    }

-- the walk stands at the form of a node that is reached
pub form_at_node : (rows : List Row) (letters : List ℕ) (levels : List Level) (level : Level) (letter_room level_room more : ℕ)
    → IsOnWay rows letters levels letter_room level_room level.node → level_room ≤ more → IsAtForm rows letters (level ∷ levels) letter_room more
form_at_node rows letters levels level letter_room level_room more way grown =
    let many = way.as_many in
    let fits = way.levels_fit in
    record {
      most = way.most;
      are_levels = (way.is_level, way.are_levels);
      as_many = omega (arith, many);
      letters_fit = way.letters_fit;
      levels_fit = omega (arith, fits, grown);
    }

-- there is room for the level of a node
pub level_fits : (rows : List Row) (letters : List ℕ) (levels : List Level) (letter_room level_room node : ℕ)
    → IsOnWay rows letters levels letter_room level_room node → length levels < level_room
level_fits rows letters levels letter_room level_room node way =
    let few = way.is_level.room [] refl in
    let fits = way.levels_fit in
    omega (arith, few, fits)

module _ (rows : List Row) (are : AreRows rows) (letters : List ℕ) (levels : List Level) (letter_room level_room : ℕ) (level : Level) (child : ℕ × ℕ)
    (way : IsOnWay rows letters levels letter_room level_room level.node) (among : Contains (row_of rows level.node).children child) where
  leads : child_in rows level.node child.0 ≡ Some child.1
  leads = child_among-Contains child.0 child.1 (row_of rows level.node).children (are.each level.node way.is_level.there).letters among

  is_child : IsChild rows level.node child
  is_child = All-contains (IsChild rows level.node) (row_of rows level.node).children child (are.each level.node way.is_level.there).children among

  room_after : HasRoom rows way.most (length levels + 1) child.1
  room_after word walks =
      let long = way.is_level.room (child.0 ∷ word) (subst IsSome (sym (walk-child rows level.node child.0 child.1 word leads)) walks) in
      omega (arith, long)

  -- there is room for the letter of a child
  pub letter_fits : length letters < letter_room
  letter_fits =
      let few = room_after [] refl in
      let many = way.as_many in
      let fits = way.letters_fit in
      omega (arith, few, many, fits)

  pub child_before : child.1 < level.node
  child_before = is_child.before

  -- the walk goes on from the child
  pub goes_down : (more_letters more_levels : ℕ) → letter_room ≤ more_letters → level_room ≤ more_levels
      → IsGoingDown rows (letters ++ child.0 ∷ []) (next_level level ∷ levels) more_letters more_levels child.1
  goes_down more_letters more_levels grown grown_too =
      let before = child_before in
      let there = way.is_level.there in
      let many = way.as_many in
      let long = length_push letters child.0 in
      let fit = way.letters_fit in
      let fits = way.levels_fit in
      record {
        on_way = record {
          most = way.most;
          are_levels = (way.is_level, way.are_levels);
          as_many = omega (arith, many, long);
          is_level = record { there = omega (arith, before, there); room = λ word walks. (let few = room_after word walks in omega (arith, few)) };
          letters_fit = omega (arith, fit, grown);
          levels_fit = omega (arith, fits, grown_too);
        };
        not_empty = is_child.not_empty;
      }

-- ---- forms

-- the forms after the present one are those to come
pub after_present : (rows : List Row) (letters : List ℕ) (levels : List Level) → drop 1 (forms_left rows letters levels) ≡ forms_to_come rows letters levels
unfolding forms_left forms_to_come
after_present rows letters [] = refl
after_present rows letters (level ∷ levels) = refl

-- the present form
pub present : (rows : List Row) (letters : List ℕ) (levels : List Level) (level : Level)
    → forms_left rows letters (level ∷ levels) ≡ record { word = letters; deltas = (row_of rows level.node).deltas } ∷ forms_to_come rows letters (level ∷ levels)
unfolding forms_left
present rows letters levels level = refl

own_first : (letters : List ℕ) (deltas : List Delta) (rest : List Suffix) → deltas ≢ []
    → map (after_front letters) (own_suffix deltas ++ rest) ≡ record { word = letters; deltas = deltas } ∷ map (after_front letters) rest
own_first letters [] rest some = absurd (some refl)
own_first letters (delta ∷ deltas) rest some = λ i. record { word = append-nil letters i; deltas = delta ∷ deltas } ∷ map (after_front letters) rest

-- at a node with deltas the present form is the first of those that go on from it
pub reached : (rows : List Row) → AreRows rows → (letters : List ℕ) (levels : List Level) (node : ℕ) → node < length rows → length letters ≡ length levels
    → (row_of rows node).deltas ≢ [] → forms_left rows letters (record { node = node; walked = 0 } ∷ levels) ≡ forms_from rows letters levels node
unfolding forms_left forms_to_come
reached rows are letters levels node low as_many some =
    let rest = flat_map (child_suffixes (values_of suffixes_over rows)) (row_of rows node).children in
    let first : Suffix = record { word = letters; deltas = (row_of rows node).deltas } in
    let whole : take (length levels) letters ≡ letters = take_all (length levels) letters (omega (arith, as_many)) in
    (λ i. first ∷ (map (after_front (whole i)) rest ++ forms_to_come rows letters levels))
    ∙ ap (λ suffixes. suffixes ++ forms_to_come rows letters levels) (sym (own_first letters (row_of rows node).deltas rest some))
    ∙ ap (λ suffixes. map (after_front letters) suffixes ++ forms_to_come rows letters levels) (sym (suffixes_are rows are node low))

-- at a node without deltas all forms that go on from it go on through its children
pub not_reached : (rows : List Row) → AreRows rows → (letters : List ℕ) (levels : List Level) (node : ℕ) → node < length rows → length letters ≡ length levels
    → (row_of rows node).deltas ≡ [] → forms_to_come rows letters (record { node = node; walked = 0 } ∷ levels) ≡ forms_from rows letters levels node
unfolding forms_to_come
not_reached rows are letters levels node low as_many none =
    let rest = flat_map (child_suffixes (values_of suffixes_over rows)) (row_of rows node).children in
    let whole : take (length levels) letters ≡ letters = take_all (length levels) letters (omega (arith, as_many)) in
    (λ i. map (after_front (whole i)) rest ++ forms_to_come rows letters levels)
    ∙ ap (λ suffixes. map (after_front letters) suffixes ++ forms_to_come rows letters levels) (sym (suffixes_are rows are node low ∙ ap (λ deltas. own_suffix deltas ++ rest) none))

-- a node that does not accept has no deltas
pub no_deltas : (accepts : Bool) (deltas : List Delta) → accepts ≡ false → (deltas ≢ [] → accepts ≡ true) → deltas ≡ []
no_deltas accepts [] refused h = refl
no_deltas accepts (delta ∷ deltas) refused h = absurd (true≢false (sym (h (λ e. cc)) ∙ refused))

-- without levels nothing is left
pub none_left : (rows : List Row) (letters : List ℕ) → forms_left rows letters [] ≡ forms_to_come rows letters []
unfolding forms_left forms_to_come
none_left rows letters = refl

pub no_levels : (rows : List Row) (letters : List ℕ) → forms_left rows letters [] ≡ []
unfolding forms_left
no_levels rows letters = refl

-- from the first node all its forms are left
pub from_first : (rows : List Row) (node : ℕ) → forms_from rows [] [] node ≡ suffixes_of rows node
unfolding forms_to_come
from_first rows node = append-nil (map (after_front []) (suffixes_of rows node)) ∙ after_none (suffixes_of rows node)

-- a node without deltas and children has no forms
pub no_forms : (rows : List Row) → AreRows rows → (node : ℕ) → node < length rows → (row_of rows node).deltas ≡ [] → (row_of rows node).children ≡ []
    → forms_left rows [] [] ≡ suffixes_of rows node
unfolding forms_left
no_forms rows are node low no_deltas no_children =
    sym (suffixes_are rows are node low ∙ (λ i. own_suffix (no_deltas i) ++ flat_map (child_suffixes (values_of suffixes_over rows)) (no_children i)))

-- ---- at the beginning

pub none_way : (rows : List Row) (node height letter_room level_room : ℕ) → height ≤ letter_room → height < level_room
    → IsAtForm rows [] [] letter_room level_room
none_way rows node height letter_room level_room fit fits =
    record { most = height; are_levels = tt; as_many = omega arith; letters_fit = fit; levels_fit = fits }

-- ---- children as they stand in memory

-- a child that is read is there
pub child_there : (read children : List (ℕ × ℕ)) (place : ℕ) (child : ℕ × ℕ) → read ≡ children → place < length children → child ≡ get_or read place child
    → Contains children child
child_there read children place child same within is = (place, within, ap (λ (cs : List (ℕ × ℕ)). get_or cs place child) (sym same) ∙ sym is)

-- and the first of those that are left
pub child_first : (read children : List (ℕ × ℕ)) (place : ℕ) (child : ℕ × ℕ) → read ≡ children → place < length children → child ≡ get_or read place child
    → drop place children ≡ child ∷ drop (place + 1) children
child_first read children place child same within is =
    drop_more children place child within ∙ ap (λ first. first ∷ drop (place + 1) children) (ap (λ (cs : List (ℕ × ℕ)). get_or cs place child) (sym same) ∙ sym is)

-- ---- levels as they stand in memory, the deepest last

pub deepest_first : (levels : List Level) (level : Level) → reverse (levels ++ level ∷ []) ≡ level ∷ reverse levels
deepest_first levels level = reverse-append levels (level ∷ [])

-- the last level in memory, where there is one
pub last_there : (levels : List Level) (level : Level) → Some level ≡ slice_get levels (length levels - 1) → levels ≡ take (length levels - 1) levels ++ level ∷ []
last_there levels level e =
    let place = length levels - 1 in
    let within = slice_get_within levels place level (sym e) in
    sym (take_all (place + 1) levels (omega (arith, within))) ∙ take_more levels place level within
    ∙ ap (λ (last : Level). take place levels ++ last ∷ []) (get_or_from_slice_get levels place level level (sym e))

pub none_there : (levels : List Level) → None ≡ slice_get levels (length levels - 1) → levels ≡ []
none_there [] e = refl
none_there (level ∷ levels) e = let some = slice_get-get_or (level ∷ levels) (length (level ∷ levels) - 1) level (omega arith) in absurd cc
