-- A listing is strictly sorted, so its elements determine it. So do those of a page: an answer of one page that another has
-- not comes after the other, which is full, so both have the same first answer, and by induction the same later ones. What
-- is above a cursor and after a page is what is above the page's last answer; so a page and the listing above its last
-- answer are together the listing above its cursor, and pages that follow one another are together a listing.
use Rattle.std.proofs.Common.{◌≡◌, ◌≢◌, ℕ, ◌≤◌, ◌⊎◌, ◌↔◌, inl, inr, Bool, true, false, IsTrue, List, [], ◌∷◌, ◌++◌, length, take, drop, refl, sym, subst, arith}
use Rattle.std.specs.List.{Contains, flat_map}
use Rattle.std.specs.List.Sorted.{IsStrictlySortedBy}
use Rattle.std.specs.declared.cmp.Ordering.TheVariants.{Less}
use Rattle.std.proofs.lemmas.List.{append-nil, take-append-drop, length-take, length-drop}
use Rattle.std.proofs.lemmas.List.Elements.{All-nil, All-cons, All-head, All-tail, Contains-append_left, Contains-append_right, Contains-append_cases}
use Rattle.std.proofs.lemmas.Map.Keys.{sorted_tail}
use Rattle.text_definitions.specs.Lines.{Line}
use Rattle.lexicon_definitions.specs.Lexicons.{Lexicon, RuleSet}
use Rattle.segmentation_definitions.specs.Derivations.{Step}
use Rattle.segmentation_definitions.specs.Items.{Choice}
use Rattle.segmentation_definitions.specs.Answers.{IsAnswer}
use Rattle.segmentation_definitions.specs.Listings.{compare_answers, Cursor, BeforeFirst, AtAnswer, PastLast, IsAbove, IsListingAbove, ComesAfter, IsPage, Page, cursor_after, ArePages}
use Rattle.segmentation_definitions.proofs.KeyLists.{compare_answers_total}
use Rattle.list_laws.proofs.Sorted.{Contains-first, Contains-from_take, Contains-from_drop, Contains-parts, Less-from_later, not_after, following_front, sorted_front, sorted_append, same_fronts, same_sorted}
use Rattle.list_laws.proofs.Elements.{some_element, some_by_element}

-- what is above an answer that is above a cursor is above the cursor
pub IsAbove-trans : (rules : RuleSet) (cursor : Cursor) (x y : List Step) → IsAbove rules cursor x → compare_answers rules x y ≡ Less
    → IsAbove rules cursor y
IsAbove-trans rules BeforeFirst x y a l = tt
IsAbove-trans rules (AtAnswer steps) x y a l = (compare_answers_total rules).trans steps x y a l
IsAbove-trans rules PastLast x y a l = a

-- two tests of one fact answer the same
same_answers : {A : Type 0} (left right : Bool) → (IsTrue left ↔ A) → (IsTrue right ↔ A) → left ≡ right
same_answers true true p q = refl
same_answers true false p q = sym (q.1 (p.0 refl))
same_answers false true p q = p.1 (q.0 refl)
same_answers false false p q = refl

-- the test that tells a list with elements from the empty one
is_more : {A : Type 0} (xs : List A) → (more : Bool) × (IsTrue more ↔ (xs ≢ []))
is_more [] = (false, ((λ e. cc), λ n. absurd (n refl)))
is_more (x ∷ xs) = (true, ((λ e n. cc), λ n. refl))

-- a front after which there is an element is full
full_front : {A : Type 0} (count : ℕ) (xs : List A) (x : A) → Contains (drop count xs) x → length (take count xs) ≡ count
full_front count xs x (k, below, at) = omega (arith, length-take count xs, length-drop count xs)

-- what is above a cursor and after a page at it is above the page's last answer
pub above_last : (rules : RuleSet) (page : List (List Step)) (cursor : Cursor) (steps : List Step) → IsAbove rules cursor steps
    → ComesAfter rules page steps → IsAbove rules (cursor_after cursor page) steps
above_last rules [] cursor steps a b = a
above_last rules (x ∷ page) cursor steps a b =
    above_last rules page (AtAnswer x) steps (All-head (λ before. compare_answers rules before steps ≡ Less) x page b)
    (All-tail (λ before. compare_answers rules before steps ≡ Less) x page b)

-- what is above the last answer of a page is above the page's cursor and after the page
pub from_above_last : (rules : RuleSet) (page : List (List Step)) (cursor : Cursor) (steps : List Step)
    → ((before : List Step) → Contains page before → IsAbove rules cursor before) → IsStrictlySortedBy (compare_answers rules) page
    → IsAbove rules (cursor_after cursor page) steps → IsAbove rules cursor steps × ComesAfter rules page steps
from_above_last rules [] cursor steps p s a = (a, All-nil (λ before. compare_answers rules before steps ≡ Less))
from_above_last rules (x ∷ page) cursor steps p s a =
    let o = compare_answers_total rules in
    let later = λ (before : List Step) (m : Contains page before). Less-from_later o x page before s m in
    let (l, b) = from_above_last rules page (AtAnswer x) steps later (sorted_tail (compare_answers rules) x page s) a in (
      IsAbove-trans rules cursor x steps (p x (Contains-first x page)) l,
      All-cons (λ before. compare_answers rules before steps ≡ Less) x page l b,
    )

module _ (lexicon : Lexicon) (line : Line) (choices : List Choice) where
  -- two listings above one cursor are the same
  pub same_listing : (cursor : Cursor) (left right : List (List Step)) → IsListingAbove lexicon line choices cursor left
      → IsListingAbove lexicon line choices cursor right → left ≡ right
  same_listing cursor left right p q =
      same_sorted (compare_answers_total lexicon.rules) left right p.rising q.rising
      (λ steps m. q.complete steps (p.only_answers steps m) (p.only_above steps m))
      (λ steps m. p.complete steps (q.only_answers steps m) (q.only_above steps m))

  -- an answer of a page is on another page of that size at that cursor, or comes after it
  on_page_or_after : (cursor : Cursor) (count : ℕ) (left right : List (List Step)) (left_more right_more : Bool)
      → IsPage lexicon line choices cursor count left left_more → IsPage lexicon line choices cursor count right right_more
      → (steps : List Step) → Contains left steps
      → Contains right steps ⊎ ((length left ≤ length right) × ComesAfter lexicon.rules right steps)
  on_page_or_after cursor count left right left_more right_more p q steps m =
      let few = p.at_most in
      elim (q.first steps (p.only_answers steps m) (p.only_above steps m)) [ inl n ↦ inl n | inr (full, b) ↦ inr (omega arith, b) ]

  -- two pages of one size at one cursor are the same
  pub same_page : (cursor : Cursor) (count : ℕ) (left right : List (List Step)) (left_more right_more : Bool)
      → IsPage lexicon line choices cursor count left left_more → IsPage lexicon line choices cursor count right right_more
      → (left ≡ right) × (left_more ≡ right_more)
  same_page cursor count left right left_more right_more p q =
      let f = on_page_or_after cursor count left right left_more right_more p q in
      let g = on_page_or_after cursor count right left right_more left_more q p in
      let e = same_fronts (compare_answers_total lexicon.rules) left right p.rising q.rising f g in (
        e,
        same_answers left_more right_more p.left
            (subst (λ page. IsTrue right_more ↔ ((steps : List Step) × IsAnswer lexicon line choices steps
            × IsAbove lexicon.rules cursor steps × ComesAfter lexicon.rules page steps)) (sym e) q.left),
      )

  -- a page after which no answer is left is the whole listing above its cursor
  listing_from_last_page : (cursor : Cursor) (count : ℕ) (page : List (List Step)) (more : Bool)
      → IsPage lexicon line choices cursor count page more → more ≡ false → IsListingAbove lexicon line choices cursor page
  listing_from_last_page cursor count page more p e =
      record {
        rising = p.rising;
        only_answers = p.only_answers;
        only_above = p.only_above;
        complete = λ steps a l. elim (p.first steps a l) [
          | inl m ↦ m
          | inr (full, b) ↦ let t : more ≡ true = p.left.1 (steps, a, l, b) in cc
        ];
      }

  -- a page and the listing above its last answer are together the listing above its cursor
  listing_from_page : (cursor : Cursor) (count : ℕ) (page rest : List (List Step)) (more : Bool)
      → IsPage lexicon line choices cursor count page more → IsListingAbove lexicon line choices (cursor_after cursor page) rest
      → IsListingAbove lexicon line choices cursor (page ++ rest)
  listing_from_page cursor count page rest more p r =
      let following = λ (steps : List Step) (m : Contains rest steps).
      from_above_last lexicon.rules page cursor steps p.only_above p.rising (r.only_above steps m) in
      record {
        rising = sorted_append (compare_answers_total lexicon.rules) page rest p.rising r.rising (λ steps m. (following steps m).1);
        only_answers = λ steps m. elim (Contains-append_cases page rest steps m) [
          | inl n ↦ p.only_answers steps n
          | inr n ↦ r.only_answers steps n
        ];
        only_above = λ steps m. elim (Contains-append_cases page rest steps m) [
          | inl n ↦ p.only_above steps n
          | inr n ↦ (following steps n).0
        ];
        complete = λ steps a l. elim (p.first steps a l) [
          | inl n ↦ Contains-append_left page rest steps n
          | inr (full, b) ↦ Contains-append_right page rest steps (r.complete steps a (above_last lexicon.rules page cursor steps l b))
        ];
      }

  -- pages that follow one another from a cursor, up to one after which no answer is left, are together the listing above it
  pub listing_from_pages : (pages : List Page) (cursor : Cursor) (last : Page)
      → ArePages lexicon line choices cursor (pages ++ last ∷ []) → last.more ≡ false
      → IsListingAbove lexicon line choices cursor (flat_map (λ page. page.answers) (pages ++ last ∷ []))
  listing_from_pages [] cursor last p e =
      subst (IsListingAbove lexicon line choices cursor) (sym (append-nil last.answers))
      (listing_from_last_page cursor last.count last.answers last.more p.0 e)
  listing_from_pages (page ∷ pages) cursor last p e =
      listing_from_page cursor page.count page.answers _ page.more p.0
      (listing_from_pages pages (cursor_after cursor page.answers) last p.1 e)

  -- the front of a listing is a page, and more tells whether the listing has anything after it
  page_from_front : (cursor : Cursor) (count : ℕ) (answers : List (List Step)) (more : Bool)
      → IsListingAbove lexicon line choices cursor answers → (IsTrue more ↔ (drop count answers ≢ []))
      → IsPage lexicon line choices cursor count (take count answers) more
  page_from_front cursor count answers more p e =
      let o = compare_answers_total lexicon.rules in
      let front = take count answers in
      let rest = drop count answers in
      let parts = sym (take-append-drop count answers) in
      let rising = subst (IsStrictlySortedBy (compare_answers lexicon.rules)) parts p.rising in
      record {
        rising = sorted_front o front rest rising;
        only_answers = λ steps m. p.only_answers steps (Contains-from_take count answers steps m);
        only_above = λ steps m. p.only_above steps (Contains-from_take count answers steps m);
        at_most = omega (arith, length-take count answers);
        first = λ steps a l. elim (Contains-parts count answers steps (p.complete steps a l)) [
          | inl m ↦ inl m
          | inr m ↦ inr (full_front count answers steps m, following_front o front rest steps rising m)
        ];
        left = (
          λ t. let (steps, m) : (steps : List Step) × Contains rest steps = some_element rest (e.0 t) in (
            steps,
            p.only_answers steps (Contains-from_drop count answers steps m),
            p.only_above steps (Contains-from_drop count answers steps m),
            following_front o front rest steps rising m,
          ),
          λ (steps, a, l, b). elim (Contains-parts count answers steps (p.complete steps a l)) [
            | inl m ↦ absurd (not_after o front steps m b)
            | inr m ↦ e.1 (some_by_element rest steps m)
          ],
        );
      }

  -- where the listing above a cursor is known, the page there is its front, and more tells whether any of it is left
  pub same_as_front : (cursor : Cursor) (answers : List (List Step)) (count : ℕ) (page : List (List Step)) (more : Bool)
      → IsListingAbove lexicon line choices cursor answers
      → IsPage lexicon line choices cursor count page more ↔ ((page ≡ take count answers) × (IsTrue more ↔ (drop count answers ≢ [])))
  same_as_front cursor answers count page more p =
      let (left, tells) : (left : Bool) × (IsTrue left ↔ (drop count answers ≢ [])) = is_more (drop count answers) in (
        λ q. let (first, same) : (page ≡ take count answers) × (more ≡ left) =
            same_page cursor count page (take count answers) more left q (page_from_front cursor count answers left p tells) in (
              first,
              subst (λ test. IsTrue test ↔ (drop count answers ≢ [])) (sym same) tells,
            ),
        λ (first, told). subst (λ front. IsPage lexicon line choices cursor count front more) (sym first)
            (page_from_front cursor count answers more p told),
      )
