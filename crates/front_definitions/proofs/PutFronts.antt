-- The answers of fronts one after another: those of the next front come after all of those before, and those of all fronts are the
-- listing.
use Rattle.std.proofs.Common.{◌≡◌, ◌⊎◌, inl, inr, ℕ, ◌-◌, ◌<◌, ◌≤◌, min, Bool, true, false, Option, Some, None, List, [], ◌∷◌, ◌++◌, length, take, refl, sym, subst, arith}
use Rattle.std.specs.List.{Contains}
use Rattle.std.specs.List.Sorted.{IsStrictlySortedBy}
use Rattle.std.specs.declared.cmp.Ordering.TheVariants.{Less}
use Rattle.std.proofs.lemmas.List.Elements.{All-contains, Contains-append_left, Contains-append_right, Contains-append_cases}
use Rattle.text_definitions.specs.Lines.{Line}
use Rattle.lexicon_definitions.specs.Lexicons.{Lexicon}
use Rattle.segmentation_definitions.specs.Derivations.{Step}
use Rattle.segmentation_definitions.specs.Items.{Choice}
use Rattle.segmentation_definitions.specs.Answers.{IsAnswer}
use Rattle.segmentation_definitions.specs.Listings.{Key, keys_of, compare_answers, compare_key_lists, BeforeFirst, IsPage}
use Rattle.segmentation_definitions.proofs.KeyLists.{compare_answers_total}
use Rattle.list_laws.specs.Firsts.{ComesAfter, AreFirst}
use Rattle.list_laws.proofs.Sorted.{Contains-first, Contains-cons_cases, not_Contains-nil, All-from_Contains, sorted_nil, sorted_append, not_after, following_front}
use Rattle.front_definitions.specs.Fronts.{front_of, HasFront, IsFront, IsAfterFront, IsFrontAbove, AreNextFronts, IsAmongFronts, AreFrontsTo}
use Rattle.front_definitions.specs.NextOnes.{AreNext}
use Rattle.front_definitions.proofs.NextOnes.{next_of_both, next_with}
use Rattle.front_definitions.proofs.KeyListFronts.{less_by_front}
use Rattle.front_definitions.proofs.SameFronts.{key_lists_total}

in_one : {X : Type 0} (x y : X) → Contains (x ∷ []) y → x ≡ y
in_one x y of = elim (Contains-cons_cases x [] y of) [ inl here ↦ here | inr later ↦ absurd (not_Contains-nil y later) ]

module _ (lexicon : Lexicon) (line : Line) (choices : List Choice) (depth : ℕ) where
  -- of answers, the one with the smaller front comes first
  by_fronts : (x y : List Step) (left right : List Key) → front_of lexicon.rules depth x ≡ left → front_of lexicon.rules depth y ≡ right
      → compare_key_lists left right ≡ Less → compare_answers lexicon.rules x y ≡ Less
  by_fronts x y left right of_x of_y less =
      less_by_front depth (keys_of lexicon.rules x) (keys_of lexicon.rules y)
      (subst (λ keys. compare_key_lists keys (front_of lexicon.rules depth y) ≡ Less) (sym of_x)
      (subst (λ keys. compare_key_lists left keys ≡ Less) (sym of_y) less))

  module _ (fronts : List (List Key)) (front : List Key) (after : ComesAfter compare_key_lists fronts front) where
    one_front_more : (x : List Step) → IsAmongFronts lexicon line choices depth fronts x ⊎ HasFront lexicon line choices depth front x
        → IsAmongFronts lexicon line choices depth (fronts ++ front ∷ []) x
    one_front_more x (inl among) = (among.0, Contains-append_left fronts (front ∷ []) (front_of lexicon.rules depth x) among.1)
    one_front_more x (inr of) = (
      of.0,
      Contains-append_right fronts (front ∷ []) (front_of lexicon.rules depth x) (subst (Contains (front ∷ [])) (sym of.1) (Contains-first front [])),
    )

    one_front_less : (x : List Step) → IsAmongFronts lexicon line choices depth (fronts ++ front ∷ []) x
        → IsAmongFronts lexicon line choices depth fronts x ⊎ HasFront lexicon line choices depth front x
    one_front_less x (is, among) = elim (Contains-append_cases fronts (front ∷ []) (front_of lexicon.rules depth x) among) [
      | inl here ↦ inl (is, here)
      | inr last ↦ inr (is, sym (in_one front (front_of lexicon.rules depth x) last))
    ]

    -- the first answers of the next front are put after those of the fronts before, as many as there is room for
    pub put_front : (most : ℕ) (firsts nexts : List (List Step)) (first_more next_more : Bool)
        → AreNext (compare_answers lexicon.rules) (IsAmongFronts lexicon line choices depth fronts) most firsts first_more
        → AreFirst (compare_answers lexicon.rules) (HasFront lexicon line choices depth front) nexts next_more
        → (next_more ≡ true → most - length firsts ≤ length nexts) → (fits : ℕ) → fits ≡ min (most - length firsts) (length nexts) → (more : Bool)
        → ((first_more ≡ true) ⊎ ((next_more ≡ true) ⊎ (fits < length nexts)) → more ≡ true)
        → (more ≡ true → (first_more ≡ true) ⊎ ((next_more ≡ true) ⊎ (fits < length nexts)))
        → AreNext (compare_answers lexicon.rules) (IsAmongFronts lexicon line choices depth (fronts ++ front ∷ [])) most (firsts ++ take fits nexts) more
    put_front most firsts nexts first_more next_more are following enough fits room more told says =
        next_with (compare_answers lexicon.rules) _ (IsAmongFronts lexicon line choices depth (fronts ++ front ∷ [])) most (firsts ++ take fits nexts) more
        one_front_more one_front_less
        (next_of_both (compare_answers_total lexicon.rules) (IsAmongFronts lexicon line choices depth fronts) (HasFront lexicon line choices depth front) most
        firsts nexts first_more next_more are following enough
        (λ x y among of. by_fronts x y (front_of lexicon.rules depth x) front refl of.1
        (All-contains (λ before. compare_key_lists before front ≡ Less) fronts (front_of lexicon.rules depth x) after among.1))
        fits room more told says)

  -- no answer has one of no fronts
  pub put_none : (most : ℕ) → AreNext (compare_answers lexicon.rules) (IsAmongFronts lexicon line choices depth []) most [] false
  put_none most = record {
    first = record {
      rising = sorted_nil (compare_answers lexicon.rules);
      only = λ x of. absurd (not_Contains-nil x of);
      complete = λ x of. absurd (not_Contains-nil (front_of lexicon.rules depth x) of.1);
      left = λ never. absurd (cc (never));
    };
    at_most = omega arith;
    full = λ never. absurd (cc (never));
  }

  -- where there is room for an answer of a front of which there is one, it has first answers
  pub some_of_front : (front : List Key) (room : ℕ) (answers : List (List Step)) (more : Bool) → IsFront lexicon line choices depth front
      → 0 < room → AreFirst (compare_answers lexicon.rules) (HasFront lexicon line choices depth front) answers more
      → (more ≡ true → room ≤ length answers) → 0 < length answers
  some_of_front front room answers more (answer, of) some are enough = elim (are.complete answer of) [
    | inl here ↦ let low = here.1 in omega (arith, low)
    | inr left ↦ let many = enough left.0 in omega (arith, many, some)
  ]

  -- ---- all fronts

  module _ (fronts : List (List Key)) (left_fronts : Bool) (of : AreFirst compare_key_lists (IsFront lexicon line choices depth) fronts left_fronts)
      (most : ℕ) (answers : List (List Step)) (more : Bool)
      (are : AreNext (compare_answers lexicon.rules) (IsAmongFronts lexicon line choices depth fronts) most answers more)
      (full : left_fronts ≡ true → length answers ≡ most) where
    -- an answer with a later front comes after those that are listed
    after_listed : (x : List Step) → ComesAfter compare_key_lists fronts (front_of lexicon.rules depth x) → ComesAfter (compare_answers lexicon.rules) answers x
    after_listed x after =
        All-from_Contains (λ before. compare_answers lexicon.rules before x ≡ Less) answers
        (λ before here. by_fronts before x (front_of lexicon.rules depth before) (front_of lexicon.rules depth x) refl refl
        (All-contains (λ front. compare_key_lists front (front_of lexicon.rules depth x) ≡ Less) fronts (front_of lexicon.rules depth before) after
        (are.first.only before here).1))

    listed_or_after : (x : List Step) → IsAnswer lexicon line choices x
        → Contains answers x ⊎ (((more ≡ true) ⊎ (left_fronts ≡ true)) × (length answers ≡ most) × ComesAfter (compare_answers lexicon.rules) answers x)
    listed_or_after x is = elim (of.complete (front_of lexicon.rules depth x) (x, (is, refl))) [
      | inl among ↦ elim (are.first.complete x (is, among)) [
        | inl here ↦ inl here
        | inr (told, after) ↦ inr (inl told, are.full told, after)
      ]
      | inr (told, after) ↦ inr (inr told, full told, after_listed x after)
    ]

    pub page_of_fronts : (any : Bool) → ((more ≡ true) ⊎ (left_fronts ≡ true) → any ≡ true) → (any ≡ true → (more ≡ true) ⊎ (left_fronts ≡ true))
        → IsPage lexicon line choices BeforeFirst most answers any
    page_of_fronts any told says = record {
      rising = are.first.rising;
      only_answers = λ x here. (are.first.only x here).0;
      only_above = λ x here. tt;
      at_most = are.at_most;
      first = λ x is above. elim (listed_or_after x is) [ inl here ↦ inl here | inr (why, many, after) ↦ inr (many, after) ];
      left = (
        λ some. elim (says some) [
          | inl here ↦
              let (x, among, after) : (x : List Step) × IsAmongFronts lexicon line choices depth fronts x × ComesAfter (compare_answers lexicon.rules) answers x =
              are.first.left here in
              (x, among.0, tt, after)
          | inr later ↦
              let (front, (x, (is, same)), after) : (front : List Key) × IsFront lexicon line choices depth front × ComesAfter compare_key_lists fronts front =
              of.left later in
              (x, is, tt, after_listed x (subst (ComesAfter compare_key_lists fronts) (sym same) after))
        ],
        λ (x, is, above, after). elim (listed_or_after x is) [
          | inl here ↦ absurd (not_after (compare_answers_total lexicon.rules) answers x here after)
          | inr (why, many, later) ↦ told why
        ],
      );
    }

  -- ---- the next fronts after those so far

  pub no_fronts_yet : AreFrontsTo lexicon line choices depth None []
  no_fronts_yet = record {
    rising = sorted_nil compare_key_lists;
    only = λ front of. absurd (not_Contains-nil front of);
    complete = λ front of. inr tt;
    below = λ before later of. absurd (not_Contains-nil before of);
  }

  module _ (earlier : Option (List Key)) (fronts : List (List Key)) (to : AreFrontsTo lexicon line choices depth earlier fronts) (most : ℕ)
      (next : List (List Key)) (more : Bool) (are : AreNextFronts lexicon line choices depth earlier most next more) where
    -- each of the next ones comes after those so far
    pub next_after : (later : List Key) → Contains next later → ComesAfter compare_key_lists fronts later
    next_after later of =
        All-from_Contains (λ before. compare_key_lists before later ≡ Less) fronts (λ before here. to.below before later here (are.first.only later of).1)

    pub fronts_rise : IsStrictlySortedBy compare_key_lists (fronts ++ next)
    fronts_rise = sorted_append key_lists_total fronts next to.rising are.first.rising next_after

    only_fronts : (front : List Key) → Contains (fronts ++ next) front → IsFront lexicon line choices depth front
    only_fronts front of = elim (Contains-append_cases fronts next front of) [
      | inl here ↦ to.only front here
      | inr later ↦ (are.first.only front later).0
    ]

    after_both : (front : List Key) → IsAfterFront earlier front → ComesAfter compare_key_lists next front
        → ComesAfter compare_key_lists (fronts ++ next) front
    after_both front above after =
        All-from_Contains (λ before. compare_key_lists before front ≡ Less) (fronts ++ next)
        (λ before of. elim (Contains-append_cases fronts next before of) [
          | inl here ↦ to.below before front here above
          | inr later ↦ All-contains (λ before. compare_key_lists before front ≡ Less) next before after later
        ])

    pub first_fronts : AreFirst compare_key_lists (IsFront lexicon line choices depth) (fronts ++ next) more
    first_fronts = record {
      rising = fronts_rise;
      only = only_fronts;
      complete = λ front is. elim (to.complete front is) [
        | inl here ↦ inl (Contains-append_left fronts next front here)
        | inr above ↦ elim (are.first.complete front (is, above)) [
          | inl later ↦ inl (Contains-append_right fronts next front later)
          | inr (told, after) ↦ inr (told, after_both front above after)
        ]
      ];
      left = λ told.
          let (front, of, after) : (front : List Key) × IsFrontAbove lexicon line choices depth earlier front × ComesAfter compare_key_lists next front =
          are.first.left told in
          (front, of.0, after_both front of.1 after);
    }

    -- so far up to the last of the next ones
    pub fronts_to_last : (init : List (List Key)) (last : List Key) → next ≡ init ++ last ∷ []
        → AreFrontsTo lexicon line choices depth (Some last) (fronts ++ next)
    fronts_to_last init last cut = record {
      rising = fronts_rise;
      only = only_fronts;
      complete = λ front is. elim (first_fronts.complete front is) [
        | inl here ↦ inl here
        | inr (told, after) ↦ inr (All-contains (λ before. compare_key_lists before front ≡ Less) (fronts ++ next) last after
            (Contains-append_right fronts next last last_there))
      ];
      below = λ before later of above. elim (Contains-append_cases fronts next before of) [
        | inl here ↦ key_lists_total.trans before last later
            (All-contains (λ first. compare_key_lists first last ≡ Less) fronts before (next_after last last_there) here) above
        | inr there ↦ elim (Contains-append_cases init (last ∷ []) before (subst (λ keys. Contains keys before) cut there)) [
          | inl front ↦ key_lists_total.trans before last later
              (All-contains (λ first. compare_key_lists first last ≡ Less) init before
              (following_front key_lists_total init (last ∷ []) last (subst (IsStrictlySortedBy compare_key_lists) cut are.first.rising) (Contains-first last []))
              front) above
          | inr same ↦ subst (λ keys. compare_key_lists keys later ≡ Less) (in_one last before same) above
        ]
      ];
    }
      where
        last_there : Contains next last
        last_there = subst (λ keys. Contains keys last) (sym cut) (Contains-append_right init (last ∷ []) last (Contains-first last []))
