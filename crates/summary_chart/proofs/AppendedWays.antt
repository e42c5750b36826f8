-- Ways that are appended key by key, in the falling order: of no key, of one, of some and then of others that come before them, and of keys that
-- are told in another way. A key has a way where it is possible, may lead on or end the line as the letters tell, and is looked for. Turned round they
-- rise.
use Rattle.std.proofs.Common.{◌≡◌, ◌⊎◌, inl, inr, ◌≤◌, List, [], ◌∷◌, ◌++◌, length, take, drop, map, reverse, All, Contains, refl, sym, ◌∙◌, ap, subst, arith}
use Rattle.std.specs.List.Sorted.{IsStrictlySortedBy}
use Rattle.std.specs.declared.cmp.Ordering.TheVariants.{Less}
use Rattle.std.proofs.lemmas.List.{append-nil, append_assoc, map-append, reverse-append, length-append, take-append-drop, take-append-le}
use Rattle.std.proofs.lemmas.List.Elements.{All-nil, All-cons, All-append, All-map, All-contains, All-weaker, All-from_recursion, Contains-append_left, Contains-append_right}
use Rattle.std.proofs.lemmas.List.Sorted.{All-permutation, Contains-permutation, IsPermutation-reverse, IsPermutation-sym}
use Rattle.std.proofs.lemmas.Map.Keys.{sorted_head, sorted_tail}
use Rattle.std.proofs.Math.Seq.{take-append_seam, drop-append_seam}
use Rattle.list_laws.proofs.Sorted.{Contains-first, Contains-cons_cases, not_Contains-nil}
use Rattle.list_laws.proofs.FirstOnes.{sorted-append, sorted-cons}
use Rattle.text_definitions.specs.Lines.{Line}
use Rattle.segmentation_definitions.specs.Items.{Choice}
use Rattle.segmentation_definitions.specs.Listings.{Key, compare_keys}
use Rattle.annotated_trie.specs.Searched.{SearchedLexicon}
use Rattle.search_frames.specs.declared.way.Way.{Way}
use Rattle.search_frames.specs.Configurations.{NumberedConfiguration, IsPossible}
use Rattle.search_frames.specs.LetterTests.{MayNeither}
use Rattle.search_frames.specs.WaysFrom.{IsWayFrom, key_of_way}
use Rattle.summary_chart.specs.PlaceWays.{AppendsWays, AppendsFalling, compare_falling}
use Rattle.summary_chart.specs.Spreading.{OnlyKey}

none_fall : IsStrictlySortedBy compare_falling []
unfolding IsStrictlySortedBy
none_fall = tt

one_falls : (key : Key) → IsStrictlySortedBy compare_falling (key ∷ [])
one_falls key = sorted-cons compare_falling key [] (All-nil (λ other. compare_falling key other ≡ Less)) none_fall

-- a list that falls rises when it is turned round
reverse_rises : (keys : List Key) → IsStrictlySortedBy compare_falling keys → IsStrictlySortedBy compare_keys (reverse keys)
unfolding IsStrictlySortedBy
reverse_rises [] falls = tt
reverse_rises (key ∷ keys) falls =
    let below = All-from_recursion (λ other. compare_falling key other ≡ Less) keys (sorted_head compare_falling key keys falls) in
    subst (IsStrictlySortedBy compare_keys) (sym (reverse-append (key ∷ []) keys))
    (sorted-append compare_keys (reverse keys) (key ∷ []) (reverse_rises keys (sorted_tail compare_falling key keys falls))
    (sorted-cons compare_keys key [] (All-nil (λ other. compare_keys key other ≡ Less)) tt)
    (λ one other among last. elim (Contains-cons_cases key [] other last) [
      | inl same ↦ subst (λ (k : Key). compare_keys one k ≡ Less) same
          (All-contains (λ other. compare_falling key other ≡ Less) keys one below
          (Contains-permutation (reverse keys) keys one (IsPermutation-sym keys (reverse keys) (IsPermutation-reverse keys)) among))
      | inr none ↦ absurd (not_Contains-nil other none)
    ]))

-- the keys of ways that are turned round
keys_reversed : (ways : List Way) → map key_of_way (reverse ways) ≡ reverse (map key_of_way ways)
keys_reversed [] = refl
keys_reversed (way ∷ ways) =
    ap (map key_of_way) (reverse-append (way ∷ []) ways) ∙ map-append key_of_way (reverse ways) (way ∷ [])
    ∙ ap (λ (keys : List Key). keys ++ key_of_way way ∷ []) (keys_reversed ways)
    ∙ sym (reverse-append (key_of_way way ∷ []) (map key_of_way ways))

-- the key of one of these ways is told as all of them are
told_of_key : (IsTold : Key → Type 0) (ways : List Way) → All (λ way. IsTold (key_of_way way)) ways → (key : Key) → Contains (map key_of_way ways) key → IsTold key
told_of_key IsTold ways told key among = All-contains IsTold (map key_of_way ways) key (All-map IsTold key_of_way ways told) among

-- a list that was appended to begins with what it was
pub begins_so : (old new more : List Way) → new ≡ old ++ more → take (length old) new ≡ old
begins_so old new more appended = ap (take (length old)) appended ∙ take-append_seam old more

-- a list that was appended to, and then kept as it was at its begin, still begins with what it was
pub still_begins : (old mid new more : List Way) → mid ≡ old ++ more → take (length mid) new ≡ mid → take (length old) new ≡ old
still_begins old mid new more appended kept =
    let rest = drop (length mid) new in
    let whole : (old ++ more) ++ rest ≡ new = ap (λ (ways : List Way). ways ++ rest) (sym (kept ∙ appended)) ∙ take-append-drop (length mid) new in
    sym (ap (take (length old)) whole) ∙ take-append-le (length old) (old ++ more) rest (omega (arith, length-append old more)) ∙ take-append_seam old more

module _ (searched : SearchedLexicon) (line : Line) (choices : List Choice) (here : NumberedConfiguration) (IsSought : Key → Type 0) where
  -- of no key
  pub append_none : (IsTold : Key → Type 0) (ways : List Way)
      → ((key : Key) → IsTold key → IsPossible searched line here key → (MayNeither searched line choices here key → ⊥) → IsSought key → ⊥)
      → AppendsFalling searched line choices here IsSought IsTold ways ways
  append_none IsTold ways none = record {
    ways = [];
    appended = sym (append-nil ways);
    each = All-nil (IsWayFrom searched line choices here);
    told = All-nil (λ way. IsTold (key_of_way way));
    falling = none_fall;
    all = λ key told possible may sought. absurd (none key told possible may sought);
  }

  -- of one that may do neither
  pub append_refused : (key : Key) (ways : List Way) → MayNeither searched line choices here key → AppendsFalling searched line choices here IsSought (OnlyKey key) ways ways
  append_refused key ways neither =
      append_none (OnlyKey key) ways (λ other same possible may sought. may (subst (MayNeither searched line choices here) (sym same) neither))

  -- of one that is not looked for
  pub append_unsought : (key : Key) (ways : List Way) → (IsSought key → ⊥) → AppendsFalling searched line choices here IsSought (OnlyKey key) ways ways
  append_unsought key ways unsought = append_none (OnlyKey key) ways (λ other same possible may sought. unsought (subst IsSought same sought))

  -- of one that does something
  pub append_one : (way : Way) (old new : List Way) → IsWayFrom searched line choices here way → new ≡ old ++ way ∷ []
      → AppendsFalling searched line choices here IsSought (OnlyKey (key_of_way way)) old new
  append_one way old new is put = record {
    ways = way ∷ [];
    appended = put;
    each = All-cons (IsWayFrom searched line choices here) way [] is (All-nil (IsWayFrom searched line choices here));
    told = All-cons (λ other. OnlyKey (key_of_way way) (key_of_way other)) way [] refl (All-nil (λ other. OnlyKey (key_of_way way) (key_of_way other)));
    falling = one_falls (key_of_way way);
    all = λ key same possible may sought. subst (Contains (key_of_way way ∷ [])) (sym same) (Contains-first (key_of_way way) []);
  }

  -- of some and then of others that come before them
  append_both : (IsFirst IsSecond : Key → Type 0) (old mid new : List Way)
      → ((one other : Key) → IsFirst one → IsSecond other → compare_keys other one ≡ Less)
      → AppendsFalling searched line choices here IsSought IsFirst old mid → AppendsFalling searched line choices here IsSought IsSecond mid new
      → AppendsFalling searched line choices here IsSought (λ key. IsFirst key ⊎ IsSecond key) old new
  append_both IsFirst IsSecond old mid new before first second =
      let both : map key_of_way (first.ways ++ second.ways) ≡ map key_of_way first.ways ++ map key_of_way second.ways = map-append key_of_way first.ways second.ways in
      record {
        ways = first.ways ++ second.ways;
        appended = second.appended ∙ ap (λ (ways : List Way). ways ++ second.ways) first.appended ∙ append_assoc old first.ways second.ways;
        each = All-append (IsWayFrom searched line choices here) first.ways second.ways first.each second.each;
        told = All-append (λ way. IsFirst (key_of_way way) ⊎ IsSecond (key_of_way way)) first.ways second.ways
            (All-weaker (λ way. IsFirst (key_of_way way)) (λ way. IsFirst (key_of_way way) ⊎ IsSecond (key_of_way way)) (λ way told. inl told) first.ways first.told)
            (All-weaker (λ way. IsSecond (key_of_way way)) (λ way. IsFirst (key_of_way way) ⊎ IsSecond (key_of_way way)) (λ way told. inr told) second.ways second.told);
        falling = subst (IsStrictlySortedBy compare_falling) (sym both)
            (sorted-append compare_falling (map key_of_way first.ways) (map key_of_way second.ways) first.falling second.falling
            (λ one other among later. before one other (told_of_key IsFirst first.ways first.told one among) (told_of_key IsSecond second.ways second.told other later)));
        all = λ key told possible may sought. subst (λ (keys : List Key). Contains keys key) (sym both) (elim told [
          | inl one ↦ Contains-append_left (map key_of_way first.ways) (map key_of_way second.ways) key (first.all key one possible may sought)
          | inr other ↦ Contains-append_right (map key_of_way first.ways) (map key_of_way second.ways) key (second.all key other possible may sought)
        ]);
      }

  -- of keys that are told in another way
  pub append_same : (IsFirst IsSecond : Key → Type 0) (old new : List Way)
      → ((key : Key) → IsSecond key → IsPossible searched line here key → (MayNeither searched line choices here key → ⊥) → IsSought key → IsFirst key)
      → ((key : Key) → IsFirst key → IsSecond key)
      → AppendsFalling searched line choices here IsSought IsFirst old new → AppendsFalling searched line choices here IsSought IsSecond old new
  append_same IsFirst IsSecond old new back forth first = record {
    ways = first.ways;
    appended = first.appended;
    each = first.each;
    told = All-weaker (λ way. IsFirst (key_of_way way)) (λ way. IsSecond (key_of_way way)) (λ way told. forth (key_of_way way) told) first.ways first.told;
    falling = first.falling;
    all = λ key told possible may sought. first.all key (back key told possible may sought) possible may sought;
  }

  -- some and then others, told in another way
  pub append_two : (IsFirst IsSecond IsTold : Key → Type 0) (old mid new : List Way)
      → ((one other : Key) → IsFirst one → IsSecond other → compare_keys other one ≡ Less)
      → ((key : Key) → IsTold key → IsPossible searched line here key → (MayNeither searched line choices here key → ⊥) → IsFirst key ⊎ IsSecond key)
      → ((key : Key) → IsFirst key → IsTold key) → ((key : Key) → IsSecond key → IsTold key)
      → AppendsFalling searched line choices here IsSought IsFirst old mid → AppendsFalling searched line choices here IsSought IsSecond mid new
      → AppendsFalling searched line choices here IsSought IsTold old new
  append_two IsFirst IsSecond IsTold old mid new before either is_first is_second first second =
      append_same (λ key. IsFirst key ⊎ IsSecond key) IsTold old new (λ key told possible may sought. either key told possible may)
      (λ key told. elim told [
        | inl one ↦ is_first key one
        | inr other ↦ is_second key other
      ])
      (append_both IsFirst IsSecond old mid new before first second)

  -- the list does not become shorter
  pub append_longer : (IsTold : Key → Type 0) (old new : List Way) → AppendsFalling searched line choices here IsSought IsTold old new → length old ≤ length new
  append_longer IsTold old new appends = (let long = ap length appends.appended in omega (arith, long, length-append old appends.ways))

  -- turned round, they are in the order of their keys
  pub append_reversed : (IsTold : Key → Type 0) (old mid new : List Way) → AppendsFalling searched line choices here IsSought IsTold old mid
      → new ≡ take (length old) mid ++ reverse (drop (length old) mid) → AppendsWays searched line choices here IsSought IsTold old new
  append_reversed IsTold old mid new falling turned =
      let ways = falling.ways in
      let kept : take (length old) mid ≡ old = begins_so old mid ways falling.appended in
      let rest : drop (length old) mid ≡ ways = ap (drop (length old)) falling.appended ∙ drop-append_seam old ways in
      let keys = sym (keys_reversed ways) in
      let same = IsPermutation-reverse ways in
      record {
        ways = reverse ways;
        appended = turned ∙ (λ i. kept i ++ reverse (rest i));
        each = All-permutation (IsWayFrom searched line choices here) ways (reverse ways) same falling.each;
        told = All-permutation (λ way. IsTold (key_of_way way)) ways (reverse ways) same falling.told;
        rising = subst (IsStrictlySortedBy compare_keys) keys (reverse_rises (map key_of_way ways) falling.falling);
        all = λ key told possible may sought. subst (λ (some : List Key). Contains some key) keys
            (Contains-permutation (map key_of_way ways) (reverse (map key_of_way ways)) key (IsPermutation-reverse (map key_of_way ways))
            (falling.all key told possible may sought));
      }
