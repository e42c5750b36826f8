-- What a search finds at a level, from its next key and what it found at the level after it: paths with a smaller first key come
-- first, and those with one first key are in the order of their rests.
use Rattle.std.proofs.Common.{◌≡◌, ◌≢◌, ℕ, ◌+◌, ◌⊎◌, inl, inr, Bool, true, false, List, [], ◌∷◌, refl, sym, ap, ◌∙◌, subst, arith}
use Rattle.std.specs.Bool.{OnTrue, OnFalse}
use Rattle.std.specs.declared.cmp.Ordering.{Ordering}
use Rattle.std.specs.declared.cmp.Ordering.TheVariants.{Less, Greater}
use Rattle.std.specs.Ordering.{ordering_then}
use Rattle.std.specs.Cmp.Lexicographic.{slice_cmp}
use Rattle.std.proofs.lemmas.Cmp.{tied_itself}
use Rattle.text_definitions.specs.Lines.{Line}
use Rattle.segmentation_definitions.specs.Items.{Choice}
use Rattle.segmentation_definitions.specs.Listings.{Key, compare_keys}
use Rattle.segmentation_definitions.proofs.KeyLists.{compare_keys_total}
use Rattle.listing_laws.specs.Ways.{IsPath}
use Rattle.annotated_trie.specs.Searched.{SearchedLexicon, IsSearchedLexicon}
use Rattle.search_frames.specs.declared.resumption.Resumption.{Resumption}
use Rattle.search_frames.specs.declared.configuration.Configuration.{Configuration}
use Rattle.search_frames.specs.Configurations.{NumberedConfiguration, IsPossible, LeadsOn, Ends, after, ways_in}
use Rattle.search_frames.specs.declared.guiding.ToTry.{ToTry}
use Rattle.search_frames.specs.declared.guiding.ToTry.TheVariants.{All, Later}
use Rattle.search_frames.specs.Frames.{IsPlaced, ChangesFrom, here_of, configuration_at, key_at, numbered_of}
use Rattle.search_frames.specs.Reached.{IsReached}
use Rattle.search_frames.specs.Tests.{LeadsTo}
use Rattle.search_frames.specs.Turns.{BeginsPath, HasTurned, HasNoTurn, IsToTry, StandsToTry}
use Rattle.search_frames.proofs.StepKeys.{IsBefore, before_from_less, less_from_before}
use Rattle.search_frames.specs.Stacks.{KeepsBefore}
use Rattle.segmenter.specs.Chains.{AreFrames, HasFound, HasNone, Every, BeginsToTry, ComesAfter}
use Rattle.segmenter.proofs.KeptFrames.{keeps_itself, keeps_if_changes, keeps_then, keeps_less, frame_kept, place_kept, key_kept, here_kept, FrameKept, placed_kept}
use Rattle.search_frames.proofs.LeadingTo.{LedTo, leads_from}
use Rattle.search_frames.proofs.ConfigurationRanks.{not_both, possible_if_leads, possible_if_ends}

-- ---- lists of keys by their first keys

less_first : (k x : Key) (ks xs : List Key) → compare_keys k x ≡ Less → slice_cmp compare_keys (k ∷ ks) (x ∷ xs) ≡ Less
less_first k x ks xs less = ap (λ o. ordering_then o (slice_cmp compare_keys ks xs)) less

same_first : (k : Key) (ks xs : List Key) → slice_cmp compare_keys (k ∷ ks) (k ∷ xs) ≡ slice_cmp compare_keys ks xs
same_first k ks xs = ap (λ o. ordering_then o (slice_cmp compare_keys ks xs)) (tied_itself compare_keys_total k)

not_greater : (o : Ordering) → o ≡ Less → o ≢ Greater
not_greater o less greater = cc

-- ---- paths by their first keys

module _ (searched : SearchedLexicon) (line : Line) (choices : List Choice) where
  -- a path goes on after its first key, or ends with it
  pub record GoesOn (here : NumberedConfiguration) (key : Key) (keys : List Key) : Type 0 where
    pub leads : LeadsOn searched line choices here key
    pub path : IsPath (ways_in searched line choices) (after searched line here key) keys

  pub first_of_path : (here : NumberedConfiguration) (key : Key) (keys : List Key) → IsPath (ways_in searched line choices) here (key ∷ keys)
      → (Ends searched line choices here key × (keys ≡ [])) ⊎ GoesOn here key keys
  first_of_path here key [] ends = inl (ends, refl)
  first_of_path here key (later ∷ keys) (next, (leads, same), path) =
      inr (record { leads = leads; path = subst (λ h. IsPath (ways_in searched line choices) h (later ∷ keys)) same path })

  pub path_with : (here : NumberedConfiguration) (key : Key) (keys : List Key) → LeadsOn searched line choices here key
      → IsPath (ways_in searched line choices) (after searched line here key) keys → IsPath (ways_in searched line choices) here (key ∷ keys)
  path_with here key [] leads path = absurd path
  path_with here key (later ∷ keys) leads path = (after searched line here key, (leads, refl), path)

  pub first_possible : (here : NumberedConfiguration) (key : Key) (keys : List Key) → IsPath (ways_in searched line choices) here (key ∷ keys)
      → IsPossible searched line here key
  first_possible here key keys path = elim (first_of_path here key keys path) [
    | inl ends ↦ possible_if_ends searched line choices here key ends.0
    | inr goes ↦ possible_if_leads searched line choices here key goes.leads
  ]

-- ---- keys one after another

before_twice : (a b c : Key) → IsBefore a b → IsBefore b c → IsBefore a c
before_twice a b c (inl x) (inl y) = inl (omega (arith, x, y))
before_twice a b c (inl x) (inr (p, rest)) = inl (omega (arith, x, p))
before_twice a b c (inr (p, rest)) (inl y) = inl (omega (arith, p, y))
before_twice a b c (inr (p, inl t)) (inr (q, inl u)) = inr (p ∙ q, inl (omega (arith, t, u)))
before_twice a b c (inr (p, inl t)) (inr (q, inr (s, r))) = inr (p ∙ q, inl (omega (arith, t, s)))
before_twice a b c (inr (p, inr (s, r))) (inr (q, inl u)) = inr (p ∙ q, inl (omega (arith, s, u)))
before_twice a b c (inr (p, inr (s, r))) (inr (q, inr (t, u))) = inr (p ∙ q, inr (t ∙ s, omega (arith, r, u)))

-- what comes after a key that is to try is to try
to_try_after : (last key later : Key) (what : ToTry) → IsToTry last what key → compare_keys key later ≡ Less → IsToTry last what later
to_try_after last key later All to_try less = tt
to_try_after last key later Later to_try less = less_from_before last later (before_twice last key later (before_from_less last key to_try) (before_from_less key later less))

-- ---- the loop at a level

-- the frame stays in its place, nothing before it changes, and a path begins with a key that is still to try just where it began
-- with one to try at first, but for those that were passed and are no paths
pub record IsUnderWay (searched : SearchedLexicon) (line : Line) (choices : List Choice) (level : ℕ) (first : Resumption) (what : ToTry) (stack : Resumption) (now : ToTry) : Type 0 where
  pub placed : IsPlaced searched line stack level
  pub same_configuration : configuration_at stack level ≡ configuration_at first level
  pub keeps : KeepsBefore level first stack
  pub stands : StandsToTry searched line stack level now
  pub left : (keys : List Key) → IsPath (ways_in searched line choices) (here_of searched first level) keys
      → BeginsToTry (key_at first level) what keys → BeginsToTry (key_at stack level) now keys
  pub only : (key : Key) → IsToTry (key_at stack level) now key → IsToTry (key_at first level) what key

module _ (searched : SearchedLexicon) (line : Line) (choices : List Choice) (level : ℕ) (first : Resumption) (what : ToTry) where
  pub under_way_at_first : IsPlaced searched line first level → StandsToTry searched line first level what
      → IsUnderWay searched line choices level first what first what
  under_way_at_first placed stands = record {
    placed = placed;
    same_configuration = refl;
    keeps = keeps_itself level first placed.is_stack;
    stands = stands;
    left = λ keys path wanted. wanted;
    only = λ key to_try. to_try;
  }

  still_here : (stack : Resumption) (now : ToTry) → IsUnderWay searched line choices level first what stack now → here_of searched stack level ≡ here_of searched first level
  still_here stack now under_way = ap (numbered_of searched) under_way.same_configuration

  pub still_reached : (stack : Resumption) (now : ToTry) → IsUnderWay searched line choices level first what stack now
      → IsReached searched line choices (here_of searched first level) → IsReached searched line choices (here_of searched stack level)
  still_reached stack now under_way reached = subst (IsReached searched line choices) (sym (still_here stack now under_way)) reached

  -- the loop has come to a key of the frame
  module _ (old mid : Resumption) (now : ToTry) (under_way : IsUnderWay searched line choices level first what old now) (went : HasTurned searched line choices level now old mid)
      (changes : ChangesFrom level old mid) where
    here_old : here_of searched old level ≡ here_of searched first level
    here_old = still_here old now under_way

    here_mid : here_of searched mid level ≡ here_of searched first level
    here_mid = ap (numbered_of searched) went.same_configuration ∙ here_old

    -- a path that is wanted begins with this key or a later one
    wanted_next : (x : Key) (xs : List Key) → IsPath (ways_in searched line choices) (here_of searched first level) (x ∷ xs)
        → IsToTry (key_at first level) what x → (key_at mid level ≡ x) ⊎ (compare_keys (key_at mid level) x ≡ Less)
    wanted_next x xs path wanted =
        went.first x (subst (λ here. BeginsPath searched line choices here x) (sym here_old) (xs, path)) (under_way.left (x ∷ xs) path wanted)

    key_wanted : IsToTry (key_at first level) what (key_at mid level)
    key_wanted = under_way.only (key_at mid level) went.to_try

    key_possible : IsPossible searched line (here_of searched first level) (key_at mid level)
    key_possible = subst (λ here. IsPossible searched line here (key_at mid level)) here_old went.possible

    only_mid : (x : Key) → compare_keys (key_at mid level) x ≡ Less → IsToTry (key_at first level) what x
    only_mid x less = under_way.only x (to_try_after (key_at old level) (key_at mid level) x now went.to_try less)

    pub keeps_mid : KeepsBefore level first mid
    keeps_mid = keeps_then level first old mid under_way.keeps (keeps_if_changes level old mid changes)

    -- the key ends the line: it alone is the first path
    pub found_end : (last : Resumption) → IsPlaced searched line last level
        → here_of searched last level ≡ here_of searched mid level → key_at last level ≡ key_at mid level → level + 1 ≡ last.depth
        → Ends searched line choices (here_of searched old level) (key_at mid level)
        → HasFound searched line choices (BeginsToTry (key_at first level) what) last level (here_of searched first level)
    found_end last placed here_same key_same depth ends_old =
        let ends = subst (λ here. Ends searched line choices here (key_at mid level)) here_old ends_old in
        record {
          keys = key_at mid level ∷ [];
          frames = (placed, here_same ∙ here_mid, key_possible, key_same, depth);
          first = record { path = ends; wanted = key_wanted; least = least ends };
        }
      where
        least : Ends searched line choices (here_of searched first level) (key_at mid level) → (other : List Key)
            → IsPath (ways_in searched line choices) (here_of searched first level) other → BeginsToTry (key_at first level) what other
            → slice_cmp compare_keys (key_at mid level ∷ []) other ≢ Greater
        least ends [] path wanted = absurd wanted
        least ends (x ∷ xs) path wanted = elim (wanted_next x xs path wanted) [
          | inr less ↦ not_greater _ (less_first (key_at mid level) x [] xs less)
          | inl same ↦ elim (first_of_path searched line choices (here_of searched first level) x xs path) [
            | inr goes ↦ absurd (not_both searched line choices (here_of searched first level) (key_at mid level) ends
                (subst (λ k. LeadsOn searched line choices (here_of searched first level) k) (sym same) goes.leads))
            | inl alone ↦ subst (λ k. slice_cmp compare_keys (key_at mid level ∷ []) (k ∷ xs) ≢ Greater) same
                (subst (λ rest. slice_cmp compare_keys (key_at mid level ∷ []) (key_at mid level ∷ rest) ≢ Greater) (sym alone.1)
                (λ greater. let equal = same_first (key_at mid level) [] [] in cc))
          ]
        ]

    -- the key leads on to a place of higher rank
    pub led_deeper : (next : Configuration) → LeadsTo searched line choices (here_of searched old level) (key_at mid level) next → IsSearchedLexicon searched
        → IsReached searched line choices (here_of searched first level) → LedTo searched line choices (here_of searched first level) next
    led_deeper next leads is reached =
        leads_from searched line choices (here_of searched first level) (key_at mid level) next
        (subst (λ here. LeadsTo searched line choices here (key_at mid level) next) here_old leads) is reached

    -- the key leads on, and the first path after it was found
    pub found_deeper : (deep : Resumption) → KeepsBefore (level + 1) mid deep
        → LeadsOn searched line choices (here_of searched old level) (key_at mid level)
        → HasFound searched line choices Every deep (level + 1) (after searched line (here_of searched old level) (key_at mid level))
        → HasFound searched line choices (BeginsToTry (key_at first level) what) deep level (here_of searched first level)
    found_deeper deep keeps leads_old found_old =
        let here = here_of searched first level in
        let key = key_at mid level in
        let leads = subst (λ here. LeadsOn searched line choices here key) here_old leads_old in
        let found = subst (λ here. HasFound searched line choices Every deep (level + 1) (after searched line here key)) here_old found_old in
        let kept = frame_kept level mid deep keeps in
        record {
          keys = key ∷ found.keys;
          frames = (
            placed_kept searched line level mid deep keeps went.placed,
            here_kept searched line level mid deep kept ∙ here_mid,
            key_possible,
            key_kept level mid deep kept,
            found.frames,
          );
          first = record {
            path = path_with searched line choices here key found.keys leads found.first.path;
            wanted = key_wanted;
            least = least leads found.keys found.first.least;
          };
        }
      where
        least : LeadsOn searched line choices (here_of searched first level) (key_at mid level) → (keys : List Key)
            → ((other : List Key) → IsPath (ways_in searched line choices) (after searched line (here_of searched first level) (key_at mid level)) other
            → Every other → slice_cmp compare_keys keys other ≢ Greater)
            → (other : List Key) → IsPath (ways_in searched line choices) (here_of searched first level) other → BeginsToTry (key_at first level) what other
            → slice_cmp compare_keys (key_at mid level ∷ keys) other ≢ Greater
        least leads keys below [] path wanted = absurd wanted
        least leads keys below (x ∷ xs) path wanted = elim (wanted_next x xs path wanted) [
          | inr less ↦ not_greater _ (less_first (key_at mid level) x keys xs less)
          | inl same ↦
              let path_here = subst (λ k. IsPath (ways_in searched line choices) (here_of searched first level) (k ∷ xs)) (sym same) path in
              subst (λ k. slice_cmp compare_keys (key_at mid level ∷ keys) (k ∷ xs) ≢ Greater) same
              (elim (first_of_path searched line choices (here_of searched first level) (key_at mid level) xs path_here) [
                | inl ends ↦ absurd (not_both searched line choices (here_of searched first level) (key_at mid level) ends.0 leads)
                | inr goes ↦ λ greater. below xs goes.path tt (sym (same_first (key_at mid level) keys xs) ∙ greater)
              ])
        ]

    -- the key leads on, and no path was found after it
    pub under_way_deeper : (deep : Resumption) → KeepsBefore (level + 1) mid deep
        → LeadsOn searched line choices (here_of searched old level) (key_at mid level)
        → HasNone searched line choices Every (after searched line (here_of searched old level) (key_at mid level))
        → IsUnderWay searched line choices level first what deep Later
    under_way_deeper deep keeps leads none =
        let kept = frame_kept level mid deep keeps in
        let key_same = key_kept level mid deep kept in
        let here_same = here_kept searched line level mid deep kept in
        record {
          placed = placed_kept searched line level mid deep keeps went.placed;
          same_configuration = place_kept level mid deep kept ∙ went.same_configuration ∙ under_way.same_configuration;
          keeps = keeps_then level first mid deep keeps_mid (keeps_less level mid deep keeps);
          stands = subst (λ here. IsPossible searched line here (key_at deep level)) (sym (here_same ∙ here_mid))
              (subst (IsPossible searched line (here_of searched first level)) (sym key_same) key_possible);
          left = λ keys path wanted. subst (λ k. BeginsToTry k Later keys) (sym key_same) (passed keys path wanted);
          only = λ x less. only_mid x (subst (λ k. compare_keys k x ≡ Less) key_same less);
        }
      where
        no_path : (keys : List Key) → IsPath (ways_in searched line choices) (here_of searched first level) (key_at mid level ∷ keys) → ⊥
        no_path keys path =
            elim (first_of_path searched line choices (here_of searched first level) (key_at mid level) keys path) [
              | inl ends ↦ not_both searched line choices (here_of searched first level) (key_at mid level) ends.0
                  (subst (λ here. LeadsOn searched line choices here (key_at mid level)) here_old leads)
              | inr goes ↦ none keys
                  (subst (λ here. IsPath (ways_in searched line choices) (after searched line here (key_at mid level)) keys) (sym here_old) goes.path) tt
            ]

        passed : (keys : List Key) → IsPath (ways_in searched line choices) (here_of searched first level) keys
            → BeginsToTry (key_at first level) what keys → BeginsToTry (key_at mid level) Later keys
        passed [] path wanted = absurd wanted
        passed (x ∷ xs) path wanted = elim (wanted_next x xs path wanted) [
          | inl same ↦ absurd (no_path xs (subst (λ k. IsPath (ways_in searched line choices) (here_of searched first level) (k ∷ xs)) (sym same) path))
          | inr less ↦ less
        ]

  -- no path begins with a key that the frame has still to try: no path is wanted
  pub none_left : (old : Resumption) (now : ToTry) → IsUnderWay searched line choices level first what old now → HasNoTurn searched line choices level now old
      → HasNone searched line choices (BeginsToTry (key_at first level) what) (here_of searched first level)
  none_left old now under_way nothing [] path wanted = absurd wanted
  none_left old now under_way nothing (x ∷ xs) path wanted =
      nothing x
      (subst (λ here. BeginsPath searched line choices here x) (sym (still_here old now under_way)) (xs, path))
      (under_way.left (x ∷ xs) path wanted)

-- ---- a frame that has everything to try

module _ (searched : SearchedLexicon) (line : Line) (choices : List Choice) (level : ℕ) (last : Key) (here : NumberedConfiguration) where
  begins_path : (keys : List Key) → IsPath (ways_in searched line choices) here keys → BeginsToTry last All keys
  begins_path [] path = absurd path
  begins_path (x ∷ xs) path = tt

  pub found_first : (new : Resumption) → HasFound searched line choices (BeginsToTry last All) new level here
      → HasFound searched line choices Every new level here
  found_first new found = record {
    keys = found.keys;
    frames = found.frames;
    first = record { path = found.first.path; wanted = tt; least = λ other path wanted. found.first.least other path (begins_path other path) };
  }

  pub none_at_all : HasNone searched line choices (BeginsToTry last All) here → HasNone searched line choices Every here
  none_at_all none keys path wanted = none keys path (begins_path keys path)

-- ---- what comes after the keys along which frames stand

-- no path that begins with the key and comes after the rest there
abbrev pub HasNoneBelow : SearchedLexicon → Line → List Choice → NumberedConfiguration → Key → List Key → Type 0
HasNoneBelow searched line choices here key rest =
    (keys : List Key) → IsPath (ways_in searched line choices) here (key ∷ keys) → ComesAfter rest keys → ⊥

module _ (searched : SearchedLexicon) (line : Line) (choices : List Choice) (level : ℕ) (old : Resumption) (here : NumberedConfiguration) (key : Key) (rest : List Key)
    (frames : AreFrames searched line old level here (key ∷ rest)) where
  nothing_after : (keys earlier : List Key) → keys ≡ [] → ComesAfter earlier keys → ⊥
  nothing_after [] [] none later = later
  nothing_after [] (first ∷ earlier) none later = later
  nothing_after (x ∷ xs) earlier none later = absurd (cc)

  pub none_below_last : rest ≡ [] → HasNoneBelow searched line choices here key rest
  none_below_last none keys path later = subst (λ earlier. ComesAfter earlier keys) none later

  pub none_below_deeper : HasNone searched line choices (ComesAfter rest) (after searched line here key) → HasNoneBelow searched line choices here key rest
  none_below_deeper none keys path later = elim (first_of_path searched line choices here key keys path) [
    | inl ends ↦ nothing_after keys rest ends.1 later
    | inr goes ↦ none keys goes.path later
  ]

  -- one was found deeper
  pub found_after_deeper : (deep : Resumption) → KeepsBefore (level + 1) old deep → LeadsOn searched line choices here key
      → HasFound searched line choices (ComesAfter rest) deep (level + 1) (after searched line here key)
      → HasFound searched line choices (ComesAfter (key ∷ rest)) deep level here
  found_after_deeper deep keeps leads found =
      let kept = frame_kept level old deep keeps in
      record {
        keys = key ∷ found.keys;
        frames = (
          placed_kept searched line level old deep keeps frames.0,
          here_kept searched line level old deep kept ∙ frames.1,
          frames.2,
          key_kept level old deep kept ∙ frames.3,
          found.frames,
        );
        first = record {
          path = path_with searched line choices here key found.keys leads found.first.path;
          wanted = inr (refl, found.first.wanted);
          least = least found.keys found.first.least;
        };
      }
    where
      least : (keys : List Key)
          → ((other : List Key) → IsPath (ways_in searched line choices) (after searched line here key) other
          → ComesAfter rest other → slice_cmp compare_keys keys other ≢ Greater)
          → (other : List Key) → IsPath (ways_in searched line choices) here other → ComesAfter (key ∷ rest) other
          → slice_cmp compare_keys (key ∷ keys) other ≢ Greater
      least keys below [] path wanted = absurd wanted
      least keys below (x ∷ xs) path (inl less) = not_greater _ (less_first key x keys xs less)
      least keys below (x ∷ xs) path (inr (same, later)) =
          subst (λ k. slice_cmp compare_keys (key ∷ keys) (k ∷ xs) ≢ Greater) same
          (elim (first_of_path searched line choices here key xs (subst (λ k. IsPath (ways_in searched line choices) here (k ∷ xs)) (sym same) path)) [
            | inl ends ↦ absurd (nothing_after xs rest ends.1 later)
            | inr goes ↦ λ greater. below xs goes.path later (sym (same_first key keys xs) ∙ greater)
          ])

  -- no path was found deeper: the frame's later keys are tried
  module _ (mid : Resumption) (keeps : KeepsBefore (level + 1) old mid) (none : HasNoneBelow searched line choices here key rest) where
    kept : FrameKept level old mid
    kept = frame_kept level old mid keeps

    pub here_after : here_of searched mid level ≡ here
    here_after = here_kept searched line level old mid kept ∙ frames.1

    key_after : key_at mid level ≡ key
    key_after = key_kept level old mid kept ∙ frames.3

    -- the frame stands at its key, which is possible
    pub placed_after : IsPlaced searched line mid level
    placed_after = placed_kept searched line level old mid keeps frames.0

    pub stands_after : IsPossible searched line (here_of searched mid level) (key_at mid level)
    stands_after =
        subst (λ h. IsPossible searched line h (key_at mid level)) (sym here_after) (subst (IsPossible searched line here) (sym key_after) frames.2)

    begins_later : (keys : List Key) → IsPath (ways_in searched line choices) here keys → ComesAfter (key ∷ rest) keys
        → BeginsToTry (key_at mid level) Later keys
    begins_later [] path wanted = absurd wanted
    begins_later (x ∷ xs) path (inl less) = subst (λ k. compare_keys k x ≡ Less) (sym key_after) less
    begins_later (x ∷ xs) path (inr (same, later)) =
        absurd (none xs (subst (λ k. IsPath (ways_in searched line choices) here (k ∷ xs)) (sym same) path) later)

    comes_after : (keys : List Key) → IsPath (ways_in searched line choices) here keys → BeginsToTry (key_at mid level) Later keys
        → ComesAfter (key ∷ rest) keys
    comes_after [] path wanted = absurd wanted
    comes_after (x ∷ xs) path wanted = inl (subst (λ k. compare_keys k x ≡ Less) key_after wanted)

    pub found_after_here : (new : Resumption) → HasFound searched line choices (BeginsToTry (key_at mid level) Later) new level (here_of searched mid level)
        → HasFound searched line choices (ComesAfter (key ∷ rest)) new level here
    found_after_here new found_mid =
        let found = subst (λ h. HasFound searched line choices (BeginsToTry (key_at mid level) Later) new level h) here_after found_mid in
        record {
          keys = found.keys;
          frames = found.frames;
          first = record {
            path = found.first.path;
            wanted = comes_after found.keys found.first.path found.first.wanted;
            least = λ other path wanted. found.first.least other path (begins_later other path wanted);
          };
        }

    pub none_after_here : HasNone searched line choices (BeginsToTry (key_at mid level) Later) (here_of searched mid level)
        → HasNone searched line choices (ComesAfter (key ∷ rest)) here
    none_after_here none_mid keys path wanted =
        none_mid keys (subst (λ h. IsPath (ways_in searched line choices) h keys) (sym here_after) path) (begins_later keys path wanted)

-- ---- answers by cases

pub on_true : {P Q : Type 0} (b : Bool) → (P → Q) → OnTrue b P → OnTrue b Q
on_true true f p = f p
on_true false f p = p

pub on_false : {P Q : Type 0} (b : Bool) → (P → Q) → OnFalse b P → OnFalse b Q
on_false true f p = p
on_false false f p = f p

-- what is not false is true
pub true_unless : (b : Bool) → OnFalse b ⊥ → b ≡ true
true_unless true none = refl
true_unless false none = absurd none
