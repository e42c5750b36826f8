-- The frames in use are gone over from the last to the first: where each of them stands, and what is found from it on is found from
-- the first on. By recursion on how many frames stand before it, and by the cases of the keys along which they stand.
use Rattle.std.proofs.Common.{◌≡◌, ℕ, zero, suc, ◌+◌, ◌-◌, ◌*◌, ◌<◌, ◌≤◌, List, [], ◌∷◌, length, refl, sym, ◌∙◌, subst, arith}
use Rattle.text_definitions.specs.Lines.{Line}
use Rattle.segmentation_definitions.specs.Items.{Choice}
use Rattle.segmentation_definitions.specs.Listings.{Key}
use Rattle.annotated_trie.specs.Searched.{SearchedLexicon, IsSearchedLexicon}
use Rattle.search_frames.specs.declared.resumption.Resumption.{Resumption}
use Rattle.search_frames.specs.Configurations.{NumberedConfiguration, IsPossible, after}
use Rattle.search_frames.specs.Frames.{IsPlaced, here_of, key_at}
use Rattle.search_frames.specs.declared.guiding.ToTry.TheVariants.{Later}
use Rattle.segmenter.proofs.KeptFrames.{frame_kept, here_kept, key_kept, placed_kept, keeps_itself, keeps_then, keeps_less, keeps_fewer}
use Rattle.search_frames.specs.Reached.{IsReached, rank}
use Rattle.search_frames.specs.Stacks.{IsStack, KeepsBefore}
use Rattle.segmenter.specs.Chains.{AreFrames, LeadAlong, HasFound, HasNone, BeginsToTry, ComesAfter, HasRoom}
use Rattle.search_frames.proofs.ConfigurationRanks.{rank_rises, rank_within}
use Rattle.search_frames.proofs.ReachedConfigurations.{reached_after}
use Rattle.segmenter.proofs.PathsFound.{HasNoneBelow, none_below_last, none_below_deeper, found_after_deeper, found_after_here, none_after_here}

module _ (searched : SearchedLexicon) (line : Line) where
  -- the frames in use are as many as the keys
  pub frames_count : (stack : Resumption) (keys : List Key) (level : ℕ) (here : NumberedConfiguration) → AreFrames searched line stack level here keys
      → level + length keys ≡ stack.depth
  frames_count stack [] level here frames = omega (arith, frames)
  frames_count stack (key ∷ keys) level here frames =
      let more = frames_count stack keys (level + 1) (after searched line here key) frames.4 in
      omega (arith, more)

  -- there is a first frame in use
  first_frame : (stack : Resumption) (keys : List Key) (level : ℕ) (here : NumberedConfiguration) → AreFrames searched line stack level here keys
      → level < stack.depth → IsPlaced searched line stack level
  first_frame stack [] level here frames below = absurd (omega (arith, frames, below))
  first_frame stack (key ∷ keys) level here frames below = frames.0

  -- it stands at a possible key, also where later frames have changed
  first_stands : (stack mid : Resumption) (keys : List Key) (level : ℕ) (here : NumberedConfiguration) → AreFrames searched line stack level here keys
      → level < stack.depth → KeepsBefore (level + 1) stack mid → IsPossible searched line (here_of searched mid level) (key_at mid level)
  first_stands stack mid [] level here frames below keeps = absurd (omega (arith, frames, below))
  first_stands stack mid (key ∷ keys) level here frames below keeps =
      let kept = frame_kept level stack mid keeps in
      subst (λ h. IsPossible searched line h (key_at mid level)) (sym (here_kept searched line level stack mid kept ∙ frames.1))
      (subst (IsPossible searched line here) (sym (key_kept level stack mid kept ∙ frames.3)) frames.2)

-- ---- where each frame stands

-- the frames from the level on stand along keys, at this rank or a higher one
pub record StandFrom (searched : SearchedLexicon) (line : Line) (choices : List Choice) (stack : Resumption) (least level : ℕ) : Type 0 where
  pub reached : IsReached searched line choices (here_of searched stack level)
  pub room : HasRoom line stack level (here_of searched stack level)
  pub rises : least ≤ rank (here_of searched stack level)
  pub keys : List Key
  pub frames : AreFrames searched line stack level (here_of searched stack level) keys
  pub along : LeadAlong searched line choices (here_of searched stack level) keys

-- a frame is ready to go on to its later keys
pub record IsReady (searched : SearchedLexicon) (line : Line) (choices : List Choice) (stack : Resumption) (level : ℕ) : Type 0 where
  pub placed : IsPlaced searched line stack level
  pub stands : IsPossible searched line (here_of searched stack level) (key_at stack level)
  pub reached : IsReached searched line choices (here_of searched stack level)
  pub room : HasRoom line stack level (here_of searched stack level)

module _ (searched : SearchedLexicon) (line : Line) (choices : List Choice) (stack : Resumption) where
  -- so is each in use, also where later frames have changed
  ready : (least level : ℕ) (mid : Resumption) → StandFrom searched line choices stack least level → level < stack.depth → KeepsBefore (level + 1) stack mid
      → IsReady searched line choices mid level
  ready least level mid stand below keeps =
      let here = here_of searched stack level in
      let same = here_kept searched line level stack mid (frame_kept level stack mid keeps) in
      let room = stand.room.room in
      let as_much = keeps.room in
      record {
        placed = placed_kept searched line level stack mid keeps (first_frame searched line stack stand.keys level here stand.frames below);
        stands = first_stands searched line stack mid stand.keys level here stand.frames below keeps;
        reached = subst (IsReached searched line choices) (sym same) stand.reached;
        room = subst (HasRoom line mid level) (sym same)
            (record { below = stand.room.below; within = stand.room.within; room = omega (arith, room, as_much) });
      }

  -- the frames after the first one stand along the later keys
  deeper : (is : IsSearchedLexicon searched) (least level : ℕ) (keys : List Key) → AreFrames searched line stack level (here_of searched stack level) keys
      → LeadAlong searched line choices (here_of searched stack level) keys → level + 1 < stack.depth → IsReached searched line choices (here_of searched stack level)
      → HasRoom line stack level (here_of searched stack level) → least ≤ rank (here_of searched stack level)
      → StandFrom searched line choices stack least (level + 1)
  deeper is least level [] frames along more reached room high = absurd along
  deeper is least level (key ∷ []) frames along more reached room high =
      let last = frames.4 in
      absurd (omega (arith, last, more))
  deeper is least level (key ∷ next ∷ keys) frames along more reached room high =
      let here = here_of searched stack level in
      let there = sym frames.4.1 in
      let rises = rank_rises searched line choices here key is along.0 in
      let below = room.below in
      record {
        reached = subst (IsReached searched line choices) there (reached_after searched line choices here key is reached along.0);
        room = record {
          below = subst (λ h. level + 1 < rank h) there (omega (arith, rises, below));
          within = subst (λ h. rank h ≤ 2 * length line.letters) there (rank_within searched line choices here key along.0);
          room = room.room;
        };
        rises = subst (λ h. least ≤ rank h) there (omega (arith, rises, high));
        keys = next ∷ keys;
        frames = subst (λ h. AreFrames searched line stack (level + 1) h (next ∷ keys)) there frames.4;
        along = subst (λ h. LeadAlong searched line choices h (next ∷ keys)) there along.1;
      }

  -- and so do those from any frame in use on
  stand_from : IsSearchedLexicon searched → (least level : ℕ) → StandFrom searched line choices stack least level → (count below : ℕ)
      → below ≡ level + count → below < stack.depth → StandFrom searched line choices stack least below
  stand_from is least level first zero below at in_use =
      let same : level ≡ below = omega (arith, at) in
      subst (StandFrom searched line choices stack least) same first
  stand_from is least level first (suc count) below at in_use =
      let one : level + count + 1 ≡ below = omega (arith, at) in
      let before = stand_from is least level first count (level + count) refl (omega (arith, at, in_use)) in
      subst (StandFrom searched line choices stack least) one
      (deeper is least (level + count) before.keys before.frames before.along (omega (arith, at, in_use)) before.reached before.room before.rises)

-- ---- what is found from a frame on

-- the frames from the level on stand along the first path that comes after the keys along which the old ones stand
abbrev pub FindsLater : SearchedLexicon → Line → List Choice → Resumption → Resumption → ℕ → Type 0
FindsLater searched line choices stack new level = (keys : List Key) → AreFrames searched line stack level (here_of searched stack level) keys
    → LeadAlong searched line choices (here_of searched stack level) keys
    → HasFound searched line choices (ComesAfter keys) new level (here_of searched stack level)

-- no path comes after them
abbrev pub FindsNone : SearchedLexicon → Line → List Choice → Resumption → ℕ → Type 0
FindsNone searched line choices stack level = (keys : List Key) → AreFrames searched line stack level (here_of searched stack level) keys
    → HasNone searched line choices (ComesAfter keys) (here_of searched stack level)

module _ (searched : SearchedLexicon) (line : Line) (choices : List Choice) (stack new : Resumption) where
  -- what is found after a frame is found from the frame on
  deeper_found : (level : ℕ) → FindsLater searched line choices stack new (level + 1) → level + 1 < stack.depth → KeepsBefore (level + 1) stack new
      → FindsLater searched line choices stack new level
  deeper_found level found more keeps [] frames along = absurd along
  deeper_found level found more keeps (key ∷ []) frames along =
      let last = frames.4 in
      absurd (omega (arith, last, more))
  deeper_found level found more keeps (key ∷ next ∷ keys) frames along =
      let there = frames.4.1 in
      found_after_deeper searched line choices level stack (here_of searched stack level) key (next ∷ keys) frames new keeps along.0
      (subst (HasFound searched line choices (ComesAfter (next ∷ keys)) new (level + 1)) there
      (found (next ∷ keys) (subst (λ h. AreFrames searched line stack (level + 1) h (next ∷ keys)) (sym there) frames.4)
      (subst (λ h. LeadAlong searched line choices h (next ∷ keys)) (sym there) along.1)))

  -- and from any frame before it on
  found_from : (level count below : ℕ) → below ≡ level + count → below < stack.depth → KeepsBefore below stack new
      → FindsLater searched line choices stack new below → FindsLater searched line choices stack new level
  found_from level zero below at in_use keeps found =
      let same : below ≡ level = omega (arith, at) in
      subst (FindsLater searched line choices stack new) same found
  found_from level (suc count) below at in_use keeps found =
      let one : below ≡ level + count + 1 = omega (arith, at) in
      let kept = subst (λ b. KeepsBefore b stack new) one keeps in
      found_from level count (level + count) refl (omega (arith, at, in_use)) (keeps_less (level + count) stack new kept)
      (deeper_found (level + count) (subst (FindsLater searched line choices stack new) one found) (omega (arith, at, in_use)) kept)

module _ (searched : SearchedLexicon) (line : Line) (choices : List Choice) (stack : Resumption) where
  -- nothing was found after the frame at the level
  module _ (mid : Resumption) (level : ℕ) (keeps : KeepsBefore (level + 1) stack mid) (none : FindsNone searched line choices stack (level + 1)) where
    none_below : (key : Key) (rest : List Key) → AreFrames searched line stack level (here_of searched stack level) (key ∷ rest)
        → HasNoneBelow searched line choices (here_of searched stack level) key rest
    none_below key [] frames = none_below_last searched line choices level stack (here_of searched stack level) key [] frames refl
    none_below key (next ∷ keys) frames =
        let there = frames.4.1 in
        none_below_deeper searched line choices level stack (here_of searched stack level) key (next ∷ keys) frames
        (subst (HasNone searched line choices (ComesAfter (next ∷ keys))) there
        (none (next ∷ keys) (subst (λ h. AreFrames searched line stack (level + 1) h (next ∷ keys)) (sym there) frames.4)))

    -- and a path begins with a later key of its own
    later_found : (new : Resumption) → HasFound searched line choices (BeginsToTry (key_at mid level) Later) new level (here_of searched mid level)
        → FindsLater searched line choices stack new level
    later_found new found [] frames along = absurd along
    later_found new found (key ∷ rest) frames along =
        found_after_here searched line choices level stack (here_of searched stack level) key rest frames mid keeps (none_below key rest frames) new found

    -- or none does
    later_none : HasNone searched line choices (BeginsToTry (key_at mid level) Later) (here_of searched mid level)
        → FindsNone searched line choices stack level
    later_none found [] frames other path wanted = wanted
    later_none found (key ∷ rest) frames other path wanted =
        none_after_here searched line choices level stack (here_of searched stack level) key rest frames mid keeps (none_below key rest frames) found other path wanted

-- ---- one turn of the loop

-- the frames from the one below on were gone over, and nothing was found
pub record AreGoneOver (searched : SearchedLexicon) (line : Line) (choices : List Choice) (stack : Resumption) (level below : ℕ) (now : Resumption) : Type 0 where
  pub from : level ≤ below
  pub in_use : below ≤ stack.depth
  pub keeps : KeepsBefore below stack now
  pub none : FindsNone searched line choices stack below

module _ (searched : SearchedLexicon) (line : Line) (choices : List Choice) (stack : Resumption) (level : ℕ) where
  -- none was gone over yet
  pub none_gone_over : IsStack stack → level < stack.depth → AreGoneOver searched line choices stack level stack.depth stack
  none_gone_over is more = record {
    from = omega (arith, more);
    in_use = omega arith;
    keeps = keeps_itself stack.depth stack is;
    none = nothing;
  }
    where
      nothing : FindsNone searched line choices stack stack.depth
      nothing [] frames other path wanted = wanted
      nothing (key ∷ keys) frames other path wanted =
          let count = frames_count searched line stack (key ∷ keys) stack.depth (here_of searched stack stack.depth) frames in
          absurd (omega (arith, count))

  -- the frame before them is next
  module _ (below : ℕ) (mid : Resumption) (more : level < below) (over : AreGoneOver searched line choices stack level below mid) where
    one : below ≡ below - 1 + 1
    one = omega (arith, more)

    in_use : below - 1 < stack.depth
    in_use =
        let up_to = over.in_use in
        omega (arith, more, up_to)

    keeps : KeepsBefore (below - 1 + 1) stack mid
    keeps = subst (λ n. KeepsBefore n stack mid) one over.keeps

    none : FindsNone searched line choices stack (below - 1 + 1)
    none = subst (FindsNone searched line choices stack) one over.none

    pub next_here : here_of searched mid (below - 1) ≡ here_of searched stack (below - 1)
    next_here = here_kept searched line (below - 1) stack mid (frame_kept (below - 1) stack mid keeps)

    module _ (is : IsSearchedLexicon searched) (reached : IsReached searched line choices (here_of searched stack level)) (room : HasRoom line stack level (here_of searched stack level))
        (frames : (keys : List Key) × AreFrames searched line stack level (here_of searched stack level) keys × LeadAlong searched line choices (here_of searched stack level) keys) where
      next_stand : StandFrom searched line choices stack (rank (here_of searched stack level)) (below - 1)
      next_stand =
          stand_from searched line choices stack is (rank (here_of searched stack level)) level
          (record { reached = reached; room = room; rises = omega arith; keys = frames.0; frames = frames.1; along = frames.2 })
          (below - 1 - level) (below - 1) (omega (arith, more)) in_use

      pub next_ready : IsReady searched line choices mid (below - 1)
      next_ready = ready searched line choices stack (rank (here_of searched stack level)) (below - 1) mid next_stand in_use keeps

      pub next_rises : rank (here_of searched stack level) ≤ rank (here_of searched stack (below - 1))
      next_rises = next_stand.rises

    module _ (new : Resumption) (changes : KeepsBefore (below - 1) mid new) where
      keeps_new : KeepsBefore (below - 1) stack new
      keeps_new = keeps_then (below - 1) stack mid new (keeps_less (below - 1) stack mid keeps) changes

      pub next_keeps : KeepsBefore level stack new
      next_keeps = keeps_fewer level (below - 1) stack new (omega (arith, more)) keeps_new

      -- a path begins with a later key of it
      pub next_found : HasFound searched line choices (BeginsToTry (key_at mid (below - 1)) Later) new (below - 1) (here_of searched mid (below - 1))
          → FindsLater searched line choices stack new level
      next_found found =
          found_from searched line choices stack new level (below - 1 - level) (below - 1) (omega (arith, more)) in_use keeps_new
          (later_found searched line choices stack mid (below - 1) keeps none new found)

      -- none does
      pub next_gone_over : HasNone searched line choices (BeginsToTry (key_at mid (below - 1)) Later) (here_of searched mid (below - 1))
          → AreGoneOver searched line choices stack level (below - 1) new
      next_gone_over nothing = record {
        from = omega (arith, more);
        in_use = omega (arith, in_use);
        keeps = keeps_new;
        none = later_none searched line choices stack mid (below - 1) keeps none nothing;
      }

  -- all were gone over
  pub all_gone_over : (below : ℕ) (now : Resumption) → below ≡ level → AreGoneOver searched line choices stack level below now
      → AreGoneOver searched line choices stack level level now
  all_gone_over below now last over = subst (λ n. AreGoneOver searched line choices stack level n now) last over
