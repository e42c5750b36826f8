-- A search goes along keys that are given: a frame that stands at a key which leads on, and those after it that stand along the
-- rest, stand along all of them.
use Rattle.std.proofs.Common.{◌≡◌, ℕ, ◌+◌, ◌-◌, ◌≤◌, ◌==◌, Bool, true, false, refl, List, [], ◌∷◌, length, take, drop, get_or, sym, ap, ◌∙◌, subst, arith}
use Rattle.std.proofs.lemmas.Bool.{eqb-true}
use Rattle.std.specs.Bool.{OnTrue}
use Rattle.std.proofs.Math.Seq.{take-length}
use Rattle.text_definitions.specs.Lines.{Line}
use Rattle.segmentation_definitions.specs.Items.{Choice}
use Rattle.segmentation_definitions.specs.Listings.{Key}
use Rattle.listing_laws.specs.Ways.{IsPath}
use Rattle.derivation.specs.declared.step.Key.{Key as ProgramKey}
use Rattle.annotated_trie.specs.Searched.{SearchedLexicon}
use Rattle.search_frames.specs.declared.resumption.Resumption.{Resumption}
use Rattle.search_frames.specs.declared.configuration.Configuration.{Configuration}
use Rattle.search_frames.specs.Configurations.{NumberedConfiguration, Ends, ways_in}
use Rattle.search_frames.specs.Frames.{numbered_of}
use Rattle.search_frames.specs.Tests.{LeadsTo}
use Rattle.search_frames.specs.Stacks.{KeepsBefore, with_depth}
use Rattle.segmenter.specs.Chains.{AreFrames}
use Rattle.segmenter.specs.GivenKeys.{StandsAtKey}
use Rattle.derivation.specs.Steps.{key_meant, keys_meant}
use Rattle.segmenter.proofs.KeptFrames.{frame_kept, key_kept, here_kept, placed_kept, other_depth}
use Rattle.segmenter.proofs.PathsFound.{path_with}

-- the frames from the level on stand along the keys, which are a path
abbrev pub StandAlong : SearchedLexicon → Line → List Choice → Resumption → ℕ → NumberedConfiguration → List Key → Type 0
StandAlong searched line choices stack level here keys =
    AreFrames searched line stack level here keys × IsPath (ways_in searched line choices) here keys

-- the keys that are given are the first of them and the rest
given_first : (given : List ProgramKey) (some : ProgramKey) → 1 ≤ length given
    → keys_meant given ≡ key_meant (get_or given 0 some) ∷ keys_meant (take (length given - 1) (drop 1 given))
given_first [] some count = absurd (omega (arith, count))
given_first (key ∷ rest) some count =
    let shorter : length (key ∷ rest) - 1 ≡ length rest = omega arith in
    ap (λ rest. key_meant key ∷ keys_meant rest) (sym (ap (λ n. take n rest) shorter ∙ take-length rest))

-- where the frame stands at the first key, and later ones along the rest, all stand along the keys
pub stand_along : (searched : SearchedLexicon) (line : Line) (choices : List Choice) (level : ℕ) (here : NumberedConfiguration) (mid deep : Resumption)
    (given : List ProgramKey) (some : ProgramKey) (next : Configuration) → 1 ≤ length given
    → StandsAtKey searched line mid level here (key_meant (get_or given 0 some))
    → LeadsTo searched line choices here (key_meant (get_or given 0 some)) next → KeepsBefore (level + 1) mid deep
    → StandAlong searched line choices deep (level + 1) (numbered_of searched next) (keys_meant (take (length given - 1) (drop 1 given)))
    → StandAlong searched line choices deep level here (keys_meant given)
stand_along searched line choices level here mid deep given some next count stands leads keeps later =
    let key = key_meant (get_or given 0 some) in
    let keys = keys_meant (take (length given - 1) (drop 1 given)) in
    let kept = frame_kept level mid deep keeps in
    let there = subst (λ h. StandAlong searched line choices deep (level + 1) h keys) leads.is later in
    subst (λ keys. StandAlong searched line choices deep level here keys) (sym (given_first given some count)) (
      (
        placed_kept searched line level mid deep keeps stands.placed,
        here_kept searched line level mid deep kept ∙ stands.place,
        stands.possible,
        key_kept level mid deep kept ∙ stands.is_at,
        there.0,
      ),
      path_with searched line choices here key keys leads.leads_on there.1,
    )

if_true : {P : Type 0} (b : Bool) → (b ≡ true → P) → OnTrue b P
if_true true p = p refl
if_true false p = tt

-- the frame that stands at a key which ends the line stands along the keys where this is the last of them
pub stand_at_end : (searched : SearchedLexicon) (line : Line) (choices : List Choice) (level : ℕ) (here : NumberedConfiguration) (mid : Resumption)
    (given : List ProgramKey) (some : ProgramKey) (is_last : Bool) → 1 ≤ length given
    → is_last ≡ (length (take (length given - 1) (drop 1 given)) == 0)
    → StandsAtKey searched line mid level here (key_meant (get_or given 0 some))
    → Ends searched line choices here (key_meant (get_or given 0 some))
    → OnTrue is_last (StandAlong searched line choices (with_depth mid (level + 1)) level here (keys_meant given))
stand_at_end searched line choices level here mid [] some is_last count last stands ends = absurd (omega (arith, count))
stand_at_end searched line choices level here mid (key ∷ []) some is_last count last stands ends =
    if_true is_last (λ is. (
      (other_depth searched line mid level (level + 1) stands.placed, stands.place, stands.possible, stands.is_at, refl),
      ends,
    ))
stand_at_end searched line choices level here mid (key ∷ next ∷ rest) some is_last count last stands ends =
    let shorter : length (key ∷ next ∷ rest) - 1 ≡ length (next ∷ rest) = omega arith in
    let left = ap (λ n. take n (next ∷ rest)) shorter ∙ take-length (next ∷ rest) in
    if_true is_last (λ is.
    let none = eqb-true (length (next ∷ rest)) 0 (sym (sym is ∙ last ∙ ap (λ keys. length keys == 0) left)) in
    absurd (omega (arith, none)))
