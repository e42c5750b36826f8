-- A reader one symbol on: the innermost level changes at its own positions, and the levels around it stay as they were.
use Rattle.std.proofs.Common.{◌≡◌, ◌≢◌, ℕ, ◌+◌, ◌<◌, ◌≤◌, Option, Some, None, List, [], ◌∷◌, ◌++◌, length, reverse, refl, sym, ap, ◌∙◌, arith, subst}
use Rattle.std.proofs.lemmas.List.{reverse-append}
use Rattle.lexicon_definitions.specs.Grammars.{Grammar, Name, count_names}
use Rattle.lexicon_definitions.specs.GrammarTexts.{Level as OpenLevel, Close, Bar, empty_level, sequence_tree, with_item, change_newest, level_tree, after_close, after_token}
use Rattle.phase_automaton.specs.declared.position.Position.{Position}
use Rattle.phase_automaton.specs.declared.piece.Piece.{Piece}
use Rattle.phase_automaton.specs.declared.level.Level.{Level}
use Rattle.phase_automaton.specs.declared.reader.Reader.{Reader}
use Rattle.phase_automaton.specs.PositionSets.{HasPosition}
use Rattle.phase_automaton.specs.Pieces.{position_at, Follows, IsPiece}
use Rattle.phase_automaton.specs.Levels.{IsPart, IsLevel, KeepsOthers}
use Rattle.phase_automaton.specs.Readers.{AreLevels, IsReader, CanRead, IsWhole}
use Rattle.phase_automaton.proofs.LevelTrees.{keep_level, part_rises}

-- a level's positions rise
pub level_rises : (positions : List Position) (level : Level) (open_level : OpenLevel) (from until : ℕ)
    → IsLevel positions level open_level from until → from ≤ until
level_rises positions level open_level from until h =
    let a = part_rises positions level.choices _ from h.middle h.choices in
    let b = part_rises positions level.sequence _ h.middle h.newest h.sequence in
    let c = part_rises positions level.item _ h.newest until h.item in
    omega arith

-- position 0 stands before all levels
pub levels_above : (positions : List Position) (codes : List Level) (levels : List OpenLevel) (until : ℕ)
    → AreLevels positions codes levels until → 0 < until
levels_above positions [] [] until h = omega (arith, h)
levels_above positions (code ∷ codes) (level ∷ levels) until h =
    let inner = levels_above positions codes levels h.0 h.2 in
    let rise = level_rises positions code level h.0 until h.1 in
    omega arith
levels_above positions [] (level ∷ levels) until h = absurd h
levels_above positions (code ∷ codes) [] until h = absurd h

pub keep_levels : (old new : List Position) (codes : List Level) (levels : List OpenLevel) (until : ℕ) → length old ≤ length new
    → ((k : ℕ) → k < until → position_at new k ≡ position_at old k) → AreLevels old codes levels until → AreLevels new codes levels until
keep_levels old new [] [] until longer same h = h
keep_levels old new (code ∷ codes) (level ∷ levels) until longer same h =
    let rise = level_rises old code level h.0 until h.1 in (
      h.0,
      keep_level old new code level h.0 until longer (λ k a b. same k b) h.1,
      keep_levels old new codes levels h.0 longer (λ k a. same k (omega arith)) h.2,
    )
keep_levels old new [] (level ∷ levels) until longer same h = absurd h
keep_levels old new (code ∷ codes) [] until longer same h = absurd h

-- the innermost level changes
module _ (all old new : List Position) (before after : Reader) (open_level changed : OpenLevel) (levels : List OpenLevel) where
  pub level_step : KeepsOthers old new before.level → after.outer.items ≡ before.outer.items → after.met ≡ before.met
      → ((from until : ℕ) → IsLevel old before.level open_level from until → IsLevel new after.level changed from until)
      → IsReader all old before (open_level ∷ levels) → IsReader all new after (changed ∷ levels)
  level_step keeps outer met level h =
      let from = h.stack.0 in
      let w = keeps.within open_level from before.met h.stack.1 in
      let above = levels_above old (reverse before.outer.items) levels from h.stack.2 in
      record {
        count = keeps.count ∙ h.count;
        stack = subst (λ n. AreLevels new (after.level ∷ reverse after.outer.items) (changed ∷ levels) n) (sym met)
            (subst (λ items. AreLevels new (after.level ∷ reverse items) (changed ∷ levels) before.met) (sym outer) (
              from,
              level from before.met h.stack.1,
              keep_levels old new (reverse before.outer.items) levels from (omega (arith, keeps.count)) (λ k below. w.before k below) h.stack.2,
            ));
        opening = w.before 0 above ∙ h.opening;
        fresh = λ k past. w.following k (omega (arith, met, past)) ∙ h.fresh k (omega (arith, met, past));
      }

-- one name more
pub name_step : (all old new : List Position) (before after : Reader) (item : Piece) (open_level : OpenLevel) (levels : List OpenLevel)
    → before.met < length old
    → ((position : ℕ) → Follows all before.met position → ⊥)
    → ((positions : List Position) → before.met < length positions → ((other : ℕ) → HasPosition (position_at positions before.met).follow other → ⊥)
    → IsPiece positions item (Name (position_at positions before.met).phase) before.met)
    → KeepsOthers old new before.level → after.outer.items ≡ before.outer.items → after.met ≡ before.met + 1
    → ((tree : Grammar) (from until : ℕ) → IsLevel old before.level open_level from until → IsPiece old item tree until
    → IsLevel new after.level (with_item tree open_level) from (until + count_names tree))
    → IsReader all old before (open_level ∷ levels)
    → IsReader all new after (with_item (Name (position_at all before.met).phase) open_level ∷ levels)
name_step all old new before after item open_level levels within none piece keeps outer met level h =
    let from = h.stack.0 in
    let w = keeps.within open_level from before.met h.stack.1 in
    let above = levels_above old (reverse before.outer.items) levels from h.stack.2 in
    let same = h.fresh before.met (omega arith) in
    let here = piece old within (λ other x. none other (subst (λ (p : Position). HasPosition p.follow other) same x)) in
    let here' = subst (λ (p : Position). IsPiece old item (Name p.phase) before.met) same here in
    record {
      count = keeps.count ∙ h.count;
      stack = subst (λ n. AreLevels new (after.level ∷ reverse after.outer.items) (with_item (Name (position_at all before.met).phase) open_level ∷ levels) n) (sym met)
          (subst (λ items. AreLevels new (after.level ∷ reverse items) (with_item (Name (position_at all before.met).phase) open_level ∷ levels) (before.met + 1)) (sym outer) (
            from,
            level (Name (position_at all before.met).phase) from before.met h.stack.1 here',
            keep_levels old new (reverse before.outer.items) levels from (omega (arith, keeps.count)) (λ k below. w.before k below) h.stack.2,
          ));
      opening = w.before 0 above ∙ h.opening;
      fresh = λ k past. w.following k (omega (arith, met, past)) ∙ h.fresh k (omega (arith, met, past));
    }

reverse_push : {A : Type 0} (xs : List A) (x : A) → reverse (xs ++ x ∷ []) ≡ x ∷ reverse xs
reverse_push xs x = reverse-append xs (x ∷ [])

-- one level more
pub open_step : (all positions : List Position) (before after : Reader) (levels : List OpenLevel)
    → after.outer.items ≡ before.outer.items ++ before.level ∷ [] → after.met ≡ before.met
    → ((positions : List Position) (from : ℕ) → IsLevel positions after.level empty_level from from)
    → IsReader all positions before levels → IsReader all positions after (empty_level ∷ levels)
open_step all positions before after levels outer met empty h = record {
  count = h.count;
  stack = (
    before.met,
    subst (λ n. IsLevel positions after.level empty_level before.met n) (sym met) (empty positions before.met),
    subst (λ codes. AreLevels positions codes levels before.met) (sym (ap reverse outer ∙ reverse_push before.outer.items before.level)) h.stack,
  );
  opening = h.opening;
  fresh = λ k past. h.fresh k (omega (arith, met, past));
}

-- one level less
pub close_step : (all old middle new : List Position) (before after : Reader) (outer : Level) (item : Piece)
    (open_level open_outer : OpenLevel) (levels : List OpenLevel)
    → before.outer.items ≡ after.outer.items ++ outer ∷ [] → after.met ≡ before.met
    → KeepsOthers old middle before.level → KeepsOthers middle new outer
    → ((from until : ℕ) → IsLevel old before.level open_level from until
    → IsPart middle (Some item) (Some (level_tree open_level)) from until)
    → ((open_level : OpenLevel) (tree : Grammar) (from until : ℕ) → IsLevel middle outer open_level from until → IsPiece middle item tree until
    → IsLevel new after.level (with_item tree open_level) from (until + count_names tree))
    → IsReader all old before (open_level ∷ open_outer ∷ levels)
    → IsReader all new after (with_item (level_tree open_level) open_outer ∷ levels)
close_step all old middle new before after outer item open_level open_outer levels pops met keeps keeps_outer finished added h =
    let stack : AreLevels old (before.level ∷ outer ∷ reverse after.outer.items) (open_level ∷ open_outer ∷ levels) before.met =
    subst (λ codes. AreLevels old (before.level ∷ codes) (open_level ∷ open_outer ∷ levels) before.met)
    (ap reverse pops ∙ reverse_push after.outer.items outer) h.stack in
    let inner = stack.0 in
    let from = stack.2.0 in
    let part = finished inner before.met stack.1 in
    let w = keeps.within open_level inner before.met stack.1 in
    let rise = level_rises old before.level open_level inner before.met stack.1 in
    let rise_outer = level_rises old outer open_outer from inner stack.2.1 in
    let above = levels_above old (reverse after.outer.items) levels from stack.2.2 in
    let outer_level = keep_level old middle outer open_outer from inner (omega (arith, keeps.count)) (λ k a b. w.before k b) stack.2.1 in
    let v = keeps_outer.within open_outer from inner outer_level in
    record {
      count = keeps_outer.count ∙ (keeps.count ∙ h.count);
      stack = subst (λ n. AreLevels new (after.level ∷ reverse after.outer.items) (with_item (level_tree open_level) open_outer ∷ levels) n)
          (part.0 ∙ sym met) (
            from,
            added open_outer (level_tree open_level) from inner outer_level part.1,
            keep_levels old new (reverse after.outer.items) levels from (omega (arith, keeps.count, keeps_outer.count))
                (λ k below. v.before k below ∙ w.before k (omega arith)) stack.2.2,
          );
      opening = v.before 0 above ∙ (w.before 0 (omega arith) ∙ h.opening);
      fresh = λ k past. v.following k (omega (arith, met, past)) ∙ (w.following k (omega (arith, met, past)) ∙ h.fresh k (omega (arith, met, past)));
    }

pub new_reader : (all : List Position) (reader : Reader) → reader.met ≡ 1 → reader.outer.items ≡ []
    → ((positions : List Position) (from : ℕ) → IsLevel positions reader.level empty_level from from) → IsReader all all reader (empty_level ∷ [])
new_reader all reader met outer empty = record {
  count = refl;
  stack = subst (λ n. AreLevels all (reader.level ∷ reverse reader.outer.items) (empty_level ∷ []) n) (sym met)
      (subst (λ items. AreLevels all (reader.level ∷ reverse items) (empty_level ∷ []) 1) (sym outer) (1, empty all 1, refl));
  opening = refl;
  fresh = λ k past. refl;
}

-- ---- by the token that was read
module _ (all old new : List Position) (before after : Reader) (names : List (List ℕ)) where
  pub close_token : ((level outer : OpenLevel) (levels : List OpenLevel) → level.items ≢ [] → IsReader all old before (level ∷ outer ∷ levels)
      → IsReader all new after (after_close level (outer ∷ levels)))
      → (levels : List OpenLevel) → CanRead Close levels → IsReader all old before levels → IsReader all new after (after_token names Close levels)
  close_token step [] can h = absurd can
  close_token step (level ∷ []) can h = absurd can
  close_token step (level ∷ outer ∷ levels) can h = step level outer levels can h

  pub bar_token : KeepsOthers old new before.level → after.outer.items ≡ before.outer.items → after.met ≡ before.met
      → ((level : OpenLevel) (from until : ℕ) → level.items ≢ [] → IsLevel old before.level level from until
      → IsLevel new after.level (record { sequences = sequence_tree level.items ∷ level.sequences; items = [] }) from until)
      → (levels : List OpenLevel) → CanRead Bar levels → IsReader all old before levels → IsReader all new after (after_token names Bar levels)
  bar_token keeps outer met step [] can h = absurd can
  bar_token keeps outer met step (level ∷ levels) can h =
      level_step all old new before after level (record { sequences = sequence_tree level.items ∷ level.sequences; items = [] }) levels
      keeps outer met (λ from until l. step level from until can l) h

  pub repeat_token : (change : Grammar → Grammar) → KeepsOthers old new before.level → after.outer.items ≡ before.outer.items → after.met ≡ before.met
      → ((level : OpenLevel) (from until : ℕ) → IsLevel old before.level level from until
      → IsLevel new after.level (change_newest change level) from until)
      → (level : OpenLevel) (levels : List OpenLevel) → IsReader all old before (level ∷ levels)
      → IsReader all new after (change_newest change level ∷ levels)
  repeat_token change keeps outer met step level levels h =
      level_step all old new before after level (change_newest change level) levels keeps outer met (step level) h

-- ---- the end
pub whole_step : (all old new : List Position) (reader : Reader) (result : Option Piece) (level : OpenLevel)
    → IsReader all old reader (level ∷ []) → KeepsOthers old new reader.level
    → ((from until : ℕ) → IsLevel old reader.level level from until → IsPart new result (Some (level_tree level)) from until)
    → IsWhole all new result (level_tree level)
whole_step all old new reader result level h keeps finished =
    go result (reverse reader.outer.items) h.stack.0 h.stack.1 h.stack.2 (finished h.stack.0 reader.met h.stack.1)
  where
    go : (result : Option Piece) (codes : List Level) (from : ℕ) → IsLevel old reader.level level from reader.met
        → AreLevels old codes [] from → IsPart new result (Some (level_tree level)) from reader.met → IsWhole all new result (level_tree level)
    go None codes from l rest part = part
    go (Some piece) [] from l rest part =
        let w = keeps.within level from reader.met l in (
          subst (λ n. IsPiece new piece (level_tree level) n) rest part.1,
          keeps.count ∙ h.count,
          λ k past. w.following k (omega (arith, part.0, rest, past)) ∙ h.fresh k (omega (arith, part.0, rest, past)),
        )
    go (Some piece) (code ∷ codes) from l rest part = absurd rest
