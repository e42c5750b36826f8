-- A level one step on: what does not change keeps its pieces, since each part has positions of its own.
use Rattle.std.proofs.Common.{◌≡◌, ◌≢◌, ℕ, ◌+◌, ◌≤◌, Option, Some, None, List, [], ◌∷◌, length, refl, sym, ap, ◌∙◌, arith, subst}
use Rattle.lexicon_definitions.specs.Grammars.{Grammar, Sequence, Either, count_names}
use Rattle.lexicon_definitions.specs.GrammarTexts.{Level as OpenLevel, empty_level, sequence_tree, expression_tree, with_item, with_newest, change_newest, level_tree}
use Rattle.phase_automaton.specs.declared.position_set.PositionSet.{PositionSet}
use Rattle.phase_automaton.specs.declared.position.Position.{Position}
use Rattle.phase_automaton.specs.declared.piece.Piece.{Piece}
use Rattle.phase_automaton.specs.declared.level.Level.{Level}
use Rattle.phase_automaton.specs.Pieces.{IsPiece, IsLinked}
use Rattle.phase_automaton.specs.Levels.{choices_tree, items_tree, front_tree, newest_tree, IsPart, IsLevel, ChangesWithin, KeepsOthers, AreJoined}
use Rattle.phase_automaton.proofs.PieceTrees.{AgreeOn, keep_piece, ends_within}

pub keep_part : (old new : List Position) (piece : Option Piece) (tree : Option Grammar) (from until : ℕ) → length old ≤ length new
    → AgreeOn old new from until → IsPart old piece tree from until → IsPart new piece tree from until
keep_part old new None None from until longer same h = h
keep_part old new (Some piece) (Some tree) from until longer same h =
    (h.0, keep_piece old new piece tree from longer (λ k a b. same k a (omega (arith, h.0, b))) h.1)
keep_part old new (Some piece) None from until longer same h = h
keep_part old new None (Some tree) from until longer same h = h

-- a part's positions rise
pub part_rises : (positions : List Position) (piece : Option Piece) (tree : Option Grammar) (from until : ℕ)
    → IsPart positions piece tree from until → from ≤ until
part_rises positions None None from until h = omega (arith, h)
part_rises positions (Some piece) (Some tree) from until h = omega (arith, h.0)
part_rises positions (Some piece) None from until h = absurd h
part_rises positions None (Some tree) from until h = absurd h

-- a link from the ends of a piece changes its own positions alone
pub link_within : (old new : List Position) (piece : Piece) (tree : Grammar) (from : ℕ) (to : PositionSet) → IsPiece old piece tree from
    → IsLinked old new piece.last to → ChangesWithin old new from (from + count_names tree)
link_within old new piece tree from to h linked = record {
  before = λ k below. linked.others k (λ x. let w = ends_within tree from k ((h.last k).0 x) in omega (arith, w.0));
  following = λ k above. linked.others k (λ x. let w = ends_within tree from k ((h.last k).0 x) in omega (arith, w.1));
}

pub no_change : (positions : List Position) (from until : ℕ) → ChangesWithin positions positions from until
no_change positions from until = record { before = λ k h. refl; following = λ k h. refl }

wider : (old new : List Position) (a b c d : ℕ) → a ≤ b → c ≤ d → ChangesWithin old new b c → ChangesWithin old new a d
wider old new a b c d h k w = record { before = λ i l. w.before i (omega arith); following = λ i l. w.following i (omega arith) }

-- ---- two parts that are joined
pub joined_both : (old new : List Position) (sequence item result : Piece) → IsLinked old new sequence.last item.first
    → ((first second : Grammar) (from : ℕ) → IsPiece old sequence first from → IsPiece old item second (from + count_names first)
    → IsPiece new result (Sequence first second) from)
    → AreJoined old new (Some sequence) (Some item) (Some result)
joined_both old new sequence item result linked piece = record {
  count = linked.count;
  within = within;
  piece = parts;
}
  where
    within : (items : List Grammar) (from newest until : ℕ) → IsPart old (Some sequence) (front_tree items) from newest
        → IsPart old (Some item) (newest_tree items) newest until → ChangesWithin old new from until
    within [] from newest until s i = absurd s
    within (x ∷ []) from newest until s i = absurd s
    within (x ∷ y ∷ items) from newest until s i =
        wider old new from from (from + count_names (sequence_tree (y ∷ items))) until (omega arith) (omega (arith, s.0, i.0))
        (link_within old new sequence (sequence_tree (y ∷ items)) from item.first s.1 linked)

    parts : (items : List Grammar) (from newest until : ℕ) → IsPart old (Some sequence) (front_tree items) from newest
        → IsPart old (Some item) (newest_tree items) newest until → IsPart new (Some result) (items_tree items) from until
    parts [] from newest until s i = absurd s
    parts (x ∷ []) from newest until s i = absurd s
    parts (x ∷ y ∷ items) from newest until s i = (
      omega (arith, s.0, i.0),
      piece (sequence_tree (y ∷ items)) x from s.1 (subst (λ n. IsPiece old item x n) (sym s.0) i.1),
    )

pub joined_item : (positions : List Position) (item : Option Piece) → AreJoined positions positions None item item
joined_item positions item = record {
  count = refl;
  within = λ items from newest until s i. no_change positions from until;
  piece = parts;
}
  where
    parts : (items : List Grammar) (from newest until : ℕ) → IsPart positions None (front_tree items) from newest
        → IsPart positions item (newest_tree items) newest until → IsPart positions item (items_tree items) from until
    parts [] from newest until s i = subst (λ n. IsPart positions item None n until) (sym s) i
    parts (x ∷ []) from newest until s i = subst (λ n. IsPart positions item (Some x) n until) (sym s) i
    parts (x ∷ y ∷ items) from newest until s i = absurd s

pub joined_sequence : (positions : List Position) (sequence : Piece) → AreJoined positions positions (Some sequence) None (Some sequence)
joined_sequence positions sequence = record {
  count = refl;
  within = λ items from newest until s i. no_change positions from until;
  piece = parts;
}
  where
    parts : (items : List Grammar) (from newest until : ℕ) → IsPart positions (Some sequence) (front_tree items) from newest
        → IsPart positions None (newest_tree items) newest until → IsPart positions (Some sequence) (items_tree items) from until
    parts [] from newest until s i = absurd s
    parts (x ∷ items) from newest until s i = absurd i

-- ---- either of two
pub chosen_both : (positions : List Position) (choices sequence result : Piece)
    → ((left right : Grammar) (from : ℕ) → IsPiece positions choices left from → IsPiece positions sequence right (from + count_names left)
    → IsPiece positions result (Either left right) from)
    → (sequences : List Grammar) (tree : Grammar) (from middle until : ℕ)
    → IsPart positions (Some choices) (choices_tree sequences) from middle → IsPart positions (Some sequence) (Some tree) middle until
    → IsPart positions (Some result) (Some (expression_tree (tree ∷ sequences))) from until
chosen_both positions choices sequence result piece [] tree from middle until c s = absurd c
chosen_both positions choices sequence result piece (x ∷ xs) tree from middle until c s = (
  omega (arith, c.0, s.0),
  piece (expression_tree (x ∷ xs)) tree from c.1 (subst (λ n. IsPiece positions sequence tree n) (sym c.0) s.1),
)

pub chosen_sequence : (positions : List Position) (sequence : Option Piece) (sequences : List Grammar) (tree : Grammar) (from middle until : ℕ)
    → IsPart positions None (choices_tree sequences) from middle → IsPart positions sequence (Some tree) middle until
    → IsPart positions sequence (Some (expression_tree (tree ∷ sequences))) from until
chosen_sequence positions sequence [] tree from middle until c s = subst (λ n. IsPart positions sequence (Some tree) n until) (sym c) s
chosen_sequence positions sequence (x ∷ xs) tree from middle until c s = absurd c

-- ---- levels
pub empty_is_level : (positions : List Position) (from : ℕ)
    → IsLevel positions (record { choices = None; sequence = None; item = None }) empty_level from from
empty_is_level positions from = record { middle = from; newest = from; choices = refl; sequence = refl; item = refl }

-- a level stays one where its positions stay the same
pub keep_level : (old new : List Position) (level : Level) (open_level : OpenLevel) (from until : ℕ) → length old ≤ length new
    → AgreeOn old new from until → IsLevel old level open_level from until → IsLevel new level open_level from until
keep_level old new level open_level from until longer same h =
    let a = part_rises old level.choices (choices_tree open_level.sequences) from h.middle h.choices in
    let b = part_rises old level.sequence (front_tree open_level.items) h.middle h.newest h.sequence in
    let c = part_rises old level.item (newest_tree open_level.items) h.newest until h.item in
    record {
      middle = h.middle;
      newest = h.newest;
      choices = keep_part old new level.choices (choices_tree open_level.sequences) from h.middle longer (λ k x y. same k x (omega arith)) h.choices;
      sequence = keep_part old new level.sequence (front_tree open_level.items) h.middle h.newest longer (λ k x y. same k (omega arith) (omega arith)) h.sequence;
      item = keep_part old new level.item (newest_tree open_level.items) h.newest until longer (λ k x y. same k (omega arith) y) h.item;
    }

module _ (old new : List Position) (level : Level) (joined : Option Piece) (j : AreJoined old new level.sequence level.item joined) where
  pub join_keeps : KeepsOthers old new level
  join_keeps = record {
    count = j.count;
    within = λ open_level from until h.
        let a = part_rises old level.choices (choices_tree open_level.sequences) from h.middle h.choices in
        wider old new from h.middle until until a (omega arith) (j.within open_level.items h.middle h.newest until h.sequence h.item);
  }

  -- the choices do not change where the items are joined
  choices_kept : (open_level : OpenLevel) (from until : ℕ) (h : IsLevel old level open_level from until)
      → IsPart new level.choices (choices_tree open_level.sequences) from h.middle
  choices_kept open_level from until h =
      keep_part old new level.choices (choices_tree open_level.sequences) from h.middle (omega (arith, j.count))
      (λ k x y. (j.within open_level.items h.middle h.newest until h.sequence h.item).before k y) h.choices

  pub item_level : (item : Piece) (open_level : OpenLevel) (tree : Grammar) (from until : ℕ)
      → IsLevel old level open_level from until → IsPiece old item tree until
      → IsLevel new (record { choices = level.choices; sequence = joined; item = Some item }) (with_item tree open_level) from (until + count_names tree)
  item_level item open_level tree from until h p = record {
    middle = h.middle;
    newest = until;
    choices = choices_kept open_level from until h;
    sequence = j.piece open_level.items h.middle h.newest until h.sequence h.item;
    item = (
      refl,
      keep_piece old new item tree until (omega (arith, j.count))
          (λ k x y. (j.within open_level.items h.middle h.newest until h.sequence h.item).following k x) p,
    );
  }

  pub finished_part : (result : Option Piece)
      → ((positions : List Position) (sequences : List Grammar) (tree : Grammar) (from middle until : ℕ)
      → IsPart positions level.choices (choices_tree sequences) from middle → IsPart positions joined (Some tree) middle until
      → IsPart positions result (Some (expression_tree (tree ∷ sequences))) from until)
      → (open_level : OpenLevel) (from until : ℕ) → open_level.items ≢ [] → IsLevel old level open_level from until
      → IsPart new result (Some (level_tree open_level)) from until
  finished_part result chosen open_level from until some h =
      chosen new open_level.sequences (sequence_tree open_level.items) from h.middle until (choices_kept open_level from until h)
      (go open_level.items some (j.piece open_level.items h.middle h.newest until h.sequence h.item))
    where
      go : (items : List Grammar) → items ≢ [] → IsPart new joined (items_tree items) h.middle until
          → IsPart new joined (Some (sequence_tree items)) h.middle until
      go [] some p = absurd (some refl)
      go (x ∷ items) some p = p

pub bar_level : (positions : List Position) (result : Option Piece) (open_level : OpenLevel) (from until : ℕ)
    → IsPart positions result (Some (level_tree open_level)) from until
    → IsLevel positions (record { choices = result; sequence = None; item = None })
    (record { sequences = sequence_tree open_level.items ∷ open_level.sequences; items = [] }) from until
bar_level positions result open_level from until p =
    record { middle = until; newest = until; choices = p; sequence = refl; item = refl }

-- ---- repetition
pub repeat_none : (positions : List Position) (level : Level) (change : Grammar → Grammar) (open_level : OpenLevel) (from until : ℕ)
    → level.item ≡ None → IsLevel positions level open_level from until → IsLevel positions level (change_newest change open_level) from until
repeat_none positions level change open_level from until none h = record {
  middle = h.middle;
  newest = h.newest;
  choices = h.choices;
  sequence = subst (λ (tree : Option Grammar). IsPart positions level.sequence tree h.middle h.newest) (front open_level.items) h.sequence;
  item = go open_level.items (subst (λ (piece : Option Piece). IsPart positions piece (newest_tree open_level.items) h.newest until) none h.item)
      (subst (λ (tree : Option Grammar). IsPart positions level.item tree h.newest until) refl h.item);
}
  where
    front : (items : List Grammar) → front_tree items ≡ front_tree (with_newest change items)
    front [] = refl
    front (x ∷ items) = refl

    go : (items : List Grammar) → IsPart positions None (newest_tree items) h.newest until
        → IsPart positions level.item (newest_tree items) h.newest until
        → IsPart positions level.item (newest_tree (with_newest change items)) h.newest until
    go [] p q = q
    go (x ∷ items) p q = absurd p

pub repeat_item : (old new : List Position) (level : Level) (item result : Piece) (change : Grammar → Grammar)
    → ((tree : Grammar) → count_names (change tree) ≡ count_names tree) → level.item ≡ Some item
    → length new ≡ length old
    → ((tree : Grammar) (from : ℕ) → IsPiece old item tree from → ChangesWithin old new from (from + count_names tree))
    → ((tree : Grammar) (from : ℕ) → IsPiece old item tree from → IsPiece new result (change tree) from)
    → (open_level : OpenLevel) (from until : ℕ) → IsLevel old level open_level from until
    → IsLevel new (record { choices = level.choices; sequence = level.sequence; item = Some result }) (change_newest change open_level) from until
repeat_item old new level item result change counts is count within piece open_level from until h =
    go open_level.items h.sequence (subst (λ (p : Option Piece). IsPart old p (newest_tree open_level.items) h.newest until) is h.item)
  where
    go : (items : List Grammar) → IsPart old level.sequence (front_tree items) h.middle h.newest → IsPart old (Some item) (newest_tree items) h.newest until
        → IsLevel new (record { choices = level.choices; sequence = level.sequence; item = Some result })
        (record { sequences = open_level.sequences; items = with_newest change items }) from until
    go [] s i = absurd i
    go (x ∷ items) s i =
        let w = within x h.newest i.1 in
        let a = part_rises old level.sequence (items_tree items) h.middle h.newest s in
        record {
          middle = h.middle;
          newest = h.newest;
          choices = keep_part old new level.choices (choices_tree open_level.sequences) from h.middle (omega (arith, count)) (λ k b c. w.before k (omega arith)) h.choices;
          sequence = keep_part old new level.sequence (items_tree items) h.middle h.newest (omega (arith, count)) (λ k b c. w.before k c) s;
          item = (ap (λ n. h.newest + n) (counts x) ∙ i.0, piece x h.newest i.1);
        }

-- what a repetition changes
pub repeat_keeps : (old new : List Position) (level : Level) (item : Piece) → level.item ≡ Some item → length new ≡ length old
    → ((tree : Grammar) (from : ℕ) → IsPiece old item tree from → ChangesWithin old new from (from + count_names tree))
    → KeepsOthers old new level
repeat_keeps old new level item is count within = record { count = count; within = keeps }
  where
    keeps : (open_level : OpenLevel) (from until : ℕ) → IsLevel old level open_level from until → ChangesWithin old new from until
    keeps open_level from until h =
        go open_level.items h.sequence (subst (λ (p : Option Piece). IsPart old p (newest_tree open_level.items) h.newest until) is h.item)
      where
        go : (items : List Grammar) → IsPart old level.sequence (front_tree items) h.middle h.newest → IsPart old (Some item) (newest_tree items) h.newest until
            → ChangesWithin old new from until
        go [] s i = absurd i
        go (x ∷ items) s i =
            let a = part_rises old level.choices (choices_tree open_level.sequences) from h.middle h.choices in
            let b = part_rises old level.sequence (items_tree items) h.middle h.newest s in
            wider old new from h.newest (h.newest + count_names x) until (omega arith) (omega (arith, i.0)) (within x h.newest i.1)

pub keeps_all : (positions : List Position) (level : Level) → KeepsOthers positions positions level
keeps_all positions level = record { count = refl; within = λ open_level from until h. no_change positions from until }
