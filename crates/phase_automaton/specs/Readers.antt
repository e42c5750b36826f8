-- What the program has read of a grammar, against the levels that stand open there.
use Rattle.std.specs.Prelude.{Option, Some, None, ◌≡◌, ◌≢◌, ℕ, ◌+◌, ◌<◌, ◌≤◌, ◌↔◌, List, [], ◌∷◌, length, reverse}
use Rattle.lexicon_definitions.specs.Grammars.{Grammar, count_names}
use Rattle.lexicon_definitions.specs.GrammarMarks.{IsLink, IsFinal}
use Rattle.lexicon_definitions.specs.GrammarTexts.{Level as OpenLevel, Token, Close, Bar}
use Rattle.phase_automaton.specs.declared.position_set.PositionSet.{PositionSet}
use Rattle.phase_automaton.specs.declared.position.Position.{Position}
use Rattle.phase_automaton.specs.declared.piece.Piece.{Piece}
use Rattle.phase_automaton.specs.declared.level.Level.{Level}
use Rattle.phase_automaton.specs.declared.reader.Reader.{Reader}
use Rattle.phase_automaton.specs.PositionSets.{HasPosition}
use Rattle.phase_automaton.specs.Pieces.{position_at, Follows, IsPiece}
use Rattle.phase_automaton.specs.Levels.{IsLevel}

-- the program's levels, the innermost first, stand for these, whose names have the positions before this one
abbrev pub AreLevels : List Position → List Level → List OpenLevel → ℕ → Type 0
AreLevels positions [] [] until = until ≡ 1
AreLevels positions (level ∷ outer) (open_level ∷ levels) until =
    (from : ℕ) × IsLevel positions level open_level from until × AreLevels positions outer levels from
AreLevels positions [] (open_level ∷ levels) until = ⊥
AreLevels positions (level ∷ outer) [] until = ⊥

-- the reader stands for these levels, and the positions that were not met yet are as they were at the beginning
pub record IsReader (all positions : List Position) (reader : Reader) (levels : List OpenLevel) : Type 0 where
  pub count : length positions ≡ length all
  pub stack : AreLevels positions (reader.level ∷ reverse reader.outer.items) levels reader.met
  pub opening : position_at positions 0 ≡ position_at all 0
  pub fresh : (position : ℕ) → reader.met ≤ position → position_at positions position ≡ position_at all position

-- the token may come where these levels stand open
abbrev pub CanRead : Token → List OpenLevel → Type 0
CanRead Close [] = ⊥
CanRead Close (level ∷ []) = ⊥
CanRead Close (level ∷ outer ∷ levels) = level.items ≢ []
CanRead Bar [] = ⊥
CanRead Bar (level ∷ levels) = level.items ≢ []
CanRead token [] = ⊥
CanRead token (level ∷ levels) = Unit {0}

-- the phase is read at the one position right after the other
abbrev pub IsStep : List Position → ℕ → ℕ → ℕ → Type 0
IsStep positions before phase position = Follows positions before position × ((position_at positions position).phase ≡ phase)

-- the positions stand for the grammar, and these are the positions at which a word may end
pub record IsNet (positions : List Position) (ends : PositionSet) (grammar : Grammar) : Type 0 where
  pub step : (before phase position : ℕ) → IsStep positions before phase position ↔ IsLink grammar before phase position
  pub final : (position : ℕ) → HasPosition ends position ↔ IsFinal grammar position
  pub within : (before position : ℕ) → Follows positions before position → position < length positions

-- the piece stands for the whole tree, whose names begin at position 1, and nothing follows position 0 or one after the tree
abbrev pub IsWhole : List Position → List Position → Option Piece → Grammar → Type 0
IsWhole all positions None grammar = ⊥
IsWhole all positions (Some piece) grammar =
    IsPiece positions piece grammar 1 × (length positions ≡ length all)
    × ((position : ℕ) → 1 + count_names grammar ≤ position → position_at positions position ≡ position_at all position)
