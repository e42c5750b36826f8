-- The lemmas on readers, by the byte.
use Rattle.std.proofs.Common.{◌≡◌, ℕ, List, [], ◌∷◌, refl, sym, subst}
use Rattle.lexicon_definitions.specs.Grammars.{AnyTimes, OnceOrMore, AtMostOnce}
use Rattle.lexicon_definitions.specs.GrammarTexts.{Level as OpenLevel, Star, Plus, Question, symbol_of, after_token}
use Rattle.phase_automaton.specs.declared.position.Position.{Position}
use Rattle.phase_automaton.specs.declared.reader.Reader.{Reader}
use Rattle.phase_automaton.specs.Readers.{IsReader, CanRead}
use Rattle.phase_automaton.proofs.ReaderTrees.{close_token, bar_token, repeat_token}
use Rattle.phase_automaton.proofs.reader.Reader.symbol.Goals as goal

-- what holds of the byte that was read
at_byte : (byte known : ℕ) → byte ≡ known → (names : List (List ℕ)) (all old new : List Position) (before after : Reader) (levels : List OpenLevel)
    → (CanRead (symbol_of known) levels → IsReader all old before levels → IsReader all new after (after_token names (symbol_of known) levels))
    → CanRead (symbol_of byte) levels → IsReader all old before levels → IsReader all new after (after_token names (symbol_of byte) levels)
at_byte byte known is names all old new before after levels step can h =
    subst (λ b. IsReader all new after (after_token names (symbol_of b) levels)) (sym is)
    (step (subst (λ b. CanRead (symbol_of b) levels) is can) h)

pub returns-in-41-clause-reader : goal.returns-in-41-clause-reader
returns-in-41-clause-reader c names all levels =
    at_byte c.args.byte 41 c.in-41.is names all c.args.positions.now c.close.new.positions c.args.self.now c.close.new.self levels
    (close_token all c.args.positions.now c.close.new.positions c.args.self.now c.close.new.self names (c.close.ensures.reader all) levels)

pub returns-in-124-clause-reader : goal.returns-in-124-clause-reader
returns-in-124-clause-reader c names all levels =
    at_byte c.args.byte 124 c.in-124.is names all c.args.positions.now c.with_bar-self.new.positions c.args.self.now
    (record { met = c.args.self.now.met; outer = c.args.self.now.outer; level = c.with_bar-self.result }) levels
    (bar_token all c.args.positions.now c.with_bar-self.new.positions c.args.self.now
    (record { met = c.args.self.now.met; outer = c.args.self.now.outer; level = c.with_bar-self.result })
    names c.with_bar-self.ensures.others refl refl c.with_bar-self.ensures.level levels)

pub returns-in-42-clause-reader : goal.returns-in-42-clause-reader
returns-in-42-clause-reader c names all levels =
    at_byte c.args.byte 42 c.in-42.is names all c.args.positions.now c.with_repetition-self.new.positions c.args.self.now
    (record { met = c.args.self.now.met; outer = c.args.self.now.outer; level = c.with_repetition-self.result }) levels
    (go levels)
  where
    go : (levels : List OpenLevel) → CanRead Star levels → IsReader all c.args.positions.now c.args.self.now levels
        → IsReader all c.with_repetition-self.new.positions
        (record { met = c.args.self.now.met; outer = c.args.self.now.outer; level = c.with_repetition-self.result })
        (after_token names Star levels)
    go [] can h = absurd can
    go (level ∷ levels) can h =
        repeat_token all c.args.positions.now c.with_repetition-self.new.positions c.args.self.now
        (record { met = c.args.self.now.met; outer = c.args.self.now.outer; level = c.with_repetition-self.result })
        names AnyTimes c.with_repetition-self.ensures.others refl refl c.with_repetition-self.ensures.level level levels h

pub returns-in-43-clause-reader : goal.returns-in-43-clause-reader
returns-in-43-clause-reader c names all levels =
    at_byte c.args.byte 43 c.in-43.is names all c.args.positions.now c.with_repetition-self-in-43.new.positions c.args.self.now
    (record { met = c.args.self.now.met; outer = c.args.self.now.outer; level = c.with_repetition-self-in-43.result }) levels
    (go levels)
  where
    go : (levels : List OpenLevel) → CanRead Plus levels → IsReader all c.args.positions.now c.args.self.now levels
        → IsReader all c.with_repetition-self-in-43.new.positions
        (record { met = c.args.self.now.met; outer = c.args.self.now.outer; level = c.with_repetition-self-in-43.result })
        (after_token names Plus levels)
    go [] can h = absurd can
    go (level ∷ levels) can h =
        repeat_token all c.args.positions.now c.with_repetition-self-in-43.new.positions c.args.self.now
        (record { met = c.args.self.now.met; outer = c.args.self.now.outer; level = c.with_repetition-self-in-43.result })
        names OnceOrMore c.with_repetition-self-in-43.ensures.others refl refl c.with_repetition-self-in-43.ensures.level level levels h

pub returns-in-63-clause-reader : goal.returns-in-63-clause-reader
returns-in-63-clause-reader c names all levels =
    at_byte c.args.byte 63 c.in-63.is names all c.args.positions.now c.with_repetition-self-in-63.new.positions c.args.self.now
    (record { met = c.args.self.now.met; outer = c.args.self.now.outer; level = c.with_repetition-self-in-63.result }) levels
    (go levels)
  where
    go : (levels : List OpenLevel) → CanRead Question levels → IsReader all c.args.positions.now c.args.self.now levels
        → IsReader all c.with_repetition-self-in-63.new.positions
        (record { met = c.args.self.now.met; outer = c.args.self.now.outer; level = c.with_repetition-self-in-63.result })
        (after_token names Question levels)
    go [] can h = absurd can
    go (level ∷ levels) can h =
        repeat_token all c.args.positions.now c.with_repetition-self-in-63.new.positions c.args.self.now
        (record { met = c.args.self.now.met; outer = c.args.self.now.outer; level = c.with_repetition-self-in-63.result })
        names AtMostOnce c.with_repetition-self-in-63.ensures.others refl refl c.with_repetition-self-in-63.ensures.level level levels h
