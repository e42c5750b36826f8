-- The lemma on readers.
use Rattle.std.proofs.Common.{refl, Some, subst, Option}
use Rattle.lexicon_definitions.specs.GrammarTexts.{level_tree}
use Rattle.phase_automaton.specs.declared.piece.Piece.{Piece}
use Rattle.phase_automaton.specs.Levels.{IsPart}
use Rattle.phase_automaton.proofs.ReaderTrees.{close_step}
use Rattle.phase_automaton.proofs.reader.Reader.close.Goals as goal

pub returns-in_default-finished-clause-reader : goal.returns-in_default-finished-clause-reader
returns-in_default-finished-clause-reader c all level outer levels some h =
    let from = h.stack.0 in
    let until = c.args.self.now.met in
    let part = c.finished.ensures.piece level from until some h.stack.1 in
    absurd (subst (λ (p : Option Piece). IsPart c.finished.new.positions p (Some (level_tree level)) from until) c.in_default-finished.is part)

pub returns-clause-reader : goal.returns-clause-reader
returns-clause-reader c all level outer levels some h =
    let x = c.in-Some.ensures.items in
    close_step all c.args.positions.now c.finished.new.positions c.with_item-self.new.positions c.args.self.now
    (record { met = c.args.self.now.met; outer = c.pop.new.self; level = c.with_item-self.result })
    c.in-Some.outer c.in-Some-finished.item level outer levels x refl
    c.finished.ensures.others c.with_item-self.ensures.others
    (λ from until l. subst (λ (p : Option Piece). IsPart c.finished.new.positions p (Some (level_tree level)) from until) c.in-Some-finished.is
    (c.finished.ensures.piece level from until some l))
    c.with_item-self.ensures.level h
