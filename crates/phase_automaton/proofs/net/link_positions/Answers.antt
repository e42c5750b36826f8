-- The lemmas on readings, at the next byte.
use Rattle.std.proofs.Common.{◌≡◌, ℕ, ◌+◌, ◌≤◌, false, Option, List, [], ◌∷◌, length, get_or, drop, refl, sym, ap, ◌∙◌, arith, subst}
use Rattle.std.proofs.lemmas.List.{drop_more, drop_all}
use Rattle.lexicon_definitions.specs.GrammarTexts.{tokens_of, empty_level, level_tree, outermost_tree, after_tokens, grammar_of}
use Rattle.phase_automaton.specs.declared.position.Position.{Position}
use Rattle.phase_automaton.specs.declared.piece.Piece.{Piece}
use Rattle.phase_automaton.specs.declared.reader.Reader.{Reader}
use Rattle.phase_automaton.specs.Names.{positions_of}
use Rattle.phase_automaton.specs.Pieces.{Follows}
use Rattle.phase_automaton.specs.Readers.{IsNet, IsWhole}
use Rattle.phase_automaton.proofs.Readings.{IsReading, Ended, start_reading, symbol_reading, name_reading, within_reading, end_reading, none_follows}
use Rattle.phase_automaton.proofs.net.link_positions.Goals as goal
use Rattle.phase_automaton.proofs.net.link_positions.Goals.{then-not-in_name+in_ok-symbol, else-not-in_name+then-not-goes_on, else-not-in_name+else-not-goes_on}

pub loop-byte-init : goal.loop-byte-init
loop-byte-init c = record {
  count = refl;
  reading = λ names is.
      let text = c.args.text.now in
      subst (λ all. IsReading names all all c.new-reader.result false text (after_tokens names (tokens_of text) (empty_level ∷ []))) (sym is)
      (start_reading names text c.new-reader.result c.new-reader.ensures.met c.requires.syntax (c.new-reader.ensures.reader (positions_of names text)));
}

moved : (reads : List Position → Reader → Type 0) {positions new : List Position} {reader after : Reader} → positions ≡ new → reader ≡ after
    → reads new after → reads positions reader
moved reads {positions} {new} {reader} {after} p r h =
    subst (λ ps. reads ps reader) (sym p) (subst (λ x. reads new x) (sym r) h)

pub loop-byte-preserved : goal.loop-byte-preserved
loop-byte-preserved c =
    let text : List ℕ = c.args.text.now in
    let at = c.loop-byte.byte-index in
    let byte = get_or text at 0 in
    let all : List Position = c.args.positions.now in
    let now = c.is_name_byte-in_name.result in
    let is : drop at text ≡ byte ∷ drop (at + 1) text = drop_more text at 0 (omega arith) in
    record {
      count = c.if-not-in_name.auto.positions ∙ c.loop-byte.invariant.count;
      reading = λ names same.
          let end = after_tokens names (tokens_of text) (empty_level ∷ []) in
          let reading = subst (λ rest. IsReading names all c.loop-byte.positions c.loop-byte.reader c.loop-byte.in_name rest end) is (c.loop-byte.invariant.reading names same) in
          let rest = drop (at + 1) text in
          let reads : List Position → Reader → Type 0 = λ positions reader. IsReading names all positions reader now rest end in
          elim c.if-not-in_name.branch [
            | then-not-in_name+in_ok-symbol w ↦
                moved reads w.positions-is w.reader-is
                (symbol_reading names all c.loop-byte.positions w.symbol.new.positions c.loop-byte.reader w.symbol.new.self c.loop-byte.in_name now byte rest end
                w.if-not-in_name.true (sym c.is_name_byte-in_name.ensures ∙ w.if-not-in_name.true) w.symbol.ensures.met
                (λ levels. w.in_ok-symbol.ensures.reader names all levels) reading)
            | else-not-in_name+then-not-goes_on w ↦
                let outside = subst (λ b. IsReading names all c.loop-byte.positions c.loop-byte.reader b (byte ∷ rest) end) w.if-not-goes_on.true reading in
                let none : (position : ℕ) → Follows all c.loop-byte.reader.met position → ⊥ =
                λ position h. none_follows names text c.loop-byte.reader.met position (subst (λ ps. Follows ps c.loop-byte.reader.met position) same h) in
                moved reads w.positions-is w.reader-is
                (name_reading names all c.loop-byte.positions w.name.new.positions c.loop-byte.reader w.name.new.self now byte rest end
                w.if-not-in_name.false (sym c.is_name_byte-in_name.ensures ∙ w.if-not-in_name.false) w.name.ensures.met none
                (w.name.ensures.reader all) outside)
            | else-not-in_name+else-not-goes_on w ↦
                let within = subst (λ b. IsReading names all c.loop-byte.positions c.loop-byte.reader b (byte ∷ rest) end) w.if-not-goes_on.false reading in
                moved reads w.positions-is w.reader-is
                (within_reading names all c.loop-byte.positions c.loop-byte.reader now byte rest end
                w.if-not-in_name.false (sym c.is_name_byte-in_name.ensures ∙ w.if-not-in_name.false) within)
          ];
    }

-- the levels at the end are one level, whose tree is the grammar
grammar_is : (names : List (List ℕ)) (text : List ℕ) (all positions : List Position) (reader : Reader)
    (e : Ended all positions reader (after_tokens names (tokens_of text) (empty_level ∷ []))) → level_tree e.level ≡ grammar_of names text
unfolding grammar_of
grammar_is names text all positions reader e = sym (ap outermost_tree e.end_is)

pub returns-in_default : goal.returns-in_default
returns-in_default c names same =
    let text : List ℕ = c.args.text.now in
    let all : List Position = c.args.positions.now in
    let end = after_tokens names (tokens_of text) (empty_level ∷ []) in
    let past : length text ≤ c.loop-byte.byte-index = omega arith in
    let reading = subst (λ rest. IsReading names all c.loop-byte.positions c.loop-byte.reader c.loop-byte.in_name rest end)
    (drop_all c.loop-byte.byte-index text past) (c.loop-byte.invariant.reading names same) in
    let e = end_reading names all c.loop-byte.positions c.loop-byte.reader c.loop-byte.in_name end reading in
    absurd (subst (λ (p : Option Piece). IsWhole all c.finish.new.positions p (level_tree e.level)) c.in_default.is (c.finish.ensures all e.level e.item e.reads))

pub returns : goal.returns
returns c names same =
    let text : List ℕ = c.args.text.now in
    let all : List Position = c.args.positions.now in
    let end = after_tokens names (tokens_of text) (empty_level ∷ []) in
    let past : length text ≤ c.loop-byte.byte-index = omega arith in
    let reading = subst (λ rest. IsReading names all c.loop-byte.positions c.loop-byte.reader c.loop-byte.in_name rest end)
    (drop_all c.loop-byte.byte-index text past) (c.loop-byte.invariant.reading names same) in
    let e = end_reading names all c.loop-byte.positions c.loop-byte.reader c.loop-byte.in_name end reading in
    let whole = subst (λ (p : Option Piece). IsWhole all c.finish.new.positions p (level_tree e.level)) c.in-Some.is (c.finish.ensures all e.level e.item e.reads) in
    let none : (before position : ℕ) → Follows all before position → ⊥ =
    λ before position h. none_follows names text before position (subst (λ ps. Follows ps before position) same h) in
    subst (λ g. IsNet c.open_net.new.positions c.open_net.result g) (grammar_is names text all c.loop-byte.positions c.loop-byte.reader e)
    (c.open_net.ensures all (level_tree e.level) none whole)
