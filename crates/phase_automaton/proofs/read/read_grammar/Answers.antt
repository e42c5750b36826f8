-- The lemmas on what is read, at the positions of the text's names.
use Rattle.std.proofs.Common.{◌≡◌, ℕ, ◌<◌, List, None, length, map, drop, Global, sym, ap, ◌∙◌, arith, subst}
use Rattle.std.specs.Prelude.{IfOk}
use Rattle.std.proofs.lemmas.List.{take_at, length-map}
use Rattle.std.proofs.lemmas.Result.{IfOk-weaker}
use Rattle.std.specs.String.{string_bytes}
use Rattle.lexicon_definitions.specs.GrammarTexts.{grammar_of}
use Rattle.lexicon_definitions.specs.GrammarFaults.{fault_before_states}
use Rattle.phase_automaton.specs.declared.position.Position.{Position}
use Rattle.phase_automaton.specs.Names.{positions_of}
use Rattle.phase_automaton.specs.Readers.{IsNet}
use Rattle.phase_automaton.specs.Automata.{StateMachine}
use Rattle.phase_automaton.proofs.Reading.{none_before, read_ok, read_text, read_fault}
use Rattle.phase_automaton.proofs.read.read_grammar.Goals as goal

abbrev names_at : goal.After-drop-positions-2 → List (List ℕ)
names_at c = map (string_bytes {Z = Global}) c.args.names.now

-- there are as many positions as were read
count_at : (c : goal.After-drop-positions-2) → length c.in_ok-positions.positions.items ≡ length (positions_of (names_at c) c.args.text.now)
count_at c = ap length c.in_ok-positions.ensures.positions

-- the positions that the slice has are those that were linked
linked_at : (c : goal.After-drop-positions-2) → c.as_slice.result.now ≡ c.link_positions.new.positions
linked_at c =
    c.as_slice.ensures.value
    ∙ take_at c.link_positions.new.positions (drop (length c.link_positions.new.positions) c.in_ok-positions.positions.items) c.in_ok-positions.positions.len
    (c.link_positions.auto.positions ∙ c.as_mut_slice.ensures.len)

some_at : (c : goal.After-drop-positions-2) → 0 < length (names_at c)
some_at c = rw length-map c.requires.some

none_at : (c : goal.After-drop-positions-2) → fault_before_states (names_at c) c.args.text.now ≡ None
none_at c =
    none_before (names_at c) c.args.text.now c.if-text-gt-MOST_GRAMMAR_BYTES.false (sym c.syntax_fault.ensures ∙ c.in_default.is) c.in_ok-positions.ensures.known
    (omega (arith, count_at c, c.in_ok-positions.positions.ok.0, c.len.ensures, c.if-len-gt-MOST_POSITIONS.false))

room_at : (c : goal.After-drop-positions-2) → 0 < length c.as_slice.result.now
room_at c =
    let same : length c.as_slice.result.now ≡ length c.in_ok-positions.positions.items =
    ap length (linked_at c) ∙ (c.link_positions.auto.positions ∙ ap length c.as_mut_slice.ensures.value) in
    omega (arith, same, count_at c)

net_at : (c : goal.After-drop-positions-2) → IsNet c.as_slice.result.now c.in_ok-ends.ends (grammar_of (names_at c) c.args.text.now)
net_at c =
    subst (λ (ps : List Position). IsNet ps c.in_ok-ends.ends (grammar_of (names_at c) c.args.text.now)) (sym (linked_at c))
    (c.in_ok-ends.ensures (names_at c) (c.as_mut_slice.ensures.value ∙ c.in_ok-positions.ensures.positions))

phases_at : (c : goal.After-drop-positions-2) → IfOk c.build.result (λ (t : StateMachine). t.phases ≡ length (names_at c))
phases_at c =
    IfOk-weaker c.build.result (λ (t : StateMachine). t.phases ≡ length c.args.names.now) (λ (t : StateMachine). t.phases ≡ length (names_at c))
    (λ t h. h ∙ sym (length-map c.args.names.now (string_bytes {Z = Global}))) c.build.ensures.phases

pub returns-clause-text : goal.returns-clause-text
returns-clause-text c =
    read_text (names_at c) c.args.text.now (some_at c) (none_at c) c.as_slice.result.now (room_at c) c.in_ok-ends.ends (net_at c) c.build.result
    c.build.ensures.machine (phases_at c)

pub returns-clause-grammar : goal.returns-clause-grammar
returns-clause-grammar c =
    read_ok (names_at c) c.args.text.now (some_at c) (none_at c) c.as_slice.result.now (room_at c) c.in_ok-ends.ends (net_at c) c.build.result
    c.build.ensures.machine (phases_at c)

pub returns-clause-fault : goal.returns-clause-fault
returns-clause-fault c =
    read_fault (names_at c) c.args.text.now (some_at c) (none_at c) c.as_slice.result.now (room_at c) c.in_ok-ends.ends (net_at c) c.build.result
    c.build.ensures.fault
