-- The names from the front, one byte more.
use Rattle.std.proofs.Common.{◌≡◌, ℕ, ◌+◌, true, false, inl, inr, ◌⊎◌, position, map, get_or, drop, [], ◌∷◌, ◌++◌, arith, sym, ap, ◌∙◌, Global}
use Rattle.std.proofs.lemmas.List.{drop_more, take_rest}
use Rattle.std.proofs.lemmas.Grind.{common_steps}
use Rattle.std.specs.Option.{option_map}
use Rattle.std.specs.Str.{bytes_eq}
use Rattle.std.specs.String.{string_bytes}
use Rattle.lexicon_definitions.specs.GrammarFaults.{Fault, UnknownPhase, names_from, first_unknown}
use Rattle.phase_automaton.specs.Names.{first_name, opening_position, position_of_name, positions_of}
use Rattle.phase_automaton.proofs.NamesForward.{names_are, names_after, positions_begin, known_begin, unknown_begins, none_begins}
use Rattle.phase_automaton.proofs.names.read_positions.Goals as goal
use Rattle.phase_automaton.proofs.names.read_positions.Goals.{then-in_name+then-not-goes_on+in-Some+in_ok-push-2, else-in_name, else-in_name-via-then-in_name+else-not-goes_on, else-in_name-via-else-in_name}

pub loop-at-init : goal.loop-at-init
loop-at-init c =
    let names = map (string_bytes {Z = Global}) c.args.names.now in
    let e = names_are c.args.text.now 0 in
    let items : c.push.new.self.items ≡ opening_position ∷ [] = grind (arith, common_steps) in
    record {
      positions = ap (λ items. items ++ map (position_of_name names) (names_after false 0 c.args.text.now)) items
          ∙ ap (λ ns. opening_position ∷ map (position_of_name names) ns) e;
      known = ap (first_unknown names) e;
    }

pub returns-in_default-clause-fault : goal.returns-in_default-clause-fault
returns-in_default-clause-fault c =
    let text = c.args.text.now in
    let at = c.loop-at.at in
    let names = map (string_bytes {Z = Global}) c.args.names.now in
    let rest = drop at text in
    let name : c.first_name.result.now ≡ first_name rest = c.first_name.ensures ∙ ap first_name (take_rest text at) in
    let unknown = unknown_begins names (first_unknown names (names_after c.loop-at.in_name at rest)) at (get_or text at 0) rest (drop (at + 1) text) (drop_more text at 0 (omega arith))
    (sym c.is_name_byte-in_name.ensures ∙ c.if-in_name.true) (sym c.in_default.is ∙ (c.phase_of.ensures ∙ ap (λ b. position (bytes_eq b) names) name))
    (ap (λ b. first_unknown names (names_after b at rest)) (sym c.if-not-goes_on.true)) in
    rw c.into.ensures (ap (option_map {T = ℕ} {U = Fault} (λ x. UnknownPhase x)) (sym c.loop-at.invariant.known ∙ unknown))

pub loop-at-preserved : goal.loop-at-preserved
loop-at-preserved c =
    let text = c.args.text.now in
    let at = c.loop-at.at in
    let names = map (string_bytes {Z = Global}) c.args.names.now in
    let rest = drop at text in
    let is = drop_more text at 0 (omega arith) in
    elim c.if-in_name.branch [
      | then-in_name+then-not-goes_on+in-Some+in_ok-push-2 w ↦
          let name : w.first_name.result.now ≡ first_name rest = w.first_name.ensures ∙ ap first_name (take_rest text at) in
          let phase = w.in-Some.phase in
          let found = sym w.in-Some.is ∙ (w.phase_of.ensures ∙ ap (λ b. position (bytes_eq b) names) name) in
          let letter = sym c.is_name_byte-in_name.ensures ∙ w.if-in_name.true in
          let items : c.if-in_name.positions.items ≡ c.loop-at.positions.items ++ record { phase = phase; follow = record { bits = 0 } } ∷ [] = grind (arith, common_steps) in
          let was = ap (λ b. names_after b at rest) (sym w.if-not-goes_on.true) in
          let now = ap (λ b. names_after b (at + 1) (drop (at + 1) text)) w.if-in_name.true in
          record {
            positions = ap (λ ps. ps ++ map (position_of_name names) (names_after c.is_name_byte-in_name.result (at + 1) (drop (at + 1) text))) items
                ∙ (ap (λ ns. (c.loop-at.positions.items ++ record { phase = phase; follow = record { bits = 0 } } ∷ []) ++ map (position_of_name names) ns) now
                ∙ positions_begin names c.loop-at.positions.items (positions_of names text) at (get_or text at 0) phase rest (drop (at + 1) text) is letter found
                (ap (λ ns. c.loop-at.positions.items ++ map (position_of_name names) ns) was ∙ c.loop-at.invariant.positions));
            known = ap (first_unknown names) now
                ∙ known_begin names (first_unknown names (names_from 0 text)) at (get_or text at 0) phase rest (drop (at + 1) text) is letter found
                (ap (first_unknown names) was ∙ c.loop-at.invariant.known);
          }
      | else-in_name w ↦
          let now : (c.is_name_byte-in_name.result ≡ false) ⊎ ((c.is_name_byte-in_name.result ≡ true) × (c.loop-at.in_name ≡ true)) =
          elim w.else-in_name.branch [
            | else-in_name-via-then-in_name+else-not-goes_on v ↦ inr (v.if-in_name.true, v.if-not-goes_on.false)
            | else-in_name-via-else-in_name v ↦ inl v.if-in_name.false
          ] in
          let none = sym (none_begins at (get_or text at 0) rest (drop (at + 1) text) c.loop-at.in_name c.is_name_byte-in_name.result is c.is_name_byte-in_name.ensures now) in
          record {
            positions = ap (λ ps. ps.items ++ map (position_of_name names) (names_after c.is_name_byte-in_name.result (at + 1) (drop (at + 1) text))) w.positions-is
                ∙ (ap (λ ns. c.loop-at.positions.items ++ map (position_of_name names) ns) none ∙ c.loop-at.invariant.positions);
            known = ap (first_unknown names) none ∙ c.loop-at.invariant.known;
          }
    ]
