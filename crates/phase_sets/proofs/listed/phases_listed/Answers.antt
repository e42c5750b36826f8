-- Name by name: each turn lists one phase more, or the field names no set; the names are the parts of the field.
use Rattle.std.proofs.Common.{◌≡◌, nat_lt, Some, List, ℕ, length, map, eqb, rules, tests, arith, Bor, Global, sym, ◌∙◌, ap, true, false}
use Rattle.std.specs.String.{string_bytes}
use Rattle.std.proofs.lemmas.Bool.Decides.{nat_tests}
use Rattle.std.proofs.lemmas.List.{length-map}
use Rattle.std.proofs.lemmas.Iterator.Consumers.{YieldsList-at}
use Rattle.std.proofs.lemmas.Iterator.Splits.{YieldsList-from_slice_split}
use Rattle.phase_sets.specs.ListedPhases.{Listed}
use Rattle.phase_sets.proofs.PartsInTurn.{parts_in_turn, parts_at_end}
use Rattle.phase_sets.proofs.ListedNames.{not_listed, listed_next, set_at_end}
use Rattle.phase_sets.proofs.listed.phases_listed.Goals as goal

pub returns-in_default : goal.returns-in_default
returns-in_default c =
    let cut =
    parts_in_turn
    (YieldsList-at c.into_iter-name-iterator.ensures.into_iter_gives
    (YieldsList-from_slice_split _ (λ byte. eqb byte 44) c.args.field.now c.split-name-items.ensures.rest c.split-name-items.ensures.done c.split-name-items.ensures.closure
    (λ x r q k. search (rules, tests))))
    c.loop-name.yielded _ c.loop-name.yielded_by _ _ c.in-Some.name c.in-Some.is c.next.ensures.steps in
    not_listed (map (string_bytes {Z = Global}) c.args.names.now) c.args.field.now _ _ c.in-Some.name.now c.loop-name.listed cut c.loop-name.invariant.listed
    (sym c.in_default.is ∙ c.with.ensures)

pub loop-name-preserved : goal.loop-name-preserved
loop-name-preserved c = record {
  can = search rules;
  finite = search rules;
  listed = listed_next (map (string_bytes {Z = Global}) c.args.names.now) (λ (x : Bor (List ℕ)). x.now) c.loop-name.yielded c.in-Some.name c.loop-name.listed
      c.in-Some-with.more c.loop-name.invariant.listed (sym c.in-Some-with.is ∙ c.with.ensures);
}

pub returns-then-listed-names : goal.returns-then-listed-names
returns-then-listed-names c =
    let cut =
    parts_at_end
    (YieldsList-at c.into_iter-name-iterator.ensures.into_iter_gives
    (YieldsList-from_slice_split _ (λ byte. eqb byte 44) c.args.field.now c.split-name-items.ensures.rest c.split-name-items.ensures.done c.split-name-items.ensures.closure
    (λ x r q k. search (rules, tests))))
    c.loop-name.yielded _ c.loop-name.yielded_by _ _ c.in-None.is c.next.ensures.steps in
    let long = length-map c.args.names.now (string_bytes {Z = Global}) in
    let is : record { set = c.listed.inside.set; count = c.listed.inside.count; next = c.listed.inside.next } ≡ c.loop-name.listed = c.listed.view_is in
    let few : nat_lt c.loop-name.listed.count (length (map (string_bytes {Z = Global}) c.args.names.now)) ≡ true =
    let test = c.if-listed-names.true in let same = ap (λ (l : Listed). l.count) is in grind (arith, nat_tests) in
    ap (λ (l : Listed). Some l.set) is ∙ set_at_end (map (string_bytes {Z = Global}) c.args.names.now) c.args.field.now _ c.loop-name.listed true cut c.loop-name.invariant.listed few

pub returns-else-listed-names : goal.returns-else-listed-names
returns-else-listed-names c =
    let cut =
    parts_at_end
    (YieldsList-at c.into_iter-name-iterator.ensures.into_iter_gives
    (YieldsList-from_slice_split _ (λ byte. eqb byte 44) c.args.field.now c.split-name-items.ensures.rest c.split-name-items.ensures.done c.split-name-items.ensures.closure
    (λ x r q k. search (rules, tests))))
    c.loop-name.yielded _ c.loop-name.yielded_by _ _ c.in-None.is c.next.ensures.steps in
    let long = length-map c.args.names.now (string_bytes {Z = Global}) in
    let is : record { set = c.listed.inside.set; count = c.listed.inside.count; next = c.listed.inside.next } ≡ c.loop-name.listed = c.listed.view_is in
    let many : nat_lt c.loop-name.listed.count (length (map (string_bytes {Z = Global}) c.args.names.now)) ≡ false =
    let test = c.if-listed-names.false in let same = ap (λ (l : Listed). l.count) is in grind (arith, nat_tests) in
    set_at_end (map (string_bytes {Z = Global}) c.args.names.now) c.args.field.now _ c.loop-name.listed false cut c.loop-name.invariant.listed many
