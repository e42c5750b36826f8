-- Before the first entry there are no pairs; then one entry more.
use Rattle.std.proofs.Common.{ℕ, ◌+◌, ◌<◌, List, length, map, ap, subst, Global, arith}
use Rattle.std.specs.String.{string_bytes}
use Rattle.toml.specs.View.{table_view}
use Rattle.rule_file_definitions.specs.PlainEntries.{add_plain, read_plain, pairs_of}
use Rattle.rule_file.specs.Held.{AreAdded}
use Rattle.rule_file.proofs.Turns.{left_first}
use Rattle.rule_file.proofs.PlainLemmas.{no_pair_rises, entry_rises, entry_turn}
use Rattle.rule_file.proofs.plain.read_plain.Goals as goal

pub loop-place-init : goal.loop-place-init
unfolding read_plain
loop-place-init c = record {
  rising = no_pair_rises c.new-pairs.result.items c.new-pairs.ensures.items;
  rest = ap (λ (pairs : List (ℕ × ℕ)). add_plain (table_view c.args.classes.now) pairs 1 (map (string_bytes {Z = Global}) c.args.entries.now)) c.new-pairs.ensures.items;
}

pub loop-place-preserved : goal.loop-place-preserved
loop-place-preserved c =
    let at = c.loop-place in
    let within : at.place < length c.args.entries.now = omega (arith, at.auto.place-end, c.loop-place-test.true) in
    let first = left_first (string_bytes {Z = Global}) c.args.entries.now at.place c.index-entries-place.result within c.index-entries-place.is in
    let added = subst (λ entry. AreAdded (pairs_of (table_view c.args.classes.now) entry) at.pairs.items c.in_ok-add_entry.field-0 c.add_entry.new.pairs.items) c.as_bytes.ensures.value c.in_ok-add_entry.ensures in
    record {
      rising = entry_rises (table_view c.args.classes.now) (string_bytes c.index-entries-place.result) at.pairs.items c.add_entry.new.pairs.items c.in_ok-add_entry.field-0 c.if-not-branch.false added at.invariant.rising;
      rest = entry_turn (table_view c.args.classes.now) (string_bytes c.index-entries-place.result) at.pairs.items c.add_entry.new.pairs.items c.in_ok-add_entry.field-0 (at.place + 1) _ _ _
          c.if-not-branch.false added first at.invariant.rest;
    }
