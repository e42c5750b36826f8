-- Those in the front come first, and then those of each child; where no lead is ahead there are none.
use Rattle.std.proofs.Common.{◌≡◌, ◌<◌, ℕ, List, length, vec_len, get_or, refl, sym, ap, subst, ◌∙◌, arith}
use Rattle.std.proofs.lemmas.Bool.{eqb-true}
use Rattle.std.proofs.lemmas.List.Elements.{All-contains, Contains-get_or}
use Rattle.std.specs.List.{Contains}
use Rattle.std.specs.Ordering.{nat_cmp}
use Rattle.list_laws.specs.Firsts.{AreAll}
use Rattle.lexicon_definitions.specs.Tries.{IsChild, row_of}
use Rattle.strictness.specs.Walks.{IsBelow, MayBegin}
use Rattle.strictness.proofs.AppendedFirsts.{appends_full}
use Rattle.strictness.proofs.LeadsAhead.{further_leads}
use Rattle.strictness.proofs.WalkedForms.{own_then_further, no_letter, letter_more, all_letters, none_ahead}
use Rattle.strictness.proofs.walking.+add_below.Goals as goal

pub returns-then-is_full : goal.returns-then-is_full
returns-then-is_full t c = record {
  ok = appends_full (IsBelow c.args.walk.now.rules.now c.args.walk.now.store.now.rows c.args.walk.now.phase c.args.front.now c.args.node) c.args.found.now c.args.found.now
      (c.is_full.ensures.0 c.if-is_full.true) refl refl;
}

pub returns-then-is_empty : goal.returns-then-is_empty
returns-then-is_empty t c =
    let none : vec_len c.in_ok-leads.leads ≡ 0 = eqb-true (vec_len c.in_ok-leads.leads) 0 (sym c.is_empty.ensures ∙ c.if-is_empty.true) in
    record {
      ok = none_ahead c.args.walk.now.rules.now c.args.walk.now.store.now.rows c.args.walk.now.phase c.args.walk.now.longest c.args.front.now c.args.node
          c.in_ok-leads.leads.items c.args.found.now c.requires.walk.longest c.in_ok-leads.ensures.ok (omega (arith, c.in_ok-leads.leads.ok));
    }

pub add_below-requires : goal.add_below-requires
add_below-requires t c =
    let rows = c.args.walk.now.store.now.rows in
    let children = (row_of rows c.args.node).children in
    let child = c.loop-letter-item.result in
    let within : c.loop-letter.letter-index < length children = omega (arith, c.loop-letter-test.true, ap length c.children-letter-items.ensures.value) in
    let is : child ≡ get_or children c.loop-letter.letter-index child = c.loop-letter-item.is ∙ ap (λ (cs : List (ℕ × ℕ)). get_or cs c.loop-letter.letter-index child) c.children-letter-items.ensures.value in
    let among : Contains children child = subst (Contains children) (sym is) (Contains-get_or children c.loop-letter.letter-index child within) in
    let low = c.requires.node in
    let before = (All-contains (IsChild rows c.args.node) children child (c.requires.walk.trie.rows.each c.args.node low).children among).before in
    let falls = c.decreases in (
      omega (arith, before, falls),
      (
        c.requires.walk,
        (
          omega (arith, before, low),
          further_leads c.args.walk.now.rules.now c.args.walk.now.phase c.args.walk.now.longest c.args.front.now c.in_ok-further.further child.0 c.as_slice.result.now
              c.in_ok-further.ensures (subst (AreAll nat_cmp (MayBegin c.args.walk.now.rules.now c.args.walk.now.phase c.args.walk.now.longest c.args.front.now)) (sym c.as_slice.ensures.value) c.in_ok-leads.ensures.ok),
        ),
      ),
    )

pub loop-letter-init : goal.loop-letter-init
loop-letter-init t c = no_letter c.args.walk.now.rules.now c.args.walk.now.store.now.rows c.args.walk.now.phase c.args.front.now c.args.node c.add_own.new.found

pub loop-letter-preserved : goal.loop-letter-preserved
loop-letter-preserved t c =
    let rows = c.args.walk.now.store.now.rows in
    let children = (row_of rows c.args.node).children in
    let child = c.loop-letter-item.result in
    let within : c.loop-letter.letter-index < length children = omega (arith, c.loop-letter-test.true, ap length c.children-letter-items.ensures.value) in
    let is : child ≡ get_or children c.loop-letter.letter-index child = c.loop-letter-item.is ∙ ap (λ (cs : List (ℕ × ℕ)). get_or cs c.loop-letter.letter-index child) c.children-letter-items.ensures.value in
    letter_more c.args.walk.now.rules.now rows c.args.walk.now.phase c.requires.walk.trie.rows c.args.front.now c.in_ok-further.further c.args.node c.loop-letter.letter-index child
    c.add_own.new.found c.loop-letter.found c.add_below.new.found c.requires.node within is c.in_ok-further.ensures c.loop-letter.invariant c.in_ok-add_below.ensures.ok

pub returns : goal.returns
returns t c = record {
  ok = own_then_further c.args.walk.now.rules.now c.args.walk.now.store.now.rows c.args.walk.now.phase c.args.front.now c.args.node c.args.found.now c.add_own.new.found c.loop-letter.found
      c.in_ok-add_own.ensures.ok
      (all_letters c.args.walk.now.rules.now c.args.walk.now.store.now.rows c.args.walk.now.phase c.args.front.now c.args.node c.loop-letter.letter-index c.add_own.new.found c.loop-letter.found
      (omega (arith, c.loop-letter-test.false, ap length c.children-letter-items.ensures.value)) c.loop-letter.invariant);
}
