-- a root that may not stand after no letters has a wrong delta; otherwise whether a letter is put back decides
use Rattle.std.proofs.Common.{ℕ, List, sym, subst}
use Rattle.std.specs.Prelude.{All}
use Rattle.trie_checks.specs.NodeDepths.{MayBegin}
use Rattle.trie_checks.proofs.DepthSteps.{least_of_depths}
use Rattle.trie_checks.proofs.PutSteps.{none_put_above}
use Rattle.trie_checks.proofs.WrongTries.{told_by_answer, wrong_by_lengths, lengths_right}
use Rattle.trie_checks.proofs.wrong_deltas.has_wrong_delta.Goals as goal

pub returns-then-not-may_begin : goal.returns-then-not-may_begin
returns-then-not-may_begin c =
    let least = c.in_ok-depths.depths.least.items in
    let ends = c.in_ok-depths.depths.ends.items in
    let told = c.in_ok-depths.ensures in
    record {
      ok = sym (wrong_by_lengths c.args.store.now told.trie told.size least ends told.ok (λ all.
          let passes = c.may_begin.ensures.1 (subst (λ (rs : List ℕ). All (MayBegin least ends) rs) (sym c.roots.ensures.value) all) in
          let fails = c.if-not-may_begin.true in
          absurd (cc)));
    }

pub has_put_back-requires : goal.has_put_back-requires
has_put_back-requires c =
    let least = c.in_ok-depths.depths.least.items in
    record {
      farthest = none_put_above c.args.store.now.rows least (least_of_depths c.args.store.now.rows least c.in_ok-depths.depths.ends.items c.in_ok-depths.ensures.ok) c.farthest.result c.farthest.ensures;
    }

pub returns : goal.returns
returns c =
    let least = c.in_ok-depths.depths.least.items in
    let ends = c.in_ok-depths.depths.ends.items in
    let told = c.in_ok-depths.ensures in
    let each = subst (λ (rs : List ℕ). All (MayBegin least ends) rs) c.roots.ensures.value (c.may_begin.ensures.0 c.if-not-may_begin.false) in
    record {
      ok = told_by_answer c.args.store.now told.trie c.has_put_back.result (lengths_right c.args.store.now told.trie told.size least ends told.ok each) c.has_put_back.ensures.ok;
    }
