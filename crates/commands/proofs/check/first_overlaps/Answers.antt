-- One overlap more is asked for than is kept.
use Rattle.std.proofs.Common.{List, nat_lt, sym, subst, arith}
use Rattle.std.proofs.lemmas.Bool.{ltb-true, lt-ltb}
use Rattle.lexicon_definitions.specs.Lexicons.{Lexicon}
use Rattle.trie_text_definitions.specs.TrieForms.{phases_of}
use Rattle.run_definitions.specs.Overlaps.{AreFirstOverlaps}
use Rattle.run_definitions.specs.declared.limits.TheConstants.{CHECK_OVERLAPS}
use Rattle.segmentation_definitions.specs.Overlaps.{Overlap}
use Rattle.commands.proofs.CheckedOverlaps.{first_of_more}
use Rattle.commands.proofs.check.first_overlaps.Goals as goal

pub returns : goal.returns
returns c =
    let lexicon : Lexicon = record { rules = c.args.rules.now; phases = phases_of c.args.store.now } in
    record {
      ok = subst (λ (xs : List Overlap). AreFirstOverlaps lexicon CHECK_OVERLAPS xs (nat_lt 1000 c.len.result)) (sym c.truncate.ensures.items)
          (first_of_more lexicon CHECK_OVERLAPS c.in_ok-overlaps.overlaps.items (nat_lt 1000 c.len.result) c.in_ok-overlaps.ensures.ok
          (λ t. omega (arith, ltb-true 1000 c.len.result t, c.len.ensures), λ l. lt-ltb 1000 c.len.result (omega (arith, l, c.len.ensures))));
    }
