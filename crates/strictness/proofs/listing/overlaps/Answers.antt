-- One phase after another.
use Rattle.std.proofs.Common.{◌≡◌, ◌<◌, length, ap, sym, subst, ◌∙◌, arith, Global}
use Rattle.std.proofs.lemmas.Bool.{eqb-true}
use Rattle.std.proofs.lemmas.List.{length-map}
use Rattle.std.specs.Ordering.{nat_cmp}
use Rattle.list_laws.specs.Firsts.{AreAll}
use Rattle.lexicon_definitions.specs.Leads.{leads_of}
use Rattle.lexicon_definitions.specs.Lexicons.{Lexicon}
use Rattle.std.specs.String.{string_bytes}
use Rattle.trie_text_definitions.specs.TrieForms.{forms_of_root, phases_of}
use Rattle.strictness.specs.Overlaps.{AreFirstOverlaps}
use Rattle.strictness.proofs.PhaseOverlaps.{no_phase, phase_more, all_phases, without_rules}
use Rattle.strictness.proofs.listing.overlaps.Goals as goal

pub returns-then-is_empty : goal.returns-then-is_empty
returns-then-is_empty c =
    let lexicon : Lexicon = record { rules = c.args.rules.now; phases = phases_of c.args.store.now } in
    let none : length c.rules.result.now ≡ 0 = eqb-true (length c.rules.result.now) 0 (sym c.is_empty.ensures ∙ c.if-is_empty.true) in
    record {
      ok = subst (AreFirstOverlaps lexicon c.args.most) (sym c.new.ensures.items)
          (without_rules lexicon c.args.most (ap length (sym c.rules.ensures.value) ∙ none));
    }

pub loop-phase-init : goal.loop-phase-init
loop-phase-init c =
    let lexicon : Lexicon = record { rules = c.args.rules.now; phases = phases_of c.args.store.now } in no_phase lexicon c.new-found.result

pub loop-phase-preserved : goal.loop-phase-preserved
loop-phase-preserved c =
    let lexicon : Lexicon = record { rules = c.args.rules.now; phases = phases_of c.args.store.now } in
    phase_more lexicon c.loop-phase.phase c.new-found.result c.loop-phase.found c.add_of_phase.new.found c.loop-phase.invariant
    c.in_ok-add_of_phase.ensures.ok

pub add_of_phase-requires-clause-leads : goal.add_of_phase-requires-clause-leads
add_of_phase-requires-clause-leads c =
    subst (AreAll nat_cmp (λ place. place < length (leads_of c.args.rules.now.rules))) (sym c.as_slice.ensures.value) c.in_ok-leads.ensures.ok

pub returns : goal.returns
returns c =
    let lexicon : Lexicon = record { rules = c.args.rules.now; phases = phases_of c.args.store.now } in
    let long = length-map c.args.store.now.roots (forms_of_root c.args.store.now.rows) in
    let names = ap length c.phases.ensures in
    let texts = length-map c.phases.result.now (string_bytes {Z = Global}) in
    record {
      ok = all_phases lexicon c.loop-phase.phase c.args.most c.new-found.result c.loop-phase.found
          (omega (arith, c.loop-phase-test.false, long, names, texts, c.requires)) c.new-found.ensures.overlaps c.new-found.ensures.most
          c.loop-phase.invariant;
    }
