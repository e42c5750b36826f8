-- The lists of the stems one after another are the entries of all.
use Rattle.std.proofs.Common.{List, Vec, Global, map, sym, subst}
use Rattle.std.specs.List.{flat_map}
use Rattle.rayon.proofs.ListFacts.{IfOk-then}
use Rattle.form_tags.specs.declared.entry.Entry.{Entry}
use Rattle.form_tags.specs.Entries.{text_entry}
use Rattle.morphology_definitions.specs.Inflection as inflection
use Rattle.morphology_definitions.specs.Inflection.{AreAllInflected}
use Rattle.paradigms.proofs.InflectionLemmas.{all_inflected}
use Rattle.paradigms.proofs.inflection.inflect_all.Goals as goal

pub returns : goal.returns
returns g c =
    let all = all_inflected (λ (part : Vec Entry Global). part.items) c.args.tables.now c.list.result.now c.in_ok-parts.parts.items c.in_ok-parts.ensures in
    record {
      ok = IfOk-then c.joined.result _ _ c.joined.ensures (λ entries same.
          subst (λ (items : List Entry). AreAllInflected c.args.tables.now c.args.stems.now (map text_entry items)) (sym same)
          (subst (λ (stems : List inflection.Stem). AreAllInflected c.args.tables.now stems (map text_entry (flat_map (λ (part : Vec Entry Global). part.items) c.in_ok-parts.parts.items))) c.list.ensures all));
    }
