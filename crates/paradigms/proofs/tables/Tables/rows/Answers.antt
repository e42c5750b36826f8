-- The list of the class is the one at its number.
use Rattle.std.proofs.Common.{◌≡◌, ◌<◌, length, map, arith, ap, ◌∙◌, Vec, Global, ℕ, BuildHasherDefault, FoldHasher}
use Rattle.std.proofs.lemmas.List.{length-map}
use Rattle.indexmap.specs.declared.set.IndexSet.{IndexSet}
use Rattle.morphology_definitions.specs.Inflection.{rows_of}
use Rattle.paradigms.specs.declared.row.Row.{Row}
use Rattle.paradigms.specs.Rows.{text_row}
use Rattle.paradigms.proofs.ClassLemmas.{length-classes_of, rows_at}
use Rattle.paradigms.proofs.tables.Tables.rows.Goals as goal

pub index-requires : goal.index-requires
index-requires c =
    let names = map (λ (name : Vec ℕ Global). name.items) c.self.inside.names.keys in
    let rows = map (λ (set : IndexSet Row (BuildHasherDefault FoldHasher) Global FoldHasher). map text_row set.keys) c.self.inside.rows.items in
    let long = length-classes_of names rows c.self.invariant.alike in
    let same = ap length c.self.view_is in
    let count = length-map c.self.inside.rows.items (λ (set : IndexSet Row (BuildHasherDefault FoldHasher) Global FoldHasher). map text_row set.keys) in
    omega (arith, long, same, count, c.self.invariant.alike, c.self.inside.rows.ok.0, c.requires)

pub returns : goal.returns
returns c =
    let names = map (λ (name : Vec ℕ Global). name.items) c.self.inside.names.keys in
    let rows = map (λ (set : IndexSet Row (BuildHasherDefault FoldHasher) Global FoldHasher). map text_row set.keys) c.self.inside.rows.items in
    let long = length-classes_of names rows c.self.invariant.alike in
    let same = ap length c.self.view_is in
    let count = length-map c.self.inside.rows.items (λ (set : IndexSet Row (BuildHasherDefault FoldHasher) Global FoldHasher). map text_row set.keys) in
    let inside : c.args.class < length c.self.inside.rows.items = omega (arith, long, same, count, c.self.invariant.alike, c.requires) in
    let alike : length names ≡ length c.self.inside.rows.items = c.self.invariant.alike ∙ count in
    ap (map text_row) c.as_slice.ensures.keys
    ∙ rows_at (λ (set : IndexSet Row (BuildHasherDefault FoldHasher) Global FoldHasher). map text_row set.keys) names c.self.inside.rows.items c.args.class c.index.result.now alike inside c.index.ensures
    ∙ ap (λ classes. rows_of classes c.args.class) c.self.view_is
