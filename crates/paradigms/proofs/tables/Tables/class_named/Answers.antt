-- The place of the name among the names is the number of its class.
use Rattle.std.proofs.Common.{◌≡◌, map, ap, sym, ◌∙◌, Vec, Global, ℕ, position, BuildHasherDefault, FoldHasher, Some, []}
use Rattle.std.proofs.lemmas.List.{length-map}
use Rattle.std.proofs.lemmas.List.Quantifiers.{position-Some}
use Rattle.indexmap.specs.declared.set.IndexSet.{IndexSet}
use Rattle.paradigm_file_definitions.specs.TableFiles.{has_name}
use Rattle.paradigms.specs.declared.row.Row.{Row}
use Rattle.paradigms.specs.Rows.{text_row}
use Rattle.paradigms.proofs.ClassLemmas.{class_found}
use Rattle.paradigms.proofs.tables.Tables.class_named.Goals as goal

pub returns-in-Some-clause-named : goal.returns-in-Some-clause-named
returns-in-Some-clause-named c =
    let rows = map (λ (set : IndexSet Row (BuildHasherDefault FoldHasher) Global FoldHasher). map text_row set.keys) c.self.inside.rows.items in
    let alike = sym (length-map c.self.inside.names.keys (λ (name : Vec ℕ Global). name.items)) ∙ c.self.invariant.alike in
    c.in-Some.ensures.index ∙ class_found (λ (name : Vec ℕ Global). name.items) c.args.name.now c.self.inside.names.keys rows alike
    ∙ ap (position (has_name c.args.name.now)) c.self.view_is

pub returns-in-Some-clause-within : goal.returns-in-Some-clause-within
returns-in-Some-clause-within c =
    let rows = map (λ (set : IndexSet Row (BuildHasherDefault FoldHasher) Global FoldHasher). map text_row set.keys) c.self.inside.rows.items in
    let alike = sym (length-map c.self.inside.names.keys (λ (name : Vec ℕ Global). name.items)) ∙ c.self.invariant.alike in
    let named : ◌≡◌ {A = _} (Some c.in-Some.class) (position (has_name c.args.name.now) c.args.self.now) =
    c.in-Some.ensures.index ∙ class_found (λ (name : Vec ℕ Global). name.items) c.args.name.now c.self.inside.names.keys rows alike
    ∙ ap (position (has_name c.args.name.now)) c.self.view_is in
    (position-Some (has_name c.args.name.now) c.args.self.now c.in-Some.class (record { name = []; rows = [] }) (sym named)).0

pub returns-in-None-clause-named : goal.returns-in-None-clause-named
returns-in-None-clause-named c =
    let rows = map (λ (set : IndexSet Row (BuildHasherDefault FoldHasher) Global FoldHasher). map text_row set.keys) c.self.inside.rows.items in
    let alike = sym (length-map c.self.inside.names.keys (λ (name : Vec ℕ Global). name.items)) ∙ c.self.invariant.alike in
    c.in-None.ensures.index ∙ class_found (λ (name : Vec ℕ Global). name.items) c.args.name.now c.self.inside.names.keys rows alike
    ∙ ap (position (has_name c.args.name.now)) c.self.view_is
