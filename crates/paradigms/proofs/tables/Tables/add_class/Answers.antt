-- A class with a new name goes last, with its one row.
use Rattle.std.proofs.Common.{◌≡◌, ◌++◌, ◌∷◌, [], List, length, map, arith, ap, ◌∙◌, Vec, Global, ℕ, BuildHasherDefault, FoldHasher}
use Rattle.std.proofs.lemmas.List.{length-append}
use Rattle.indexmap.specs.declared.set.IndexSet.{IndexSet}
use Rattle.paradigms.specs.declared.row.Row.{Row}
use Rattle.paradigms.specs.Kept.{AreKept}
use Rattle.paradigms.specs.Rows.{text_row}
use Rattle.paradigms.proofs.ClassLemmas.{length-classes_of}
use Rattle.paradigms.proofs.ClassesKept.{new_name, class_added, kept_after, name_pushed}
use Rattle.paradigms.proofs.tables.Tables.add_class.Goals as goal

pub invariant_of-self-2 : goal.invariant_of-self-2
invariant_of-self-2 c =
    let names = map (λ (name : Vec ℕ Global). name.items) c.self.inside.names.keys in
    let after = map (λ (name : Vec ℕ Global). name.items) c.insert.new.self.keys in
    let none = new_name (λ (set : IndexSet Row (BuildHasherDefault FoldHasher) Global FoldHasher). set.keys) names c.self.inside.rows.items c.args.self.now c.self.view_is c.self.invariant.alike
    c.args.number c.args.name.now c.args.row c.requires.class c.requires.limits in
    let named = name_pushed (λ (name : Vec ℕ Global). name.items) c.in_ok-name.name c.self.inside.names.keys c.insert.new.self.keys c.args.name.now c.in_ok-name.ensures.items none c.in_ok-insert.ensures.keys in
    let pushed : c.push.new.self.items ≡ c.self.inside.rows.items ++ c.in_ok-rows.rows ∷ [] =
    c.in_ok-push.ensures.items ∙ ap (λ (rows : List (IndexSet Row (BuildHasherDefault FoldHasher) Global FoldHasher)). rows ++ c.in_ok-rows.rows ∷ []) c.reserve.ensures.items in
    let one = c.in_ok-rows.ensures in
    kept_after (λ (set : IndexSet Row (BuildHasherDefault FoldHasher) Global FoldHasher). set.keys) names c.self.inside.rows.items c.args.self.now c.self.view_is c.self.invariant.alike
    c.args.number c.args.name.now c.args.row c.requires.class c.requires.limits after c.push.new.self.items c.in_ok-rows.rows named pushed one c.self.invariant.distinct c.requires.before

pub returns-clause-answer : goal.returns-clause-answer
returns-clause-answer c =
    let names = map (λ (name : Vec ℕ Global). name.items) c.self.inside.names.keys in
    let after = map (λ (name : Vec ℕ Global). name.items) c.insert.new.self.keys in
    let none = new_name (λ (set : IndexSet Row (BuildHasherDefault FoldHasher) Global FoldHasher). set.keys) names c.self.inside.rows.items c.args.self.now c.self.view_is c.self.invariant.alike
    c.args.number c.args.name.now c.args.row c.requires.class c.requires.limits in
    let named = name_pushed (λ (name : Vec ℕ Global). name.items) c.in_ok-name.name c.self.inside.names.keys c.insert.new.self.keys c.args.name.now c.in_ok-name.ensures.items none c.in_ok-insert.ensures.keys in
    let pushed : c.push.new.self.items ≡ c.self.inside.rows.items ++ c.in_ok-rows.rows ∷ [] =
    c.in_ok-push.ensures.items ∙ ap (λ (rows : List (IndexSet Row (BuildHasherDefault FoldHasher) Global FoldHasher)). rows ++ c.in_ok-rows.rows ∷ []) c.reserve.ensures.items in
    let one = c.in_ok-rows.ensures in
    class_added (λ (set : IndexSet Row (BuildHasherDefault FoldHasher) Global FoldHasher). set.keys) names c.self.inside.rows.items c.args.self.now c.self.view_is c.self.invariant.alike
    c.args.number c.args.name.now c.args.row c.requires.class c.requires.limits after c.push.new.self.items c.in_ok-rows.rows named pushed one

pub returns-clause-grows : goal.returns-clause-grows
returns-clause-grows c =
    let names = map (λ (name : Vec ℕ Global). name.items) c.self.inside.names.keys in
    let before = map (λ (set : IndexSet Row (BuildHasherDefault FoldHasher) Global FoldHasher). map text_row set.keys) c.self.inside.rows.items in
    let after = map (λ (name : Vec ℕ Global). name.items) c.insert.new.self.keys in
    let none = new_name (λ (set : IndexSet Row (BuildHasherDefault FoldHasher) Global FoldHasher). set.keys) names c.self.inside.rows.items c.args.self.now c.self.view_is c.self.invariant.alike
    c.args.number c.args.name.now c.args.row c.requires.class c.requires.limits in
    let named = name_pushed (λ (name : Vec ℕ Global). name.items) c.in_ok-name.name c.self.inside.names.keys c.insert.new.self.keys c.args.name.now c.in_ok-name.ensures.items none c.in_ok-insert.ensures.keys in
    let kept : AreKept after (map (λ (set : IndexSet Row (BuildHasherDefault FoldHasher) Global FoldHasher). map text_row set.keys) c.push.new.self.items) = invariant_of-self-2 c in
    let long = length-classes_of after (map (λ (set : IndexSet Row (BuildHasherDefault FoldHasher) Global FoldHasher). map text_row set.keys) c.push.new.self.items) kept.alike in
    let was = length-classes_of names before c.self.invariant.alike in
    let view = ap length c.self.view_is in
    let one_more = ap length named in
    let more = length-append names (c.args.name.now ∷ []) in
    omega (arith, long, was, view, one_more, more)
