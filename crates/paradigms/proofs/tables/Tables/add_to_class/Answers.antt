-- The set of the class's rows takes the row where the class has no such row.
use Rattle.std.proofs.Common.{◌≡◌, length, map, arith, ap, Vec, Global, ℕ, slice_set, BuildHasherDefault, FoldHasher}
use Rattle.indexmap.specs.declared.set.IndexSet.{IndexSet}
use Rattle.paradigms.specs.declared.row.Row.{Row}
use Rattle.paradigms.specs.Rows.{classes_of, text_row}
use Rattle.paradigms.proofs.ClassLemmas.{length-classes_of}
use Rattle.paradigms.proofs.ClassesKept.{class_inside, class_twice, class_grown, length-with_set}
use Rattle.paradigms.proofs.tables.Tables.add_to_class.Goals as goal

pub index_mut-requires : goal.index_mut-requires
index_mut-requires c =
    let inside =
    class_inside (λ (set : IndexSet Row (BuildHasherDefault FoldHasher) Global FoldHasher). set.keys) (map (λ (name : Vec ℕ Global). name.items) c.self.inside.names.keys) c.self.inside.rows.items c.args.self.now
    c.self.view_is c.self.invariant.alike c.args.name.now c.args.class c.requires.class in
    omega (arith, inside, c.self.inside.rows.ok.0)

pub returns-then-not-branch-clause-answer : goal.returns-then-not-branch-clause-answer
returns-then-not-branch-clause-answer c =
    class_twice (λ (set : IndexSet Row (BuildHasherDefault FoldHasher) Global FoldHasher). set.keys) (map (λ (name : Vec ℕ Global). name.items) c.self.inside.names.keys) c.self.inside.rows.items c.args.self.now
    c.self.view_is c.self.invariant.alike c.args.number c.args.name.now c.args.class c.args.row c.index_mut.result.now c.self.invariant.distinct c.requires.class c.index_mut.ensures.value c.requires.limits
    c.in_ok-insert.field-0 c.in_ok-insert.ensures.added c.if-not-branch.true

pub returns-clause-answer : goal.returns-clause-answer
returns-clause-answer c =
    class_grown (λ (set : IndexSet Row (BuildHasherDefault FoldHasher) Global FoldHasher). set.keys) (map (λ (name : Vec ℕ Global). name.items) c.self.inside.names.keys) c.self.inside.rows.items c.args.self.now
    c.self.view_is c.self.invariant.alike c.args.number c.args.name.now c.args.class c.args.row c.index_mut.result.now c.self.invariant.distinct c.requires.class c.index_mut.ensures.value c.requires.limits
    c.in_ok-insert.field-0 c.insert.new.self c.in_ok-insert.ensures.added c.in_ok-insert.ensures.keys c.if-not-branch.false

pub returns-clause-grows : goal.returns-clause-grows
returns-clause-grows c =
    let names = map (λ (name : Vec ℕ Global). name.items) c.self.inside.names.keys in
    let before = map (λ (set : IndexSet Row (BuildHasherDefault FoldHasher) Global FoldHasher). map text_row set.keys) c.self.inside.rows.items in
    let after = map (λ (set : IndexSet Row (BuildHasherDefault FoldHasher) Global FoldHasher). map text_row set.keys) (slice_set c.self.inside.rows.items c.args.class c.insert.new.self) in
    let same = length-with_set (λ (set : IndexSet Row (BuildHasherDefault FoldHasher) Global FoldHasher). map text_row set.keys) c.self.inside.rows.items c.args.class c.insert.new.self in
    let alike : length names ≡ length after = omega (arith, same, c.self.invariant.alike) in
    let long : length (classes_of names after) ≡ length names = length-classes_of names after alike in
    let was = length-classes_of names before c.self.invariant.alike in
    let view = ap length c.self.view_is in
    omega (arith, long, was, view)
