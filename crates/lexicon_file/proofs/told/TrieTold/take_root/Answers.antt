-- The name whose turn it is, the number and the node decide one after another.
use Rattle.std.proofs.Common.{Some, Ok, [], ◌∷◌, ◌++◌, ap, sym, ◌∙◌}
use Rattle.std.specs.Prelude.{slice_index_or}
use Rattle.std.specs.Str.{bytes_eq}
use Rattle.lexicon_text_definitions.specs.FileLines.{fields_of}
use Rattle.trie_text_definitions.specs.NodeLines.{node_lines}
use Rattle.trie_text_definitions.specs.VersionSteps.{Root, is_root as is_root_of, take_root as take_root_of}
use Rattle.lexicon_file.specs.declared.error.FileWhy.TheVariants.{Field, Child}
use Rattle.lexicon_file.proofs.AnswerLemmas.{refused_for}
use Rattle.lexicon_file.proofs.RootAnswers.{no_fields, other_name, no_number, no_root, root_taken}
use Rattle.lexicon_file.proofs.told.TrieTold.take_root.Goals as goal

pub returns-in_default : goal.returns-in_default
returns-in_default c =
    refused_for (Unit {0}) (take_root_of c.args.self.now (fields_of (Some c.args.text.now))) c.into.result Field c.args.self.now c.into.ensures
    (no_fields c.args.self.now (fields_of (Some c.args.text.now)) c.in_default.ensures)

pub returns-then-not-is_name : goal.returns-then-not-is_name
returns-then-not-is_name c =
    refused_for (Unit {0}) (take_root_of c.args.self.now (fields_of (Some c.args.text.now))) c.into-then-not-is_name.result Field _ c.into-then-not-is_name.ensures
    (other_name _ c.args.self.now c.self.view_is (fields_of (Some c.args.text.now)) c.in-Some.name.now c.in-Some.root.now c.in-Some.ensures
    ((λ i. bytes_eq c.in-Some.name.now (slice_index_or (sym c.names.ensures.value i) (sym c.roots.ensures i) [])) ∙ sym c.is_name.ensures ∙ c.if-not-is_name.true))

pub returns-in_default-read_node_number : goal.returns-in_default-read_node_number
returns-in_default-read_node_number c =
    refused_for (Unit {0}) (take_root_of c.args.self.now (fields_of (Some c.args.text.now))) c.into-in_default-read_node_number.result Field _ c.into-in_default-read_node_number.ensures
    (no_number _ c.args.self.now c.self.view_is (fields_of (Some c.args.text.now)) c.in-Some.name.now c.in-Some.root.now c.in-Some.ensures
    ((λ i. bytes_eq c.in-Some.name.now (slice_index_or (sym c.names.ensures.value i) (sym c.roots.ensures i) [])) ∙ sym c.is_name.ensures ∙ c.if-not-is_name.false) c.in_default-read_node_number.ensures)

pub returns-then-not-is_root : goal.returns-then-not-is_root
returns-then-not-is_root c =
    refused_for (Unit {0}) (take_root_of c.args.self.now (fields_of (Some c.args.text.now))) c.into-then-not-is_root.result Child _ c.into-then-not-is_root.ensures
    (no_root _ c.args.self.now c.self.view_is (fields_of (Some c.args.text.now)) c.in-Some.name.now c.in-Some.root.now c.in-Some.ensures
    ((λ i. bytes_eq c.in-Some.name.now (slice_index_or (sym c.names.ensures.value i) (sym c.roots.ensures i) [])) ∙ sym c.is_name.ensures ∙ c.if-not-is_name.false)
    c.in-Some-read_node_number.root c.in-Some-read_node_number.ensures
    (ap (is_root_of c.self.inside.trie.rows) (sym c.new.ensures) ∙ sym c.is_root.ensures ∙ c.if-not-is_root.true))

pub returns : goal.returns
returns c =
    root_taken _ c.args.self.now c.self.view_is (fields_of (Some c.args.text.now)) c.in-Some.name.now c.in-Some.root.now c.in-Some.ensures
    ((λ i. bytes_eq c.in-Some.name.now (slice_index_or (sym c.names.ensures.value i) (sym c.roots.ensures i) [])) ∙ sym c.is_name.ensures ∙ c.if-not-is_name.false)
    c.in-Some-read_node_number.root c.in-Some-read_node_number.ensures
    (ap (is_root_of c.self.inside.trie.rows) (sym c.new.ensures) ∙ sym c.is_root.ensures ∙ c.if-not-is_root.false)
    ∙ (λ i. Ok (record {
      last = Root;
      front = c.self.inside.front;
      rows = sym c.in_ok-push_root.ensures.rows i;
      nodes = node_lines (sym c.in_ok-push_root.ensures.rows i);
      roots = (ap (λ n. c.self.inside.trie.roots ++ n ∷ []) (sym c.new-2.ensures) ∙ sym c.in_ok-push_root.ensures.roots) i;
    }))
