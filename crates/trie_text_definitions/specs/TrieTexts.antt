-- The text of a rule set with a trie, in versions 2 and 3: the list of its lines (own).
use Rattle.std.specs.Prelude.{ℕ, List, [], ◌∷◌, ◌++◌, map, codes, decimal}
use Rattle.lexicon_definitions.specs.Rules.{Rule}
use Rattle.lexicon_definitions.specs.Lexicons.{RuleSet}
use Rattle.lexicon_definitions.specs.Tries.{Trie}
use Rattle.lexicon_text_definitions.specs.LexiconTexts.{text_of_lines, phase_line, grammar_line, plain_line, rule_line, end_line}
use Rattle.trie_text_definitions.specs.Versions.{Version, Second, Third, head_line}
use Rattle.trie_text_definitions.specs.NodeLines.{node_line}
use Rattle.trie_text_definitions.specs.LimitedRules.{limited_rule_line}

-- a rule's line: version 2 tells its triple, version 3 its sets of phases too
abbrev pub rule_line_in : Version → List (List ℕ) → Rule → List ℕ
rule_line_in Second names rule = rule_line rule
rule_line_in Third names rule = limited_rule_line names rule

-- `root PHASE N`
abbrev pub root_line : List ℕ → ℕ → List ℕ
root_line name root = codes "root " ++ name ++ codes " " ++ decimal root

-- the root of each phase under its name
abbrev pub root_lines : List (List ℕ) → List ℕ → List (List ℕ)
root_lines [] roots = []
root_lines (name ∷ names) [] = []
root_lines (name ∷ names) (root ∷ roots) = root_line name root ∷ root_lines names roots

-- the lines: the first line, phases, grammar, plain pairs, rules, nodes, roots, and the last line
abbrev pub lines_in : Version → RuleSet → Trie → List (List ℕ)
lines_in version rules trie =
    head_line version ∷ map phase_line rules.names
    ++ grammar_line rules.grammar ∷ map plain_line rules.plain
    ++ map (rule_line_in version rules.names) rules.rules
    ++ map node_line trie.rows
    ++ root_lines rules.names trie.roots
    ++ end_line ∷ []

-- the text
unfoldable pub text_in : Version → RuleSet → Trie → List ℕ
text_in version rules trie = text_of_lines (lines_in version rules trie)
