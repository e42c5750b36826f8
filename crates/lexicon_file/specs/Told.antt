-- What the reader of versions 2 and 3 keeps of the lines so far, and what it answers to a line.
use Rattle.std.specs.Prelude.{◌≡◌, ℕ, ◌+◌, ◌*◌, ◌<◌, ◌^◌, ◌⊎◌, ◌++◌, true, Option, Some, None, Result, Ok, Err, List, [], ◌∷◌, length, codes}
use Rattle.std.specs.List.Sorted.{IsStrictlySortedBy}
use Rattle.lexicon_definitions.specs.GrammarFaults.{Fault, IsFirstFault, IsGrammarTextWithinLimits}
use Rattle.lexicon_definitions.specs.Tries.{Row, AreRows}
use Rattle.lexicon_text_definitions.specs.FileLines as lines
use Rattle.trie_text_definitions.specs.NodeLines.{NodeLine, compare_node_lines, node_line_over, node_lines}
use Rattle.trie_text_definitions.specs.VersionFaults as faults
use Rattle.trie_text_definitions.specs.VersionSteps.{Kind, Head, Phase, Grammar, Plain, Rules, Node, Root, End, Told, Taken}
use Rattle.lexicon_file.specs.declared.error.FileWhy.TheVariants.{NoEnd}
use Rattle.lexicon_file.specs.declared.take_error.TakeError.{TakeError}
use Rattle.lexicon_file.specs.declared.take_error.TakeError.TheVariants.{Why, Memory}
use Rattle.lexicon_file.specs.Faults.{why_of}

-- ---- what is kept

-- the bytes of the last line; none where there is no line
abbrev pub last_bytes : List NodeLine → List ℕ
last_bytes [] = []
last_bytes (node ∷ []) = node.bytes
last_bytes (first ∷ second ∷ nodes) = last_bytes (second ∷ nodes)

-- the rows so far are those of a trie, their lines rise, and this is the last one
pub record IsKept (rows : List Row) (line : List ℕ) : Type 0 where
  pub each : AreRows rows
  pub rising : IsStrictlySortedBy compare_node_lines (node_lines rows)
  pub last_line : line ≡ last_bytes (node_lines rows)

-- the last line that version 1 has too, by the last line: after nodes and roots it is one of the body
abbrev pub InStep : Kind → lines.Kind → Type 0
InStep Head front = front ≡ lines.Head
InStep Phase front = front ≡ lines.Phase
InStep Grammar front = front ≡ lines.Grammar
InStep Plain front = front ≡ lines.Plain
InStep Rules front = front ≡ lines.Rule
InStep last front = lines.may_follow front lines.End ≡ true

-- there may be one more node
abbrev pub HasRoom : Told → Type 0
HasRoom told = 64 * (length told.rows + 1) < 2 ^ 32

-- ---- answers

-- the answer to a line but a grammar's that is taken so: what is told after it, or why it is refused
abbrev pub IsAnswer : {A : Type 0} → Taken → Result A TakeError → Told → Type 0
IsAnswer taken (Ok done) after = taken ≡ Ok after
IsAnswer taken (Err (Why why)) after = taken ≡ Err (why_of why)
IsAnswer taken (Err Memory) after = Unit {0}

-- the text of a grammar line that is taken has a fault, which is the reason
pub record IsGrammarFault (taken : Taken) (why : faults.Why) : Type 0 where
  pub told : Told
  pub taken_so : taken ≡ Ok told
  pub grammar_line : told.last ≡ Grammar
  pub fault : Fault
  pub first : IsFirstFault told.front.names told.front.grammar fault
  pub is : why ≡ faults.Grammar fault

-- the answer to any line: after a grammar line its text is one within the limits
abbrev pub IsLineAnswer : {A : Type 0} → Taken → Result A TakeError → Told → Type 0
IsLineAnswer taken (Ok done) after = (taken ≡ Ok after) × (after.last ≡ Grammar → IsGrammarTextWithinLimits after.front.names after.front.grammar)
IsLineAnswer taken (Err (Why why)) after = (taken ≡ Err (why_of why)) ⊎ IsGrammarFault taken (why_of why)
IsLineAnswer taken (Err Memory) after = Unit {0}

-- the only reason is that the end is missing, and then it is; memory may be wanting
abbrev pub IsNoEnd : TakeError → Type 0 → Type 0
IsNoEnd (Why why) Ended = (why ≡ NoEnd) × (Ended → ⊥)
IsNoEnd Memory Ended = Unit {0}

-- ---- lines

-- the name of a kind, where it has one
abbrev pub kind_name : Kind → List ℕ
kind_name Head = []
kind_name Phase = codes "phase"
kind_name Grammar = codes "grammar"
kind_name Plain = codes "plain"
kind_name Rules = codes "rule"
kind_name Node = codes "node"
kind_name Root = codes "root"
kind_name End = codes "end"

-- a name alone, or with a blank and more after it
abbrev pub line_with : List ℕ → Option (List ℕ) → List ℕ
line_with name None = name
line_with name (Some rest) = name ++ 32 ∷ rest

-- what is told with a row more
abbrev pub with_row : Told → Row → Told
with_row told row = record told { last = Node; rows = told.rows ++ row ∷ []; nodes = told.nodes ++ node_line_over told.nodes row ∷ [] }
