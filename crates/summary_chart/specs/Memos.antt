-- What rules do after a form that ends at a node and after so many letters of a line, wherever it begins; and what is kept of this (own).
use Rattle.std.specs.Prelude.{◌≡◌, ℕ, ◌<◌, ◌≤◌, ◌⊎◌, ◌↔◌, IsTrue, Option, Some, None, List, length, Contains}
use Rattle.text_definitions.specs.Lines.{Line}
use Rattle.segmentation_definitions.specs.Listings.{Key}
use Rattle.derivation.specs.declared.entrance.Entrance.{Entrance}
use Rattle.phase_automaton.specs.Automata.{is_accepting}
use Rattle.annotated_trie.specs.Choices.{AnnotatedTrie, choices_of, parts_of, rules_of_part}
use Rattle.annotated_trie.specs.Searched.{SearchedLexicon}
use Rattle.search_frames.specs.Ahead.{RuleLeadsTo, RuleEnds}
use Rattle.search_frames.specs.Configurations.{rules_in}
use Rattle.summary_chart.specs.declared.memo.Done.{Done}
use Rattle.summary_chart.specs.declared.memo.Memo.{Memo}
use Rattle.summary_chart.specs.declared.memo.Work.{Work}
use Rattle.summary_chart.specs.declared.state_set.StateSet.{StateSet}
use Rattle.summary_chart.specs.declared.table.Table.{Table}
use Rattle.summary_chart.specs.Effects.{AreEffects}
use Rattle.summary_chart.specs.StateSets.{HasState}
use Rattle.summary_chart.specs.Spreading.{place_with}
use Rattle.summary_chart.specs.Tables.{IsIn}

-- the memo keeps this
abbrev pub IsKnown : Memo → Done → Type 0
IsKnown memo done = Contains memo.places.items (Some done)

-- the rules of a part, or all choices of the node where no part is told
abbrev pub rules_told : AnnotatedTrie → ℕ → Option ℕ → List ℕ
rules_told tries node None = choices_of tries node
rules_told tries node (Some part) = rules_of_part tries part

-- the rules of the work
abbrev pub rules_at : AnnotatedTrie → Work → List ℕ
rules_at tries work = rules_told tries work.node work.part

-- the rule is one of one of these parts
abbrev pub IsOfParts : AnnotatedTrie → List ℕ → ℕ → Type 0
IsOfParts tries parts rule = (part : ℕ) × Contains parts part × Contains (rules_of_part tries part) rule

-- a key with this front, and with a rule of one of these parts
abbrev pub IsByPart : AnnotatedTrie → ℕ → ℕ → List ℕ → Key → Type 0
IsByPart tries phase taken parts key = (key.phase ≡ phase) × (key.taken ≡ taken) × IsOfParts tries parts key.rule

-- the part, if there is one, is one of the node
abbrev pub IsPartAt : AnnotatedTrie → ℕ → Option ℕ → Type 0
IsPartAt tries node None = Unit {0}
IsPartAt tries node (Some part) = Contains (parts_of tries node) part

-- the node is one of the trie, and the part one of the node
pub record IsWork (tries : AnnotatedTrie) (work : Work) : Type 0 where
  pub node : work.node < length tries.trie.rows
  pub part : IsPartAt tries work.node work.part

-- all that the memo keeps is of such work
abbrev pub HasWorks : AnnotatedTrie → Memo → Type 0
HasWorks tries memo = (done : Done) → IsKnown memo done → IsWork tries done.work

-- the works give the same: they have the same rules, and all else is the same
pub record IsSameWork (tries : AnnotatedTrie) (one other : Work) : Type 0 where
  pub rules : rules_at tries one ≡ rules_at tries other
  pub end : one.end ≡ other.end
  pub may_end : one.may_end ≡ other.may_end
  pub phase : one.phase ≡ other.phase

-- the memo keeps that a work which gives the same gave a state
abbrev pub IsKnownWith : AnnotatedTrie → Memo → Work → ℕ → Type 0
IsKnownWith tries memo work number = (done : Done) × IsKnown memo done × IsSameWork tries done.work work × HasState done.states number

-- what is kept was kept before, or is that the work gave these states
abbrev pub KeepsKnown : Work → StateSet → Memo → Memo → Type 0
KeepsKnown work states old new = (done : Done) → IsKnown new done → IsKnown old done ⊎ (done ≡ record { work = work; states = states })

-- each rule of the work leads on from the form only to places of the table, with each of the states
abbrev pub IsSpread : SearchedLexicon → Line → Table → Done → Type 0
IsSpread searched line table done = (rule at number : ℕ) (entrance : Entrance) → Contains (rules_at searched.tries done.work) rule
    → RuleLeadsTo (rules_in searched) line done.work.end done.work.phase rule at entrance → HasState done.states number
    → IsIn table (place_with at entrance number)

-- all that the memo keeps is so, and rules stand for those that do the same
pub record AreSpread (searched : SearchedLexicon) (line : Line) (table : Table) (memo : Memo) : Type 0 where
  pub works : HasWorks searched.tries memo
  pub spread : (done : Done) → IsKnown memo done → IsSpread searched line table done
  pub effects : AreEffects (rules_in searched) memo.effects

-- after the phase with this state, one of these rules ends the line or leads on to a place of the table
abbrev pub LivesBy : SearchedLexicon → Line → Table → Work → (ℕ → Type 0) → ℕ → Type 0
LivesBy searched line table work IsOne number = (rule : ℕ) × IsOne rule
    × (((at : ℕ) × (entrance : Entrance) × RuleLeadsTo (rules_in searched) line work.end work.phase rule at entrance × IsIn table (place_with at entrance number))
    ⊎ (RuleEnds (rules_in searched) line work.end work.may_end work.phase rule × IsTrue (is_accepting searched.machine (Some number))))

-- the states are just those after the phase from which a rule of the work does so
abbrev pub IsLiving : SearchedLexicon → Line → Table → Done → Type 0
IsLiving searched line table done = (number : ℕ)
    → HasState done.states number ↔ LivesBy searched line table done.work (Contains (rules_at searched.tries done.work)) number

-- all that the memo keeps is so, and rules stand for those that do the same
pub record AreLiving (searched : SearchedLexicon) (line : Line) (table : Table) (memo : Memo) : Type 0 where
  pub works : HasWorks searched.tries memo
  pub living : (done : Done) → IsKnown memo done → IsLiving searched line table done
  pub effects : AreEffects (rules_in searched) memo.effects

-- each form whose work the memo keeps ends after so many letters at least
abbrev pub EndFrom : ℕ → Memo → Type 0
EndFrom at memo = (done : Done) → IsKnown memo done → at ≤ done.work.end
