-- Which states live after a phase by rules, wherever the form before them begins: by one rule, as its test tells, by some, and by those
-- that begin with the next letter.
use Rattle.std.proofs.Common.{◌≡◌, ◌⊎◌, inl, inr, ℕ, zero, suc, ◌+◌, ◌-◌, ◌<◌, ◌≤◌, ◌↔◌, ◌==◌, IsTrue, Bool, false, Some, List, [], ◌∷◌, ◌++◌, length, map, take, drop, get_or, Contains, refl, sym, ap, subst, ◌∙◌, arith}
use Rattle.std.proofs.lemmas.Bool.{cases_lt, eq-eqb}
use Rattle.std.proofs.lemmas.List.{take_more, take_all, get_or-take, get_or-drop, get_or-map, get_or_default, get_or_past}
use Rattle.std.proofs.lemmas.List.Elements.{Contains-append_left, Contains-push, Contains-push_cases}
use Rattle.list_laws.proofs.Sorted.{not_Contains-nil}
use Rattle.text_definitions.specs.Lines.{Line}
use Rattle.lexicon_definitions.specs.Rules.{no_change}
use Rattle.lexicon_definitions.specs.Leads.{leads_of}
use Rattle.lexicon_definitions.specs.Lexicons.{rule_of}
use Rattle.lexicon_definitions.proofs.LeadLaws.{leads_rise}
use Rattle.segmentation_definitions.proofs.Coverings.{some_letters, rule_at_number}
use Rattle.phase_automaton.specs.Automata.{NumberedState, StateMachine, is_accepting}
use Rattle.derivation.specs.declared.entrance.Entrance.{Entrance}
use Rattle.annotated_trie.specs.Choices.{choices_of, choices_with, first_letter}
use Rattle.annotated_trie.specs.Searched.{SearchedLexicon, IsSearchedLexicon}
use Rattle.search_frames.specs.Ahead.{RuleStands, RuleLeadsTo, RuleEnds}
use Rattle.search_frames.specs.Configurations.{rules_in}
use Rattle.summary_chart.specs.declared.memo.Done.{Done}
use Rattle.summary_chart.specs.declared.memo.Memo.{Memo}
use Rattle.summary_chart.specs.declared.memo.Work.{Work}
use Rattle.summary_chart.specs.declared.state_set.StateSet.{StateSet}
use Rattle.summary_chart.specs.declared.table.Table.{Table}
use Rattle.summary_chart.specs.Effects.{AreEffects}
use Rattle.summary_chart.specs.Memos.{AreLiving, EndFrom, IsLiving, IsSameWork, IsWork, KeepsKnown, LivesBy, rules_at}
use Rattle.summary_chart.specs.StateSets.{HasState}
use Rattle.summary_chart.specs.Tables.{IsEntrance, set_at}
use Rattle.summary_chart.proofs.FrontKeys.{filter_keeps}
use Rattle.summary_chart.proofs.SpreadMemos.{choice_if_written}
use Rattle.summary_chart.proofs.TablePlaces.{same_entrance}

-- ---- rules

-- the choices of a node are numbers of rules
pub choice_number : (searched : SearchedLexicon) (node rule : ℕ) → IsSearchedLexicon searched → node < length searched.tries.trie.rows
    → Contains (choices_of searched.tries node) rule → (0 < rule) × (rule ≤ length (rules_in searched).rules)
choice_number searched node rule is there among =
    let members = ((is.tries.each node there).members rule).0 among in
    (members.0, members.1)

-- the trie keeps the first letter of the w of a rule
first_kept : (searched : SearchedLexicon) (rule : ℕ) → IsSearchedLexicon searched → 0 < rule → rule ≤ length (rules_in searched).rules
    → get_or searched.tries.firsts (rule - 1) 0 ≡ get_or (rule_of (rules_in searched) rule).w 0 0
first_kept searched zero is none few = absurd (omega (arith, none))
first_kept searched (suc n) is above few =
    let place : suc n - 1 ≡ n = omega arith in
    ap (λ (firsts : List ℕ). get_or firsts (suc n - 1) 0) is.tries.firsts
    ∙ ap (λ (m : ℕ). get_or (map first_letter (rules_in searched).rules) m 0) place
    ∙ get_or-map first_letter (rules_in searched).rules n no_change 0 (omega (arith, few))

-- a choice that stands begins with the next letter
pub written_choice : (searched : SearchedLexicon) (line : Line) (node end phase letter rule : ℕ) → IsSearchedLexicon searched
    → node < length searched.tries.trie.rows → end < length line.letters → letter ≡ get_or line.letters end letter
    → RuleStands (rules_in searched) line end phase rule → Contains (choices_of searched.tries node) rule
    → Contains (choices_with searched.tries node letter) rule
written_choice searched line node end phase letter rule is there left next stands among =
    let number = choice_number searched node rule is there among in
    let w = (rule_of (rules_in searched) rule).w in
    let some : 0 < length w = some_letters (rule_at_number (rules_in searched) rule is.lexicon.rules (number.0, number.1)).strict.1 in
    let first_next : get_or w 0 0 ≡ get_or line.letters end 0 =
    ap (λ (word : List ℕ). get_or word 0 0) (sym stands.written)
    ∙ get_or-take (length w) (drop end line.letters) 0 0 some
    ∙ get_or-drop end line.letters 0 0
    ∙ ap (λ (n : ℕ). get_or line.letters n 0) (omega arith) in
    let same : get_or searched.tries.firsts (rule - 1) 0 ≡ letter =
    first_kept searched rule is number.0 number.1 ∙ first_next ∙ get_or_default line.letters end 0 letter left ∙ sym next in
    filter_keeps (λ (n : ℕ). get_or searched.tries.firsts (n - 1) 0 == letter) (choices_of searched.tries node) rule among
    (eq-eqb (get_or searched.tries.firsts (rule - 1) 0) letter same)

-- a state that ends words is one of the machine
pub accepting_within : (machine : StateMachine) (number : ℕ) → IsTrue (is_accepting machine (Some number)) → number < length machine.states
accepting_within machine number accepts = elim (cases_lt number (length machine.states)) [
  | inl below ↦ below
  | inr past ↦
      let none : get_or machine.states number (record { accepting = false; next = [] }) ≡ record { accepting = false; next = [] } =
      get_or_past machine.states number (record { accepting = false; next = [] }) past in
      let no : IsTrue false = subst (λ (s : NumberedState). IsTrue s.accepting) none accepts in
      absurd (cc no)
]

-- ---- which states live by them

module _ (searched : SearchedLexicon) (line : Line) (table : Table) (work : Work) where
  -- by one rule that leads on
  pub lives_led : (rule at : ℕ) (entrance : Entrance) (living : StateSet) → RuleLeadsTo (rules_in searched) line work.end work.phase rule at entrance
      → IsEntrance entrance → living ≡ set_at table at entrance
      → (number : ℕ) → HasState living number ↔ LivesBy searched line table work (λ one. one ≡ rule) number
  lives_led rule at entrance living led proper same number = (
    λ has. (rule, refl, inl (at, entrance, led, record { entrance = proper; state = subst (λ (s : StateSet). HasState s number) same has })),
    λ lives. elim lives.2 [
      | inl leads ↦
          let other = subst (λ (r : ℕ). RuleLeadsTo (rules_in searched) line work.end work.phase r leads.0 leads.1) lives.1 leads.2 in
          let same_at : leads.0 ≡ at = other.at_is ∙ sym led.at_is in
          let same_entered : leads.1 ≡ entrance =
          same_entrance (leads_of (rules_in searched).rules) leads.1 entrance (leads_rise (rules_in searched).rules) other.over led.over
          (other.entrance_is ∙ sym led.entrance_is) in
          let in_set : HasState (set_at table leads.0 leads.1) number = leads.3.state in
          let at_place = subst (λ (a : ℕ). HasState (set_at table a leads.1) number) same_at in_set in
          let at_entrance = subst (λ (e : Entrance). HasState (set_at table at e) number) same_entered at_place in
          subst (λ (s : StateSet). HasState s number) (sym same) at_entrance
      | inr ends ↦
          let ended = subst (RuleEnds (rules_in searched) line work.end work.may_end work.phase) lives.1 ends.0 in
          absurd (led.inner ended.final_rule)
    ],
  )

  -- rules that are told in two ways
  pub lives_same : (IsFirst IsSecond : ℕ → Type 0) → ((rule : ℕ) → RuleStands (rules_in searched) line work.end work.phase rule → IsSecond rule → IsFirst rule)
      → ((rule : ℕ) → IsFirst rule → IsSecond rule) → (living : StateSet)
      → ((number : ℕ) → HasState living number ↔ LivesBy searched line table work IsFirst number)
      → (number : ℕ) → HasState living number ↔ LivesBy searched line table work IsSecond number
  lives_same IsFirst IsSecond back forth living are number = (
    λ has. let lives = (are number).0 has in (lives.0, forth lives.0 lives.1, lives.2),
    λ lives. (are number).1 (
      lives.0,
      back lives.0 (elim lives.2 [ inl leads ↦ leads.2.stands | inr ends ↦ ends.0.stands ]) lives.1,
      lives.2,
    ),
  )

  -- one rule after another
  pub lives_first : (rules : List ℕ) (living : StateSet) → ((number : ℕ) → HasState living number → ⊥)
      → (number : ℕ) → HasState living number ↔ LivesBy searched line table work (Contains (take 0 rules)) number
  lives_first rules living none number = (λ has. absurd (none number has), λ lives. absurd (not_Contains-nil lives.0 lives.1))

  pub lives_more : (rules : List ℕ) (count rule : ℕ) → count < length rules → rule ≡ get_or rules count rule → (old one new : StateSet)
      → ((number : ℕ) → HasState old number ↔ LivesBy searched line table work (Contains (take count rules)) number)
      → ((number : ℕ) → HasState one number ↔ LivesBy searched line table work (λ other. other ≡ rule) number)
      → ((number : ℕ) → HasState new number ↔ (HasState old number ⊎ HasState one number))
      → (number : ℕ) → HasState new number ↔ LivesBy searched line table work (Contains (take (count + 1) rules)) number
  lives_more rules count rule low is old one new before this both number =
      let more : take (count + 1) rules ≡ take count rules ++ rule ∷ [] = take_more rules count rule low ∙ ap (λ (r : ℕ). take count rules ++ r ∷ []) (sym is) in (
        λ has. elim ((both number).0 has) [
          | inl had ↦
              let lives = (before number).0 had in (
                lives.0,
                subst (λ (some : List ℕ). Contains some lives.0) (sym more) (Contains-append_left (take count rules) (rule ∷ []) lives.0 lives.1),
                lives.2,
              )
          | inr now ↦
              let lives = (this number).0 now in (
                lives.0,
                subst (λ (some : List ℕ). Contains some lives.0) (sym more)
                    (subst (λ (r : ℕ). Contains (take count rules ++ rule ∷ []) r) (sym lives.1) (Contains-push (take count rules) rule)),
                lives.2,
              )
        ],
        λ lives. (both number).1 (elim (Contains-push_cases (take count rules) rule lives.0 (subst (λ (some : List ℕ). Contains some lives.0) more lives.1)) [
          | inl among ↦ inl ((before number).1 (lives.0, among, lives.2))
          | inr same ↦ inr ((this number).1 (lives.0, sym same, lives.2))
        ]),
      )

  pub lives_all : (rules : List ℕ) (count : ℕ) → length rules ≤ count → (living : StateSet)
      → ((number : ℕ) → HasState living number ↔ LivesBy searched line table work (Contains (take count rules)) number)
      → (number : ℕ) → HasState living number ↔ LivesBy searched line table work (Contains rules) number
  lives_all rules count enough living are =
      subst (λ (some : List ℕ). (number : ℕ) → HasState living number ↔ LivesBy searched line table work (Contains some) number) (take_all count rules enough) are

  -- the rules that begin with the next letter are all choices that can stand
  pub lives_written : (letter : ℕ) → IsSearchedLexicon searched → work.node < length searched.tries.trie.rows → work.end < length line.letters
      → letter ≡ get_or line.letters work.end letter → (living : StateSet)
      → ((number : ℕ) → HasState living number ↔ LivesBy searched line table work (Contains (choices_with searched.tries work.node letter)) number)
      → (number : ℕ) → HasState living number ↔ LivesBy searched line table work (Contains (choices_of searched.tries work.node)) number
  lives_written letter is there left next living are =
      lives_same (Contains (choices_with searched.tries work.node letter)) (Contains (choices_of searched.tries work.node))
      (λ rule stands among. written_choice searched line work.node work.end work.phase letter rule is there left next stands among)
      (λ rule among. choice_if_written searched.tries work.node letter rule among) living are

-- ---- what the memo keeps

-- what a work gave, the same work gives
pub same_work : (searched : SearchedLexicon) (line : Line) (table : Table) (done : Done) (work : Work) (states : StateSet)
    → IsSameWork searched.tries done.work work → done.states ≡ states → IsLiving searched line table done
    → IsLiving searched line table (record { work = work; states = states })
same_work searched line table done work states same same_states living =
    let Lives = λ (choices : List ℕ) (end phase : ℕ) (may_end : Bool) (s : StateSet). (number : ℕ)
    → HasState s number ↔ LivesBy searched line table (record { node = work.node; part = work.part; end = end; may_end = may_end; phase = phase }) (Contains choices) number in
    let one = rules_at searched.tries done.work in
    let other = rules_at searched.tries work in
    subst (Lives other work.end work.phase work.may_end) same_states
    (subst (λ (b : Bool). Lives other work.end work.phase b done.states) same.may_end
    (subst (λ (p : ℕ). Lives other work.end p done.work.may_end done.states) same.phase
    (subst (λ (e : ℕ). Lives other e done.work.phase done.work.may_end done.states) same.end
    (subst (λ (c : List ℕ). Lives c done.work.end done.work.phase done.work.may_end done.states) same.rules living))))

-- one work more is kept
pub living_kept : (searched : SearchedLexicon) (line : Line) (table : Table) (work : Work) (states : StateSet) (old new : Memo)
    → AreLiving searched line table old → IsWork searched.tries work → IsLiving searched line table (record { work = work; states = states })
    → KeepsKnown work states old new → AreEffects (rules_in searched) new.effects → AreLiving searched line table new
living_kept searched line table work states old new are there living keeps effects = record {
  effects = effects;
  works = λ done known. elim (keeps done known) [
    | inl was ↦ are.works done was
    | inr same ↦ subst (λ (d : Done). IsWork searched.tries d.work) (sym same) there
  ];
  living = λ done known. elim (keeps done known) [
    | inl was ↦ are.living done was
    | inr same ↦ subst (IsLiving searched line table) (sym same) living
  ];
}

pub ends_kept : (at : ℕ) (work : Work) (states : StateSet) (old new : Memo) → at ≤ work.end → EndFrom at old → KeepsKnown work states old new → EndFrom at new
ends_kept at work states old new low ends keeps done known = elim (keeps done known) [
  | inl was ↦ ends done was
  | inr same ↦ subst (λ (d : Done). at ≤ d.work.end) (sym same) low
]
