-- The choices of a node gone over part by part: one part more is the rules of those so far and its own, and all parts are the choices.
use Rattle.std.proofs.Common.{◌≡◌, ◌⊎◌, inl, inr, ℕ, ◌+◌, ◌<◌, ◌≤◌, ◌↔◌, List, [], ◌∷◌, ◌++◌, length, take, get_or, All, Contains, sym, ap, subst, ◌∙◌}
use Rattle.std.proofs.lemmas.List.{get_or_default, take_more, take_all}
use Rattle.std.proofs.lemmas.List.Elements.{All-contains, Contains-push, Contains-push_cases, Contains-append_left}
use Rattle.list_laws.proofs.Sorted.{All-from_Contains, not_Contains-nil}
use Rattle.text_definitions.specs.Lines.{Line}
use Rattle.segmentation_definitions.specs.Items.{Choice}
use Rattle.segmentation_definitions.specs.Listings.{Key}
use Rattle.answer_paths.specs.Following.{MayStand}
use Rattle.annotated_trie.specs.Choices.{AnnotatedTrie, choices_of, choices_with, parts_of, rules_of_part}
use Rattle.annotated_trie.specs.Searched.{SearchedLexicon, IsSearchedLexicon}
use Rattle.search_frames.specs.declared.configuration.Configuration.{Configuration}
use Rattle.search_frames.specs.Configurations.{rules_in}
use Rattle.search_frames.specs.Frames.{numbered_of}
use Rattle.search_frames.specs.LetterTests.{NoneStands}
use Rattle.summary_chart.specs.declared.memo.Work.{Work}
use Rattle.summary_chart.specs.declared.state_set.StateSet.{StateSet}
use Rattle.summary_chart.specs.declared.table.Table.{Table}
use Rattle.summary_chart.specs.Fronts.{IsFrontAt}
use Rattle.summary_chart.specs.Memos.{IsByPart, IsOfParts, LivesBy}
use Rattle.summary_chart.specs.Onward.{AreLivingBy, Puts}
use Rattle.summary_chart.specs.Spreading.{IsByRule}
use Rattle.summary_chart.specs.StateSets.{HasState}
use Rattle.summary_chart.specs.Summaries.{key_with}
use Rattle.summary_chart.proofs.FrontKeys.{among_written, choice_possible, front_node}
use Rattle.summary_chart.proofs.SpreadMemos.{choice_if_written, choice_numbered}
use Rattle.summary_chart.proofs.LivingVisits.{lives_stands}
use Rattle.summary_chart.proofs.VisitedKeys.{Visit, in_two}

-- ---- the rules of parts

module _ (tries : AnnotatedTrie) (parts : List ℕ) where
  pub of_no_part : (rule : ℕ) → IsOfParts tries (take 0 parts) rule → ⊥
  of_no_part rule told = not_Contains-nil told.0 told.1

  module _ (count part : ℕ) (low : count < length parts) (is : part ≡ get_or parts count part) where
    one_more : take (count + 1) parts ≡ take count parts ++ part ∷ []
    one_more = take_more parts count part low ∙ ap (λ (p : ℕ). take count parts ++ p ∷ []) (sym is)

    -- a rule of these parts and of one more is a rule of these or of the one
    pub of_these_or_one : (rule : ℕ) → IsOfParts tries (take (count + 1) parts) rule → IsOfParts tries (take count parts) rule ⊎ Contains (rules_of_part tries part) rule
    of_these_or_one rule (other, among, has) =
        elim (Contains-push_cases (take count parts) part other (subst (λ (some : List ℕ). Contains some other) one_more among)) [
          | inl before ↦ inl (other, before, has)
          | inr same ↦ inr (subst (λ (p : ℕ). Contains (rules_of_part tries p) rule) (sym same) has)
        ]

    pub of_these : (rule : ℕ) → IsOfParts tries (take count parts) rule → IsOfParts tries (take (count + 1) parts) rule
    of_these rule (other, among, has) =
        (other, subst (λ (some : List ℕ). Contains some other) (sym one_more) (Contains-append_left (take count parts) (part ∷ []) other among), has)

    pub of_the_one : (rule : ℕ) → Contains (rules_of_part tries part) rule → IsOfParts tries (take (count + 1) parts) rule
    of_the_one rule has = (part, subst (λ (some : List ℕ). Contains some part) (sym one_more) (Contains-push (take count parts) part), has)

-- the rules of all parts of a node are its choices
pub choice_if_of_parts : (searched : SearchedLexicon) (node count rule : ℕ) → IsSearchedLexicon searched → node < length searched.tries.trie.rows
    → IsOfParts searched.tries (take count (parts_of searched.tries node)) rule → length (parts_of searched.tries node) ≤ count → Contains (choices_of searched.tries node) rule
choice_if_of_parts searched node count rule is low told enough =
    ((is.tries.parts node low).rules rule).1 (subst (λ (some : List ℕ). IsOfParts searched.tries some rule) (take_all count (parts_of searched.tries node) enough) told)

pub of_parts_if_choice : (searched : SearchedLexicon) (node count rule : ℕ) → IsSearchedLexicon searched → node < length searched.tries.trie.rows
    → length (parts_of searched.tries node) ≤ count → Contains (choices_of searched.tries node) rule → IsOfParts searched.tries (take count (parts_of searched.tries node)) rule
of_parts_if_choice searched node count rule is low enough among =
    subst (λ (some : List ℕ). IsOfParts searched.tries some rule) (sym (take_all count (parts_of searched.tries node) enough)) (((is.tries.parts node low).rules rule).0 among)

-- a part of a node is one of the parts, and its rules are rules of the lexicon
module _ (searched : SearchedLexicon) (node : ℕ) (is : IsSearchedLexicon searched) (low : node < length searched.tries.trie.rows) (parts : List ℕ) (count : ℕ)
    (value : parts ≡ parts_of searched.tries node) (within : count < length parts) where
  pub part_among : Contains (parts_of searched.tries node) (get_or parts count 0)
  part_among = subst (λ (some : List ℕ). Contains some (get_or parts count 0)) value (count, within, get_or_default parts count (get_or parts count 0) 0 within)

  pub part_there : get_or parts count 0 < length searched.tries.part_rules
  part_there = All-contains (λ (part : ℕ). part < length searched.tries.part_rules) (parts_of searched.tries node) (get_or parts count 0) (is.tries.parts node low).there part_among

  pub part_numbers : All (λ (rule : ℕ). rule ≤ length (rules_in searched).rules) (rules_of_part searched.tries (get_or parts count 0))
  part_numbers = All-from_Contains (λ (rule : ℕ). rule ≤ length (rules_in searched).rules) (rules_of_part searched.tries (get_or parts count 0))
      (λ rule has.
      let members = ((is.tries.each node low).members rule).0 (((is.tries.parts node low).rules rule).1 (get_or parts count 0, part_among, has)) in
      members.1)

-- ---- keys by parts

module _ (searched : SearchedLexicon) (line : Line) (choices : List Choice) (place : Configuration) (S : Type 0)
    (visit : Visit searched line choices place S) (phase taken node : ℕ) where
  pub visit_no_part : (s : S) → visit.Adds (IsByPart searched.tries phase taken (take 0 (parts_of searched.tries node))) s s
  visit_no_part s = visit.none (IsByPart searched.tries phase taken (take 0 (parts_of searched.tries node))) s
      (λ key does told. of_no_part searched.tries (parts_of searched.tries node) key.rule told.2)

  pub visit_part : (count part : ℕ) → count < length (parts_of searched.tries node) → part ≡ get_or (parts_of searched.tries node) count part → (s t u : S)
      → visit.Adds (IsByPart searched.tries phase taken (take count (parts_of searched.tries node))) s t
      → visit.Adds (IsByRule phase taken (rules_of_part searched.tries part)) t u
      → visit.Adds (IsByPart searched.tries phase taken (take (count + 1) (parts_of searched.tries node))) s u
  visit_part count part low is s t u so_far one =
      let tries = searched.tries in
      let parts = parts_of searched.tries node in
      in_two searched line choices place S visit (IsByPart tries phase taken (take count parts)) (IsByRule phase taken (rules_of_part tries part))
      (IsByPart tries phase taken (take (count + 1) parts)) s t u
      (λ key does told. elim (of_these_or_one tries parts count part low is key.rule told.2) [
        | inl before ↦ inl (told.0, told.1, before)
        | inr now ↦ inr (told.0, told.1, now)
      ])
      (λ key told. (told.0, told.1, of_these tries parts count part low is key.rule told.2))
      (λ key told. (told.0, told.1, of_the_one tries parts count part low is key.rule told.2))
      so_far one

  -- a part with whose rules no key may stand
  pub visit_part_passed : (part : ℕ) → NoneStands searched line choices (numbered_of searched place) taken (rules_of_part searched.tries part) → (s : S)
      → visit.Adds (IsByRule phase taken (rules_of_part searched.tries part)) s s
  visit_part_passed part none s = visit.none (IsByRule phase taken (rules_of_part searched.tries part)) s (λ key does told. none key told.1 told.2 (visit.stands key does))

  pub visit_all_parts : (count : ℕ) → IsSearchedLexicon searched → node < length searched.tries.trie.rows → length (parts_of searched.tries node) ≤ count → (s t : S)
      → visit.Adds (IsByPart searched.tries phase taken (take count (parts_of searched.tries node))) s t
      → visit.Adds (IsByRule phase taken (choices_of searched.tries node)) s t
  visit_all_parts count is low enough s t so_far =
      visit.same (IsByPart searched.tries phase taken (take count (parts_of searched.tries node))) (IsByRule phase taken (choices_of searched.tries node)) s t
      (λ key does told. (told.0, told.1, of_parts_if_choice searched node count key.rule is low enough told.2))
      (λ key told. (told.0, told.1, choice_if_of_parts searched node count key.rule is low told.2 enough))
      so_far

-- ---- the choices that begin with the next letter

module _ (searched : SearchedLexicon) (line : Line) (choices : List Choice) (place : Configuration) (is : IsSearchedLexicon searched) (phase taken node letter : ℕ)
    (front : IsFrontAt searched line (numbered_of searched place) phase taken node) (next : letter ≡ get_or line.letters (place.at + taken) letter) where
  -- of the keys with a choice no others may stand
  written : (key : Key) → IsByRule phase taken (choices_of searched.tries node) key → MayStand searched.lexicon line choices place.at (numbered_of searched place).entrance key
      → Contains (choices_with searched.tries node letter) key.rule
  written key told may =
      let here = numbered_of searched place in
      let some = choice_numbered searched node key.rule is (front_node searched is line here phase taken node front) told.2 in
      let same : key ≡ key_with phase taken key.rule = λ i. record { phase = told.0 i; taken = told.1 i; rule = key.rule } in
      let stands = subst (MayStand searched.lexicon line choices place.at here.entrance) same may in
      among_written searched is line here phase taken node front choices key.rule some stands letter next
      (choice_possible searched is line here phase taken node front key.rule told.2)

  -- what all choices put into a table, these put
  pub written_puts : (after : StateSet) (old new : Table)
      → Puts searched line choices (numbered_of searched place) after (IsByRule phase taken (choices_of searched.tries node)) old new
      → Puts searched line choices (numbered_of searched place) after (IsByRule phase taken (choices_with searched.tries node letter)) old new
  written_puts after old new puts = record {
    keeps = puts.keeps;
    adds = λ key to told put. puts.adds key to (told.0, told.1, choice_if_written searched.tries node letter key.rule told.2) put;
    only = λ other within there. elim (puts.only other within there) [
      | inl before ↦ inl before
      | inr (key, told, put) ↦ inr (key, (told.0, told.1, written key told put.leads.may.stands), put)
    ];
  }

  -- and the states that live by all choices live by these
  pub written_living : (table : Table) (living : StateSet)
      → AreLivingBy searched line choices (numbered_of searched place) table (IsByRule phase taken (choices_of searched.tries node)) living
      → AreLivingBy searched line choices (numbered_of searched place) table (IsByRule phase taken (choices_with searched.tries node letter)) living
  written_living table living are number = (
    λ has.
        let lives = (are number).0 has in
        let told = lives.1 in
        (lives.0, (told.0, told.1, written lives.0 told (lives_stands searched line choices place table lives.0 number lives.2)), lives.2),
    λ lives.
        let told = lives.1 in
        (are number).1 (lives.0, (told.0, told.1, choice_if_written searched.tries node letter lives.0.rule told.2), lives.2),
  )

-- ---- the states that live by parts

module _ (searched : SearchedLexicon) (line : Line) (table : Table) (work : Work) where
  pub lives_by_none : (parts : List ℕ) (living : StateSet) → ((number : ℕ) → HasState living number → ⊥)
      → (number : ℕ) → HasState living number ↔ LivesBy searched line table work (IsOfParts searched.tries (take 0 parts)) number
  lives_by_none parts living none number = (λ has. absurd (none number has), λ lives. absurd (of_no_part searched.tries parts lives.0 lives.1))

  pub lives_by_one_more : (parts : List ℕ) (count part : ℕ) → count < length parts → part ≡ get_or parts count part → (old one new : StateSet)
      → ((number : ℕ) → HasState old number ↔ LivesBy searched line table work (IsOfParts searched.tries (take count parts)) number)
      → ((number : ℕ) → HasState one number ↔ LivesBy searched line table work (Contains (rules_of_part searched.tries part)) number)
      → ((number : ℕ) → HasState new number ↔ (HasState old number ⊎ HasState one number))
      → (number : ℕ) → HasState new number ↔ LivesBy searched line table work (IsOfParts searched.tries (take (count + 1) parts)) number
  lives_by_one_more parts count part low is old one new before this both number = (
    λ has. elim ((both number).0 has) [
      | inl had ↦ (let lives = (before number).0 had in (lives.0, of_these searched.tries parts count part low is lives.0 lives.1, lives.2))
      | inr now ↦ (let lives = (this number).0 now in (lives.0, of_the_one searched.tries parts count part low is lives.0 lives.1, lives.2))
    ],
    λ lives. (both number).1 (elim (of_these_or_one searched.tries parts count part low is lives.0 lives.1) [
      | inl among ↦ inl ((before number).1 (lives.0, among, lives.2))
      | inr now ↦ inr ((this number).1 (lives.0, now, lives.2))
    ]),
  )

  pub lives_by_all : (count : ℕ) → IsSearchedLexicon searched → work.node < length searched.tries.trie.rows → length (parts_of searched.tries work.node) ≤ count → (living : StateSet)
      → ((number : ℕ) → HasState living number ↔ LivesBy searched line table work (IsOfParts searched.tries (take count (parts_of searched.tries work.node))) number)
      → (number : ℕ) → HasState living number ↔ LivesBy searched line table work (Contains (choices_of searched.tries work.node)) number
  lives_by_all count is low enough living are number = (
    λ has. (let lives = (are number).0 has in (lives.0, choice_if_of_parts searched work.node count lives.0 is low lives.1 enough, lives.2)),
    λ lives. (are number).1 (lives.0, of_parts_if_choice searched work.node count lives.0 is low enough lives.1, lives.2),
  )
