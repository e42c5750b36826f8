-- The text of a lexicon is read as this lexicon: its lines are read one after another, kind by kind, and each may follow those
-- before it, since the lexicon is lawful as a whole.
use Rattle.std.proofs.Common.{◌≡◌, ◌≢◌, ℕ, ◌+◌, ◌<◌, ◌≤◌, inl, true, Ok, List, [], ◌∷◌, ◌++◌, length, map, replicate, get_or, codes, All, AllPairs, refl, sym, ◌∙◌, ap, subst, arith}
use Rattle.std.specs.List.{AllByRecursion}
use Rattle.std.specs.List.Sorted.{IsStrictlySortedBy}
use Rattle.std.proofs.lemmas.List.{append_assoc, append-nil, map-append, length-append, length-replicate}
use Rattle.std.proofs.lemmas.List.Elements.{All-from_recursion, recursion_from_All, All-get_or, All-cons, All-nil}
use Rattle.text_definitions.specs.Letters.{IsLetter}
use Rattle.text_definitions.specs.Words.{IsWord}
use Rattle.text_definitions.specs.Slp1.{slp1_of_word}
use Rattle.lexicon_definitions.specs.declared.limits.TheConstants.{MOST_PHASES, MOST_RULES, MOST_LEADS, MOST_FORM_LINES}
use Rattle.lexicon_definitions.specs.Rules.{Rule as RuleValue, phases_after, unlimited_rule}
use Rattle.lexicon_definitions.specs.GrammarFaults.{IsGrammarTextWithinLimits}
use Rattle.lexicon_definitions.specs.Lexicons.{Lexicon, Form as FormValue, IsPhaseName, IsPhase, IsFormEntry, compare_pairs}
use Rattle.lexicon_definitions.specs.Limits.{IsShortForm}
use Rattle.lexicon_text_definitions.specs.LexiconTexts.{head_line, phase_line, grammar_line, plain_line, rule_line, form_line, end_line, lines_of, text_of, text_of_lines}
use Rattle.lexicon_text_definitions.specs.FileLines.{Line, lines_of_bytes, Kind, Head, Phase, Grammar, Plain, Rule, Form, End, may_follow}
use Rattle.lexicon_text_definitions.specs.FileContents.{compare_entries, Told, nothing_told, different_v, entries_from, lexicon_told}
use Rattle.lexicon_definitions.specs.FormEntries.{Entry}
use Rattle.lexicon_text_definitions.proofs.FormLines.{with_lines}
use Rattle.lexicon_text_definitions.specs.FileSteps.{take_line}
use Rattle.lexicon_text_definitions.specs.FileReadings.{asking, read_on, read_lines, reading_of, IsResult, IsReadAs, FileResult}
use Rattle.lexicon_text_definitions.specs.TextsOf.{HasSpelledStems, HasText}
use Rattle.list_laws.proofs.Marks.{is_free}
use Rattle.lexicon_text_definitions.proofs.LineTests.{IsOther, pairs_before}
use Rattle.lexicon_text_definitions.proofs.LineCuts.{ended_line, lines_back}
use Rattle.lexicon_text_definitions.proofs.RisingLines.{lines_total, last_below}
use Rattle.lexicon_text_definitions.proofs.FileLeads.{leads_with, leads_front, leads_counted}
use Rattle.lexicon_text_definitions.proofs.FormPhases.{IsFormLine, IsLawfulForm, AreLawful, all_right, all_both, lines_rise, lines_lawful, phases_built, entries_placed}
use Rattle.lexicon_text_definitions.proofs.CleanBytes.{IsClean, clean_append, clean_utf8, clean_free, clean_name, clean_word, clean_tag, clean_grammar}
use Rattle.lexicon_text_definitions.proofs.LineSteps.{MayName, MayPair, MayRule, MayLine, place_of_name}
use Rattle.lexicon_text_definitions.proofs.TakenLines.{takes_head, takes_name_line, takes_grammar_line, takes_pair_line, takes_rule_line, takes_form_line, takes_end_line}
use Rattle.lexicon_text_definitions.proofs.ToldLines.{IsTextRule, text_of_form, lines_so_far}
use Rattle.lexicon_text_definitions.proofs.WholeTexts.{lines_are, counted, empty_at_first, lawful_at_first, all_within}
use Rattle.lexicon_text_definitions.proofs.FormLines.{AreWithin, no_lines_at_first}
use Rattle.lexicon_definitions.proofs.PlainPairs.{pairs_total}
use Rattle.lexicon_definitions.proofs.GrammarFaultCases.{grammar_over}
use Rattle.list_laws.proofs.Elements.{six_regrouped}

-- ---- parts of a lexicon that are lawful as a whole

record AreNames (names : List (List ℕ)) : Type 0 where
  each : AllByRecursion IsPhaseName names
  apart : AllPairs (λ left right. left ≢ right) names
  few : length names ≤ MOST_PHASES

record ArePairs (pairs : List (ℕ × ℕ)) : Type 0 where
  each : AllByRecursion (λ pair. IsLetter pair.0 × IsLetter pair.1) pairs
  rising : IsStrictlySortedBy compare_pairs pairs

record AreRules (count : ℕ) (rules : List RuleValue) : Type 0 where
  each : AllByRecursion (IsTextRule count) rules
  others : AllPairs IsOther rules
  few : length rules ≤ MOST_RULES
  leads : length (different_v rules) ≤ MOST_LEADS

record AreLines (count : ℕ) (lines : List Entry) : Type 0 where
  each : AllByRecursion (IsFormLine count) lines
  rising : IsStrictlySortedBy compare_entries lines
  few : length lines ≤ MOST_FORM_LINES

-- ---- the lines are clean

pub clean_name_line : (name : List ℕ) → IsPhaseName name → IsClean (phase_line name)
clean_name_line name h = clean_append (codes "phase ") name refl (clean_name name h)

clean_letter : (letter : ℕ) → IsLetter letter → IsClean (slp1_of_word (letter ∷ []))
clean_letter letter l = clean_word (letter ∷ []) (All-cons IsLetter letter [] l (All-nil IsLetter))

clean_pair_line : (pair : ℕ × ℕ) → IsLetter pair.0 → IsLetter pair.1 → IsClean (plain_line pair)
clean_pair_line pair l r =
    let left = slp1_of_word (pair.0 ∷ []) in
    clean_append ((codes "plain " ++ left) ++ codes " ") (slp1_of_word (pair.1 ∷ []))
    (clean_append (codes "plain " ++ left) (codes " ") (clean_append (codes "plain ") left refl (clean_letter pair.0 l)) refl) (clean_letter pair.1 r)

clean_rule_line : (rule : RuleValue) → IsWord rule.u → IsWord rule.v → IsWord rule.w → IsClean (rule_line rule)
clean_rule_line rule a b c =
    let u = slp1_of_word rule.u in
    let v = slp1_of_word rule.v in
    clean_append ((((codes "rule " ++ u) ++ codes "|") ++ v) ++ codes ">") (slp1_of_word rule.w)
    (clean_append (((codes "rule " ++ u) ++ codes "|") ++ v) (codes ">")
    (clean_append ((codes "rule " ++ u) ++ codes "|") v (clean_append (codes "rule " ++ u) (codes "|") (clean_append (codes "rule ") u refl (clean_word rule.u a)) refl) (clean_word rule.v b)) refl)
    (clean_word rule.w c)

clean_form_line : (count : ℕ) (name : List ℕ) (line : Entry) → IsPhaseName name → IsFormLine count line → IsClean (form_line name line.letters line.analysis)
clean_form_line count name line n h =
    let form = slp1_of_word line.letters in
    let stem = slp1_of_word line.analysis.stem in
    let first = clean_append (codes "form " ++ name) (codes " ") (clean_append (codes "form ") name refl (clean_name name n)) refl in
    let second = clean_append ((codes "form " ++ name) ++ codes " ") form first (clean_word line.letters h.word) in
    let third = clean_append (((codes "form " ++ name) ++ codes " ") ++ form) (codes " ") second refl in
    let fourth = clean_append ((((codes "form " ++ name) ++ codes " ") ++ form) ++ codes " ") stem third (clean_word line.analysis.stem h.stem) in
    let fifth = clean_append (((((codes "form " ++ name) ++ codes " ") ++ form) ++ codes " ") ++ stem) (codes " ") fourth refl in
    clean_append ((((((codes "form " ++ name) ++ codes " ") ++ form) ++ codes " ") ++ stem) ++ codes " ") line.analysis.tag fifth (clean_tag line.analysis.tag h.tag)

-- ---- reading one line after another

-- the kinds after which rules, forms and the end may come
abbrev BeforeForms : Kind → Type 0
BeforeForms last = (may_follow last Form ≡ true) × (may_follow last End ≡ true)

abbrev BeforeRules : Kind → Type 0
BeforeRules last = (may_follow last Rule ≡ true) × BeforeForms last

abbrev told_at : Kind → List (List ℕ) → List ℕ → List (ℕ × ℕ) → List RuleValue → List Entry → Told
told_at last names grammar plain rules forms =
    record { last = last; names = names; grammar = grammar; plain = plain; rules = rules; forms = forms }

-- an unlimited rule is made of its triple
after_by : (count : ℕ) (rule : RuleValue) (v : List ℕ) → rule.v ≡ v → IsTextRule count rule → rule.after ≡ phases_after count v
after_by count rule [] e r = r.rule_itself.after_none.1 e
after_by count rule (letter ∷ v) e r = r.unlimited.1 (λ none. let both = sym e ∙ none in cc)

between : (count : ℕ) (rule : RuleValue) → IsTextRule count rule → rule ≡ unlimited_rule count rule.u rule.v rule.w
between count rule r =
    let before = r.unlimited.0 in
    let after = after_by count rule rule.v refl r in
    λ i. record { u = rule.u; v = rule.v; w = rule.w; before = before i; after = after i }

module _ (result : FileResult) where
  -- from here on the lines are read with this result, whatever the number of the first
  abbrev Reads : Told → List Line → Type 0
  Reads told lines = (number : ℕ) → IsResult (read_lines told number lines) result

  one_line : (told after : Told) (bytes : List ℕ) (lines : List Line) → take_line told (ended_line bytes) ≡ Ok after
      → ((number : ℕ) → IsResult (asking after.last number after (read_lines after (number + 1) lines)) result) → Reads told (ended_line bytes ∷ lines)
  one_line told after bytes lines e h number =
      subst (λ taken. IsResult (read_on number taken (λ following. read_lines following (number + 1) lines)) result) (sym e) (h number)

  name_read : (before : List (List ℕ)) (name : List ℕ) (more : List (List ℕ)) (last : Kind) (lines : List Line) → may_follow last Phase ≡ true → AreNames (before ++ name ∷ more)
      → Reads (told_at Phase (before ++ name ∷ []) [] [] [] []) lines → Reads (told_at last before [] [] [] []) (ended_line (phase_line name) ∷ lines)
  name_read before name more last lines f h k =
      let itself = (all_right IsPhaseName before (name ∷ more) h.each).0 in
      let few : length before < MOST_PHASES = let all = h.few in omega (arith, length-append before (name ∷ more)) in
      let may : MayName (told_at last before [] [] [] []) name =
      record { name_itself = itself; few = few; new = pairs_before (λ left right. left ≢ right) before name more h.apart } in
      one_line (told_at last before [] [] [] []) (told_at Phase (before ++ name ∷ []) [] [] [] []) (phase_line name) lines
      (takes_name_line (told_at last before [] [] [] []) name f (clean_utf8 (phase_line name) (clean_name_line name itself)) may) (λ number. k (number + 1))

  names_read : (before more : List (List ℕ)) (lines : List Line) → AreNames (before ++ more) → Reads (told_at Phase (before ++ more) [] [] [] []) lines
      → Reads (told_at Phase before [] [] [] []) (map ended_line (map phase_line more) ++ lines)
  names_read before [] lines h k = subst (λ names. Reads (told_at Phase names [] [] [] []) lines) (append-nil before) k
  names_read before (name ∷ more) lines h k =
      let all = sym (append_assoc before (name ∷ []) more) in
      name_read before name more Phase (map ended_line (map phase_line more) ++ lines) refl h
      (names_read (before ++ name ∷ []) more lines (subst AreNames all h) (subst (λ names. Reads (told_at Phase names [] [] [] []) lines) all k))

  all_names_read : (names : List (List ℕ)) (lines : List Line) → 0 < length names → AreNames names → Reads (told_at Phase names [] [] [] []) lines
      → Reads (told_at Head [] [] [] [] []) (map ended_line (map phase_line names) ++ lines)
  all_names_read [] lines n h k = absurd (omega arith)
  all_names_read (name ∷ names) lines n h k =
      name_read [] name names Head (map ended_line (map phase_line names) ++ lines) refl h (names_read (name ∷ []) names lines h k)

  grammar_read : (names : List (List ℕ)) (text : List ℕ) (lines : List Line) → IsGrammarTextWithinLimits names text → Reads (told_at Grammar names text [] [] []) lines
      → Reads (told_at Phase names [] [] [] []) (ended_line (grammar_line text) ∷ lines)
  grammar_read names text lines g k =
      let clean = clean_append (codes "grammar ") text refl (clean_grammar text (grammar_over names text g).0) in
      one_line (told_at Phase names [] [] [] []) (told_at Grammar names text [] [] []) (grammar_line text) lines
      (takes_grammar_line (told_at Phase names [] [] [] []) text refl (clean_utf8 (grammar_line text) clean)) (λ number. inl (g, k (number + 1)))

  module _ (names : List (List ℕ)) (grammar : List ℕ) where
    pairs_read : (before more : List (ℕ × ℕ)) (last : Kind) (lines : List Line) → may_follow last Plain ≡ true → BeforeRules last → ArePairs (before ++ more)
        → ((last : Kind) → BeforeRules last → Reads (told_at last names grammar (before ++ more) [] []) lines)
        → Reads (told_at last names grammar before [] []) (map ended_line (map plain_line more) ++ lines)
    pairs_read before [] last lines f b h k = subst (λ pairs. Reads (told_at last names grammar pairs [] []) lines) (append-nil before) (k last b)
    pairs_read before (pair ∷ more) last lines f b h k =
        let all = sym (append_assoc before (pair ∷ []) more) in
        let letters = (all_right (λ pair. IsLetter pair.0 × IsLetter pair.1) before (pair ∷ more) h.each).0 in
        let may : MayPair (told_at last names grammar before [] []) pair =
        record { left = letters.0; right = letters.1; above = last_below pairs_total before pair more h.rising } in
        one_line (told_at last names grammar before [] []) (told_at Plain names grammar (before ++ pair ∷ []) [] []) (plain_line pair) (map ended_line (map plain_line more) ++ lines)
        (takes_pair_line (told_at last names grammar before [] []) pair f (clean_utf8 (plain_line pair) (clean_pair_line pair letters.0 letters.1)) may)
        (λ number. pairs_read (before ++ pair ∷ []) more Plain lines refl (refl, (refl, refl)) (subst ArePairs all h)
        (λ last b. subst (λ pairs. Reads (told_at last names grammar pairs [] []) lines) all (k last b)) (number + 1))

    module _ (plain : List (ℕ × ℕ)) where
      rules_read : (before more : List RuleValue) (last : Kind) (lines : List Line) → BeforeRules last → AreRules (length names) (before ++ more)
          → ((last : Kind) → BeforeForms last → Reads (told_at last names grammar plain (before ++ more) []) lines)
          → Reads (told_at last names grammar plain before []) (map ended_line (map rule_line more) ++ lines)
      rules_read before [] last lines b h k = subst (λ rules. Reads (told_at last names grammar plain rules []) lines) (append-nil before) (k last b.1)
      rules_read before (rule ∷ more) last lines b h k =
          let told = told_at last names grammar plain before [] in
          let all = sym (append_assoc before (rule ∷ []) more) in
          let r = (all_right (IsTextRule (length names)) before (rule ∷ more) h.each).0 in
          let i = r.rule_itself in
          let long = length-append before (rule ∷ more) in
          let front = leads_front (before ++ rule ∷ []) more in
          let whole = ap (λ rules. length (different_v rules)) all in
          let last_one = ap length (leads_with before rule) in
          let may : MayRule told rule.u rule.v rule.w = record {
            u_word = i.u_is_word;
            v_word = i.v_is_word;
            w_word = i.w_is_word;
            u_some = i.strict.0;
            w_some = i.strict.1;
            few = let few = h.few in omega arith;
            leads = let few = h.leads in omega arith;
            u_short = r.short.u;
            v_short = r.short.v;
            w_short = r.short.w;
            other = pairs_before IsOther before rule more h.others;
          } in
          let taken = takes_rule_line told rule.u rule.v rule.w b.0 (clean_utf8 (rule_line rule) (clean_rule_line rule i.u_is_word i.v_is_word i.w_is_word)) may in
          one_line told (told_at Rule names grammar plain (before ++ rule ∷ []) []) (rule_line rule) (map ended_line (map rule_line more) ++ lines)
          (taken ∙ ap (λ new. Ok (told_at Rule names grammar plain (before ++ new ∷ []) [])) (sym (between (length names) rule r)))
          (λ number. rules_read (before ++ rule ∷ []) more Rule lines (refl, (refl, refl)) (subst (AreRules (length names)) all h)
          (λ last b. subst (λ rules. Reads (told_at last names grammar plain rules []) lines) all (k last b)) (number + 1))

      module _ (rules : List RuleValue) (h : AreNames names) where
        lines_read : (before more : List Entry) (last : Kind) (lines : List Line) → BeforeForms last → AreLines (length names) (before ++ more)
            → ((last : Kind) → may_follow last End ≡ true → Reads (told_at last names grammar plain rules (before ++ more)) lines)
            → Reads (told_at last names grammar plain rules before) (map ended_line (map (text_of_form names) more) ++ lines)
        lines_read before [] last lines b l k = subst (λ forms. Reads (told_at last names grammar plain rules forms) lines) (append-nil before) (k last b.1)
        lines_read before (line ∷ more) last lines b l k =
            let told = told_at last names grammar plain rules before in
            let all = sym (append_assoc before (line ∷ []) more) in
            let itself = (all_right (IsFormLine (length names)) before (line ∷ more) l.each).0 in
            let name = get_or names line.phase [] in
            let is_name = All-get_or IsPhaseName names line.phase [] itself.phase (All-from_recursion IsPhaseName names h.each) in
            let long = length-append before (line ∷ more) in
            let may : MayLine told name line = record {
              at = place_of_name names line.phase h.apart itself.phase;
              line_itself = itself;
              few = let few = l.few in omega arith;
              above = last_below lines_total before line more l.rising;
            } in
            one_line told (told_at Form names grammar plain rules (before ++ line ∷ [])) (text_of_form names line) (map ended_line (map (text_of_form names) more) ++ lines)
            (takes_form_line told name line b.0 (clean_utf8 (text_of_form names line) (clean_form_line (length names) name line is_name itself)) is_name may)
            (λ number. lines_read (before ++ line ∷ []) more Form lines (refl, refl) (subst (AreLines (length names)) all l)
            (λ last b. subst (λ forms. Reads (told_at last names grammar plain rules forms) lines) all (k last b)) (number + 1))

        end_read : (forms : List Entry) (last : Kind) → may_follow last End ≡ true → result ≡ Ok (lexicon_told (told_at End names grammar plain rules forms))
            → Reads (told_at last names grammar plain rules forms) (ended_line end_line ∷ [])
        end_read forms last f e =
            one_line (told_at last names grammar plain rules forms) (told_at End names grammar plain rules forms) end_line []
            (takes_end_line (told_at last names grammar plain rules forms) f) (λ number. e)

-- ---- all lines of a lexicon

mapped : {X Y : Type 0} (P : X → Type 0) (Q : Y → Type 0) (f : X → Y) → ((x : X) → P x → Q (f x)) → (xs : List X) → AllByRecursion P xs → AllByRecursion Q (map f xs)
mapped P Q f g [] h = tt
mapped P Q f g (x ∷ xs) h = (g x h.0, mapped P Q f g xs h.1)

lawful_forms : (forms : List FormValue) → AllByRecursion IsFormEntry forms → AllByRecursion IsShortForm forms → AllByRecursion HasSpelledStems forms → AllByRecursion IsLawfulForm forms
lawful_forms [] e s t = tt
lawful_forms (form ∷ forms) e s t = (record { entry = e.0; short = s.0; stems = t.0 }, lawful_forms forms e.1 s.1 t.1)

lawful_phases : (phases : List (List FormValue)) → AllByRecursion IsPhase phases → AllByRecursion (λ forms. All IsShortForm forms) phases
    → AllByRecursion (λ forms. All HasSpelledStems forms) phases → AreLawful phases
lawful_phases [] p s t = tt
lawful_phases (forms ∷ phases) p s t = (
  record {
    each = lawful_forms forms (recursion_from_All IsFormEntry forms p.0.each) (recursion_from_All IsShortForm forms s.0) (recursion_from_All HasSpelledStems forms t.0);
    rising = p.0.rising;
  },
  lawful_phases phases p.1 s.1 t.1,
)

mapped_each : {A B : Type 0} (g : A → B) (a b c d e f : List A)
    → map g (a ++ (b ++ (c ++ (d ++ (e ++ f))))) ≡ map g a ++ (map g b ++ (map g c ++ (map g d ++ (map g e ++ map g f))))
mapped_each g a b c d e f = simp map-append

-- one list after another, each line ended
arranged : (first : List ℕ) (names : List (List ℕ)) (grammar : List ℕ) (plain rules forms : List (List ℕ)) (last : List ℕ)
    → map ended_line (((((((first ∷ names) ++ grammar ∷ []) ++ plain) ++ rules) ++ forms) ++ last ∷ []))
    ≡ ended_line first ∷ (map ended_line names ++ (ended_line grammar ∷ (map ended_line plain ++ (map ended_line rules ++ (map ended_line forms ++ ended_line last ∷ [])))))
arranged first names grammar plain rules forms last =
    ap (map ended_line) (six_regrouped (first ∷ names) (grammar ∷ []) plain rules forms (last ∷ []))
    ∙ mapped_each ended_line (first ∷ names) (grammar ∷ []) plain rules forms (last ∷ [])

abbrev IsFree : List ℕ → Type 0
IsFree line = is_free 10 line ≡ true

module _ (lexicon : Lexicon) (t : HasText lexicon) where
  abbrev names : List (List ℕ)
  names = lexicon.rules.names

  abbrev lines : List Entry
  lines = entries_from 0 lexicon.phases

  abbrev final : Told
  final = told_at End names lexicon.rules.grammar lexicon.rules.plain lexicon.rules.rules lines

  are_names : AreNames names
  are_names = record {
    each = recursion_from_All IsPhaseName names t.lexicon_itself.rules.names_are_names;
    apart = t.lexicon_itself.rules.distinct_names;
    few = t.limits.rule_set.phases;
  }

  are_pairs : ArePairs lexicon.rules.plain
  are_pairs = record {
    each = recursion_from_All (λ pair. IsLetter pair.0 × IsLetter pair.1) lexicon.rules.plain t.lexicon_itself.rules.letters;
    rising = t.lexicon_itself.rules.rising;
  }

  text_rules : All (IsTextRule (length names)) lexicon.rules.rules
  text_rules = λ k d below. record {
    rule_itself = t.lexicon_itself.rules.each k d below;
    unlimited = t.unlimited k d below;
    short = t.limits.rule_set.short_rules k d below;
  }

  are_rules : AreRules (length names) lexicon.rules.rules
  are_rules = record {
    each = recursion_from_All (IsTextRule (length names)) lexicon.rules.rules text_rules;
    others = t.lexicon_itself.rules.distinct;
    few = t.limits.rule_set.rules;
    leads = let same = leads_counted (length names) lexicon.rules.rules t.unlimited in let few = t.limits.rule_set.leads in omega arith;
  }

  lawful : AreLawful lexicon.phases
  lawful =
      lawful_phases lexicon.phases (recursion_from_All IsPhase lexicon.phases t.lexicon_itself.phases)
      (recursion_from_All (λ forms. All IsShortForm forms) lexicon.phases t.limits.short_forms)
      (recursion_from_All (λ forms. All HasSpelledStems forms) lexicon.phases t.stems)

  are_lines : AreLines (length names) lines
  are_lines = record {
    each = lines_lawful (length names) 0 lexicon.phases (let count = t.lexicon_itself.count in omega arith) lawful;
    rising = lines_rise 0 lexicon.phases lawful;
    few = let same = counted 0 lexicon.phases in let few = t.limits.lines in omega arith;
  }

  lines_in_order : lines_of lexicon ≡ lines_so_far End final
  lines_in_order = lines_are final lexicon.phases t.lexicon_itself.count refl

  free_lines : AllByRecursion IsFree (lines_so_far End final)
  free_lines =
      let named = mapped IsPhaseName IsFree phase_line (λ name h. clean_free (phase_line name) (clean_name_line name h)) names are_names.each in
      let grammar = clean_free (grammar_line lexicon.rules.grammar) (clean_append (codes "grammar ") lexicon.rules.grammar refl (clean_grammar lexicon.rules.grammar t.lexicon_itself.rules.grammar_is_text.0)) in
      let pairs = mapped (λ pair. IsLetter pair.0 × IsLetter pair.1) IsFree plain_line (λ pair h. clean_free (plain_line pair) (clean_pair_line pair h.0 h.1)) lexicon.rules.plain are_pairs.each in
      let ruled = mapped (IsTextRule (length names)) IsFree rule_line
      (λ rule h. clean_free (rule_line rule) (clean_rule_line rule h.rule_itself.u_is_word h.rule_itself.v_is_word h.rule_itself.w_is_word)) lexicon.rules.rules are_rules.each in
      let formed = mapped (IsFormLine (length names)) IsFree (text_of_form names)
      (λ line h. clean_free (text_of_form names line) (clean_form_line (length names) (get_or names line.phase []) line
      (All-get_or IsPhaseName names line.phase [] h.phase t.lexicon_itself.rules.names_are_names) h)) lines are_lines.each in
      all_both IsFree (((((head_line ∷ map phase_line names) ++ grammar_line lexicon.rules.grammar ∷ []) ++ map plain_line lexicon.rules.plain) ++ map rule_line lexicon.rules.rules) ++ map (text_of_form names) lines) (end_line ∷ [])
      (all_both IsFree ((((head_line ∷ map phase_line names) ++ grammar_line lexicon.rules.grammar ∷ []) ++ map plain_line lexicon.rules.plain) ++ map rule_line lexicon.rules.rules) (map (text_of_form names) lines)
      (all_both IsFree (((head_line ∷ map phase_line names) ++ grammar_line lexicon.rules.grammar ∷ []) ++ map plain_line lexicon.rules.plain) (map rule_line lexicon.rules.rules)
      (all_both IsFree ((head_line ∷ map phase_line names) ++ grammar_line lexicon.rules.grammar ∷ []) (map plain_line lexicon.rules.plain)
      (all_both IsFree (head_line ∷ map phase_line names) (grammar_line lexicon.rules.grammar ∷ []) (refl, named) (grammar, tt)) pairs) ruled) formed) (refl, tt)

  is_told : lexicon ≡ lexicon_told final
  is_told =
      let phases = phases_built lexicon.phases lawful in
      let count = t.lexicon_itself.count in
      let built = sym phases ∙ ap (λ n. with_lines (replicate n []) lines) count in
      let placed = entries_placed (length names) (replicate (length names) []) 0 lines (empty_at_first (length names) t.limits.rule_set.some_phase) (lawful_at_first (length names)) are_lines.each
      (subst (λ count. AreWithin 0 count lines) (sym (length-replicate (length names) [])) (all_within (length names) lines are_lines.each))
      (subst (λ front. IsStrictlySortedBy compare_entries (front ++ lines)) (sym (no_lines_at_first 0 (length names))) are_lines.rising) in
      λ i. record {
        rules = lexicon.rules;
        phases = (built ∙ sym placed) i;
      }

  read_in_order : Reads (Ok lexicon) nothing_told (map ended_line (lines_so_far End final))
  read_in_order =
      let rules = lexicon.rules in
      subst (Reads (Ok lexicon) nothing_told)
      (sym (arranged head_line (map phase_line names) (grammar_line rules.grammar) (map plain_line rules.plain) (map rule_line rules.rules) (map (text_of_form names) lines) end_line))
      (one_line (Ok lexicon) nothing_told (told_at Head [] [] [] [] []) head_line _ (takes_head nothing_told refl)
      (λ number. all_names_read (Ok lexicon) names _ t.limits.rule_set.some_phase are_names
      (grammar_read (Ok lexicon) names rules.grammar _ t.limits.rule_set.grammar
      (pairs_read (Ok lexicon) names rules.grammar [] rules.plain Grammar _ refl (refl, (refl, refl)) are_pairs
      (λ last b. rules_read (Ok lexicon) names rules.grammar rules.plain [] rules.rules last _ b are_rules
      (λ last b. lines_read (Ok lexicon) names rules.grammar rules.plain rules.rules are_names [] lines last _ b are_lines
      (λ last f. end_read (Ok lexicon) names rules.grammar rules.plain rules.rules are_names lines last f (ap Ok is_told)))))) (number + 1)))

-- the text of a lexicon is read as this lexicon
pub text_read : (lexicon : Lexicon) → HasText lexicon → IsReadAs (text_of lexicon) (Ok lexicon)
unfolding reading_of text_of
text_read lexicon t =
    let cut : lines_of_bytes (text_of_lines (lines_of lexicon)) ≡ map ended_line (lines_so_far End (final lexicon t)) =
    ap (λ all. lines_of_bytes (text_of_lines all)) (lines_in_order lexicon t) ∙ lines_back (lines_so_far End (final lexicon t)) (free_lines lexicon t) in
    subst (λ all. IsResult (read_lines nothing_told 1 all) (Ok lexicon)) (sym cut) (read_in_order lexicon t 1)
