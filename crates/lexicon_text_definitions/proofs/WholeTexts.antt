-- Bytes that are read as a lexicon are its text: line by line what was told spells the lines so far, and at the end that is the
-- lexicon's text, which is lawful by what each line was tested for.
use Rattle.std.proofs.Common.{◌≡◌, ◌≢◌, ℕ, zero, suc, ◌+◌, ◌<◌, inl, inr, true, Ok, Err, List, [], ◌∷◌, ◌++◌, length, map, replicate, get_or, All, refl, sym, ◌∙◌, ap, subst, arith}
use Rattle.std.specs.List.{AllByRecursion, sum_by}
use Rattle.std.specs.List.Sorted.{IsStrictlySortedBy}
use Rattle.lexicon_definitions.specs.Analyses.{Analysis}
use Rattle.std.proofs.lemmas.List.{append_assoc, append-nil, map-append, length-append, length-map, length-replicate, length_push, get_or_at}
use Rattle.std.proofs.lemmas.List.Sums.{sum_by-cons}
use Rattle.std.proofs.lemmas.List.Elements.{All-from_recursion, All-nil, All-weaker}
use Rattle.lexicon_definitions.specs.Rules.{IsRule, IsUnlimited}
use Rattle.lexicon_definitions.specs.GrammarFaults.{IsGrammarTextWithinLimits}
use Rattle.lexicon_definitions.specs.Lexicons.{Lexicon, Form, IsPhase, IsFormEntry, IsLexicon}
use Rattle.lexicon_definitions.specs.Limits.{IsShortRule, IsShortForm, count_lines, IsWithinLimits}
use Rattle.lexicon_text_definitions.specs.LexiconTexts.{head_line, phase_line, grammar_line, plain_line, rule_line, form_line, end_line, phase_forms_lines, forms_lines, lines_of, text_of, text_of_lines}
use Rattle.lexicon_text_definitions.specs.FileLines.{Line, lines_of_bytes, Kind, Grammar, End}
use Rattle.lexicon_text_definitions.specs.FileContents.{compare_entries, Told, nothing_told, entry_with, phase_entries, entries_from, rules_told, lexicon_told}
use Rattle.lexicon_definitions.specs.FormEntries.{Entry}
use Rattle.lexicon_text_definitions.proofs.FormLines.{with_lines}
use Rattle.lexicon_text_definitions.specs.FileSteps.{Taken, take_line}
use Rattle.lexicon_text_definitions.specs.FileReadings.{Reading, asking, read_on, read_lines, at_end, reading_of, IsResult, IsReadAs}
use Rattle.lexicon_text_definitions.specs.TextsOf.{HasSpelledStems, HasText, IsTextOf}
use Rattle.lexicon_text_definitions.proofs.LineCuts.{text_from_lines}
use Rattle.lexicon_text_definitions.proofs.FileLeads.{leads_counted}
use Rattle.lexicon_text_definitions.proofs.FormLines.{EmptyAfter, AreWithin, none_at_first, no_lines_at_first, lines_of_built}
use Rattle.lexicon_text_definitions.proofs.FormPhases.{IsFormLine, IsLawfulForm, AreLawful, lawful_built, length-built, entries_placed}
use Rattle.lexicon_text_definitions.proofs.TakenLines.{took_line}
use Rattle.lexicon_text_definitions.proofs.ToldLines.{IsTextRule, IsLawful, NothingLater, HasGrammar, text_of_form, lines_so_far, goes_on}
use Rattle.list_laws.proofs.Sorted.{sorted_nil}
use Rattle.lexicon_definitions.proofs.GrammarFaultCases.{grammar_over}

-- ---- reading to the end

abbrev bytes_of : List Line → List (List ℕ)
bytes_of lines = map (λ (line : Line). line.bytes) lines

-- the lines are read to the end, and what is told then is lawful and spells them
record IsRead (told : Told) (lines : List Line) (lexicon : Lexicon) : Type 0 where
  final : Told
  lawful : IsLawful final
  later : NothingLater End final
  grammar : IsGrammarTextWithinLimits final.names final.grammar
  lexicon_is : lexicon ≡ lexicon_told final
  so_far : lines_so_far End final ≡ lines_so_far told.last told ++ bytes_of lines
  ended : AllByRecursion (λ (line : Line). line.ended ≡ true) lines

read_end : (last : Kind) (told : Told) (number : ℕ) (lexicon : Lexicon) → told.last ≡ last → IsLawful told → NothingLater last told → HasGrammar last told
    → IsResult (at_end last number told) (Ok lexicon) → IsRead told [] lexicon
read_end End told number lexicon e h n g r = record {
  final = told;
  lawful = h;
  later = n;
  grammar = g;
  lexicon_is = cc;
  so_far = sym (append-nil (lines_so_far End told)) ∙ ap (λ last. lines_so_far last told ++ []) (sym e);
  ended = tt;
}
read_end last told number lexicon e h n g r = absurd (cc)

-- the reading after a line, where the text of a grammar line is one within the limits
after_asking : (last : Kind) (number : ℕ) (after : Told) (rest : Reading) (lexicon : Lexicon) → IsResult (asking last number after rest) (Ok lexicon)
    → ((last ≢ Grammar) → HasGrammar last after) → HasGrammar last after × IsResult rest (Ok lexicon)
after_asking Grammar number after rest lexicon (inl both) k = both
after_asking Grammar number after rest lexicon (inr (fault, first, e)) k = absurd (cc)
after_asking last number after rest lexicon r k = (k (λ e. cc), r)

module _ (lexicon : Lexicon) where
  read_taken : (told : Told) (number : ℕ) (line : Line) (lines : List Line) (taken : Taken) → take_line told line ≡ taken → IsLawful told → NothingLater told.last told → HasGrammar told.last told
      → IsResult (read_on number taken (λ following. read_lines following (number + 1) lines)) (Ok lexicon)
      → ((after : Told) → IsLawful after → NothingLater after.last after → HasGrammar after.last after → IsResult (read_lines after (number + 1) lines) (Ok lexicon) → IsRead after lines lexicon)
      → IsRead told (line ∷ lines) lexicon
  read_taken told number line lines (Err why) e h n g r later = absurd (cc)
  read_taken told number line lines (Ok after) e h n g r later =
      let took = took_line told after line e in
      let next = goes_on told after line.bytes h n took.1 in
      let (grammar, rest) = after_asking after.last number after (read_lines after (number + 1) lines) lexicon r (next.grammar g) in
      let found = later after next.lawful next.later grammar rest in
      record {
        final = found.final;
        lawful = found.lawful;
        later = found.later;
        grammar = found.grammar;
        lexicon_is = found.lexicon_is;
        so_far = found.so_far ∙ ap (λ front. front ++ bytes_of lines) next.so_far ∙ append_assoc (lines_so_far told.last told) (line.bytes ∷ []) (bytes_of lines);
        ended = (took.0, found.ended);
      }

  read_all : (told : Told) (number : ℕ) (lines : List Line) → IsLawful told → NothingLater told.last told → HasGrammar told.last told
      → IsResult (read_lines told number lines) (Ok lexicon) → IsRead told lines lexicon
  read_all told number [] h n g r = read_end told.last told number lexicon refl h n g r
  read_all told number (line ∷ lines) h n g r =
      read_taken told number line lines (take_line told line) refl h n g r (λ after i m o s. read_all after (number + 1) lines i m o s)

nothing_lawful : IsLawful nothing_told
nothing_lawful = record {
  names = All-nil _;
  apart = λ i j d below inside. absurd (omega arith);
  few_names = omega arith;
  letters = All-nil _;
  rising = sorted_nil _;
  rules = All-nil _;
  others = λ i j d below inside. absurd (omega arith);
  few_rules = omega arith;
  leads = omega arith;
  lines = tt;
  rising_lines = sorted_nil _;
  few_lines = omega arith;
}

-- ---- the lines of a lexicon's forms are those of its phases

analyses_of : (names : List (List ℕ)) (phase : ℕ) (name letters : List ℕ) (analyses : List Analysis) → get_or names phase [] ≡ name
    → map (form_line name letters) analyses ≡ map (text_of_form names) (map (entry_with phase letters) analyses)
analyses_of names phase name letters [] e = refl
analyses_of names phase name letters (a ∷ analyses) e = λ i. form_line (sym e i) letters a ∷ analyses_of names phase name letters analyses e i

forms_of_phase : (names : List (List ℕ)) (phase : ℕ) (name : List ℕ) (forms : List Form) → get_or names phase [] ≡ name
    → phase_forms_lines name forms ≡ map (text_of_form names) (phase_entries phase forms)
forms_of_phase names phase name [] e = refl
forms_of_phase names phase name (form ∷ forms) e =
    (λ i. analyses_of names phase name form.letters form.analyses e i ++ forms_of_phase names phase name forms e i)
    ∙ sym (map-append (text_of_form names) (map (entry_with phase form.letters) form.analyses) (phase_entries phase forms))

forms_of_phases : (before names : List (List ℕ)) (phases : List (List Form)) → length phases ≡ length names
    → forms_lines names phases ≡ map (text_of_form (before ++ names)) (entries_from (length before) phases)
forms_of_phases before [] [] e = refl
forms_of_phases before [] (forms ∷ phases) e = absurd (omega arith)
forms_of_phases before (name ∷ names) [] e = absurd (omega arith)
forms_of_phases before (name ∷ names) (forms ∷ phases) e =
    let at = get_or_at before name names [] (length before) refl in
    let all = sym (append_assoc before (name ∷ []) names) in
    let long : length (before ++ name ∷ []) ≡ length before + 1 = length_push before name in
    let later = forms_of_phases (before ++ name ∷ []) names phases (omega arith) in
    (λ i. forms_of_phase (before ++ name ∷ names) (length before) name forms at i
    ++ (later ∙ (λ j. map (text_of_form (sym all j)) (entries_from (long j) phases))) i)
    ∙ sym (map-append (text_of_form (before ++ name ∷ names)) (phase_entries (length before) forms) (entries_from (length before + 1) phases))

pub forms_are : (names : List (List ℕ)) (phases : List (List Form)) → length phases ≡ length names
    → forms_lines names phases ≡ map (text_of_form names) (entries_from 0 phases)
forms_are names phases e = forms_of_phases [] names phases e

-- the lines of a lexicon, in the order in which they are told
pub lines_are : (told : Told) (phases : List (List Form)) → length phases ≡ length told.names → entries_from 0 phases ≡ told.forms
    → lines_of (record { rules = rules_told told; phases = phases }) ≡ lines_so_far End told
lines_are told phases count forms =
    let front = head_line ∷ map phase_line told.names in
    let body = forms_are told.names phases count ∙ ap (map (text_of_form told.names)) forms in
    λ i. ((sym (append_assoc front (grammar_line told.grammar ∷ []) (map plain_line told.plain)) i ++ map rule_line told.rules) ++ body i) ++ end_line ∷ []

-- ---- how many lines there are

counted_phase : (phase : ℕ) (forms : List Form) → sum_by (λ (form : Form). length form.analyses) forms ≡ length (phase_entries phase forms)
counted_phase phase [] = refl
counted_phase phase (form ∷ forms) =
    sum_by-cons (λ (form : Form). length form.analyses) form forms
    ∙ (λ i. sym (length-map form.analyses (entry_with phase form.letters)) i + counted_phase phase forms i)
    ∙ sym (length-append (map (entry_with phase form.letters) form.analyses) (phase_entries phase forms))

pub counted : (phase : ℕ) (phases : List (List Form)) → count_lines phases ≡ length (entries_from phase phases)
counted phase [] = refl
counted phase (forms ∷ phases) =
    sum_by-cons (λ forms. sum_by (λ (form : Form). length form.analyses) forms) forms phases
    ∙ (λ i. counted_phase phase forms i + counted (phase + 1) phases i) ∙ sym (length-append (phase_entries phase forms) (entries_from (phase + 1) phases))

-- ---- the lexicon at the end

pub empty_at_first : (count : ℕ) → 0 < count → EmptyAfter (replicate count []) 0
empty_at_first zero n = absurd (omega arith)
empty_at_first (suc count) n = none_at_first count

pub lawful_at_first : (count : ℕ) → AreLawful (replicate count [])
lawful_at_first zero = tt
lawful_at_first (suc count) = (record { each = tt; rising = sorted_nil _ }, lawful_at_first count)

pub all_within : (count : ℕ) (lines : List Entry) → AllByRecursion (IsFormLine count) lines → AreWithin 0 count lines
all_within count [] h = tt
all_within count (line ∷ lines) h = ((omega arith, h.0.phase), all_within count lines h.1)

entries_of : (forms : List Form) → AllByRecursion IsLawfulForm forms → AllByRecursion IsFormEntry forms
entries_of [] h = tt
entries_of (form ∷ forms) h = (h.0.entry, entries_of forms h.1)

each_phase : (phases : List (List Form)) → AreLawful phases → AllByRecursion IsPhase phases
each_phase [] h = tt
each_phase (forms ∷ phases) h = (record { each = All-from_recursion IsFormEntry forms (entries_of forms h.0.each); rising = h.0.rising }, each_phase phases h.1)

shorts_of : (forms : List Form) → AllByRecursion IsLawfulForm forms → AllByRecursion IsShortForm forms
shorts_of [] h = tt
shorts_of (form ∷ forms) h = (h.0.short, shorts_of forms h.1)

each_short : (phases : List (List Form)) → AreLawful phases → AllByRecursion (λ forms. All IsShortForm forms) phases
each_short [] h = tt
each_short (forms ∷ phases) h = (All-from_recursion IsShortForm forms (shorts_of forms h.0.each), each_short phases h.1)

stems_of : (forms : List Form) → AllByRecursion IsLawfulForm forms → AllByRecursion HasSpelledStems forms
stems_of [] h = tt
stems_of (form ∷ forms) h = (h.0.stems, stems_of forms h.1)

each_spelled : (phases : List (List Form)) → AreLawful phases → AllByRecursion (λ forms. All HasSpelledStems forms) phases
each_spelled [] h = tt
each_spelled (forms ∷ phases) h = (All-from_recursion HasSpelledStems forms (stems_of forms h.0.each), each_spelled phases h.1)

module _ (told : Told) (h : IsLawful told) (some : 0 < length told.names) (grammar : IsGrammarTextWithinLimits told.names told.grammar) where
  abbrev empty_phases : List (List Form)
  empty_phases = replicate (length told.names) []

  abbrev phases : List (List Form)
  phases = with_lines empty_phases told.forms

  abbrev last_lexicon : Lexicon
  last_lexicon = record { rules = rules_told told; phases = phases }

  within : AreWithin 0 (length empty_phases) told.forms
  within = subst (λ count. AreWithin 0 count told.forms) (sym (length-replicate (length told.names) [])) (all_within (length told.names) told.forms h.lines)

  built : entries_from 0 phases ≡ told.forms
  built =
      lines_of_built empty_phases 0 told.forms (empty_at_first (length told.names) some) h.rising_lines within
      ∙ ap (λ front. front ++ told.forms) (no_lines_at_first 0 (length told.names))

  lawful : AreLawful phases
  lawful =
      lawful_built (length told.names) empty_phases 0 told.forms (empty_at_first (length told.names) some) (lawful_at_first (length told.names)) h.lines within
      (subst (λ front. IsStrictlySortedBy compare_entries (front ++ told.forms)) (sym (no_lines_at_first 0 (length told.names))) h.rising_lines)

  count : length phases ≡ length told.names
  count = length-built empty_phases told.forms ∙ length-replicate (length told.names) []

  lexicon_itself : IsLexicon last_lexicon
  lexicon_itself = record {
    rules = record {
      names_are_names = h.names;
      distinct_names = h.apart;
      grammar_is_text = grammar_over told.names told.grammar grammar;
      letters = h.letters;
      rising = h.rising;
      each = All-weaker (IsTextRule (length told.names)) (IsRule (length told.names)) (λ rule r. r.rule_itself) told.rules h.rules;
      distinct = h.others;
    };
    count = count;
    phases = All-from_recursion IsPhase phases (each_phase phases lawful);
  }

  limits : IsWithinLimits last_lexicon
  limits = record {
    rule_set = record {
      some_phase = some;
      phases = h.few_names;
      grammar = grammar;
      rules = h.few_rules;
      short_rules = All-weaker (IsTextRule (length told.names)) IsShortRule (λ rule r. r.short) told.rules h.rules;
      leads = let same = leads_counted (length told.names) told.rules (All-weaker (IsTextRule (length told.names)) (IsUnlimited (length told.names)) (λ rule r. r.unlimited) told.rules h.rules) in let few = h.leads in omega arith;
    };
    short_forms = All-from_recursion (λ forms. All IsShortForm forms) phases (each_short phases lawful);
    lines = let same = counted 0 phases ∙ ap length built in let few = h.few_lines in omega arith;
  }

  has_last_text : HasText last_lexicon
  has_last_text = record {
    lexicon_itself = lexicon_itself;
    limits = limits;
    unlimited = All-weaker (IsTextRule (length told.names)) (IsUnlimited (length told.names)) (λ rule r. r.unlimited) told.rules h.rules;
    stems = All-from_recursion (λ forms. All HasSpelledStems forms) phases (each_spelled phases lawful);
  }

  sorted_all : IsStrictlySortedBy compare_entries (entries_from 0 empty_phases ++ told.forms)
  sorted_all = subst (λ front. IsStrictlySortedBy compare_entries (front ++ told.forms)) (sym (no_lines_at_first 0 (length told.names))) h.rising_lines

  is_last : last_lexicon ≡ lexicon_told told
  is_last =
      let placed = entries_placed (length told.names) empty_phases 0 told.forms (empty_at_first (length told.names) some) (lawful_at_first (length told.names)) h.lines within sorted_all in
      λ i. record { rules = rules_told told; phases = sym placed i }

  has_text : HasText (lexicon_told told)
  has_text = subst HasText is_last has_last_text

  text : lines_of (lexicon_told told) ≡ lines_so_far End told
  text = sym (ap lines_of is_last) ∙ lines_are told phases count built

text_by : (bytes : List ℕ) (lexicon : Lexicon) → IsRead nothing_told (lines_of_bytes bytes) lexicon → IsTextOf lexicon bytes
unfolding text_of
text_by bytes lexicon r =
    let lines = text r.final r.lawful r.later r.grammar in
    subst (λ l. IsTextOf l bytes) (sym r.lexicon_is) (record {
      has_text = has_text r.final r.lawful r.later r.grammar;
      text = text_from_lines bytes r.ended ∙ ap text_of_lines (sym r.so_far) ∙ ap text_of_lines (sym lines);
    })

-- bytes that are read as a lexicon are its text
pub read_text : (bytes : List ℕ) (lexicon : Lexicon) → IsReadAs bytes (Ok lexicon) → IsTextOf lexicon bytes
unfolding reading_of
read_text bytes lexicon r = text_by bytes lexicon (read_all lexicon nothing_told 1 (lines_of_bytes bytes) nothing_lawful (refl, refl, refl, refl) tt r)
