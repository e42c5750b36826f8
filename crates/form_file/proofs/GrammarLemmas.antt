-- What is told and kept after a grammar line: a list without forms for each phase, and the text's automaton.
use Rattle.std.proofs.Common.{◌≡◌, ℕ, ◌<◌, inr, true, Option, Some, Ok, Err, List, [], length, map, replicate, refl, sym, ◌∙◌, ap, subst, rules}
use Rattle.std.proofs.lemmas.List.{length-map, length-replicate}
use Rattle.lexicon_definitions.specs.GrammarTexts.{grammar_of}
use Rattle.lexicon_definitions.specs.GrammarFaults.{IsFirstFault, IsGrammarTextWithinLimits}
use Rattle.lexicon_definitions.specs.Lexicons.{Form}
use Rattle.lexicon_definitions.specs.FormEntries.{Entry}
use Rattle.phase_automaton.specs.Automata.{StateMachine, Recognizes}
use Rattle.lexicon_text_definitions.specs.FileLines as lines
use Rattle.lexicon_text_definitions.specs.FileLines.{may_follow}
use Rattle.lexicon_text_definitions.specs.FileContents.{Told, entries_from}
use Rattle.lexicon_text_definitions.specs.FileSteps.{take_grammar}
use Rattle.lexicon_text_definitions.proofs.FormLines.{no_lines_at_first}
use Rattle.lexicon_text_definitions.proofs.LineSteps.{with_grammar, takes_grammar}
use Rattle.form_file.specs.declared.take_error.TakeError.{TakeError}
use Rattle.form_file.specs.declared.take_error.TakeError.TheVariants.{Why, Memory}
use Rattle.form_file.specs.Told.{IsBody, IsStage, IsLineAnswer, IsTextFault}

-- so many phases without forms
abbrev pub empty_lists : ℕ → List (List Form)
empty_lists count = replicate count []

-- what is kept before a grammar line
pub stage_before_grammar : (last : lines.Kind) (told : Told) (automaton : Option StateMachine) (lists : List (List Form)) → may_follow last lines.Grammar ≡ true
    → IsStage last told automaton lists → (0 < length told.names) × (lists ≡ [])
stage_before_grammar lines.Phase told automaton lists f h = h
stage_before_grammar last told automaton lists f h = absurd (cc)

-- no form before it, and no form after it
pub no_forms_told : (before after : List (List Form)) (count : ℕ) → before ≡ [] → after ≡ empty_lists count → entries_from 0 before ≡ entries_from 0 after
no_forms_told before after count b a = ap (entries_from 0) b ∙ sym (ap (entries_from 0) a ∙ no_lines_at_first 0 count)

-- the line is taken
pub grammar_told : (told : Told) (text grammar : List ℕ) (forms : List Entry) → grammar ≡ text → told.forms ≡ forms
    → take_grammar told (Some text) ≡ Ok (record told { last = lines.Grammar; grammar = grammar; forms = forms })
grammar_told told text grammar forms g f = takes_grammar told text ∙ (λ i. Ok (record told { last = lines.Grammar; grammar = sym g i; forms = f i }))

-- the line's text has a fault, or memory is wanting
pub grammar_fault : (A : Type 0) (told after : Told) (names : List (List ℕ)) (text : List ℕ) (error : TakeError) → names ≡ told.names → IsTextFault error names text
    → IsLineAnswer {A = A} (take_grammar told (Some text)) (Err error) after
grammar_fault A told after names text (Why why) n h =
    inr (record {
      told = with_grammar told text;
      taken_so = takes_grammar told text;
      grammar_line = refl;
      fault = h.0;
      first = subst (λ names. IsFirstFault names text h.0) n h.1;
      is = h.2;
    })
grammar_fault A told after names text Memory n h = tt

-- by the names as they are held
module _ {S : Type 0} (bytes : S → List ℕ) where
  pub limits_told : (items slice : List S) (text grammar : List ℕ) → slice ≡ items → grammar ≡ text → IsGrammarTextWithinLimits (map bytes slice) text
      → IsGrammarTextWithinLimits (map bytes items) grammar
  limits_told items slice text grammar s g w =
      subst (λ items. IsGrammarTextWithinLimits (map bytes items) grammar) s (subst (λ text. IsGrammarTextWithinLimits (map bytes slice) text) (sym g) w)

  pub body_told : (items slice : List S) (text grammar : List ℕ) (machine : StateMachine) (lists : List (List Form)) (count : ℕ) → slice ≡ items → grammar ≡ text
      → lists ≡ empty_lists count → count ≡ length items → 0 < length (map bytes items) → Recognizes machine (grammar_of (map bytes slice) text) → machine.phases ≡ length slice
      → IsBody (map bytes items) grammar (Some machine) lists
  body_told items slice text grammar machine lists count s g e n some r p =
      let many : length (map bytes items) ≡ length items = length-map items bytes in
      record {
        some = some;
        as_many = ap length e ∙ length-replicate count [] ∙ n ∙ sym many;
        has_automaton = search rules;
        recognizes = subst (λ items. Recognizes machine (grammar_of (map bytes items) grammar)) s (subst (λ text. Recognizes machine (grammar_of (map bytes slice) text)) (sym g) r);
        phases = p ∙ ap length s ∙ sym many;
      }
