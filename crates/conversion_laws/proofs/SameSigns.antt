-- What is converted says the same: by induction on the text, mark by mark and run by run. A mark is the same in Latin letters before and
-- afterwards, and the word of a run is printed as a run without marks, which is read as this word.
use Rattle.std.proofs.Common.{◌≡◌, ℕ, zero, suc, ◌+◌, ◌-◌, ◌<◌, ◌≤◌, false, List, [], ◌∷◌, ◌++◌, map, length, take, drop, Option, Some, None, Ok, Err, inl, inr, arith, ap, ◌∙◌, sym, subst, length-drop, refl}
use Rattle.std.specs.List.{AllByRecursion}
use Rattle.text_definitions.specs.Letters.{IsLetter}
use Rattle.text_definitions.specs.Spellings.{Reading, with_front}
use Rattle.conversion_definitions.specs.AnySchemes.{AnyScheme, word_of_run, spelling_in}
use Rattle.conversion_definitions.specs.Marks.{Mark, is_devanagari, marks_by, marks_between, first_mark}
use Rattle.conversion_definitions.specs.Conversions.{Run, parts_from, run_by, converted_parts}
use Rattle.more_schemes.specs.Runs.{run_length}
use Rattle.more_schemes.proofs.ConversionSteps.{NoRunFirst, bytes_are_run, run_some, parts_of_run, parts_of_mark}
use Rattle.conversion_laws.specs.Signs.{Sign, Byte, Signs, word_sign, with_signs, run_signs, signs_of_parts}
use Rattle.conversion_laws.proofs.MarkSigns.{IsSame, marks_same, none_same}
use Rattle.conversion_laws.proofs.CutTexts.{IsEntryAt, entry_at, same_runs, AtMarkOrEnd, run_ends, no_run_at_mark, HasNoMark, within_run}

-- the marks of a scheme, as those of Latin letters
abbrev pub marks_in : AnyScheme → List Mark
marks_in scheme = marks_by (is_devanagari scheme) false

-- a word is printed without marks, and read again
pub record IsPrinted (scheme : AnyScheme) (word : List ℕ) : Type 0 where
  pub clean : HasNoMark (marks_in scheme) (spelling_in scheme word)
  pub back : word_of_run scheme (spelling_in scheme word) ≡ Ok word
  pub empty : spelling_in scheme word ≡ [] → word ≡ []

-- what is written is made of marks and of spelled words
pub record Keeps (Written : List ℕ → Type 0) (from to : AnyScheme) : Type 0 where
  pub nothing : Written []
  pub joined : (xs ys : List ℕ) → Written xs → Written ys → Written (xs ++ ys)
  pub marks : AllByRecursion (λ mark. Written mark.becomes) (marks_between from to)
  pub words : (word : List ℕ) → AllByRecursion IsLetter word → Written (spelling_in to word)

front_is : (bytes : List ℕ) (rest : Reading) (result : List ℕ) → with_front bytes rest ≡ Ok result → (more : List ℕ) × (rest ≡ Ok more) × (result ≡ bytes ++ more)
front_is bytes (Ok more) result h = (more, refl, sym (cc (h)))
front_is bytes (Err fault) result h = absurd (cc (h))

no_signs : (signs : Signs) → with_signs [] signs ≡ signs
no_signs (Ok signs) = refl
no_signs (Err fault) = refl

module _ (from to : AnyScheme) (Written : List ℕ → Type 0) (keeps : Keeps Written from to)
    (printed : (word : List ℕ) → AllByRecursion IsLetter word → IsPrinted to word)
    (letters : (run word : List ℕ) → word_of_run from run ≡ Ok word → AllByRecursion IsLetter word) where
  abbrev pub marks : List Mark
  marks = marks_between from to

  abbrev pub Same : Mark → Type 0
  Same mark = IsSame from to (marks_in from) (marks_in to) mark × Written mark.becomes

  both : (list : List Mark) → AllByRecursion (IsSame from to (marks_in from) (marks_in to)) list → AllByRecursion (λ mark. Written mark.becomes) list → AllByRecursion Same list
  both [] a b = tt
  both (mark ∷ list) a b = ((a.0, b.0), both list a.1 b.1)

  all_same : AllByRecursion Same marks
  all_same = both marks (marks_same (is_devanagari from) (is_devanagari to) from to) keeps.marks

  none_in : (text : List ℕ) → first_mark marks text ≡ None → first_mark (marks_in from) text ≡ None
  none_in text h = none_same (is_devanagari from) (is_devanagari to) text h

  some_in : (text : List ℕ) (found : ℕ × List ℕ) → first_mark marks text ≡ Some found → (other : ℕ × List ℕ) × (first_mark (marks_in from) text ≡ Some other)
  some_in text found h =
      let entry = entry_at Same marks text found all_same h in
      let (other, e) = entry.has.0.source_begins (drop (length entry.mark.is) text) in
      (other, ap (first_mark (marks_in from)) entry.text_is ∙ e)

  -- the text and its result say the same
  pub record HasSigns (text result : List ℕ) : Type 0 where
    pub signs : List Sign
    pub source : (place : ℕ) → signs_of_parts from (parts_from (marks_in from) place 0 text) ≡ Ok signs
    pub target : (place : ℕ) → signs_of_parts to (parts_from (marks_in to) place 0 result) ≡ Ok signs
    pub no_run : AtMarkOrEnd marks text → (place : ℕ) → NoRunFirst (parts_from (marks_in to) place 0 result)
    pub written : Written result

  at_end : (result : List ℕ) → [] ≡ result → HasSigns [] result
  at_end result e = subst (HasSigns []) e (record { signs = []; source = λ place. refl; target = λ place. refl; no_run = λ at place. tt; written = keeps.nothing })

  -- a mark before the rest
  with_mark : (text result more : List ℕ) (found : ℕ × List ℕ) (entry : IsEntryAt Same text found) → result ≡ entry.mark.becomes ++ more
      → HasSigns (drop (length entry.mark.is) text) more → HasSigns text result
  with_mark text result more found entry e rest =
      let mark = entry.mark in
      let same = entry.has.0 in
      let signs = map Byte same.latin in record {
        signs = signs ++ rest.signs;
        source = λ place.
            let (after, is) = same.source_read place (drop (length mark.is) text) in
            ap (λ t. signs_of_parts from (parts_from (marks_in from) place 0 t)) entry.text_is ∙ is ∙ ap (with_signs signs) (rest.source after);
        target = λ place.
            let (after, is) = same.result_read place more in
            ap (λ t. signs_of_parts to (parts_from (marks_in to) place 0 t)) e ∙ is ∙ ap (with_signs signs) (rest.target after);
        no_run = λ at place.
            let (other, begins) = same.result_begins more in
            no_run_at_mark (marks_in to) result place other (ap (first_mark (marks_in to)) e ∙ begins);
        written = subst Written (sym e) (keeps.joined mark.becomes more entry.has.1 rest.written);
      }

  -- a spelled word before the rest
  word_target : (spelled word more : List ℕ) (place : ℕ) → IsPrinted to word → spelled ≡ spelling_in to word → (signs : List Sign)
      → ((after : ℕ) → signs_of_parts to (parts_from (marks_in to) after 0 more) ≡ Ok signs) → ((after : ℕ) → NoRunFirst (parts_from (marks_in to) after 0 more))
      → signs_of_parts to (parts_from (marks_in to) place 0 (spelled ++ more)) ≡ Ok (word_sign word ++ signs)
  word_target [] word more place is e signs rest no_run =
      rest place ∙ ap (λ w. Ok (word_sign w ++ signs)) (sym (is.empty (sym e)))
  word_target (byte ∷ bytes) word more place is e signs rest no_run =
      let clean = subst (HasNoMark (marks_in to)) (sym e) is.clean in
      let (after, parts) = within_run (marks_in to) (byte ∷ bytes) more place clean in
      ap (signs_of_parts to) (parts ∙ bytes_are_run (byte ∷ bytes) place (parts_from (marks_in to) after 0 more) (omega arith) (no_run after))
      ∙ ap (λ r. run_signs place r (signs_of_parts to (parts_from (marks_in to) after 0 more))) (ap (word_of_run to) e ∙ is.back)
      ∙ ap (with_signs (word_sign word)) (rest after)

  not_both : (text : List ℕ) → 0 < length text → first_mark marks text ≡ None → AtMarkOrEnd marks text → ⊥
  not_both text some none (inl end) = omega (arith, some, ap length end)
  not_both text some none (inr (found, e)) = absurd (cc (none, e))

  -- a run before the rest
  with_run : (text result more word : List ℕ) → 0 < length text → first_mark marks text ≡ None → word_of_run from (take (run_length marks text) text) ≡ Ok word
      → result ≡ spelling_in to word ++ more → HasSigns (drop (run_length marks text) text) more → HasSigns text result
  with_run text result more word some none reads e rest =
      let k = run_length marks text in
      let length_same : run_length (marks_in from) text ≡ k = same_runs marks (marks_in from) none_in some_in text in
      let word_is = letters (take k text) word reads in record {
        signs = word_sign word ++ rest.signs;
        source = λ place.
            ap (signs_of_parts from) (parts_of_run (marks_in from) text place some (none_in text none)
            ∙ ap (λ n. Run place (take n text) ∷ parts_from (marks_in from) (place + n) 0 (drop n text)) length_same)
            ∙ ap (λ r. run_signs place r (signs_of_parts from (parts_from (marks_in from) (place + k) 0 (drop k text)))) reads
            ∙ ap (with_signs (word_sign word)) (rest.source (place + k));
        target = λ place.
            ap (λ t. signs_of_parts to (parts_from (marks_in to) place 0 t)) e
            ∙ word_target (spelling_in to word) word more place (printed word word_is) refl rest.signs rest.target (rest.no_run (run_ends marks text));
        no_run = λ at place. absurd (not_both text some none at);
        written = subst Written (sym e) (keeps.joined (spelling_in to word) more (keeps.words word word_is) rest.written);
      }

  run_is : (place : ℕ) (reading rest : Reading) (result : List ℕ) → run_by to place reading rest ≡ Ok result
      → (word : List ℕ) × (more : List ℕ) × (reading ≡ Ok word) × (rest ≡ Ok more) × (result ≡ spelling_in to word ++ more)
  run_is place (Ok word) rest result h = let (more, e, is) = front_is (spelling_in to word) rest result h in (word, more, refl, e, is)
  run_is place (Err fault) rest result h = absurd (cc (h))

  abbrev pub Follows : ℕ → Type 0
  Follows fuel =
      (text result : List ℕ) (place : ℕ) → length text ≤ fuel → converted_parts from to (parts_from marks place 0 text) ≡ Ok result → HasSigns text result

  by_mark : (fuel : ℕ) → Follows fuel → (found : Option (ℕ × List ℕ)) (byte : ℕ) (text result : List ℕ) (place : ℕ) → length text ≤ fuel
      → first_mark marks (byte ∷ text) ≡ found → converted_parts from to (parts_from marks place 0 (byte ∷ text)) ≡ Ok result → HasSigns (byte ∷ text) result
  by_mark fuel follows (Some found) byte text result place fits e h =
      let whole = byte ∷ text in
      let entry = entry_at Same marks whole found all_same e in
      let size : suc (found.0 - 1) ≡ length entry.mark.is =
      let n = ap (λ (f : ℕ × List ℕ). f.0) entry.found_is in omega (arith, n, entry.has.0.some) in
      let parts = parts_of_mark marks whole place found (omega arith) e in
      let (more, rest, is) = front_is found.1 _ result (sym (ap (converted_parts from to) parts) ∙ h) in
      let short : length (drop (suc (found.0 - 1)) whole) ≤ fuel = omega (arith, fits, length-drop (suc (found.0 - 1)) whole) in
      let following = follows (drop (suc (found.0 - 1)) whole) more (place + suc (found.0 - 1)) short rest in
      with_mark whole result more found entry (is ∙ ap (λ (f : ℕ × List ℕ). f.1 ++ more) (sym entry.found_is))
      (subst (λ n. HasSigns (drop n whole) more) size following)
  by_mark fuel follows None byte text result place fits e h =
      let whole = byte ∷ text in
      let k = run_length marks whole in
      let some : 0 < length whole = omega arith in
      let parts = parts_of_run marks whole place some e in
      let (word, more, reads, rest, is) = run_is place (word_of_run from (take k whole)) _ result (sym (ap (converted_parts from to) parts) ∙ h) in
      let short : length (drop k whole) ≤ fuel = omega (arith, fits, length-drop k whole, run_some marks whole some e) in
      with_run whole result more word some e reads is (follows (drop k whole) more (place + k) short rest)

  pub says_same : (fuel : ℕ) → Follows fuel
  says_same fuel [] result place fits h = at_end result (cc (h))
  says_same zero (byte ∷ text) result place fits h = absurd (omega (arith, fits))
  says_same (suc fuel) (byte ∷ text) result place fits h =
      by_mark fuel (says_same fuel) (first_mark marks (byte ∷ text)) byte text result place (omega (arith, fits)) refl h
