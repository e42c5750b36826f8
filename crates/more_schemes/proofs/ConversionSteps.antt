-- One step of converting a line: by the mark with which the rest of the text begins, or else by the run before the next mark, which is
-- found by induction over its bytes.
use Rattle.std.proofs.Common.{◌≡◌, ℕ, zero, suc, ◌+◌, ◌-◌, ◌<◌, ◌≤◌, List, [], ◌∷◌, ◌++◌, length, get_or, take, drop, Option, Some, None, Ok, Err, arith, ap, ◌∙◌, sym, subst, add-zero, length-take, length-drop, refl, is_some, false}
use Rattle.std.specs.Borrow.{Bor}
use Rattle.std.proofs.lemmas.List.{take_rest, at_drop_more, drop-drop, append_assoc}
use Rattle.text_definitions.specs.Spellings.{SpellingFault, Reading, with_front}
use Rattle.text_definitions.specs.LineTexts.{fault_from}
use Rattle.conversion_definitions.specs.AnySchemes.{AnyScheme, word_of_run, spelling_in}
use Rattle.conversion_definitions.specs.Marks.{Mark, first_mark}
use Rattle.conversion_definitions.specs.Conversions.{Part, Becomes, Run, with_byte, parts_by, parts_from, run_by, converted_parts}
use Rattle.latin_schemes.specs.declared.spell_error.SpellError.{SpellError}
use Rattle.latin_schemes.specs.declared.spell_error.SpellError.TheVariants as errors
use Rattle.latin_schemes.specs.Faults.{fault_of, IsFaultOf}
use Rattle.more_schemes.specs.Values.{found_mark}
use Rattle.more_schemes.specs.Runs.{more_length, run_length}

-- bytes before these parts
abbrev pub with_bytes : ℕ → List ℕ → List Part → List Part
with_bytes place [] parts = parts
with_bytes place (byte ∷ bytes) parts = with_byte place byte (with_bytes (place + 1) bytes parts)

-- the parts begin with no run
abbrev pub NoRunFirst : List Part → Type 0
NoRunFirst [] = Unit {0}
NoRunFirst (Becomes bytes ∷ parts) = Unit {0}
NoRunFirst (Run place bytes ∷ parts) = ⊥

one_byte : (place byte : ℕ) (parts : List Part) → NoRunFirst parts → with_byte place byte parts ≡ Run place (byte ∷ []) ∷ parts
one_byte place byte [] h = refl
one_byte place byte (Becomes bytes ∷ parts) h = refl
one_byte place byte (Run after bytes ∷ parts) h = absurd h

-- some bytes are a run
pub bytes_are_run : (bytes : List ℕ) (place : ℕ) (parts : List Part) → 0 < length bytes → NoRunFirst parts → with_bytes place bytes parts ≡ Run place bytes ∷ parts
bytes_are_run [] place parts some h = absurd (omega arith)
bytes_are_run (byte ∷ []) place parts some h = one_byte place byte parts h
bytes_are_run (byte ∷ next ∷ bytes) place parts some h =
    ap (with_byte place byte) (bytes_are_run (next ∷ bytes) (place + 1) parts (omega arith) h)

module _ (marks : List Mark) where
  pub parts_at_front : (found : Option (ℕ × List ℕ)) (place byte : ℕ) (text : List ℕ) → first_mark marks (byte ∷ text) ≡ found → parts_from marks place 0 (byte ∷ text) ≡ parts_by place byte found (λ inside. parts_from marks (place + 1) inside text)
  parts_at_front found place byte text e = ap (λ f. parts_by place byte f (λ inside. parts_from marks (place + 1) inside text)) e

  run_by_front : (found : Option (ℕ × List ℕ)) (place byte : ℕ) (text : List ℕ) → first_mark marks (byte ∷ text) ≡ found → parts_from marks (place + 1) 0 text ≡ with_bytes (place + 1) (take (run_length marks text) text) (parts_from marks (place + 1 + run_length marks text) 0 (drop (run_length marks text) text)) → parts_from marks place 0 (byte ∷ text) ≡ with_bytes place (take (more_length found (run_length marks text)) (byte ∷ text)) (parts_from marks (place + more_length found (run_length marks text)) 0 (drop (more_length found (run_length marks text)) (byte ∷ text)))
  run_by_front (Some found) place byte text e rest = ap (λ p. parts_from marks p 0 (byte ∷ text)) (sym (add-zero place))
  run_by_front None place byte text e rest =
      let n = run_length marks text in
      let moved : place + 1 + n ≡ place + suc n = omega arith in
      parts_at_front None place byte text e
      ∙ ap (with_byte place byte) (rest ∙ ap (λ p. with_bytes (place + 1) (take n text) (parts_from marks p 0 (drop n text))) moved)

  -- the run at the front of a text, and the parts after it
  parts_after_run : (text : List ℕ) (place : ℕ) → parts_from marks place 0 text ≡ with_bytes place (take (run_length marks text) text) (parts_from marks (place + run_length marks text) 0 (drop (run_length marks text) text))
  parts_after_run [] place = refl
  parts_after_run (byte ∷ text) place =
      run_by_front (first_mark marks (byte ∷ text)) place byte text refl (parts_after_run text (place + 1))

  no_run_by : (found : Option (ℕ × List ℕ)) (place byte : ℕ) (text : List ℕ) → first_mark marks (byte ∷ text) ≡ found → NoRunFirst (parts_from marks place 0 (drop (run_length marks text) text)) → NoRunFirst (parts_from marks place 0 (drop (more_length found (run_length marks text)) (byte ∷ text)))
  no_run_by (Some found) place byte text e rest = subst NoRunFirst (sym (parts_at_front (Some found) place byte text e)) tt
  no_run_by None place byte text e rest = rest

  pub no_run_after : (text : List ℕ) (place : ℕ) → NoRunFirst (parts_from marks place 0 (drop (run_length marks text) text))
  no_run_after [] place = tt
  no_run_after (byte ∷ text) place = no_run_by (first_mark marks (byte ∷ text)) place byte text refl (no_run_after text place)

  within_by : (found : Option (ℕ × List ℕ)) (rest most : ℕ) → rest ≤ most → more_length found rest ≤ suc most
  within_by (Some found) rest most h = omega arith
  within_by None rest most h = omega arith

  -- the run is a part of the text
  pub run_within : (text : List ℕ) → run_length marks text ≤ length text
  run_within [] = omega arith
  run_within (byte ∷ text) = within_by (first_mark marks (byte ∷ text)) (run_length marks text) (length text) (run_within text)

  -- and not empty where the text begins with no mark
  pub run_some : (text : List ℕ) → 0 < length text → first_mark marks text ≡ None → 0 < run_length marks text
  run_some [] some e = absurd (omega arith)
  run_some (byte ∷ text) some e = subst (λ f. 0 < more_length f (run_length marks text)) (sym e) (omega arith)

  -- a text that begins with a run
  pub parts_of_run : (text : List ℕ) (place : ℕ) → 0 < length text → first_mark marks text ≡ None → parts_from marks place 0 text ≡ Run place (take (run_length marks text) text) ∷ parts_from marks (place + run_length marks text) 0 (drop (run_length marks text) text)
  parts_of_run text place some e =
      let n = run_length marks text in
      let len : 0 < length (take n text) = omega (arith, run_some text some e, run_within text, length-take n text) in
      parts_after_run text place ∙ bytes_are_run (take n text) place _ len (no_run_after text (place + n))

  past_inside : (inside place : ℕ) (text : List ℕ) → parts_from marks place inside text ≡ parts_from marks (place + inside) 0 (drop inside text)
  past_inside zero place text = ap (λ p. parts_from marks p 0 text) (sym (add-zero place))
  past_inside (suc inside) place [] = refl
  past_inside (suc inside) place (byte ∷ text) =
      let moved : place + 1 + inside ≡ place + suc inside = omega arith in
      past_inside inside (place + 1) text ∙ ap (λ p. parts_from marks p 0 (drop inside text)) moved

  past_front : (place more : ℕ) (text : List ℕ) → parts_from marks (place + 1) more text ≡ parts_from marks (place + suc more) 0 (drop more text)
  past_front place more text =
      let moved : place + 1 + more ≡ place + suc more = omega arith in
      past_inside more (place + 1) text ∙ ap (λ p. parts_from marks p 0 (drop more text)) moved

  -- a text that begins with a mark
  pub parts_of_mark : (text : List ℕ) (place : ℕ) (found : ℕ × List ℕ) → 0 < length text → first_mark marks text ≡ Some found → parts_from marks place 0 text ≡ Becomes found.1 ∷ parts_from marks (place + suc (found.0 - 1)) 0 (drop (suc (found.0 - 1)) text)
  parts_of_mark [] place found some e = absurd (omega arith)
  parts_of_mark (byte ∷ text) place found some e = parts_at_front (Some found) place byte text e ∙ ap (λ ps. Becomes found.1 ∷ ps) (past_front place (found.0 - 1) text)

  -- ---- in the rest of a text from a place on

  mark_here : (text : List ℕ) (place : ℕ) → place < length text → first_mark marks (take (length text - place) (drop place text)) ≡ first_mark marks (get_or text place 0 ∷ drop (place + 1) text)
  mark_here text place below = ap (first_mark marks) (take_rest text place) ∙ at_drop_more (first_mark marks) text place 0 below

  -- one byte more of a run
  pub one_more : (text : List ℕ) (place : ℕ) → place < length text → None ≡ first_mark marks (take (length text - place) (drop place text)) → run_length marks (drop place text) ≡ suc (run_length marks (drop (place + 1) text))
  one_more text place below e =
      at_drop_more (run_length marks) text place 0 below
      ∙ ap (λ f. more_length f (run_length marks (drop (place + 1) text))) (sym (e ∙ mark_here text place below))

  -- the end of a run
  pub no_more : (text : List ℕ) (place : ℕ) (found : ℕ × List ℕ) → place < length text → Some found ≡ first_mark marks (take (length text - place) (drop place text)) → run_length marks (drop place text) ≡ 0
  no_more text place found below e =
      at_drop_more (run_length marks) text place 0 below
      ∙ ap (λ f. more_length f (run_length marks (drop (place + 1) text))) (sym (e ∙ mark_here text place below))

  rest_is : (text : List ℕ) (place count : ℕ) → 0 < count → parts_from marks (place + suc (count - 1)) 0 (drop (suc (count - 1)) (drop place text)) ≡ parts_from marks (place + count) 0 (drop (place + count) text)
  rest_is text place count some =
      let one : suc (count - 1) ≡ count = omega arith in
      ap (λ n. parts_from marks (place + n) 0 (drop n (drop place text))) one ∙ ap (parts_from marks (place + count) 0) (drop-drop count place text)

  some_left : (text : List ℕ) (place : ℕ) → place < length text → 0 < length (drop place text)
  some_left text place below = omega (arith, length-drop place text)

  begins_so : (text : List ℕ) (place : ℕ) (found : Option (ℕ × List ℕ)) → found ≡ first_mark marks (take (length text - place) (drop place text)) → first_mark marks (drop place text) ≡ found
  begins_so text place found e = sym (e ∙ ap (first_mark marks) (take_rest text place))

  -- a mark at the place
  pub at_mark : (text : List ℕ) (place : ℕ) (found : ℕ × List ℕ) → place < length text → Some found ≡ first_mark marks (take (length text - place) (drop place text)) → 0 < found.0 → parts_from marks place 0 (drop place text) ≡ Becomes found.1 ∷ parts_from marks (place + found.0) 0 (drop (place + found.0) text)
  at_mark text place found below e some =
      parts_of_mark (drop place text) place found (some_left text place below) (begins_so text place (Some found) e)
      ∙ ap (λ ps. Becomes found.1 ∷ ps) (rest_is text place found.0 some)

  -- a run at the place
  pub at_run : (text : List ℕ) (place count : ℕ) → place < length text → None ≡ first_mark marks (take (length text - place) (drop place text)) → count ≡ run_length marks (take (length text - place) (drop place text)) → parts_from marks place 0 (drop place text) ≡ Run place (take (place + count - place) (drop place text)) ∷ parts_from marks (place + count) 0 (drop (place + count) text)
  at_run text place count below e is =
      let len = is ∙ ap (run_length marks) (take_rest text place) in
      let back : count ≡ place + count - place = omega arith in
      parts_of_run (drop place text) place (some_left text place below) (begins_so text place None e)
      ∙ ap (λ n. Run place (take n (drop place text)) ∷ parts_from marks (place + n) 0 (drop n (drop place text))) (sym len)
      ∙ ap (λ t. Run place (take count (drop place text)) ∷ parts_from marks (place + count) 0 t) (drop-drop count place text)
      ∙ ap (λ n. Run place (take n (drop place text)) ∷ parts_from marks (place + count) 0 (drop (place + count) text)) back

  -- such a run is not empty
  pub some_run : (text : List ℕ) (place count : ℕ) → place < length text → None ≡ first_mark marks (take (length text - place) (drop place text)) → count ≡ run_length marks (take (length text - place) (drop place text)) → 0 < count
  some_run text place count below e is =
      let len = is ∙ ap (run_length marks) (take_rest text place) in
      subst (λ n. 0 < n) (sym len) (run_some (drop place text) (some_left text place below) (begins_so text place None e))

-- ---- what was converted before the rest

with_front_append : (xs ys : List ℕ) (reading : Reading) → with_front (xs ++ ys) reading ≡ with_front xs (with_front ys reading)
with_front_append xs ys (Ok word) = ap (λ w. Ok w) (append_assoc xs ys word)
with_front_append xs ys (Err fault) = refl

-- a mark is appended
pub mark_pushed : (from to : AnyScheme) (old new bytes : List ℕ) (parts : List Part) → new ≡ old ++ bytes → with_front new (converted_parts from to parts) ≡ with_front old (converted_parts from to (Becomes bytes ∷ parts))
mark_pushed from to old new bytes parts e = ap (λ n. with_front n (converted_parts from to parts)) e ∙ with_front_append old bytes (converted_parts from to parts)

-- a word is appended, which the run spells
pub with_front_pushed : (old new bytes : List ℕ) (reading : Reading) → new ≡ old ++ bytes → with_front new reading ≡ with_front old (with_front bytes reading)
with_front_pushed old new bytes reading e = ap (λ n. with_front n reading) e ∙ with_front_append old bytes reading

-- a fault of the rest is that of the whole
pub fault_of_rest : (old new : List ℕ) (whole rest : Reading) (fault : _) → with_front new rest ≡ with_front old whole → rest ≡ Err fault → whole ≡ Err fault
fault_of_rest old new (Ok word) rest fault e is = let p : Err fault ≡ Ok (old ++ word) = sym (ap (with_front new) is) ∙ e in absurd (cc (p))
fault_of_rest old new (Err other) rest fault e is = let p : Err fault ≡ Err other = sym (ap (with_front new) is) ∙ e in cc (p)

-- the spelling of the word that a run spells is appended
pub run_pushed : (from to : AnyScheme) (old new : List ℕ) (place : ℕ) (run word : List ℕ) (parts : List Part) → word_of_run from run ≡ Ok word → new ≡ old ++ spelling_in to word → with_front new (converted_parts from to parts) ≡ with_front old (converted_parts from to (Run place run ∷ parts))
run_pushed from to old new place run word parts is e =
    with_front_pushed old new (spelling_in to word) (converted_parts from to parts) e
    ∙ ap (λ r. with_front old (run_by to place r (converted_parts from to parts))) (sym is)

-- the fault of a run is that of its parts
pub run_refused : (from to : AnyScheme) (place : ℕ) (run : List ℕ) (fault : SpellingFault) (parts : List Part) → word_of_run from run ≡ Err fault → converted_parts from to (Run place run ∷ parts) ≡ Err (fault_from place fault)
run_refused from to place run fault parts is = ap (λ r. run_by to place r (converted_parts from to parts)) is

-- ---- what the program told

-- a mark that was not found
pub none_found : (found : Option (ℕ × Bor (List ℕ))) → is_some found ≡ false → None ≡ found_mark found
none_found None h = refl
none_found (Some pair) h = absurd (cc (h))

-- the fault of the rest is that of the whole text
pub fault_carried : (error : SpellError) (old new : List ℕ) (whole rest : Reading) → with_front new rest ≡ with_front old whole → IsFaultOf error rest → IsFaultOf error whole
fault_carried (errors.Fault fault) old new whole rest e is = fault_of_rest old new whole rest (fault_of fault) e is
fault_carried errors.Memory old new whole rest e is = tt
