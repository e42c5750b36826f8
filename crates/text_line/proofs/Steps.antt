-- One step of reading a line: by what the rest of the text begins with, and for a piece by induction over its bytes.
use Rattle.std.proofs.Common.{◌≡◌, ℕ, zero, suc, ◌+◌, ◌-◌, ◌<◌, ◌≤◌, Bool, true, false, cond, ◌||◌, List, [], ◌∷◌, length, get_or, take, drop, Ok, Err, eqb, ltb, arith, ap, ◌∙◌, sym, subst, add-zero, length-append, length-take, length-drop, refl}
use Rattle.std.proofs.lemmas.List.{take_rest, at_drop_more, drop-drop}
use Rattle.std.proofs.lemmas.Bool.Decides.{nat_tests}
use Rattle.text_definitions.specs.declared.limits.TheConstants.{MOST_LINE_LETTERS}
use Rattle.text_definitions.specs.Lines.{Line}
use Rattle.text_definitions.specs.Spellings.{Reading, NotLetter}
use Rattle.text_definitions.specs.Schemes.{Scheme, word_of_text}
use Rattle.text_definitions.specs.LineTexts.{Misspelled, NoLetters, TooLong, Front, GapMark, DigitMark, Other, front_of, letter_begins, has_letter, Part, Gap, Digit, Piece, digit_at, with_byte, parts_by, parts_from, with_word, piece_by, Spelled, line_of_parts, line_within_limits}
use Rattle.text_line.specs.Pieces.{more_length, piece_length, line_after}

-- bytes before these parts
abbrev with_bytes : ℕ → List ℕ → List Part → List Part
with_bytes place [] parts = parts
with_bytes place (byte ∷ bytes) parts = with_byte place byte (with_bytes (place + 1) bytes parts)

-- the parts begin with no piece
abbrev NoPieceFirst : List Part → Type 0
NoPieceFirst [] = Unit {0}
NoPieceFirst (Gap ∷ parts) = Unit {0}
NoPieceFirst (Digit place ∷ parts) = Unit {0}
NoPieceFirst (Piece place bytes ∷ parts) = ⊥

one_byte : (place byte : ℕ) (parts : List Part) → NoPieceFirst parts → with_byte place byte parts ≡ Piece place (byte ∷ []) ∷ parts
one_byte place byte [] h = refl
one_byte place byte (Gap ∷ parts) h = refl
one_byte place byte (Digit after ∷ parts) h = refl
one_byte place byte (Piece after bytes ∷ parts) h = absurd h

-- some bytes are a piece
bytes_are_piece : (bytes : List ℕ) (place : ℕ) (parts : List Part) → 0 < length bytes → NoPieceFirst parts → with_bytes place bytes parts ≡ Piece place bytes ∷ parts
bytes_are_piece [] place parts some h = absurd (omega arith)
bytes_are_piece (byte ∷ []) place parts some h = one_byte place byte parts h
bytes_are_piece (byte ∷ next ∷ bytes) place parts some h =
    ap (with_byte place byte) (bytes_are_piece (next ∷ bytes) (place + 1) parts (omega arith) h)

module _ (scheme : Scheme) where
  parts_at_front : (front : Front) (place byte : ℕ) (text : List ℕ) → front_of scheme (byte ∷ text) ≡ front → parts_from scheme place 0 (byte ∷ text) ≡ parts_by scheme place byte text front (λ inside. parts_from scheme (place + 1) inside text)
  parts_at_front front place byte text e =
      ap (λ f. parts_by scheme place byte text f (λ inside. parts_from scheme (place + 1) inside text)) e

  piece_by_front : (front : Front) (place byte : ℕ) (text : List ℕ) → front_of scheme (byte ∷ text) ≡ front → parts_from scheme (place + 1) 0 text ≡ with_bytes (place + 1) (take (piece_length scheme text) text) (parts_from scheme (place + 1 + piece_length scheme text) 0 (drop (piece_length scheme text) text)) → parts_from scheme place 0 (byte ∷ text) ≡ with_bytes place (take (more_length front (piece_length scheme text)) (byte ∷ text)) (parts_from scheme (place + more_length front (piece_length scheme text)) 0 (drop (more_length front (piece_length scheme text)) (byte ∷ text)))
  piece_by_front (GapMark more) place byte text e rest = ap (λ p. parts_from scheme p 0 (byte ∷ text)) (sym (add-zero place))
  piece_by_front (DigitMark more) place byte text e rest = ap (λ p. parts_from scheme p 0 (byte ∷ text)) (sym (add-zero place))
  piece_by_front Other place byte text e rest =
      let n = piece_length scheme text in
      let moved : place + 1 + n ≡ place + suc n = omega arith in
      parts_at_front Other place byte text e
      ∙ ap (with_byte place byte) (rest ∙ ap (λ p. with_bytes (place + 1) (take n text) (parts_from scheme p 0 (drop n text))) moved)

  -- the piece at the front of a text, and the parts after it
  parts_after_piece : (text : List ℕ) (place : ℕ) → parts_from scheme place 0 text ≡ with_bytes place (take (piece_length scheme text) text) (parts_from scheme (place + piece_length scheme text) 0 (drop (piece_length scheme text) text))
  parts_after_piece [] place = refl
  parts_after_piece (byte ∷ text) place =
      piece_by_front (front_of scheme (byte ∷ text)) place byte text refl (parts_after_piece text (place + 1))

  no_piece_by : (front : Front) (place byte : ℕ) (text : List ℕ) → front_of scheme (byte ∷ text) ≡ front → NoPieceFirst (parts_from scheme place 0 (drop (piece_length scheme text) text)) → NoPieceFirst (parts_from scheme place 0 (drop (more_length front (piece_length scheme text)) (byte ∷ text)))
  no_piece_by (GapMark more) place byte text e rest = subst NoPieceFirst (sym (parts_at_front (GapMark more) place byte text e)) tt
  no_piece_by (DigitMark more) place byte text e rest =
      subst NoPieceFirst (sym (parts_at_front (DigitMark more) place byte text e)) (no_piece_digit place (has_letter scheme (drop more text)) (parts_from scheme (place + 1) more text))
    where
      no_piece_digit : (place : ℕ) (later : Bool) (parts : List Part) → NoPieceFirst (digit_at place later ∷ parts)
      no_piece_digit place true parts = tt
      no_piece_digit place false parts = tt
  no_piece_by Other place byte text e rest = rest

  no_piece_after : (text : List ℕ) (place : ℕ) → NoPieceFirst (parts_from scheme place 0 (drop (piece_length scheme text) text))
  no_piece_after [] place = tt
  no_piece_after (byte ∷ text) place = no_piece_by (front_of scheme (byte ∷ text)) place byte text refl (no_piece_after text place)

  within_by : (front : Front) (rest most : ℕ) → rest ≤ most → more_length front rest ≤ suc most
  within_by (GapMark more) rest most h = omega arith
  within_by (DigitMark more) rest most h = omega arith
  within_by Other rest most h = omega arith

  -- the piece is a part of the text
  pub piece_within : (text : List ℕ) → piece_length scheme text ≤ length text
  piece_within [] = omega arith
  piece_within (byte ∷ text) = within_by (front_of scheme (byte ∷ text)) (piece_length scheme text) (length text) (piece_within text)

  -- and not empty where the text begins with a byte of a piece
  pub piece_some : (text : List ℕ) → 0 < length text → front_of scheme text ≡ Other → 0 < piece_length scheme text
  piece_some [] some e = absurd (omega arith)
  piece_some (byte ∷ text) some e = subst (λ f. 0 < more_length f (piece_length scheme text)) (sym e) (omega arith)

  -- a text that begins with a byte of a piece
  pub parts_of_piece : (text : List ℕ) (place : ℕ) → 0 < length text → front_of scheme text ≡ Other → parts_from scheme place 0 text ≡ Piece place (take (piece_length scheme text) text) ∷ parts_from scheme (place + piece_length scheme text) 0 (drop (piece_length scheme text) text)
  parts_of_piece text place some e =
      let n = piece_length scheme text in
      let len : 0 < length (take n text) = omega (arith, piece_some text some e, piece_within text, length-take n text) in
      parts_after_piece text place ∙ bytes_are_piece (take n text) place _ len (no_piece_after text (place + n))

  past_inside : (inside place : ℕ) (text : List ℕ) → parts_from scheme place inside text ≡ parts_from scheme (place + inside) 0 (drop inside text)
  past_inside zero place text = ap (λ p. parts_from scheme p 0 text) (sym (add-zero place))
  past_inside (suc inside) place [] = refl
  past_inside (suc inside) place (byte ∷ text) =
      let moved : place + 1 + inside ≡ place + suc inside = omega arith in
      past_inside inside (place + 1) text ∙ ap (λ p. parts_from scheme p 0 (drop inside text)) moved

  past_front : (place more : ℕ) (text : List ℕ) → parts_from scheme (place + 1) more text ≡ parts_from scheme (place + suc more) 0 (drop more text)
  past_front place more text =
      let moved : place + 1 + more ≡ place + suc more = omega arith in
      past_inside more (place + 1) text ∙ ap (λ p. parts_from scheme p 0 (drop more text)) moved

  -- a text that begins with a gap mark
  pub parts_of_gap : (text : List ℕ) (place more : ℕ) → 0 < length text → front_of scheme text ≡ GapMark more → parts_from scheme place 0 text ≡ Gap ∷ parts_from scheme (place + suc more) 0 (drop (suc more) text)
  parts_of_gap [] place more some e = absurd (omega arith)
  parts_of_gap (byte ∷ text) place more some e = parts_at_front (GapMark more) place byte text e ∙ ap (λ ps. Gap ∷ ps) (past_front place more text)

  -- a text that begins with a digit
  pub parts_of_digit : (text : List ℕ) (place more : ℕ) → 0 < length text → front_of scheme text ≡ DigitMark more → parts_from scheme place 0 text ≡ digit_at place (has_letter scheme (drop (suc more) text)) ∷ parts_from scheme (place + suc more) 0 (drop (suc more) text)
  parts_of_digit [] place more some e = absurd (omega arith)
  parts_of_digit (byte ∷ text) place more some e =
      parts_at_front (DigitMark more) place byte text e ∙ ap (λ ps. digit_at place (has_letter scheme (drop more text)) ∷ ps) (past_front place more text)

  -- a text without letters has no letter after any of its bytes
  pub no_letter_after : (count : ℕ) (text : List ℕ) → has_letter scheme text ≡ false → has_letter scheme (drop count text) ≡ false
  no_letter_after zero text h = h
  no_letter_after (suc count) [] h = h
  no_letter_after (suc count) (byte ∷ text) h = no_letter_after count text (second_false (letter_begins scheme (byte ∷ text)) (has_letter scheme text) h)
    where
      second_false : (a b : Bool) → a || b ≡ false → b ≡ false
      second_false true b h = absurd (cc)
      second_false false b h = h

-- too many letters are no line
limits_by : (line : Line) (none many : Bool) → eqb (length line.letters) 0 ≡ none → ltb MOST_LINE_LETTERS (length line.letters) ≡ many → none ≡ false → many ≡ true → line_within_limits (Ok line) ≡ Err TooLong
limits_by line none many n m f t =
    ap (λ b. cond b (Err NoLetters) (cond (ltb MOST_LINE_LETTERS (length line.letters)) (Err TooLong) (Ok line))) (n ∙ f) ∙ ap (λ b. cond b (Err TooLong) (Ok line)) (m ∙ t)

too_many : (line : Line) → MOST_LINE_LETTERS < length line.letters → line_within_limits (Ok line) ≡ Err TooLong
too_many line h = limits_by line _ _ refl refl (grind (arith, nat_tests)) (grind (arith, nat_tests))

piece_after_too_many : (place : ℕ) (reading : Reading) (left right : Line) (rest : Line → Spelled) → MOST_LINE_LETTERS < length left.letters → MOST_LINE_LETTERS < length right.letters → ((l r : Line) → MOST_LINE_LETTERS < length l.letters → MOST_LINE_LETTERS < length r.letters → line_within_limits (rest l) ≡ line_within_limits (rest r)) → line_within_limits (piece_by place left reading rest) ≡ line_within_limits (piece_by place right reading rest)
piece_after_too_many place (Ok word) left right rest l r same =
    same (with_word left word) (with_word right word) (omega (arith, length-append left.letters word)) (omega (arith, length-append right.letters word))
piece_after_too_many place (Err fault) left right rest l r same = refl

-- after too many letters it does not matter which they are
pub same_after_too_many : (scheme : Scheme) (parts : List Part) (left right : Line) → MOST_LINE_LETTERS < length left.letters → MOST_LINE_LETTERS < length right.letters → line_after scheme left parts ≡ line_after scheme right parts
same_after_too_many scheme [] left right l r = too_many left l ∙ sym (too_many right r)
same_after_too_many scheme (Gap ∷ parts) left right l r = same_after_too_many scheme parts left right l r
same_after_too_many scheme (Digit place ∷ parts) left right l r = refl
same_after_too_many scheme (Piece place bytes ∷ parts) left right l r =
    piece_after_too_many place (word_of_text scheme bytes) left right (λ more. line_of_parts scheme more parts) l r (same_after_too_many scheme parts)

-- a piece that is read after too many letters changes nothing
pub same_with_piece : (scheme : Scheme) (line : Line) (place : ℕ) (bytes word : List ℕ) (parts : List Part) → MOST_LINE_LETTERS < length line.letters → word_of_text scheme bytes ≡ Ok word → line_after scheme line parts ≡ line_after scheme line (Piece place bytes ∷ parts)
same_with_piece scheme line place bytes word parts many read =
    same_after_too_many scheme parts line (with_word line word) many (omega (arith, length-append line.letters word))
    ∙ ap (λ r. line_within_limits (piece_by place line r (λ more. line_of_parts scheme more parts))) (sym read)

module _ (scheme : Scheme) where
  front_here : (text : List ℕ) (place : ℕ) → place < length text → front_of scheme (take (length text - place) (drop place text)) ≡ front_of scheme (get_or text place 0 ∷ drop (place + 1) text)
  front_here text place below = ap (front_of scheme) (take_rest text place) ∙ at_drop_more (front_of scheme) text place 0 below

  -- one byte more of a piece
  pub one_more : (text : List ℕ) (place : ℕ) → place < length text → Other ≡ front_of scheme (take (length text - place) (drop place text)) → piece_length scheme (drop place text) ≡ suc (piece_length scheme (drop (place + 1) text))
  one_more text place below e =
      at_drop_more (piece_length scheme) text place 0 below
      ∙ ap (λ f. more_length f (piece_length scheme (drop (place + 1) text))) (sym (e ∙ front_here text place below))

  -- the end of a piece
  pub no_more : (text : List ℕ) (place : ℕ) (front : Front) → place < length text → front ≡ front_of scheme (take (length text - place) (drop place text)) → (front ≡ Other → ⊥) → piece_length scheme (drop place text) ≡ 0
  no_more text place front below e other =
      at_drop_more (piece_length scheme) text place 0 below
      ∙ ap (λ f. more_length f (piece_length scheme (drop (place + 1) text))) (sym (e ∙ front_here text place below))
      ∙ none front other
    where
      none : (front : Front) → (front ≡ Other → ⊥) → more_length front (piece_length scheme (drop (place + 1) text)) ≡ 0
      none (GapMark more) h = refl
      none (DigitMark more) h = refl
      none Other h = absurd (h refl)

  letter_here : (text : List ℕ) (place : ℕ) → place < length text → has_letter scheme (drop place text) ≡ letter_begins scheme (take (length text - place) (drop place text)) || has_letter scheme (drop (place + 1) text)
  letter_here text place below =
      at_drop_more (has_letter scheme) text place 0 below
      ∙ ap (λ b. b || has_letter scheme (drop (place + 1) text)) (sym (ap (letter_begins scheme) (take_rest text place) ∙ at_drop_more (letter_begins scheme) text place 0 below))

  -- where no letter begins, the rest has a letter exactly where the text after this byte has
  pub no_letter_here : (text : List ℕ) (place : ℕ) (begins : Bool) → place < length text → begins ≡ letter_begins scheme (take (length text - place) (drop place text)) → begins ≡ false → has_letter scheme (drop (place + 1) text) ≡ has_letter scheme (drop place text)
  no_letter_here text place begins below is none =
      sym (letter_here text place below ∙ ap (λ b. b || has_letter scheme (drop (place + 1) text)) (sym is ∙ none))

  -- where a letter begins, the rest has a letter
  pub has_letter_here : (text : List ℕ) (place : ℕ) (begins : Bool) → place < length text → begins ≡ letter_begins scheme (take (length text - place) (drop place text)) → begins ≡ true → has_letter scheme (drop place text) ≡ true
  has_letter_here text place begins below is some =
      letter_here text place below ∙ ap (λ b. b || has_letter scheme (drop (place + 1) text)) (sym is ∙ some)

  -- the rest after so many bytes, in the two ways in which it is written
  rest_is : (text : List ℕ) (place count : ℕ) → 0 < count → parts_from scheme (place + suc (count - 1)) 0 (drop (suc (count - 1)) (drop place text)) ≡ parts_from scheme (place + count) 0 (drop (place + count) text)
  rest_is text place count some =
      let one : suc (count - 1) ≡ count = omega arith in
      ap (λ n. parts_from scheme (place + n) 0 (drop n (drop place text))) one ∙ ap (parts_from scheme (place + count) 0) (drop-drop count place text)

  some_left : (text : List ℕ) (place : ℕ) → place < length text → 0 < length (drop place text)
  some_left text place below = omega (arith, length-drop place text)

  begins_so : (text : List ℕ) (place : ℕ) (front : Front) → front ≡ front_of scheme (take (length text - place) (drop place text)) → front_of scheme (drop place text) ≡ front
  begins_so text place front e = sym (e ∙ ap (front_of scheme) (take_rest text place))

  -- a gap mark is passed over
  pub past_gap : (text : List ℕ) (place count : ℕ) (line : Line) → place < length text → GapMark (count - 1) ≡ front_of scheme (take (length text - place) (drop place text)) → 0 < count → line_after scheme line (parts_from scheme (place + count) 0 (drop (place + count) text)) ≡ line_after scheme line (parts_from scheme place 0 (drop place text))
  past_gap text place count line below e some =
      ap (line_after scheme line) (sym (parts_of_gap scheme (drop place text) place (count - 1) (some_left text place below) (begins_so text place _ e) ∙ ap (λ ps. Gap ∷ ps) (rest_is text place count some)))

  digit_parts : (text : List ℕ) (place count : ℕ) (later : Bool) → place < length text → DigitMark (count - 1) ≡ front_of scheme (take (length text - place) (drop place text)) → 0 < count → has_letter scheme (drop (place + count) text) ≡ later → parts_from scheme place 0 (drop place text) ≡ digit_at place later ∷ parts_from scheme (place + count) 0 (drop (place + count) text)
  digit_parts text place count later below e some h =
      let one : suc (count - 1) ≡ count = omega arith in
      let here = ap (λ n. has_letter scheme (drop n (drop place text))) one ∙ ap (has_letter scheme) (drop-drop count place text) ∙ h in
      parts_of_digit scheme (drop place text) place (count - 1) (some_left text place below) (begins_so text place _ e)
      ∙ ap (λ ps. digit_at place (has_letter scheme (drop (suc (count - 1)) (drop place text))) ∷ ps) (rest_is text place count some)
      ∙ ap (λ b. digit_at place b ∷ parts_from scheme (place + count) 0 (drop (place + count) text)) here

  -- a digit after the last letter is passed over
  pub past_digit : (text : List ℕ) (place count : ℕ) (line : Line) → place < length text → DigitMark (count - 1) ≡ front_of scheme (take (length text - place) (drop place text)) → 0 < count → has_letter scheme (drop (place + count) text) ≡ false → line_after scheme line (parts_from scheme (place + count) 0 (drop (place + count) text)) ≡ line_after scheme line (parts_from scheme place 0 (drop place text))
  past_digit text place count line below e some h = ap (line_after scheme line) (sym (digit_parts text place count false below e some h))

  -- a digit before a later letter is at fault
  pub digit_fault : (text : List ℕ) (place count : ℕ) (line : Line) → place < length text → DigitMark (count - 1) ≡ front_of scheme (take (length text - place) (drop place text)) → 0 < count → has_letter scheme (drop (place + count) text) ≡ true → line_after scheme line (parts_from scheme place 0 (drop place text)) ≡ Err (Misspelled (NotLetter place))
  digit_fault text place count line below e some h = ap (line_after scheme line) (digit_parts text place count true below e some h)

  -- a text whose rest begins with a piece
  pub past_piece : (text : List ℕ) (place count : ℕ) → place < length text → Other ≡ front_of scheme (take (length text - place) (drop place text)) → count ≡ piece_length scheme (take (length text - place) (drop place text)) → parts_from scheme place 0 (drop place text) ≡ Piece place (take (place + count - place) (drop place text)) ∷ parts_from scheme (place + count) 0 (drop (place + count) text)
  past_piece text place count below e is =
      let len = is ∙ ap (piece_length scheme) (take_rest text place) in
      let back : count ≡ place + count - place = omega arith in
      parts_of_piece scheme (drop place text) place (some_left text place below) (begins_so text place Other e)
      ∙ ap (λ n. Piece place (take n (drop place text)) ∷ parts_from scheme (place + n) 0 (drop n (drop place text))) (sym len)
      ∙ ap (λ t. Piece place (take count (drop place text)) ∷ parts_from scheme (place + count) 0 t) (drop-drop count place text)
      ∙ ap (λ n. Piece place (take n (drop place text)) ∷ parts_from scheme (place + count) 0 (drop (place + count) text)) back

  -- such a piece is not empty
  pub some_piece : (text : List ℕ) (place count : ℕ) → place < length text → Other ≡ front_of scheme (take (length text - place) (drop place text)) → count ≡ piece_length scheme (take (length text - place) (drop place text)) → 0 < count
  some_piece text place count below e is =
      let len = is ∙ ap (piece_length scheme) (take_rest text place) in
      subst (λ n. 0 < n) (sym len) (piece_some scheme (drop place text) (some_left text place below) (begins_so text place Other e))

  -- whether there is a letter in the rest, as a slice has it
  pub letter_in_rest : (text : List ℕ) (place : ℕ) (found later : Bool) → found ≡ has_letter scheme (take (length text - place) (drop place text)) → found ≡ later → has_letter scheme (drop place text) ≡ later
  letter_in_rest text place found later is so = sym (is ∙ ap (has_letter scheme) (take_rest text place)) ∙ so

  -- where there is no letter any more, there is no letter after so many bytes
  pub still_none : (text : List ℕ) (place count : ℕ) → has_letter scheme (drop place text) ≡ false → has_letter scheme (drop (place + count) text) ≡ false
  still_none text place count h = ap (has_letter scheme) (sym (drop-drop count place text)) ∙ no_letter_after scheme count (drop place text) h
