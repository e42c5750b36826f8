-- What a class's text and its name give, test by test.
use Rattle.std.proofs.Common.{◌≡◌, ◌≢◌, ℕ, Bool, true, false, cond, option_and_then, Option, Some, None, Ok, Err, List, [], ◌∷◌, refl, sym, ◌∙◌, ap, IsUtf8, arith}
use Rattle.std.specs.List.{list_all}
use Rattle.std.proofs.lemmas.Bool.{and_parts, and_from}
use Rattle.std.proofs.lemmas.Str.{IsUtf8-from_is_utf8}
use Rattle.std.proofs.lemmas.Bool.Decides.{nat_tests}
use Rattle.toml.specs.Data.{Data, string, integer, float, boolean, datetime, array, table, Members, get_member, as_str}
use Rattle.text_definitions.specs.Spellings.{Reading}
use Rattle.text_definitions.specs.Slp1.{word_of_slp1}
use Rattle.lexicon_definitions.specs.GrammarFaults.{is_small_letter}
use Rattle.lexicon_text_definitions.proofs.CleanBytes.{is_clean, clean_utf8}
use Rattle.rule_file_definitions.specs.SoundClasses.{is_sound_class_name, are_new, different_letters, class_letters, letters_in, letters_named}
use Rattle.rule_file.specs.Held.{word_of}

-- ---- the letters of a text

unread_by : (reading : Reading) → None ≡ word_of reading → None ≡ different_letters reading
unread_by (Ok word) e = absurd (cc)
unread_by (Err fault) e = refl

pub unread : (text : List ℕ) → None ≡ word_of (word_of_slp1 text) → None ≡ class_letters text
unfolding class_letters
unread text e = unread_by (word_of_slp1 text) e

none_by : (reading : Reading) → Some [] ≡ word_of reading → None ≡ different_letters reading
none_by (Ok []) e = refl
none_by (Ok (letter ∷ word)) e = absurd (cc)
none_by (Err fault) e = absurd (cc)

pub no_letter : (text word : List ℕ) → Some word ≡ word_of (word_of_slp1 text) → word ≡ [] → None ≡ class_letters text
unfolding class_letters
no_letter text word e n = none_by (word_of_slp1 text) (ap (λ w. Some w) (sym n) ∙ e)

tested_by : (reading : Reading) (word : List ℕ) (test : Bool) → Some word ≡ word_of reading → word ≢ [] → are_new [] word ≡ test
    → cond test (Some word) None ≡ different_letters reading
tested_by (Ok []) word test e n t = let same : word ≡ [] = cc in absurd (n same)
tested_by (Ok (letter ∷ rest)) word test e n t =
    let same : word ≡ letter ∷ rest = cc in
    ap (λ b. cond b (Some word) None) (sym t) ∙ (λ i. cond (are_new [] (same i)) (Some (same i)) None)
tested_by (Err fault) word test e n t = absurd (cc)

pub tested_letters : (text word : List ℕ) (test : Bool) → Some word ≡ word_of (word_of_slp1 text) → word ≢ [] → are_new [] word ≡ test
    → cond test (Some word) None ≡ class_letters text
unfolding class_letters
tested_letters text word test e n t = tested_by (word_of_slp1 text) word test e n t

-- ---- the class of a name

pub not_named : (classes : Members) (name : List ℕ) → is_sound_class_name name ≡ false → None ≡ letters_named classes name
unfolding letters_named
not_named classes name e = sym (ap (λ b. cond b (letters_in (get_member name classes)) None) e)

held_by : (held : Option Data) (text : List ℕ) → Some text ≡ option_and_then as_str held → class_letters text ≡ letters_in held
held_by (Some (string found)) text e = let same : text ≡ found = cc in ap class_letters same
held_by None text e = absurd (cc)
held_by (Some (array items)) text e = absurd (cc)
held_by (Some (integer z)) text e = absurd (cc)
held_by (Some (float x)) text e = absurd (cc)
held_by (Some (boolean b)) text e = absurd (cc)
held_by (Some (datetime dt)) text e = absurd (cc)
held_by (Some (table inner)) text e = absurd (cc)

not_held : (held : Option Data) → None ≡ option_and_then as_str held → None ≡ letters_in held
not_held (Some (string found)) e = absurd (cc)
not_held None e = refl
not_held (Some other) e = refl

pub named_text : (classes : Members) (name text : List ℕ) → is_sound_class_name name ≡ true → Some text ≡ option_and_then as_str (get_member name classes)
    → class_letters text ≡ letters_named classes name
unfolding letters_named
named_text classes name text t e =
    held_by (get_member name classes) text e ∙ sym (ap (λ b. cond b (letters_in (get_member name classes)) None) t)

pub no_text : (classes : Members) (name : List ℕ) → is_sound_class_name name ≡ true → None ≡ option_and_then as_str (get_member name classes)
    → None ≡ letters_named classes name
unfolding letters_named
no_text classes name t e =
    not_held (get_member name classes) e ∙ sym (ap (λ b. cond b (letters_in (get_member name classes)) None) t)

-- a class's name is text

clean_letter : (byte : ℕ) → is_small_letter byte ≡ true → is_clean byte ≡ true
clean_letter byte h = grind (arith, nat_tests)

clean_letters : (bytes : List ℕ) → list_all is_small_letter bytes ≡ true → list_all is_clean bytes ≡ true
clean_letters [] h = refl
clean_letters (byte ∷ bytes) h =
    let parts = and_parts (is_small_letter byte) (list_all is_small_letter bytes) h in
    and_from (is_clean byte) (list_all is_clean bytes) (clean_letter byte parts.0) (clean_letters bytes parts.1)

pub name_utf8 : (name : List ℕ) → is_sound_class_name name ≡ true → IsUtf8 name
name_utf8 [] h = absurd (cc)
name_utf8 (byte ∷ bytes) h =
    let parts = and_parts _ (list_all is_small_letter (byte ∷ bytes)) h in
    IsUtf8-from_is_utf8 (byte ∷ bytes) (clean_utf8 (byte ∷ bytes) (clean_letters (byte ∷ bytes) parts.1))
