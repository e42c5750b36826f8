-- A JSON text that was printed has the same tokens with a line feed after it: the lexer comes to its end between two lexemes, where
-- a line feed is passed over. Token by token, what a token's text is read as does not depend on what comes after.
use Rattle.std.proofs.Common.{◌≡◌, ℕ, Bool, true, false, cond, ◌&&◌, List, [], ◌∷◌, ◌++◌, refl, sym, ap, ap₂, ◌∙◌, append_assoc}
use Rattle.json.specs.Token.{Token, begin_object, end_object, begin_array, end_array, key, string, number, boolean, null, bad}
use Rattle.json.specs.Word.{ends_word, word}
use Rattle.json.specs.Lex.{Lexeme, token, comma, colon, string_token, lex, between, fresh, punctuate, tokens}
use Rattle.json.specs.Print.{escape, quoted, token_text, begins, ends, print_from, print, IsPrintable, ArePrintable}
use Rattle.json.proofs.Printed.Strings.{content-escape, lex-escape}
use Rattle.json.proofs.Printed.Numbers.{lex-number, in_word-ended}
use Rattle.json.proofs.Printed.Tokens.{tokens-print}

-- the lexemes of a token
abbrev token_lexemes : Token → List Lexeme
token_lexemes begin_object = token begin_object ∷ []
token_lexemes end_object = token end_object ∷ []
token_lexemes begin_array = token begin_array ∷ []
token_lexemes end_array = token end_array ∷ []
token_lexemes (key s) = token (string s) ∷ colon ∷ []
token_lexemes (string s) = token (string s) ∷ []
token_lexemes (number s) = token (number s) ∷ []
token_lexemes (boolean b) = token (boolean b) ∷ []
token_lexemes null = token null ∷ []
token_lexemes bad = []

-- after a value stands what ends a word, also where the text ends with what does
ended_after : (ts : List Token) (rest : List ℕ) → ends_word rest ≡ true → ends_word (print_from true ts ++ rest) ≡ true
unfolding print_from
ended_after [] rest h = h
ended_after (begin_object ∷ ts) rest h = refl
ended_after (end_object ∷ ts) rest h = refl
ended_after (begin_array ∷ ts) rest h = refl
ended_after (end_array ∷ ts) rest h = refl
ended_after (key s ∷ ts) rest h = refl
ended_after (string s ∷ ts) rest h = refl
ended_after (number s ∷ ts) rest h = refl
ended_after (boolean b ∷ ts) rest h = refl
ended_after (null ∷ ts) rest h = refl
ended_after (bad ∷ ts) rest h = refl

ended_alone : (ts : List Token) → ends_word (print_from true ts) ≡ true
unfolding print_from
ended_alone [] = refl
ended_alone (begin_object ∷ ts) = refl
ended_alone (end_object ∷ ts) = refl
ended_alone (begin_array ∷ ts) = refl
ended_alone (end_array ∷ ts) = refl
ended_alone (key s ∷ ts) = refl
ended_alone (string s ∷ ts) = refl
ended_alone (number s ∷ ts) = refl
ended_alone (boolean b ∷ ts) = refl
ended_alone (null ∷ ts) = refl
ended_alone (bad ∷ ts) = refl

lex-quoted : (s r : List ℕ) → lex between (quoted s ++ r) ≡ token (string s) ∷ lex between r
unfolding lex
lex-quoted s r =
    ap (λ l. lex between (34 ∷ l)) (append_assoc (escape s) (34 ∷ []) r)
    ∙ ap₂ (λ o l. token (string_token o) ∷ l) (content-escape s r) (lex-escape s r)

lex-token : (t : Token) (r : List ℕ) → IsPrintable t → (ends t ≡ true → ends_word r ≡ true)
    → lex between (token_text t ++ r) ≡ token_lexemes t ++ lex between r
unfolding lex word
lex-token begin_object r h ended = refl
lex-token end_object r h ended = refl
lex-token begin_array r h ended = refl
lex-token end_array r h ended = refl
lex-token (key s) r h ended = ap (lex between) (append_assoc (quoted s) (58 ∷ []) r) ∙ lex-quoted s (58 ∷ r)
lex-token (string s) r h ended = lex-quoted s r
lex-token (number s) r h ended = lex-number s r h (ended refl)
lex-token (boolean true) r h ended = ap₂ (λ b l. token (cond b (boolean true) bad) ∷ l) (ended refl) (in_word-ended r (ended refl))
lex-token (boolean false) r h ended = ap₂ (λ b l. token (cond b (boolean false) bad) ∷ l) (ended refl) (in_word-ended r (ended refl))
lex-token null r h ended = ap₂ (λ b l. token (cond b null bad) ∷ l) (ended refl) (in_word-ended r (ended refl))
lex-token bad r h ended = absurd h

lex-comma : (b : Bool) (r : List ℕ) → lex between (cond b (44 ∷ []) [] ++ r) ≡ cond b (comma ∷ []) [] ++ lex between r
unfolding lex
lex-comma true r = refl
lex-comma false r = refl

-- the parts of a text that ends so
parts_before : (first second third rest : List ℕ) → (first ++ (second ++ third)) ++ rest ≡ first ++ (second ++ (third ++ rest))
parts_before first second third rest =
    append_assoc first (second ++ third) rest ∙ ap (λ l. first ++ l) (append_assoc second third rest)

-- the tokens' text, with a line feed or nothing after it
lex-ended : (rest : List ℕ) → ends_word rest ≡ true → lex between rest ≡ [] → (c : Bool) (ts : List Token) → ArePrintable ts
    → lex between (print_from c ts ++ rest) ≡ lex between (print_from c ts)
unfolding lex print_from ArePrintable
lex-ended rest h none c [] p = none
lex-ended rest h none c (t ∷ ts) p =
    let follow = print_from (ends t) ts in
    let ended : ends t ≡ true → ends_word (follow ++ rest) ≡ true = λ e. ap (λ b. ends_word (print_from b ts ++ rest)) e ∙ ended_after ts rest h in
    let alone : ends t ≡ true → ends_word follow ≡ true = λ e. ap (λ b. ends_word (print_from b ts)) e ∙ ended_alone ts in
    ap (lex between) (parts_before (cond (c && begins t) (44 ∷ []) []) (token_text t) follow rest)
    ∙ lex-comma (c && begins t) (token_text t ++ (follow ++ rest))
    ∙ ap (λ l. cond (c && begins t) (comma ∷ []) [] ++ l)
    (lex-token t (follow ++ rest) p.0 ended ∙ ap (λ l. token_lexemes t ++ l) (lex-ended rest h none (ends t) ts p.1) ∙ sym (lex-token t follow p.0 alone))
    ∙ sym (lex-comma (c && begins t) (token_text t ++ follow))

no_lexeme : lex between (10 ∷ []) ≡ []
unfolding lex
no_lexeme = refl

-- what is printed, and a line feed, is read back
pub tokens_ended : (ts : List Token) → ArePrintable ts → tokens (print ts ++ 10 ∷ []) ≡ ts
tokens_ended ts h = ap (punctuate fresh) (lex-ended (10 ∷ []) refl no_lexeme false ts h) ∙ tokens-print ts h
