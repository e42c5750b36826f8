-- A file as read is the whole file, where it is within the limit.
use Rattle.std.proofs.Common.{◌≡◌, ℕ, ◌+◌, ◌<◌, ◌≤◌, List, length, take, min, Option, Some, None, refl, sym, ap, ◌∙◌, arith, length-take}
use Rattle.std.specs.Option.{option_map}
use Rattle.std.proofs.lemmas.List.{take_all}
use Rattle.outside.specs.Files.{Files, contents_of, first_bytes}
use Rattle.lexicon_text_definitions.specs.declared.limits.TheConstants.{MOST_FILE_BYTES}

-- the told file has these first bytes
pub first_content : (files : Files) (lex : List ℕ) (most : ℕ) (bytes : List ℕ) → first_bytes files lex most ≡ Some bytes
    → (content : List ℕ) × (contents_of files lex ≡ Some content) × (take most content ≡ bytes)
first_content files lex most bytes e = go (contents_of files lex) refl e
  where
    go : (found : Option (List ℕ)) → contents_of files lex ≡ found → option_map (λ (b : List ℕ). take most b) found ≡ Some bytes
        → (content : List ℕ) × (contents_of files lex ≡ Some content) × (take most content ≡ bytes)
    go None p q = absurd (cc (q))
    go (Some content) p q = (content, p, cc (q))

-- a file within the limit is read whole
pub whole : (content bytes : List ℕ) → take (MOST_FILE_BYTES + 1) content ≡ bytes → length content ≤ MOST_FILE_BYTES → content ≡ bytes
whole content bytes e low =
    let fits : length content ≤ MOST_FILE_BYTES + 1 = omega arith in sym (take_all (MOST_FILE_BYTES + 1) content fits) ∙ e

-- what is read of a longer file is longer than the limit
pub within : (content bytes : List ℕ) → take (MOST_FILE_BYTES + 1) content ≡ bytes → length bytes ≤ MOST_FILE_BYTES → length content ≤ MOST_FILE_BYTES
within content bytes e low =
    let len : min (MOST_FILE_BYTES + 1) (length content) ≡ length bytes = sym (length-take (MOST_FILE_BYTES + 1) content) ∙ ap length e in omega arith

-- what is read of a file that is too large is longer than the limit, and so is the file
pub longer : (content bytes : List ℕ) → take (MOST_FILE_BYTES + 1) content ≡ bytes → MOST_FILE_BYTES < length bytes → MOST_FILE_BYTES < length content
longer content bytes e high =
    let len : min (MOST_FILE_BYTES + 1) (length content) ≡ length bytes = sym (length-take (MOST_FILE_BYTES + 1) content) ∙ ap length e in omega arith
