-- The dots of a tag's text.
use Rattle.std.specs.Prelude.{◌≢◌, ℕ, List, All}

-- no byte of the text is a dot
abbrev pub IsDotless : List ℕ → Type 0
IsDotless text = All (λ byte. byte ≢ 46) text
