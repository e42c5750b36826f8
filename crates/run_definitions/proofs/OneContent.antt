-- A map of files has one value at most under a name.
use Rattle.std.proofs.Common.{◌≡◌, ℕ, List, Some, None, sym, ◌∙◌}
use Rattle.outside.specs.Files.{Files, contents_of}

-- one file has one content
pub same_bytes : (files : Files) (name bytes more : List ℕ) → contents_of files name ≡ Some bytes → contents_of files name ≡ Some more
    → bytes ≡ more
same_bytes files name bytes more p q = let f : Some bytes ≡ Some more = sym p ∙ q in cc (f)

-- a file that is there is not missing
pub not_missing : (files : Files) (name bytes : List ℕ) → contents_of files name ≡ None → contents_of files name ≡ Some bytes → ⊥
not_missing files name bytes p q = let f : None ≡ Some bytes = sym p ∙ q in cc (f)
