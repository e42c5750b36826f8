-- What a look-up finds in the files after a change: the laws of finite maps at lists of bytes.
use Rattle.std.proofs.Common.{◌≡◌, ◌≢◌, ℕ, Bool, true, false, cond, List, refl, ap, sym, ◌∙◌}
use Rattle.std.specs.Prelude.{Option, None, Some}
use Rattle.std.specs.Ordering.{nat_cmp}
use Rattle.std.specs.Cmp.Lexicographic.{slice_cmp}
use Rattle.std.specs.FinMap.{get-empty, get-insert, get-remove, same_map, IsAntisymmetric, slice_cmp-IsAntisymmetric, nat_cmp-IsAntisymmetric}
use Rattle.std.proofs.lemmas.Cmp.{nat_list_cmp_total}
use Rattle.std.proofs.lemmas.Map.Text.{is_eq-slice_cmp}
use Rattle.std.specs.Str.{bytes_eq}
use Rattle.std.proofs.lemmas.Slice.Eq.{bytes_eq-Decides}
use Rattle.std.proofs.lemmas.Bool.{false_from_ne_true}
use Rattle.outside.specs.Files.{Files, no_files, contents_of, with_file, without_file}

-- names tie only where they are equal
same_name : IsAntisymmetric (slice_cmp nat_cmp)
same_name = slice_cmp-IsAntisymmetric nat_cmp-IsAntisymmetric

-- two maps that answer alike at each name are equal
pub same_files : (left right : Files) → ((name : List ℕ) → contents_of left name ≡ contents_of right name) → left ≡ right
same_files left right alike = same_map nat_list_cmp_total same_name left right alike

pub contents_of-no_files : (name : List ℕ) → contents_of no_files name ≡ None
contents_of-no_files name = get-empty (slice_cmp nat_cmp) name

-- after a change at `name`, a look-up of `other` finds the new bytes where the names are equal
pub contents_of-with_file : (files : Files) (name bytes other : List ℕ) → contents_of (with_file files name bytes) other ≡ cond (bytes_eq other name) (Some bytes) (contents_of files other)
contents_of-with_file files name bytes other =
    get-insert nat_list_cmp_total files name bytes other
    ∙ ap (λ b. cond b (Some bytes) (contents_of files other)) (is_eq-slice_cmp other name)

pub contents_of-without_file : (files : Files) (name other : List ℕ) → contents_of (without_file files name) other ≡ cond (bytes_eq other name) None (contents_of files other)
contents_of-without_file files name other =
    get-remove nat_list_cmp_total files name other
    ∙ ap (λ b. cond b None (contents_of files other)) (is_eq-slice_cmp other name)

-- a change at a name is gone where the name is taken out
pub without_file-with_file : (files : Files) (name bytes : List ℕ) → without_file (with_file files name bytes) name ≡ without_file files name
without_file-with_file files name bytes =
    same_files _ _ (λ other.
    contents_of-without_file (with_file files name bytes) name other
    ∙ ap (λ found. cond (bytes_eq other name) None found) (contents_of-with_file files name bytes other)
    ∙ hidden (bytes_eq other name) None (Some bytes) (contents_of files other)
    ∙ sym (contents_of-without_file files name other))
  where
    hidden : (b : Bool) (x y z : Option (List ℕ)) → cond b x (cond b y z) ≡ cond b x z
    hidden true x y z = refl
    hidden false x y z = refl

differs : (left right : List ℕ) → left ≢ right → bytes_eq left right ≡ false
differs left right apart = false_from_ne_true _ (λ same. apart ((bytes_eq-Decides left right).0 same))

-- the bytes that were put under a name are found there
pub contents_of-with_file_same : (files : Files) (name bytes : List ℕ) → contents_of (with_file files name bytes) name ≡ Some bytes
contents_of-with_file_same files name bytes =
    contents_of-with_file files name bytes name
    ∙ ap (λ b. cond b (Some bytes) (contents_of files name)) ((bytes_eq-Decides name name).1 refl)

-- and all other names have what they had
pub contents_of-with_file_other : (files : Files) (name bytes other : List ℕ) → other ≢ name → contents_of (with_file files name bytes) other ≡ contents_of files other
contents_of-with_file_other files name bytes other apart =
    contents_of-with_file files name bytes other
    ∙ ap (λ b. cond b (Some bytes) (contents_of files other)) (differs other name apart)

contents_of-without_file_other : (files : Files) (name other : List ℕ) → other ≢ name → contents_of (without_file files name) other ≡ contents_of files other
contents_of-without_file_other files name other apart =
    contents_of-without_file files name other
    ∙ ap (λ b. cond b None (contents_of files other)) (differs other name apart)

-- two maps that agree without a name agree at all other names
pub contents_of_others : (old new : Files) (name other : List ℕ) → without_file new name ≡ without_file old name → other ≢ name → contents_of new other ≡ contents_of old other
contents_of_others old new name other agree apart =
    sym (contents_of-without_file_other new name other apart)
    ∙ ap (λ files. contents_of files other) agree
    ∙ contents_of-without_file_other old name other apart

-- what a look-up finds after changes
pub ruleset lookups = (contents_of-no_files, contents_of-with_file, contents_of-without_file, contents_of-with_file_same, contents_of-with_file_other, contents_of_others, without_file-with_file)
