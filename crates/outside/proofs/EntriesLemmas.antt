-- The entries of a map in memory and the files that they stand for answer alike, so an insert is a change of one file.
use Rattle.std.proofs.Common.{◌≡◌, ℕ, Bool, true, false, cond, List, [], ◌∷◌, refl, ap, sym, ◌∙◌}
use Rattle.std.specs.Prelude.{Option, Some, Vec, String}
use Rattle.std.specs.Option.{option_map}
use Rattle.std.specs.Ordering.{nat_cmp, is_eq}
use Rattle.std.specs.Cmp.Lexicographic.{slice_cmp}
use Rattle.std.specs.Cmp.{eq_by_cmp_equiv}
use Rattle.std.specs.FinMap.{get-insert}
use Rattle.std.proofs.lemmas.Cmp.{nat_list_cmp_total}
use Rattle.std.proofs.lemmas.Map.Text.{is_eq-slice_cmp, btree_map_updates_text}
use Rattle.std.specs.Str.{bytes_eq}
use Rattle.std.specs.declared.alloc.Global.{Global}
use Rattle.std.specs.String.{string_bytes, string_cmp}
use Rattle.std.specs.BTreeMap.{BTreeMap, Updates, get_by_text}
use Rattle.std.specs.Map.{lookup}
use Rattle.outside.specs.Files.{contents_of, with_file}
use Rattle.outside.specs.Entries.{files_of}
use Rattle.outside.proofs.FilesLemmas.{contents_of-no_files, contents_of-with_file, same_files}

moved : (b : Bool) (v : Vec ℕ Global) (found : Option (Vec ℕ Global)) → option_map (λ u. u.items) (cond b (Some v) found) ≡ cond b (Some v.items) (option_map (λ u. u.items) found)
moved true v found = refl
moved false v found = refl

-- whether two names are equal doesn't depend on their order
swapped : (left right : List ℕ) → bytes_eq left right ≡ bytes_eq right left
swapped left right =
    sym (is_eq-slice_cmp left right) ∙ (eq_by_cmp_equiv nat_list_cmp_total).symm left right ∙ is_eq-slice_cmp right left

-- a look-up in the files finds what the map finds
pub contents_of-files_of : (m : BTreeMap (String Global) (Vec ℕ Global)) (name : List ℕ) → contents_of (files_of m.entries) name ≡ option_map (λ v. v.items) (get_by_text m name)
contents_of-files_of m name = found m.entries
  where
    found : (es : List (String Global × Vec ℕ Global)) → contents_of (files_of es) name ≡ option_map (λ v. v.items) (lookup (λ k. is_eq (slice_cmp nat_cmp name (string_bytes k))) es)
    found [] = contents_of-no_files name
    found (e ∷ es) =
        get-insert nat_list_cmp_total (files_of es) (string_bytes e.0) e.1.items name
        ∙ ap (λ rest. cond (is_eq (slice_cmp nat_cmp name (string_bytes e.0))) (Some e.1.items) rest) (found es)
        ∙ sym (moved (is_eq (slice_cmp nat_cmp name (string_bytes e.0))) e.1 _)

-- an insert into the map is a change of one file
pub files_of-insert : (m n : BTreeMap (String Global) (Vec ℕ Global)) (key : String Global) (v : Vec ℕ Global) → Updates string_cmp m n key (Some v) → files_of n.entries ≡ with_file (files_of m.entries) (string_bytes key) v.items
files_of-insert m n key v updates =
    same_files _ _ (λ name.
    contents_of-files_of n name
    ∙ ap (λ found. option_map (λ u. u.items) found) (btree_map_updates_text (string_bytes key) m n (Some v) updates name)
    ∙ moved (bytes_eq (string_bytes key) name) v (get_by_text m name)
    ∙ ap (λ b. cond b (Some v.items) (option_map (λ u. u.items) (get_by_text m name))) (swapped (string_bytes key) name)
    ∙ ap (λ found. cond (bytes_eq name (string_bytes key)) (Some v.items) found) (sym (contents_of-files_of m name))
    ∙ sym (contents_of-with_file (files_of m.entries) (string_bytes key) v.items name))
