-- A line that is refused is where the file has its first fault; want of memory says nothing.
use Rattle.std.proofs.Common.{◌≡◌, ℕ, Err, List, [], ◌∷◌, sym, ◌∙◌, ap, subst}
use Rattle.lexicon_text_definitions.specs.FileLines.{Line, lines_of_bytes, End}
use Rattle.lexicon_text_definitions.specs.FileContents.{Told, nothing_told}
use Rattle.lexicon_text_definitions.specs.FileSteps.{take_line}
use Rattle.lexicon_text_definitions.specs.FileReadings.{Reading, read_lines, IsResult, IsReadAs}
use Rattle.form_file.specs.declared.error.FileWhy.TheVariants.{NoEnd}
use Rattle.form_file.specs.declared.error.FileError.{FileError}
use Rattle.form_file.specs.declared.error.FileError.TheVariants.{Fault, Memory as WantOfMemory}
use Rattle.form_file.specs.declared.take_error.TakeError.{TakeError}
use Rattle.form_file.specs.declared.take_error.TakeError.TheVariants.{Why, Memory}
use Rattle.form_file.specs.Contents.{IfFault, error_of, fault_of}
use Rattle.form_file.specs.Faults.{why_of}
use Rattle.form_file.specs.Told.{IsLineAnswer}
use Rattle.form_file.proofs.ReadLemmas.{Reads, refused, read_as, lacks_end}

pub line_fault : (A : Type 0) (whole : Reading) (told after : Told) (number : ℕ) (rest following : List ℕ) (line : Line) (error : TakeError) (fault : FileError)
    → Reads whole told number rest → lines_of_bytes rest ≡ line ∷ lines_of_bytes following → IsLineAnswer {A = A} (take_line told line) (Err error) after
    → fault ≡ error_of number error → IfFault fault (λ fault. IsResult whole (Err fault))
line_fault A whole told after number rest following line (Why why) fault h cut taken e =
    subst (λ (f : FileError). IfFault f (λ fault. IsResult whole (Err fault))) (sym e) (refused whole told number rest following line (why_of why) h cut taken)
line_fault A whole told after number rest following line Memory fault h cut taken e =
    subst (λ (f : FileError). IfFault f (λ fault. IsResult whole (Err fault))) (sym e) tt

-- the end is missing
pub end_fault : (whole : Reading) (told : Told) (number : ℕ) (rest : List ℕ) (error : TakeError) (fault : FileError) → Reads whole told number rest → rest ≡ [] → (told.last ≡ End → ⊥)
    → error ≡ Why NoEnd → fault ≡ error_of number error → IfFault fault (λ fault. IsResult whole (Err fault))
end_fault whole told number rest error fault h none n why e =
    subst (λ (f : FileError). IfFault f (λ fault. IsResult whole (Err fault))) (sym (e ∙ ap (error_of number) why)) (lacks_end whole told number rest h none n)

-- a fault of the lines is one of the file
pub file_fault : (bytes : List ℕ) (before : Told) (fault : FileError) → before ≡ nothing_told → IfFault fault (λ fault. IsResult (read_lines before 1 (lines_of_bytes bytes)) (Err fault))
    → IfFault fault (λ fault. IsReadAs bytes (Err fault))
file_fault bytes before (Fault fault) e h = read_as bytes before (Err (fault_of fault)) e h
file_fault bytes before WantOfMemory e h = tt
