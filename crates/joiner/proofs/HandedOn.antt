-- An error that is handed on: by cases on it.
use Rattle.std.proofs.Common.{◌≡◌, Err, Option, None}
use Rattle.joiner.specs.declared.shape_error.ShapeError.{ShapeError}
use Rattle.joiner.specs.declared.shape_error.ShapeError.TheVariants.{Shape, Memory}
use Rattle.joiner.specs.Shapes.{IsReadWith}

-- where nothing is told of a part, nothing is told of the whole
pub handed_on : {A C : Type 0} (B D : Type 0) (v : B → A) (w : D → C) (error : ShapeError) (part : Option A) (whole : Option C)
    → IsReadWith {A = A} {B = B} (Err error) part v → (part ≡ None → whole ≡ None) → IsReadWith {A = C} {B = D} (Err error) whole w
handed_on B D v w Shape part whole h on = on h
handed_on B D v w Memory part whole h on = tt
