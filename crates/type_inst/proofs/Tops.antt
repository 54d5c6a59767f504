-- The last of the models that are finished.
use Rattle.std.proofs.Common.{◌≡◌, refl, List, [], ◌∷◌, ◌++◌}
use Rattle.math_terms.specs.declared.descriptor.Desc.{Desc}
use Rattle.type_inst.specs.Descriptors.{top}

pub top_last : (ds : List Desc) (d : Desc) → top (ds ++ (d ∷ [])) ≡ d
top_last [] d = refl
top_last (x ∷ []) d = refl
top_last (x ∷ y ∷ ds) d = top_last (y ∷ ds) d
