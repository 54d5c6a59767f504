-- The mistake of a component that is alone.
use Rattle.std.proofs.Common.{◌≡◌, ◌∙◌, refl, ap, subst, Bool, true, false, List, [], ◌∷◌, Ok, Err}
use Rattle.std.specs.Prelude.{if◌then◌else◌, slice_get}
use Rattle.std.specs.Option.{option_and_then}
use Rattle.res_ast.specs.declared.component.Component.{Component}
use Rattle.module_table.specs.declared.error.NameError.{NameError}
use Rattle.module_table.specs.Tables.{added, is_taken, name_of}
use Rattle.component_checks.specs.Checks.{alone_in, mistake_alone, mistake_in}

table_of : (c : Component) (taken : Bool) (table : List Component) → (if taken then Err (NameError.Duplicate (name_of c)) else Ok (c ∷ [])) ≡ Ok table → c ∷ [] ≡ table
table_of c true table h = absurd (cc)
table_of c false table h = cc

-- over the table that has taken it in
pub alone : (c : Component) (table : List Component) → added [] c ≡ Ok table → mistake_alone c ≡ option_and_then (mistake_in table) (slice_get table 0)
alone c table h =
    ap (alone_in c) h ∙ subst (λ t. mistake_in t c ≡ option_and_then (mistake_in t) (slice_get t 0)) (table_of c (is_taken [] (name_of c)) table h) refl
