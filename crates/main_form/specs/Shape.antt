-- What a file is: a module of the form, or not of it, with the name of the component and the first place that is not.
use Rattle.std.specs.Prelude.{◌≡◌, ℕ, List, Option, Some, None}
use Rattle.res_ast.specs.declared.component.Component.{Component}
use Rattle.main_form.specs.declared.module.Module.{Module}
use Rattle.main_form.specs.declared.file.Shape.{Shape}
use Rattle.main_form.specs.declared.file.Shape.TheVariants as shape
use Rattle.main_form.specs.Formed.{IsForm}
use Rattle.main_form.specs.Places.{file_first}
use Rattle.main_form.specs.Values.{module_of}

abbrev pub shape_by : Option (List ℕ × ℕ) → Module → Shape
shape_by None m = shape.Module m
shape_by (Some stray) m = shape.NotBuilt stray.0 stray.1

abbrev pub shape_of : List Component → Shape
shape_of cs = shape_by (file_first cs) (module_of cs)

-- The body of a module that is of the form has its variables alone.
abbrev pub BuiltIsFormed : Type 0
BuiltIsFormed = (cs : List Component) (m : Module) → shape_of cs ≡ shape.Module m → IsForm m
