-- Kinds: sorts in which what strings hold is forgotten. Each string has the kind `Str(Any)`.
use Rattle.std.specs.Prelude.{List, Option, Some, None}
use Rattle.math_terms.specs.declared.descriptor.Sort.{Sort}
use Rattle.math_terms.specs.declared.descriptor.Sort.TheOpen.{Sort-F}
use Rattle.math_terms.specs.declared.descriptor.Sort.TheFolds.{fold-Sort}
use Rattle.math_terms.specs.declared.descriptor.Sort.TheViews.{out-Sort}
use Rattle.math_terms.specs.declared.descriptor.Desc.{Desc}
use Rattle.math_terms.specs.declared.descriptor.Shape.{Shape}
use Rattle.math_terms.specs.declared.descriptor.Shape.TheOpen.{Shape-F, Desc-F}
use Rattle.math_terms.specs.declared.descriptor.Shape.TheFolds.{fold-Desc, fold-Shape}
use Rattle.math_terms.specs.declared.term.Term.{Term}
use Rattle.math_terms.specs.declared.term.Term.TheOpen.{Term-F}
use Rattle.math_terms.specs.declared.term.Term.TheFolds.{fold-Term}
use Rattle.math_terms.specs.Sorts.{z, b, str, tup, param, any, part_form, sort_of_var}

-- the kind of a sort
abbrev pub forget_step : Sort-F Sort → Sort
forget_step Sort-F.Z = z
forget_step Sort-F.B = b
forget_step (Sort-F.Str s) = str any
forget_step (Sort-F.Tup ss) = tup ss
forget_step (Sort-F.Param k) = param k
forget_step Sort-F.Any = any

abbrev pub forget : Sort → Sort
forget s = fold-Sort Sort forget_step s

-- a sort that may not be there, and the kind of one
abbrev pub or_any : Option Sort → Sort
or_any None = any
or_any (Some s) = s

abbrev pub forget_option : Option Sort → Sort
forget_option None = any
forget_option (Some s) = forget s

-- The kind of a node, from those of its children. It is what the head gives, whatever the children are.
abbrev pub kind_step : List Sort → Term-F Sort → Sort
kind_step vars (Term-F.Num n) = z
kind_step vars (Term-F.Truth x) = b
kind_step vars Term-F.MinInt = z
kind_step vars Term-F.MaxInt = z
kind_step vars (Term-F.Var k) = forget_option (sort_of_var vars k)
kind_step vars (Term-F.Add x y) = z
kind_step vars (Term-F.Sub x y) = z
kind_step vars (Term-F.Mul x y) = z
kind_step vars (Term-F.Div x y) = z
kind_step vars (Term-F.Mod x y) = z
kind_step vars (Term-F.Len x) = z
kind_step vars Term-F.Empty = str any
kind_step vars (Term-F.Single x) = str any
kind_step vars (Term-F.Cat x y) = str any
kind_step vars (Term-F.Reverse x) = str any
kind_step vars (Term-F.Part i j x) = str any
kind_step vars (Term-F.Tuple xs) = tup xs
kind_step vars (Term-F.Proj k x) = or_any (part_form k (out-Sort x))
kind_step vars (Term-F.Eq x y) = b
kind_step vars (Term-F.Less x y) = b
kind_step vars (Term-F.LessEq x y) = b
kind_step vars (Term-F.Not x) = b
kind_step vars (Term-F.And x y) = b
kind_step vars (Term-F.Or x y) = b
kind_step vars (Term-F.Implies x y) = b
kind_step vars (Term-F.Initial k x) = b

abbrev pub kind : List Sort → Term → Sort
kind vars t = fold-Term Sort (kind_step vars) t

-- the sort of the values in a descriptor
abbrev pub sort_of_shape_step : Shape-F Sort Sort → Sort
sort_of_shape_step Shape-F.Z = z
sort_of_shape_step Shape-F.B = b
sort_of_shape_step (Shape-F.Str d) = str d
sort_of_shape_step (Shape-F.Tup ds) = tup ds
sort_of_shape_step (Shape-F.Param k) = param k

abbrev pub sort_of_desc_step : Desc-F Sort Sort → Sort
sort_of_desc_step d = d.shape

abbrev pub sort_of_shape : Shape → Sort
sort_of_shape s = fold-Shape Sort Sort sort_of_shape_step sort_of_desc_step s

abbrev pub sort_of_desc : Desc → Sort
sort_of_desc d = fold-Desc Sort Sort sort_of_shape_step sort_of_desc_step d
