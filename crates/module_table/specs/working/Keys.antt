-- How the table keeps its components: each under the bytes of its name.
use Rattle.std.specs.Prelude.{◌≡◌, ℕ, List, Vec}
use Rattle.std.specs.declared.alloc.Global.{Global}
use Rattle.std.specs.List.{AllByRecursion}
use Rattle.res_ast.specs.declared.component.Component.{Component}
use Rattle.module_table.specs.Tables.{name_of}

abbrev pub KeyedByName : List (Vec ℕ Global × Component) → Type 0
KeyedByName entries = AllByRecursion (λ e. e.0.items ≡ name_of e.1) entries
