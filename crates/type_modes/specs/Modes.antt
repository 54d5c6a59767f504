-- All breaches of a component, and the first.
use Rattle.std.specs.Prelude.{List, ◌++◌, Option}
use Rattle.res_ast.specs.declared.component.Component.{Component}
use Rattle.type_rules.specs.declared.error.ModeError.{ModeError}
use Rattle.type_rules.specs.Breaches.{least}
use Rattle.type_rules.specs.Declarations.{declarations_breaches}
use Rattle.type_modes.specs.Bodies.{bodies_breaches}

abbrev pub breaches : List Component → Component → List ModeError
breaches table c = declarations_breaches table c ++ bodies_breaches table c

-- the breach at the smallest place, there the first by its kind, and of several of one kind the first in the text
abbrev pub first_breach : List Component → Component → Option ModeError
first_breach table c = least (breaches table c)
