-- Breaches, origins and scopes as the code has them, with references into the tree, and what they stand for.
use Rattle.std.specs.Option.{option_map}
use Rattle.type_rules.specs.declared.error.ModeError.{ModeError}
use Rattle.type_rules.specs.declared.error.ModeError.TheVariants as error
use Rattle.type_rules.specs.declared.least.Breach.{Breach}
use Rattle.type_rules.specs.declared.least.Breach.TheVariants as breach
use Rattle.type_rules.specs.declared.origin.Origin.{Origin as Origin_in_code}
use Rattle.type_rules.specs.declared.origin.Origin.TheVariants as origin
use Rattle.type_rules.specs.declared.origin.Scope.{Scope as Scope_in_code}
use Rattle.type_rules.specs.Origins.{Origin, Scope}

abbrev pub seen_breach : Breach → ModeError
seen_breach (breach.OfType at) = error.OfType at
seen_breach (breach.Mode at) = error.Mode at
seen_breach (breach.Repeated at) = error.Repeated at
seen_breach (breach.Changing at name) = error.Changing at name.now
seen_breach (breach.Order at) = error.Order at
seen_breach (breach.Stream at) = error.Stream at
seen_breach (breach.MainHeading at) = error.MainHeading at
seen_breach (breach.Missing at name) = error.Missing at name.now

abbrev pub seen_origin : Origin_in_code → Origin
seen_origin origin.Integer = Origin.Integer
seen_origin origin.Boolean = Origin.Boolean
seen_origin origin.In = Origin.In
seen_origin origin.Out = Origin.Out
seen_origin origin.Own = Origin.Own
seen_origin (origin.Formal name) = Origin.Formal name.now
seen_origin (origin.Of name) = Origin.Of name.now

abbrev pub seen_scope : Scope_in_code → Scope
seen_scope s = record {
  formals = s.formals.now;
  family = option_map (λ name. name.now) s.family;
  facilities = s.facilities.now;
}
