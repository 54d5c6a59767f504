-- The rules of a call.
use Rattle.std.specs.Prelude.{ℕ, ◌==◌, Bool, true, false, not, ◌&&◌, ◌||◌, if◌then◌else◌, List, [], ◌∷◌, ◌++◌, length, Option, None, Some, is_some}
use Rattle.std.specs.Bool.{beq}
use Rattle.std.specs.List.{flat_map, list_any, zip}
use Rattle.std.specs.Option.{option_map_or}
use Rattle.res_ast.specs.declared.heading.Mode.{Mode}
use Rattle.res_ast.specs.declared.heading.Mode.TheVariants as mode
use Rattle.type_rules.specs.declared.error.ModeError.{ModeError}
use Rattle.type_rules.specs.declared.error.ModeError.TheVariants.{OfType, Mode as OfMode, Order, Repeated}
use Rattle.type_rules.specs.Breaches.{refuse}
use Rattle.type_rules.specs.Headings.{is_evaluates}
use Rattle.type_rules.specs.Origins.{Origin, differ}
use Rattle.type_modes.specs.Places.{Body, Holder, Spot, at, is_changeable, overlap}
use Rattle.type_modes.specs.Signatures.{Called}

-- What is seen of an expression: its place, the place of a value that it is where it is one, its type unless it is refused itself,
-- the breaches in it, and what it changes.
pub record Look : Type 0 where
  pub at : ℕ
  pub spot : Option Spot
  pub origin : Option Origin
  pub breaches : List ModeError
  pub changes : List Spot

-- ---- arguments

abbrev pub Param : Type 0
Param = Mode × Option Origin

-- An argument in a mode other than evaluates is moved. It is a place, and where it is none nothing is said of its type; a preserved
-- or evaluated parameter is moved as preserved alone.
abbrev pub is_preserves : Mode → Bool
is_preserves mode.Preserves = true
is_preserves m = false

abbrev pub may_move : Mode → Option Holder → Bool
may_move m None = false
may_move m (Some h) = is_preserves m || is_changeable h

abbrev pub held : Body → Look → Option Holder
held b a = option_map_or (at b) a.spot None

abbrev pub argument : Body → Param × Look → List ModeError
argument b (p, a) =
    refuse (differ p.1 a.origin && (is_evaluates p.0 || is_some (held b a))) (OfType a.at)
    ++ refuse (not (is_evaluates p.0) && not (may_move p.0 (held b a))) (OfMode a.at)

-- the places that are moved, each with the place of its argument
abbrev pub moved : Param × Look → List (Spot × ℕ)
moved (p, a) = if is_evaluates p.0 then [] else option_map_or (λ s. (s, a.at) ∷ []) a.spot []

-- One that overlaps an earlier one is refused.
abbrev pub overlapping : List Spot → List (Spot × ℕ) → List ModeError
overlapping before [] = []
overlapping before (m ∷ ms) = refuse (list_any (overlap m.0) before) (Repeated m.1) ++ overlapping (before ++ m.0 ∷ []) ms

-- ---- calls

-- A function is called where a value is wanted, another operation as a statement, each with its number of arguments.
abbrev pub fits : Bool → Called → List Look → Bool
fits wants_value c args =
    beq wants_value (is_some c.signature.result) && length args == length c.signature.params

-- Arguments are paired with parameters as far as both go.
abbrev pub each : Body → List Param → List Look → List ModeError
each b ps [] = []
each b [] (a ∷ rest) = a.breaches ++ each b [] rest
each b (p ∷ ps) (a ∷ rest) = a.breaches ++ argument b (p, a) ++ each b ps rest

abbrev pub arguments : Body → List Param → List Look → List ModeError
arguments b params args = each b params args ++ overlapping [] (flat_map moved (zip params args))

abbrev pub known_call : Body → Bool → Called → List Look → ℕ → List ModeError
known_call b wants_value c args place =
    arguments b c.signature.params args
    ++ refuse (not (fits wants_value c args)) (OfType place)
    ++ refuse (not c.in_order) (Order place)

abbrev pub call : Body → Bool → Option Called → List Look → ℕ → List ModeError
call b wants_value None args place = arguments b [] args ++ OfType place ∷ []
call b wants_value (Some c) args place = known_call b wants_value c args place

-- A call that is refused itself has no type.
abbrev pub answer : Option Called → List Look → Option Origin
answer None args = None
answer (Some c) args = if fits true c args && c.in_order then c.signature.result else None

-- ---- what a call changes

-- what stands at a place that is declared
abbrev pub declared : Body → Spot → List Spot
declared b s = if is_some (at b s) then s ∷ [] else []

-- A moved argument changes, unless it is preserved or restored; the arguments in the order of the text.
abbrev pub is_changing : Mode → Bool
is_changing mode.Alters = true
is_changing mode.Clears = true
is_changing mode.Replaces = true
is_changing mode.Updates = true
is_changing m = false

abbrev pub changed : Body → Mode → Look → List Spot
changed b m a = if is_changing m then option_map_or (declared b) a.spot [] else []

abbrev pub changes : Body → List Param → List Look → List Spot
changes b params [] = []
changes b [] (a ∷ rest) = a.changes ++ changes b [] rest
changes b (p ∷ ps) (a ∷ rest) = a.changes ++ changed b p.0 a ++ changes b ps rest

abbrev pub call_changes : Body → Option Called → List Look → List Spot
call_changes b c args = changes b (option_map_or (λ k. k.signature.params) c []) args
