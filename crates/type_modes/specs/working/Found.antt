-- What the code looks up, part by part.
use Rattle.std.specs.Prelude.{ℕ, Bool, if◌then◌else◌, List, [], ◌∷◌, ◌++◌, take, Option, None, Some, is_none, is_some, slice_get}
use Rattle.std.specs.List.{find, flat_map, list_any, zip as pairs}
use Rattle.std.specs.Option.{option_map_or, option_or}
use Rattle.std.specs.Str.{bytes_eq}
use Rattle.res_ast.specs.declared.component.Component.{Component}
use Rattle.res_ast.specs.declared.component.Component.TheVariants.{Realization}
use Rattle.res_ast.specs.declared.component.Concept.{Concept as Specified}
use Rattle.res_ast.specs.declared.facility.FacDecl.{FacDecl}
use Rattle.res_ast.specs.declared.expression.Form.{Form}
use Rattle.res_ast.specs.declared.expression.Form.TheFolds.{fold-Form}
use Rattle.res_ast.specs.declared.heading.Heading.{Heading}
use Rattle.res_ast.specs.declared.heading.Param as text
use Rattle.res_ast.specs.declared.heading.PType.{PType}
use Rattle.res_ast.specs.declared.procedure.Procedure.{Procedure}
use Rattle.res_ast.specs.declared.procedure.Rep.{Rep}
use Rattle.type_rules.specs.declared.error.ModeError.{ModeError}
use Rattle.type_rules.specs.declared.error.ModeError.TheVariants.{OfType, Repeated}
use Rattle.type_rules.specs.Breaches.{least_of, refuse}
use Rattle.type_rules.specs.Concepts.{enhancement_headings}
use Rattle.type_rules.specs.Headings as heading
use Rattle.type_rules.specs.Origins.{Origin, origin}
use Rattle.type_rules.specs.working.Seen.{seen_scope}
use Rattle.type_modes.specs.declared.callee.Kind.{Kind}
use Rattle.type_modes.specs.declared.callee.Kind.TheVariants as kind
use Rattle.type_modes.specs.Calls.{Look, Param, argument, changed, moved}
use Rattle.type_modes.specs.Expressions.{expr_step, form_step}
use Rattle.type_modes.specs.Places.{Body, Spot, named, overlap}
use Rattle.type_modes.specs.Signatures.{Called, through, within}
use Rattle.type_modes.specs.Statements as statement
use Rattle.type_modes.specs.working.Seen.{Listing}

-- ---- names of a body

abbrev pub rep_of : Component → Option Rep
rep_of (Realization r) = if is_some r.enhancement then None else r.rep
rep_of c = None

abbrev pub param_named : List text.Param → List ℕ → Option text.Param
param_named params name = find (λ p. bytes_eq name p.name) params

abbrev pub result_named : Heading → List ℕ → Option PType
result_named h name = if bytes_eq name h.name then h.result else None

abbrev pub own_named : Procedure → List ℕ → Option PType
own_named p name = option_or (result_named p.heading name) (named p.vars name)

-- ---- callees

abbrev pub heading_of : Kind → Option Heading
heading_of (kind.Through scope declaration concept h) = Some h.now
heading_of (kind.Within scope concept h) = Some h.now
heading_of (kind.Own scope h) = Some h.now
heading_of k = None

abbrev pub type_of : Kind → PType → Option Origin
type_of (kind.Through scope declaration concept h) t = through scope.table.now (seen_scope scope) declaration.now concept.now t
type_of (kind.Within scope concept h) t = within concept.now t
type_of (kind.Own scope h) t = origin scope.table.now (seen_scope scope) t
type_of k t = None

abbrev pub heading_named : List Heading → List ℕ → Option Heading
heading_named = heading.heading_named

abbrev pub given_heading : List Component → FacDecl → Specified → List ℕ → Option Heading
given_heading table d k name = heading_named (k.headings ++ flat_map (λ p. enhancement_headings table p.0) d.enhanced) name

abbrev pub params_of : Option Called → List Param
params_of c = option_map_or (λ k. k.signature.params) c []

-- ---- expressions

abbrev pub form_look : Body → Form → ℕ → Look
form_look b f place = fold-Form (ℕ → Look) Look (form_step b) expr_step f place

-- ---- breaches

abbrev pub unanswered : Option Origin → ℕ → List ModeError
unanswered o place = refuse (is_none o) (OfType place)

-- the place that the argument of that number moves
abbrev pub spot_in : List (Spot × ℕ) → Option Spot
spot_in [] = None
spot_in (m ∷ ms) = Some m.0

abbrev pub moved_by : Option Param → Option Look → List (Spot × ℕ)
moved_by (Some p) (Some a) = moved (p, a)
moved_by p a = []

abbrev pub moved_at : List Param → List Look → ℕ → Option Spot
moved_at params args k = spot_in (moved_by (slice_get params k) (slice_get args k))

abbrev pub overlaps_earlier : List Param → List Look → ℕ → Spot → Bool
overlaps_earlier params args k s = list_any (λ m. overlap s m.0) (flat_map moved (take k (pairs params args)))

-- what is noted of the argument of that number, at that place
abbrev pub overlap_at : List Param → List Look → ℕ → ℕ → List ModeError
overlap_at params args k place = option_map_or (λ s. refuse (overlaps_earlier params args k s) (Repeated place)) (moved_at params args k) []

-- the argument of a call, with its parameter, where there is one
abbrev pub argument_of : Body → Option Param → Look → List ModeError
argument_of b None a = []
argument_of b (Some p) a = argument b (p, a)

abbrev pub each_at : Body → Option Param → Look → List ModeError
each_at b p a = a.breaches ++ argument_of b p a

-- the places that a loop does not list, of these
abbrev pub unlisted : Listing → List Spot → List ModeError
unlisted l changed = flat_map (statement.unlisted l.body l.listed l.at) changed

-- the least breach, once a loop has noted what changes
unfoldable pub noted : Listing → Option ModeError → List Spot → Option ModeError
noted l so_far changed = least_of so_far (unlisted l changed)

-- what an argument changes itself, where there is a parameter for it
abbrev pub moved_changes : Body → Option Param → Look → List Spot
moved_changes b None a = []
moved_changes b (Some p) a = changed b p.0 a
