-- The types and modes of parameters, results, variables and fields, and the heading of Main.
use Rattle.std.specs.Prelude.{ℕ, Bool, true, false, not, ◌&&◌, List, [], ◌∷◌, ◌++◌, Option, None, Some, is_none, is_some, codes}
use Rattle.std.specs.Cmp.Lexicographic.{pointwise}
use Rattle.std.specs.List.{find, flat_map}
use Rattle.std.specs.Option.{option_map_or}
use Rattle.std.specs.Str.{bytes_eq}
use Rattle.res_ast.specs.declared.component.Component.{Component}
use Rattle.res_ast.specs.declared.heading.Heading.{Heading}
use Rattle.res_ast.specs.declared.heading.Mode.{Mode}
use Rattle.res_ast.specs.declared.heading.Mode.TheVariants as mode
use Rattle.res_ast.specs.declared.heading.Param.{Param}
use Rattle.res_ast.specs.declared.heading.PType.{PType}
use Rattle.res_ast.specs.declared.procedure.Procedure.{Procedure}
use Rattle.type_rules.specs.declared.error.ModeError.{ModeError}
use Rattle.type_rules.specs.declared.error.ModeError.TheVariants.{OfType, Mode as OfMode, Stream, MainHeading}
use Rattle.type_rules.specs.Breaches.{refuse}
use Rattle.type_rules.specs.Names.{variables_twice}
use Rattle.type_rules.specs.Origins.{Origin, Scope, has, is_no_scalar, is_scalar, is_stream, origin}

-- ---- modes

-- what an argument is evaluated for, and not moved
abbrev pub is_evaluates : Mode → Bool
is_evaluates mode.Evaluates = true
is_evaluates m = false

-- what a body does not change
abbrev pub is_kept : Mode → Bool
is_kept mode.Evaluates = true
is_kept mode.Preserves = true
is_kept m = false

abbrev pub suits_stream : Mode → Bool
suits_stream mode.Updates = true
suits_stream mode.Preserves = true
suits_stream m = false

-- ---- parameters, results and variables

-- A parameter is evaluated only where it is an Integer or a Boolean; a stream is updated or preserved; a function changes none of
-- its parameters. The mode is refused at the parameter's name, a type that is not known at the type.
abbrev pub parameter : List Component → Scope → Bool → Param → List ModeError
parameter table s is_function p =
    let o : Option Origin = origin table s p.ptype in
    refuse (is_none o) (OfType p.ptype.at)
    ++ refuse (is_function && not (is_kept p.mode)) (OfMode p.at)
    ++ refuse (is_evaluates p.mode && is_no_scalar o) (OfMode p.at)
    ++ refuse (not (suits_stream p.mode) && has is_stream o) (Stream p.at)

-- A function answers an Integer or a Boolean.
abbrev pub result : List Component → Scope → PType → List ModeError
result table s t = refuse (not (has is_scalar (origin table s t))) (OfType t.at)

abbrev pub heading : List Component → Scope → Heading → List ModeError
heading table s h =
    flat_map (parameter table s (is_some h.result)) h.params ++ option_map_or (result table s) h.result []

-- The type of a variable, a field or a facility's argument is known and no stream. Where the family stands for a record it is none
-- of these types.
abbrev pub is_no_value_type : Bool → Option Origin → Bool
is_no_value_type hides None = true
is_no_value_type hides (Some Origin.Own) = hides
is_no_value_type hides (Some o) = false

abbrev pub value_type : List Component → Scope → Bool → PType → List ModeError
value_type table s hides t =
    let o : Option Origin = origin table s t in
    refuse (is_no_value_type hides o) (OfType t.at) ++ refuse (has is_stream o) (Stream t.at)

abbrev pub typed : List Component → Scope → Bool → List ℕ × PType → List ModeError
typed table s hides v = value_type table s hides v.1

-- ---- procedures

abbrev pub procedure : List Component → Scope → Bool → Procedure → List ModeError
procedure table s hides p =
    heading table s p.heading
    ++ variables_twice s p.heading p.vars
    ++ flat_map (typed table s hides) p.vars

-- the heading of a specification
abbrev pub operation : List Component → Scope → Heading → List ModeError
operation table s h = heading table s h ++ variables_twice s h []

-- ---- a procedure against the heading that it is for

abbrev pub same_mode : Mode → Mode → Bool
same_mode mode.Alters mode.Alters = true
same_mode mode.Clears mode.Clears = true
same_mode mode.Evaluates mode.Evaluates = true
same_mode mode.Preserves mode.Preserves = true
same_mode mode.Replaces mode.Replaces = true
same_mode mode.Restores mode.Restores = true
same_mode mode.Updates mode.Updates = true
same_mode a b = false

-- two that may be missing, both there and alike, or neither there
abbrev pub both_or_none : {A : Type 0} → (A → A → Bool) → Option A → Option A → Bool
both_or_none alike (Some a) (Some b) = alike a b
both_or_none alike None None = true
both_or_none alike a b = false

-- types, parameters and headings that are written alike
abbrev pub same_type : PType → PType → Bool
same_type a b = both_or_none bytes_eq a.facility b.facility && bytes_eq a.name b.name

abbrev pub same_parameter : Param → Param → Bool
same_parameter a b = same_mode a.mode b.mode && bytes_eq a.name b.name && same_type a.ptype b.ptype

abbrev pub same_heading : Heading → Heading → Bool
same_heading a b = pointwise same_parameter a.params b.params && both_or_none same_type a.result b.result

-- A procedure repeats a heading that its realization is asked for.
abbrev pub heading_named : List Heading → List ℕ → Option Heading
heading_named headings name = find (λ h. bytes_eq name h.name) headings

abbrev pub against : List Heading → Heading → List ModeError
against headings h = refuse (not (option_map_or (λ a. same_heading a h) (heading_named headings h.name) false)) (OfType h.at)

-- ---- Main

unfoldable pub is_main : List ℕ → Bool
is_main name = bytes_eq name (codes "Main")

unfoldable pub is_input : PType → Bool
is_input t = is_none t.facility && bytes_eq t.name (codes "In_Stream")

unfoldable pub is_output : PType → Bool
is_output t = is_none t.facility && bytes_eq t.name (codes "Out_Stream")

abbrev pub are_streams : List Param → Bool
are_streams (a ∷ b ∷ []) = same_mode a.mode mode.Updates && is_input a.ptype && same_mode b.mode mode.Updates && is_output b.ptype
are_streams params = false

-- Main updates the input and then the output, and has an ensures clause alone.
abbrev pub fits_main : Heading → Bool
fits_main h = are_streams h.params && is_none h.result && is_none h.requires_clause && is_some h.ensures_clause

abbrev pub main : Heading → List ModeError
main h = refuse (is_main h.name && not (fits_main h)) (MainHeading h.at)
