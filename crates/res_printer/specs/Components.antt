-- The canonical text of headings, facilities, procedures and components.
use Rattle.std.specs.Prelude.{ℕ, Bool, true, false, List, [], ◌∷◌, Option, Some, None, codes}
use Rattle.std.specs.Fmt.{signed_decimal}
use Rattle.res_ast.specs.declared.component.Component.{Component}
use Rattle.res_ast.specs.declared.component.Component.TheVariants as component
use Rattle.res_ast.specs.declared.component.Concept.{Concept}
use Rattle.res_ast.specs.declared.component.Enhancement.{Enhancement}
use Rattle.res_ast.specs.declared.component.FacilityModule.{FacilityModule}
use Rattle.res_ast.specs.declared.component.Realization.{Realization}
use Rattle.res_ast.specs.declared.expression.Expr.{Expr}
use Rattle.res_ast.specs.declared.facility.FacArg.{FacArg}
use Rattle.res_ast.specs.declared.facility.FacArg.TheVariants as arg
use Rattle.res_ast.specs.declared.facility.FacDecl.{FacDecl}
use Rattle.res_ast.specs.declared.heading.Formal.{Formal}
use Rattle.res_ast.specs.declared.heading.Heading.{Heading}
use Rattle.res_ast.specs.declared.heading.Mode.{Mode}
use Rattle.res_ast.specs.declared.heading.Mode.TheVariants as mode
use Rattle.res_ast.specs.declared.heading.Param.{Param}
use Rattle.res_ast.specs.declared.heading.PType.{PType}
use Rattle.res_ast.specs.declared.model.Family.{Family}
use Rattle.res_ast.specs.declared.procedure.LocalOp.{LocalOp}
use Rattle.res_ast.specs.declared.procedure.Procedure.{Procedure}
use Rattle.res_ast.specs.declared.procedure.Rep.{Rep}
use Rattle.res_printer.specs.Expressions.{expression}
use Rattle.res_printer.specs.Models.{model}
use Rattle.res_printer.specs.Pieces.{Piece, closes, closing, colon, comma, dotted, each, nothing, opens, qualified, row, says, semicolon, separated}
use Rattle.res_printer.specs.Statements.{claim, statements}

-- ---- types and clauses

abbrev pub ptype : PType → Piece
ptype t = qualified t.facility t.name

-- a clause, if there is one
abbrev pub clause : List ℕ → Option Expr → Piece
clause word None = nothing
clause word (Some e) = claim word e

abbrev pub uses : List (List ℕ) → Piece
uses [] = nothing
uses (x ∷ xs) = row (says (codes "uses") ∷ separated comma says (x ∷ xs) ∷ semicolon ∷ [])

-- Each variable and each field has its own type.
abbrev pub field : List ℕ × PType → Piece
field x = row (says x.0 ∷ colon ∷ ptype x.1 ∷ semicolon ∷ [])

abbrev pub variable : List ℕ × PType → Piece
variable x = row (says (codes "Var") ∷ field x ∷ [])

-- ---- headings

abbrev pub mode_word : Mode → List ℕ
mode_word mode.Alters = codes "alters"
mode_word mode.Clears = codes "clears"
mode_word mode.Evaluates = codes "evaluates"
mode_word mode.Preserves = codes "preserves"
mode_word mode.Replaces = codes "replaces"
mode_word mode.Restores = codes "restores"
mode_word mode.Updates = codes "updates"

-- Each parameter has its own mode and type.
abbrev pub param : Param → Piece
param p = row (says (mode_word p.mode) ∷ says p.name ∷ colon ∷ ptype p.ptype ∷ [])

abbrev pub result_type : Option PType → Piece
result_type None = nothing
result_type (Some t) = row (colon ∷ ptype t ∷ [])

-- an operation with its parameters and its result, behind this word
abbrev pub operation : List ℕ → Heading → Piece
operation word h = row (says word ∷ says h.name ∷ opens ∷ separated semicolon param h.params ∷ closes ∷ result_type h.result ∷ semicolon ∷ [])

abbrev pub heading : Heading → Piece
heading h = row (operation (codes "Operation") h ∷ clause (codes "requires") h.requires_clause ∷ clause (codes "ensures") h.ensures_clause ∷ [])

-- ---- procedures

-- what stands behind the heading of a procedure
abbrev pub body : Procedure → Piece
body p = row (clause (codes "decreasing") p.metric ∷ each variable p.vars ∷ statements p.body ∷ closing p.heading.name ∷ [])

abbrev pub local : LocalOp → Piece
local l = row (heading l.procedure.heading ∷ says (codes "Procedure") ∷ body l.procedure ∷ [])

abbrev pub procedure : Procedure → Piece
procedure p = row (operation (codes "Procedure") p.heading ∷ body p ∷ [])

-- ---- facilities

abbrev pub argument : FacArg → Piece
argument (arg.OfType t) = ptype t
argument (arg.Number at n) = says (signed_decimal n)

abbrev pub facility_arguments : List FacArg → Piece
facility_arguments [] = nothing
facility_arguments (a ∷ more) = row (opens ∷ separated comma argument (a ∷ more) ∷ closes ∷ [])

abbrev pub realized_by : List ℕ → Piece
realized_by name = row (says (codes "realized") ∷ says (codes "by") ∷ says name ∷ [])

abbrev pub realized : Option (List ℕ) → Piece
realized None = nothing
realized (Some name) = realized_by name

-- an enhancement with its realization
abbrev pub enhanced : List ℕ × List ℕ → Piece
enhanced p = row (says (codes "enhanced") ∷ says (codes "by") ∷ says p.0 ∷ realized_by p.1 ∷ [])

abbrev pub facility : FacDecl → Piece
facility f = row (says (codes "Facility") ∷ says f.name ∷ says (codes "is") ∷ says f.concept ∷ facility_arguments f.args ∷ realized f.realization ∷ each enhanced f.enhanced ∷ semicolon ∷ [])

-- ---- families and representations

unfoldable pub is_modeled_by : Piece
is_modeled_by = row (says (codes "is") ∷ says (codes "modeled") ∷ says (codes "by") ∷ [])

unfoldable pub modeled : Family → Piece
modeled f = row (says (codes "Type") ∷ says (codes "Family") ∷ says f.name ∷ is_modeled_by ∷ model f.model.parts ∷ semicolon ∷ [])

abbrev pub exemplar : List ℕ → Piece
exemplar name = row (says (codes "exemplar") ∷ says name ∷ semicolon ∷ [])

unfoldable pub initially : Expr → Piece
initially e = row (says (codes "initialization") ∷ claim (codes "ensures") e ∷ [])

abbrev pub family_of : Family → Piece
family_of f = row (modeled f ∷ exemplar f.exemplar ∷ clause (codes "constraint") f.constraint ∷ initially f.initial ∷ [])

abbrev pub family : Option Family → Piece
family None = nothing
family (Some f) = family_of f

unfoldable pub represented : Piece
represented = row (says (codes "is") ∷ says (codes "represented") ∷ says (codes "by") ∷ says (codes "Record") ∷ [])

unfoldable pub record_of : Rep → Piece
record_of r = row (says (codes "Type") ∷ says r.name ∷ represented ∷ each field r.fields ∷ says (codes "end") ∷ semicolon ∷ [])

unfoldable pub correspondence : Rep → Piece
correspondence r = row (says (codes "correspondence") ∷ dotted (codes "Conc") r.conc ∷ says (codes "=") ∷ expression r.correspondence ∷ semicolon ∷ [])

abbrev pub rep : Rep → Piece
rep r = row (record_of r ∷ claim (codes "convention") r.convention ∷ correspondence r ∷ [])

abbrev pub representation : Option Rep → Piece
representation None = nothing
representation (Some r) = rep r

-- ---- components

abbrev pub formal_of : Bool → List ℕ → Piece
formal_of true name = row (says (codes "type") ∷ says name ∷ [])
formal_of false name = row (says (codes "evaluates") ∷ says name ∷ colon ∷ says (codes "Integer") ∷ [])

abbrev pub formal : Formal → Piece
formal f = formal_of f.is_type f.name

abbrev pub formals : List Formal → Piece
formals [] = nothing
formals (f ∷ fs) = row (opens ∷ separated semicolon formal (f ∷ fs) ∷ closes ∷ [])

-- the first word of a component and its name
abbrev pub opening : List ℕ → List ℕ → Piece
opening word name = row (says word ∷ says name ∷ [])

abbrev pub concept : Concept → Piece
concept c = row (opening (codes "Concept") c.name ∷ formals c.formals ∷ semicolon ∷ uses c.uses ∷ clause (codes "requires") c.requires_clause ∷ family c.family ∷ each heading c.headings ∷ closing c.name ∷ [])

abbrev pub enhancement : Enhancement → Piece
enhancement e = row (opening (codes "Enhancement") e.name ∷ says (codes "for") ∷ says e.concept ∷ semicolon ∷ uses e.uses ∷ each heading e.headings ∷ closing e.name ∷ [])

-- what a realization is for
abbrev pub purpose : Option (List ℕ) → List ℕ → Piece
purpose None concept = says concept
purpose (Some enhancement) concept = row (says enhancement ∷ says (codes "of") ∷ says concept ∷ [])

abbrev pub realization : Realization → Piece
realization r = row (opening (codes "Realization") r.name ∷ says (codes "for") ∷ purpose r.enhancement r.concept ∷ semicolon ∷ uses r.uses ∷ each facility r.facilities
    ∷ representation r.rep ∷ each local r.locals ∷ each procedure r.procs ∷ closing r.name ∷ [])

abbrev pub facility_module : FacilityModule → Piece
facility_module m = row (opening (codes "Facility") m.name ∷ semicolon ∷ uses m.uses ∷ each facility m.facilities ∷ each local m.operations ∷ closing m.name ∷ [])

abbrev pub piece_of : Component → Piece
piece_of (component.Concept c) = concept c
piece_of (component.Enhancement e) = enhancement e
piece_of (component.Realization r) = realization r
piece_of (component.Facility m) = facility_module m

-- the canonical text of a component
abbrev pub canonical : Component → List ℕ
canonical c = piece_of c []
