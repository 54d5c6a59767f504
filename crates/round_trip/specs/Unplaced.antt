-- Trees without their places: each place is 0.
use Rattle.std.specs.Prelude.{ℕ, List, map, option_map}
use Rattle.res_ast.specs.declared.component.Component.{Component}
use Rattle.res_ast.specs.declared.component.Component.TheVariants as component
use Rattle.res_ast.specs.declared.component.Concept.{Concept}
use Rattle.res_ast.specs.declared.component.Enhancement.{Enhancement}
use Rattle.res_ast.specs.declared.component.FacilityModule.{FacilityModule}
use Rattle.res_ast.specs.declared.component.Realization.{Realization}
use Rattle.res_ast.specs.declared.facility.FacArg.{FacArg}
use Rattle.res_ast.specs.declared.facility.FacArg.TheVariants as arg
use Rattle.res_ast.specs.declared.facility.FacDecl.{FacDecl}
use Rattle.res_ast.specs.declared.heading.Formal.{Formal}
use Rattle.res_ast.specs.declared.heading.Heading.{Heading}
use Rattle.res_ast.specs.declared.heading.Param.{Param}
use Rattle.res_ast.specs.declared.heading.PType.{PType}
use Rattle.res_ast.specs.declared.model.Family.{Family}
use Rattle.res_ast.specs.declared.procedure.LocalOp.{LocalOp}
use Rattle.res_ast.specs.declared.procedure.Procedure.{Procedure}
use Rattle.res_ast.specs.declared.procedure.Rep.{Rep}
use Rattle.res_ast.specs.declared.statement.Place.{Place}
use Rattle.res_ast.specs.declared.statement.Stmt.{Stmt}
use Rattle.res_ast.specs.declared.statement.Stmt.TheOpen.{Stmt-F}
use Rattle.res_ast.specs.declared.statement.Stmt.TheViews.{roll-Stmt}
use Rattle.res_ast.specs.declared.statement.Stmt.TheFolds.{fold-Stmt}
use Rattle.round_trip.specs.WellFormed.{unplaced}

-- ---- statements

abbrev pub unplaced_place : Place → Place
unplaced_place p = record p { at = 0 }

abbrev pub unplaced_statement_step : Stmt-F Stmt → Stmt
unplaced_statement_step (Stmt-F.Swap at x y) = roll-Stmt (Stmt-F.Swap 0 (unplaced_place x) (unplaced_place y))
unplaced_statement_step (Stmt-F.Assign at x e) = roll-Stmt (Stmt-F.Assign 0 (unplaced_place x) (unplaced e))
unplaced_statement_step (Stmt-F.Call at facility name es) = roll-Stmt (Stmt-F.Call 0 facility name (map unplaced es))
unplaced_statement_step (Stmt-F.If at guard first second) = roll-Stmt (Stmt-F.If 0 (unplaced guard) first second)
unplaced_statement_step (Stmt-F.While at guard changed invariant metric body) =
    roll-Stmt (Stmt-F.While 0 (unplaced guard) (map unplaced_place changed) (unplaced invariant) (unplaced metric) body)

abbrev pub unplaced_statement : Stmt → Stmt
unplaced_statement = fold-Stmt Stmt unplaced_statement_step

-- ---- headings and procedures

abbrev pub unplaced_type : PType → PType
unplaced_type t = record t { at = 0 }

abbrev pub unplaced_field : List ℕ × PType → List ℕ × PType
unplaced_field x = (x.0, unplaced_type x.1)

abbrev pub unplaced_param : Param → Param
unplaced_param p = record p { at = 0; ptype = unplaced_type p.ptype }

abbrev pub unplaced_heading : Heading → Heading
unplaced_heading h = record h {
  at = 0;
  params = map unplaced_param h.params;
  result = option_map unplaced_type h.result;
  requires_clause = option_map unplaced h.requires_clause;
  ensures_clause = option_map unplaced h.ensures_clause;
}

abbrev pub unplaced_procedure : Procedure → Procedure
unplaced_procedure p = record {
  at = 0;
  heading = unplaced_heading p.heading;
  metric = option_map unplaced p.metric;
  vars = map unplaced_field p.vars;
  body = map unplaced_statement p.body;
  end_at = 0;
}

abbrev pub unplaced_local : LocalOp → LocalOp
unplaced_local l = record { procedure = unplaced_procedure l.procedure }

-- ---- facilities, families and representations

abbrev pub unplaced_argument : FacArg → FacArg
unplaced_argument (arg.OfType t) = arg.OfType (unplaced_type t)
unplaced_argument (arg.Number at n) = arg.Number 0 n

abbrev pub unplaced_facility : FacDecl → FacDecl
unplaced_facility f = record f { at = 0; args = map unplaced_argument f.args }

abbrev pub unplaced_family : Family → Family
unplaced_family f = record f { at = 0; constraint = option_map unplaced f.constraint; initial = unplaced f.initial }

abbrev pub unplaced_rep : Rep → Rep
unplaced_rep r = record r {
  at = 0;
  fields = map unplaced_field r.fields;
  convention = unplaced r.convention;
  correspondence = unplaced r.correspondence;
}

-- ---- components

abbrev pub unplaced_formal : Formal → Formal
unplaced_formal f = record f { at = 0 }

abbrev pub unplaced_concept : Concept → Concept
unplaced_concept c = record c {
  at = 0;
  formals = map unplaced_formal c.formals;
  requires_clause = option_map unplaced c.requires_clause;
  family = option_map unplaced_family c.family;
  headings = map unplaced_heading c.headings;
}

abbrev pub unplaced_enhancement : Enhancement → Enhancement
unplaced_enhancement e = record e { at = 0; headings = map unplaced_heading e.headings }

abbrev pub unplaced_realization : Realization → Realization
unplaced_realization r = record r {
  at = 0;
  facilities = map unplaced_facility r.facilities;
  rep = option_map unplaced_rep r.rep;
  locals = map unplaced_local r.locals;
  procs = map unplaced_procedure r.procs;
  end_at = 0;
}

abbrev pub unplaced_module : FacilityModule → FacilityModule
unplaced_module m = record m { at = 0; facilities = map unplaced_facility m.facilities; operations = map unplaced_local m.operations }

abbrev pub unplaced_component : Component → Component
unplaced_component (component.Concept c) = component.Concept (unplaced_concept c)
unplaced_component (component.Enhancement e) = component.Enhancement (unplaced_enhancement e)
unplaced_component (component.Realization r) = component.Realization (unplaced_realization r)
unplaced_component (component.Facility m) = component.Facility (unplaced_module m)
