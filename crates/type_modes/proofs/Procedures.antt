-- The breaches in the bodies of a component, one after the other.
use Rattle.std.proofs.Common.{◌≡◌, ◌∙◌, ℕ, ◌+◌, ◌<◌, ◌≤◌, arith, inl, inr, List, [], ◌++◌, length, map, drop, Option, None, Some, slice_get, ap, refl, sym}
use Rattle.std.specs.List.{enumerate_from, flat_map}
use Rattle.std.proofs.lemmas.List.{at_drop_all, at_drop_more}
use Rattle.std.proofs.lemmas.List.Folds.{flat_map-map}
use Rattle.std.proofs.lemmas.Option.{get_or_from_slice_get, slice_get_cases, slice_get_within}
use Rattle.res_ast.specs.declared.component.Component.{Component}
use Rattle.res_ast.specs.declared.procedure.Procedure.{Procedure}
use Rattle.res_ast.specs.declared.statement.Stmt.{Stmt}
use Rattle.type_rules.specs.declared.error.ModeError.{ModeError}
use Rattle.type_rules.specs.Breaches.{least_of}
use Rattle.type_rules.specs.Concepts.{procedures}
use Rattle.type_modes.specs.Bodies.{procedure_breaches}
use Rattle.type_modes.specs.Places.{Body}
use Rattle.type_modes.specs.Statements.{Seen, breaches_in, statement, statements}
use Rattle.type_modes.proofs.Blocks.{least_both}

abbrev pub bodies_from : List Component → Component → ℕ → List ModeError
bodies_from table c k = flat_map (procedure_breaches table c) (enumerate_from k (drop k (procedures c)))

pub statements_are : (b : Body) (ss : List Stmt) → breaches_in (map (statement b) ss) ≡ statements b ss
statements_are b ss = flat_map-map (λ (s : Seen). s.breaches) (statement b) ss

pub bodies_more : (table : List Component) (c : Component) (k : ℕ) (p : Procedure) → slice_get (procedures c) k ≡ Some p
    → bodies_from table c k ≡ procedure_breaches table c (k, p) ++ bodies_from table c (k + 1)
bodies_more table c k p is =
    let rule = λ (ps : List Procedure). flat_map (procedure_breaches table c) (enumerate_from k ps) in
    at_drop_more rule (procedures c) k p (slice_get_within (procedures c) k p is)
    ∙ ap (λ q. procedure_breaches table c (k, q) ++ bodies_from table c (k + 1)) (get_or_from_slice_get (procedures c) k p p is)

pub bodies_ended : (table : List Component) (c : Component) (k : ℕ) → length (procedures c) ≤ k → bodies_from table c k ≡ []
bodies_ended table c k past = at_drop_all (λ (ps : List Procedure). flat_map (procedure_breaches table c) (enumerate_from k ps)) (procedures c) k past

-- the breaches of one body, and then those that are left
pub bodies_noted : (table : List Component) (c : Component) (k : ℕ) (p : Procedure) (before after all : Option ModeError) → slice_get (procedures c) k ≡ Some p
    → after ≡ least_of before (procedure_breaches table c (k, p)) → least_of before (bodies_from table c k) ≡ all → least_of after (bodies_from table c (k + 1)) ≡ all
bodies_noted table c k p before after all is noted so =
    let rest = bodies_from table c (k + 1) in
    least_both before after (least_of after rest) (procedure_breaches table c (k, p)) rest noted refl
    ∙ ap (least_of before) (sym (bodies_more table c k p is))
    ∙ so

pub procedure_there : (c : Component) (k : ℕ) → k < length (procedures c) → slice_get (procedures c) k ≡ None → ⊥
procedure_there c k within none =
    elim (slice_get_cases (procedures c) k).1 [
      | inl w ↦
          let both : None ≡ Some w.0 = sym none ∙ w.2 in
          cc
      | inr w ↦ omega (arith, within, w.0)
    ]
