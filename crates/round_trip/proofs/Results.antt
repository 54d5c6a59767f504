-- What stands behind the parameters of an operation: the type of its result, and clauses.
use Rattle.std.proofs.Common.{◌≡◌, ◌∙◌, ap, refl, ℕ, true, false, List, Option, Some, None, codes}
use Rattle.res_ast.specs.declared.expression.BinOp.TheVariants as op
use Rattle.res_ast.specs.declared.expression.Expr.{Expr}
use Rattle.res_ast.specs.declared.expression.Form.TheOpen.{Form-F}
use Rattle.res_ast.specs.declared.expression.Form.TheViews.{roll-Form}
use Rattle.res_ast.specs.declared.heading.PType.{PType}
use Rattle.res_grammar.specs.Classes.{class_of_word}
use Rattle.res_grammar.specs.Language.{language_rules}
use Rattle.res_grammar.specs.Numbers as n
use Rattle.expr_parser.specs.Actions.{expression}
use Rattle.res_printer.specs.Components.{clause, ptype}
use Rattle.res_printer.specs.Expressions.{at_level, written}
use Rattle.res_printer.specs.Expressions as printer
use Rattle.res_printer.specs.Pieces.{colon, says, semicolon}
use Rattle.round_trip.proofs.Canonical.{Knowledge, act, behind_light, behind_operator, done, knowing, line, way, way_as, word, ◌▹◌}
use Rattle.round_trip.proofs.Chains.{Claim}
use Rattle.round_trip.proofs.Claims.{Hold, HeadingRest, Name, Outside, heading_rest_text, put_heading_rest}
use Rattle.round_trip.proofs.Levels.{written_as}

abbrev in_clause : Knowledge → Knowledge
in_clause k = record k { in_result = true }

abbrev behind_clause : Knowledge → Knowledge
behind_clause k = record k { in_result = false }

-- ---- the clause on a result

abbrev result_is : Name → Expr → Expr
result_is x y = expression 0 (roll-Form (Form-F.Binary op.Eq (expression 0 (roll-Form (Form-F.Word x))) y))

result_says : (x : Name) (y : Expr) (z : List ℕ) → printer.expression (result_is x y) z ≡ says x (says (codes "=") (at_level 4 (written y) z))
result_says x y z =
    ap (λ v. v.text z) (written_as (Form-F.Binary op.Eq (expression 0 (roll-Form (Form-F.Word x))) y))
    ∙ ap (λ v. at_level 4 v (says (codes "=") (at_level 4 (written y) z))) (written_as (Form-F.Word x))

abbrev result_rest : PType → Option Expr → Expr → HeadingRest
result_rest t q e = record { result = Some t; requires_clause = q; ensures_clause = Some e }

pub heading_rest_ways : (E : Claim) → Outside E → Hold E n.heading_rest_part
unfolding language_rules class_of_word
heading_rest_ways E o = (
  (λ m s0 t d s1 q f s2 x g s3 c.
      let y = o.concatenation g c in
      let e = result_is x.value y.value in
      let v = result_rest t.value q.value e in
      record {
        value = v;
        light = _;
        canonical = way_as n.heading_rest_part 0 refl (word 17 refl ▹ t.canonical.going ▹ line 16 refl ▹ q.canonical.going ▹ word 36 refl ▹ act n.begin_mark refl ▹ x.canonical.going
            ▹ behind_operator (behind_light (word 9 refl) (behind_light (knowing n.result_equals_mark in_clause (λ l k. refl)) y.at_start))
            ▹ act n.operated_mark refl ▹ act n.finish_mark refl ▹ knowing n.result_clause_mark behind_clause (λ l k. refl) ▹ line 16 refl ▹ act n.some_clause_mark refl ▹ done)
            (λ k. heading_rest_text v)
            (λ k z. ap (λ u. colon (ptype t.value (semicolon (clause (codes "requires") q.value (says (codes "ensures") u))))) (result_says x.value y.value (semicolon z)))
            (put_heading_rest v) (λ w. refl) (λ w. refl);
      }),
  (
    (λ m s0 q d s1 e.
        let v : HeadingRest = record { result = None; requires_clause = q.value; ensures_clause = e.value } in
        record { value = v; light = _; canonical = way n.heading_rest_part 1 refl (act n.no_result_mark refl ▹ line 16 refl ▹ q.canonical.going ▹ e.canonical.going ▹ done) (put_heading_rest v) (λ w. refl) (λ w. refl) }),
    tt,
  ),
)
