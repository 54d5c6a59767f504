-- The walk of Main: the conditions on its paths, in order.
use Rattle.std.specs.Prelude.{ℕ, zero, suc, ◌+◌, ℤ, pos, ◌-ℤ◌, Bool, true, false, List, [], ◌∷◌, ◌++◌, length, map, Option, Some, None, slice_index_or, slice_set, codes, decimal}
use Rattle.math_terms.specs.declared.term.Term.{Term}
use Rattle.math_terms.specs.declared.descriptor.Desc.{Desc}
use Rattle.vc_sequents.specs.declared.sequent.VcKind.{VcKind}
use Rattle.vc_sequents.specs.declared.sequent.VcKind.TheVariants as kind
use Rattle.main_form.specs.declared.module.Expr.{Expr}
use Rattle.main_form.specs.declared.module.Expr.TheOpen.{Expr-F}
use Rattle.main_form.specs.declared.module.Expr.TheFolds.{fold-Expr}
use Rattle.main_form.specs.declared.module.Comparison.{Comparison}
use Rattle.main_form.specs.declared.module.Comparison.TheVariants as comparison
use Rattle.main_form.specs.declared.module.Guard.{Guard}
use Rattle.main_form.specs.declared.module.Guard.TheOpen.{Guard-F}
use Rattle.main_form.specs.declared.module.Guard.TheFolds.{fold-Guard}
use Rattle.main_form.specs.declared.module.Stmt.{Stmt}
use Rattle.main_form.specs.declared.module.Stmt.TheOpen.{Stmt-F}
use Rattle.main_form.specs.declared.module.Stmt.TheFolds.{fold-Stmt}
use Rattle.main_form.specs.declared.module.Claim.{Claim}
use Rattle.main_form.specs.declared.module.Claim.TheVariants as claim
use Rattle.main_form.specs.declared.module.Module.{Module}
use Rattle.main_vcs.specs.Terms.{num, var, empty_string, single, cat, len, add, sub, equal, below, at_most, both, either, negated, true_formula, integer, stream, bounds, in_bounds, facts}

-- A point of a path: the term of each variable, of the input and of the output, the hypotheses so far, the variables of the
-- conditions so far, and how many fresh names each variable and the input have had.
pub record Path : Type 0 where
  pub terms : List Term
  pub input : Term
  pub output : Term
  pub hyps : List Term
  pub vars : List (List ℕ × Desc)
  pub fresh : List ℕ
  pub reads : ℕ

-- what a condition is about, its place, and its variables, hypotheses and goal
pub record Condition : Type 0 where
  pub kind : VcKind
  pub at : ℕ
  pub vars : List (List ℕ × Desc)
  pub hyps : List Term
  pub goal : Term

-- The walk comes by conditions and by the ends of paths.
pub data Item : Type 0 where
  Check : Condition → Item
  End : Item

abbrev pub Items : Type 0
Items = List Item

abbrev pub check : VcKind → ℕ → Path → Term → Item
check k at p goal = Check (record { kind = k; at = at; vars = p.vars; hyps = p.hyps; goal = goal })

abbrev pub with_hyps : List Term → Path → Path
with_hyps fs p = record p { hyps = p.hyps ++ fs }

-- what goes on with a term at a point
abbrev pub WithTerm : Type 0
WithTerm = Term → Path → Items

-- A sum has to stay in range.
abbrev pub in_range : ℕ → Term → WithTerm → Path → Items
in_range at t go p = check kind.Range at p (in_bounds t) ∷ go t p

-- The term of an expression, with its conditions from the left. What remains of the input brings its bounds.
abbrev pub expr_step : Expr-F (WithTerm → Path → Items) → WithTerm → Path → Items
expr_step (Expr-F.Number n) go p = go (num n) p
expr_step (Expr-F.Variable k) go p = go (slice_index_or p.terms k (num (pos 0))) p
expr_step Expr-F.Remaining go p = go (len p.input) (with_hyps (bounds (len p.input)) p)
expr_step (Expr-F.Minus at a) go p = a (λ t q. in_range at (sub (num (pos 0)) t) go q) p
expr_step (Expr-F.Add at a b) go p = a (λ t q. b (λ u r. in_range at (add t u) go r) q) p
expr_step (Expr-F.Sub at a b) go p = a (λ t q. b (λ u r. in_range at (sub t u) go r) q) p

abbrev pub expr : Expr → WithTerm → Path → Items
expr e = fold-Expr (WithTerm → Path → Items) expr_step e

abbrev pub compared : Comparison → Term → Term → Term
compared comparison.Equal a b = equal a b
compared comparison.NotEqual a b = negated (equal a b)
compared comparison.Less a b = below a b
compared comparison.LessEqual a b = at_most a b
compared comparison.Greater a b = below b a
compared comparison.GreaterEqual a b = at_most b a

abbrev pub guard_step : Guard-F (WithTerm → Path → Items) → WithTerm → Path → Items
guard_step (Guard-F.Compare c a b) go p = expr a (λ t q. expr b (λ u r. go (compared c t u) r) q) p
guard_step (Guard-F.Not g) go p = g (λ t q. go (negated t) q) p
guard_step (Guard-F.And g h) go p = g (λ t q. h (λ u r. go (both t u) r) q) p
guard_step (Guard-F.Or g h) go p = g (λ t q. h (λ u r. go (either t u) r) q) p

abbrev pub guard : Guard → WithTerm → Path → Items
guard g = fold-Guard (WithTerm → Path → Items) guard_step g

-- the name of the k-th fresh variable of a name after the first
abbrev pub fresh_name : List ℕ → ℕ → List ℕ
fresh_name name zero = name
fresh_name name (suc k) = name ++ (codes "'" ++ decimal (suc k))

-- the number of the next variable
abbrev pub next_var : Path → ℕ
next_var p = length p.vars + 1

-- After a read: a fresh number with its bounds, and a fresh rest of the input, of which the number was the first.
abbrev pub after_read : List (List ℕ) → List ℕ → ℕ → Path → Path
after_read names input k p = record p {
  terms = slice_set p.terms k (var (next_var p));
  input = var (next_var p + 1);
  hyps = p.hyps ++ (bounds (var (next_var p)) ++ equal p.input (cat (single (var (next_var p))) (var (next_var p + 1))) ∷ []);
  vars = p.vars ++ (fresh_name (slice_index_or names k []) (slice_index_or p.fresh k 0), integer) ∷ (fresh_name input (p.reads + 1), stream) ∷ [];
  fresh = slice_set p.fresh k (slice_index_or p.fresh k 0 + 1);
  reads = p.reads + 1;
}

-- what goes on from a point
abbrev pub Onward : Type 0
Onward = Path → Items

abbrev pub in_order : List (Onward → Onward) → Onward → Onward
in_order [] go = go
in_order (x ∷ xs) go = x (in_order xs go)

-- A statement, by what goes on after it. An If has two paths, the one with the guard first.
abbrev pub stmt_step : List (List ℕ) → List ℕ → Stmt-F (Onward → Onward) → Onward → Onward
stmt_step names input (Stmt-F.Read at k) go p = check kind.Requires at p (below (num (pos 0)) (len p.input)) ∷ go (after_read names input k p)
stmt_step names input (Stmt-F.Write e) go p = expr e (λ t q. go (record q { output = cat q.output (single t) })) p
stmt_step names input (Stmt-F.Assign k e) go p = expr e (λ t q. go (record q { terms = slice_set q.terms k t })) p
stmt_step names input (Stmt-F.If g a b) go p =
    guard g (λ t q. in_order a go (with_hyps (t ∷ []) q) ++ in_order b go (with_hyps (negated t ∷ []) q)) p

abbrev pub stmt : List (List ℕ) → List ℕ → Stmt → Onward → Onward
stmt names input x = fold-Stmt (Onward → Onward) (stmt_step names input) x

abbrev pub stmts : List (List ℕ) → List ℕ → List Stmt → Onward → Onward
stmts names input xs = in_order (map (stmt names input) xs)

-- a term with the literals after it, one after another
abbrev pub extended : Term → List ℤ → Term
extended t [] = t
extended t (n ∷ ns) = extended (cat t (single (num n))) ns

abbrev pub chain : List ℤ → Term
chain [] = empty_string
chain (n ∷ ns) = extended (single (num n)) ns

-- what Main claims of an output
abbrev pub claimed : Claim → Term → Term
claimed claim.True output = true_formula
claimed (claim.Chain ns) output = equal output (chain ns)

-- the end of a path, at Main's last `end`
abbrev pub at_end : Claim → ℕ → Onward
at_end c at p = End ∷ check kind.Ensures at p (claimed c p.output) ∷ []

-- where Main begins: the input is the first variable and the output, which is empty, the second
abbrev pub begins : Module → Path
begins m = record {
  terms = map (λ n. num (pos 0)) m.variables;
  input = var 1;
  output = var 2;
  hyps = facts ++ equal (var 2) empty_string ∷ [];
  vars = (m.input, stream) ∷ (m.output, stream) ∷ [];
  fresh = map (λ n. 0) m.variables;
  reads = 0;
}

-- all conditions of a module and the ends of its paths, in order
abbrev pub items_of : Module → Items
items_of m = stmts m.variables m.input m.body (at_end m.claim m.end_at) (begins m)

abbrev pub conditions : Items → List Condition
conditions [] = []
conditions (Check c ∷ xs) = c ∷ conditions xs
conditions (End ∷ xs) = conditions xs

-- The conditions of a module in order. Condition number k, from 1, is the k-th.
abbrev pub conditions_of : Module → List Condition
conditions_of m = conditions (items_of m)
