-- What is rewritten keeps its truth.
use Rattle.std.proofs.Common.{◌≡◌, ◌≤◌, sym, subst, ℕ, List, map, Option, Some, None, Result, Ok, Err, IfOk, IfErr, IfSome}
use Rattle.std.proofs.lemmas.Simd.{map-map}
use Rattle.math_terms.specs.declared.descriptor.Desc.{Desc}
use Rattle.math_terms.specs.declared.descriptor.Sort.{Sort}
use Rattle.math_terms.specs.declared.name.Name.{Name}
use Rattle.math_terms.specs.declared.name.TermError.{TermError}
use Rattle.math_terms.specs.declared.term.Term.{Term}
use Rattle.math_terms.specs.Kinds.{sort_of_desc}
use Rattle.math_terms.specs.Terms.{IsSizeRefusal, nodes}
use Rattle.term_cells.specs.KindShown.{sorts_of_vars}
use Rattle.str_theory.specs.Laws.{RulesKeepTruth}
use Rattle.str_theory.specs.Positions.{given_at}
use Rattle.str_theory.specs.Rules.{Given, rule}
use Rattle.term_rewriting.specs.Rewriting.{IsRewritingRefusal, KeepsTruth}

pub truth_kept : RulesKeepTruth → (vars : List (Name × Desc)) (r : ℕ) (fact : Option Term) (position : List ℕ) (f : Term) (new : Term × List Term)
    → Some new ≡ given_at position (rule (sorts_of_vars vars) fact r) f → KeepsTruth vars fact f new
truth_kept law vars r fact position f new e = λ params I is w lies known formula.
    law params I is w (map (λ v. v.1) vars) lies fact known r position f new.0 new.1 formula
    (subst (λ (sorts : List Sort). given_at position (rule sorts fact r) f ≡ Some new) (sym (map-map sort_of_desc (λ (v : Name × Desc). v.1) vars)) (sym e))

pub truths_kept : RulesKeepTruth → (vars : List (Name × Desc)) (r : ℕ) (fact : Option Term) (position : List ℕ) (f : Term) (result : Result (Option (Term × List Term)) TermError)
    → IfOk result (λ o. o ≡ given_at position (rule (sorts_of_vars vars) fact r) f) → IfOk result (λ o. IfSome o (λ new. KeepsTruth vars fact f new))
truths_kept law vars r fact position f (Ok (Some new)) h = truth_kept law vars r fact position f new h
truths_kept law vars r fact position f (Ok None) h = tt
truths_kept law vars r fact position f (Err e) h = tt

-- what is answered where a rule gives something
pub given_ok : (g : Given) (x : Term × List Term) (result : Result (Option (Term × List Term)) TermError) → g ≡ Some x → IfOk result (λ o. o ≡ Some x) → IfOk result (λ o. o ≡ g)
given_ok g x (Ok o) e h = subst (λ y. o ≡ y) (sym e) h
given_ok g x (Err f) e h = tt

pub given_small : (x : Term × List Term) (result : Result (Option (Term × List Term)) TermError) → IfOk result (λ o. o ≡ Some x) → IfOk result (λ o. nodes x.0 ≤ 10000) → IfOk result (λ o. IfSome o (λ new. nodes new.0 ≤ 10000))
given_small x (Ok o) e h = subst (λ y. IfSome y (λ new. nodes new.0 ≤ 10000)) (sym e) h
given_small x (Err f) e h = tt

pub given_refused : (g : Given) (x : Term × List Term) (result : Result (Option (Term × List Term)) TermError) → g ≡ Some x → IfErr result (λ e. IsSizeRefusal e (nodes x.0)) → IfErr result (λ e. IsRewritingRefusal e g)
given_refused g x (Ok o) e h = tt
given_refused g x (Err f) e h = subst (λ y. IsRewritingRefusal f y) (sym e) h
