-- What the cell of a tuple tells.
use Rattle.std.proofs.Common.{◌≡◌, ◌∙◌, sym, ap, refl, subst, ℕ, ◌==◌, Bool, true, List, Some, map, slice_get}
use Rattle.math_terms.specs.declared.term.Term.{Term}
use Rattle.math_terms.specs.declared.term.Term.TheOpen.{Term-F}
use Rattle.math_terms.specs.declared.term.Term.TheViews.{out-Term}
use Rattle.math_terms.specs.Heads.{form}
use Rattle.term_cells.specs.declared.cell.Cell.{Cell}
use Rattle.term_cells.specs.Laws.{IsNodeAt, StandingOpens, children_at}
use Rattle.term_cells.specs.Standing.{parts_stand, stands}
use Rattle.str_theory.specs.Forms.{tuple_form}
use Rattle.str_theory.specs.Rules.{Given}

same_cell : (c d : Cell) → Some c ≡ Some d → c ≡ d
same_cell c d e = cc

-- the cell at the place of a term, with its test for a form
pub node_at : StandingOpens → (cells : List Cell) (t : Term) (p : ℕ) (c : Cell) → slice_get cells p ≡ Some c → stands cells t p ≡ true → IsNodeAt cells t c p
node_at law cells t p c e h =
    let o = law cells t p h in
    subst (λ d. IsNodeAt cells t d p) (same_cell o.0 c (sym o.1 ∙ e)) o.2

pub its_test : (cells : List Cell) (t : Term) (p : ℕ) (c : Cell) (k : ℕ) (b : Bool) → IsNodeAt cells t c p → (c.form == k) ≡ b → (form (out-Term t) == k) ≡ b
its_test cells t p c k b n e = ap (λ m. m == k) n.form_is ∙ e

pub tuple_looked : (cells : List Cell) (x : Term-F Term) (c : Cell) (p : ℕ) → (form x == 16) ≡ true → children_at cells x c p ≡ true
    → (ts : List Term) × ((limit : ℕ) × (parts_stand cells (map (stands cells) ts) c.a limit ≡ true)) × ((next : List Term → Given) → tuple_form next x ≡ next ts)
tuple_looked cells (Term-F.Tuple ts) c p e h = (ts, (p, h), λ next. refl)
tuple_looked cells x c p e h = cc
