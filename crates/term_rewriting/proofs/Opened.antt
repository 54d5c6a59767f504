-- What the cell at the place of a term tells.
use Rattle.std.proofs.Common.{◌≡◌, ◌∙◌, sym, ap, refl, subst, ℕ, ℤ, pos, Bool, true, false, ◌&&◌, List, [], ◌∷◌, Some, slice_get}
use Rattle.std.specs.Ordering.{int_eq}
use Rattle.std.proofs.lemmas.Bool.{and_parts}
use Rattle.math_terms.specs.declared.form.Form.{Form}
use Rattle.math_terms.specs.declared.term.Term.{Term}
use Rattle.math_terms.specs.declared.term.Term.TheOpen.{Term-F}
use Rattle.math_terms.specs.declared.term.Term.TheViews.{out-Term, roll-Term, roll-out-Term}
use Rattle.math_terms.specs.declared.view.Binary.{Binary}
use Rattle.math_terms.specs.declared.view.Binary.TheVariants as binary
use Rattle.math_terms.specs.Forms.{form as form_of, form_number}
use Rattle.math_terms.specs.Heads.{own, truth_number}
use Rattle.math_terms.specs.Views.{binary_node}
use Rattle.term_cells.specs.declared.cell.Cell.{Cell}
use Rattle.term_cells.specs.Laws.{IsNodeAt, StandingOpens, children_at}
use Rattle.term_cells.specs.Standing.{few_stand, quotient_stands, stands, stands_below}
use Rattle.term_rewriting.specs.declared.node.Node.TheVariants as node
use Rattle.term_rewriting.specs.Nodes.{Shows, node_of}

same_cell : (c d : Cell) → Some c ≡ Some d → c ≡ d
same_cell c d e = cc

same_form : (f g : Form) → Some f ≡ Some g → f ≡ g
same_form f g e = cc

truth_is : (b : Bool) (n : ℤ) → n ≡ truth_number b → b ≡ int_eq n (pos 1)
truth_is true n e = ap (λ m. int_eq m (pos 1)) (sym e)
truth_is false n e = ap (λ m. int_eq m (pos 1)) (sym e)

two : (cells : List Cell) (c : Cell) (p : ℕ) (op : Binary) (a b : Term) → few_stand (stands cells a ∷ stands cells b ∷ []) c p ≡ true → Shows cells p (roll-Term (binary_node op a b)) (node.Two op c.a c.b)
two cells c p op a b h =
    let q = and_parts (stands_below (stands cells a) c.a p) (stands_below (stands cells b) c.b p) h in
    (a, b, q.0, q.1, refl)

-- a node with its children is the one that its form and its cell tell
shown : (cells : List Cell) (c : Cell) (p : ℕ) (x : Term-F Term) → c.own ≡ own x → children_at cells x c p ≡ true → Shows cells p (roll-Term x) (node_of (form_of x) c)
shown cells c p (Term-F.Num n) o h = ap (λ m. roll-Term (Term-F.Num m)) (sym o)
shown cells c p (Term-F.Truth b) o h = ap (λ v. roll-Term (Term-F.Truth v)) (truth_is b c.own o)
shown cells c p Term-F.MinInt o h = refl
shown cells c p Term-F.MaxInt o h = refl
shown cells c p (Term-F.Var k) o h = (k, o, refl)
shown cells c p (Term-F.Add a b) o h = two cells c p binary.Add a b h
shown cells c p (Term-F.Sub a b) o h = two cells c p binary.Sub a b h
shown cells c p (Term-F.Mul a b) o h = two cells c p binary.Mul a b h
shown cells c p (Term-F.Div a b) o h = two cells c p binary.Div a b h
shown cells c p (Term-F.Mod a b) o h = two cells c p binary.Mod a b (and_parts (few_stand (stands cells a ∷ stands cells b ∷ []) c p) (quotient_stands cells c p) h).0
shown cells c p (Term-F.Len a) o h = (a, h, refl)
shown cells c p Term-F.Empty o h = refl
shown cells c p (Term-F.Single a) o h = (a, h, refl)
shown cells c p (Term-F.Cat a b) o h = two cells c p binary.Cat a b h
shown cells c p (Term-F.Reverse a) o h = (a, h, refl)
shown cells c p (Term-F.Part i j a) o h =
    let q = and_parts (stands_below (stands cells i) c.a p && stands_below (stands cells j) c.b p) (stands_below (stands cells a) c.c p) h in
    let r = and_parts (stands_below (stands cells i) c.a p) (stands_below (stands cells j) c.b p) q.0 in
    (i, j, a, r.0, r.1, q.1, refl)
shown cells c p (Term-F.Tuple ts) o h = (ts, h, refl)
shown cells c p (Term-F.Proj k a) o h = (k, a, o, h, refl)
shown cells c p (Term-F.Eq a b) o h = two cells c p binary.Eq a b h
shown cells c p (Term-F.Less a b) o h = two cells c p binary.Less a b h
shown cells c p (Term-F.LessEq a b) o h = two cells c p binary.LessEq a b h
shown cells c p (Term-F.Not a) o h = (a, h, refl)
shown cells c p (Term-F.And a b) o h = two cells c p binary.And a b h
shown cells c p (Term-F.Or a b) o h = two cells c p binary.Or a b h
shown cells c p (Term-F.Implies a b) o h = two cells c p binary.Implies a b h
shown cells c p (Term-F.Initial k a) o h = (k, a, o, h, refl)

pub opened : StandingOpens → (cells : List Cell) (t : Term) (p : ℕ) (c : Cell) (f : Form) → slice_get cells p ≡ Some c → ((g : Form) → c.form ≡ form_number g → Some f ≡ Some g) → stands cells t p ≡ true
    → Shows cells p t (node_of f c)
opened law cells t p c f at each h =
    let o = law cells t p h in
    let n : IsNodeAt cells t c p = subst (λ d. IsNodeAt cells t d p) (same_cell o.0 c (sym o.1 ∙ at)) o.2 in
    let x = out-Term t in
    let is : f ≡ form_of x = same_form f (form_of x) (each (form_of x) (sym n.form_is)) in
    subst (λ g. Shows cells p t (node_of g c)) (sym is)
    (subst (λ u. Shows cells p u (node_of (form_of x) c)) (roll-out-Term t) (shown cells c p x (sym n.own_is) n.children_are))
