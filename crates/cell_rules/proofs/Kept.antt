-- What stood stands when cells are added.
use Rattle.std.proofs.Common.{◌≡◌, ◌∙◌, sym, ap, subst, ℕ, ◌+◌, ◌<◌, ◌≤◌, pos, ℤ, true, List, [], ◌∷◌, ◌++◌, length, append_assoc, Option, Some, None, IfNone, IfErr, Result, Ok, Err, ⊎_elim, inl, inr, arith}
use Rattle.std.proofs.lemmas.List.{append-nil, length-append}
use Rattle.math_terms.specs.declared.term.Term.{Term}
use Rattle.math_terms.specs.declared.term.Term.TheOpen.{Term-F}
use Rattle.math_terms.specs.declared.term.Term.TheViews.{roll-Term}
use Rattle.term_cells.specs.declared.cell.Cell.{Cell}
use Rattle.term_cells.specs.Growing.{Grows, HasHead, IsFewForm, IsShort, StandsAs, StandsThere, Store, Pushes}
use Rattle.term_cells.specs.Placed.{AllStand}
use Rattle.term_cells.specs.Laws.{StandingLasts}
use Rattle.term_cells.specs.Standing.{stands}
use Rattle.cell_rules.specs.declared.sketch.Small.{Small}
use Rattle.cell_rules.specs.declared.sketch.Small.TheVariants as small
use Rattle.cell_rules.specs.declared.sketch.Count.{Count}
use Rattle.cell_rules.specs.declared.sketch.Count.TheVariants as count
use Rattle.cell_rules.specs.declared.sketch.Text.{Text}
use Rattle.cell_rules.specs.declared.sketch.Text.TheVariants as text
use Rattle.cell_rules.specs.declared.sketch.AtMost.{AtMost}
use Rattle.cell_rules.specs.Sketches.{ShowAll, ShowsAtMost, ShowsCount, ShowsSmall, ShowsText}

-- a node that stands as its head says
pub node_there : (cells : List Cell) (k : ℕ) (n : ℤ) (ts : List Term) (r : Option ℕ) (x : Term-F Term) → HasHead x k n ts → IsFewForm k → StandsAs cells k n ts r → StandsThere cells (roll-Term x) r
node_there cells k n ts None x h f s = tt
node_there cells k n ts (Some at) x h f s = s x h f

module _ (law : StandingLasts) (old new : Store) (n : ℕ) (g : Grows old new n) where
  pub kept : (t : Term) (p : ℕ) → stands old.0 t p ≡ true → stands new.0 t p ≡ true
  kept t p h = subst (λ cells. stands cells t p ≡ true) (sym g.held) (law old.0 g.more t p h)

  pub small_kept : (x : Small) (t : Term) → ShowsSmall old.0 x t → ShowsSmall new.0 x t
  small_kept (small.At p) t h = kept t p h
  small_kept (small.Constant m) t h = h
  small_kept (small.Length p) t h = (h.0, kept h.0 p h.1, h.2)

  pub count_kept : (x : Count) (t : Term) → ShowsCount old.0 x t → ShowsCount new.0 x t
  count_kept (count.Just x) t h = small_kept x t h
  count_kept (count.Sum x y) t h = (h.0, h.1, small_kept x h.0 h.2, small_kept y h.1 h.3, h.4)
  count_kept (count.Difference x y) t h = (h.0, h.1, small_kept x h.0 h.2, small_kept y h.1 h.3, h.4)

  pub text_kept : (x : Text) (t : Term) → ShowsText old.0 x t → ShowsText new.0 x t
  text_kept (text.At p) t h = kept t p h
  text_kept text.Empty t h = h
  text_kept (text.Reversed p) t h = (h.0, kept h.0 p h.1, h.2)
  text_kept (text.Part x y p) t h = (h.0, h.1, h.2, count_kept x h.0 h.3, count_kept y h.1 h.4, kept h.2 p h.5, h.6)

  pub bound_kept : (x : AtMost) (t : Term) → ShowsAtMost old.0 x t → ShowsAtMost new.0 x t
  bound_kept x t h = (h.0, h.1, count_kept x.less h.0 h.2, count_kept x.more h.1 h.3, h.4)

  pub all_kept : (xs : List AtMost) (ts : List Term) → ShowAll old.0 xs ts → ShowAll new.0 xs ts
  all_kept [] [] h = h
  all_kept [] (t ∷ ts) h = h
  all_kept (x ∷ xs) [] h = h
  all_kept (x ∷ xs) (t ∷ ts) h = (bound_kept x t h.0, all_kept xs ts h.1)

  pub all_stay : (ts : List Term) (ps : List ℕ) → AllStand old.0 ts ps → AllStand new.0 ts ps
  all_stay [] [] h = h
  all_stay [] (p ∷ ps) h = h
  all_stay (t ∷ ts) [] h = h
  all_stay (t ∷ ts) (p ∷ ps) h = (kept t p h.0, all_stay ts ps h.1)

-- each bound's term stands at the place beside it
abbrev pub Puts : List Cell → List Cell → List AtMost → List ℕ → Type 0
Puts old new [] [] = Unit {0}
Puts old new [] (p ∷ ps) = ⊥
Puts old new (x ∷ xs) [] = ⊥
Puts old new (x ∷ xs) (p ∷ ps) = ((t : Term) → ShowsAtMost old x t → stands new t p ≡ true) × Puts old new xs ps

pub all_put : (old new : List Cell) (xs : List AtMost) (ps : List ℕ) → Puts old new xs ps → (ts : List Term) → ShowAll old xs ts → AllStand new ts ps
all_put old new [] [] f [] h = tt
all_put old new [] [] f (t ∷ ts) h = absurd h
all_put old new [] (p ∷ ps) f ts h = absurd f
all_put old new (x ∷ xs) [] f ts h = absurd f
all_put old new (x ∷ xs) (p ∷ ps) f [] h = absurd h
all_put old new (x ∷ xs) (p ∷ ps) f (t ∷ ts) h = (f.0 t h.0, all_put old new xs ps f.1 ts h.1)

pub grows_on : (a b c : Store) (m n k : ℕ) → Grows a b m → Grows b c n → m + n < k + 2 → Grows a c k
grows_on a b c m n k f g h = record {
  room = g.room ∙ f.room;
  more = f.more ++ g.more;
  held = g.held ∙ ap (λ cells. cells ++ g.more) f.held ∙ append_assoc a.0 f.more g.more;
  few =
      let size : length (f.more ++ g.more) ≡ length f.more + length g.more = length-append f.more g.more in
      omega (arith, size, f.few, g.few, h);
}

pub pushed_grows : (a b : Store) (c : Cell) (r : Option ℕ) → Pushes a b c r → Grows a b 2
pushed_grows a b c None h = record { room = ap (λ (s : Store). s.1) h.0; more = []; held = ap (λ (s : Store). s.0) h.0 ∙ sym (append-nil a.0); few = omega arith }
pushed_grows a b c (Some at) h = record { room = ap (λ (s : Store). s.1) h.1; more = c ∷ []; held = ap (λ (s : Store). s.0) h.1; few = omega arith }

-- a node over two terms that stand, and over one
pub two_there : (cells : List Cell) (k : ℕ) (node : Term → Term → Term-F Term) (a b t : Term) (r : Option ℕ) → HasHead (node a b) k (pos 0) (a ∷ b ∷ []) → IsFewForm k
    → t ≡ roll-Term (node a b) → StandsAs cells k (pos 0) (a ∷ b ∷ []) r → StandsThere cells t r
two_there cells k node a b t r h f e s = subst (λ u. StandsThere cells u r) (sym e) (node_there cells k (pos 0) (a ∷ b ∷ []) r (node a b) h f s)

-- want of room for fewer cells
pub short_more : (s : Store) (m n : ℕ) → IsShort s m → m ≤ n → IsShort s n
short_more s m n (inl h) l = inl (omega (arith, h, l))
short_more s m n (inr h) l = inr (omega (arith, h, l))

pub if_none : {A P : Type 0} (r : Option A) → P → IfNone r P
if_none None p = p
if_none (Some x) p = tt

pub if_err : {A E P : Type 0} (r : Result A E) → P → IfErr r (λ e. P)
if_err (Ok x) p = tt
if_err (Err e) p = p

pub if_err_then : {A E P Q : Type 0} (r : Result A E) → (P → Q) → IfErr r (λ e. P) → IfErr r (λ e. Q)
if_err_then (Ok x) f h = tt
if_err_then (Err e) f h = f h

pub grows_more : (a b : Store) (m n : ℕ) → Grows a b m → m ≤ n → Grows a b n
grows_more a b m n f l = record { room = f.room; more = f.more; held = f.held; few = omega (arith, f.few, l) }

-- want of room after cells have come
pub short_after : (a b : Store) (m n k : ℕ) → Grows a b m → IsShort b n → m + n ≤ k + 1 → IsShort a k
short_after a b m n k f h l = by_case h
  where
    size : length b.0 ≡ length a.0 + length f.more
    size = ap length f.held ∙ length-append a.0 f.more

    by_case : IsShort b n → IsShort a k
    by_case (inl h) = inl (omega (arith, size, f.room, f.few, h, l))
    by_case (inr h) = inr (omega (arith, size, f.few, h, l))

pub if_none_then : {A P Q : Type 0} (r : Option A) → (P → Q) → IfNone r P → IfNone r Q
if_none_then None f h = f h
if_none_then (Some x) f h = tt

-- want of room for one cell, and after other cells have come
pub pushed_short : (a b : Store) (c : Cell) (r : Option ℕ) → Pushes a b c r → IfNone r (IsShort a 2)
pushed_short a b c None h = ⊎_elim (λ l. inl (omega (arith, l))) (λ l. inr (omega (arith, l))) h.1
pushed_short a b c (Some at) h = tt

pub pushed_after : (a b d : Store) (c : Cell) (r : Option ℕ) (m k : ℕ) → Grows a b m → Pushes b d c r → m < k → IfNone r (IsShort a k)
pushed_after a b d c r m k g h l = if_none_then r (λ s. short_after a b m 2 k g s (omega (arith, l))) (pushed_short b d c r h)
