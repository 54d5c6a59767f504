-- What a sketch shows: the terms that a rule gives, over terms that stand in cells.
use Rattle.std.specs.Prelude.{◌≡◌, true, List, [], ◌∷◌, Option, Some, None}
use Rattle.math_terms.specs.declared.term.Term.{Term}
use Rattle.term_cells.specs.declared.cell.Cell.{Cell}
use Rattle.term_cells.specs.Standing.{stands}
use Rattle.str_theory.specs.Forms.{add, cat, empty, len, less_eq, num, part, reversed, sub, truth}
use Rattle.str_theory.specs.Rules.{Given}
use Rattle.cell_rules.specs.declared.sketch.Small.{Small}
use Rattle.cell_rules.specs.declared.sketch.Small.TheVariants as small
use Rattle.cell_rules.specs.declared.sketch.Count.{Count}
use Rattle.cell_rules.specs.declared.sketch.Count.TheVariants as count
use Rattle.cell_rules.specs.declared.sketch.Text.{Text}
use Rattle.cell_rules.specs.declared.sketch.Text.TheVariants as text
use Rattle.cell_rules.specs.declared.sketch.Written.{Written}
use Rattle.cell_rules.specs.declared.sketch.Written.TheVariants as written
use Rattle.cell_rules.specs.declared.sketch.AtMost.{AtMost}
use Rattle.cell_rules.specs.declared.sketch.Bounds.{Bounds}
use Rattle.cell_rules.specs.declared.sketch.Bounds.TheVariants as bounds
use Rattle.cell_rules.specs.declared.sketch.Sketch.{Sketch}

abbrev pub ShowsSmall : List Cell → Small → Term → Type 0
ShowsSmall cells (small.At p) t = stands cells t p ≡ true
ShowsSmall cells (small.Constant n) t = t ≡ num n
ShowsSmall cells (small.Length p) t = (a : Term) × (stands cells a p ≡ true) × (t ≡ len a)

abbrev pub ShowsCount : List Cell → Count → Term → Type 0
ShowsCount cells (count.Just x) t = ShowsSmall cells x t
ShowsCount cells (count.Sum x y) t = (a : Term) × (b : Term) × ShowsSmall cells x a × ShowsSmall cells y b × (t ≡ add a b)
ShowsCount cells (count.Difference x y) t = (a : Term) × (b : Term) × ShowsSmall cells x a × ShowsSmall cells y b × (t ≡ sub a b)

abbrev pub ShowsText : List Cell → Text → Term → Type 0
ShowsText cells (text.At p) t = stands cells t p ≡ true
ShowsText cells text.Empty t = t ≡ empty
ShowsText cells (text.Reversed p) t = (a : Term) × (stands cells a p ≡ true) × (t ≡ reversed a)
ShowsText cells (text.Part x y p) t =
    (i : Term) × (j : Term) × (a : Term) × ShowsCount cells x i × ShowsCount cells y j × (stands cells a p ≡ true) × (t ≡ part i j a)

abbrev pub ShowsWritten : List Cell → Written → Term → Type 0
ShowsWritten cells (written.Truth x) t = t ≡ truth x
ShowsWritten cells (written.Count x) t = ShowsCount cells x t
ShowsWritten cells (written.Text x) t = ShowsText cells x t
ShowsWritten cells (written.Reversed x) t = (a : Term) × ShowsText cells x a × (t ≡ reversed a)
ShowsWritten cells (written.Cat x y) t = (a : Term) × (b : Term) × ShowsText cells x a × ShowsText cells y b × (t ≡ cat a b)
ShowsWritten cells (written.Cats x y z) t =
    (a : Term) × (b : Term) × (c : Term) × ShowsText cells x a × ShowsText cells y b × ShowsText cells z c × (t ≡ cat a (cat b c))

-- The one number is at most the other.
abbrev pub ShowsAtMost : List Cell → AtMost → Term → Type 0
ShowsAtMost cells x t = (a : Term) × (b : Term) × ShowsCount cells x.less a × ShowsCount cells x.more b × (t ≡ less_eq a b)

abbrev pub listed : Bounds → List AtMost
listed bounds.None = []
listed (bounds.One x) = x ∷ []
listed (bounds.Two x y) = x ∷ y ∷ []
listed (bounds.Three x y z) = x ∷ y ∷ z ∷ []

abbrev pub ShowAll : List Cell → List AtMost → List Term → Type 0
ShowAll cells [] [] = Unit {0}
ShowAll cells [] (t ∷ ts) = ⊥
ShowAll cells (x ∷ xs) [] = ⊥
ShowAll cells (x ∷ xs) (t ∷ ts) = ShowsAtMost cells x t × ShowAll cells xs ts

-- The sketch shows what a rule gives; there is none where the rule gives nothing.
abbrev pub Sketches : List Cell → Given → Option Sketch → Type 0
Sketches cells g None = g ≡ None
Sketches cells g (Some s) = (t : Term) × (cs : List Term) × (g ≡ Some (t, cs)) × ShowsWritten cells s.written t × ShowAll cells (listed s.bounds) cs
