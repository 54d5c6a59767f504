-- What lies in a descriptor, and interpretations of type parameters.
use Rattle.std.specs.Prelude.{ℕ, ◌<◌, ◌==◌, pos, Bool, true, false, ◌&&◌, List, [], ◌∷◌, IsTrue}
use Rattle.std.specs.List.{list_all}
use Rattle.math_terms.specs.declared.term.Term.{Term}
use Rattle.math_terms.specs.declared.term.Term.TheOpen.{Term-F}
use Rattle.math_terms.specs.declared.term.Term.TheFolds.{fold-Term}
use Rattle.math_terms.specs.declared.descriptor.Desc.{Desc}
use Rattle.math_terms.specs.declared.descriptor.Shape.TheOpen.{Shape-F, Desc-F}
use Rattle.math_terms.specs.declared.descriptor.Shape.TheFolds.{fold-Desc}
use Rattle.math_terms.specs.declared.descriptor.Shape.TheViews.{out-Desc}
use Rattle.math_terms.specs.Values.{Val, Num, Truth, Str, Tup, list_of, truth, is_number, is_truth, is_string, entries}
use Rattle.math_terms.specs.Terms.{every_child}
use Rattle.math_terms.specs.Meaning.{Valuation, set_to, value_where}

-- each value in the descriptor at its place, as many of the one as of the other
abbrev pub each_in : List (Val → Bool) → List Val → Bool
each_in [] [] = true
each_in [] (v ∷ vs) = false
each_in (d ∷ ds) [] = false
each_in (d ∷ ds) (v ∷ vs) = d v && each_in ds vs

-- whether a value has a shape, where its parts are in the descriptors of the parts
abbrev pub shape_step : (ℕ → Val → Bool) → Shape-F (Val → Bool) (Val → Bool) → Val → Bool
shape_step params Shape-F.Z v = is_number v
shape_step params Shape-F.B v = is_truth v
shape_step params (Shape-F.Str d) v = is_string v && list_all d (entries v)
shape_step params (Shape-F.Tup ds) (Num n) = false
shape_step params (Shape-F.Tup ds) (Truth b) = false
shape_step params (Shape-F.Tup ds) (Str vs) = false
shape_step params (Shape-F.Tup ds) (Tup vs) = each_in ds (list_of vs)
shape_step params (Shape-F.Param k) v = params k v

abbrev pub member_step : (ℕ → Val → Bool) → Valuation → Desc-F (Val → Bool) (Val → Bool) → Val → Bool
member_step starts w d v = d.shape v && truth (value_where starts (set_to 0 v w) d.constraint)

-- The value has the shape, each part is in the descriptor of that part, and the constraint is true of it.
abbrev pub member_where : (ℕ → Val → Bool) → (ℕ → Val → Bool) → Desc → Valuation → Val → Bool
member_where params starts d w v = fold-Desc (Val → Bool) (Val → Bool) (shape_step params) (member_step starts w) d v

-- the initial formula is true of the value
abbrev pub starts_where : (ℕ → Val → Bool) → Desc → Valuation → Val → Bool
starts_where starts d w v = truth (value_where starts (set_to 0 v w) (out-Desc d).initial)

-- A closed descriptor mentions no variable but Var(0), no type parameter and no `Initial`.
abbrev pub closed_term_step : Term-F Bool → Bool
closed_term_step (Term-F.Var k) = k == 0
closed_term_step (Term-F.Initial k a) = false
closed_term_step x = every_child x

abbrev pub is_closed_term : Term → Bool
is_closed_term t = fold-Term Bool closed_term_step t

abbrev pub closed_shape_step : Shape-F Bool Bool → Bool
closed_shape_step Shape-F.Z = true
closed_shape_step Shape-F.B = true
closed_shape_step (Shape-F.Str d) = d
closed_shape_step (Shape-F.Tup ds) = list_all (λ d. d) ds
closed_shape_step (Shape-F.Param k) = false

abbrev pub closed_step : Desc-F Bool Bool → Bool
closed_step d = d.shape && is_closed_term d.constraint && is_closed_term d.initial

abbrev pub is_closed : Desc → Bool
is_closed d = fold-Desc Bool Bool closed_shape_step closed_step d

-- In a closed descriptor nothing depends on a type parameter or on another variable.
abbrev pub nothing : ℕ → Val → Bool
nothing k v = false

abbrev pub zeros : Valuation
zeros k = Num (pos 0)

-- a descriptor for each type parameter
abbrev pub Interpretation : Type 0
Interpretation = ℕ → Desc

abbrev pub lies_in : Interpretation → ℕ → Val → Bool
lies_in I k v = member_where nothing nothing (I k) zeros v

abbrev pub starts_in : Interpretation → ℕ → Val → Bool
starts_in I k v = starts_where nothing (I k) zeros v

-- Each of so many type parameters has a closed descriptor with a member of which the initial formula is true.
abbrev pub IsInterpretation : ℕ → Interpretation → Type 0
IsInterpretation params I = (k : ℕ) → k < params → IsTrue (is_closed (I k)) × ((v : Val) × IsTrue (lies_in I k v) × IsTrue (starts_in I k v))

-- the value of a term, whether a formula is true, and whether a value is in a descriptor
abbrev pub value : Interpretation → Valuation → Term → Val
value I w t = value_where (starts_in I) w t

abbrev pub holds : Interpretation → Valuation → Term → Bool
holds I w f = truth (value I w f)

abbrev pub member : Interpretation → Valuation → Desc → Val → Bool
member I w d v = member_where (lies_in I) (starts_in I) d w v

abbrev pub starts : Interpretation → Valuation → Desc → Val → Bool
starts I w d v = starts_where (starts_in I) d w v
