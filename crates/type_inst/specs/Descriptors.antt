-- What the values of a type are, as a descriptor.
use Rattle.std.specs.Prelude.{ℕ, ◌+◌, ◌-◌, Bool, true, false, ◌&&◌, if◌then◌else◌, List, [], ◌∷◌, ◌++◌, length, take, drop, map, Option, Some, None, option_and_then, slice_get}
use Rattle.std.specs.List.{flat_map}
use Rattle.std.specs.Option.{option_map, option_map_or}
use Rattle.std.specs.Str.{bytes_eq}
use Rattle.math_terms.specs.declared.descriptor.Desc.{Desc}
use Rattle.math_terms.specs.declared.descriptor.Shape.{Shape}
use Rattle.math_terms.specs.declared.descriptor.Shape.TheOpen.{Shape-F}
use Rattle.math_terms.specs.declared.descriptor.Shape.TheViews.{out-Desc, roll-Desc, roll-Shape}
use Rattle.math_terms.specs.declared.term.Term.{Term}
use Rattle.math_terms.specs.declared.term.Term.TheOpen.{Term-F}
use Rattle.math_terms.specs.declared.term.Term.TheViews.{out-Term, roll-Term}
use Rattle.math_terms.specs.Filling.{filled}
use Rattle.res_ast.specs.declared.expression.Expr.{Expr}
use Rattle.res_ast.specs.declared.model.Family.{Family}
use Rattle.res_ast.specs.declared.model.MPart.{MPart}
use Rattle.res_ast.specs.declared.model.MPart.TheVariants as part
use Rattle.type_inst.specs.declared.assertion.Meaning.{Meaning}
use Rattle.type_inst.specs.declared.types.BoundFamily.{BoundFamily}
use Rattle.type_inst.specs.declared.types.FormalArg.{FormalArg}
use Rattle.type_inst.specs.declared.types.FormalArg.TheVariants as given
use Rattle.type_inst.specs.declared.types.TypeInst.{TypeInst}
use Rattle.type_inst.specs.declared.types.TypeInst.TheOpen.{TypeInst-F}
use Rattle.type_inst.specs.declared.types.TypeInst.TheFolds.{fold-TypeInst}
use Rattle.type_inst.specs.Assertions.{assertion, names_in, number_in, zero_term}

-- ---- terms

-- the described value
abbrev pub value : Term
value = roll-Term (Term-F.Var 0)

abbrev pub true_formula : Term
true_formula = roll-Term (Term-F.Truth true)

abbrev pub equal : Term → Term → Term
equal a b = roll-Term (Term-F.Eq a b)

abbrev pub at_most : Term → Term → Term
at_most a b = roll-Term (Term-F.LessEq a b)

abbrev pub both : Term → Term → Term
both a b = roll-Term (Term-F.And a b)

-- ---- types without a family

abbrev pub described : Shape → Term → Term → Desc
described shape constraint initial = roll-Desc (record { shape = shape; constraint = constraint; initial = initial })

-- Integers are the numbers of 64 bits, and begin as 0.
abbrev pub integer : Desc
integer = described (roll-Shape Shape-F.Z) (both (at_most (roll-Term Term-F.MinInt) value) (at_most value (roll-Term Term-F.MaxInt))) (equal value zero_term)

abbrev pub boolean : Desc
boolean = described (roll-Shape Shape-F.B) true_formula (equal value (roll-Term (Term-F.Truth false)))

-- A stream is a string of integers, and begins empty.
abbrev pub stream : Desc
stream = described (roll-Shape (Shape-F.Str integer)) true_formula (equal value (roll-Term Term-F.Empty))

-- An array is a string of its size.
abbrev pub sized : Term → Term
sized size = equal (roll-Term (Term-F.Len value)) size

abbrev pub array : Desc → Term → Desc
array entry size = described (roll-Shape (Shape-F.Str entry)) (sized size) (sized size)

abbrev pub parameter : ℕ → Desc
parameter k = described (roll-Shape (Shape-F.Param k)) true_formula (roll-Term (Term-F.Initial k value))

-- A type, where each family has a descriptor.
abbrev pub type_step : (List (List ℕ) → Desc) → TypeInst-F Desc → Desc
type_step family TypeInst-F.Integer = integer
type_step family TypeInst-F.Boolean = boolean
type_step family TypeInst-F.In = stream
type_step family TypeInst-F.Out = stream
type_step family (TypeInst-F.Array entry size) = array entry size
type_step family (TypeInst-F.Family path) = family path
type_step family (TypeInst-F.Param k) = parameter k

abbrev pub desc_with : (List (List ℕ) → Desc) → TypeInst → Desc
desc_with family t = fold-TypeInst Desc (type_step family) t

-- ---- models

abbrev pub plain : Shape → Desc
plain shape = described shape true_formula true_formula

-- the last of the models that are finished; one that is missing counts as Integer
abbrev pub top : List Desc → Desc
top [] = integer
top (d ∷ []) = d
top (d ∷ e ∷ ds) = top (e ∷ ds)

-- a type formal is what is given for it, and any other name counts as Integer
abbrev pub or_integer : Option Desc → Desc
or_integer None = integer
or_integer (Some d) = d

abbrev pub formal : List (List ℕ × ℕ) → List Desc → List ℕ → Desc
formal types descs name = or_integer (option_and_then (slice_get descs) (number_in types name))

-- A part of a model takes so many of the models that are finished, the last ones, and leaves the one that it makes of them.
abbrev pub takes : MPart → ℕ
takes part.Z = 0
takes part.B = 0
takes part.Str = 1
takes (part.Prod names) = length names
takes (part.Param name) = 0

abbrev pub made : List (List ℕ × ℕ) → List Desc → MPart → List Desc → Desc
made types descs part.Z taken = plain (roll-Shape Shape-F.Z)
made types descs part.B taken = plain (roll-Shape Shape-F.B)
made types descs part.Str taken = plain (roll-Shape (Shape-F.Str (top taken)))
made types descs (part.Prod names) taken = plain (roll-Shape (Shape-F.Tup taken))
made types descs (part.Param name) taken = formal types descs name

abbrev pub model_step : List (List ℕ × ℕ) → List Desc → MPart → List Desc → List Desc
model_step types descs p stack =
    let kept : ℕ = length stack - takes p in
    take kept stack ++ made types descs p (drop kept stack) ∷ []

abbrev pub finished : List (List ℕ × ℕ) → List Desc → List MPart → List Desc → List Desc
finished types descs [] stack = stack
finished types descs (p ∷ ps) stack = finished types descs ps (model_step types descs p stack)

abbrev pub model : List (List ℕ × ℕ) → List Desc → List MPart → Desc
model types descs parts = top (finished types descs parts [])

-- ---- the formals of a family

abbrev pub Formals : Type 0
Formals = List (List ℕ × FormalArg)

-- the lists that the elements give, one behind the other, where some elements have numbers, from k on
abbrev pub listed : {A B : Type 0} → (ℕ → A → List B) → (A → ℕ) → ℕ → List A → List B
listed entry counts k [] = []
listed entry counts k (x ∷ xs) = entry k x ++ listed entry counts (k + counts x) xs

-- the type formals with their numbers, and what is given for them
abbrev pub type_count : FormalArg → ℕ
type_count (given.Type t) = 1
type_count (given.Number n) = 0

abbrev pub type_entry : ℕ → List ℕ → FormalArg → List (List ℕ × ℕ)
type_entry k name (given.Type t) = (name, k) ∷ []
type_entry k name (given.Number n) = []

abbrev pub types_from : ℕ → Formals → List (List ℕ × ℕ)
types_from k fs = listed (λ k p. type_entry k p.0 p.1) (λ p. type_count p.1) k fs

abbrev pub given_type : FormalArg → List TypeInst
given_type (given.Type t) = t ∷ []
given_type (given.Number n) = []

abbrev pub given_types : Formals → List TypeInst
given_types fs = flat_map (λ p. given_type p.1) fs

-- the Integer formals, each as the variable of its number, counted from 1, and what is given for them
abbrev pub whole : List ℕ → Term → Meaning
whole name t = record { old = false; name = name; part = None; term = t }

abbrev pub number_count : FormalArg → ℕ
number_count (given.Type t) = 0
number_count (given.Number n) = 1

abbrev pub number_entry : ℕ → List ℕ → FormalArg → List Meaning
number_entry k name (given.Type t) = []
number_entry k name (given.Number n) = whole name (roll-Term (Term-F.Var k)) ∷ []

abbrev pub numbers_from : ℕ → Formals → List Meaning
numbers_from k fs = listed (λ k p. number_entry k p.0 p.1) (λ p. number_count p.1) k fs

abbrev pub given_number : FormalArg → List Term
given_number (given.Type t) = []
given_number (given.Number n) = n ∷ []

abbrev pub given_numbers : Formals → List Term
given_numbers fs = flat_map (λ p. given_number p.1) fs

-- ---- the exemplar

-- The exemplar is the described value; where the model is a product it has the parts of that.
abbrev pub names_of : MPart → List (List ℕ)
names_of (part.Prod names) = names
names_of p = []

abbrev pub part_names : List MPart → List (List ℕ)
part_names parts = option_map_or names_of (slice_get parts (length parts - 1)) []

abbrev pub part_of : List ℕ → List ℕ → ℕ → Meaning
part_of name part k = record { old = false; name = name; part = Some part; term = roll-Term (Term-F.Proj k value) }

abbrev pub parts_from : List ℕ → ℕ → List (List ℕ) → List Meaning
parts_from name k ps = listed (λ k p. part_of name p k ∷ []) (λ p. 1) k ps

abbrev pub meanings : Family → Formals → List Meaning
meanings f formals = whole f.exemplar value ∷ parts_from f.exemplar 0 (part_names f.model.parts) ++ numbers_from 1 formals

-- ---- families

-- A clause of a family, about the described value, with what is given for the formals.
abbrev pub clause : BoundFamily → List Desc → Expr → Term
clause f descs e = filled (given_numbers f.formals) descs (assertion (names_in (meanings f.family f.formals) (types_from 0 f.formals)) e)

-- Two constraints, of which `true` says nothing.
abbrev pub is_true : Term-F Term → Bool
is_true (Term-F.Truth b) = b
is_true x = false

abbrev pub joined : Term → Option Term → Term
joined a None = a
joined a (Some b) = if is_true (out-Term a) then b else if is_true (out-Term b) then a else both a b

-- A family's own constraint joins that of its model, which is not `true` where the model is a type formal.
abbrev pub with_clauses : Desc → Option Term → Term → Desc
with_clauses d constraint initial = described (out-Desc d).shape (joined (out-Desc d).constraint constraint) initial

abbrev pub bound : List Desc → BoundFamily → Desc
bound descs f =
    with_clauses (model (types_from 0 f.formals) descs f.family.model.parts) (option_map (clause f descs) f.family.constraint) (clause f descs f.family.initial)

abbrev pub same_path : List (List ℕ) → List (List ℕ) → Bool
same_path [] [] = true
same_path [] (y ∷ ys) = false
same_path (x ∷ xs) [] = false
same_path (x ∷ xs) (y ∷ ys) = bytes_eq x y && same_path xs ys

-- The first family of a path among those of which the descriptors are known; one that is not known counts as Integer.
abbrev pub among : List BoundFamily → List Desc → List (List ℕ) → Desc
among [] ds path = integer
among (f ∷ fs) [] path = integer
among (f ∷ fs) (d ∷ ds) path = if same_path f.path path then d else among fs ds path

-- Each family stands on those before it.
abbrev pub bound_after : List BoundFamily → List Desc → BoundFamily → Desc
bound_after families known f = bound (map (desc_with (among families known)) (given_types f.formals)) f

abbrev pub known_from : List BoundFamily → List Desc → List BoundFamily → List Desc
known_from families known [] = known
known_from families known (f ∷ fs) = known_from families (known ++ bound_after families known f ∷ []) fs

abbrev pub desc : List BoundFamily → TypeInst → Desc
desc families t = desc_with (among families (known_from families [] families)) t
