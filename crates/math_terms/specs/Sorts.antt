-- The sorts of terms, by the rules of the node.
use Rattle.std.specs.Prelude.{◌≡◌, ℕ, zero, suc, ◌==◌, Bool, true, false, List, [], ◌∷◌, ◌++◌, Option, Some, None, is_none, option_and_then, slice_get, if◌then◌else◌}
use Rattle.std.specs.List.{flat_map, position_from}
use Rattle.math_terms.specs.declared.descriptor.Sort.{Sort}
use Rattle.math_terms.specs.declared.descriptor.Sort.TheOpen.{Sort-F}
use Rattle.math_terms.specs.declared.descriptor.Sort.TheFolds.{fold-Sort}
use Rattle.math_terms.specs.declared.descriptor.Sort.TheViews.{roll-Sort, out-Sort}
use Rattle.math_terms.specs.declared.name.TermError.{TermError}
use Rattle.math_terms.specs.declared.name.TermError.TheVariants.{TooLarge, SortClash, NoMemory}
use Rattle.math_terms.specs.declared.term.Term.{Term}
use Rattle.math_terms.specs.declared.term.Term.TheOpen.{Term-F}
use Rattle.math_terms.specs.declared.term.Term.TheFolds.{fold-Term, map-Term}
use Rattle.math_terms.specs.Heads.{children}

abbrev pub z : Sort
z = roll-Sort Sort-F.Z

abbrev pub b : Sort
b = roll-Sort Sort-F.B

abbrev pub any : Sort
any = roll-Sort Sort-F.Any

abbrev pub str : Sort → Sort
str s = roll-Sort (Sort-F.Str s)

abbrev pub tup : List Sort → Sort
tup ss = roll-Sort (Sort-F.Tup ss)

abbrev pub param : ℕ → Sort
param k = roll-Sort (Sort-F.Param k)

-- the option of a list, where each has a value
abbrev pub both_sorts : Option Sort → Option (List Sort) → Option (List Sort)
both_sorts None ts = None
both_sorts (Some t) None = None
both_sorts (Some t) (Some ts) = Some (t ∷ ts)

abbrev pub all_sorts : List (Option Sort) → Option (List Sort)
all_sorts [] = Some []
all_sorts (s ∷ ss) = both_sorts s (all_sorts ss)

abbrev pub mapped : (Sort → Sort) → Option Sort → Option Sort
mapped f None = None
mapped f (Some s) = Some (f s)

-- a sort, and what it gives where it meets another
abbrev pub Meeting : Type 0
Meeting = Sort × (Sort → Option Sort)

abbrev pub meets : List Meeting → List Sort → Option (List Sort)
meets [] [] = Some []
meets [] (s ∷ ss) = None
meets (m ∷ ms) [] = None
meets (m ∷ ms) (s ∷ ss) = both_sorts (m.1 s) (meets ms ss)

abbrev pub sorts_of : List Meeting → List Sort
sorts_of [] = []
sorts_of (m ∷ ms) = m.0 ∷ sorts_of ms

abbrev pub tuple_option : Option (List Sort) → Option Sort
tuple_option None = None
tuple_option (Some ss) = Some (tup ss)

-- what a sort gives where it meets another one: `Any` gives the other, two of one form the form of the meets of their parts
abbrev pub meet_z : Sort-F Sort → Option Sort
meet_z Sort-F.Z = Some z
meet_z Sort-F.Any = Some z
meet_z x = None

abbrev pub meet_b : Sort-F Sort → Option Sort
meet_b Sort-F.B = Some b
meet_b Sort-F.Any = Some b
meet_b x = None

abbrev pub meet_str : Meeting → Sort-F Sort → Option Sort
meet_str m (Sort-F.Str s) = mapped str (m.1 s)
meet_str m Sort-F.Any = Some (str m.0)
meet_str m x = None

abbrev pub meet_tup : List Meeting → Sort-F Sort → Option Sort
meet_tup ms (Sort-F.Tup ss) = tuple_option (meets ms ss)
meet_tup ms Sort-F.Any = Some (tup (sorts_of ms))
meet_tup ms x = None

abbrev pub meet_param : ℕ → Sort-F Sort → Option Sort
meet_param k (Sort-F.Param j) = if k == j then Some (param k) else None
meet_param k Sort-F.Any = Some (param k)
meet_param k x = None

abbrev pub meeting_step : Sort-F Meeting → Meeting
meeting_step Sort-F.Z = (z, λ t. meet_z (out-Sort t))
meeting_step Sort-F.B = (b, λ t. meet_b (out-Sort t))
meeting_step (Sort-F.Str m) = (str m.0, λ t. meet_str m (out-Sort t))
meeting_step (Sort-F.Tup ms) = (tup (sorts_of ms), λ t. meet_tup ms (out-Sort t))
meeting_step (Sort-F.Param k) = (param k, λ t. meet_param k (out-Sort t))
meeting_step Sort-F.Any = (any, λ t. Some t)

abbrev pub meet : Sort → Sort → Option Sort
meet s t = (fold-Sort Meeting meeting_step s).1 t

-- the meets at each place of two lists that are as long as each other
abbrev pub meet_all : List Sort → List Sort → Option (List Sort)
meet_all [] [] = Some []
meet_all [] (t ∷ ts) = None
meet_all (s ∷ ss) [] = None
meet_all (s ∷ ss) (t ∷ ts) = both_sorts (meet s t) (meet_all ss ts)

-- `Any` counts neither as Z nor as B nor as a string where a node takes one.
abbrev pub z_form : Sort-F Sort → Bool
z_form Sort-F.Z = true
z_form x = false

abbrev pub b_form : Sort-F Sort → Bool
b_form Sort-F.B = true
b_form x = false

abbrev pub str_form : Sort-F Sort → Bool
str_form (Sort-F.Str s) = true
str_form x = false

abbrev pub is_z : Sort → Bool
is_z s = z_form (out-Sort s)

abbrev pub is_b : Sort → Bool
is_b s = b_form (out-Sort s)

abbrev pub is_str : Sort → Bool
is_str s = str_form (out-Sort s)

-- What a node gives whose children pass a test, and nothing where one of them has no sort or does not pass.
abbrev pub given : (Sort → Bool) → Sort → Option Sort → Option Sort
given test result None = None
given test result (Some s) = if test s then Some result else None

abbrev pub kept : (Sort → Bool) → Option Sort → Option Sort
kept test None = None
kept test (Some s) = if test s then Some s else None

abbrev pub given_two : (Sort → Bool) → Sort → Option Sort → Option Sort → Option Sort
given_two test result a None = None
given_two test result a (Some t) = if test t then given test result a else None

abbrev pub meeting : Option Sort → Option Sort → Option Sort
meeting None t = None
meeting (Some s) None = None
meeting (Some s) (Some t) = meet s t

abbrev pub as_b : Option Sort → Option Sort
as_b None = None
as_b (Some s) = Some b

-- part k of a product
abbrev pub part_form : ℕ → Sort-F Sort → Option Sort
part_form k (Sort-F.Tup ss) = slice_get ss k
part_form k x = None

abbrev pub part_of : ℕ → Option Sort → Option Sort
part_of k None = None
part_of k (Some s) = part_form k (out-Sort s)

-- the sort of a variable, those of the sequent numbered from 1
abbrev pub sort_of_var : List Sort → ℕ → Option Sort
sort_of_var vars zero = None
sort_of_var vars (suc k) = slice_get vars k

-- the sort of a node, from those of its children
abbrev pub sort_step : List Sort → Term-F (Option Sort) → Option Sort
sort_step vars (Term-F.Num n) = Some z
sort_step vars (Term-F.Truth x) = Some b
sort_step vars Term-F.MinInt = Some z
sort_step vars Term-F.MaxInt = Some z
sort_step vars (Term-F.Var k) = sort_of_var vars k
sort_step vars (Term-F.Add x y) = given_two is_z z x y
sort_step vars (Term-F.Sub x y) = given_two is_z z x y
sort_step vars (Term-F.Mul x y) = given_two is_z z x y
sort_step vars (Term-F.Div x y) = given_two is_z z x y
sort_step vars (Term-F.Mod x y) = given_two is_z z x y
sort_step vars (Term-F.Len x) = given is_str z x
sort_step vars Term-F.Empty = Some (str any)
sort_step vars (Term-F.Single x) = mapped str x
sort_step vars (Term-F.Cat x y) = meeting (kept is_str x) (kept is_str y)
sort_step vars (Term-F.Reverse x) = kept is_str x
sort_step vars (Term-F.Part i j x) = option_and_then (λ n. kept is_str x) (given_two is_z z i j)
sort_step vars (Term-F.Tuple xs) = tuple_option (all_sorts xs)
sort_step vars (Term-F.Proj k x) = part_of k x
sort_step vars (Term-F.Eq x y) = as_b (meeting x y)
sort_step vars (Term-F.Less x y) = given_two is_z b x y
sort_step vars (Term-F.LessEq x y) = given_two is_z b x y
sort_step vars (Term-F.Not x) = given is_b b x
sort_step vars (Term-F.And x y) = given_two is_b b x y
sort_step vars (Term-F.Or x y) = given_two is_b b x y
sort_step vars (Term-F.Implies x y) = given_two is_b b x y
sort_step vars (Term-F.Initial k x) = as_b (meeting x (Some (param k)))

-- the sort of a term, where it has one
abbrev pub sort : List Sort → Term → Option Sort
sort vars t = fold-Term (Option Sort) (sort_step vars) t

-- A term's sort, and the sorts of its nodes in post-order: those of the parts from the left, then its own.
abbrev pub Sorting : Type 0
Sorting = Option Sort × List (Option Sort)

abbrev pub orders : List Sorting → List (Option Sort)
orders ps = flat_map (λ p. p.1) ps

abbrev pub sorting_step : List Sort → Term-F Sorting → Sorting
sorting_step vars x =
    let s : Option Sort = sort_step vars (map-Term Sorting (Option Sort) (λ p. p.0) x) in
    (s, orders (children x) ++ s ∷ [])

abbrev pub sorting : List Sort → Term → Sorting
sorting vars t = fold-Term Sorting (sorting_step vars) t

abbrev pub sorts_in_order : List Sort → Term → List (Option Sort)
sorts_in_order vars t = (sorting vars t).1

-- the number of the first node in post-order without a sort, counted from 0
abbrev pub first_without : List Sort → Term → Option ℕ
first_without vars t = position_from is_none 0 (sorts_in_order vars t)

-- Why a term gets no sort: this node is the first without one, or memory has run out.
abbrev pub IsSortRefusal : List Sort → Term → TermError → Type 0
IsSortRefusal vars t TooLarge = ⊥
IsSortRefusal vars t (SortClash node) = first_without vars t ≡ Some node
IsSortRefusal vars t NoMemory = Unit {0}
