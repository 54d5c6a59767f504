-- Mathematical values: numbers without bound, truth values, strings and tuples of values.
use Rattle.std.specs.Prelude.{ℕ, ℤ, pos, int_lt, negsuc, Bool, true, false, not, ◌&&◌, List, [], ◌∷◌, take, drop, slice_index_or, if◌then◌else◌}
use Rattle.std.specs.Ordering.{int_eq}
use Rattle.std.specs.Int.{int_div_euclid, int_rem_euclid}
use Rattle.math_terms.specs.declared.value.Value.{Value}
use Rattle.math_terms.specs.declared.value.Value.TheOpen.{Value-F}
use Rattle.math_terms.specs.declared.value.Value.TheFolds.{fold-Value}

mutual
  pub data Val : Type 0 where
    Num : ℤ → Val
    Truth : Bool → Val
    Str : Vals → Val
    Tup : Vals → Val

  -- a list of values
  pub data Vals : Type 0 where
    none : Vals
    more : Val → Vals → Vals

abbrev pub vals_of : List Val → Vals
vals_of [] = none
vals_of (v ∷ vs) = more v (vals_of vs)

abbrev pub list_of : Vals → List Val
list_of none = []
list_of (more v vs) = v ∷ list_of vs

-- the string of these values, and their tuple
abbrev pub string : List Val → Val
string vs = Str (vals_of vs)

abbrev pub tuple : List Val → Val
tuple vs = Tup (vals_of vs)

-- What an argument counts as: another sort than the one asked for counts as 0, as false and as the empty string.
abbrev pub number : Val → ℤ
number (Num n) = n
number (Truth b) = pos 0
number (Str vs) = pos 0
number (Tup vs) = pos 0

abbrev pub truth : Val → Bool
truth (Num n) = false
truth (Truth b) = b
truth (Str vs) = false
truth (Tup vs) = false

abbrev pub entries : Val → List Val
entries (Num n) = []
entries (Truth b) = []
entries (Str vs) = list_of vs
entries (Tup vs) = []

abbrev pub parts : Val → List Val
parts (Num n) = []
parts (Truth b) = []
parts (Str vs) = []
parts (Tup vs) = list_of vs

-- of which kind a value is
abbrev pub is_number : Val → Bool
is_number (Num n) = true
is_number (Truth b) = false
is_number (Str vs) = false
is_number (Tup vs) = false

abbrev pub is_truth : Val → Bool
is_truth (Num n) = false
is_truth (Truth b) = true
is_truth (Str vs) = false
is_truth (Tup vs) = false

abbrev pub is_string : Val → Bool
is_string (Num n) = false
is_string (Truth b) = false
is_string (Str vs) = true
is_string (Tup vs) = false

-- Equality. Values of two kinds are not equal.
abbrev mutual
  pub same : Val → Val → Bool
  same (Num m) (Num n) = int_eq m n
  same (Num m) (Truth b) = false
  same (Num m) (Str vs) = false
  same (Num m) (Tup vs) = false
  same (Truth a) (Num n) = false
  same (Truth a) (Truth b) = if a then b else not b
  same (Truth a) (Str vs) = false
  same (Truth a) (Tup vs) = false
  same (Str us) (Num n) = false
  same (Str us) (Truth b) = false
  same (Str us) (Str vs) = same_all us vs
  same (Str us) (Tup vs) = false
  same (Tup us) (Num n) = false
  same (Tup us) (Truth b) = false
  same (Tup us) (Str vs) = false
  same (Tup us) (Tup vs) = same_all us vs

  pub same_all : Vals → Vals → Bool
  same_all none none = true
  same_all none (more v vs) = false
  same_all (more u us) none = false
  same_all (more u us) (more v vs) = same u v && same_all us vs

-- Euclidean for a positive divisor, and 0 otherwise
abbrev pub quotient : ℤ → ℤ → ℤ
quotient a b = if int_lt (pos 0) b then int_div_euclid a b else pos 0

abbrev pub remainder : ℤ → ℤ → ℤ
remainder a b = if int_lt (pos 0) b then int_rem_euclid a b else pos 0

-- a place in a list: a negative number is before the first
abbrev pub place : ℤ → ℕ
place (pos n) = n
place (negsuc n) = 0

-- the entries at the places k with i <= k < j, counted from 0
abbrev pub between : ℤ → ℤ → List Val → List Val
between i j vs = drop (place i) (take (place j) vs)

-- part k of a tuple, and 0 where there is none
abbrev pub projected : ℕ → Val → Val
projected k v = slice_index_or (parts v) k (Num (pos 0))

-- what a value of the code stands for
abbrev pub denotes_step : Value-F Val → Val
denotes_step (Value-F.Num n) = Num n
denotes_step (Value-F.Truth b) = Truth b
denotes_step (Value-F.Str vs) = string vs
denotes_step (Value-F.Tup vs) = tuple vs

abbrev pub denotes : Value → Val
denotes v = fold-Value Val denotes_step v
