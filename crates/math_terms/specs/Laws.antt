-- Laws of the definitions, each proved as the contract of a function of its own.
use Rattle.std.specs.Prelude.{◌≡◌, ℕ, ◌↔◌, Bool, true, List, Some, map, slice_get, IsTrue}
use Rattle.math_terms.specs.declared.term.Term.{Term}
use Rattle.math_terms.specs.declared.descriptor.Sort.{Sort}
use Rattle.math_terms.specs.declared.descriptor.Desc.{Desc}
use Rattle.math_terms.specs.declared.descriptor.Shape.TheViews.{out-Desc}
use Rattle.math_terms.specs.Values.{Val, same, is_number, is_string, is_truth}
use Rattle.math_terms.specs.Heads.{same_term}
use Rattle.math_terms.specs.Terms.{put}
use Rattle.math_terms.specs.Positions.{numbered}
use Rattle.math_terms.specs.Filling.{AreFormulas, filled, filled_starts, filled_valuation}
use Rattle.math_terms.specs.Meaning.{Valuation, set_to, value_where}
use Rattle.math_terms.specs.Descriptors.{Interpretation, IsInterpretation, holds, starts_in, value}
use Rattle.math_terms.specs.Validity.{lies_from}
use Rattle.math_terms.specs.Sorts.{z, b, is_str, sort}
use Rattle.math_terms.specs.Kinds.{forget, kind, sort_of_desc}
use Rattle.math_terms.specs.Kinding.{HasKind, HasKindAsking, IsFormula, valued}

-- The value of a term with `by` in place of variable v is its value where v has the value of `by`.
abbrev pub SubstitutionKeepsValues : Type 0
SubstitutionKeepsValues =
    (v : ℕ) (by t : Term) (I : Interpretation) (w : Valuation) → value I w (put v by t) ≡ value I (set_to v (value I w by) w) t

-- Two values are equal exactly where they are the same.
abbrev pub EqualityIsSameness : Type 0
EqualityIsSameness = (u v : Val) → (same u v ≡ true) ↔ (u ≡ v)

-- Two terms are equal exactly where they are the same, node by node.
abbrev pub SameTermsAreEqual : Type 0
SameTermsAreEqual = (t u : Term) → (same_term t u ≡ true) ↔ (t ≡ u)

-- Where the variables lie in their descriptors, a term of the kind of numbers has a number as its value, and one of
-- the kind of truth values a truth value.
abbrev pub ValuesHaveKinds : Type 0
ValuesHaveKinds =
    (params : ℕ) (I : Interpretation) → IsInterpretation params I → (w : Valuation) (descs : List Desc) → IsTrue (lies_from I w 1 descs) → (t : Term) →
    (kind (map sort_of_desc descs) t ≡ z → is_number (value I w t) ≡ true) × (kind (map sort_of_desc descs) t ≡ b → is_truth (value I w t) ≡ true)

-- There a term of the kind of strings has a string as its value.
abbrev pub StringsHaveKinds : Type 0
StringsHaveKinds =
    (params : ℕ) (I : Interpretation) → IsInterpretation params I → (w : Valuation) (descs : List Desc) → IsTrue (lies_from I w 1 descs) → (t : Term) →
    is_str (kind (map sort_of_desc descs) t) ≡ true → is_string (value I w t) ≡ true

-- A term that has a sort has the kind of that sort.
abbrev pub SortsHaveKinds : Type 0
SortsHaveKinds = (vars : List Sort) (t : Term) (s : Sort) → sort vars t ≡ Some s → kind vars t ≡ forget s

-- A formula of the sort of truth values is well-valued wherever the variables lie in their descriptors.
abbrev pub SortedAreWell : Type 0
SortedAreWell =
    (params : ℕ) (I : Interpretation) → IsInterpretation params I → (w : Valuation) (descs : List Desc) → IsTrue (lies_from I w 1 descs) →
    (f : Term) → sort (map sort_of_desc descs) f ≡ Some b → IsFormula I w f

-- Putting a term for a variable of its value keeps a formula well-valued, and its value.
abbrev pub SubstitutionKeepsKinds : Type 0
SubstitutionKeepsKinds =
    (I : Interpretation) (w : Valuation) (v : ℕ) (by f : Term) (s r : Sort) → HasKind I w by s → value I w by ≡ w v → HasKind I w f r → HasKind I w (put v by f) r × (value I w (put v by f) ≡ value I w f)

-- A filled term has the value of the term where each variable has the value of what is put for it, and that is initial for
-- a type parameter of which the descriptor's initial formula is true.
abbrev pub FillingKeepsValues : Type 0
FillingKeepsValues =
    (starts : ℕ → Val → Bool) (w : Valuation) (vars : List Term) (descs : List Desc) → AreFormulas starts w descs →
    (t : Term) → value_where starts w (filled vars descs t) ≡ value_where (filled_starts starts w descs) (filled_valuation starts w vars) t

-- The same for formulas, under an interpretation J that makes of each type parameter what I makes of its descriptor.
abbrev pub FillingKeepsTruth : Type 0
FillingKeepsTruth =
    (I J : Interpretation) (w : Valuation) (vars : List Term) (descs : List Desc) → AreFormulas (starts_in I) w descs →
    ((k : ℕ) (v : Val) → starts_in J k v ≡ filled_starts (starts_in I) w descs k v) →
    (f : Term) → holds I w (filled vars descs f) ≡ holds J (filled_valuation (starts_in I) w vars) f

-- Filling keeps a term well-valued, and its value, where what is put for the variables is well-valued and the initial
-- formulas are well-valued formulas about all values that the term asks of.
abbrev pub FillingKeepsKinds : Type 0
FillingKeepsKinds =
    (I J : Interpretation) (w : Valuation) (vars : List Term) (descs : List Desc) (test : ℕ → Val → Bool) →
    ((k : ℕ) (v : Val) → starts_in J k v ≡ filled_starts (starts_in I) w descs k v) →
    ((k : ℕ) (x : Term) → numbered k vars ≡ Some x → (valued I w x).1 ≡ true) →
    ((k : ℕ) (d : Desc) → slice_get descs k ≡ Some d → (v : Val) → test k v ≡ true → IsFormula I (set_to 0 v w) (out-Desc d).initial) →
    (t : Term) (s : Sort) → HasKindAsking test J (filled_valuation (starts_in I) w vars) t s →
    HasKind I w (filled vars descs t) s × (value I w (filled vars descs t) ≡ value J (filled_valuation (starts_in I) w vars) t)

-- Where each value passes, nothing more is asked of a term than that it is well-valued.
abbrev pub AllMayBeAsked : Type 0
AllMayBeAsked = (I : Interpretation) (w : Valuation) (t : Term) (s : Sort) → HasKind I w t s → HasKindAsking (λ k v. true) I w t s
