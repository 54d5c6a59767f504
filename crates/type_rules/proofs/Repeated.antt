-- Names that come behind others, in two parts.
use Rattle.std.proofs.Common.{◌≡◌, ℕ, ◌+◌, ◌<◌, Bool, true, false, ◌||◌, ◌↔◌, arith, Bor, drop, get_or, length, List, [], ◌∷◌, ◌++◌, map, Option, sym, ap, ◌∙◌}
use Rattle.std.proofs.lemmas.List.{append_assoc, append-nil, at_drop_more, map-append}
use Rattle.std.specs.Str.{bytes_eq}
use Rattle.std.specs.Bool.{IsTrue}
use Rattle.std.proofs.lemmas.Slice.Eq.{bytes_eq-Decides}
use Rattle.std.proofs.lemmas.List.Sums.{fold-append}
use Rattle.std.proofs.lemmas.Simd.{map-map}
use Rattle.std.specs.List.{flat_map}
use Rattle.res_ast.specs.declared.component.Component.{Component}
use Rattle.res_ast.specs.declared.heading.Heading.{Heading}
use Rattle.res_ast.specs.declared.procedure.LocalOp.{LocalOp}
use Rattle.res_ast.specs.declared.procedure.Procedure.{Procedure}
use Rattle.type_rules.specs.declared.error.ModeError.{ModeError}
use Rattle.type_rules.specs.declared.error.ModeError.TheVariants.{OfType}
use Rattle.type_rules.specs.Breaches.{least_of, lesser, refuse}
use Rattle.type_rules.specs.Concepts.{enhancement_headings}
use Rattle.type_rules.specs.Names.{is_among, procedure_name, repeated}
use Rattle.type_rules.specs.working.Placed.{names_of, placed}

pub least_of_append : (o : Option ModeError) (xs ys : List ModeError) → least_of o (xs ++ ys) ≡ least_of (least_of o xs) ys
least_of_append o xs ys = fold-append lesser o xs ys

pub repeated_append : (before : List (List ℕ)) (xs ys : List (List ℕ × ℕ))
    → repeated before (xs ++ ys) ≡ repeated before xs ++ repeated (before ++ names_of xs) ys
repeated_append before [] ys = ap (λ b. repeated b ys) (sym (append-nil before))
repeated_append before (x ∷ xs) ys =
    let own = refuse (is_among x.0 before) (OfType x.1) in
    ap (λ r. own ++ r) (repeated_append (before ++ x.0 ∷ []) xs ys)
    ∙ sym (append_assoc own (repeated (before ++ x.0 ∷ []) xs) (repeated ((before ++ x.0 ∷ []) ++ names_of xs) ys))
    ∙ ap (λ b. (own ++ repeated (before ++ x.0 ∷ []) xs) ++ repeated b ys) (append_assoc before (x.0 ∷ []) (names_of xs))

pub least_of_repeated : (o : Option ModeError) (before : List (List ℕ)) (xs ys : List (List ℕ × ℕ))
    → least_of o (repeated before (xs ++ ys)) ≡ least_of (least_of o (repeated before xs)) (repeated (before ++ names_of xs) ys)
least_of_repeated o before xs ys =
    ap (least_of o) (repeated_append before xs ys) ∙ least_of_append o (repeated before xs) (repeated (before ++ names_of xs) ys)

-- Some names that are noted first, others then, and all of them.
pub repeated_then : (o l m : Option ModeError) (before now : List (List ℕ)) (xs ys : List (List ℕ × ℕ))
    → now ≡ before ++ names_of xs → l ≡ least_of o (repeated before xs) → m ≡ least_of l (repeated now ys) → m ≡ least_of o (repeated before (xs ++ ys))
repeated_then o l m before now xs ys names first second =
    second
    ∙ ap (λ r. least_of r (repeated now ys)) first
    ∙ ap (λ b. least_of (least_of o (repeated before xs)) (repeated b ys)) names
    ∙ sym (least_of_repeated o before xs ys)

pub names_then : (before now later : List (List ℕ)) (xs ys : List (List ℕ × ℕ))
    → now ≡ before ++ names_of xs → later ≡ now ++ names_of ys → later ≡ before ++ names_of (xs ++ ys)
names_then before now later xs ys first second =
    second
    ∙ ap (λ b. b ++ names_of ys) first
    ∙ append_assoc before (names_of xs) (names_of ys)
    ∙ ap (λ ns. before ++ ns) (sym (map-append (λ n. n.0) xs ys))

-- Some names that are noted in front of the rest.
pub repeated_first : (o l m : Option ModeError) (before now : List (List ℕ)) (all xs rest : List (List ℕ × ℕ))
    → all ≡ xs ++ rest → now ≡ before ++ names_of xs → m ≡ least_of l (repeated before xs) → least_of l (repeated before all) ≡ o → least_of m (repeated now rest) ≡ o
repeated_first o l m before now all xs rest split names noted so =
    ap (λ r. least_of r (repeated now rest)) noted
    ∙ ap (λ b. least_of (least_of l (repeated before xs)) (repeated b rest)) names
    ∙ sym (least_of_repeated l before xs rest)
    ∙ ap (λ ns. least_of l (repeated before ns)) (sym split)
    ∙ so

pub placed_append : (at : ℕ) (xs ys : List Heading) → placed at (xs ++ ys) ≡ placed at xs ++ placed at ys
placed_append at xs ys =
    let named : Heading → List ℕ × ℕ = λ h. (h.name, at) in
    map-append named xs ys

-- The operations of enhancements, each refused at one place: those of the first in front of the rest.
pub enhanced_first : (table : List Component) (at : ℕ) (pairs : List (List ℕ × List ℕ)) (i : ℕ) (own : List ℕ × List ℕ) → i < length pairs → own ≡ get_or pairs i own
    → placed at (flat_map (λ p. enhancement_headings table p.0) (drop i pairs))
    ≡ placed at (enhancement_headings table own.0) ++ placed at (flat_map (λ p. enhancement_headings table p.0) (drop (i + 1) pairs))
enhanced_first table at pairs i own below is =
    let given : List ℕ × List ℕ → List Heading = λ p. enhancement_headings table p.0 in
    at_drop_more (λ ps. placed at (flat_map given ps)) pairs i own below
    ∙ ap (λ p. placed at (given p ++ flat_map given (drop (i + 1) pairs))) (sym is)
    ∙ placed_append at (given own) (flat_map given (drop (i + 1) pairs))

-- the procedures of local operations, and others behind them
pub local_names : (locals : List LocalOp) → map procedure_name (map (λ l. l.procedure) locals) ≡ map (λ l. procedure_name l.procedure) locals
local_names locals = map-map procedure_name (λ l. l.procedure) locals

pub procedure_names : (locals : List LocalOp) (procs : List Procedure)
    → map procedure_name (map (λ l. l.procedure) locals ++ procs) ≡ map (λ l. procedure_name l.procedure) locals ++ map procedure_name procs
procedure_names locals procs =
    map-append procedure_name (map (λ l. l.procedure) locals) procs ∙ ap (λ ns. ns ++ map procedure_name procs) (local_names locals)

-- a search among names, by what is left of them
abbrev Left : List ℕ → List (Bor (List ℕ)) → Bool
Left name xs = is_among name (map (λ (x : Bor (List ℕ)). x.now) xs)

module _ (name : List ℕ) (all : List (List ℕ)) (xs : List (Bor (List ℕ))) (i : ℕ) (own : Bor (List ℕ)) (below : i < length xs) (is : own ≡ get_or xs i own)
    (so : is_among name all ≡ Left name (drop i xs)) where
  left : is_among name all ≡ (bytes_eq name own.now || Left name (drop (i + 1) xs))
  left = so ∙ at_drop_more (Left name) xs i own below ∙ ap (λ (x : Bor (List ℕ)). bytes_eq name x.now || Left name (drop (i + 1) xs)) (sym is)

  pub among_here : bytes_eq name own.now ≡ true → is_among name all ≡ true
  among_here same = left ∙ ap (λ b. b || Left name (drop (i + 1) xs)) same

  pub among_later : bytes_eq name own.now ≡ false → is_among name all ≡ Left name (drop (i + 1) xs)
  among_later other = left ∙ ap (λ b. b || Left name (drop (i + 1) xs)) other

-- a comparison of names that is told by their equality
pub told : (r : Bool) (a b : List ℕ) → (IsTrue r ↔ (a ≡ b)) → bytes_eq a b ≡ r
told r a b iff = grind (arith, bytes_eq-Decides a b, iff)
