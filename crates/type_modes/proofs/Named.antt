-- Entries by their names, and what the names of a body mean, part by part.
use Rattle.std.proofs.Common.{◌≡◌, ◌∙◌, ℕ, true, false, cond, List, [], ◌∷◌, ◌++◌, map, Option, None, Some, refl, ap, sym}
use Rattle.std.proofs.lemmas.List.Folds.{list_all-map}
use Rattle.std.specs.List.{find, list_all}
use Rattle.std.specs.Option.{option_map, option_map_or, option_or}
use Rattle.std.specs.Str.{bytes_eq}
use Rattle.res_ast.specs.declared.component.Component.{Component}
use Rattle.res_ast.specs.declared.heading.Param.{Param}
use Rattle.res_ast.specs.declared.heading.PType.{PType}
use Rattle.res_ast.specs.declared.procedure.Procedure.{Procedure}
use Rattle.res_ast.specs.declared.procedure.Rep.{Rep}
use Rattle.type_rules.specs.Origins.{Origin, Scope, origin}
use Rattle.type_modes.specs.Places.{Holder, Spot, field_types, holder, holders, lists, named, result_holder}
use Rattle.type_modes.specs.working.Found.{own_named, param_named, result_named}

pub named_of : {X A : Type 0} (n : X → List ℕ) (h : X → A) (xs : List X) (name : List ℕ)
    → named (map (λ x. (n x, h x)) xs) name ≡ option_map h (find (λ x. bytes_eq name (n x)) xs)
named_of n h [] name = refl
named_of {X} {A} n h (x ∷ xs) name =
    elim (bytes_eq name (n x)) as (λ b. option_map (λ (e : List ℕ × A). e.1) (cond b (Some (n x, h x)) (find (λ (e : List ℕ × A). bytes_eq name e.0) (map (λ y. (n y, h y)) xs))) ≡ option_map h (cond b (Some x) (find (λ y. bytes_eq name (n y)) xs))) [
      | true ↦ refl
      | false ↦ named_of n h xs name
    ]

pub named_append : {A : Type 0} (xs ys : List (List ℕ × A)) (name : List ℕ) → named (xs ++ ys) name ≡ option_or (named xs name) (named ys name)
named_append [] ys name = refl
named_append {A} (x ∷ xs) ys name =
    elim (bytes_eq name x.0) as (λ b. option_map (λ (e : List ℕ × A). e.1) (cond b (Some x) (find (λ (e : List ℕ × A). bytes_eq name e.0) (xs ++ ys))) ≡ option_or (option_map (λ (e : List ℕ × A). e.1) (cond b (Some x) (find (λ (e : List ℕ × A). bytes_eq name e.0) xs))) (named ys name)) [
      | true ↦ refl
      | false ↦ named_append xs ys name
    ]

map_map : {A B C : Type 0} (g : B → C) (f : A → B) (o : Option A) → option_map g (option_map f o) ≡ option_map (λ x. g (f x)) o
map_map g f None = refl
map_map g f (Some x) = refl

map_or : {A B : Type 0} (f : A → B) (o p : Option A) → option_map f (option_or o p) ≡ option_or (option_map f o) (option_map f p)
map_or f None p = refl
map_or f (Some x) p = refl

or_assoc : {A : Type 0} (o p q : Option A) → option_or (option_or o p) q ≡ option_or o (option_or p q)
or_assoc None p q = refl
or_assoc (Some x) p q = refl

-- entries with types of the text
pub typed_of : {A : Type 0} (f : PType → A) (xs : List (List ℕ × PType)) (name : List ℕ) → named (map (λ e. (e.0, f e.1)) xs) name ≡ option_map f (named xs name)
typed_of f xs name =
    named_of (λ (e : List ℕ × PType). e.0) (λ (e : List ℕ × PType). f e.1) xs name
    ∙ sym (map_map f (λ (e : List ℕ × PType). e.1) (find (λ (e : List ℕ × PType). bytes_eq name e.0) xs))

result_of : {A : Type 0} (g : PType → A) (n name : List ℕ) (o : Option PType)
    → named (option_map_or (λ t. (n, g t) ∷ []) o []) name ≡ option_map g (cond (bytes_eq name n) o None)
result_of g n name None = elim (bytes_eq name n) as (λ b. None ≡ option_map g (cond b None None)) [ true ↦ refl | false ↦ refl ]
result_of {A} g n name (Some t) =
    elim (bytes_eq name n) as (λ b. option_map (λ (e : List ℕ × A). e.1) (cond b (Some (n, g t)) None) ≡ option_map g (cond b (Some t) None)) [ true ↦ refl | false ↦ refl ]

-- the first parameter of a name, or else the result or the variable
pub holder_of : (table : List Component) (s : Scope) (p : Procedure) (name : List ℕ)
    → named (holders table s p) name
    ≡ option_or (option_map (λ q. holder (Some q.mode) (origin table s q.ptype)) (param_named p.heading.params name)) (option_map (λ t. holder None (origin table s t)) (own_named p name))
holder_of table s p name =
    let own : PType → Holder = λ t. holder None (origin table s t) in
    let of_param : Param → Holder = λ q. holder (Some q.mode) (origin table s q.ptype) in
    let params : List (List ℕ × Holder) = map (λ q. (q.name, of_param q)) p.heading.params in
    let vars : List (List ℕ × Holder) = map (λ v. (v.0, own v.1)) p.vars in
    let result : List (List ℕ × Holder) = result_holder table s p.heading in
    named_append (params ++ result) vars name
    ∙ ap (λ o. option_or o (named vars name)) (named_append params result name)
    ∙ or_assoc (named params name) (named result name) (named vars name)
    ∙ ap (λ o. option_or o (option_or (named result name) (named vars name))) (named_of (λ (q : Param). q.name) of_param p.heading.params name)
    ∙ ap (λ o. option_or (option_map of_param (param_named p.heading.params name)) (option_or o (named vars name))) (result_of own p.heading.name name p.heading.result)
    ∙ ap (λ o. option_or (option_map of_param (param_named p.heading.params name)) (option_or (option_map own (result_named p.heading name)) o)) (typed_of own p.vars name)
    ∙ ap (option_or (option_map of_param (param_named p.heading.params name))) (sym (map_or own (result_named p.heading name) (named p.vars name)))

pub field_named : (table : List Component) (s : Scope) (rep : Rep) (name : List ℕ) → named (field_types table s rep) name ≡ option_map (origin table s) (named rep.fields name)
field_named table s rep name = typed_of (origin table s) rep.fields name

pub fields_listed : (table : List Component) (s : Scope) (rep : Rep) (listed : List Spot) (name : List ℕ)
    → list_all (λ f. lists listed (name, Some f.0)) (field_types table s rep) ≡ list_all (λ f. lists listed (name, Some f.0)) rep.fields
fields_listed table s rep listed name =
    list_all-map (λ (f : List ℕ × Option Origin). lists listed (name, Some f.0)) (λ (f : List ℕ × PType). (f.0, origin table s f.1)) rep.fields
