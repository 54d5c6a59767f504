-- The components of a table, as the map has them under their names.
use Rattle.std.proofs.Common.{◌≡◌, ◌⊎◌, ℕ, zero, suc, Bool, true, false, cond, ◌||◌, List, [], ◌∷◌, ◌++◌, Option, None, Some, is_some, Result, Ok, Err, MatchResult, IfOk, IfErr, IfSome, OnOk, slice_get, Vec, Global, refl, sym, ap, subst, ◌∙◌, inl, inr, true≢false, if◌then◌else◌}
use Rattle.std.proofs.lemmas.List.{map_push}
use Rattle.std.specs.Map.{lookup, values_of}
use Rattle.std.specs.Str.{bytes_eq}
use Rattle.res_ast.specs.declared.component.Component.{Component}
use Rattle.module_table.specs.declared.error.NameError.{NameError}
use Rattle.module_table.specs.declared.error.NameError.TheVariants.{Duplicate, NoMemory}
use Rattle.module_table.specs.Tables.{name_of, held, is_array_template, is_taken, added}
use Rattle.module_table.specs.working.Keys.{KeyedByName}

-- a look-up by a name's bytes finds the component of that name
pub held-keyed : (name : List ℕ) (es : List (Vec ℕ Global × Component)) → KeyedByName es → lookup (λ k. bytes_eq name k.items) es ≡ held (values_of es) name
held-keyed name [] keyed = refl
held-keyed name (e ∷ es) keyed =
    ap (λ k. cond (bytes_eq name k) (Some e.1) (lookup (λ k. bytes_eq name k.items) es)) keyed.0
    ∙ ap (cond (bytes_eq name (name_of e.1)) (Some e.1)) (held-keyed name es keyed.1)

named-entry : (es : List (Vec ℕ Global × Component)) (i : ℕ) → KeyedByName es → IfSome (slice_get es i) (λ e. e.0.items ≡ name_of e.1)
named-entry [] i keyed = tt
named-entry (e ∷ es) zero keyed = keyed.0
named-entry (e ∷ es) (suc i) keyed = named-entry es i keyed.1

-- an entry that its key finds is found by its component's name
pub held-alone : (es : List (Vec ℕ Global × Component)) (table : List Component) (i : ℕ) (k : Vec ℕ Global) (c : Component) → KeyedByName es → values_of es ≡ table
    → slice_get es i ≡ Some (k, c) → lookup (λ other. bytes_eq k.items other.items) es ≡ Some c → held table (name_of c) ≡ Some c
held-alone es table i k c keyed view there found =
    let P : Option (Vec ℕ Global × Component) → Type 0 = λ o. IfSome o (λ e. e.0.items ≡ name_of e.1) in
    let named : k.items ≡ name_of c = subst P there (named-entry es i keyed) in
    ap (held table) (sym named) ∙ ap (λ t. held t k.items) (sym view) ∙ sym (held-keyed k.items es keyed) ∙ found

keyed-push : (es : List (Vec ℕ Global × Component)) (k : Vec ℕ Global) (c : Component) → KeyedByName es → k.items ≡ name_of c → KeyedByName (es ++ (k, c) ∷ [])
keyed-push [] k c keyed same = (same, tt)
keyed-push (e ∷ es) k c keyed same = (keyed.0, keyed-push es k c keyed.1 same)

not_held : (b : Bool) (found : Option Component) → (b || is_some found) ≡ false → found ≡ None
not_held true found free = absurd (true≢false free)
not_held false None free = refl
not_held false (Some c) free = absurd (true≢false free)

module _ (es : List (Vec ℕ Global × Component)) (table : List Component) (c : Component) (keyed : KeyedByName es) (view : values_of es ≡ table) where
  -- the key of a component that may come in, or why there is none
  abbrev IsKey : Result (Vec ℕ Global) NameError → Type 0
  IsKey key = MatchResult key (λ k. (k.items ≡ name_of c) × (is_taken table (name_of c) ≡ false)) (λ e. (e ≡ NoMemory) ⊎ (added table c ≡ Err e))

  pub absent : (key : Result (Vec ℕ Global) NameError) → IsKey key → IfOk key (λ k. lookup (λ other. bytes_eq k.items other.items) es ≡ None)
  absent (Ok k) h =
      ap (λ n. lookup (λ other. bytes_eq n other.items) es) h.0 ∙ held-keyed (name_of c) es keyed ∙ ap (λ t. held t (name_of c)) view
      ∙ not_held (is_array_template (name_of c)) (held table (name_of c)) h.1
  absent (Err e) h = tt

  module _ (later : List (Vec ℕ Global × Component)) {U : Type 0} where
    abbrev IsPut : Result (Vec ℕ Global) NameError → Result U NameError → Type 0
    IsPut key r = OnOk r (MatchResult key (λ k. later ≡ es ++ (k, c) ∷ []) (λ _. ⊥)) × IfErr r (λ e. (later ≡ es) × ((e ≡ NoMemory) ⊎ (key ≡ Err e)))

    pub keyed-put : (key : Result (Vec ℕ Global) NameError) (r : Result U NameError) → IsKey key → IsPut key r → KeyedByName later
    keyed-put (Ok k) (Ok u) h put = rw put.0 (keyed-push es k c keyed h.0)
    keyed-put (Err e) (Ok u) h put = absurd put.0
    keyed-put key (Err e) h put = rw put.1.0 keyed

    pub added-put : (key : Result (Vec ℕ Global) NameError) (r : Result U NameError) → IsKey key → IsPut key r
        → MatchResult r (λ _. added table c ≡ Ok (values_of later)) (λ e. (values_of later ≡ table) × ((e ≡ NoMemory) ⊎ (added table c ≡ Err e)))
    added-put (Ok k) (Ok u) h put =
        ap (λ b. if b then Err (Duplicate (name_of c)) else Ok (table ++ c ∷ [])) h.1
        ∙ ap Ok (sym (ap values_of put.0 ∙ map_push (λ e. e.1) es (k, c) ∙ ap (λ t. t ++ c ∷ []) view))
    added-put (Err e) (Ok u) h put = absurd put.0
    added-put key (Err e) h put = (ap values_of put.1.0 ∙ view, elim put.1.1 [ inl q ↦ inl q | inr q ↦ subst IsKey q h ])
