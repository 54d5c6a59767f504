-- The operation of a name through the first facility of a name, from what is looked up one after the other.
use Rattle.std.proofs.Common.{◌≡◌, ◌∙◌, ℕ, ◌<◌, true, List, get_or, length, take, Option, Some, option_and_then, refl, ap, sym}
use Rattle.std.proofs.lemmas.Option.{slice_get_read}
use Rattle.std.specs.List.{position, slice_get}
use Rattle.std.specs.Option.{option_map}
use Rattle.std.specs.Str.{bytes_eq}
use Rattle.res_ast.specs.declared.component.Component.{Component}
use Rattle.res_ast.specs.declared.component.Concept.{Concept}
use Rattle.res_ast.specs.declared.facility.FacDecl.{FacDecl}
use Rattle.type_rules.specs.Concepts.{declarations, own_concept}
use Rattle.type_rules.specs.Origins.{Scope, scope_in}
use Rattle.type_modes.specs.Signatures.{Called, Signature, behind_facility, called, facility_signature}

module _ (table : List Component) (c : Component) (facility name : List ℕ) where
  abbrev as_called : Option Signature → Option Called
  as_called o = option_map (λ s. called s true) o

  abbrev operation_at : List FacDecl → ℕ → FacDecl → Option Signature
  operation_at ds i d = facility_signature table (scope_in (own_concept table c) (take i ds)) d name

  abbrev operation_in : List FacDecl → Option ℕ → Option Called
  operation_in ds n = as_called (option_and_then (λ i. option_and_then (operation_at ds i) (slice_get ds i)) n)

  pub behind_is : (ds : List FacDecl) (i : ℕ) (d : FacDecl) (seen_table : List Component) (s : Scope) (k : Option Concept) (o : Option Signature)
      → ds ≡ declarations c → Some i ≡ position (λ e. bytes_eq facility e.name) ds → i < length ds → d ≡ get_or ds i d
      → k ≡ own_concept table c → s ≡ scope_in k (take i ds) → seen_table ≡ table → o ≡ facility_signature seen_table s d name
      → as_called o ≡ behind_facility table c facility name
  behind_is ds i d seen_table s k o own place below at concept front same is =
      let signature : o ≡ operation_at ds i d =
      is
      ∙ ap (λ t. facility_signature t s d name) same
      ∙ ap (λ r. facility_signature table r d name) (front ∙ ap (λ q. scope_in q (take i ds)) concept)
      in
      ap as_called (signature ∙ ap (option_and_then (operation_at ds i)) (sym (slice_get_read ds (length ds) i d refl below at)))
      ∙ ap (operation_in ds) place
      ∙ ap (λ xs. operation_in xs (position (λ e. bytes_eq facility e.name) xs)) own
