use Rattle.std.proofs.Common.{◌≡◌, ◌∙◌, ap, map, []}
use Rattle.std.specs.Option.{option_map}
use Rattle.facility_bind.specs.declared.scope.Scope.{Scope}
use Rattle.facility_bind.specs.Scopes.{given_to}
use Rattle.facility_bind.specs.Clauses.{clause}
use Rattle.facility_bind.specs.Bounds.{heading, headings, inner}
use Rattle.facility_bind.proofs.binding.instance.Goals as goal

pub returns : goal.returns
returns c =
    let s = c.args.scope.now in
    let k = c.args.concept.now in
    let d = c.args.declaration.now in
    let inside : Scope = inner d.name (given_to s k.formals d.args) k.family in
    let known : c.in_ok-inner.inner ≡ inside = c.in_ok-inner.ensures in
    let required : c.in_ok-required.field-0 ≡ option_map (clause s inside.formals 0 []) k.requires_clause =
    c.in_ok-required.ensures ∙ ap (λ (x : Scope). option_map (clause s x.formals 0 []) k.requires_clause) known in
    let listed : c.in_ok-headings.headings ≡ map (heading s inside k.family) (headings c.args.table.now k d) =
    c.in_ok-headings.ensures ∙ ap (λ (x : Scope). map (heading s x k.family) (headings c.args.table.now k d)) known in
    λ i. record { requires_clause = required i; headings = listed i; types = c.in_ok-types.ensures i }
