use Rattle.std.proofs.Common.{◌≡◌, ◌∙◌, ap, subst, IfOk, Bool, None, Option, List, ℕ}
use Rattle.std.specs.List.{find}
use Rattle.std.specs.Option.{option_map, option_or}
use Rattle.std.specs.Str.{bytes_eq}
use Rattle.type_inst.specs.declared.types.FormalArg.{FormalArg}
use Rattle.type_inst.specs.declared.types.FormalArg.TheVariants as given
use Rattle.facility_bind.specs.Scopes as spec
use Rattle.facility_bind.proofs.scope.Scope.known_alone.Goals as goal

pub returns-in-None : goal.returns-in-None
returns-in-None c =
    let named : List ℕ × FormalArg → Bool = λ p. bytes_eq c.args.name.now p.0 in
    let alone : Option FormalArg = option_map given.Type (option_or (spec.built_in c.args.name.now) (spec.type_among c.args.self.now.types None c.args.name.now)) in
    subst (λ f. IfOk c.type_alone.result (λ o. o ≡ option_or (option_map (λ p. p.1) f) alone)) (c.in-None.ensures ∙ ap (find named) c.as_slice.ensures) c.type_alone.ensures
