-- Places, callees and bodies as the code has them, with references into the tree, and what they stand for.
use Rattle.std.specs.Prelude.{ℕ, List, map}
use Rattle.std.specs.Option.{option_copied, option_map}
use Rattle.type_rules.specs.working.Seen.{seen_origin, seen_scope}
use Rattle.type_rules.specs.Origins.{is_constant, origin}
use Rattle.type_modes.specs.declared.places.Spot as spot_in_code
use Rattle.type_modes.specs.declared.places.Holder as holder_in_code
use Rattle.type_modes.specs.declared.body.Body as body_in_code
use Rattle.type_modes.specs.declared.callee.Callee as callee_in_code
use Rattle.type_modes.specs.declared.callee.Kind as kind_in_code
use Rattle.type_modes.specs.declared.callee.Wanted as wanted_in_code
use Rattle.type_modes.specs.declared.changes.Loop as loop_in_code
use Rattle.type_modes.specs.Calls.{Param}
use Rattle.type_modes.specs.declared.callee.Kind.TheVariants as kind
use Rattle.type_modes.specs.Places.{Body, Holder, Spot, field_types, holders, spot}
use Rattle.type_modes.specs.Signatures.{Called, Signature, at_end, operation, read, remaining, signature, swap_entry, through, within, write}

abbrev pub seen_spot : spot_in_code.Spot → Spot
seen_spot s = (s.base.now, option_copied s.field)

abbrev pub seen_holder : holder_in_code.Holder → Holder
seen_holder h = record { mode = h.mode; origin = option_map seen_origin h.origin }

abbrev pub seen_body : body_in_code.Body → Body
seen_body b = record {
  holders = holders b.scope.table.now (seen_scope b.scope) b.procedure.now;
  fields = option_map (λ r. field_types b.scope.table.now (seen_scope b.scope) r) (option_copied b.rep);
  constant = is_constant (seen_scope b.scope);
  called = operation b.scope.table.now b.component.now b.number;
}

abbrev pub seen_kind : kind_in_code.Kind → Signature
seen_kind kind.Read = read
seen_kind kind.Write = write
seen_kind kind.AtEnd = at_end
seen_kind kind.Remaining = remaining
seen_kind (kind.Entry scope declaration) = swap_entry scope.table.now (seen_scope scope) declaration.now
seen_kind (kind.Through scope declaration concept heading) =
    signature (through scope.table.now (seen_scope scope) declaration.now concept.now) heading.now
seen_kind (kind.Within scope concept heading) = signature (within concept.now) heading.now
seen_kind (kind.Own scope heading) = signature (origin scope.table.now (seen_scope scope)) heading.now

abbrev pub seen_callee : callee_in_code.Callee → Called
seen_callee c = record { signature = seen_kind c.kind; in_order = c.in_order }

abbrev pub seen_param : wanted_in_code.Wanted → Param
seen_param w = (w.mode, option_map seen_origin w.origin)

-- a loop: the body in which it stands, its changing list, and its place
pub record Listing : Type 0 where
  pub body : Body
  pub listed : List Spot
  pub at : ℕ

abbrev pub seen_loop : loop_in_code.Loop → Listing
seen_loop l = record { body = seen_body l.body; listed = map spot l.listed.now; at = l.at }
