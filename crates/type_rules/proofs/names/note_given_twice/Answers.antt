use Rattle.std.proofs.Common.{arith}
use Rattle.std.specs.List.{flat_map}
use Rattle.type_rules.specs.Concepts.{enhancement_headings}
use Rattle.type_rules.specs.working.Placed.{placed}
use Rattle.type_rules.proofs.Repeated.{placed_append, repeated_then}
use Rattle.type_rules.proofs.names.note_given_twice.Goals as goal

pub returns : goal.returns
returns c =
    let table = c.args.table.now in
    let at = c.args.facility.now.at in
    let own = c.concept_headings.result.now in
    let enhanced = flat_map (λ p. enhancement_headings table p.0) c.as_slice.result.now in
    let first = c.in_ok-declare_given.ensures in
    let both = repeated_then c.args.least.now c.declare_given.new.least c.declare_enhanced.new.least c.new-names.result c.declare_given.new.self
    (placed at own) (placed at enhanced) first.0 first.1 c.in_ok-declare_enhanced.ensures in
    let split = placed_append at own enhanced in
    grind arith
