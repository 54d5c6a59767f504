use Rattle.std.proofs.Common.{ℕ, ◌+◌, List, ◌++◌, ◌∙◌, ap, drop, sym}
use Rattle.std.specs.List.{flat_map}
use Rattle.type_rules.specs.Concepts.{enhancement_headings}
use Rattle.type_rules.specs.working.Placed.{placed}
use Rattle.type_rules.proofs.Repeated.{enhanced_first, repeated_first}
use Rattle.type_rules.proofs.names.Names.declare_enhanced.Goals as goal

pub loop-enhancement-preserved : goal.loop-enhancement-preserved
loop-enhancement-preserved c =
    let at = c.args.at in
    let pairs = c.args.pairs.now in
    let i = c.loop-enhancement.enhancement-index in
    let own = c.loop-enhancement-item.result in
    let left : ℕ → List (List ℕ × ℕ) = λ k. placed at (flat_map (λ p. enhancement_headings c.args.table.now p.0) (drop k pairs)) in
    let split = enhanced_first c.args.table.now at pairs i own c.loop-enhancement-test.true c.loop-enhancement-item.is
    ∙ ap (λ hs. placed at hs ++ left (i + 1)) (sym c.enhancement_headings.ensures) in
    repeated_first _ c.loop-enhancement.least c.declare_given.new.least c.loop-enhancement.self c.declare_given.new.self
    (left i) (placed at c.enhancement_headings.result.now) (left (i + 1)) split c.in_ok-declare_given.ensures.0 c.in_ok-declare_given.ensures.1 c.loop-enhancement.invariant
