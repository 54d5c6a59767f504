use Rattle.std.proofs.Common.{◌∙◌, ◌<◌, Bool, List, ℕ, ap, sym, length}
use Rattle.std.specs.List.{find, flat_map}
use Rattle.std.specs.Str.{bytes_eq}
use Rattle.res_ast.specs.declared.heading.Heading.{Heading}
use Rattle.type_rules.specs.Concepts.{enhancement_headings}
use Rattle.res_ast.specs.declared.component.Component.{Component}
use Rattle.type_modes.specs.working.Found.{heading_named}
use Rattle.type_modes.proofs.Searches.{found_first, found_second, part_found, part_passed}
use Rattle.type_modes.proofs.callee.given_heading.Goals as goal

abbrev named : List ℕ → Heading → Bool
named name h = bytes_eq name h.name

abbrev enhanced_by : List Component → List (List ℕ × List ℕ) → List Heading
enhanced_by table ps = flat_map (λ (p : List ℕ × List ℕ). enhancement_headings table p.0) ps

pub returns-in-Some : goal.returns-in-Some
returns-in-Some c =
    let rest = enhanced_by c.args.table.now c.args.declaration.now.enhanced in
    found_first (named c.args.name.now) c.args.concept.now.headings rest c.in-Some.heading.now
    (c.in-Some.ensures ∙ ap (λ hs. heading_named hs c.args.name.now) c.as_slice.ensures)

pub loop-enhancement-init : goal.loop-enhancement-init
loop-enhancement-init c =
    let rest = enhanced_by c.args.table.now c.args.declaration.now.enhanced in
    found_second (named c.args.name.now) c.args.concept.now.headings rest
    (c.in_default.ensures ∙ ap (λ hs. heading_named hs c.args.name.now) c.as_slice.ensures)
    ∙ ap (λ ps. find (named c.args.name.now) (enhanced_by c.args.table.now ps)) (sym c.as_slice-enhancement-items.ensures)

pub returns-in-Some-heading_named : goal.returns-in-Some-heading_named
returns-in-Some-heading_named c =
    let pairs = c.as_slice-enhancement-items.result.now in
    let below : c.loop-enhancement.enhancement-index < length pairs = c.loop-enhancement-test.true in
    part_found (named c.args.name.now) (λ (p : List ℕ × List ℕ). enhancement_headings c.args.table.now p.0) pairs c.loop-enhancement.enhancement-index
    c.loop-enhancement-item.result c.in-Some-heading_named.heading.now below c.loop-enhancement-item.is
    (c.in-Some-heading_named.ensures ∙ ap (λ hs. heading_named hs c.args.name.now) c.enhancement_headings.ensures)
    ∙ sym c.loop-enhancement.invariant

pub loop-enhancement-preserved : goal.loop-enhancement-preserved
loop-enhancement-preserved c =
    let pairs = c.as_slice-enhancement-items.result.now in
    let below : c.loop-enhancement.enhancement-index < length pairs = c.loop-enhancement-test.true in
    c.loop-enhancement.invariant
    ∙ part_passed (named c.args.name.now) (λ (p : List ℕ × List ℕ). enhancement_headings c.args.table.now p.0) pairs c.loop-enhancement.enhancement-index
    c.loop-enhancement-item.result below c.loop-enhancement-item.is
    (c.in_default-heading_named.ensures ∙ ap (λ hs. heading_named hs c.args.name.now) c.enhancement_headings.ensures)
