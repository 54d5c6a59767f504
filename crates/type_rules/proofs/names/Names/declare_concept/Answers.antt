use Rattle.std.proofs.Common.{ℕ, List, ◌++◌, arith, map}
use Rattle.res_ast.specs.declared.heading.Formal.{Formal}
use Rattle.type_rules.specs.Names.{family_name, heading_name}
use Rattle.type_rules.proofs.Repeated.{names_then, repeated_then}
use Rattle.type_rules.proofs.names.Names.declare_concept.Goals as goal

pub returns : goal.returns
returns c =
    let named : Formal → List ℕ × ℕ = λ f. (f.name, f.at) in
    let o = c.args.least.now in
    let before = c.args.self.now in
    let formals = map named c.as_slice.result.now in
    let family = family_name c.args.own.now.family in
    let headings = map heading_name c.as_slice-2.result.now in
    let first = c.in_ok-declare_all.ensures in
    let second = c.in_ok-declare_family.ensures in
    let third = c.in_ok-declare_all-2.ensures in
    let names = names_then before c.declare_all.new.self c.declare_family.new.self formals family first.0 second.0 in
    let noted = repeated_then o c.declare_all.new.least c.declare_family.new.least before c.declare_all.new.self formals family first.0 first.1 second.1 in
    let all = repeated_then o c.declare_family.new.least c.declare_all-2.new.least before c.declare_family.new.self (formals ++ family) headings names noted third.1 in
    grind arith
