use Rattle.std.proofs.Common.{◌++◌, [], arith, is_none}
use Rattle.std.specs.List.{flat_map}
use Rattle.std.specs.Option.{option_map_or}
use Rattle.type_rules.specs.Declarations.{asked_procedure, missing, representation}
use Rattle.type_rules.specs.Headings.{procedure}
use Rattle.type_rules.specs.working.Seen.{seen_scope}
use Rattle.type_rules.proofs.Numbered.{noted_then}
use Rattle.type_rules.proofs.declarations.note_realization.Goals as goal

pub returns : goal.returns
returns c =
    let table = c.args.scope.now.table.now in
    let s = seen_scope c.args.scope.now in
    let own = c.args.own.now in
    let represented = option_map_or (representation table s own) own.rep [] in
    let local = flat_map (λ l. procedure table s (is_none own.enhancement) l.procedure) c.as_slice.result.now in
    let asked = flat_map (asked_procedure table s own) c.as_slice-2.result.now in
    let rest = missing table own in
    let start = c.args.least.now in
    let end = c.note_missing.new.least in
    let first = noted_then start c.note_representation.new.least c.note_locals.new.least represented local c.in_ok-note_representation.ensures c.in_ok-note_locals.ensures in
    let second = noted_then start c.note_locals.new.least c.note_procedures.new.least (represented ++ local) asked first c.in_ok-note_procedures.ensures in
    let third = noted_then start c.note_procedures.new.least end (represented ++ local ++ asked) rest second c.note_missing.ensures in
    grind arith
