use Rattle.std.proofs.Common.{◌∙◌, List, ap, map}
use Rattle.std.specs.List.{flat_map}
use Rattle.res_ast.specs.declared.statement.Place.{Place}
use Rattle.res_ast.specs.declared.statement.Stmt.{Stmt}
use Rattle.type_rules.specs.Breaches.{least_of}
use Rattle.type_modes.specs.Places.{spot}
use Rattle.type_modes.specs.Statements.{breaches_in, changes_in, listed, statement}
use Rattle.type_modes.specs.working.Found.{noted}
use Rattle.type_modes.specs.working.Seen.{Listing, seen_body}
use Rattle.type_modes.proofs.Blocks.{while_least}
use Rattle.type_modes.proofs.body.Body.+statement.Goals as goal

pub statement-returns-in-While : goal.statement-returns-in-While
statement-returns-in-While t c =
    let b = seen_body c.args.self.now in
    let own = c.in-While in
    let around : List Place → Listing = λ places. record { body = b; listed = map spot places; at = own.at } in
    let l = around c.as_slice-in-While-2.result.now in
    let m = c.guard-in-While.new.least in
    let n = c.listed.new.least in
    let r = c.note_stmts.new.least in
    let missing = c.listed.ensures ∙ ap (λ (places : List Place). least_of m (flat_map (listed b) places)) c.as_slice-in-While.ensures in
    let changing = c.note_stmts.ensures ∙ ap (λ (xs : List Stmt). noted l n (changes_in (map (statement b) xs))) c.as_slice-in-While-3.ensures in
    let rest = c.statements-in-While.ensures ∙ ap (λ (xs : List Stmt). least_of r (breaches_in (map (statement b) xs))) c.as_slice-in-While-4.ensures in
    while_least b c.args.least.now c.statements-in-While.new.least c.args.stmt.now own.at l m n r own.guard own.places own.field-3 own.field-4 own.inner own.is
    (ap around c.as_slice-in-While-2.ensures) c.guard-in-While.ensures missing changing rest
