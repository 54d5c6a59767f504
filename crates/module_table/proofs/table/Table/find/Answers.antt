use Rattle.std.proofs.Common.{◌∙◌, ap}
use Rattle.std.specs.Map.{values_of}
use Rattle.module_table.specs.Tables.{held}
use Rattle.module_table.proofs.Entries.{held-keyed}
use Rattle.module_table.proofs.table.Table.find.Goals as goal

pub returns : goal.returns
returns c =
    let es = c.self.inside.components.entries in
    c.get.ensures.value ∙ held-keyed c.bytes.result.now es c.self.invariant ∙ ap (λ n. held (values_of es) n) c.bytes.ensures ∙ ap (λ t. held t c.args.name.now) c.self.view_is
