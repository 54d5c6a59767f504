use Rattle.std.proofs.Common.{sym}
use Rattle.module_table.proofs.Entries.{held-alone}
use Rattle.module_table.proofs.table.Table.at.Goals as goal

pub returns-clause-alone : goal.returns-clause-alone
returns-clause-alone c =
    held-alone c.self.inside.components.entries c.args.self.now c.args.index c.in_ok-component.field-0-0.now c.in_ok-component.component.now c.self.invariant c.self.view_is (sym c.in_ok-component.ensures.entry) c.in_ok-component.ensures.value
