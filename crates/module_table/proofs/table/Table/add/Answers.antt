use Rattle.module_table.proofs.Entries.{absent, keyed-put, added-put}
use Rattle.module_table.proofs.table.Table.add.Goals as goal

pub put-requires : goal.put-requires
put-requires c = absent c.self.inside.components.entries c.args.self.now c.args.component c.self.invariant c.self.view_is c.key-key.result c.key-key.ensures

pub invariant_of-self : goal.invariant_of-self
invariant_of-self c =
    keyed-put c.self.inside.components.entries c.args.self.now c.args.component c.self.invariant c.self.view_is c.put.new.map.entries c.key-key.result c.put.result c.key-key.ensures (c.put.ensures.ok, c.put.ensures.err)

pub returns : goal.returns
returns c =
    added-put c.self.inside.components.entries c.args.self.now c.args.component c.self.invariant c.self.view_is c.put.new.map.entries c.key-key.result c.put.result c.key-key.ensures (c.put.ensures.ok, c.put.ensures.err)
