use Rattle.std.proofs.Common.{◌∙◌}
use Rattle.indexmap.proofs.CallerLemmas.{insert_entry-new}
use Rattle.module_table.proofs.table.put.Goals as goal

pub returns-in-Ok-clause-ok : goal.returns-in-Ok-clause-ok
returns-in-Ok-clause-ok g c =
    let h = rw c.in_ok-key.was at c.requires in
    rw c.in_ok-key.was (c.in-Ok.ensures.entries ∙ insert_entry-new _ c.args.map.now c.in_ok-key.key c.args.value h)
