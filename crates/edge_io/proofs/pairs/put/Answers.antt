use Rattle.edge_io.proofs.NamedFiles.{replaced, replaced_other, pushed, pushed_other}
use Rattle.edge_io.proofs.pairs.put.Goals as goal

pub returns-in-Some-clause-written : goal.returns-in-Some-clause-written
returns-in-Some-clause-written c =
    rw c.replace.ensures (replaced c.args.files.now c.in-Some.at c.args.name.now c.args.bytes.now c.in_ok-from_str.field-0 c.in_ok-from_slice.field-0 c.in_ok-from_str.ensures c.in_ok-from_slice.ensures (rw c.as_slice.ensures at c.in-Some.ensures.first))

pub returns-in-Some-clause-others : goal.returns-in-Some-clause-others
returns-in-Some-clause-others c = λ other ne.
    rw c.replace.ensures (replaced_other c.args.files.now c.in-Some.at c.args.name.now other c.in_ok-from_str.field-0 c.in_ok-from_slice.field-0 c.in_ok-from_str.ensures (rw c.as_slice.ensures at c.in-Some.ensures.first) ne)

pub returns-in_ok-push-in-None-clause-written : goal.returns-in_ok-push-in-None-clause-written
returns-in_ok-push-in-None-clause-written c =
    rw c.in_ok-push-in-None.ensures.ok (pushed c.args.files.now c.args.name.now c.args.bytes.now c.in_ok-from_str.field-0 c.in_ok-from_slice.field-0 c.in_ok-from_str.ensures c.in_ok-from_slice.ensures (rw c.as_slice.ensures at c.in-None.ensures.absent))

pub returns-in_ok-push-in-None-clause-others : goal.returns-in_ok-push-in-None-clause-others
returns-in_ok-push-in-None-clause-others c = λ other ne.
    rw c.in_ok-push-in-None.ensures.ok (pushed_other c.args.files.now c.args.name.now other c.in_ok-from_str.field-0 c.in_ok-from_slice.field-0 c.in_ok-from_str.ensures ne)
