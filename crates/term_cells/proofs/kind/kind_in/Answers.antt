use Rattle.term_cells.proofs.DescKinds.{number_desc, truth_desc, tuple_desc, string_desc, other_param}
use Rattle.term_cells.proofs.kind.kind_in.Goals as goal

pub returns-in-Z : goal.returns-in-Z
returns-in-Z c = number_desc c.args.d.now c.in-Z.is

pub returns-in-B : goal.returns-in-B
returns-in-B c = truth_desc c.args.d.now c.in-B.is

pub returns-in-Str : goal.returns-in-Str
returns-in-Str c = string_desc c.args.d.now _ c.in-Str.is

pub returns-in-Tup : goal.returns-in-Tup
returns-in-Tup c = rw c.as_slice.ensures (tuple_desc c.args.d.now c.in-Tup.parts c.in-Tup.is)

pub returns-in-Param : goal.returns-in-Param
returns-in-Param c = other_param c.args.d.now _ c.in-Param.is
