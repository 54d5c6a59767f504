use Rattle.std.proofs.Common.{◌+◌, [], ◌∷◌, ◌++◌, SFits, w64, arith, rules}
use Rattle.std.proofs.lemmas.Int.{to_z-of_z}
use Rattle.edge_io.proofs.ReadPieces.{HasRead, has_read_none, slice_no_number, slice_too_many, slice_more, slice_some, has_read_all}
use Rattle.edge_io.proofs.numbers.parse_numbers.Goals as goal
use Rattle.edge_io.proofs.numbers.parse_numbers.Goals.{After-count_blanks}

pub loop-at-init : goal.loop-at-init
loop-at-init c =
    rw (c.new-numbers.ensures.items, c.count_blanks-at.ensures) (has_read_none c.args.text.now)

pub returns-in_default-clause-reading : goal.returns-in_default-clause-reading
returns-in_default-clause-reading c =
    slice_no_number c.args.text.now c.loop-at.numbers.items c.loop-at.at c.piece_len-len.result c.requires c.loop-at.invariant c.loop-at-test.true c.piece_len-len.ensures c.in_default.ensures

pub returns-then-len-ge-MOST_NUMBERS-clause-reading :
    goal.returns-then-len-ge-MOST_NUMBERS-clause-reading
returns-then-len-ge-MOST_NUMBERS-clause-reading c =
    slice_too_many c.args.text.now c.loop-at.numbers.items c.loop-at.at c.piece_len-len.result c.in-Some.number c.requires c.loop-at.invariant c.loop-at-test.true c.piece_len-len.ensures c.in-Some.ensures (omega arith)

-- one number and the blanks after it are read
one_more : (c : After-count_blanks) → HasRead c.args.text.now (c.loop-at.numbers.items ++ c.in-Some.number ∷ []) (c.loop-at.at + (c.piece_len-len.result + c.count_blanks.result))
one_more c =
    slice_more c.args.text.now c.loop-at.numbers.items c.loop-at.at c.piece_len-len.result c.count_blanks.result c.in-Some.number c.loop-at.invariant c.loop-at-test.true c.piece_len-len.ensures c.in-Some.ensures (omega arith) c.count_blanks.ensures

pub overflow_add-at : goal.overflow_add-at
overflow_add-at c =
    omega (arith, (one_more c).within)

pub overflow_add-at-in-loop-at : goal.overflow_add-at-in-loop-at
overflow_add-at-in-loop-at c =
    omega (arith, (one_more c).within)

pub loop-at-preserved : goal.loop-at-preserved
loop-at-preserved c =
    let fits : SFits w64 c.in-Some.number = search rules in
    rw (c.in_ok-push.ensures.items, to_z-of_z w64 c.in-Some.number fits) (one_more c)

pub loop-at-smaller : goal.loop-at-smaller
loop-at-smaller c =
    omega (arith, (one_more c).within, slice_some c.args.text.now c.loop-at.numbers.items c.loop-at.at c.piece_len-len.result c.loop-at.invariant c.loop-at-test.true c.piece_len-len.ensures)

pub returns-clause-reading : goal.returns-clause-reading
returns-clause-reading c =
    has_read_all c.args.text.now c.loop-at.numbers.items c.loop-at.at c.requires c.loop-at.invariant c.loop-at-test.false
