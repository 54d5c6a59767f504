use Rattle.std.proofs.Common.{ℕ, List, subst}
use Rattle.ll_grammar.specs.Texts.{Read, Refused, NoText}
use Rattle.ll_grammar.specs.Reader.{rules_of, table_of}
use Rattle.ll_grammar.proofs.Prefixes.{refused_none, read_ends, at_read, at_refused}
use Rattle.ll_grammar.proofs.prefix.derive_prefix.Goals as goal

pub returns-in-Read-clause-ends : goal.returns-in-Read-clause-ends
returns-in-Read-clause-ends v c =
    let g = rules_of c.args.grammar.now in
    let t = table_of c.args.grammar.now v.certificate in
    read_ends g t c.args.classes.now c.in-Read.moves.items
    (at_read c.in_ok-moves.field-0 c.in-Read.moves (λ ms. Read g t.start c.args.classes.now ms) (λ k ms. Unit {0}) c.in-Read.is c.in_ok-moves.ensures.read)

pub returns-clause-none : goal.returns-clause-none
returns-clause-none v c =
    let g = rules_of c.args.grammar.now in
    let t = table_of c.args.grammar.now v.certificate in
    let P : List ℕ → Type 0 = λ y. NoText g t.start y in
    subst P c.before-in-Refused.ensures
    (refused_none g t c.before-in-Refused.result.now c.in-Refused-2.field-0 c.in-Refused-2.field-1.items
    (at_refused c.in_ok-moves-in-Refused.field-0 c.in-Refused-2.field-0 c.in-Refused-2.field-1 (λ ms. Unit {0}) (λ k ms. Refused g t.start c.before-in-Refused.result.now k ms) c.in-Refused-2.is c.in_ok-moves-in-Refused.ensures.refused))
