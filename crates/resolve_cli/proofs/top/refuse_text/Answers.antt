use Rattle.std.proofs.Common.{◌≡◌, refl, subst, inr}
use Rattle.std.specs.Prelude.{IfOk}
use Rattle.module_parser.specs.Spelling.{RefusesOrNoMemory}
use Rattle.resolve_cli.specs.declared.status.Status.TheVariants as status
use Rattle.resolve_cli.specs.Answer as stage
use Rattle.resolve_cli.specs.Answer.{TextAnswer}
use Rattle.report_lines.specs.Lines.{lex_line, syntax_line}
use Rattle.resolve_cli.proofs.Stages.{nothing_known, refused_answered}
use Rattle.resolve_cli.proofs.top.refuse_text.Goals as goal

pub returns-in-NoMemory-clause-answered : goal.returns-in-NoMemory-clause-answered
returns-in-NoMemory-clause-answered c =
    λ bytes steps left held refuses. nothing_known (TextAnswer c.args.file.now bytes steps) left status.NoMemory held (inr (inr refl)) (c.unchanged.ensures held)

pub returns-in-Lex-clause-answered : goal.returns-in-Lex-clause-answered
returns-in-Lex-clause-answered c =
    let name = c.args.file.now in
    let e = c.in-Lex.e in
    let lined = subst (λ n. IfOk c.lex_line.result (λ l. l ≡ lex_line n e)) c.as_bytes.ensures.value c.lex_line.ensures in
    λ bytes steps left held refuses.
    refused_answered (TextAnswer name bytes steps) left held c.lex_line.result c.refused.result (lex_line name e) c.refused.ensures lined (λ input. stage.lexical e (subst (RefusesOrNoMemory bytes) c.in-Lex.is refuses) refl refl) (c.unchanged.ensures held)

pub returns-in-Syntax-clause-answered : goal.returns-in-Syntax-clause-answered
returns-in-Syntax-clause-answered c =
    let name = c.args.file.now in
    let e = c.in-Syntax.e in
    let lined = subst (λ n. IfOk c.syntax_line.result (λ l. l ≡ syntax_line n e)) c.as_bytes-in-Syntax.ensures.value c.syntax_line.ensures in
    λ bytes steps left held refuses.
    refused_answered (TextAnswer name bytes steps) left held c.syntax_line.result c.refused-in-Syntax.result (syntax_line name e) c.refused-in-Syntax.ensures lined (λ input. stage.syntax_error e (subst (RefusesOrNoMemory bytes) c.in-Syntax.is refuses) refl refl) (c.unchanged.ensures held)
