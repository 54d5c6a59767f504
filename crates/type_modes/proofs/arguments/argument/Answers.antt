use Rattle.std.proofs.Common.{◌≡◌, ◌∙◌, ◌&&◌, ◌||◌, not, is_some, ap, sym}
use Rattle.type_rules.specs.Headings.{is_evaluates}
use Rattle.type_rules.specs.Origins.{differ}
use Rattle.type_modes.specs.Calls.{held, may_move}
use Rattle.type_modes.specs.Expressions.{look}
use Rattle.type_modes.specs.working.Seen.{seen_body, seen_holder, seen_param}
use Rattle.type_modes.proofs.Looks.{look_at}
use Rattle.type_modes.proofs.Moved.{argument_noted}
use Rattle.type_modes.proofs.Noting.{mapped_some}
use Rattle.type_modes.proofs.arguments.argument.Goals as goal
use Rattle.type_modes.proofs.arguments.argument.Goals.{then-differ+then-evaluates, then-differ+else-evaluates, else-differ, then-not-evaluates, else-not-evaluates}

pub returns : goal.returns
returns c =
    let b = seen_body c.args.body.now in
    let p = seen_param c.args.wanted in
    let a = look b c.args.arg.now in
    let wanted = is_evaluates p.0 || is_some (held b a) in
    let differ_is = ap (differ p.1) (sym c.requires) ∙ sym c.differ.ensures in
    let evaluates_is = sym c.is_evaluates-evaluates.ensures in
    let held_is = sym c.held-held.ensures in
    let differs : c.if-differ.differs ≡ (differ p.1 a.origin && wanted) =
    elim c.if-differ.branch [
      | then-differ+then-evaluates w ↦
          w.differs-is ∙ w.if-evaluates.true ∙ sym (ap (λ d. d && wanted) (differ_is ∙ w.if-differ.true) ∙ ap (λ e. e || is_some (held b a)) (evaluates_is ∙ w.if-evaluates.true))
      | then-differ+else-evaluates w ↦
          w.differs-is ∙ w.is_some.ensures ∙ sym (
          ap (λ d. d && wanted) (differ_is ∙ w.if-differ.true)
          ∙ ap (λ e. e || is_some (held b a)) (evaluates_is ∙ w.if-evaluates.false)
          ∙ ap is_some held_is ∙ mapped_some seen_holder c.held-held.result)
      | else-differ w ↦ w.differs-is ∙ w.if-differ.false ∙ sym (ap (λ d. d && wanted) (differ_is ∙ w.if-differ.false))
    ] in
    let moves : c.if-not-evaluates.moves ≡ (not (is_evaluates p.0) && not (may_move p.0 (held b a))) =
    elim c.if-not-evaluates.branch [
      | then-not-evaluates w ↦
          w.moves-is ∙ ap not (w.may_move.ensures ∙ ap (may_move p.0) (sym held_is)) ∙ sym (ap (λ e. not e && not (may_move p.0 (held b a))) (evaluates_is ∙ w.if-not-evaluates.true))
      | else-not-evaluates w ↦ w.moves-is ∙ ap not w.if-not-evaluates.false ∙ sym (ap (λ e. not e && not (may_move p.0 (held b a))) (evaluates_is ∙ w.if-not-evaluates.false))
    ] in
    argument_noted b p a c.args.least.now c.note_if.new.self c.note_if-2.new.self c.if-differ.differs c.if-not-evaluates.moves c.args.arg.now.at
    differs moves (look_at b c.args.arg.now) c.note_if.ensures c.note_if-2.ensures
