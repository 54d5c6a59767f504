use Rattle.std.proofs.Common.{◌≡◌, ◌∙◌, ◌+◌, ◌<◌, ap, sym, subst, ℕ, List, length, Some, slice_get, Result, Err, refl, arith}
use Rattle.std.proofs.lemmas.Bool.Decides.{nat_tests}
use Rattle.std.proofs.lemmas.Option.{slice_get_read}
use Rattle.term_cells.specs.Growing.{Store}
use Rattle.cert_form.specs.declared.cert.Step.TheVariants.{Split}
use Rattle.cert_check.specs.declared.cases.Cases.{Cases}
use Rattle.cert_check.specs.declared.path.Path.{Path}
use Rattle.cert_check.specs.declared.walk.Stop.{Stop}
use Rattle.cert_check.specs.working.Children.{SplitIs}
use Rattle.cert_check.specs.Need.{sequent_nodes}
use Rattle.cert_check.specs.working.Room.{Holds, Needs}
use Rattle.cert_check.proofs.Needing.{needs_first, needs_one, needs_room, needs_two}
use Rattle.cert_check.proofs.Walks.{walked_refused, walked_one, walked_first, walked_two, stands_again, child_again, child_stands, child_vars}
use Rattle.cert_check.proofs.path.Path.+walk.Goals as goal

pub walk_split-returns-in_default-clause-exact : goal.walk_split-returns-in_default-clause-exact
walk_split-returns-in_default-clause-exact t c = λ s same standing here.
    (walked_refused c.args.steps.now c.args.at s (Split c.args.k c.args.n) here (c.in_default.ensures s same standing), tt)

pub walk_split-returns-in-One-clause-exact : goal.walk_split-returns-in-One-clause-exact
walk_split-returns-in-One-clause-exact t c = λ s same standing here.
    let old = c.args.self.now in
    let d = subst (λ (cs : Cases). SplitIs old.cells.0 c.args.k c.args.n s (Some cs)) c.in-One.is (c.in-Some.ensures s same standing) in
    walked_one c.args.steps.now c.args.at s (Split c.args.k c.args.n) here (c.walk_case.new.self.places ≡ old.places) d.0 d.2 c.walk_case.result (c.walk_case.ensures.exact s d.0 same standing d.1)

pub walk_split-returns-in-Ok-clause-exact : goal.walk_split-returns-in-Ok-clause-exact
walk_split-returns-in-Ok-clause-exact t c = λ s same standing here.
    let old = c.args.self.now in
    let mid = c.walk_case-in-Two.new.self in
    let last = c.walk_case-in-Ok.new.self in
    let d = subst (λ (cs : Cases). SplitIs old.cells.0 c.args.k c.args.n s (Some cs)) c.in-Two.is (c.in-Some.ensures s same standing) in
    let first = c.in-Ok.ensures.exact s d.0 same standing d.2 in
    let cells = ap (λ (p : Store). p.0) c.in-Ok.ensures.cells in
    let again = stands_again old.cells.0 mid.cells.0 old.places.0 mid.places.0 c.args.start c.args.goal s cells (ap (λ (p : List ℕ × ℕ). p.0) first.1) standing in
    let child = child_again old.cells.0 mid.cells.0 c.args.k s c.in-Two.second d.1 cells d.3 in
    walked_two c.args.steps.now c.args.at s (Split c.args.k c.args.n) here d.0 d.1 d.4 c.in-Ok.next first.0 (last.places ≡ mid.places) (last.places ≡ old.places) (λ e. e ∙ first.1) c.walk_case-in-Ok.result
    (c.walk_case-in-Ok.ensures.exact s d.1 same again child)

pub walk_split-returns-in-Err-clause-exact : goal.walk_split-returns-in-Err-clause-exact
walk_split-returns-in-Err-clause-exact t c = λ s same standing here.
    let old = c.args.self.now in
    let d = subst (λ (cs : Cases). SplitIs old.cells.0 c.args.k c.args.n s (Some cs)) c.in-Two.is (c.in-Some.ensures s same standing) in
    (walked_first c.args.steps.now c.args.at s (Split c.args.k c.args.n) here d.0 d.1 d.4 c.in-Err.stop (c.in-Err.ensures.exact s d.0 same standing d.2).0, tt)

pub walk-returns-in-Split-clause-short : goal.walk-returns-in-Split-clause-short
walk-returns-in-Split-clause-short t c = λ s above same within standing holds.
    let steps = c.args.steps.now in
    let found = c.in-Some.ensures.lookup in
    let inside : c.args.at < length steps = grind (arith, nat_tests, found.0) in
    let here : slice_get steps c.args.at ≡ Some (Split c.in-Split.k c.in-Split.n) = slice_get_read steps (length steps) c.args.at c.in-Some.step.now refl inside found.1 ∙ ap Some c.in-Split.is in
    c.walk_split.ensures.short s above same within standing here holds

pub walk_case-returns-in_default-open-clause-short :
    goal.walk_case-returns-in_default-open-clause-short
walk_case-returns-in_default-open-clause-short t c = λ s child above same within standing is holds.
    needs_room c.args.steps.now c.args.at (above, child) c.args.self.now.sheet c.if-at-steps.false (c.in_default-open.ensures.takes s child within standing is above holds)

pub walk_case-returns-in-Ok-walk-clause-short : goal.walk_case-returns-in-Ok-walk-clause-short
walk_case-returns-in-Ok-walk-clause-short t c = λ s child above same within standing is holds.
    let old = c.args.self.now in
    let here = c.open.new.self in
    let opened = c.in-Some.ensures in
    let stands = child_stands old.places.0 here.places.0 here.cells.0 child c.in-Some.new_goal c.held-end.result c.held-end.ensures.count (opened.standing s child standing is) in
    let vars = child_vars old.cells.0 c.args.k s c.args.case child is ∙ same in
    c.in-Ok-walk.ensures.short child above vars (omega (arith, opened.longer, c.held-end.ensures.count)) stands (opened.takes s child within standing is above holds)

pub walk_case-returns-in-Err-clause-short : goal.walk_case-returns-in-Err-clause-short
walk_case-returns-in-Err-clause-short t c = λ s child above same within standing is holds.
    let old = c.args.self.now in
    let here = c.open.new.self in
    let opened = c.in-Some.ensures in
    let stands = child_stands old.places.0 here.places.0 here.cells.0 child c.in-Some.new_goal c.held-end.result c.held-end.ensures.count (opened.standing s child standing is) in
    let vars = child_vars old.cells.0 c.args.k s c.args.case child is ∙ same in
    let end : Result ℕ Stop = Err c.in-Err.stop in
    subst (λ (n : ℕ). Needs c.args.steps.now c.args.at (above, child) n end) opened.sheet
    (c.in-Err.ensures.short child above vars (omega (arith, opened.longer, c.held-end.ensures.count)) stands (opened.takes s child within standing is above holds))

pub walk_split-returns-in-One-clause-short : goal.walk_split-returns-in-One-clause-short
walk_split-returns-in-One-clause-short t c = λ s above same within standing here holds.
    let old = c.args.self.now in
    let d = subst (λ (cs : Cases). SplitIs old.cells.0 c.args.k c.args.n s (Some cs)) c.in-One.is (c.in-Some.ensures s same standing) in
    needs_one c.args.steps.now c.args.at (above, s) old.sheet (Split c.args.k c.args.n) here d.0 d.2 c.walk_case.result (c.walk_case.ensures.short s d.0 (above + sequent_nodes s) same within standing d.1 holds)

pub walk_split-returns-in-Ok-clause-short : goal.walk_split-returns-in-Ok-clause-short
walk_split-returns-in-Ok-clause-short t c = λ s above same within standing here holds.
    let old = c.args.self.now in
    let mid = c.walk_case-in-Two.new.self in
    let d = subst (λ (cs : Cases). SplitIs old.cells.0 c.args.k c.args.n s (Some cs)) c.in-Two.is (c.in-Some.ensures s same standing) in
    let first = c.in-Ok.ensures.exact s d.0 same standing d.2 in
    let cells = ap (λ (p : Store). p.0) c.in-Ok.ensures.cells in
    let places = ap (λ (p : List ℕ × ℕ). p.0) first.1 in
    let again = stands_again old.cells.0 mid.cells.0 old.places.0 mid.places.0 c.args.start c.args.goal s cells places standing in
    let child = child_again old.cells.0 mid.cells.0 c.args.k s c.in-Two.second d.1 cells d.3 in
    let back : mid ≡ old = (λ i. record { cells = c.in-Ok.ensures.cells i; places = first.1 i; sheet = c.in-Ok.ensures.sheet i }) in
    let held = subst (λ (p : Path). Holds p (above + sequent_nodes s)) (sym back) holds in
    let room : ℕ = old.sheet in
    needs_two c.args.steps.now c.args.at (above, s) room (Split c.args.k c.args.n) here d.0 d.1 d.4 c.in-Ok.next (c.in-Ok.ensures.short s d.0 (above + sequent_nodes s) same within standing d.2 holds) c.walk_case-in-Ok.result
    (subst (λ (n : ℕ). Needs c.args.steps.now c.in-Ok.next (above + sequent_nodes s, d.1) n c.walk_case-in-Ok.result) c.in-Ok.ensures.sheet
    (c.walk_case-in-Ok.ensures.short s d.1 (above + sequent_nodes s) same (omega (arith, ap (λ (ps : List ℕ). length ps) places)) again child held))

pub walk_split-returns-in-Err-clause-short : goal.walk_split-returns-in-Err-clause-short
walk_split-returns-in-Err-clause-short t c = λ s above same within standing here holds.
    let old = c.args.self.now in
    let d = subst (λ (cs : Cases). SplitIs old.cells.0 c.args.k c.args.n s (Some cs)) c.in-Two.is (c.in-Some.ensures s same standing) in
    needs_first c.args.steps.now c.args.at (above, s) old.sheet (Split c.args.k c.args.n) here d.0 d.1 d.4 c.in-Err.stop (c.in-Err.ensures.short s d.0 (above + sequent_nodes s) same within standing d.2 holds)
