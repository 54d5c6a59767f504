use Rattle.std.proofs.Common.{ℕ, ◌+◌, List, ◌∙◌, ap, drop, sym, take}
use Rattle.std.specs.List.{enumerate_from, flat_map}
use Rattle.std.specs.Option.{option_copied}
use Rattle.res_ast.specs.declared.facility.FacDecl.{FacDecl}
use Rattle.type_rules.specs.Breaches.{least_of}
use Rattle.type_rules.specs.Declarations.{facility}
use Rattle.type_rules.specs.Origins.{scope_in}
use Rattle.type_rules.specs.declared.error.ModeError.{ModeError}
use Rattle.type_rules.proofs.Numbered.{noted_first, numbered_ended, numbered_first}
use Rattle.type_rules.proofs.declarations.note_declared.Goals as goal

pub loop-index-preserved : goal.loop-index-preserved
loop-index-preserved c =
    let table = c.args.table.now in
    let hides = c.args.hides in
    let all = c.args.declarations.now in
    let i = c.loop-index.index in
    let own = c.index-declarations-index.result in
    let scope = c.behind-scope.result in
    let front = scope_in (option_copied c.args.concept) (take i all) in
    let rule : ℕ × FacDecl → List ModeError = λ d. facility table (scope_in (option_copied c.args.concept) (take d.0 all)) hides d.1 in
    let left : ℕ → List ModeError = λ k. flat_map rule (enumerate_from k (drop k all)) in
    let same = ap (λ s. facility scope.table.now s hides own) c.behind-scope.ensures.scope ∙ ap (λ t. facility t front hides own) c.behind-scope.ensures.table in
    noted_first _ c.loop-index.least c.note_facility.new.least (left i) (rule (i, own)) (left (i + 1))
    (numbered_first rule all i own c.loop-index-test.true c.index-declarations-index.is)
    (c.in_ok-note_facility.ensures ∙ ap (least_of c.loop-index.least) same)
    c.loop-index.invariant

pub returns : goal.returns
returns c =
    let all = c.args.declarations.now in
    let rule : ℕ × FacDecl → List ModeError = λ d. facility c.args.table.now (scope_in (option_copied c.args.concept) (take d.0 all)) c.args.hides d.1 in
    ap (least_of c.loop-index.least) (sym (numbered_ended rule all c.loop-index.index c.loop-index-test.false)) ∙ c.loop-index.invariant
