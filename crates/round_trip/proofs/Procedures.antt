-- Representations, procedures and an empty `else`: each way of their parts.
use Rattle.std.proofs.Common.{◌≡◌, ap, refl, ℕ, ◌≤◌, ◌&&◌, Bool, true, List, [], ◌∷◌, Some, None, codes, subst, sym, ◌-◌, arith}
use Rattle.std.proofs.Math.Nat.{le-max_left, le-max_right}
use Rattle.ll_grammar.specs.declared.form.Symbol.TheVariants.{Terminal, Nonterminal, Action}
use Rattle.res_lexer.specs.declared.token.TokenKind.TheVariants as kind
use Rattle.res_ast.specs.declared.heading.Heading.{Heading}
use Rattle.res_ast.specs.declared.heading.PType.{PType}
use Rattle.res_ast.specs.declared.heading.Param.{Param}
use Rattle.res_ast.specs.declared.procedure.LocalOp.{LocalOp}
use Rattle.res_ast.specs.declared.procedure.Procedure.{Procedure}
use Rattle.res_ast.specs.declared.procedure.Rep.{Rep}
use Rattle.res_ast.specs.declared.statement.Stmt.{Stmt}
use Rattle.res_grammar.specs.Classes.{class_of_word}
use Rattle.res_grammar.specs.Language.{language_rules}
use Rattle.res_grammar.specs.Nesting.{entered, raised}
use Rattle.res_grammar.specs.Numbers as n
use Rattle.res_grammar.specs.declared.nesting.Nesting.{Nesting}
use Rattle.module_parser.specs.declared.state.State.{State}
use Rattle.res_printer.specs.Components.{correspondence, field, param, record_of, represented, variable}
use Rattle.res_printer.specs.Pieces.{closes, each, opens, semicolon, separated}
use Rattle.res_printer.specs.Statements.{statements}
use Rattle.round_trip.proofs.Canonical.{Canonical, Staged, act, as_apart, as_staged, done, expanded, instead, line, name, way, word, ◌▹◌}
use Rattle.round_trip.proofs.Chains.{Claim}
use Rattle.round_trip.proofs.Claims.{BodyRead, ElseClaim, FieldsClaim, Hold, Name, Outside, ParametersClaim, StatementsClaim, VariablesClaim, add_locals, add_procedures, add_statements, put_block, put_body, put_rep, sign, top_added}
use Rattle.round_trip.proofs.Depths.{Below}
use Rattle.round_trip.proofs.Doing.{Doing, did, then, took}
use Rattle.round_trip.proofs.Statements.{blocked}

-- ---- lists that are opened

abbrev put_fields : List (Name × PType) → State → State
put_fields fs s = record s { fields = fs ∷ s.fields }

fielded : (m : Doing) (a : FieldsClaim m) → Staged (Action n.typed_names_mark ∷ Nonterminal n.fields_part ∷ []) (λ k. each field a.value) (put_fields a.value) (λ k. k) (a.light && true) (then (did n.typed_names_mark) m)
fielded m a = as_staged (act n.typed_names_mark refl ▹ a.canonical.going ▹ done) (put_fields a.value) (λ w. ap (λ z. record w.state { fields = z }) (top_added a.value [] w.state.fields)) (λ w. ap (λ z. record w.state { fields = z }) (top_added a.value [] w.state.fields))

varied : (m : Doing) (a : VariablesClaim m) → Staged (Action n.typed_names_mark ∷ Nonterminal n.variables_part ∷ []) (λ k. each variable a.value) (put_fields a.value) (λ k. k) (a.light && true) (then (did n.typed_names_mark) m)
varied m a = as_staged (act n.typed_names_mark refl ▹ a.canonical.going ▹ done) (put_fields a.value) (λ w. ap (λ z. record w.state { fields = z }) (top_added a.value [] w.state.fields)) (λ w. ap (λ z. record w.state { fields = z }) (top_added a.value [] w.state.fields))

-- ---- representations

pub representation_ways : (E : Claim) → Outside E → Hold E n.representation_part
unfolding language_rules class_of_word correspondence record_of represented
representation_ways E o = (
  (λ x e i m s0 a d s1 b y f j g s2 c.
      let p = o.expression d b in
      let q = o.expression g c in
      let r : Rep = record { at = 0; name = x; fields = a.value; convention = p.value; conc = y; correspondence = q.value } in
      record { value = Some r; light = _; canonical = way n.representation_part 0 refl (word 28 refl ▹ act n.keep_mark refl ▹ name x e i ▹ act n.keep_mark refl ▹ word 30 refl ▹ word 60 refl ▹ word 32 refl ▹ word 61 refl ▹ (fielded m a).going ▹ word 27 refl ▹ line 16 refl ▹ word 62 refl ▹ p.canonical.going ▹ line 16 refl ▹ word 63 refl ▹ word 64 refl ▹ word 18 refl ▹ name y f j ▹ act n.keep_mark refl ▹ word 9 refl ▹ q.canonical.going ▹ line 16 refl ▹ act n.rep_mark refl ▹ done) (put_rep (Some r)) (λ w. refl) (λ w. refl) }),
  (
    record { value = None; light = _; canonical = way n.representation_part 1 refl (act n.no_rep_mark refl ▹ done) (put_rep None) (λ w. refl) (λ w. refl) },
    tt,
  ),
)

-- ---- procedures

pub signature_rest_ways : (E : Claim) → Hold E n.signature_rest_part
unfolding language_rules
signature_rest_ways E = (
  (λ m s0 a. record { value = Some a.value; light = _; canonical = way n.signature_rest_part 0 refl (word 17 refl ▹ a.canonical.going ▹ line 16 refl ▹ act n.signature_mark refl ▹ done) (sign (Some a.value)) (λ w. refl) (λ w. refl) }),
  (
    record { value = None; light = _; canonical = way n.signature_rest_part 1 refl (act n.no_result_mark refl ▹ line 16 refl ▹ act n.signature_mark refl ▹ done) (sign None) (λ w. refl) (λ w. refl) },
    tt,
  ),
)

pub body_ways : (E : Claim) → Hold E n.body_part
unfolding language_rules class_of_word
body_ways E = (
  (λ m s0 a d s1 b f s2 c g s3 e.
      let v : BodyRead = record { metric = a.value; vars = b.value; body = c.read.value; closes = e.value } in
      record { value = v; light = _; canonical = way n.body_part 0 refl (a.canonical.going ▹ (varied d b).going ▹ act n.enter_mark refl ▹ (blocked f c).going ▹ act n.leave_mark refl ▹ word 27 refl ▹ act n.keep_mark refl ▹ e.canonical.going ▹ line 16 refl ▹ done) (put_body v) (λ w. refl) (λ w. refl) }),
  tt,
)

pub locals_ways : (E : Claim) → Hold E n.locals_part
unfolding language_rules class_of_word
locals_ways E = (
  (λ m s0 h d s1 b f s2 c.
      let l : LocalOp = record { procedure = record { at = h.value.at; heading = h.value; metric = b.value.metric; vars = b.value.vars; body = b.value.body; end_at = 0 } } in
      record { value = l ∷ c.value; light = _; canonical = way n.locals_part 0 refl (h.canonical.going ▹ word 55 refl ▹ b.canonical.going ▹ act n.add_local_mark refl ▹ c.canonical.going ▹ done) (add_locals (l ∷ c.value)) (λ w. refl) (λ w. refl) }),
  (
    record { value = []; light = _; canonical = way n.locals_part 1 refl done (add_locals []) (λ w. refl) (λ w. refl) },
    tt,
  ),
)

abbrev put_params : List Param → State → State
put_params ps s = record s { params = ps ∷ s.params }

parametered : (m : Doing) (a : ParametersClaim m) → Staged (Action n.params_mark ∷ Terminal 13 ∷ Nonterminal n.parameters_part ∷ Terminal 14 ∷ []) (λ k z. opens (separated semicolon param a.value (closes z))) (put_params a.value) (λ k. k) (a.light && true) (then (did n.params_mark) (then (took (kind.Symbol 12)) (then m (took (kind.Symbol 13)))))
parametered m a = as_staged (act n.params_mark refl ▹ word 13 refl ▹ a.canonical.going ▹ word 14 refl ▹ done) (put_params a.value) (λ w. ap (λ z. record w.state { params = z }) (top_added a.value [] w.state.params)) (λ w. ap (λ z. record w.state { params = z }) (top_added a.value [] w.state.params))

pub procedures_ways : (E : Claim) → Hold E n.procedures_part
unfolding language_rules class_of_word
procedures_ways E = (
  (λ m s0 x d s1 a f s2 r g s3 b j s4 c.
      let h : Heading = record { at = 0; name = x.value; params = a.value; result = r.value; requires_clause = None; ensures_clause = None } in
      let p : Procedure = record { at = 0; heading = h; metric = b.value.metric; vars = b.value.vars; body = b.value.body; end_at = 0 } in
      record { value = p ∷ c.value; light = _; canonical = way n.procedures_part 0 refl (word 55 refl ▹ act n.keep_mark refl ▹ x.canonical.going ▹ (parametered d a).going ▹ r.canonical.going ▹ b.canonical.going ▹ act n.add_procedure_mark refl ▹ c.canonical.going ▹ done) (add_procedures (p ∷ c.value)) (λ w. refl) (λ w. refl) }),
  (
    record { value = []; light = _; canonical = way n.procedures_part 1 refl done (add_procedures []) (λ w. refl) (λ w. refl) },
    tt,
  ),
)

-- ---- an `else`

raised_fits : (d : ℕ) → raised d ≤ 200 → d ≤ raised d - 1
raised_fits d l = omega (arith, l)

fits : {a b c : ℕ} → a ≤ b → b ≤ c → a ≤ c
fits l k = omega (arith, l, k)

-- An `else` with no statements is not written, which leaves what is below it there.
passed_over : (f b : Nesting) → Below f b → (entered b).deepest ≤ 200 → Below f (record (entered b) { depth = raised b.depth - 1 })
passed_over f b l h = record {
  depth = fits l.depth (raised_fits b.depth (fits (le-max_right b.deepest (raised b.depth)) h));
  deep = fits l.deep (le-max_left b.deep (raised b.depth));
  deepest = fits l.deepest (le-max_left b.deepest (raised b.depth));
  saved = l.saved;
  sound = l.sound;
  within = l.within;
}

abbrev else_done : Doing → Doing
else_done m = then (did n.enter_mark) (then (took (kind.Word (codes "else"))) (then (then (did n.block_mark) m) (did n.leave_mark)))

else_way : (m : Doing) (ss : List Stmt) (e : Bool) → Canonical n.statements_part (λ k. statements ss) (add_statements ss) (λ k. k) e m → (ss ≡ [] → (d : Nesting) → m.nest d ≡ d) → ElseClaim (else_done m)
unfolding language_rules class_of_word
else_way m [] e c none =
    let b : StatementsClaim m = record { read = record { value = []; light = e; canonical = c }; empty = none } in
    let read = as_apart (act n.enter_mark refl ▹ line 69 refl ▹ (blocked m b).going ▹ act n.leave_mark refl ▹ done) (put_block []) (put_block []) (λ w. refl) (λ w. refl) in
    let print = as_staged (expanded n.else_part 1 refl (act n.block_mark refl ▹ done)) (put_block []) (λ w. refl) (λ w. refl) in
    let under : (f b : Nesting) → Below f b → ((else_done m).nest b).deepest ≤ 200 → Below f ((else_done m).nest b) = λ f b l h.
    let i = none refl (entered b) in
    subst (λ z. Below f (record z { depth = z.depth - 1 })) (sym i) (passed_over f b l (subst (λ z. z.deepest ≤ 200) i h)) in
    record { value = []; light = _; canonical = record { read_last = read.read_last; last = print.last; going = instead read.going print.going under } }
else_way m (x ∷ ss) e c none =
    let b : StatementsClaim m = record { read = record { value = x ∷ ss; light = e; canonical = c }; empty = none } in
    record { value = x ∷ ss; light = _; canonical = way n.else_part 0 refl (act n.enter_mark refl ▹ line 69 refl ▹ (blocked m b).going ▹ act n.leave_mark refl ▹ done) (put_block (x ∷ ss)) (λ w. refl) (λ w. refl) }

pub else_ways : (E : Claim) → Hold E n.else_part
unfolding language_rules
else_ways E = (
  (λ m s0 b. else_way m b.read.value b.read.light b.read.canonical b.empty),
  (
    record { value = []; light = _; canonical = way n.else_part 1 refl (act n.block_mark refl ▹ done) (put_block []) (λ w. refl) (λ w. refl) },
    tt,
  ),
)
