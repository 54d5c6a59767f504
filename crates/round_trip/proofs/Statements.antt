-- Statements and places: each way of their parts.
use Rattle.std.proofs.Common.{◌≡◌, ◌&&◌, ap, refl, ℕ, List, [], ◌∷◌, map, Option, Some, None, codes, true}
use Rattle.ll_grammar.specs.declared.form.Symbol.TheVariants.{Nonterminal, Action}
use Rattle.res_ast.specs.declared.statement.Place.{Place}
use Rattle.res_ast.specs.declared.statement.Stmt.{Stmt}
use Rattle.res_ast.specs.declared.statement.Stmt.TheOpen.{Stmt-F}
use Rattle.res_ast.specs.declared.statement.Stmt.TheViews.{roll-Stmt}
use Rattle.res_ast.specs.declared.statement.Stmt.TheFolds.{fold-roll-Stmt, map-Stmt}
use Rattle.res_grammar.specs.Classes.{class_of_word}
use Rattle.res_grammar.specs.Language.{language_rules}
use Rattle.res_grammar.specs.Numbers as n
use Rattle.expr_parser.specs.declared.word.Word.{Word}
use Rattle.module_parser.specs.Statements.{add_statement}
use Rattle.module_parser.specs.declared.state.State.{State}
use Rattle.res_printer.specs.Expressions.{arguments, expression, written}
use Rattle.res_printer.specs.Pieces.{Piece, comma, dot, row, says, separated}
use Rattle.res_printer.specs.Statements.{claims, place, place_of, statement, statement_step, statements}
use Rattle.round_trip.proofs.Canonical.{Staged, act, as_staged, done, line, name, way, way_as, word, ◌▹◌}
use Rattle.round_trip.proofs.Chains.{Claim}
use Rattle.round_trip.proofs.Claims.{AfterDot, AfterTwo, AfterWord, Hold, Outside, MorePlacesClaim, Name, PlaceClaim, StatementsClaim, add_places, add_statements, finish_dot, finish_two, finish_word, keep, named, place_rest, place_rest_text, put_block, put_place, top_added}
use Rattle.round_trip.proofs.Doing.{Doing, did, then}

-- ---- lists that are opened

-- a block
pub blocked : (m : Doing) (b : StatementsClaim m) → Staged (Action n.block_mark ∷ Nonterminal n.statements_part ∷ []) (λ k. statements b.read.value) (put_block b.read.value) (λ k. k) (b.read.light && true) (then (did n.block_mark) m)
blocked m b = as_staged (act n.block_mark refl ▹ b.read.canonical.going ▹ done) (put_block b.read.value) (λ w. ap (λ z. record w.state { blocks = z }) (top_added b.read.value [] w.state.blocks)) (λ w. ap (λ z. record w.state { blocks = z }) (top_added b.read.value [] w.state.blocks))

abbrev put_places : List Place → State → State
put_places ps s = record s { place_lists = ps ∷ s.place_lists }

changed : (m j : Doing) (p : PlaceClaim m) (q : MorePlacesClaim j) → Staged (Action n.places_mark ∷ Nonterminal n.place_part ∷ Action n.add_place_mark ∷ Nonterminal n.more_places_part ∷ []) (λ k. separated comma place (p.value ∷ q.value)) (put_places (p.value ∷ q.value)) (λ k. k) (p.light && (q.light && true)) (then (did n.places_mark) (then m (then (did n.add_place_mark) j)))
changed m j p q = as_staged (act n.places_mark refl ▹ p.canonical.going ▹ act n.add_place_mark refl ▹ q.canonical.going ▹ done) (put_places (p.value ∷ q.value)) (λ w. ap (λ z. record w.state { place_lists = z }) (top_added q.value (p.value ∷ []) w.state.place_lists)) (λ w. ap (λ z. record w.state { place_lists = z }) (top_added q.value (p.value ∷ []) w.state.place_lists))

-- ---- places

place_rest_is : (v : Option Name) (x : Name) (s : State) → place_rest v (keep x s) ≡ put_place (record { at = 0; base = x; field = v }) s
place_rest_is None x s = refl
place_rest_is (Some y) x s = refl

place_says : (v : Option Name) (x : Name) (z : List ℕ) → place_of x v z ≡ says x (place_rest_text v z)
place_says None x z = refl
place_says (Some y) x z = refl

pub place_ways : (E : Claim) → Hold E n.place_part
unfolding language_rules
place_ways E = (
  (λ x e i m s0 a. record {
    value = record { at = 0; base = x; field = a.value };
    light = _;
    canonical = way_as n.place_part 0 refl (name x e i ▹ act n.keep_mark refl ▹ a.canonical.going ▹ done) (λ k. place (record { at = 0; base = x; field = a.value })) (λ k z. place_says a.value x z) (put_place (record { at = 0; base = x; field = a.value })) (λ w. place_rest_is a.value x w.state) (λ w. place_rest_is a.value x w.state);
  }),
  tt,
)

pub place_rest_ways : (E : Claim) → Hold E n.place_rest_part
unfolding language_rules
place_rest_ways E = (
  (λ x e i. record { value = Some x; light = _; canonical = way n.place_rest_part 0 refl (word 18 refl ▹ name x e i ▹ act n.keep_mark refl ▹ act n.place_field_mark refl ▹ done) (place_rest (Some x)) (λ w. refl) (λ w. refl) }),
  (
    record { value = None; light = _; canonical = way n.place_rest_part 1 refl (act n.place_alone_mark refl ▹ done) (place_rest None) (λ w. refl) (λ w. refl) },
    tt,
  ),
)

pub more_places_ways : (E : Claim) → Hold E n.more_places_part
unfolding language_rules
more_places_ways E = (
  (λ m s0 a j s1 b. record { value = a.value ∷ b.value; light = _; canonical = way n.more_places_part 0 refl (word 15 refl ▹ a.canonical.going ▹ act n.add_place_mark refl ▹ b.canonical.going ▹ done) (add_places (a.value ∷ b.value)) (λ w. refl) (λ w. refl) }),
  (
    record { value = []; light = _; canonical = way n.more_places_part 1 refl done (add_places []) (λ w. refl) (λ w. refl) },
    tt,
  ),
)

-- ---- assignments, swaps and calls

abbrev alone : Word → Place
alone w = record { at = w.at; base = w.name; field = None }

abbrev field_of : Word → Word → Place
field_of w v = record { at = w.at; base = w.name; field = Some v.name }

-- how a statement is printed, by its form
stmt_says : (x : Stmt-F Stmt) (z : List ℕ) → statement (roll-Stmt x) z ≡ statement_step (map-Stmt Stmt Piece statement x) z
stmt_says x z = ap (λ p. p z) (fold-roll-Stmt Piece statement_step x)

pub statement_rest_ways : (E : Claim) → Outside E → Hold E n.statement_rest_part
unfolding language_rules
statement_rest_ways E o = (
  (λ m s0 a.
      let v : AfterWord = record { makes = λ w. roll-Stmt (Stmt-F.Swap w.at (alone w) a.value); rest = row (says (codes ":=:") ∷ place a.value ∷ []); is = λ x z. stmt_says (Stmt-F.Swap 0 (alone (named x)) a.value) z } in
      record { value = v; light = _; canonical = way n.statement_rest_part 0 refl (act n.place_alone_mark refl ▹ word 2 refl ▹ a.canonical.going ▹ act n.swap_mark refl ▹ done) (finish_word v) (λ w. refl) (λ w. refl) }),
  (
    (λ m s0 e.
        let a = o.expression m e in
        let v : AfterWord = record { makes = λ w. roll-Stmt (Stmt-F.Assign w.at (alone w) a.value); rest = row (says (codes ":=") ∷ expression a.value ∷ []); is = λ x z. stmt_says (Stmt-F.Assign 0 (alone (named x)) a.value) z } in
        record { value = v; light = _; canonical = way n.statement_rest_part 1 refl (act n.place_alone_mark refl ▹ word 3 refl ▹ a.canonical.going ▹ act n.assign_mark refl ▹ done) (finish_word v) (λ w. refl) (λ w. refl) }),
    (
      (λ m s0 e.
          let a = o.expressions m e in
          let v : AfterWord = record { makes = λ w. roll-Stmt (Stmt-F.Call w.at None w.name a.value); rest = arguments (map written a.value); is = λ x z. stmt_says (Stmt-F.Call 0 None x a.value) z } in
          record { value = v; light = _; canonical = way n.statement_rest_part 2 refl (word 13 refl ▹ a.passed.going ▹ word 14 refl ▹ act n.call_local_mark refl ▹ done) (finish_word v) (λ w. refl) (λ w. refl) }),
      (
        (λ m s0 a.
            let v : AfterWord = record { makes = a.value.makes; rest = λ z. dot (a.value.rest z); is = a.value.is } in
            record { value = v; light = _; canonical = way n.statement_rest_part 3 refl (word 18 refl ▹ a.canonical.going ▹ done) (finish_word v) (λ w. refl) (λ w. refl) }),
        tt,
      ),
    ),
  ),
)

pub statement_dot_ways : (E : Claim) → Outside E → Hold E n.statement_dot_part
unfolding language_rules
statement_dot_ways E o = (
  (λ y e i m s0 a.
      let v : AfterDot = record { makes = λ w. a.value.makes w (named y); rest = λ z. says y (a.value.rest z); is = λ x z. a.value.is x y z } in
      record { value = v; light = _; canonical = way n.statement_dot_part 0 refl (name y e i ▹ act n.keep_mark refl ▹ a.canonical.going ▹ done) (finish_dot v) (λ w. refl) (λ w. refl) }),
  (
    (λ m s0 d j s1 e.
        let b = o.builtin m d in
        let a = o.expressions j e in
        let v : AfterDot = record { makes = λ w. roll-Stmt (Stmt-F.Call w.at (Some w.name) b.value a.value); rest = row (says b.value ∷ arguments (map written a.value) ∷ []); is = λ x z. stmt_says (Stmt-F.Call 0 (Some x) b.value a.value) z } in
        record { value = v; light = _; canonical = way n.statement_dot_part 1 refl (b.canonical.going ▹ word 13 refl ▹ a.passed.going ▹ word 14 refl ▹ act n.call_of_mark refl ▹ done) (finish_dot v) (λ w. refl) (λ w. refl) }),
    tt,
  ),
)

pub statement_dot_rest_ways : (E : Claim) → Outside E → Hold E n.statement_dot_rest_part
unfolding language_rules
statement_dot_rest_ways E o = (
  (λ m s0 a.
      let v : AfterTwo = record { makes = λ w u. roll-Stmt (Stmt-F.Swap w.at (field_of w u) a.value); rest = row (says (codes ":=:") ∷ place a.value ∷ []); is = λ x y z. stmt_says (Stmt-F.Swap 0 (field_of (named x) (named y)) a.value) z } in
      record { value = v; light = _; canonical = way n.statement_dot_rest_part 0 refl (act n.place_field_mark refl ▹ word 2 refl ▹ a.canonical.going ▹ act n.swap_mark refl ▹ done) (finish_two v) (λ w. refl) (λ w. refl) }),
  (
    (λ m s0 e.
        let a = o.expression m e in
        let v : AfterTwo = record { makes = λ w u. roll-Stmt (Stmt-F.Assign w.at (field_of w u) a.value); rest = row (says (codes ":=") ∷ expression a.value ∷ []); is = λ x y z. stmt_says (Stmt-F.Assign 0 (field_of (named x) (named y)) a.value) z } in
        record { value = v; light = _; canonical = way n.statement_dot_rest_part 1 refl (act n.place_field_mark refl ▹ word 3 refl ▹ a.canonical.going ▹ act n.assign_mark refl ▹ done) (finish_two v) (λ w. refl) (λ w. refl) }),
    (
      (λ m s0 e.
          let a = o.expressions m e in
          let v : AfterTwo = record { makes = λ w u. roll-Stmt (Stmt-F.Call w.at (Some w.name) u.name a.value); rest = arguments (map written a.value); is = λ x y z. stmt_says (Stmt-F.Call 0 (Some x) y a.value) z } in
          record { value = v; light = _; canonical = way n.statement_dot_rest_part 2 refl (word 13 refl ▹ a.passed.going ▹ word 14 refl ▹ act n.call_of_mark refl ▹ done) (finish_two v) (λ w. refl) (λ w. refl) }),
      tt,
    ),
  ),
)

-- ---- statements

pub statement_ways : (E : Claim) → Outside E → Hold E n.statement_part
unfolding language_rules claims class_of_word
statement_ways E o = (
  (λ x e i m s0 a.
      let v : Stmt = a.value.makes (named x) in
      record { value = v; light = _; canonical = way_as n.statement_part 0 refl (name x e i ▹ act n.keep_mark refl ▹ a.canonical.going ▹ line 16 refl ▹ done) (λ k. statement v) (λ k z. a.value.is x z) (add_statement v) (λ w. refl) (λ w. refl) }),
  (
    (λ m s0 d j s1 e.
        let b = o.builtin m d in
        let a = o.expressions j e in
        let v : Stmt-F Stmt = Stmt-F.Call 0 None b.value a.value in
        record { value = roll-Stmt v; light = _; canonical = way_as n.statement_part 1 refl (b.canonical.going ▹ word 13 refl ▹ a.passed.going ▹ word 14 refl ▹ line 16 refl ▹ act n.call_builtin_mark refl ▹ done) (λ k. statement (roll-Stmt v)) (λ k z. stmt_says v z) (add_statement (roll-Stmt v)) (λ w. refl) (λ w. refl) }),
    (
      (λ m s0 e j s1 a l s2 b.
          let g = o.expression m e in
          let v : Stmt-F Stmt = Stmt-F.If 0 g.value a.read.value b.value in
          record { value = roll-Stmt v; light = _; canonical = way_as n.statement_part 2 refl (word 67 refl ▹ act n.keep_mark refl ▹ g.canonical.going ▹ act n.enter_mark refl ▹ line 68 refl ▹ (blocked j a).going ▹ act n.leave_mark refl ▹ b.canonical.going ▹ word 27 refl ▹ line 16 refl ▹ act n.if_mark refl ▹ done) (λ k. statement (roll-Stmt v)) (λ k z. stmt_says v z) (add_statement (roll-Stmt v)) (λ w. refl) (λ w. refl) }),
      (
        (λ m s0 e mp s1 p mq s2 q mi s3 ei md s4 ed mb s5 b.
            let g = o.expression m e in
            let i = o.expression mi ei in
            let d = o.expression md ed in
            let v : Stmt-F Stmt = Stmt-F.While 0 g.value (p.value ∷ q.value) i.value d.value b.read.value in
            record { value = roll-Stmt v; light = _; canonical = way_as n.statement_part 3 refl (word 70 refl ▹ act n.keep_mark refl ▹ g.canonical.going ▹ word 71 refl ▹ (changed mp mq p q).going ▹ line 16 refl ▹ word 72 refl ▹ i.canonical.going ▹ line 16 refl ▹ word 65 refl ▹ d.canonical.going ▹ line 16 refl ▹ act n.enter_mark refl ▹ line 73 refl ▹ (blocked mb b).going ▹ act n.leave_mark refl ▹ word 27 refl ▹ line 16 refl ▹ act n.while_mark refl ▹ done) (λ k. statement (roll-Stmt v)) (λ k z. stmt_says v z) (add_statement (roll-Stmt v)) (λ w. refl) (λ w. refl) }),
        tt,
      ),
    ),
  ),
)

pub statements_ways : (E : Claim) → Hold E n.statements_part
unfolding language_rules
statements_ways E = (
  (λ m s0 a j s1 b. record {
    read = record { value = a.value ∷ b.read.value; light = _; canonical = way n.statements_part 0 refl (act n.enter_mark refl ▹ a.canonical.going ▹ act n.leave_mark refl ▹ b.read.canonical.going ▹ done) (add_statements (a.value ∷ b.read.value)) (λ w. refl) (λ w. refl) };
    empty = λ e d. absurd (let f : a.value ∷ b.read.value ≡ [] = e in cc);
  }),
  (
    record { read = record { value = []; light = _; canonical = way n.statements_part 1 refl done (add_statements []) (λ w. refl) (λ w. refl) }; empty = λ e d. refl },
    tt,
  ),
)
