-- Operands as they were read that stand between symbols, `not` and minus signs.
use Rattle.std.proofs.Common.{◌≡◌, ◌⊎◌, inl, inr, ◌∙◌, ap, refl, ℕ, zero, suc, ◌+◌, ◌≤◌, max, nat_le, pos, negsuc, Bool, true, false, if◌then◌else◌, [], ◌∷◌, map, codes, arith}
use Rattle.res_ast.specs.declared.expression.Expr.{Expr}
use Rattle.res_ast.specs.declared.expression.Form.TheOpen.{Form-F}
use Rattle.res_ast.specs.declared.expression.Form.TheViews.{roll-Form}
use Rattle.res_lexer.specs.Spaced.{IsWritable}
use Rattle.res_lexer.specs.declared.token.Token.{Token}
use Rattle.res_lexer.specs.declared.token.TokenKind.{TokenKind}
use Rattle.res_lexer.specs.declared.token.TokenKind.TheVariants as kind
use Rattle.res_grammar.specs.Numbers as n
use Rattle.res_grammar.specs.declared.nesting.Nesting.{Nesting}
use Rattle.expr_parser.specs.Actions.{expression}
use Rattle.res_printer.specs.Expressions.{Written, arguments, enclosed, initial, literal, minus, negation, operand, written}
use Rattle.round_trip.specs.ReadsBack.{token}
use Rattle.round_trip.proofs.Doing.{Doing, did, then, took}
use Rattle.round_trip.proofs.Steady.{Steady, did_steady, then_steady, took_steady}
use Rattle.round_trip.proofs.Goes.{At, reached}
use Rattle.round_trip.proofs.Operands.{deep_at, keeps}
use Rattle.round_trip.proofs.Signs.{Spelled, below_minus, minus_expr, minus_spelled, name_token}
use Rattle.round_trip.proofs.Arguments.{deepest_of, exprs_of, heads_of, written_of}
use Rattle.round_trip.proofs.Forms as form
use Rattle.res_grammar.specs.Nesting.{entered}
use Rattle.round_trip.proofs.Chains.{sunk, took_number}
use Rattle.round_trip.proofs.Said.{Dives, IsSunk, Quiet, Said, SaidAll, SaidMinus, SaidName, SaidWhole, around_heads, before_quiet, behind_flat, behind_quiet, both_dive, deep_least, deep_own, dives_less, flat_dives, heads_both, minus_token, node, node_dives, node_dives_on, node_heads, node_steady, quiet_both, quiet_did, quiet_heads, quiet_took}
use Rattle.round_trip.proofs.Levels.{written_as}
use Rattle.round_trip.proofs.Lists.{all_cons}

-- ---- one operand in a node

-- a token that is kept
abbrev kept_token : TokenKind → Doing
kept_token k = (then) (took k) (did n.keep_mark)

kept_quiet : (k : TokenKind) → Quiet (kept_token k)
kept_quiet k = quiet_both _ _ (quiet_took k) (quiet_did n.keep_mark (λ l a. refl))

kept_steady : (k : TokenKind) → Steady (kept_token k)
kept_steady k = then_steady _ _ (took_steady k) (did_steady n.keep_mark)

-- What stands between a token and an end that nests nothing is a node.
abbrev wrapped : (b c : ℕ) (k : TokenKind) (d e : Doing) (h : Said c d) (w : Written) (x : Expr) (l : Token) → Steady d → Steady e → Quiet e →
    Spelled w x (deep_at c h.item.written h.item.depth + 1) h.item.heads → written x ≡ w → deep_at b w (deep_at c h.item.written h.item.depth + 1) ≡ deep_at c h.item.written h.item.depth + 1 →
    ((s : At) → e.build (reached h.item.expr h.last (keeps (token k) s)) ≡ reached x l s) → Dives (deep_at c h.item.written h.item.depth) ((then) (kept_token k) ((then) d e)) →
    Said b (node ((then) (kept_token k) ((then) d e)))
wrapped b c k d e h w x l s t q spelled is own builds dives =
    let inside = (then) (kept_token k) ((then) d e) in
    let i = then_steady (kept_token k) ((then) d e) (kept_steady k) (then_steady d e s t) in
    let deep = deep_at c h.item.written h.item.depth in
    record {
      item = record { written = w; expr = x; depth = deep + 1; heads = h.item.heads; spelled = spelled };
      is = is;
      last = l;
      builds = λ z. ap (λ u. e.build u) (h.builds (keeps (token k) z)) ∙ builds z;
      dives = dives_less (deep_at b w (deep + 1)) (deep + 1) (node inside) (let g : deep_at b w (deep + 1) ≡ deep + 1 = own in omega (arith, g)) (node_dives deep inside i dives);
      names = node_heads inside h.item.heads (around_heads (kept_token k) d e h.item.heads (kept_quiet k) h.names q);
    }

pub not_read : (d : Doing) → Steady d → Said 3 d → Said 3 (node ((then) (kept_token (kind.Word (codes "not"))) ((then) d (did n.not_mark))))
not_read d s h =
    wrapped 3 3 (kind.Word (codes "not")) d (did n.not_mark) h (negation h.item.written) (expression 0 (roll-Form (Form-F.Not h.item.expr))) h.last s (did_steady n.not_mark) (quiet_did n.not_mark (λ l a. refl))
    (form.not_spelled h.item.written h.item.spelled) (written_as (Form-F.Not h.item.expr) ∙ ap negation h.is) refl (λ z. refl) h.dives

abbrev closed_by : ℕ → ℕ → Doing
closed_by k mark = (then) (took (kind.Symbol k)) (did mark)

pub bars_read : (d : Doing) → Steady d → Said 4 d → Said 8 (node ((then) (kept_token (kind.Symbol 18)) ((then) d (closed_by 18 n.bars_mark))))
bars_read d s h =
    wrapped 8 4 (kind.Symbol 18) d (closed_by 18 n.bars_mark) h (operand (enclosed (codes "|") h.item.written (codes "|"))) (expression 0 (roll-Form (Form-F.Bars h.item.expr))) (token (kind.Symbol 18)) s
    (then_steady _ _ (took_steady (kind.Symbol 18)) (did_steady n.bars_mark)) (quiet_both _ _ (quiet_took (kind.Symbol 18)) (quiet_did n.bars_mark (λ l a. refl)))
    (form.bars_spelled h.item.written h.item.spelled) (written_as (Form-F.Bars h.item.expr) ∙ ap (λ z. operand (enclosed (codes "|") z (codes "|"))) h.is) refl (λ z. refl) h.dives

pub single_read : (d : Doing) → Steady d → Said 4 d → Said 8 (node ((then) (kept_token (kind.Symbol 6)) ((then) d (closed_by 7 n.single_mark))))
single_read d s h =
    wrapped 8 4 (kind.Symbol 6) d (closed_by 7 n.single_mark) h (operand (enclosed (codes "<") h.item.written (codes ">"))) (expression 0 (roll-Form (Form-F.Single h.item.expr))) (token (kind.Symbol 7)) s
    (then_steady _ _ (took_steady (kind.Symbol 7)) (did_steady n.single_mark)) (quiet_both _ _ (quiet_took (kind.Symbol 7)) (quiet_did n.single_mark (λ l a. refl)))
    (form.single_spelled h.item.written h.item.spelled) (written_as (Form-F.Single h.item.expr) ∙ ap (λ z. operand (enclosed (codes "<") z (codes ">"))) h.is) refl (λ z. refl) h.dives

-- ---- minus signs

zero_quiet : Quiet (sunk (kind.Literal (pos 0)))
zero_quiet = let q = quiet_took (kind.Literal (pos 0)) in record { last = q.last; is = q.is; own = q.own }

-- a literal
pub minus_literal_read : (k : ℕ) → IsWritable (kind.Literal (pos k)) → SaidMinus ((then) (took_number k) (did n.minus_literal_mark))
minus_literal_read zero w =
    let zero_taken = (then) (sunk (kind.Literal (pos 0))) (did n.minus_literal_mark) in
    record {
      item = record { written = literal (pos 0); expr = expression 0 (roll-Form (Form-F.Int (pos 0))); depth = 0; heads = []; spelled = form.int_spelled 0 w };
      is = written_as (Form-F.Int (pos 0));
      signed = inr (λ ν. let f : 201 ≤ max ν.deepest 201 = omega arith in f);
      level = omega arith;
      last = token (kind.Literal (pos 0));
      builds = λ s. refl;
      dives = λ ν e t. absurd (let f : max ν.deepest 201 ≤ 200 = t in omega (arith, f));
      names = quiet_heads zero_taken (quiet_both (sunk (kind.Literal (pos 0))) (did n.minus_literal_mark) zero_quiet (quiet_did n.minus_literal_mark (λ l a. refl)));
    }
minus_literal_read (suc k) w = record {
  item = record { written = literal (negsuc k); expr = expression 0 (roll-Form (Form-F.Int (negsuc k))); depth = 0; heads = []; spelled = form.negative_spelled k w };
  is = written_as (Form-F.Int (negsuc k));
  signed = inl refl;
  level = omega arith;
  last = token (kind.Literal (pos (suc k)));
  builds = λ s. refl;
  dives = flat_dives ((then) (took (kind.Literal (pos (suc k)))) (did n.minus_literal_mark)) (λ ν. refl);
  names = quiet_heads ((then) (took (kind.Literal (pos (suc k)))) (did n.minus_literal_mark)) (quiet_both _ _ (quiet_took (kind.Literal (pos (suc k)))) (quiet_did n.minus_literal_mark (λ l a. refl)));
}

-- how deep a sign leads before what begins with one itself, or is too deep
sign_dives : (w : Written) (d : ℕ) (m inside : Doing) → Steady inside → Dives d inside → ((ν : Nesting) → (inside.nest ν).deepest ≡ (m.nest ν).deepest) → (w.negative ≡ true) ⊎ IsSunk m → Dives (below_minus w d) (node inside)
sign_dives w d m inside s h same (inl e) =
    let f : below_minus w d ≡ d + 1 = ap (λ b. (if b then d else deep_at 8 w d) + 1) e in
    dives_less (below_minus w d) (d + 1) (node inside) (omega (arith, f)) (node_dives d inside s h)
sign_dives w d m inside s h same (inr e) = λ ν i t.
    let f : 201 ≤ (m.nest (entered ν)).deepest = e (entered ν) in
    let g : (inside.nest (entered ν)).deepest ≡ (m.nest (entered ν)).deepest = same (entered ν) in
    let u : (inside.nest (entered ν)).deepest ≤ 200 = t in
    absurd (omega (arith, f, g, u))

-- a sign behind a sign
pub minus_minus_read : (d : Doing) → Steady d → SaidMinus d → SaidMinus (node ((then) (kept_token (kind.Symbol 10)) ((then) d (did n.minus_mark))))
minus_minus_read d s h =
    let inside = (then) (kept_token (kind.Symbol 10)) ((then) d (did n.minus_mark)) in
    let t = then_steady _ _ (kept_steady (kind.Symbol 10)) (then_steady _ _ s (did_steady n.minus_mark)) in
    record {
      item = record { written = minus h.item.written; expr = minus_expr h.item.expr; depth = below_minus h.item.written h.item.depth; heads = h.item.heads; spelled = minus_spelled h.item.written h.item.spelled };
      is = written_as (Form-F.Minus h.item.expr) ∙ ap minus h.is;
      signed = inl refl;
      level = omega arith;
      last = h.last;
      builds = λ z. ap (λ u. (did n.minus_mark).build u) (h.builds (keeps minus_token z));
      dives = sign_dives h.item.written h.item.depth d inside t h.dives (λ ν. refl) h.signed;
      names = node_heads inside h.item.heads (around_heads (kept_token (kind.Symbol 10)) d (did n.minus_mark) h.item.heads (kept_quiet (kind.Symbol 10)) h.names (quiet_did n.minus_mark (λ l a. refl)));
    }

below_is : (b : Bool) (d e : ℕ) → d ≤ e → (if b then d else e) + 1 ≤ e + 1
below_is true d e l = omega (arith, l)
below_is false d e l = omega arith

-- an operand behind a sign
pub minus_operand_read : (d : Doing) → Steady d → Said 8 d → SaidMinus (node ((then) d (did n.minus_mark)))
minus_operand_read d s h =
    let inside = (then) d (did n.minus_mark) in
    let deep = deep_at 8 h.item.written h.item.depth in
    record {
      item = record { written = minus h.item.written; expr = minus_expr h.item.expr; depth = below_minus h.item.written h.item.depth; heads = h.item.heads; spelled = minus_spelled h.item.written h.item.spelled };
      is = written_as (Form-F.Minus h.item.expr) ∙ ap minus h.is;
      signed = inl refl;
      level = omega arith;
      last = h.last;
      builds = λ z. ap (λ u. (did n.minus_mark).build u) (h.builds (keeps minus_token z));
      dives = dives_less (below_minus h.item.written h.item.depth) (deep + 1) (node inside) (below_is h.item.written.negative h.item.depth deep (deep_least 8 h.item.written h.item.depth)) (node_dives deep inside (then_steady _ _ s (did_steady n.minus_mark)) h.dives);
      names = node_heads inside h.item.heads (before_quiet d (did n.minus_mark) h.item.heads h.names (quiet_did n.minus_mark (λ l a. refl)));
    }

pub minus_read : (d : Doing) → SaidMinus d → Said 7 ((then) (kept_token (kind.Symbol 10)) d)
minus_read d h = record {
  item = h.item;
  is = h.is;
  last = h.last;
  builds = h.builds;
  dives = dives_less (deep_at 7 h.item.written h.item.depth) h.item.depth ((then) (kept_token (kind.Symbol 10)) d) (let e : deep_at 7 h.item.written h.item.depth ≡ h.item.depth = deep_own 7 h.item.written h.item.depth h.level in omega (arith, e)) h.dives;
  names = behind_quiet (kept_token (kind.Symbol 10)) d h.item.heads (kept_quiet (kind.Symbol 10)) h.names;
}

-- ---- parentheses

abbrev pub opened : Doing
opened = kept_token (kind.Symbol 12)

deep_most : (b : Bool) (d : ℕ) → (if b then d else d + 1) ≤ d + 1
deep_most true d = omega arith
deep_most false d = omega arith

pub parentheses_read : (d : Doing) → Steady d → SaidWhole d → Said 8 (node ((then) opened ((then) d (closed_by 13 n.parentheses_mark))))
parentheses_read d s h =
    let closing = closed_by 13 n.parentheses_mark in
    let inside = (then) opened ((then) d closing) in
    record {
      item = h.item;
      is = h.is;
      last = token (kind.Symbol 13);
      builds = λ z. ap (λ u. closing.build u) (h.builds (keeps (token (kind.Symbol 12)) z));
      dives = dives_less (deep_at 8 h.item.written h.item.depth) (h.item.depth + 1) (node inside) (deep_most (nat_le 8 h.item.written.level) h.item.depth)
          (node_dives_on h.item.depth inside (then_steady _ _ (kept_steady (kind.Symbol 12)) (then_steady _ _ s (then_steady _ _ (took_steady (kind.Symbol 13)) (did_steady n.parentheses_mark)))) h.dives);
      names = node_heads inside h.item.heads (around_heads opened d closing h.item.heads (kept_quiet (kind.Symbol 12)) h.names (quiet_both _ _ (quiet_took (kind.Symbol 13)) (quiet_did n.parentheses_mark (λ l a. refl))));
    }

-- what opens a tuple's list behind its first part
abbrev begins_tuple : Doing
begins_tuple = (then) (took (kind.Symbol 14)) ((then) (did n.exprs_mark) (did n.add_first_mark))

pub tuple_read : (c d e : Doing) → Steady c → Steady d → Steady e → SaidWhole c → SaidWhole d → SaidAll e →
    Said 8 (node ((then) opened ((then) c ((then) begins_tuple ((then) ((then) d ((then) (did n.add_expr_mark) e)) (did n.tuple_mark))))))
tuple_read c d e s t u x y h =
    let list = all_cons d e u y h in
    let parts = (then) d ((then) (did n.add_expr_mark) e) in
    let parts_steady = then_steady _ _ t (then_steady _ _ (did_steady n.add_expr_mark) u) in
    let more = (then) begins_tuple ((then) parts (did n.tuple_mark)) in
    let more_steady = then_steady _ _ (then_steady _ _ (took_steady (kind.Symbol 14)) (then_steady _ _ (did_steady n.exprs_mark) (did_steady n.add_first_mark))) (then_steady _ _ parts_steady (did_steady n.tuple_mark)) in
    let inside = (then) opened ((then) c more) in
    let items = x.item ∷ y.item ∷ h.items in
    let quiet = quiet_both _ _ (quiet_took (kind.Symbol 14)) (quiet_both _ _ (quiet_did n.exprs_mark (λ l a. refl)) (quiet_did n.add_first_mark (λ l a. refl))) in
    let rest = heads_of (y.item ∷ h.items) in
    record {
      item = record { written = operand (arguments (written_of items)); expr = expression 0 (roll-Form (Form-F.Tuple (exprs_of items))); depth = deepest_of items + 1; heads = heads_of items; spelled = form.tuple_spelled x.item y.item h.items };
      is = written_as (Form-F.Tuple (exprs_of items)) ∙ ap (λ z. operand (arguments (z ∷ map written (exprs_of (y.item ∷ h.items))))) x.is ∙ ap (λ z. operand (arguments (x.item.written ∷ z))) list.are;
      last = list.last (token (kind.Symbol 14));
      builds = λ z.
          ap (λ w. more.build w) (x.builds (keeps (token (kind.Symbol 12)) z))
          ∙ ap (λ w. (did n.tuple_mark).build w) (list.builds (x.item.expr ∷ []) z.state.operands.lists (token (kind.Symbol 14)) (keeps (token (kind.Symbol 12)) z));
      dives = node_dives_on (deepest_of items) inside (then_steady _ _ (kept_steady (kind.Symbol 12)) (then_steady _ _ s more_steady)) (both_dive x.item.depth (deepest_of (y.item ∷ h.items)) c more more_steady x.dives list.dives);
      names = node_heads inside (heads_of items) (behind_quiet opened ((then) c more) (heads_of items) (kept_quiet (kind.Symbol 12))
          (heads_both c more x.item.heads rest more_steady x.names (around_heads begins_tuple parts (did n.tuple_mark) rest quiet list.names (quiet_did n.tuple_mark (λ l a. refl)))));
    }

-- ---- Is_Initial

abbrev opens_initial : Doing
opens_initial = (then) (took (kind.Word (codes "Is_Initial"))) (took (kind.Symbol 12))

pub initial_read : (m d : Doing) → Steady d → SaidName m → SaidWhole d → Said 8 ((then) ((then) m (took (kind.Symbol 17))) (node ((then) opens_initial ((then) d (closed_by 13 n.is_initial_mark)))))
initial_read m d s h x =
    let closing = closed_by 13 n.is_initial_mark in
    let inside = (then) opens_initial ((then) d closing) in
    let dotted = (then) m (took (kind.Symbol 17)) in
    let steady = then_steady _ _ (then_steady _ _ (took_steady (kind.Word (codes "Is_Initial"))) (took_steady (kind.Symbol 12))) (then_steady _ _ s (then_steady _ _ (took_steady (kind.Symbol 13)) (did_steady n.is_initial_mark))) in
    record {
      item = record { written = operand (initial h.name x.item.written); expr = expression 0 (roll-Form (Form-F.Initial h.name x.item.expr)); depth = x.item.depth + 1; heads = h.name ∷ x.item.heads; spelled = form.initial_spelled h.name x.item h.is_name };
      is = written_as (Form-F.Initial h.name x.item.expr) ∙ ap (λ z. operand (initial h.name z)) x.is;
      last = token (kind.Symbol 13);
      builds = λ z.
          ap (λ u. ((then) (took (kind.Symbol 17)) inside).build u) (h.builds z)
          ∙ ap (λ u. closing.build u) (x.builds (record { last = token (kind.Symbol 12); state = (keeps (name_token h.name) z).state }));
      dives = behind_flat (x.item.depth + 1) dotted (node inside) h.flat (node_dives_on x.item.depth inside steady x.dives);
      names = heads_both dotted (node inside) (h.name ∷ []) x.item.heads (node_steady inside steady) (before_quiet m (took (kind.Symbol 17)) (h.name ∷ []) h.names (quiet_took (kind.Symbol 17)))
          (node_heads inside x.item.heads (around_heads opens_initial d closing x.item.heads (quiet_both _ _ (quiet_took (kind.Word (codes "Is_Initial"))) (quiet_took (kind.Symbol 12))) x.names (quiet_both _ _ (quiet_took (kind.Symbol 13)) (quiet_did n.is_initial_mark (λ l a. refl)))));
    }
