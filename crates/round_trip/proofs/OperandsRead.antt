-- Operands as they were read: names, words, calls and what stands between symbols.
use Rattle.std.proofs.Common.{◌≡◌, ◌∙◌, sym, ap, refl, subst, ℕ, ◌+◌, max, pos, Bool, true, false, if◌then◌else◌, List, [], ◌∷◌, ◌++◌, Option, Some, None, option_map, codes, append-nil, arith}
use Rattle.res_ast.specs.declared.expression.Expr.{Expr}
use Rattle.res_ast.specs.declared.expression.Form.TheOpen.{Form-F}
use Rattle.res_ast.specs.declared.expression.Form.TheViews.{roll-Form}
use Rattle.res_lexer.specs.Spaced.{IsWritable}
use Rattle.res_lexer.specs.declared.token.Token.{Token}
use Rattle.res_lexer.specs.declared.token.TokenKind.{TokenKind}
use Rattle.res_lexer.specs.declared.token.TokenKind.TheVariants as kind
use Rattle.res_grammar.specs.Classes.{class_of_word}
use Rattle.res_grammar.specs.Numbers as n
use Rattle.res_grammar.specs.OwnName.{OwnNames, answers, own_act, own_step}
use Rattle.res_grammar.specs.ClosingName.{ClosingNames, closing_act, closing_step}
use Rattle.res_grammar.specs.declared.nesting.Nesting.{Nesting}
use Rattle.res_grammar.specs.declared.own_name.Asks.TheVariants.{Any, Other}
use Rattle.expr_parser.specs.Actions.{expression}
use Rattle.res_printer.specs.Pieces.{dotted, row, says}
use Rattle.res_printer.specs.Expressions.{Written, arguments, literal, old, old_dot, operand, truth, written}
use Rattle.round_trip.specs.ReadsBack.{token}
use Rattle.round_trip.proofs.Doing.{Doing, Names, did, nothing_done, then, took}
use Rattle.round_trip.proofs.Steady.{Steady, did_steady, nothing_steady, then_steady, took_steady}
use Rattle.round_trip.proofs.Calm.{Around, calm}
use Rattle.round_trip.proofs.Goes.{At, reached}
use Rattle.round_trip.proofs.Operands.{deep_at, keeps}
use Rattle.round_trip.proofs.Signs.{IsName, Spelled, name_token}
use Rattle.round_trip.proofs.Calls.{IsBuiltIn}
use Rattle.round_trip.proofs.Arguments.{deepest_of, exprs_of, heads_of, written_of}
use Rattle.round_trip.proofs.Forms as form
use Rattle.round_trip.proofs.Said.{DivesOn, Heads, IsCalm, Quiet, Said, SaidAll, SaidBuiltIn, SaidName, SaidWhole, around_heads, before_quiet, behind_flat, behind_quiet, dives_less, flat_dives, heads_both, node, node_dives_on, node_heads, node_steady, on_behind_flat, quiet_both, quiet_did, quiet_heads, quiet_took}
use Rattle.round_trip.proofs.Levels.{written_as}
use Rattle.round_trip.proofs.Lists.{all_behind, all_cons, all_none}

-- ---- literals and words of one token

-- What a token and an action build is an operand.
abbrev plain : (c : ℕ) (w : Written) (x : Expr) (k : TokenKind) (mark : ℕ) → Spelled w x 0 [] → written x ≡ w → deep_at c w 0 ≡ 0 →
    ((s : At) → ((then) (took k) (did mark)).build s ≡ reached x (token k) s) → ((ν : Nesting) → (did mark).nest ν ≡ ν) → ((l : Option (List ℕ)) (a : Around) → (did mark).names (calm l a) ≡ calm l a) →
    Said c ((then) (took k) (did mark))
plain c w x k mark h e f b d q = record {
  item = record { written = w; expr = x; depth = 0; heads = []; spelled = h };
  is = e;
  last = token k;
  builds = b;
  dives = dives_less (deep_at c w 0) 0 ((then) (took k) (did mark)) (let g : deep_at c w 0 ≡ 0 = f in omega (arith, g)) (flat_dives ((then) (took k) (did mark)) d);
  names = quiet_heads ((then) (took k) (did mark)) (quiet_both _ _ (quiet_took k) (quiet_did mark q));
}

pub literal_read : (k : ℕ) → IsWritable (kind.Literal (pos k)) → Said 7 ((then) (took (kind.Literal (pos k))) (did n.literal_mark))
literal_read k w = plain 7 (literal (pos k)) (expression 0 (roll-Form (Form-F.Int (pos k)))) (kind.Literal (pos k)) n.literal_mark (form.int_spelled k w) (written_as (Form-F.Int (pos k))) refl (λ s. refl) (λ ν. refl) (λ l a. refl)

pub true_read : Said 8 ((then) (took (kind.Word (codes "true"))) (did n.true_mark))
true_read = plain 8 (truth true) (expression 0 (roll-Form (Form-F.Truth true))) (kind.Word (codes "true")) n.true_mark form.true_spelled (written_as (Form-F.Truth true)) refl (λ s. refl) (λ ν. refl) (λ l a. refl)

pub false_read : Said 8 ((then) (took (kind.Word (codes "false"))) (did n.false_mark))
false_read = plain 8 (truth false) (expression 0 (roll-Form (Form-F.Truth false))) (kind.Word (codes "false")) n.false_mark form.false_spelled (written_as (Form-F.Truth false)) refl (λ s. refl) (λ ν. refl) (λ l a. refl)

pub min_int_read : Said 8 ((then) (took (kind.Word (codes "min_int"))) (did n.min_int_mark))
min_int_read = plain 8 _ (expression 0 (roll-Form Form-F.MinInt)) (kind.Word (codes "min_int")) n.min_int_mark form.min_int_spelled (written_as Form-F.MinInt) refl (λ s. refl) (λ ν. refl) (λ l a. refl)

pub max_int_read : Said 8 ((then) (took (kind.Word (codes "max_int"))) (did n.max_int_mark))
max_int_read = plain 8 _ (expression 0 (roll-Form Form-F.MaxInt)) (kind.Word (codes "max_int")) n.max_int_mark form.max_int_spelled (written_as Form-F.MaxInt) refl (λ s. refl) (λ ν. refl) (λ l a. refl)

pub empty_read : Said 8 ((then) (took (kind.Word (codes "Empty_String"))) (did n.empty_string_mark))
empty_read = plain 8 _ (expression 0 (roll-Form Form-F.Empty)) (kind.Word (codes "Empty_String")) n.empty_string_mark form.empty_spelled (written_as Form-F.Empty) refl (λ s. refl) (λ ν. refl) (λ l a. refl)

-- ---- names

answered : (b : Bool) (f : OwnNames → OwnNames) (s q : OwnNames) → option_map f (if b then Some s else None) ≡ Some q → b ≡ true
answered true f s q e = refl
answered false f s q e = absurd (let g : None ≡ Some q = e in cc)

abbrev head : List ℕ → Doing
head name = (then) ((then) (did n.head_mark) (took (kind.Word name))) (did n.keep_mark)

headed : (name : List ℕ) → class_of_word name ≡ n.id → (l : Option (List ℕ)) (in_result : Bool) (operation component body : Option (List ℕ)) (q : OwnNames) →
    ((head name).names (calm l (record { operation = operation; in_result = in_result; component = component; body = body }))).own ≡ Some q →
    IsCalm (record { operation = operation; in_result = in_result; component = component; body = body }) (name ∷ []) ((head name).names (calm l (record { operation = operation; in_result = in_result; component = component; body = body })))
headed name c l true operation component body q e =
    let known : OwnNames = record { last = l; operation = operation; in_result = true; asks = Other } in
    let closing : ClosingNames = record { last = l; component = component; operation = body; closes = None } in
    let after : OwnNames = record { last = Some name; operation = operation; in_result = true; asks = Any } in
    let i = answered (answers Other operation name) (own_act n.keep_mark) after q (sym (ap (λ z. option_map (own_act n.keep_mark) (own_step z name known)) c) ∙ e) in
    record {
      last = Some name;
      is =
          ap (λ z. let m : Names = record { own = option_map (own_act n.keep_mark) (own_step z name known); closing = option_map (closing_act n.keep_mark) (closing_step z name closing) } in m) c
          ∙ ap (λ (z : Bool). let m : Names = record { own = option_map (own_act n.keep_mark) (if z then Some after else None); closing = Some (record { last = Some name; component = component; operation = body; closes = None }) } in m) i;
      avoids = (i, tt);
    }
headed name c l false operation component body q e =
    let known : OwnNames = record { last = l; operation = operation; in_result = false; asks = Any } in
    let closing : ClosingNames = record { last = l; component = component; operation = body; closes = None } in
    record {
      last = Some name;
      is = ap (λ z. let m : Names = record { own = option_map (own_act n.keep_mark) (own_step z name known); closing = option_map (closing_act n.keep_mark) (closing_step z name closing) } in m) c;
      avoids = (tt, tt);
    }

pub head_read : (name : List ℕ) → class_of_word name ≡ n.id → IsWritable (kind.Word name) → SaidName (head name)
head_read name c w = record {
  name = name;
  is_name = record { class = c; writable = w };
  builds = λ s. refl;
  flat = λ ν. refl;
  names = λ l a q e. headed name c l a.in_result a.operation a.component a.body q e;
}

-- a word of the language
pub built_in_read : (name : List ℕ) → IsBuiltIn name → SaidBuiltIn ((then) (took (kind.Word name)) (did n.keep_mark))
built_in_read name b = record {
  steady = then_steady _ _ (took_steady (kind.Word name)) (did_steady n.keep_mark);
  name = name;
  is_built_in = b;
  builds = λ s. refl;
  flat = λ ν. refl;
  quiet = quiet_both _ _ (quiet_took (kind.Word name)) (quiet_did n.keep_mark (λ l a. refl));
}

-- behind the name that heads it, what nests nothing is an operand
abbrev behind_name : (m a : Doing) (h : SaidName m) (w : Written) (x : Expr) (l : Token) → Spelled w x 0 (h.name ∷ []) → written x ≡ w → deep_at 8 w 0 ≡ 0 → ((s : At) → a.build (keeps (name_token h.name) s) ≡ reached x l s) → ((ν : Nesting) → a.nest ν ≡ ν) → Quiet a → Said 8 ((then) m a)
behind_name m a h w x l p e f b d q = record {
  item = record { written = w; expr = x; depth = 0; heads = h.name ∷ []; spelled = p };
  is = e;
  last = l;
  builds = λ s. ap (λ z. a.build z) (h.builds s) ∙ b s;
  dives = behind_flat (deep_at 8 w 0) m a h.flat (dives_less (deep_at 8 w 0) 0 a (let g : deep_at 8 w 0 ≡ 0 = f in omega (arith, g)) (flat_dives a d));
  names = before_quiet m a (h.name ∷ []) h.names q;
}

pub word_read : (m : Doing) → SaidName m → Said 8 ((then) m (did n.word_mark))
word_read m h = behind_name m (did n.word_mark) h (operand (says h.name)) (expression 0 (roll-Form (Form-F.Word h.name))) (name_token h.name) (form.word_spelled h.name h.is_name) (written_as (Form-F.Word h.name)) refl (λ s. refl) (λ ν. refl) (quiet_did n.word_mark (λ l a. refl))

-- behind a name a dot and another one
abbrev dot_name : List ℕ → Doing
dot_name name = (then) (took (kind.Symbol 17)) (took (kind.Word name))

dot_name_quiet : (name : List ℕ) → Quiet (dot_name name)
dot_name_quiet name = quiet_both _ _ (quiet_took (kind.Symbol 17)) (quiet_took (kind.Word name))

pub dot_read : (m : Doing) (name : List ℕ) → SaidName m → IsName name → Said 8 ((then) m ((then) (dot_name name) ((then) (did n.keep_mark) (did n.dot_mark))))
dot_read m name h i =
    behind_name m ((then) (dot_name name) ((then) (did n.keep_mark) (did n.dot_mark))) h (operand (dotted h.name name)) (expression 0 (roll-Form (Form-F.Dot h.name name))) (name_token name) (form.dot_spelled h.name name h.is_name i) (written_as (Form-F.Dot h.name name)) refl (λ s. refl) (λ ν. refl)
    (quiet_both _ _ (dot_name_quiet name) (quiet_both _ _ (quiet_did n.keep_mark (λ l a. refl)) (quiet_did n.dot_mark (λ l a. refl))))

-- ---- names of the values before

abbrev pub keeps_old : Doing → Doing
keeps_old m = (then) ((then) (took (kind.Symbol 19)) (did n.keep_mark)) m

-- `#`, a name, and what nests nothing
abbrev old_behind : (m a : Doing) (h : SaidName m) (w : Written) (x : Expr) (l : Token) → Spelled w x 0 (h.name ∷ []) → written x ≡ w → deep_at 8 w 0 ≡ 0 → ((s : At) → a.build (keeps (name_token h.name) (keeps (token (kind.Symbol 19)) s)) ≡ reached x l s) → ((ν : Nesting) → a.nest ν ≡ ν) → Quiet a → Said 8 (keeps_old ((then) m a))
old_behind m a h w x l p e f b d q = record {
  item = record { written = w; expr = x; depth = 0; heads = h.name ∷ []; spelled = p };
  is = e;
  last = l;
  builds = λ s. ap (λ z. a.build z) (h.builds (keeps (token (kind.Symbol 19)) s)) ∙ b s;
  dives = behind_flat (deep_at 8 w 0) m a h.flat (dives_less (deep_at 8 w 0) 0 a (let g : deep_at 8 w 0 ≡ 0 = f in omega (arith, g)) (flat_dives a d));
  names = behind_quiet ((then) (took (kind.Symbol 19)) (did n.keep_mark)) ((then) m a) (h.name ∷ []) (quiet_both _ _ (quiet_took (kind.Symbol 19)) (quiet_did n.keep_mark (λ l b. refl))) (before_quiet m a (h.name ∷ []) h.names q);
}

pub old_read : (m : Doing) → SaidName m → Said 8 (keeps_old ((then) m (did n.old_mark)))
old_read m h = old_behind m (did n.old_mark) h (operand (old h.name)) (expression 0 (roll-Form (Form-F.Old h.name))) (name_token h.name) (form.old_spelled h.name h.is_name) (written_as (Form-F.Old h.name)) refl (λ s. refl) (λ ν. refl) (quiet_did n.old_mark (λ l a. refl))

pub old_dot_read : (m : Doing) (name : List ℕ) → SaidName m → IsName name → Said 8 (keeps_old ((then) m ((then) (dot_name name) (did n.old_dot_mark))))
old_dot_read m name h i =
    old_behind m ((then) (dot_name name) (did n.old_dot_mark)) h (operand (old_dot h.name name)) (expression 0 (roll-Form (Form-F.OldDot h.name name))) (name_token name) (form.old_dot_spelled h.name name h.is_name i) (written_as (Form-F.OldDot h.name name)) refl (λ s. refl) (λ ν. refl)
    (quiet_both _ _ (dot_name_quiet name) (quiet_did n.old_dot_mark (λ l a. refl)))

-- ---- calls

-- what opens the arguments, and what closes them
abbrev opens_list : Doing
opens_list = (then) (took (kind.Symbol 12)) (did n.exprs_mark)

abbrev closes_list : ℕ → Doing
closes_list mark = (then) (took (kind.Symbol 13)) (did mark)

abbrev in_list : Doing → ℕ → Doing
in_list m mark = (then) opens_list ((then) m (closes_list mark))

opens_quiet : Quiet opens_list
opens_quiet = quiet_both _ _ (quiet_took (kind.Symbol 12)) (quiet_did n.exprs_mark (λ l a. refl))

closes_quiet : (mark : ℕ) → ((l : Option (List ℕ)) (a : Around) → (did mark).names (calm l a) ≡ calm l a) → Quiet (closes_list mark)
closes_quiet mark q = quiet_both _ _ (quiet_took (kind.Symbol 13)) (quiet_did mark q)

in_list_steady : (m : Doing) (mark : ℕ) → Steady m → Steady (in_list m mark)
in_list_steady m mark s = then_steady _ _ (then_steady _ _ (took_steady (kind.Symbol 12)) (did_steady n.exprs_mark)) (then_steady _ _ s (then_steady _ _ (took_steady (kind.Symbol 13)) (did_steady mark)))

-- A call: before its node `p`, and in it `b`, then the arguments `m`.
abbrev call_read : (p b m : Doing) (mark : ℕ) (hs : List (List ℕ)) (w : Written) (x : Expr) → Steady b → Steady m → (h : SaidAll m) →
    Spelled w x (deepest_of h.items + 1) (hs ++ heads_of h.items) → written x ≡ w → deep_at 8 w (deepest_of h.items + 1) ≡ deepest_of h.items + 1 →
    ((s : At) → ((then) p (node ((then) b (in_list m mark)))).build s ≡ reached x (token (kind.Symbol 13)) s) →
    ((ν : Nesting) → p.nest ν ≡ ν) → ((ν : Nesting) → b.nest ν ≡ ν) → DivesOn (deepest_of h.items) (in_list m mark) →
    Heads hs p → Quiet b → ((l : Option (List ℕ)) (a : Around) → (did mark).names (calm l a) ≡ calm l a) → Said 8 ((then) p (node ((then) b (in_list m mark))))
call_read p b m mark hs w x sb sm h spelled is own builds flat inner dives names quiet q =
    let d = deepest_of h.items in
    let inside = (then) b (in_list m mark) in
    let s = then_steady b (in_list m mark) sb (in_list_steady m mark sm) in
    record {
      item = record { written = w; expr = x; depth = d + 1; heads = hs ++ heads_of h.items; spelled = spelled };
      is = is;
      last = token (kind.Symbol 13);
      builds = builds;
      dives = dives_less (deep_at 8 w (d + 1)) (d + 1) ((then) p (node inside)) (let g : deep_at 8 w (d + 1) ≡ d + 1 = own in omega (arith, g)) (behind_flat (d + 1) p (node inside) flat (node_dives_on d inside s (on_behind_flat d b (in_list m mark) inner dives)));
      names = heads_both p (node inside) hs (heads_of h.items) (node_steady inside s) names
          (node_heads inside (heads_of h.items) (behind_quiet b (in_list m mark) (heads_of h.items) quiet (around_heads opens_list m (closes_list mark) (heads_of h.items) opens_quiet h.names (closes_quiet mark q))));
    }

pub local_call_read : (m d : Doing) → Steady d → SaidName m → SaidAll d → Said 8 ((then) m (node ((then) nothing_done (in_list d n.call_expr_mark))))
local_call_read m d s h a =
    call_read m nothing_done d n.call_expr_mark (h.name ∷ []) (operand (row (says h.name ∷ arguments (written_of a.items) ∷ []))) (expression 0 (roll-Form (Form-F.Call None h.name (exprs_of a.items)))) nothing_steady s a
    (form.call_spelled h.name a.items h.is_name)
    (written_as (Form-F.Call None h.name (exprs_of a.items)) ∙ ap (λ z. operand (row (says h.name ∷ arguments z ∷ []))) a.are)
    refl
    (λ z. ap (λ u. (node (in_list d n.call_expr_mark)).build u) (h.builds z) ∙ ap (λ u. (closes_list n.call_expr_mark).build u) (a.builds [] z.state.operands.lists (token (kind.Symbol 12)) (keeps (name_token h.name) z)))
    h.flat (λ ν. refl) a.dives h.names (record { last = λ l. l; is = λ l b. refl; own = nothing_steady.own }) (λ l b. refl)

nothing_heads : Heads [] nothing_done
nothing_heads l a q e = record { last = l; is = refl; avoids = tt }

pub built_in_call_read : (b d : Doing) → Steady b → Steady d → SaidBuiltIn b → SaidAll d → Said 8 (node ((then) b (in_list d n.builtin_expr_mark)))
built_in_call_read b d r s h a =
    call_read nothing_done b d n.builtin_expr_mark [] (operand (row (says h.name ∷ arguments (written_of a.items) ∷ []))) (expression 0 (roll-Form (Form-F.Call None h.name (exprs_of a.items)))) r s a
    (form.built_in_spelled h.name a.items h.is_built_in)
    (written_as (Form-F.Call None h.name (exprs_of a.items)) ∙ ap (λ z. operand (row (says h.name ∷ arguments z ∷ []))) a.are)
    refl
    (λ z. ap (λ u. (in_list d n.builtin_expr_mark).build u) (h.builds z) ∙ ap (λ u. (closes_list n.builtin_expr_mark).build u) (a.builds [] z.state.operands.lists (token (kind.Symbol 12)) (keeps (name_token h.name) z)))
    (λ ν. refl) h.flat a.dives nothing_heads h.quiet (λ l b. refl)

abbrev facility_name : Doing → List ℕ → Doing
facility_name m name = (then) m ((then) (dot_name name) (did n.keep_mark))

pub facility_call_read : (m d : Doing) (name : List ℕ) → Steady d → SaidName m → IsName name → SaidAll d → Said 8 ((then) (facility_name m name) (node ((then) nothing_done (in_list d n.call_of_expr_mark))))
facility_call_read m d name s h i a =
    call_read (facility_name m name) nothing_done d n.call_of_expr_mark (h.name ∷ []) (operand (row (dotted h.name name ∷ arguments (written_of a.items) ∷ []))) (expression 0 (roll-Form (Form-F.Call (Some h.name) name (exprs_of a.items)))) nothing_steady s a
    (form.facility_call_spelled h.name name a.items h.is_name i)
    (written_as (Form-F.Call (Some h.name) name (exprs_of a.items)) ∙ ap (λ z. operand (row (dotted h.name name ∷ arguments z ∷ []))) a.are)
    refl
    (λ z. ap (λ u. ((then) ((then) (dot_name name) (did n.keep_mark)) (in_list d n.call_of_expr_mark)).build u) (h.builds z) ∙ ap (λ u. (closes_list n.call_of_expr_mark).build u) (a.builds [] z.state.operands.lists (token (kind.Symbol 12)) (keeps (name_token name) (keeps (name_token h.name) z))))
    h.flat (λ ν. refl) a.dives
    (before_quiet m ((then) (dot_name name) (did n.keep_mark)) (h.name ∷ []) h.names (quiet_both _ _ (dot_name_quiet name) (quiet_did n.keep_mark (λ l b. refl))))
    (record { last = λ l. l; is = λ l b. refl; own = nothing_steady.own }) (λ l b. refl)

pub facility_built_in_read : (m b d : Doing) → Steady b → Steady d → SaidName m → SaidBuiltIn b → SaidAll d → Said 8 ((then) ((then) m (took (kind.Symbol 17))) (node ((then) b (in_list d n.call_of_expr_mark))))
facility_built_in_read m b d r s h i a =
    call_read ((then) m (took (kind.Symbol 17))) b d n.call_of_expr_mark (h.name ∷ []) (operand (row (dotted h.name i.name ∷ arguments (written_of a.items) ∷ []))) (expression 0 (roll-Form (Form-F.Call (Some h.name) i.name (exprs_of a.items)))) r s a
    (form.facility_built_in_spelled h.name i.name a.items h.is_name i.is_built_in)
    (written_as (Form-F.Call (Some h.name) i.name (exprs_of a.items)) ∙ ap (λ z. operand (row (dotted h.name i.name ∷ arguments z ∷ []))) a.are)
    refl
    (λ z.
    ap (λ u. ((then) (took (kind.Symbol 17)) ((then) b (in_list d n.call_of_expr_mark))).build u) (h.builds z)
    ∙ ap (λ u. (in_list d n.call_of_expr_mark).build u) (i.builds (record { last = token (kind.Symbol 17); state = (keeps (name_token h.name) z).state }))
    ∙ ap (λ u. (closes_list n.call_of_expr_mark).build u) (a.builds [] z.state.operands.lists (token (kind.Symbol 12)) (keeps (name_token i.name) (keeps (name_token h.name) z))))
    h.flat i.flat a.dives
    (before_quiet m (took (kind.Symbol 17)) (h.name ∷ []) h.names (quiet_took (kind.Symbol 17)))
    i.quiet (λ l b. refl)

-- ---- the words with a fixed number of arguments

abbrev kept_word : List ℕ → Doing
kept_word name = (then) (took (kind.Word name)) (did n.keep_mark)

kept_word_quiet : (name : List ℕ) → Quiet (kept_word name)
kept_word_quiet name = quiet_both _ _ (quiet_took (kind.Word name)) (quiet_did n.keep_mark (λ l a. refl))

kept_word_steady : (name : List ℕ) → Steady (kept_word name)
kept_word_steady name = then_steady _ _ (took_steady (kind.Word name)) (did_steady n.keep_mark)

word_call_read : (name : List ℕ) (d : Doing) → Steady d → (a : SaidAll d) → Spelled (operand (row (says name ∷ arguments (written_of a.items) ∷ []))) (expression 0 (roll-Form (Form-F.Call None name (exprs_of a.items)))) (deepest_of a.items + 1) (heads_of a.items) → Said 8 (node ((then) (kept_word name) (in_list d n.builtin_expr_mark)))
word_call_read name d s a p =
    call_read nothing_done (kept_word name) d n.builtin_expr_mark [] (operand (row (says name ∷ arguments (written_of a.items) ∷ []))) (expression 0 (roll-Form (Form-F.Call None name (exprs_of a.items)))) (kept_word_steady name) s a p
    (written_as (Form-F.Call None name (exprs_of a.items)) ∙ ap (λ z. operand (row (says name ∷ arguments z ∷ []))) a.are)
    refl
    (λ z. ap (λ u. (closes_list n.builtin_expr_mark).build u) (a.builds [] z.state.operands.lists (token (kind.Symbol 12)) (keeps (name_token name) z)))
    (λ ν. refl) (λ ν. refl) a.dives nothing_heads (kept_word_quiet name) (λ l b. refl)

spelled_by : (w : Written) (x : Expr) (d e : ℕ) (xs ys : List (List ℕ)) → d ≡ e → xs ≡ ys → Spelled w x d xs → Spelled w x e ys
spelled_by w x d e xs ys p q h = subst (λ z. Spelled w x e z) q (subst (λ z. Spelled w x z xs) p h)

pub reverse_read : (d : Doing) → Steady d → SaidWhole d → Said 8 (node ((then) (kept_word (codes "Reverse")) (in_list ((then) d (did n.add_expr_mark)) n.builtin_expr_mark)))
reverse_read d s x =
    word_call_read (codes "Reverse") ((then) d ((then) (did n.add_expr_mark) nothing_done)) (then_steady _ _ s (did_steady n.add_expr_mark)) (all_cons d nothing_done nothing_steady x all_none)
    (spelled_by (operand (row (says (codes "Reverse") ∷ arguments (x.item.written ∷ []) ∷ []))) (expression 0 (roll-Form (Form-F.Call None (codes "Reverse") (x.item.expr ∷ [])))) (x.item.depth + 1) (max x.item.depth 0 + 1) x.item.heads (x.item.heads ++ []) (omega arith) (sym (append-nil x.item.heads)) (form.reverse_spelled x.item))

abbrev added : Doing → Doing → Doing
added d e = (then) d ((then) (did n.add_expr_mark) e)

abbrev comma : Doing → Doing
comma d = (then) (took (kind.Symbol 14)) d

added_steady : (d e : Doing) → Steady d → Steady e → Steady (added d e)
added_steady d e s t = then_steady _ _ s (then_steady _ _ (did_steady n.add_expr_mark) t)

comma_steady : (d : Doing) → Steady d → Steady (comma d)
comma_steady d s = then_steady _ _ (took_steady (kind.Symbol 14)) s

pub prt_btwn_read : (c d e : Doing) → Steady c → Steady d → Steady e → SaidWhole c → SaidWhole d → SaidWhole e → Said 8 (node ((then) (kept_word (codes "Prt_Btwn")) (in_list (added c (comma (added d (comma (added e nothing_done))))) n.builtin_expr_mark)))
prt_btwn_read c d e s t u x y z =
    let v = comma_steady _ (added_steady e nothing_done u nothing_steady) in
    let w = comma_steady _ (added_steady d (comma (added e nothing_done)) t v) in
    word_call_read (codes "Prt_Btwn") (added c (comma (added d (comma (added e nothing_done))))) (added_steady c (comma (added d (comma (added e nothing_done)))) s w)
    (all_cons c (comma (added d (comma (added e nothing_done)))) w x
    (all_behind (kind.Symbol 14) (added d (comma (added e nothing_done)))
    (all_cons d (comma (added e nothing_done)) v y
    (all_behind (kind.Symbol 14) (added e nothing_done)
    (all_cons e nothing_done nothing_steady z all_none)))))
    (spelled_by (operand (row (says (codes "Prt_Btwn") ∷ arguments (x.item.written ∷ y.item.written ∷ z.item.written ∷ []) ∷ []))) (expression 0 (roll-Form (Form-F.Call None (codes "Prt_Btwn") (x.item.expr ∷ y.item.expr ∷ z.item.expr ∷ [])))) (deepest_of (x.item ∷ y.item ∷ z.item ∷ []) + 1) (deepest_of (x.item ∷ y.item ∷ z.item ∷ []) + 1) (heads_of (x.item ∷ y.item ∷ z.item ∷ [])) (heads_of (x.item ∷ y.item ∷ z.item ∷ [])) refl refl (form.prt_btwn_spelled x.item y.item z.item))
