-- Where a level of precedence stands, what is spelled at a level above is derived and built.
use Rattle.std.proofs.Common.{◌≡◌, ◌∙◌, refl, subst, ℕ, zero, suc, ◌+◌, ◌<◌, ◌≤◌, List, ◌∷◌, Option, arith}
use Rattle.ll_grammar.specs.declared.form.Move.{Move}
use Rattle.ll_grammar.specs.declared.form.Move.TheVariants.{Expand, Act}
use Rattle.ll_grammar.specs.declared.form.Symbol.{Symbol}
use Rattle.ll_grammar.specs.declared.form.Symbol.TheVariants.{Nonterminal, Action}
use Rattle.ll_grammar.specs.Grammar.{made}
use Rattle.res_ast.specs.declared.expression.Expr.{Expr}
use Rattle.res_lexer.specs.declared.token.Token.{Token}
use Rattle.identifiers.specs.Laws.{PlainAreAscii}
use Rattle.res_lexer.specs.Spaced.{AreApart, Row, spaced}
use Rattle.res_printer.specs.Pieces.{Piece}
use Rattle.round_trip.specs.ReadsBack.{tokens}
use Rattle.res_grammar.specs.Language.{language_rules}
use Rattle.res_grammar.specs.declared.nesting.Nesting.{Nesting}
use Rattle.res_grammar.specs.Numbers as n
use Rattle.expr_parser.specs.Built.{Stage}
use Rattle.module_parser.specs.Spelling.{files}
use Rattle.module_parser.specs.declared.state.State.{State}
use Rattle.round_trip.proofs.Calm.{Around, Calms, Leads, LeadsAt, calm, ended, in_expression, leads_as, named}

abbrev pub At : Type 0
At = Stage State

-- the moves lead from a stack to a stack
abbrev pub Goes : List Move → List Move → List Symbol → List Symbol → List Token → List Token → At → At → Type 0
Goes ms ns ss tt us vs s t = made language_rules files ms ss us s ≡ made language_rules files ns tt vs t

-- the expression has been built,
abbrev pub put : Expr → State → State
put x s = record s { operands = record s.operands { exprs = x ∷ s.operands.exprs } }

-- and this token was the last of it
abbrev pub reached : Expr → Token → At → At
reached x k s = record { last = k; state = put x s.state }

-- ---- levels: 0 implies, 1 or, 2 and, 3 not and comparisons, 4 o, 5 sums, 6 products, 7 minus signs and literals, 8 operands

abbrev pub part_at : ℕ → ℕ
part_at zero = n.expression_part
part_at (suc zero) = n.or_part
part_at (suc (suc zero)) = n.and_part
part_at (suc (suc (suc zero))) = n.not_part
part_at (suc (suc (suc (suc zero)))) = n.concatenation_part
part_at (suc (suc (suc (suc (suc zero))))) = n.sum_part
part_at (suc (suc (suc (suc (suc (suc zero)))))) = n.product_part
part_at (suc (suc (suc (suc (suc (suc (suc zero))))))) = n.unary_part
part_at (suc (suc (suc (suc (suc (suc (suc (suc k)))))))) = n.operand_part

-- a level passes to the next
abbrev pub pass : ℕ → List Move → List Move
pass zero r = Expand n.expression_part 0 ∷ Act n.begin_mark ∷ r
pass (suc zero) r = Expand n.or_part 0 ∷ r
pass (suc (suc zero)) r = Expand n.and_part 0 ∷ r
pass (suc (suc (suc zero))) r = Expand n.not_part 1 ∷ r
pass (suc (suc (suc (suc zero)))) r = Expand n.concatenation_part 0 ∷ r
pass (suc (suc (suc (suc (suc zero))))) r = Expand n.sum_part 0 ∷ r
pass (suc (suc (suc (suc (suc (suc zero)))))) r = Expand n.product_part 0 ∷ r
pass (suc (suc (suc (suc (suc (suc (suc k))))))) r = Expand n.unary_part 2 ∷ r

-- no operator of this level follows
abbrev pub close : ℕ → List Move → List Move
close zero r = r
close (suc zero) r = Expand n.or_rest_part 1 ∷ r
close (suc (suc zero)) r = Expand n.and_rest_part 1 ∷ r
close (suc (suc (suc zero))) r = r
close (suc (suc (suc (suc zero)))) r = Expand n.concatenation_rest_part 1 ∷ r
close (suc (suc (suc (suc (suc zero))))) r = Expand n.sum_rest_part 2 ∷ r
close (suc (suc (suc (suc (suc (suc zero)))))) r = Expand n.product_rest_part 3 ∷ r
close (suc (suc (suc (suc (suc (suc (suc k))))))) r = r

-- after a level was passed: no comparison, and no implication
abbrev pub settle : ℕ → List Move → List Move
settle zero r = Expand n.implies_rest_part 1 ∷ Act n.finish_mark ∷ r
settle (suc zero) r = r
settle (suc (suc zero)) r = r
settle (suc (suc (suc zero))) r = Expand n.compare_rest_part 6 ∷ r
settle (suc (suc (suc (suc k)))) r = r

-- spelled where a level stands, this many levels above its own
abbrev pub open_from : ℕ → ℕ → (List Move → List Move) → List Move → List Move
open_from c zero m r = m r
open_from c (suc d) m r = pass c (open_from (suc c) d m (close (suc c) (settle c r)))

-- what is left of the stack where an operator of the level may follow
abbrev pub tail : ℕ → List Symbol → List Symbol
tail zero ss = ss
tail (suc zero) ss = Nonterminal n.or_rest_part ∷ ss
tail (suc (suc zero)) ss = Nonterminal n.and_rest_part ∷ ss
tail (suc (suc (suc zero))) ss = ss
tail (suc (suc (suc (suc zero)))) ss = Nonterminal n.concatenation_rest_part ∷ ss
tail (suc (suc (suc (suc (suc zero))))) ss = Nonterminal n.sum_rest_part ∷ ss
tail (suc (suc (suc (suc (suc (suc zero)))))) ss = Nonterminal n.product_rest_part ∷ ss
tail (suc (suc (suc (suc (suc (suc (suc k))))))) ss = ss

-- what is left of the stack below the next level
abbrev passed : ℕ → List Symbol → List Symbol
passed zero ss = Nonterminal n.implies_rest_part ∷ Action n.finish_mark ∷ ss
passed (suc zero) ss = Nonterminal n.or_rest_part ∷ ss
passed (suc (suc zero)) ss = Nonterminal n.and_rest_part ∷ ss
passed (suc (suc (suc zero))) ss = Nonterminal n.compare_rest_part ∷ ss
passed (suc (suc (suc (suc zero)))) ss = Nonterminal n.concatenation_rest_part ∷ ss
passed (suc (suc (suc (suc (suc zero))))) ss = Nonterminal n.sum_rest_part ∷ ss
passed (suc (suc (suc (suc (suc (suc zero)))))) ss = Nonterminal n.product_rest_part ∷ ss
passed (suc (suc (suc (suc (suc (suc (suc k))))))) ss = ss

pass_goes : (c : ℕ) (r : List Move) (ss : List Symbol) (us : List Token) (s : At) → c < 8 → Goes (pass c r) r (Nonterminal (part_at c) ∷ ss) (Nonterminal (part_at (suc c)) ∷ passed c ss) us us s s
unfolding language_rules
pass_goes zero r ss us s l = refl
pass_goes (suc zero) r ss us s l = refl
pass_goes (suc (suc zero)) r ss us s l = refl
pass_goes (suc (suc (suc zero))) r ss us s l = refl
pass_goes (suc (suc (suc (suc zero)))) r ss us s l = refl
pass_goes (suc (suc (suc (suc (suc zero))))) r ss us s l = refl
pass_goes (suc (suc (suc (suc (suc (suc zero)))))) r ss us s l = refl
pass_goes (suc (suc (suc (suc (suc (suc (suc zero))))))) r ss us s l = refl
pass_goes (suc (suc (suc (suc (suc (suc (suc (suc c)))))))) r ss us s l = absurd (omega arith)

close_goes : (c : ℕ) (r : List Move) (ss : List Symbol) (us : List Token) (s : At) → Goes (close c r) r (tail c ss) ss us us s s
unfolding language_rules
close_goes zero r ss us s = refl
close_goes (suc zero) r ss us s = refl
close_goes (suc (suc zero)) r ss us s = refl
close_goes (suc (suc (suc zero))) r ss us s = refl
close_goes (suc (suc (suc (suc zero)))) r ss us s = refl
close_goes (suc (suc (suc (suc (suc zero))))) r ss us s = refl
close_goes (suc (suc (suc (suc (suc (suc zero)))))) r ss us s = refl
close_goes (suc (suc (suc (suc (suc (suc (suc c))))))) r ss us s = refl

settle_goes : (c : ℕ) (r : List Move) (ss : List Symbol) (us : List Token) (s : At) → Goes (settle c r) r (passed c ss) (tail c ss) us us s s
unfolding language_rules
settle_goes zero r ss us s = refl
settle_goes (suc zero) r ss us s = refl
settle_goes (suc (suc zero)) r ss us s = refl
settle_goes (suc (suc (suc zero))) r ss us s = refl
settle_goes (suc (suc (suc (suc zero)))) r ss us s = refl
settle_goes (suc (suc (suc (suc (suc zero))))) r ss us s = refl
settle_goes (suc (suc (suc (suc (suc (suc zero)))))) r ss us s = refl
settle_goes (suc (suc (suc (suc (suc (suc (suc c))))))) r ss us s = refl

-- ---- the watches along levels

pass_leads : (c : ℕ) (m : List Move → List Move) (k : ℕ) → ((r : List Move) → Leads (ended (m r)) (ended r) k) → (r : List Move) → LeadsAt c (ended (pass c (m (close (suc c) (settle c r))))) (ended r) k
pass_leads zero m k h r = in_expression (ended (m (close 1 (settle 0 r)))) (ended r) k (h (close 1 (settle 0 r)))
pass_leads (suc zero) m k h r = h (close 2 (settle 1 r))
pass_leads (suc (suc zero)) m k h r = h (close 3 (settle 2 r))
pass_leads (suc (suc (suc zero))) m k h r = h (close 4 (settle 3 r))
pass_leads (suc (suc (suc (suc zero)))) m k h r = h (close 5 (settle 4 r))
pass_leads (suc (suc (suc (suc (suc zero))))) m k h r = h (close 6 (settle 5 r))
pass_leads (suc (suc (suc (suc (suc (suc zero)))))) m k h r = h (close 7 (settle 6 r))
pass_leads (suc (suc (suc (suc (suc (suc (suc c))))))) m k h r = h r

close_ends : (c : ℕ) (r : List Move) (s : Nesting) → ended (close c r) s ≡ ended r s
close_ends zero r s = refl
close_ends (suc zero) r s = refl
close_ends (suc (suc zero)) r s = refl
close_ends (suc (suc (suc zero))) r s = refl
close_ends (suc (suc (suc (suc zero)))) r s = refl
close_ends (suc (suc (suc (suc (suc zero))))) r s = refl
close_ends (suc (suc (suc (suc (suc (suc zero)))))) r s = refl
close_ends (suc (suc (suc (suc (suc (suc (suc c))))))) r s = refl

pass_named : (c : ℕ) (r : List Move) (us : Row) (l : Option (List ℕ)) (a : Around) → named (pass c r) us (calm l a) ≡ named r us (calm l a)
pass_named zero r us l a = refl
pass_named (suc zero) r us l a = refl
pass_named (suc (suc zero)) r us l a = refl
pass_named (suc (suc (suc zero))) r us l a = refl
pass_named (suc (suc (suc (suc zero)))) r us l a = refl
pass_named (suc (suc (suc (suc (suc zero))))) r us l a = refl
pass_named (suc (suc (suc (suc (suc (suc zero)))))) r us l a = refl
pass_named (suc (suc (suc (suc (suc (suc (suc c))))))) r us l a = refl

close_named : (c : ℕ) (r : List Move) (us : Row) (l : Option (List ℕ)) (a : Around) → named (close c r) us (calm l a) ≡ named r us (calm l a)
close_named zero r us l a = refl
close_named (suc zero) r us l a = refl
close_named (suc (suc zero)) r us l a = refl
close_named (suc (suc (suc zero))) r us l a = refl
close_named (suc (suc (suc (suc zero)))) r us l a = refl
close_named (suc (suc (suc (suc (suc zero))))) r us l a = refl
close_named (suc (suc (suc (suc (suc (suc zero)))))) r us l a = refl
close_named (suc (suc (suc (suc (suc (suc (suc c))))))) r us l a = refl

settle_named : (c : ℕ) (r : List Move) (us : Row) (l : Option (List ℕ)) (a : Around) → named (settle c r) us (calm l a) ≡ named r us (calm l a)
settle_named zero r us l a = refl
settle_named (suc zero) r us l a = refl
settle_named (suc (suc zero)) r us l a = refl
settle_named (suc (suc (suc zero))) r us l a = refl
settle_named (suc (suc (suc (suc c)))) r us l a = refl

-- ---- texts of rows

-- This text has a derivation from this level, which leaves this of it and builds the expression. It leads so many nodes deep, and
-- these names head its operands.
pub record Derived (c : ℕ) (left : List Symbol → List Symbol) (text : Piece) (x : Expr) (d : ℕ) (heads : List (List ℕ)) : Type 0 where
  pub moves : List Move → List Move
  pub row : Row → Row
  pub last : Token
  pub name : Option (List ℕ) → Option (List ℕ)
  pub reads : (us : Row) → text (spaced us) ≡ spaced (row us)
  pub goes : (r : List Move) (ss : List Symbol) (us : Row) (s : At) → Goes (moves r) r (Nonterminal (part_at c) ∷ ss) (left ss) (tokens (row us)) (tokens us) s (reached x last s)
  pub nests : (r : List Move) → LeadsAt c (ended (moves r)) (ended r) d
  pub names : (r : List Move) (us : Row) → Calms (named (moves r) (row us)) (named r us) name heads
  pub apart : PlainAreAscii → (us : Row) → AreApart us → AreApart (row us)

-- where an operator of the level may follow, and where none may
abbrev pub Opened : ℕ → Piece → Expr → ℕ → List (List ℕ) → Type 0
Opened c text x d heads = Derived c (tail c) text x d heads

abbrev pub Closed : ℕ → Piece → Expr → ℕ → List (List ℕ) → Type 0
Closed c text x d heads = Derived c (λ ss. ss) text x d heads

-- spelled at a level, this many above
abbrev From : ℕ → ℕ → (List Move → List Move) → (Row → Row) → (At → At) → Type 0
From c d m row done = (r : List Move) (ss : List Symbol) (us : Row) (s : At) → Goes (open_from c d m r) r (Nonterminal (part_at c) ∷ ss) (tail c ss) (tokens (row us)) (tokens us) s (done s)

from_goes : (c d n : ℕ) (m : List Move → List Move) (row : Row → Row) (done : At → At) → n ≤ 8 → c + d ≡ n → From n 0 m row done → From c d m row done
from_goes c zero n m row done l e h =
    let P : ℕ → Type 0 = λ z. From z 0 m row done in
    subst P (let f : n ≡ c = omega arith in f) h
from_goes c (suc d) n m row done l e h = λ r ss us s.
    pass_goes c (open_from (suc c) d m (close (suc c) (settle c r))) ss (tokens (row us)) s (omega arith)
    ∙ from_goes (suc c) d n m row done l (omega arith) h (close (suc c) (settle c r)) (passed c ss) us s
    ∙ close_goes (suc c) (settle c r) (passed c ss) (tokens us) (done s)
    ∙ settle_goes c r ss (tokens us) (done s)

from_leads : (c d n : ℕ) (m : List Move → List Move) (k : ℕ) → c + d ≡ n → ((r : List Move) → LeadsAt n (ended (m r)) (ended r) k) → (r : List Move) → LeadsAt c (ended (open_from c d m r)) (ended r) k
from_leads c zero n m k e h =
    let P : ℕ → Type 0 = λ z. (r : List Move) → LeadsAt z (ended (m r)) (ended r) k in
    subst P (let f : n ≡ c = omega arith in f) h
from_leads c (suc d) n m k e h = pass_leads c (open_from (suc c) d m) k (from_leads (suc c) d n m k (omega arith) h)

from_named : (c d : ℕ) (m : List Move → List Move) (row : Row → Row) (name : Option (List ℕ) → Option (List ℕ)) (heads : List (List ℕ)) → ((r : List Move) (us : Row) → Calms (named (m r) (row us)) (named r us) name heads) → (r : List Move) (us : Row) → Calms (named (open_from c d m r) (row us)) (named r us) name heads
from_named c zero m row name heads h = h
from_named c (suc d) m row name heads h = λ r us l a v.
    pass_named c (open_from (suc c) d m (close (suc c) (settle c r))) (row us) l a
    ∙ from_named (suc c) d m row name heads h (close (suc c) (settle c r)) us l a v
    ∙ close_named (suc c) (settle c r) us (name l) a
    ∙ settle_named c r us (name l) a

pub opened_below : {text : Piece} {x : Expr} {k : ℕ} {heads : List (List ℕ)} (c d n : ℕ) → n ≤ 8 → c + d ≡ n → Opened n text x k heads → Opened c text x k heads
opened_below {text} {x} {k} {heads} c d n l e h = record {
  moves = open_from c d h.moves;
  row = h.row;
  last = h.last;
  name = h.name;
  reads = h.reads;
  goes = from_goes c d n h.moves h.row (reached x h.last) l e h.goes;
  nests = from_leads c d n h.moves k e h.nests;
  names = from_named c d h.moves h.row h.name heads h.names;
  apart = h.apart;
}

pub closed : {text : Piece} {x : Expr} {k : ℕ} {heads : List (List ℕ)} (c : ℕ) → Opened c text x k heads → Closed c text x k heads
closed {text} {x} {k} {heads} c h = record {
  moves = λ r. h.moves (close c r);
  row = h.row;
  last = h.last;
  name = h.name;
  reads = h.reads;
  goes = λ r ss us s. h.goes (close c r) ss us s ∙ close_goes c r ss (tokens us) (reached x h.last s);
  nests = λ r. leads_as c (ended (h.moves (close c r))) (ended (close c r)) (ended r) k (close_ends c r) (h.nests (close c r));
  names = λ r us l a v. h.names (close c r) us l a v ∙ close_named c r us (h.name l) a;
  apart = h.apart;
}
