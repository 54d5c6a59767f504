-- What every doing keeps: the deepest place is never forgotten, and a watch that refused goes on to refuse.
use Rattle.std.proofs.Common.{◌≡◌, ap, ℕ, ◌-◌, ◌≤◌, max, Bool, true, false, ◌==◌, if◌then◌else◌, Option, None, option_map, arith}
use Rattle.ll_grammar.specs.Watch.{and_then}
use Rattle.res_lexer.specs.declared.token.TokenKind.{TokenKind}
use Rattle.res_grammar.specs.Nesting.{begun, entered, finished, nesting_act, operands_met, operator_met, raised}
use Rattle.res_grammar.specs.OwnName.{own_act}
use Rattle.res_grammar.specs.ClosingName.{closing_act}
use Rattle.res_grammar.specs.Numbers as n
use Rattle.res_grammar.specs.declared.nesting.Nesting.{Nesting}
use Rattle.round_trip.proofs.Doing.{Doing, Names, did, nothing_done, then, took}

pub record Steady (m : Doing) : Type 0 where
  pub grows : (ν : Nesting) → ν.deepest ≤ (m.nest ν).deepest
  pub own : (q : Names) → q.own ≡ None → (m.names q).own ≡ None
  pub closing : (q : Names) → q.closing ≡ None → (m.names q).closing ≡ None

pub nothing_steady : Steady nothing_done
nothing_steady = record { grows = λ ν. omega arith; own = λ q e. e; closing = λ q e. e }

pub then_steady : (a b : Doing) → Steady a → Steady b → Steady ((then) a b)
then_steady a b h k = record {
  grows = λ ν. let f : ν.deepest ≤ (a.nest ν).deepest = h.grows ν in let g : (a.nest ν).deepest ≤ (b.nest (a.nest ν)).deepest = k.grows (a.nest ν) in omega (arith, f, g);
  own = λ q e. k.own (a.names q) (h.own q e);
  closing = λ q e. k.closing (a.names q) (h.closing q e);
}

-- ---- tokens

stays_none : {A B : Type 0} (f : A → Option B) (o : Option A) → o ≡ None → and_then o f ≡ None
stays_none f o e = ap (λ z. and_then z f) e

pub took_steady : (k : TokenKind) → Steady (took k)
took_steady k = record { grows = λ ν. omega arith; own = λ q e. stays_none _ q.own e; closing = λ q e. stays_none _ q.closing e }

-- ---- actions

-- the deepest place is no less deep
abbrev Good : Nesting → Nesting → Type 0
Good ν μ = ν.deepest ≤ μ.deepest

either : (b : Bool) (ν μ θ : Nesting) → Good ν μ → Good ν θ → Good ν (if b then μ else θ)
either true ν μ θ h k = h
either false ν μ θ h k = k

act_good : (a : ℕ) (ν : Nesting) → Good ν (nesting_act a ν)
act_good a ν =
    either (a == n.enter_mark) ν (entered ν) _ (let f : ν.deepest ≤ max ν.deepest (raised ν.depth) = omega arith in f)
    (either (a == n.leave_mark) ν (record ν { depth = ν.depth - 1 }) _ (omega arith)
    (either (a == n.begin_mark) ν (begun ν) _ (omega arith)
    (either (a == n.finish_mark) ν (finished ν) _ (omega arith)
    (either (a == n.operator_mark) ν (operator_met ν) _ (let f : ν.deepest ≤ max ν.deepest (raised ν.deep) = omega arith in f)
    (either (a == n.operated_mark) ν (operands_met ν) ν (omega arith) (omega arith))))))

pub did_steady : (a : ℕ) → Steady (did a)
did_steady a = record { grows = λ ν. act_good a ν; own = λ q e. ap (λ z. option_map (own_act a) z) e; closing = λ q e. ap (λ z. option_map (closing_act a) z) e }
