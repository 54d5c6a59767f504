-- What is claimed of the parts of expressions holds of each of their ways.
use Rattle.std.proofs.Common.{ℕ, ◌==◌, Bool, true, false, List, codes, arith}
use Rattle.ll_grammar.specs.Grammar as grammar
use Rattle.res_ast.specs.declared.expression.BinOp.TheVariants as op
use Rattle.res_lexer.specs.declared.token.TokenKind.TheVariants as kind
use Rattle.res_grammar.specs.Language.{language_rules}
use Rattle.res_grammar.specs.Numbers as n
use Rattle.round_trip.proofs.Doing.{Doing, did, then, took}
use Rattle.round_trip.proofs.Chains.{Claim, Ways}
use Rattle.round_trip.proofs.Steady.{Steady, then_steady}
use Rattle.round_trip.proofs.Signs.{IsName}
use Rattle.round_trip.proofs.Calls.{at_end_built_in, read_built_in, remaining_built_in, swap_entry_built_in, write_built_in}
use Rattle.round_trip.proofs.Said.{After, Said, SaidAll, SaidBuiltIn, SaidMinus, SaidName, SaidSum, SaidWhole, node, said_lower, said_whole}
use Rattle.round_trip.proofs.Levels.{go_on, operated, whole_read}
use Rattle.round_trip.proofs.Lists.{all_behind, all_cons, all_ended, all_none}
use Rattle.round_trip.proofs.OperandsRead.{built_in_call_read, built_in_read, dot_read, empty_read, facility_built_in_read, facility_call_read, false_read, head_read, keeps_old, literal_read, local_call_read, max_int_read, min_int_read, old_dot_read, old_read, prt_btwn_read, reverse_read, true_read, word_read}
use Rattle.round_trip.proofs.Enclosed.{bars_read, initial_read, minus_literal_read, minus_minus_read, minus_operand_read, minus_read, not_read, opened, parentheses_read, single_read, tuple_read}

-- ---- what is claimed of parts that go on behind others

-- behind an opening parenthesis and an expression
abbrev AfterOpened : Doing → Type 0
AfterOpened m = (d : Doing) → Steady d → SaidWhole d → Said 8 (node (then opened (then d m)))

-- behind `#` and a name
abbrev AfterOld : Doing → Type 0
AfterOld m = (d : Doing) → Steady d → SaidName d → Said 8 (keeps_old (then d m))

-- behind a name
abbrev AfterName : Doing → Type 0
AfterName m = (d : Doing) → Steady d → SaidName d → Said 8 (then d m)

-- behind a name and a dot
abbrev AfterDot : Doing → Type 0
AfterDot m = (d : Doing) → Steady d → SaidName d → Said 8 (then d (then (took (kind.Symbol 17)) m))

-- behind two names and the dot between them
abbrev AfterDotted : Doing → Type 0
AfterDotted m = (d : Doing) → Steady d → SaidName d → (name : List ℕ) → IsName name → Said 8 (then d (then (took (kind.Symbol 17)) (then (took (kind.Word name)) (then (did n.keep_mark) m))))

abbrev choose : Bool → (Doing → Type 0) → (Doing → Type 0) → Doing → Type 0
choose true p q = p
choose false p q = q

abbrev Nothing : Doing → Type 0
Nothing m = Unit {0}

abbrev pub said : Claim
said x =
    choose (x == n.builtin_part) SaidBuiltIn (
    choose (x == n.expressions_part) SaidAll (
    choose (x == n.more_expressions_part) SaidAll (
    choose (x == n.expression_part) SaidWhole (
    choose (x == n.implies_rest_part) (After 1 0) (
    choose (x == n.or_part) (Said 1) (
    choose (x == n.or_rest_part) (After 1 1) (
    choose (x == n.and_part) (Said 2) (
    choose (x == n.and_rest_part) (After 2 2) (
    choose (x == n.not_part) (Said 3) (
    choose (x == n.compare_rest_part) (After 4 3) (
    choose (x == n.concatenation_part) SaidSum (
    choose (x == n.concatenation_rest_part) (After 4 4) (
    choose (x == n.sum_part) (Said 5) (
    choose (x == n.sum_rest_part) (After 5 5) (
    choose (x == n.product_part) (Said 6) (
    choose (x == n.product_rest_part) (After 6 6) (
    choose (x == n.unary_part) (Said 7) (
    choose (x == n.after_minus_part) SaidMinus (
    choose (x == n.operand_part) (Said 8) (
    choose (x == n.parentheses_rest_part) AfterOpened (
    choose (x == n.tuple_rest_part) SaidAll (
    choose (x == n.old_rest_part) AfterOld (
    choose (x == n.operand_rest_part) AfterName (
    choose (x == n.operand_dot_part) AfterDot (
    choose (x == n.dot_rest_part) AfterDotted (
    choose (x == n.head_name_part) SaidName Nothing))))))))))))))))))))))))))

abbrev pub Hold : ℕ → Type 0
Hold x = Ways said x (grammar.row language_rules x)

-- ---- lists

pub builtin_ways : Hold n.builtin_part
unfolding language_rules
builtin_ways = (
  built_in_read (codes "Read") read_built_in,
  (
    built_in_read (codes "Write") write_built_in,
    (
      built_in_read (codes "At_End") at_end_built_in,
      (
        built_in_read (codes "Remaining") remaining_built_in,
        (
          built_in_read (codes "Swap_Entry") swap_entry_built_in,
          tt,
        ),
      ),
    ),
  ),
)

pub expressions_ways : Hold n.expressions_part
unfolding language_rules
expressions_ways = ((λ d s x e t h. all_cons d e t x h), (all_none, tt))

pub more_expressions_ways : Hold n.more_expressions_part
unfolding language_rules
more_expressions_ways = ((λ d s x e t h. all_behind (kind.Symbol 14) (then d (then (did n.add_expr_mark) e)) (all_cons d e t x h)), (all_none, tt))

-- ---- levels

pub expression_ways : Hold n.expression_part
unfolding language_rules
expression_ways = ((λ d s x e t k. whole_read d e s t x k), tt)

pub implies_rest_ways : Hold n.implies_rest_part
unfolding language_rules
implies_rest_ways = ((λ d s x m t y. operated op.Implies m d s y (said_whole d x)), ((λ m t y. said_lower 0 1 m (omega arith) y), tt))

pub or_ways : Hold n.or_part
unfolding language_rules
or_ways = ((λ d s x e t k. k d s (said_lower 1 2 d (omega arith) x)), tt)

pub or_rest_ways : Hold n.or_rest_part
unfolding language_rules
or_rest_ways = ((λ d s x e t k m u y. go_on op.Or m d e u s y x k), ((λ m u y. y), tt))

pub and_ways : Hold n.and_part
unfolding language_rules
and_ways = ((λ d s x e t k. k d s (said_lower 2 3 d (omega arith) x)), tt)

pub and_rest_ways : Hold n.and_rest_part
unfolding language_rules
and_rest_ways = ((λ d s x e t k m u y. go_on op.And m d e u s y x k), ((λ m u y. y), tt))

pub not_ways : Hold n.not_part
unfolding language_rules
not_ways = ((λ d s x. not_read d s x), ((λ d s x e t k. k d s x.said), tt))

pub compare_rest_ways : Hold n.compare_rest_part
unfolding language_rules
compare_rest_ways = (
  (λ d s x m t y. operated op.Eq m d s y x.said),
  (
    (λ d s x m t y. operated op.NotEq m d s y x.said),
    (
      (λ d s x m t y. operated op.Less m d s y x.said),
      (
        (λ d s x m t y. operated op.LessEq m d s y x.said),
        (
          (λ d s x m t y. operated op.Greater m d s y x.said),
          (
            (λ d s x m t y. operated op.GreaterEq m d s y x.said),
            ((λ m t y. said_lower 3 4 m (omega arith) y), tt),
          ),
        ),
      ),
    ),
  ),
)

pub concatenation_ways : Hold n.concatenation_part
unfolding language_rules
concatenation_ways = ((λ d s x e t k. record { steady = then_steady _ _ s t; said = k d s (said_lower 4 5 d (omega arith) x) }), tt)

pub concatenation_rest_ways : Hold n.concatenation_rest_part
unfolding language_rules
concatenation_rest_ways = ((λ d s x e t k m u y. go_on op.Cat m d e u s y x k), ((λ m u y. y), tt))

pub sum_ways : Hold n.sum_part
unfolding language_rules
sum_ways = ((λ d s x e t k. k d s (said_lower 5 6 d (omega arith) x)), tt)

pub sum_rest_ways : Hold n.sum_rest_part
unfolding language_rules
sum_rest_ways = (
  (λ d s x e t k m u y. go_on op.Add m d e u s y x k),
  (
    (λ d s x e t k m u y. go_on op.Sub m d e u s y x k),
    ((λ m u y. y), tt),
  ),
)

pub product_ways : Hold n.product_part
unfolding language_rules
product_ways = ((λ d s x e t k. k d s (said_lower 6 7 d (omega arith) x)), tt)

pub product_rest_ways : Hold n.product_rest_part
unfolding language_rules
product_rest_ways = (
  (λ d s x e t k m u y. go_on op.Mul m d e u s y x k),
  (
    (λ d s x e t k m u y. go_on op.Div m d e u s y x k),
    (
      (λ d s x e t k m u y. go_on op.Mod m d e u s y x k),
      ((λ m u y. y), tt),
    ),
  ),
)

pub unary_ways : Hold n.unary_part
unfolding language_rules
unary_ways = ((λ d s x. minus_read d x), ((λ k w. literal_read k w), ((λ d s x. said_lower 7 8 d (omega arith) x), tt)))

pub after_minus_ways : Hold n.after_minus_part
unfolding language_rules
after_minus_ways = ((λ d s x. minus_minus_read d s x), ((λ k w. minus_literal_read k w), ((λ d s x. minus_operand_read d s x), tt)))

-- ---- operands

pub operand_ways : Hold n.operand_part
unfolding language_rules
operand_ways = (
  true_read,
  (
    false_read,
    (
      min_int_read,
      (
        max_int_read,
        (
          empty_read,
          (
            (λ d s x e t k. k d s x),
            (
              (λ d s x e t k. k d s x),
              (
                (λ b r x d s a. built_in_call_read b d r s x a),
                (
                  (λ d s x. reverse_read d s x),
                  (
                    (λ c s x d t y e u z. prt_btwn_read c d e s t u x y z),
                    (
                      (λ d s x. bars_read d s x.said),
                      (
                        (λ d s x. single_read d s x.said),
                        (
                          (λ d s x e t k. k d s x),
                          tt,
                        ),
                      ),
                    ),
                  ),
                ),
              ),
            ),
          ),
        ),
      ),
    ),
  ),
)

pub parentheses_rest_ways : Hold n.parentheses_rest_part
unfolding language_rules
parentheses_rest_ways = ((λ d s x. parentheses_read d s x), ((λ d t y e u h c s x. tuple_read c d e s t u x y h), tt))

pub tuple_rest_ways : Hold n.tuple_rest_part
unfolding language_rules
tuple_rest_ways = ((λ d s x e t h. all_behind (kind.Symbol 14) (then d (then (did n.add_expr_mark) e)) (all_cons d e t x h)), (all_ended (kind.Symbol 13), tt))

pub old_rest_ways : Hold n.old_rest_part
unfolding language_rules
old_rest_ways = ((λ name c w d s x. old_dot_read d name x (record { class = c; writable = w })), ((λ d s x. old_read d x), tt))

pub operand_rest_ways : Hold n.operand_rest_part
unfolding language_rules
operand_rest_ways = ((λ a s h d t x. local_call_read d a s x h), ((λ e t k d s x. k d s x), ((λ d s x. word_read d x), tt)))

pub operand_dot_ways : Hold n.operand_dot_part
unfolding language_rules
operand_dot_ways = (
  (λ name c w e t k d s x. k d s x name (record { class = c; writable = w })),
  (
    (λ b r i a s h m u x. facility_built_in_read m b a r s x i h),
    (
      (λ d s y m u x. initial_read m d s x y),
      tt,
    ),
  ),
)

pub dot_rest_ways : Hold n.dot_rest_part
unfolding language_rules
dot_rest_ways = ((λ a s h m u x name i. facility_call_read m a name s x i h), ((λ m u x name i. dot_read m name x i), tt))

pub head_name_ways : Hold n.head_name_part
unfolding language_rules
head_name_ways = ((λ name c w. head_read name c w), tt)
