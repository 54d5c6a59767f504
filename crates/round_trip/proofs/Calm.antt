-- What the moves of an expression do to the watches: how many nodes deep they lead, and what they leave known of names.
use Rattle.std.proofs.Common.{◌≡◌, ◌∙◌, ap, refl, ℕ, zero, suc, ◌+◌, ◌-◌, ◌≤◌, max, min, Bool, true, false, if◌then◌else◌, List, [], ◌∷◌, ◌++◌, map, Option, Some, None, arith}
use Rattle.ll_grammar.specs.declared.form.Move.{Move}
use Rattle.ll_grammar.specs.declared.form.Move.TheVariants.{Shift, Expand, Act}
use Rattle.res_lexer.specs.declared.token.TokenKind.{TokenKind}
use Rattle.res_lexer.specs.declared.token.TokenKind.TheVariants as kind
use Rattle.res_lexer.specs.Spaced.{Row}
use Rattle.res_grammar.specs.Classes.{class_of_word}
use Rattle.res_grammar.specs.ClosingName.{closing_step}
use Rattle.res_grammar.specs.Nesting.{begun, entered, finished, nesting_act, operands_met, operator_met}
use Rattle.res_grammar.specs.Numbers as n
use Rattle.res_grammar.specs.OwnName.{answers, own_step}
use Rattle.res_grammar.specs.declared.nesting.Nesting.{Nesting}
use Rattle.res_grammar.specs.declared.own_name.Asks.TheVariants.{Any, Other}
use Rattle.round_trip.proofs.Doing.{Names, did, doing, took}

-- ---- depths

abbrev pub nest : ℕ → ℕ → List ℕ → ℕ → Nesting
nest depth deep saved deepest = record { depth = depth; deep = deep; saved = saved; deepest = deepest }

-- what the actions among the moves do to the depths
abbrev pub ended : List Move → Nesting → Nesting
ended [] s = s
ended (Shift ∷ ms) s = ended ms s
ended (Expand x w ∷ ms) s = ended ms s
ended (Act a ∷ ms) s = ended ms (nesting_act a s)

-- which is what all they do to them
pub nests_alike : (ms : List Move) (ks : List TokenKind) (s : Nesting) → (doing ms ks).nest s ≡ ended ms s
nests_alike [] ks s = refl
nests_alike (Shift ∷ ms) [] s = nests_alike ms [] s
nests_alike (Shift ∷ ms) (k ∷ ks) s = nests_alike ms ks s
nests_alike (Expand x w ∷ ms) ks s = nests_alike ms ks s
nests_alike (Act a ∷ ms) ks s = nests_alike ms ks (nesting_act a s)

-- Where nothing of an expression is finished, the one leads so many nodes deep, and then does what the other does.
abbrev pub Leads : (Nesting → Nesting) → (Nesting → Nesting) → ℕ → Type 0
Leads f h d = (δ t : ℕ) (saved : List ℕ) → δ + d ≤ 200 → δ ≤ t → f (nest δ δ saved t) ≡ h (nest δ (δ + d) saved (max t (δ + d)))

-- An expression of any level leads so deep behind others too.
abbrev pub LeadsOn : (Nesting → Nesting) → (Nesting → Nesting) → ℕ → Type 0
LeadsOn f h d = (δ e t : ℕ) (saved : List ℕ) → δ + d ≤ 200 → δ ≤ t → f (nest δ e saved t) ≡ h (nest δ (max e (δ + d)) saved (max t (δ + d)))

abbrev pub LeadsAt : ℕ → (Nesting → Nesting) → (Nesting → Nesting) → ℕ → Type 0
LeadsAt zero f h d = LeadsOn f h d
LeadsAt (suc c) f h d = Leads f h d

-- Expressions one behind the other, as deep as the deepest.
abbrev pub LeadsAll : (Nesting → Nesting) → (Nesting → Nesting) → ℕ → Type 0
LeadsAll f h d = (δ e t : ℕ) (saved : List ℕ) → δ + d ≤ 200 → δ ≤ t → δ ≤ e → f (nest δ e saved t) ≡ h (nest δ (max e (δ + d)) saved (max t (δ + d)))

-- the same depths in other numbers
pub same_nest : (f : Nesting → Nesting) (a b c d : ℕ) (saved : List ℕ) (e k : ℕ) → a ≡ b → c ≡ d → e ≡ k → f (nest a c saved e) ≡ f (nest b d saved k)
same_nest f a b c d saved e k p q r =
    ap (λ z. f (nest z c saved e)) p ∙ ap (λ z. f (nest b z saved e)) q ∙ ap (λ z. f (nest b d saved z)) r

pub at_rest : (c : ℕ) (f h : Nesting → Nesting) (d : ℕ) → LeadsAt c f h d → Leads f h d
at_rest zero f h d p = λ δ t saved l k. p δ δ t saved l k ∙ same_nest h δ δ (max δ (δ + d)) (δ + d) saved (max t (δ + d)) (max t (δ + d)) refl (omega arith) refl
at_rest (suc c) f h d p = p

pub leads_as : (c : ℕ) (f g h : Nesting → Nesting) (d : ℕ) → ((s : Nesting) → g s ≡ h s) → LeadsAt c f g d → LeadsAt c f h d
leads_as zero f g h d e p = λ δ k t saved l m. p δ k t saved l m ∙ e _
leads_as (suc c) f g h d e p = λ δ t saved l m. p δ t saved l m ∙ e _

pub leads_nowhere : (h : Nesting → Nesting) → Leads h h 0
leads_nowhere h = λ δ t saved l k. same_nest h δ δ δ (δ + 0) saved t (max t (δ + 0)) refl (omega arith) (omega arith)

-- the node closes
abbrev pub left : Nesting → Nesting
left s = record s { depth = s.depth - 1 }

-- Nodes in a node: these lead one deeper from outside.
pub in_node : (f h : Nesting → Nesting) (d : ℕ) → Leads f (λ s. h (left s)) d → Leads (λ s. f (entered s)) h (d + 1)
in_node f h d inner = λ δ t saved l k.
    same_nest f (min (δ + 1) 201) (δ + 1) (max δ (min (δ + 1) 201)) (δ + 1) saved (max t (min (δ + 1) 201)) (max t (δ + 1)) (omega (arith, l)) (omega (arith, l)) (omega (arith, l))
    ∙ inner (δ + 1) (max t (δ + 1)) saved (omega (arith, l)) (omega arith)
    ∙ same_nest h (δ + 1 - 1) δ (δ + 1 + d) (δ + (d + 1)) saved (max (max t (δ + 1)) (δ + 1 + d)) (max t (δ + (d + 1))) (omega arith) (omega arith) (omega arith)

pub all_at_rest : (f h : Nesting → Nesting) (d : ℕ) → LeadsAll f h d → Leads f h d
all_at_rest f h d p = λ δ t saved l k. p δ δ t saved l k (omega arith) ∙ same_nest h δ δ (max δ (δ + d)) (δ + d) saved (max t (δ + d)) (max t (δ + d)) refl (omega arith) refl

-- the arguments of a call
pub in_call : (f h : Nesting → Nesting) (d : ℕ) → LeadsAll f (λ s. h (left s)) d → Leads (λ s. f (entered s)) h (d + 1)
in_call f h d inner = in_node f h d (all_at_rest f (λ s. h (left s)) d inner)

-- one expression in parentheses of a call
pub in_argument : (f h : Nesting → Nesting) (d : ℕ) → LeadsOn f (λ s. h (left s)) d → Leads (λ s. f (entered s)) h (d + 1)
in_argument f h d inner = in_node f h d (at_rest 0 f (λ s. h (left s)) d inner)

-- An expression of the weakest level goes on from wherever it begins.
pub in_expression : (f h : Nesting → Nesting) (d : ℕ) → Leads f (λ s. h (finished s)) d → LeadsOn (λ s. f (begun s)) h d
in_expression f h d inner = λ δ e t saved l k. inner δ t (e ∷ saved) l k

-- An operator between two operands: the left one goes one deeper when it is finished, and the right one begins one deeper.
pub in_operator : (f g h : Nesting → Nesting) (d e : ℕ) → Leads f (λ s. g (operator_met s)) d → Leads g (λ s. h (operands_met s)) e → Leads f h (max d e + 1)
in_operator f g h d e one other = λ δ t saved l k.
    one δ t saved (omega (arith, l)) k
    ∙ same_nest g (min (δ + 1) 201) (δ + 1) (min (δ + 1) 201) (δ + 1) (min (δ + d + 1) 201 ∷ saved) (max (max t (δ + d)) (min (δ + d + 1) 201)) (max t (δ + d + 1)) (omega (arith, l)) (omega (arith, l)) (omega (arith, l))
    ∙ other (δ + 1) (max t (δ + d + 1)) (min (δ + d + 1) 201 ∷ saved) (omega (arith, l)) (omega arith)
    ∙ same_nest h (δ + 1 - 1) δ (max (min (δ + d + 1) 201) (δ + 1 + e)) (δ + (max d e + 1)) saved (max (max t (δ + d + 1)) (δ + 1 + e)) (max t (δ + (max d e + 1))) (omega arith) (omega (arith, l)) (omega arith)

-- One behind the other.
pub leads_both : (f g h : Nesting → Nesting) (d e : ℕ) → LeadsOn f g d → LeadsAll g h e → LeadsAll f h (max d e)
leads_both f g h d e one other = λ δ c t saved l k m.
    one δ c t saved (omega (arith, l)) k
    ∙ other δ (max c (δ + d)) (max t (δ + d)) saved (omega (arith, l)) (omega arith) (omega arith)
    ∙ same_nest h δ δ (max (max c (δ + d)) (δ + e)) (max c (δ + max d e)) saved (max (max t (δ + d)) (δ + e)) (max t (δ + max d e)) refl (omega arith) (omega arith)

pub leads_no_more : (h : Nesting → Nesting) → LeadsAll h h 0
leads_no_more h = λ δ e t saved l k m. same_nest h δ δ e (max e (δ + 0)) saved t (max t (δ + 0)) refl (omega arith) (omega arith)

-- ---- names

-- what the tokens and actions on the way of the moves do to what is known of names
abbrev pub named : List Move → Row → Names → Names
named [] us s = s
named (Shift ∷ ms) [] s = named ms [] s
named (Shift ∷ ms) ((k, blanks) ∷ us) s = named ms us ((took k).names s)
named (Expand x w ∷ ms) us s = named ms us s
named (Act a ∷ ms) us s = named ms us ((did a).names s)

-- which is all that they do to it
pub names_alike : (ms : List Move) (us : Row) (s : Names) → (doing ms (map (λ p. p.0) us)).names s ≡ named ms us s
names_alike [] us s = refl
names_alike (Shift ∷ ms) [] s = names_alike ms [] s
names_alike (Shift ∷ ms) (u ∷ us) s = names_alike ms us ((took u.0).names s)
names_alike (Expand x w ∷ ms) us s = names_alike ms us s
names_alike (Act a ∷ ms) us s = names_alike ms us ((did a).names s)

-- what stays as it is in an expression
pub record Around : Type 0 where
  pub operation : Option (List ℕ)
  pub in_result : Bool
  pub component : Option (List ℕ)
  pub body : Option (List ℕ)

-- Both watches know this, after this identifier, and nothing is asked of the next token.
abbrev pub calm : Option (List ℕ) → Around → Names
calm last a = record {
  own = Some (record { last = last; operation = a.operation; in_result = a.in_result; asks = Any });
  closing = Some (record { last = last; component = a.component; operation = a.body; closes = None });
}

-- This name may head an operand.
abbrev pub MayHead : Bool → Option (List ℕ) → List ℕ → Type 0
MayHead true operation name = answers Other operation name ≡ true
MayHead false operation name = Unit {0}

abbrev pub Avoids : Around → List (List ℕ) → Type 0
Avoids a [] = Unit {0}
Avoids a (name ∷ names) = MayHead a.in_result a.operation name × Avoids a names

pub avoids_left : (a : Around) (xs ys : List (List ℕ)) → Avoids a (xs ++ ys) → Avoids a xs
avoids_left a [] ys h = tt
avoids_left a (x ∷ xs) ys h = (h.0, avoids_left a xs ys h.1)

pub avoids_right : (a : Around) (xs ys : List (List ℕ)) → Avoids a (xs ++ ys) → Avoids a ys
avoids_right a [] ys h = h
avoids_right a (x ∷ xs) ys h = avoids_right a xs ys h.1

-- Where none of these names is the operation's, the one leaves the watches calm, after another identifier, and then does what
-- the other does.
abbrev pub Calms : (Names → Names) → (Names → Names) → (Option (List ℕ) → Option (List ℕ)) → List (List ℕ) → Type 0
Calms f h last names = (l : Option (List ℕ)) (a : Around) → Avoids a names → f (calm l a) ≡ h (calm (last l) a)

pub calms_both : (f g h : Names → Names) (one other : Option (List ℕ) → Option (List ℕ)) (xs ys : List (List ℕ)) → Calms f g one xs → Calms g h other ys → Calms f h (λ l. other (one l)) (xs ++ ys)
calms_both f g h one other xs ys p q = λ l a v. p l a (avoids_left a xs ys v) ∙ q (one l) a (avoids_right a xs ys v)

-- an identifier that heads no operand
pub name_named : (name blanks : List ℕ) → class_of_word name ≡ n.id → (r : List Move) (us : Row) (l : Option (List ℕ)) (a : Around) → named (Shift ∷ r) ((kind.Word name, blanks) ∷ us) (calm l a) ≡ named r us (calm (Some name) a)
name_named name blanks e r us l a =
    ap (λ z. named r us (record { own = own_step z name (record { last = l; operation = a.operation; in_result = a.in_result; asks = Any }); closing = closing_step z name (record { last = l; component = a.component; operation = a.body; closes = None }) })) e

headed : (name blanks : List ℕ) → class_of_word name ≡ n.id → (r : List Move) (us : Row) (l : Option (List ℕ)) (in_result : Bool) (operation component body : Option (List ℕ)) → MayHead in_result operation name → named (Act n.head_mark ∷ Shift ∷ r) ((kind.Word name, blanks) ∷ us) (calm l (record { operation = operation; in_result = in_result; component = component; body = body })) ≡ named r us (calm (Some name) (record { operation = operation; in_result = in_result; component = component; body = body }))
headed name blanks e r us l true operation component body h =
    ap (λ z. named r us (record { own = own_step z name (record { last = l; operation = operation; in_result = true; asks = Other }); closing = closing_step z name (record { last = l; component = component; operation = body; closes = None }) })) e
    ∙ ap (λ z. named r us (record { own = if z then Some (record { last = Some name; operation = operation; in_result = true; asks = Any }) else None; closing = Some (record { last = Some name; component = component; operation = body; closes = None }) })) h
headed name blanks e r us l false operation component body h =
    name_named name blanks e r us l (record { operation = operation; in_result = false; component = component; body = body })

-- an identifier that heads an operand
pub head_named : (name blanks : List ℕ) → class_of_word name ≡ n.id → (r : List Move) (us : Row) (l : Option (List ℕ)) (a : Around) → MayHead a.in_result a.operation name → named (Act n.head_mark ∷ Shift ∷ r) ((kind.Word name, blanks) ∷ us) (calm l a) ≡ named r us (calm (Some name) a)
head_named name blanks e r us l a h = headed name blanks e r us l a.in_result a.operation a.component a.body h
