-- What is claimed of a component says that what was read is printed.
use Rattle.std.proofs.Common.{◌≡◌, ◌∙◌, refl, sym, ap, subst, ℕ, ◌≤◌, false, List, [], ◌∷◌, ◌++◌, Option, None, arith}
use Rattle.identifiers.specs.Laws.{PlainAreAscii}
use Rattle.ll_grammar.specs.Grammar.{MadeIsDerived}
use Rattle.ll_grammar.specs.declared.form.Symbol.TheVariants.{Nonterminal}
use Rattle.res_ast.specs.declared.model.MPart.{MPart}
use Rattle.res_lexer.specs.declared.token.Token.{Token}
use Rattle.res_grammar.specs.Nesting.{nesting}
use Rattle.res_grammar.specs.Numbers as number
use Rattle.res_grammar.specs.declared.nesting.Nesting.{Nesting}
use Rattle.expr_parser.specs.Built.{Stage, no_token}
use Rattle.module_parser.specs.Components.{add_component}
use Rattle.module_parser.specs.Stacks.{outset}
use Rattle.module_parser.specs.declared.state.State.{State}
use Rattle.round_trip.specs.ReadsBack.{tokens}
use Rattle.round_trip.proofs.Alike.{files_derived}
use Rattle.round_trip.proofs.Alone.{known}
use Rattle.round_trip.proofs.Canonical.{Knowledge, Passing, calm, kinds, staged}
use Rattle.round_trip.proofs.Claims.{ComponentClaim, ComponentRead, put_component}
use Rattle.ll_grammar.specs.declared.form.Move.{Move}
use Rattle.res_lexer.specs.declared.token.TokenKind.{TokenKind}
use Rattle.round_trip.specs.MinusZero.{has_minus_minus_zero}
use Rattle.round_trip.proofs.Chains.{Claim}
use Rattle.round_trip.proofs.Derived.{Held}
use Rattle.round_trip.proofs.Doing.{Doing, Names, doing}
use Rattle.round_trip.proofs.Sequence.{OneRead, Rests, from_outset}
use Rattle.round_trip.proofs.Shallow.{row_passes}
use Rattle.round_trip.proofs.Watching.{FineWhere, no_names}

-- the component that is built where no model is left from before
put_clean : (c : ComponentRead) (s : State) → s.model ≡ [] → put_component c s ≡ add_component (c.component []) s
put_clean c s e =
    ap (λ (z : List MPart). let t : State = record s { components = s.components ++ (c.component z ∷ []); model = c.left z } in t) e
    ∙ ap (λ (z : List MPart). let t : State = record s { components = s.components ++ (c.component [] ∷ []); model = z } in t) (c.clean ∙ sym e)

abbrev know : Option (List ℕ) → Option (List ℕ) → Knowledge
know c o = record { component = c; operation = o; in_result = false }

rests_by : (n : Names) (l : Option (List ℕ)) (k : Knowledge) → n ≡ calm l k → k.in_result ≡ false → Rests n
rests_by n l k e f = record {
  last = l;
  component = k.component;
  operation = k.operation;
  is = e ∙ ap (λ b. calm l (record k { in_result = b })) f;
}

pub one_read : PlainAreAscii → MadeIsDerived (Token × State) Token → (Q : Claim) → ((d : Doing) → Q number.component_part d → ComponentClaim d) → (Z : Type 0) (ms : List Move) (ks : List TokenKind) → (Z → has_minus_minus_zero ks ≡ false) → Held (has_minus_minus_zero ks ≡ false) Q number.component_part ms ks → OneRead Z (doing ms ks)
one_read plain law Q as_claim Z ms ks zero h =
    let v = as_claim h.done h.holds in
    let c = v.value in
    let g = v.canonical.going in
    let x = g.leads in
    let start : Stage State = record { last = no_token; state = outset } in
    let moves = x.moves [] in
    let row = x.row [] in
    record {
      component = c.component [];
      builds = λ w e. ap (λ (z : Stage State). z.state) (h.builds w ∙ x.builds w) ∙ put_clean c w.state e;
      rests = λ l p o i.
          let q = x.knows l (know p o) (subst Passing (h.names (known l p o None)) i) in
          rests_by ((doing ms ks).names (known l p o None)) q.last (c.knows (know p o)) (h.names (known l p o None) ∙ q.is) (c.rests (know p o) refl);
      printed = λ f.
          let named = sym (h.names no_names) ∙ f.named in
          let passing : Passing (h.done.names no_names) = record { own_names = f.own; closing_names = f.closing; own = ap (λ (n : Names). n.own) named; closing = ap (λ (n : Names). n.closing) named } in
          let d = files_derived law moves (Nonterminal number.component_part ∷ []) (tokens row) start (staged v.canonical.last (put_component c) start) (x.goes [] [] [] start) in
          let q = x.names None None (know None None) passing in
          let low : Z → (h.done.nest nesting.outset).deepest ≤ 200 = λ z. subst (λ (n : Nesting). n.deepest ≤ 200) (h.nests (zero z) nesting.outset) f.shallow in
          let shallow : Z → ((doing moves (kinds row)).nest nesting.outset).deepest ≤ 200 = λ z.
          let n = g.nests nesting.outset nesting.outset (from_outset nesting.outset) (low z) in
          let deep : n.to.deepest ≤ (h.done.nest nesting.outset).deepest = n.below.deepest in
          let most : (h.done.nest nesting.outset).deepest ≤ 200 = low z in
          let to : n.to.deepest ≤ 200 = omega (arith, deep, most) in
          subst (λ (y : Nesting). y.deepest ≤ 200) (sym (n.leads [] [])) to in
          let fine : FineWhere Z (doing moves (kinds row)) = record { own = _; closing = _; named = q.leads [] []; shallow = shallow } in
          record {
            row = row;
            moves = moves;
            text = x.reads None (know None None) passing [];
            apart = x.apart plain [] tt;
            derives = d.0;
            builds = ap (λ (z : Stage State). z.state.components) d.1;
            passes = row_passes Z moves (Nonterminal number.component_part ∷ []) row d.0 fine;
          };
    }
