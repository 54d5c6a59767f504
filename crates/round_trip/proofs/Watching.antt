-- What the watches know after some moves over tokens is what the moves do to depths and names.
use Rattle.std.proofs.Common.{◌≡◌, ◌∙◌, refl, sym, ap, ◌≤◌, if◌then◌else◌, Bool, true, false, nat_le, List, [], ◌∷◌, length, map, Option, Some, None, arith}
use Rattle.std.proofs.lemmas.Bool.{false≢true, le-leb}
use Rattle.std.specs.Option.{option_map}
use Rattle.ll_grammar.specs.Grammar.{shifts}
use Rattle.ll_grammar.specs.Watch.{and_then, watched}
use Rattle.ll_grammar.specs.declared.form.Move.{Move}
use Rattle.ll_grammar.specs.declared.form.Move.TheVariants.{Shift, Expand, Act}
use Rattle.res_lexer.specs.declared.token.TokenKind.{TokenKind}
use Rattle.res_grammar.specs.ClosingName.{ClosingNames, closing, closing_act}
use Rattle.res_grammar.specs.Nesting.{nesting, nesting_act}
use Rattle.res_grammar.specs.OwnName.{OwnNames, own, own_act}
use Rattle.res_grammar.specs.declared.nesting.Nesting.{Nesting}
use Rattle.round_trip.specs.ReadsBack.{PassWhere, token}
use Rattle.round_trip.proofs.Doing.{Doing, Names, did, doing, took}
use Rattle.round_trip.proofs.Steady.{Steady, did_steady, nothing_steady, then_steady, took_steady}

-- ---- values that may not be there

not_some : {A : Type 0} (x : A) → None ≡ Some x → ⊥
not_some x e = cc

some_is : {A : Type 0} (x y : A) → Some x ≡ Some y → x ≡ y
some_is x y e = cc

and_then_some : {A : Type 0} (o : Option A) → and_then o (λ m. Some m) ≡ o
and_then_some None = refl
and_then_some (Some x) = refl

and_then_twice : {A : Type 0} (o : Option A) (f g : A → Option A) → and_then (and_then o f) g ≡ and_then o (λ m. and_then (f m) g)
and_then_twice None f g = refl
and_then_twice (Some x) f g = refl

and_then_mapped : {A : Type 0} (o : Option A) (f : A → A) (g : A → Option A) → and_then (option_map f o) g ≡ and_then o (λ m. g (f m))
and_then_mapped None f g = refl
and_then_mapped (Some x) f g = refl

-- ---- names

-- What the watches over names know is what the moves do to names, where they take all tokens.
pub own_named : (ms : List Move) (ks : List TokenKind) (n : Names) → shifts ms ≡ length ks → ((doing ms ks).names n).own ≡ and_then n.own (watched own ms (map token ks))
own_named [] [] n e = sym (and_then_some n.own)
own_named [] (k ∷ ks) n e = absurd (omega arith)
own_named (Shift ∷ ms) [] n e = absurd (omega arith)
own_named (Shift ∷ ms) (k ∷ ks) n e =
    own_named ms ks _ (omega arith) ∙ and_then_twice n.own (own.shift (token k)) (watched own ms (map token ks))
own_named (Expand x w ∷ ms) ks n e = own_named ms ks n e
own_named (Act a ∷ ms) ks n e = own_named ms ks _ e ∙ and_then_mapped n.own (own_act a) (watched own ms (map token ks))

pub closing_named : (ms : List Move) (ks : List TokenKind) (n : Names) → shifts ms ≡ length ks → ((doing ms ks).names n).closing ≡ and_then n.closing (watched closing ms (map token ks))
closing_named [] [] n e = sym (and_then_some n.closing)
closing_named [] (k ∷ ks) n e = absurd (omega arith)
closing_named (Shift ∷ ms) [] n e = absurd (omega arith)
closing_named (Shift ∷ ms) (k ∷ ks) n e =
    closing_named ms ks _ (omega arith) ∙ and_then_twice n.closing (closing.shift (token k)) (watched closing ms (map token ks))
closing_named (Expand x w ∷ ms) ks n e = closing_named ms ks n e
closing_named (Act a ∷ ms) ks n e = closing_named ms ks _ e ∙ and_then_mapped n.closing (closing_act a) (watched closing ms (map token ks))

-- ---- depths

-- No move makes the deepest path less deep, and a watch that refused goes on to refuse.
pub doing_steady : (ms : List Move) (ks : List TokenKind) → Steady (doing ms ks)
doing_steady [] ks = nothing_steady
doing_steady (Shift ∷ ms) [] = doing_steady ms []
doing_steady (Shift ∷ ms) (k ∷ ks) = then_steady (took k) (doing ms ks) (took_steady k) (doing_steady ms ks)
doing_steady (Expand x w ∷ ms) ks = doing_steady ms ks
doing_steady (Act a ∷ ms) ks = then_steady (did a) (doing ms ks) (did_steady a) (doing_steady ms ks)

-- a token that is passed
pub shifted : (b : Bool) (s : Nesting) (f : Nesting → Option Nesting) (end : Nesting) → and_then (if b then Some s else None) f ≡ Some end → (b ≡ true) × (f s ≡ Some end)
shifted true s f end e = (refl, e)
shifted false s f end e = absurd (not_some end e)

-- What the watch over nesting knows is what the moves do to depths,
pub nested : (ms : List Move) (ks : List TokenKind) (s end : Nesting) → watched nesting ms (map token ks) s ≡ Some end → (doing ms ks).nest s ≡ end
nested [] [] s end e = some_is s end e
nested [] (k ∷ ks) s end e = absurd (not_some end e)
nested (Shift ∷ ms) [] s end e = absurd (not_some end e)
nested (Shift ∷ ms) (k ∷ ks) s end e = nested ms ks s end (shifted (nat_le s.deepest 200) s (watched nesting ms (map token ks)) end e).1
nested (Expand x w ∷ ms) ks s end e = nested ms ks s end e
nested (Act a ∷ ms) ks s end e = nested ms ks (nesting_act a s) end e

-- and it passes where they keep to the limit.
passed : (b : Bool) (s : Nesting) (f : Nesting → Option Nesting) → b ≡ true → and_then (if b then Some s else None) f ≡ f s
passed true s f e = refl
passed false s f e = absurd (false≢true e)

pub nesting_passes : (ms : List Move) (ks : List TokenKind) (s : Nesting) → shifts ms ≡ length ks → ((doing ms ks).nest s).deepest ≤ 200 → watched nesting ms (map token ks) s ≡ Some ((doing ms ks).nest s)
nesting_passes [] [] s e l = refl
nesting_passes [] (k ∷ ks) s e l = absurd (omega arith)
nesting_passes (Shift ∷ ms) [] s e l = absurd (omega arith)
nesting_passes (Shift ∷ ms) (k ∷ ks) s e l =
    let h : s.deepest ≤ ((doing ms ks).nest s).deepest = (doing_steady ms ks).grows s in
    let b : nat_le s.deepest 200 ≡ true = le-leb s.deepest 200 (omega (arith, h, l)) in
    passed (nat_le s.deepest 200) s (watched nesting ms (map token ks)) b ∙ nesting_passes ms ks s (omega arith) l
nesting_passes (Expand x w ∷ ms) ks s e l = nesting_passes ms ks s e l
nesting_passes (Act a ∷ ms) ks s e l = nesting_passes ms ks (nesting_act a s) e l

-- ---- all three

-- what is known before the first token
abbrev pub no_names : Names
no_names = record { own = Some own.outset; closing = Some closing.outset }

-- What the moves do to names and depths from the start, where all watches pass.
pub record Fine (m : Doing) : Type 0 where
  pub own : OwnNames
  pub closing : ClosingNames
  pub named : m.names no_names ≡ record { own = Some own; closing = Some closing }
  pub shallow : (m.nest nesting.outset).deepest ≤ 200

-- and where only something more tells that they keep to the limit
pub record FineWhere (Z : Type 0) (m : Doing) : Type 0 where
  pub own : OwnNames
  pub closing : ClosingNames
  pub named : m.names no_names ≡ record { own = Some own; closing = Some closing }
  pub shallow : Z → (m.nest nesting.outset).deepest ≤ 200

pub all_pass : (Z : Type 0) (ms : List Move) (ks : List TokenKind) → shifts ms ≡ length ks → FineWhere Z (doing ms ks) → PassWhere Z ms (map token ks)
all_pass Z ms ks e f = record {
  own = record { last = f.own; passes = sym (own_named ms ks no_names e) ∙ ap (λ (z : Names). z.own) f.named };
  nesting = λ z. record { last = (doing ms ks).nest nesting.outset; passes = nesting_passes ms ks nesting.outset e (f.shallow z) };
  closing = record { last = f.closing; passes = sym (closing_named ms ks no_names e) ∙ ap (λ (z : Names). z.closing) f.named };
}
