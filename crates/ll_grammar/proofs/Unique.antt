-- A text of a grammar that one token decides has one derivation.
use Rattle.std.proofs.Common.{◌≡◌, ℕ, suc, List, [], ◌∷◌, ◌++◌, Some, length, get_or, refl, sym, ap, ◌∙◌, subst}
use Rattle.ll_grammar.specs.Grammar.{Rules, Symbol, Terminal, Nonterminal, Action, Move, Shift, Expand, Act, at, row, Derives, shifts}
use Rattle.ll_grammar.specs.Predictive.{Table, ahead}
use Rattle.ll_grammar.specs.Standing.{Followed}
use Rattle.ll_grammar.specs.Texts.{OneDerivation}
use Rattle.ll_grammar.proofs.Fronts.{opened, way_of, one_way_of, some_is}
use Rattle.ll_grammar.proofs.Predicts.{Predictive, predictive, predicts, followed_append, at_start}

one : (g : Rules) (t : Table) → Predictive g t → (a b : List Move) (ss : List Symbol) (w : List ℕ) → Followed g t ss → Derives g a ss w → Derives g b ss w → a ≡ b
one g t x [] [] ss w f d e = refl
one g t x [] (Shift ∷ b) [] w f d e = absurd e
one g t x [] (Expand j h ∷ b) [] w f d e = absurd e
one g t x [] (Act j ∷ b) [] w f d e = absurd e
one g t x [] (z ∷ b) (s ∷ ss) w f d e = absurd d
one g t x (Shift ∷ a) b [] w f d e = absurd d
one g t x (Shift ∷ a) b (Nonterminal n ∷ ss) w f d e = absurd d
one g t x (Shift ∷ a) b (Action n ∷ ss) w f d e = absurd d
one g t x (Shift ∷ a) b (Terminal c ∷ ss) [] f d e = absurd d
one g t x (Shift ∷ a) [] (Terminal c ∷ ss) (y ∷ w) f d e = absurd e
one g t x (Shift ∷ a) (Expand j h ∷ b) (Terminal c ∷ ss) (y ∷ w) f d e = absurd e
one g t x (Shift ∷ a) (Act j ∷ b) (Terminal c ∷ ss) (y ∷ w) f d e = absurd e
one g t x (Shift ∷ a) (Shift ∷ b) (Terminal c ∷ ss) (y ∷ w) f d e = ap (λ z. Shift ∷ z) (one g t x a b ss w f d.1 e.1)
one g t x (Act c ∷ a) b [] w f d e = absurd d
one g t x (Act c ∷ a) b (Terminal n ∷ ss) w f d e = absurd d
one g t x (Act c ∷ a) b (Nonterminal n ∷ ss) w f d e = absurd d
one g t x (Act c ∷ a) [] (Action n ∷ ss) w f d e = absurd e
one g t x (Act c ∷ a) (Shift ∷ b) (Action n ∷ ss) w f d e = absurd e
one g t x (Act c ∷ a) (Expand j h ∷ b) (Action n ∷ ss) w f d e = absurd e
one g t x (Act c ∷ a) (Act j ∷ b) (Action n ∷ ss) w f d e =
    ap (λ z. Act z ∷ a) (d.0 ∙ sym e.0) ∙ ap (λ z. Act j ∷ z) (one g t x a b ss w f d.1 e.1)
one g t x (Expand m k ∷ a) b [] w f d e = absurd d
one g t x (Expand m k ∷ a) b (Terminal n ∷ ss) w f d e = absurd d
one g t x (Expand m k ∷ a) b (Action n ∷ ss) w f d e = absurd d
one g t x (Expand m k ∷ a) [] (Nonterminal n ∷ ss) w f d e = absurd e
one g t x (Expand m k ∷ a) (Shift ∷ b) (Nonterminal n ∷ ss) w f d e = absurd e
one g t x (Expand m k ∷ a) (Act j ∷ b) (Nonterminal n ∷ ss) w f d e = absurd e
one g t x (Expand m k ∷ a) (Expand j h ∷ b) (Nonterminal n ∷ ss) w f d e =
    let o = opened (λ z. Derives g a z w) ss (at (row g n) k) d.1 in
    let p = opened (λ z. Derives g b z w) ss (at (row g n) h) e.1 in
    let c1 = predicts g t x.parts n ss f k a w o in
    let c2 = predicts g t x.parts n ss f h b w p in
    let way : h ≡ k = one_way_of g t x.parts n h k c2.when c1.when (ahead t w) c2.is c1.is c2.member c1.member in
    let Q : ℕ → Type 0 = λ z. at (row g n) z ≡ Some p.right in
    let right : p.right ≡ o.right = some_is p.right o.right (sym (subst Q way p.is) ∙ o.is) in
    let R : List Symbol → Type 0 = λ z. Derives g b (z ++ ss) w in
    let good = (way_of g t x.parts n k o.right o.is).good in
    ap (λ z. Expand z k ∷ a) (d.0 ∙ sym e.0)
    ∙ ap (λ z. Expand j z ∷ a) (sym way)
    ∙ ap (λ z. Expand j h ∷ z) (one g t x a b (o.right ++ ss) w (followed_append g t x.parts o.right ss (get_or t.certificate.follows n 0) good.follows f.0 f.1) o.rest (subst R right p.rest))

-- a derivation takes all tokens
counts : (g : Rules) (ms : List Move) (ss : List Symbol) (w : List ℕ) → Derives g ms ss w → shifts ms ≡ length w
counts g [] [] [] d = refl
counts g [] [] (c ∷ w) d = absurd d
counts g [] (s ∷ ss) w d = absurd d
counts g (Shift ∷ ms) [] w d = absurd d
counts g (Shift ∷ ms) (Nonterminal n ∷ ss) w d = absurd d
counts g (Shift ∷ ms) (Action n ∷ ss) w d = absurd d
counts g (Shift ∷ ms) (Terminal c ∷ ss) [] d = absurd d
counts g (Shift ∷ ms) (Terminal c ∷ ss) (y ∷ w) d = ap suc (counts g ms ss w d.1)
counts g (Act a ∷ ms) [] w d = absurd d
counts g (Act a ∷ ms) (Terminal n ∷ ss) w d = absurd d
counts g (Act a ∷ ms) (Nonterminal n ∷ ss) w d = absurd d
counts g (Act a ∷ ms) (Action n ∷ ss) w d = counts g ms ss w d.1
counts g (Expand m k ∷ ms) [] w d = absurd d
counts g (Expand m k ∷ ms) (Terminal n ∷ ss) w d = absurd d
counts g (Expand m k ∷ ms) (Action n ∷ ss) w d = absurd d
counts g (Expand m k ∷ ms) (Nonterminal n ∷ ss) w d =
    let o = opened (λ z. Derives g ms z w) ss (at (row g n) k) d.1 in
    counts g ms (o.right ++ ss) w o.rest

pub one_derivation : OneDerivation
one_derivation g t test ms w d =
    let x = predictive g t test in
    record {
      derives = d;
      counted = counts g ms (Nonterminal t.start ∷ []) w d;
      only = λ ns e. one g t x ns ms (Nonterminal t.start ∷ []) w (at_start g t x).followed e d;
    }
