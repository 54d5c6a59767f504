-- Derivations, what they build and what watches know, one behind the other.
use Rattle.std.proofs.Common.{◌≡◌, refl, sym, ap, subst, ℕ, zero, suc, ◌+◌, Bool, true, ◌&&◌, List, [], ◌∷◌, ◌++◌, append_assoc, length, map, Option, Some, None, arith}
use Rattle.std.proofs.lemmas.Bool.{and_parts}
use Rattle.ll_grammar.specs.Grammar.{Rules, Derives, Builder, built, shifts, spelled, at}
use Rattle.ll_grammar.specs.Grammar as grammar
use Rattle.ll_grammar.specs.Watch.{Watch, and_then, watched}
use Rattle.ll_grammar.specs.declared.form.Move.{Move}
use Rattle.ll_grammar.specs.declared.form.Move.TheVariants.{Shift, Expand, Act}
use Rattle.ll_grammar.specs.declared.form.Symbol.{Symbol}
use Rattle.ll_grammar.specs.declared.form.Symbol.TheVariants.{Terminal, Nonterminal, Action}
use Rattle.res_lexer.specs.declared.token.TokenKind.{TokenKind}
use Rattle.res_grammar.specs.Classes.{class_of}
use Rattle.round_trip.proofs.Doing.{did, doing, then, took}

-- ---- ways

-- A part is spelled by a way of it.
pub by_way : {X : Type 0} (D : List Symbol → Type 0) (ss : List Symbol) (o : Option (List Symbol)) → spelled D ss o → ((right : List Symbol) → o ≡ Some right → D (right ++ ss) → X) → X
by_way D ss None d f = absurd d
by_way D ss (Some right) d f = f right refl d

pub applies : (D : List Symbol → Type 0) (ss : List Symbol) (o : Option (List Symbol)) (right : List Symbol) → o ≡ Some right → D (right ++ ss) → spelled D ss o
applies D ss None right e d = absurd (let f : None ≡ Some right = e in cc)
applies D ss (Some x) right e d =
    let i : x ≡ right = cc in
    subst (λ y. D (y ++ ss)) (sym i) d

-- a test that each way of each part passes
abbrev pub ways_pass : (ℕ → List Symbol → Bool) → ℕ → List (List Symbol) → Bool
ways_pass test x [] = true
ways_pass test x (right ∷ ways) = test x right && ways_pass test x ways

abbrev pub parts_pass : (ℕ → List Symbol → Bool) → ℕ → Rules → Bool
parts_pass test x [] = true
parts_pass test x (ways ∷ more) = ways_pass test x ways && parts_pass test (suc x) more

way_passes : (test : ℕ → List Symbol → Bool) (x : ℕ) (ways : List (List Symbol)) (k : ℕ) (right : List Symbol) → ways_pass test x ways ≡ true → at ways k ≡ Some right → test x right ≡ true
way_passes test x [] k right h e = absurd (let f : None ≡ Some right = e in cc)
way_passes test x (r ∷ ways) zero right h e =
    let i : r ≡ right = cc in
    subst (λ z. test x z ≡ true) i (and_parts (test x r) (ways_pass test x ways) h).0
way_passes test x (r ∷ ways) (suc k) right h e = way_passes test x ways k right (and_parts (test x r) (ways_pass test x ways) h).1 e

part_passes_from : (test : ℕ → List Symbol → Bool) (g : Rules) (from x k : ℕ) (right : List Symbol) → parts_pass test from g ≡ true → at (grammar.row g x) k ≡ Some right → test (from + x) right ≡ true
part_passes_from test [] from x k right h e = absurd (let f : None ≡ Some right = e in cc)
part_passes_from test (ways ∷ g) from zero k right h e =
    let i : from ≡ from + 0 = omega arith in
    subst (λ z. test z right ≡ true) i (way_passes test from ways k right (and_parts (ways_pass test from ways) (parts_pass test (suc from) g) h).0 e)
part_passes_from test (ways ∷ g) from (suc x) k right h e =
    let i : suc from + x ≡ from + suc x = omega arith in
    subst (λ z. test z right ≡ true) i (part_passes_from test g (suc from) x k right (and_parts (ways_pass test from ways) (parts_pass test (suc from) g) h).1 e)

pub part_passes : (test : ℕ → List Symbol → Bool) (g : Rules) → parts_pass test 0 g ≡ true → (x k : ℕ) (right : List Symbol) → at (grammar.row g x) k ≡ Some right → test x right ≡ true
part_passes test g h x k right e =
    let i : 0 + x ≡ x = omega arith in
    subst (λ z. test z right ≡ true) i (part_passes_from test g 0 x k right h e)

-- ---- a derivation and what is behind it

-- A derivation takes all tokens.
pub counted : (g : Rules) (ms : List Move) (ss : List Symbol) (w : List ℕ) → Derives g ms ss w → shifts ms ≡ length w
counted g [] [] [] d = refl
counted g [] [] (c ∷ w) d = absurd d
counted g [] (s ∷ ss) w d = absurd d
counted g (Shift ∷ ms) [] w d = absurd d
counted g (Shift ∷ ms) (Nonterminal x ∷ ss) w d = absurd d
counted g (Shift ∷ ms) (Action x ∷ ss) w d = absurd d
counted g (Shift ∷ ms) (Terminal c ∷ ss) [] d = absurd d
counted g (Shift ∷ ms) (Terminal c ∷ ss) (y ∷ w) d = ap suc (counted g ms ss w d.1)
counted g (Act a ∷ ms) [] w d = absurd d
counted g (Act a ∷ ms) (Terminal x ∷ ss) w d = absurd d
counted g (Act a ∷ ms) (Nonterminal x ∷ ss) w d = absurd d
counted g (Act a ∷ ms) (Action x ∷ ss) w d = counted g ms ss w d.1
counted g (Expand m k ∷ ms) [] w d = absurd d
counted g (Expand m k ∷ ms) (Terminal x ∷ ss) w d = absurd d
counted g (Expand m k ∷ ms) (Action x ∷ ss) w d = absurd d
counted g (Expand m k ∷ ms) (Nonterminal x ∷ ss) w d =
    by_way (λ s. Derives g ms s w) ss (at (grammar.row g x) k) d.1 (λ right e f. counted g ms (right ++ ss) w f)

-- two derivations
pub derives_on : (g : Rules) (a b : List Move) (ss tt : List Symbol) (v w : List ℕ) → Derives g a ss v → Derives g b tt w → Derives g (a ++ b) (ss ++ tt) (v ++ w)
derives_on g [] b [] tt [] w d e = e
derives_on g [] b [] tt (c ∷ v) w d e = absurd d
derives_on g [] b (s ∷ ss) tt v w d e = absurd d
derives_on g (Shift ∷ a) b [] tt v w d e = absurd d
derives_on g (Shift ∷ a) b (Nonterminal x ∷ ss) tt v w d e = absurd d
derives_on g (Shift ∷ a) b (Action x ∷ ss) tt v w d e = absurd d
derives_on g (Shift ∷ a) b (Terminal c ∷ ss) tt [] w d e = absurd d
derives_on g (Shift ∷ a) b (Terminal c ∷ ss) tt (y ∷ v) w d e = (d.0, derives_on g a b ss tt v w d.1 e)
derives_on g (Act x ∷ a) b [] tt v w d e = absurd d
derives_on g (Act x ∷ a) b (Terminal c ∷ ss) tt v w d e = absurd d
derives_on g (Act x ∷ a) b (Nonterminal c ∷ ss) tt v w d e = absurd d
derives_on g (Act x ∷ a) b (Action c ∷ ss) tt v w d e = (d.0, derives_on g a b ss tt v w d.1 e)
derives_on g (Expand m k ∷ a) b [] tt v w d e = absurd d
derives_on g (Expand m k ∷ a) b (Terminal c ∷ ss) tt v w d e = absurd d
derives_on g (Expand m k ∷ a) b (Action c ∷ ss) tt v w d e = absurd d
derives_on g (Expand m k ∷ a) b (Nonterminal x ∷ ss) tt v w d e =
    let D : List Symbol → Type 0 = λ s. Derives g (a ++ b) s (v ++ w) in
    (d.0, by_way (λ s. Derives g a s v) ss (at (grammar.row g x) k) d.1 (λ right i f. applies D (ss ++ tt) (at (grammar.row g x) k) right i (subst D (append_assoc right ss tt) (derives_on g a b (right ++ ss) tt v w f e))))

-- what is built by moves that take all tokens, and by those behind them
pub built_on : {S T : Type 0} (b : Builder S T) (ms ns : List Move) (ts : List T) (s : S) → shifts ms ≡ length ts → built b (ms ++ ns) ts s ≡ built b ns [] (built b ms ts s)
built_on b [] ns [] s e = refl
built_on b [] ns (t ∷ ts) s e = absurd (omega arith)
built_on b (Shift ∷ ms) ns [] s e = absurd (omega arith)
built_on b (Shift ∷ ms) ns (t ∷ ts) s e = built_on b ms ns ts (b.take t s) (omega arith)
built_on b (Expand x k ∷ ms) ns ts s e = built_on b ms ns ts s e
built_on b (Act a ∷ ms) ns ts s e = built_on b ms ns ts (b.act a s) e

-- the same of a watch
watched_shift : {M : Type 0} (o : Option M) (f g : M → Option M) (rest : Option M) (end : M) → ((m : M) → f m ≡ Some end → g m ≡ rest) → and_then o f ≡ Some end → and_then o g ≡ rest
watched_shift None f g rest end h e = cc
watched_shift (Some m) f g rest end h e = h m e

pub watched_on : {M T : Type 0} (w : Watch M T) (ms ns : List Move) (ts : List T) (m end : M) → watched w ms ts m ≡ Some end → watched w (ms ++ ns) ts m ≡ watched w ns [] end
watched_on w [] ns [] m end e = let i : m ≡ end = cc in ap (watched w ns []) i
watched_on w [] ns (t ∷ ts) m end e = cc
watched_on w (Shift ∷ ms) ns [] m end e = cc
watched_on w (Shift ∷ ms) ns (t ∷ ts) m end e =
    watched_shift (w.shift t m) (watched w ms ts) (watched w (ms ++ ns) ts) (watched w ns [] end) end (λ k h. watched_on w ms ns ts k end h) e
watched_on w (Expand x k ∷ ms) ns ts m end e = watched_on w ms ns ts m end e
watched_on w (Act a ∷ ms) ns ts m end e = watched_on w ms ns ts (w.act a m) end e

-- ---- what a derivation does first

pub record AtTerminal (g : Rules) (c : ℕ) (ss : List Symbol) (ms : List Move) (ks : List TokenKind) : Type 0 where
  pub later : List Move
  pub first : TokenKind
  pub rest : List TokenKind
  pub moves : ms ≡ Shift ∷ later
  pub kinds : ks ≡ first ∷ rest
  pub class : c ≡ class_of first
  pub derives : Derives g later ss (map class_of rest)

pub at_terminal : (g : Rules) (c : ℕ) (ss : List Symbol) (ms : List Move) (ks : List TokenKind) → Derives g ms (Terminal c ∷ ss) (map class_of ks) → AtTerminal g c ss ms ks
at_terminal g c ss [] ks d = absurd d
at_terminal g c ss (Shift ∷ ms) [] d = absurd d
at_terminal g c ss (Shift ∷ ms) (k ∷ ks) d = record { later = ms; first = k; rest = ks; moves = refl; kinds = refl; class = d.0; derives = d.1 }
at_terminal g c ss (Act a ∷ ms) ks d = absurd d
at_terminal g c ss (Expand x k ∷ ms) ks d = absurd d

pub record AtAction (g : Rules) (a : ℕ) (ss : List Symbol) (ms : List Move) (w : List ℕ) : Type 0 where
  pub later : List Move
  pub moves : ms ≡ Act a ∷ later
  pub derives : Derives g later ss w

pub at_action : (g : Rules) (a : ℕ) (ss : List Symbol) (ms : List Move) (w : List ℕ) → Derives g ms (Action a ∷ ss) w → AtAction g a ss ms w
at_action g a ss [] w d = absurd d
at_action g a ss (Shift ∷ ms) w d = absurd d
at_action g a ss (Act b ∷ ms) w d = record { later = ms; moves = ap (λ z. Act z ∷ ms) d.0; derives = d.1 }
at_action g a ss (Expand x k ∷ ms) w d = absurd d

pub record AtPart (g : Rules) (x : ℕ) (ss : List Symbol) (ms : List Move) (w : List ℕ) : Type 0 where
  pub later : List Move
  pub way : ℕ
  pub right : List Symbol
  pub moves : ms ≡ Expand x way ∷ later
  pub spells : at (grammar.row g x) way ≡ Some right
  pub derives : Derives g later (right ++ ss) w

pub at_part : (g : Rules) (x : ℕ) (ss : List Symbol) (ms : List Move) (w : List ℕ) → Derives g ms (Nonterminal x ∷ ss) w → AtPart g x ss ms w
at_part g x ss [] w d = absurd d
at_part g x ss (Shift ∷ ms) w d = absurd d
at_part g x ss (Act a ∷ ms) w d = absurd d
at_part g x ss (Expand y k ∷ ms) w d =
    by_way (λ z. Derives g ms z w) ss (at (grammar.row g x) k) d.1 (λ right e f. record { later = ms; way = k; right = right; moves = ap (λ z. Expand z k ∷ ms) d.0; spells = e; derives = f })

-- ---- the two halves of a derivation

pub record Halves (g : Rules) (ss us : List Symbol) (ms : List Move) (ks : List TokenKind) : Type 0 where
  pub first : List Move
  pub second : List Move
  pub front : List TokenKind
  pub back : List TokenKind
  pub moves : ms ≡ first ++ second
  pub kinds : ks ≡ front ++ back
  pub derives : Derives g first ss (map class_of front)
  pub rest : Derives g second us (map class_of back)

pub halves : (g : Rules) (ss us : List Symbol) (ms : List Move) (ks : List TokenKind) → Derives g ms (ss ++ us) (map class_of ks) → Halves g ss us ms ks
halves g [] us ms ks d = record { first = []; second = ms; front = []; back = ks; moves = refl; kinds = refl; derives = tt; rest = d }
halves g (s ∷ ss) us [] ks d = absurd d
halves g (Nonterminal x ∷ ss) us (Shift ∷ ms) ks d = absurd d
halves g (Action x ∷ ss) us (Shift ∷ ms) ks d = absurd d
halves g (Terminal c ∷ ss) us (Shift ∷ ms) [] d = absurd d
halves g (Terminal c ∷ ss) us (Shift ∷ ms) (k ∷ ks) d =
    let h = halves g ss us ms ks d.1 in
    record { first = Shift ∷ h.first; second = h.second; front = k ∷ h.front; back = h.back; moves = ap (λ z. Shift ∷ z) h.moves; kinds = ap (λ z. k ∷ z) h.kinds; derives = (d.0, h.derives); rest = h.rest }
halves g (Terminal x ∷ ss) us (Act a ∷ ms) ks d = absurd d
halves g (Nonterminal x ∷ ss) us (Act a ∷ ms) ks d = absurd d
halves g (Action x ∷ ss) us (Act a ∷ ms) ks d =
    let h = halves g ss us ms ks d.1 in
    record { first = Act a ∷ h.first; second = h.second; front = h.front; back = h.back; moves = ap (λ z. Act a ∷ z) h.moves; kinds = h.kinds; derives = (d.0, h.derives); rest = h.rest }
halves g (Terminal x ∷ ss) us (Expand y k ∷ ms) ks d = absurd d
halves g (Action x ∷ ss) us (Expand y k ∷ ms) ks d = absurd d
halves g (Nonterminal x ∷ ss) us (Expand y k ∷ ms) ks d =
    by_way (λ z. Derives g ms z (map class_of ks)) (ss ++ us) (at (grammar.row g x) k) d.1 (λ right e f.
    let h = halves g (right ++ ss) us ms ks (subst (λ z. Derives g ms z (map class_of ks)) (sym (append_assoc right ss us)) f) in
    record { first = Expand y k ∷ h.first; second = h.second; front = h.front; back = h.back; moves = ap (λ z. Expand y k ∷ z) h.moves; kinds = h.kinds; derives = (d.0, applies (λ z. Derives g h.first z (map class_of h.front)) ss (at (grammar.row g x) k) right e h.derives); rest = h.rest })

-- what both do, one behind the other
pub doing_on : (ms ns : List Move) (ks js : List TokenKind) → shifts ms ≡ length ks → doing (ms ++ ns) (ks ++ js) ≡ (then) (doing ms ks) (doing ns js)
doing_on [] ns [] js e = refl
doing_on [] ns (k ∷ ks) js e = absurd (omega arith)
doing_on (Shift ∷ ms) ns [] js e = absurd (omega arith)
doing_on (Shift ∷ ms) ns (k ∷ ks) js e = ap (λ z. (then) (took k) z) (doing_on ms ns ks js (omega arith))
doing_on (Expand x w ∷ ms) ns ks js e = doing_on ms ns ks js e
doing_on (Act a ∷ ms) ns ks js e = ap (λ z. (then) (did a) z) (doing_on ms ns ks js e)
