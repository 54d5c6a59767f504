-- Expressions as they are seen from outside: what was read has a canonical derivation.
use Rattle.std.proofs.Common.{◌≡◌, ◌∙◌, sym, ap, refl, subst, ℕ, ◌+◌, ◌≤◌, max, false, List, [], ◌∷◌, Option, Some, None, arith}
use Rattle.std.proofs.lemmas.Bool.{false≢true}
use Rattle.ll_grammar.specs.declared.form.Move.{Move}
use Rattle.ll_grammar.specs.declared.form.Move.TheVariants.{Shift, Expand, Act}
use Rattle.res_lexer.specs.Spaced.{Row, spaced}
use Rattle.res_grammar.specs.Language.{language_rules}
use Rattle.res_grammar.specs.Numbers as n
use Rattle.res_grammar.specs.declared.nesting.Nesting.{Nesting}
use Rattle.res_printer.specs.Expressions.{at_level, listed}
use Rattle.round_trip.specs.ReadsBack.{tokens}
use Rattle.round_trip.proofs.Doing.{Doing, Names, did, then}
use Rattle.round_trip.proofs.Steady.{Steady, did_steady, then_steady}
use Rattle.round_trip.proofs.Depths.{AllBelow, Below}
use Rattle.round_trip.proofs.Canonical.{IsCalm, Knowledge, Knows, Passing, calm, kinds}
use Rattle.round_trip.proofs.Claims.{BuiltinClaim, ConcatenationClaim, ExpressionClaim, ExpressionsClaim, Outside}
use Rattle.round_trip.proofs.Calm.{Around, Calms, ended, named, names_alike, nest, nests_alike, same_nest}
use Rattle.round_trip.proofs.Operands.{closed_at, deep_at, word, word_apart}
use Rattle.round_trip.proofs.Signs.{name_token}
use Rattle.round_trip.proofs.Arguments.{all_listed, deepest_of, exprs_of, heads_of, whole}
use Rattle.round_trip.proofs.Said.{Covers, Heads, SaidAll, SaidBuiltIn, SaidSum, SaidWhole}
use Rattle.round_trip.proofs.Ways.{said}

-- ---- depths

-- What covers so many nodes stays above what leads so deep from below.
abbrev deeper : ℕ → Nesting → Nesting
deeper d a = nest a.depth (max a.deep (a.depth + d)) a.saved (max a.deepest (a.depth + d))

above : (d : ℕ) (a b μ : Nesting) → Below a b → b.deepest ≤ μ.deepest → Covers d b μ → Below (deeper d a) μ
above d a b μ l g c =
    let l0 : a.depth ≤ b.depth = l.depth in
    let l1 : a.deep ≤ b.deep = l.deep in
    let l2 : a.deepest ≤ b.deepest = l.deepest in
    let l3 : a.depth ≤ a.deep = l.sound in
    let l4 : a.depth ≤ a.deepest = l.within in
    let c0 : μ.depth ≡ b.depth = c.depth in
    let c1 : b.deep ≤ μ.deep = c.kept in
    let c2 : b.depth + d ≤ max b.depth μ.deep = c.deep in
    let c3 : b.depth + d ≤ max b.depth μ.deepest = c.deepest in
    record {
      depth = omega (arith, l0, c0);
      deep = omega (arith, l0, l1, l3, c1, c2);
      deepest = omega (arith, l0, l2, l4, g, c3);
      saved = subst (λ z. AllBelow a.saved z) (sym c.saved) l.saved;
      sound = omega (arith, l3);
      within = omega (arith, l4);
    }

fits : (d : ℕ) (a b μ : Nesting) → Below a b → b.deepest ≤ μ.deepest → μ.deepest ≤ 200 → Covers d b μ → a.depth + d ≤ 200
fits d a b μ l g h c =
    let l0 : a.depth ≤ b.depth = l.depth in
    let l2 : a.deepest ≤ b.deepest = l.deepest in
    let l4 : a.depth ≤ a.deepest = l.within in
    let c3 : b.depth + d ≤ max b.depth μ.deepest = c.deepest in
    omega (arith, l0, l2, l4, g, h, c3)

-- ---- names

abbrev around : Knowledge → Around
around k = record { operation = k.operation; in_result = k.in_result; component = k.component; body = k.operation }

knows_of : (m : Doing) (hs : List (List ℕ)) → Heads hs m → (l : Option (List ℕ)) (k : Knowledge) → Passing (m.names (calm l k)) → IsCalm k (m.names (calm l k))
knows_of m hs h l k p = let c = h l (around k) p.own_names p.own in record { last = c.last; is = c.is }

names_of : (m : Doing) (hs : List (List ℕ)) (moves : List Move → List Move) (row : Row → Row) (name : Option (List ℕ) → Option (List ℕ)) → Heads hs m → ((r : List Move) (us : Row) → Calms (named (moves r) (row us)) (named r us) name hs) → (l j : Option (List ℕ)) (k : Knowledge) → Passing (m.names (calm l k)) → Knows moves row (calm j k) k
names_of m hs moves row name h c l j k p =
    let v = (h l (around k) p.own_names p.own).avoids in
    record { last = name j; leads = λ r us. names_alike (moves r) (row us) (calm j k) ∙ c r us j (around k) v ∙ sym (names_alike r us (calm (name j) k)) }

was_there : {A : Type 0} (o p : Option A) (q : A) → (o ≡ None → p ≡ None) → p ≡ Some q → (r : A) × (o ≡ Some r)
was_there None p q f e = absurd (let g : None ≡ Some q = sym (f refl) ∙ e in cc)
was_there (Some r) p q f e = (r, refl)

refuses_of : (m : Doing) → Steady m → (q : Names) → Passing (m.names q) → Passing q
refuses_of m s q p =
    let f = was_there q.own (m.names q).own p.own_names (s.own q) p.own in
    let g = was_there q.closing (m.names q).closing p.closing_names (s.closing q) p.closing in
    record { own_names = f.0; closing_names = g.0; own = f.1; closing = g.1 }

-- ---- expressions

expression_outside : (m : Doing) → SaidWhole m → ExpressionClaim m
expression_outside m h =
    let c = whole h.item in
    record {
      value = h.item.expr;
      light = false;
      canonical = record {
        read_last = λ w. h.last;
        last = λ w. c.last;
        going = record {
          leads = record {
            builds = h.builds;
            rises = h.steady.grows;
            refuses = refuses_of m h.steady;
            knows = knows_of m h.item.heads h.names;
            moves = c.moves;
            row = c.row;
            reads = λ l k p us. ap (λ w. w.text (spaced us)) h.is ∙ c.reads us;
            apart = c.apart;
            goes = λ r tt us w. c.goes r tt us w;
            names = names_of m h.item.heads c.moves c.row c.name h.names c.names;
            lightly = λ e. absurd (false≢true e);
          };
          nests = λ a b l t.
              let g = h.steady.grows b in
              let v = h.dives b t in
              record {
                to = deeper h.item.depth a;
                below = above h.item.depth a b (m.nest b) l g v;
                leads = λ r us. nests_alike (c.moves r) (kinds (c.row us)) a ∙ c.nests r a.depth a.deep a.deepest a.saved (fits h.item.depth a b (m.nest b) l g t v) l.within ∙ sym (nests_alike r (kinds us) (deeper h.item.depth a));
              };
        };
      };
    }

concatenation_outside : (m : Doing) → SaidSum m → ConcatenationClaim m
concatenation_outside m s =
    let h = s.said in
    let w = h.item.written in
    let c = closed_at 4 w (omega arith) h.item.spelled.low h.item.spelled.opened in
    let d = deep_at 4 w h.item.depth in
    record {
      value = h.item.expr;
      read_last = λ z. h.last;
      last = λ z. c.last;
      at_start = record {
        leads = record {
          builds = h.builds;
          rises = s.steady.grows;
          refuses = refuses_of m s.steady;
          knows = knows_of m h.item.heads h.names;
          moves = c.moves;
          row = c.row;
          reads = λ l k p us. ap (λ z. at_level 4 z (spaced us)) h.is ∙ c.reads us;
          apart = c.apart;
          goes = λ r tt us z. c.goes r tt us z;
          names = names_of m h.item.heads c.moves c.row c.name h.names c.names;
          lightly = λ e. absurd (false≢true e);
        };
        nests = λ a b e f l t.
            let g = s.steady.grows b in
            let v = h.dives b f t in
            record {
              to = deeper d a;
              below = above d a b (m.nest b) l g v;
              leads = λ r us.
                  nests_alike (c.moves r) (kinds (c.row us)) a
                  ∙ same_nest (ended (c.moves r)) a.depth a.depth a.deep a.depth a.saved a.deepest a.deepest refl e refl
                  ∙ c.nests r a.depth a.deepest a.saved (fits d a b (m.nest b) l g t v) l.within
                  ∙ same_nest (ended r) a.depth a.depth (a.depth + d) (max a.deep (a.depth + d)) a.saved (max a.deepest (a.depth + d)) (max a.deepest (a.depth + d)) refl (omega (arith, e)) refl
                  ∙ sym (nests_alike r (kinds us) (deeper d a));
            };
      };
    }

expressions_outside : (m : Doing) → SaidAll m → ExpressionsClaim m
unfolding language_rules
expressions_outside m h =
    let c = all_listed h.items in
    let d = deepest_of h.items in
    let opened = then (did n.exprs_mark) m in
    let s = then_steady (did n.exprs_mark) m (did_steady n.exprs_mark) h.steady in
    record {
      value = exprs_of h.items;
      light = false;
      passed = record {
        read_last = λ w. h.last w.last;
        last = λ w. c.last w.last;
        going = record {
          leads = record {
            builds = λ w. h.builds [] w.state.operands.lists w.last w;
            rises = h.steady.grows;
            refuses = refuses_of opened s;
            knows = knows_of opened (heads_of h.items) h.names;
            moves = λ r. Act n.exprs_mark ∷ c.moves r;
            row = c.row;
            reads = λ l k p us. ap (λ z. listed z (spaced us)) h.are ∙ c.reads us;
            apart = c.apart;
            goes = λ r tt us w. c.goes r tt us [] w.state.operands.lists w.last w;
            names = names_of opened (heads_of h.items) (λ r. Act n.exprs_mark ∷ c.moves r) c.row c.name h.names c.names;
            lightly = λ e. absurd (false≢true e);
          };
          nests = λ a b l t.
              let g = h.steady.grows b in
              let v = h.dives b t in
              record {
                to = deeper d a;
                below = above d a b (m.nest b) l g v;
                leads = λ r us. nests_alike (c.moves r) (kinds (c.row us)) a ∙ c.nests r a.depth a.deep a.deepest a.saved (fits d a b (m.nest b) l g t v) l.within l.sound ∙ sym (nests_alike r (kinds us) (deeper d a));
              };
        };
      };
    }

built_in_outside : (m : Doing) → SaidBuiltIn m → BuiltinClaim m
unfolding language_rules
built_in_outside m h =
    let i = h.is_built_in in
    record {
      value = h.name;
      light = false;
      canonical = record {
        read_last = λ w. name_token h.name;
        last = λ w. name_token h.name;
        going = record {
          leads = record {
            builds = h.builds;
            rises = h.steady.grows;
            refuses = refuses_of m h.steady;
            knows = λ l k p. record { last = h.quiet.last l; is = h.quiet.is l (around k) };
            moves = λ r. Expand n.builtin_part i.way ∷ Shift ∷ Act n.keep_mark ∷ r;
            row = λ us. word h.name us;
            reads = λ l k p us. refl;
            apart = λ law us p. word_apart h.name us (i.writable law) p;
            goes = λ r tt us w. i.goes (Act n.keep_mark ∷ r) tt (tokens us) w;
            names = λ l j k p. record { last = j; leads = λ r us. names_alike (Shift ∷ Act n.keep_mark ∷ r) (word h.name us) (calm j k) ∙ i.stays (Act n.keep_mark ∷ r) us j (around k) ∙ sym (names_alike (Act n.keep_mark ∷ r) us (calm j k)) };
            lightly = λ e. absurd (false≢true e);
          };
          nests = λ a b l t. record { to = a; below = subst (λ z. Below a z) (sym (h.flat b)) l; leads = λ r us. refl };
        };
      };
    }

pub expressions_from_outside : Outside said
expressions_from_outside = record { expression = expression_outside; expressions = expressions_outside; concatenation = concatenation_outside; builtin = built_in_outside }
