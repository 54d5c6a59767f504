-- Lists of expressions as they were read.
use Rattle.std.proofs.Common.{◌∙◌, sym, ap, refl, [], ◌∷◌, ◌++◌, map, append-nil, append_assoc}
use Rattle.res_lexer.specs.declared.token.TokenKind.{TokenKind}
use Rattle.res_grammar.specs.Numbers as n
use Rattle.res_printer.specs.Expressions.{written}
use Rattle.round_trip.specs.ReadsBack.{token}
use Rattle.round_trip.proofs.Doing.{Doing, did, nothing_done, then, took}
use Rattle.round_trip.proofs.Steady.{Steady, did_steady, nothing_steady, then_steady, took_steady}
use Rattle.round_trip.proofs.Arguments.{collected, deepest_of, exprs_of, heads_of}
use Rattle.round_trip.proofs.Said.{SaidAll, SaidWhole, behind_quiet, both_dive, covers_nothing, heads_both, quiet_did, quiet_heads, quiet_took}

-- no expression
abbrev pub all_none : SaidAll nothing_done
all_none = record {
  steady = nothing_steady;
  items = [];
  are = refl;
  last = λ k. k;
  builds = λ before xss k s. ap (λ z. collected z xss k s) (sym (append-nil before));
  dives = λ ν t. covers_nothing ν;
  names = λ l a q e. record { last = l; is = refl; avoids = tt };
}

-- only a token
abbrev pub all_ended : (k : TokenKind) → SaidAll (took k)
all_ended k = record {
  steady = took_steady k;
  items = [];
  are = refl;
  last = λ j. token k;
  builds = λ before xss j s. ap (λ z. collected z xss (token k) s) (sym (append-nil before));
  dives = λ ν t. covers_nothing ν;
  names = quiet_heads (took k) (quiet_took k);
}

-- behind a token
abbrev pub all_behind : (k : TokenKind) (m : Doing) → SaidAll m → SaidAll (then (took k) m)
all_behind k m h = record {
  steady = then_steady (took k) m (took_steady k) h.steady;
  items = h.items;
  are = h.are;
  last = λ j. h.last (token k);
  builds = λ before xss j s. h.builds before xss (token k) s;
  dives = h.dives;
  names = behind_quiet (took k) m (heads_of h.items) (quiet_took k) h.names;
}

-- an expression before others
abbrev pub all_cons : (d e : Doing) → Steady e → SaidWhole d → SaidAll e → SaidAll (then d (then (did n.add_expr_mark) e))
all_cons d e s x h =
    let after = then (did n.add_expr_mark) e in
    let t = then_steady (did n.add_expr_mark) e (did_steady n.add_expr_mark) s in
    record {
      steady = then_steady d after x.steady t;
      items = x.item ∷ h.items;
      are = ap (λ z. z ∷ map written (exprs_of h.items)) x.is ∙ ap (λ z. x.item.written ∷ z) h.are;
      last = λ k. h.last x.last;
      builds = λ before xss k z.
          ap (λ u. after.build u) (x.builds (collected before xss k z))
          ∙ h.builds (before ++ x.item.expr ∷ []) xss x.last z
          ∙ ap (λ u. collected u xss (h.last x.last) z) (append_assoc before (x.item.expr ∷ []) (exprs_of h.items));
      dives = both_dive x.item.depth (deepest_of h.items) d after t x.dives h.dives;
      names = heads_both d after x.item.heads (heads_of h.items) t x.names (behind_quiet (did n.add_expr_mark) e (heads_of h.items) (quiet_did n.add_expr_mark (λ l b. refl)) h.names);
    }
