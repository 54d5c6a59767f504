-- One token decides which rule comes next.
use Rattle.std.proofs.Common.{◌≡◌, ℕ, zero, suc, ◌<◌, true, ◌&&◌, nat_lt, List, [], ◌∷◌, ◌++◌, Option, Some, None, get_or, length, refl, sym, ap, ◌∙◌, subst, append_assoc, arith}
use Rattle.std.proofs.lemmas.Bool.{and_parts, and_from, ltb-true}
use Rattle.ll_grammar.specs.Grammar.{Rules, Symbol, Terminal, Nonterminal, Action, Move, Shift, Expand, Act, at, row, spelled, Derives}
use Rattle.ll_grammar.specs.Predictive.{Table, is_in, within, first_of, are_followed, are_good_parts, are_known, know_ways, know_all, all_end, is_ll1, ahead, Chosen}
use Rattle.ll_grammar.specs.Standing.{Leads, Followed, Continues, Reached}
use Rattle.ll_grammar.proofs.Sets.{in_larger}
use Rattle.ll_grammar.proofs.Fronts.{way_of, one_way_of, some_is, not_none, Opened, opened, leads}

-- what the test says of a grammar
pub record Predictive (g : Rules) (t : Table) : Type 0 where
  pub parts : are_good_parts t 0 g t.lookaheads ≡ true
  pub ends : all_end g t 0 t.certificate.heights t.certificate.easiest ≡ true
  pub knows : know_all t g ≡ true
  pub start : t.start < length t.certificate.heights
  pub end : is_in t.end_mark (get_or t.certificate.follows t.start 0) ≡ true

pub predictive : (g : Rules) (t : Table) → is_ll1 g t ≡ true → Predictive g t
unfolding is_ll1
predictive g t h =
    let four = and_parts (are_good_parts t 0 g t.lookaheads && all_end g t 0 t.certificate.heights t.certificate.easiest && know_all t g && nat_lt t.start (length t.certificate.heights)) (is_in t.end_mark (get_or t.certificate.follows t.start 0)) h in
    let three = and_parts (are_good_parts t 0 g t.lookaheads && all_end g t 0 t.certificate.heights t.certificate.easiest && know_all t g) (nat_lt t.start (length t.certificate.heights)) four.0 in
    let two = and_parts (are_good_parts t 0 g t.lookaheads && all_end g t 0 t.certificate.heights t.certificate.easiest) (know_all t g) three.0 in
    let one = and_parts (are_good_parts t 0 g t.lookaheads) (all_end g t 0 t.certificate.heights t.certificate.easiest) two.0 in
    record { parts = one.0; ends = one.1; knows = two.1; start = ltb-true t.start (length t.certificate.heights) three.1; end = four.1 }

pub followed_append : (g : Rules) (t : Table) → are_good_parts t 0 g t.lookaheads ≡ true → (a ss : List Symbol) (m : ℕ) → are_followed t a m ≡ true → Leads g t ss m → Followed g t ss → Followed g t (a ++ ss)
followed_append g t good [] ss m f h all = all
followed_append g t good (Terminal c ∷ a) ss m f h all = followed_append g t good a ss m f h all
followed_append g t good (Action x ∷ a) ss m f h all = followed_append g t good a ss m f h all
followed_append g t good (Nonterminal n ∷ a) ss m f h all =
    let two = and_parts (within (first_of t a m) (get_or t.certificate.follows n 0)) (are_followed t a m) f in
    (λ ms w d. in_larger (ahead t w) (first_of t a m) (get_or t.certificate.follows n 0) two.0 (leads g t good ss m h ms a w d), followed_append g t good a ss m two.1 h all)

-- the table has the way that a derivation takes
pub predicts : (g : Rules) (t : Table) → are_good_parts t 0 g t.lookaheads ≡ true → (n : ℕ) (ss : List Symbol) → Followed g t (Nonterminal n ∷ ss) → (k : ℕ) (ms : List Move) (w : List ℕ) → Opened (λ s. Derives g ms s w) ss (at (row g n) k) → Chosen t.lookaheads n k (ahead t w)
predicts g t good n ss f k ms w o =
    let x = way_of g t good n k o.right o.is in
    record {
      when = x.when;
      is = x.is;
      member = in_larger (ahead t w) (first_of t o.right (get_or t.certificate.follows n 0)) x.when x.good.chosen (leads g t good ss (get_or t.certificate.follows n 0) f.0 ms o.right w o.rest);
    }

-- ---- steps

pub looking : (g : Rules) (t : Table) (done : List ℕ) (moves : List Move) (stack : List Symbol) (c : ℕ) → Reached g t done moves stack None → Reached g t done moves stack (Some c)
looking g t done moves stack c r = record { followed = r.followed; known = r.known; sound = r.sound; whole = λ ms w l d. r.whole ms w tt d }

nothing_left : (g : Rules) (t : Table) (m : ℕ) → is_in t.end_mark m ≡ true → Leads g t [] m
nothing_left g t m h [] [] d = h
nothing_left g t m h [] (c ∷ w) d = absurd d
nothing_left g t m h (Shift ∷ ms) w d = absurd d
nothing_left g t m h (Act x ∷ ms) w d = absurd d
nothing_left g t m h (Expand x p ∷ ms) w d = absurd d

pub lt-true : (a b : ℕ) → a < b → nat_lt a b ≡ true
lt-true a b h = grind arith

pub at_start : (g : Rules) (t : Table) → Predictive g t → Reached g t [] [] (Nonterminal t.start ∷ []) None
at_start g t x = record {
  followed = (nothing_left g t (get_or t.certificate.follows t.start 0) x.end, tt);
  known = and_from (nat_lt t.start (length t.certificate.heights)) true (lt-true t.start (length t.certificate.heights) x.start) refl;
  sound = λ ms w d. d;
  whole = λ ms w l d. record { rest = ms; is = refl; derives = d };
}

known_append : (t : Table) (a ss : List Symbol) → are_known t a ≡ true → are_known t ss ≡ true → are_known t (a ++ ss) ≡ true
known_append t [] ss h k = k
known_append t (Terminal c ∷ a) ss h k = known_append t a ss h k
known_append t (Action x ∷ a) ss h k = known_append t a ss h k
known_append t (Nonterminal n ∷ a) ss h k =
    let two = and_parts (nat_lt n (length t.certificate.heights)) (are_known t a) h in
    and_from (nat_lt n (length t.certificate.heights)) (are_known t (a ++ ss)) two.0 (known_append t a ss two.1 k)

known_way : (t : Table) (rs : List (List Symbol)) (k : ℕ) (r : List Symbol) → know_ways t rs ≡ true → at rs k ≡ Some r → are_known t r ≡ true
known_way t [] k r h e = absurd (not_none r e)
known_way t (x ∷ rs) zero r h e =
    let P : List Symbol → Type 0 = λ y. are_known t y ≡ true in
    subst P (some_is x r e) (and_parts (are_known t x) (know_ways t rs) h).0
known_way t (x ∷ rs) (suc k) r h e = known_way t rs k r (and_parts (are_known t x) (know_ways t rs) h).1 e

pub known_part : (t : Table) (g : Rules) (n k : ℕ) (r : List Symbol) → know_all t g ≡ true → at (row g n) k ≡ Some r → are_known t r ≡ true
known_part t [] n k r h e = absurd (not_none r e)
known_part t (x ∷ g) zero k r h e = known_way t x k r (and_parts (know_ways t x) (know_all t g) h).0 e
known_part t (x ∷ g) (suc n) k r h e = known_part t g n k r (and_parts (know_ways t x) (know_all t g) h).1 e

-- what a derivation from a part does first
pub record First (g : Rules) (t : Table) (n : ℕ) (ss : List Symbol) (ms : List Move) (w : List ℕ) : Type 0 where
  pub way : ℕ
  pub later : List Move
  pub is : ms ≡ Expand n way ∷ later
  pub opens : Opened (λ s. Derives g later s w) ss (at (row g n) way)
  pub chosen : Chosen t.lookaheads n way (ahead t w)

pub first_move : (g : Rules) (t : Table) → are_good_parts t 0 g t.lookaheads ≡ true → (n : ℕ) (ss : List Symbol) → Followed g t (Nonterminal n ∷ ss) → (ms : List Move) (w : List ℕ) → Derives g ms (Nonterminal n ∷ ss) w → First g t n ss ms w
first_move g t good n ss f [] w d = absurd d
first_move g t good n ss f (Shift ∷ ms) w d = absurd d
first_move g t good n ss f (Act x ∷ ms) w d = absurd d
first_move g t good n ss f (Expand m k ∷ ms) w d =
    let o = opened (λ s. Derives g ms s w) ss (at (row g n) k) d.1 in
    record { way = k; later = ms; is = ap (λ y. Expand y k ∷ ms) d.0; opens = o; chosen = predicts g t good n ss f k ms w o }

pub applies : (D : List Symbol → Type 0) (ss : List Symbol) (o : Option (List Symbol)) (r : List Symbol) → o ≡ Some r → D (r ++ ss) → spelled D ss o
applies D ss None r e d = absurd (not_none r e)
applies D ss (Some x) r e d =
    let P : List Symbol → Type 0 = λ y. D (y ++ ss) in
    subst P (sym (some_is x r e)) d

-- a way is taken
pub expand_step : (g : Rules) (t : Table) → Predictive g t → (done : List ℕ) (moves : List Move) (n : ℕ) (ss : List Symbol) (c k : ℕ) (r : List Symbol) → at (row g n) k ≡ Some r → Chosen t.lookaheads n k c → Reached g t done moves (Nonterminal n ∷ ss) (Some c) → Reached g t done (moves ++ Expand n k ∷ []) (r ++ ss) (Some c)
expand_step g t x done moves n ss c k r e chosen reached =
    let good = (way_of g t x.parts n k r e).good in
    let K = and_parts (nat_lt n (length t.certificate.heights)) (are_known t ss) reached.known in
    record {
      followed = followed_append g t x.parts r ss (get_or t.certificate.follows n 0) good.follows reached.followed.0 reached.followed.1;
      known = known_append t r ss (known_part t g n k r x.knows e) K.1;
      sound = λ ms w d.
          let P : List Move → Type 0 = λ y. Derives g y (Nonterminal t.start ∷ []) (done ++ w) in
          subst P (sym (append_assoc moves (Expand n k ∷ []) ms)) (reached.sound (Expand n k ∷ ms) w (refl, applies (λ s. Derives g ms s w) ss (at (row g n) k) r e d));
      whole = λ ms w look d.
          let l = reached.whole ms w look d in
          let f = first_move g t x.parts n ss reached.followed l.rest w l.derives in
          let G : ℕ → Type 0 = λ y. is_in y f.chosen.when ≡ true in
          let same : f.way ≡ k = one_way_of g t x.parts n f.way k f.chosen.when chosen.when c f.chosen.is chosen.is (subst G look f.chosen.member) chosen.member in
          let Q : ℕ → Type 0 = λ y. at (row g n) y ≡ Some f.opens.right in
          let right : f.opens.right ≡ r = some_is f.opens.right r (sym (subst Q same f.opens.is) ∙ e) in
          let R : List Symbol → Type 0 = λ y. Derives g f.later (y ++ ss) w in
          record {
            rest = f.later;
            is = l.is ∙ ap (λ y. moves ++ y) (f.is ∙ ap (λ y. Expand n y ∷ f.later) same) ∙ sym (append_assoc moves (Expand n k ∷ []) f.later);
            derives = subst R right f.opens.rest;
          };
    }

-- a token is taken
word_first : (g : Rules) (c : ℕ) (ss : List Symbol) (moves : List Move) (ms : List Move) (w : List ℕ) (rest : List Move) → ms ≡ moves ++ rest → Derives g rest (Terminal c ∷ ss) (c ∷ w) → Continues g (moves ++ Shift ∷ []) ss ms w
word_first g c ss moves ms w [] e d = absurd d
word_first g c ss moves ms w (Expand x p ∷ rest) e d = absurd d
word_first g c ss moves ms w (Act x ∷ rest) e d = absurd d
word_first g c ss moves ms w (Shift ∷ rest) e d = record { rest = rest; is = e ∙ sym (append_assoc moves (Shift ∷ []) rest); derives = d.1 }

pub shift_step : (g : Rules) (t : Table) (done : List ℕ) (moves : List Move) (ss : List Symbol) (c : ℕ) → Reached g t done moves (Terminal c ∷ ss) (Some c) → Reached g t (done ++ c ∷ []) (moves ++ Shift ∷ []) ss None
shift_step g t done moves ss c reached = record {
  followed = reached.followed;
  known = reached.known;
  sound = λ ms w d.
      let P : List Move → Type 0 = λ y. Derives g y (Nonterminal t.start ∷ []) ((done ++ c ∷ []) ++ w) in
      let Q : List ℕ → Type 0 = λ y. Derives g (moves ++ Shift ∷ ms) (Nonterminal t.start ∷ []) y in
      subst P (sym (append_assoc moves (Shift ∷ []) ms)) (subst Q (sym (append_assoc done (c ∷ []) w)) (reached.sound (Shift ∷ ms) (c ∷ w) (refl, d)));
  whole = λ ms w look d.
      let Q : List ℕ → Type 0 = λ y. Derives g ms (Nonterminal t.start ∷ []) y in
      let k = reached.whole ms (c ∷ w) refl (subst Q (append_assoc done (c ∷ []) w) d) in
      word_first g c ss moves ms w k.rest k.is k.derives;
}

-- an action is met
act_first : (g : Rules) (a : ℕ) (ss : List Symbol) (moves : List Move) (ms : List Move) (w : List ℕ) (rest : List Move) → ms ≡ moves ++ rest → Derives g rest (Action a ∷ ss) w → Continues g (moves ++ Act a ∷ []) ss ms w
act_first g a ss moves ms w [] e d = absurd d
act_first g a ss moves ms w (Shift ∷ rest) e d = absurd d
act_first g a ss moves ms w (Expand x p ∷ rest) e d = absurd d
act_first g a ss moves ms w (Act x ∷ rest) e d =
    record { rest = rest; is = e ∙ ap (λ y. moves ++ (Act y ∷ rest)) d.0 ∙ sym (append_assoc moves (Act a ∷ []) rest); derives = d.1 }

pub act_step : (g : Rules) (t : Table) (done : List ℕ) (moves : List Move) (ss : List Symbol) (a : ℕ) (looks : Option ℕ) → Reached g t done moves (Action a ∷ ss) looks → Reached g t done (moves ++ Act a ∷ []) ss looks
act_step g t done moves ss a looks reached = record {
  followed = reached.followed;
  known = reached.known;
  sound = λ ms w d.
      let P : List Move → Type 0 = λ y. Derives g y (Nonterminal t.start ∷ []) (done ++ w) in
      subst P (sym (append_assoc moves (Act a ∷ []) ms)) (reached.sound (Act a ∷ ms) w (refl, d));
  whole = λ ms w look d.
      let k = reached.whole ms w look d in
      act_first g a ss moves ms w k.rest k.is k.derives;
}
