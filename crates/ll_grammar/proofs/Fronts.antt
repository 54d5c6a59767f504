-- What the words of a derivation begin with.
use Rattle.std.proofs.Common.{◌≡◌, ℕ, zero, suc, ◌+◌, ◌<◌, ◌^◌, ◌⊎◌, ⊎_elim, inl, inr, Bool, true, false, cond, ◌&&◌, nat_lt, nat_eq, bit_or, bit_and, List, [], ◌∷◌, ◌++◌, Option, Some, None, get_or, refl, sym, ap, subst, append_assoc, arith}
use Rattle.std.proofs.lemmas.Bool.{and_parts, true≢false, ltb-true}
use Rattle.ll_grammar.specs.Grammar.{Rules, Symbol, Terminal, Nonterminal, Action, Move, Shift, Expand, Act, at, row, spelled, Derives}
use Rattle.ll_grammar.specs.Predictive.{Table, is_in, within, is_nullable, first_of, all_nullable, are_followed, cost, is_good_way, are_good_ways, are_good_parts, ahead}
use Rattle.ll_grammar.specs.Standing.{Leads}
use Rattle.ll_grammar.proofs.Sets.{in_one, in_left, in_right, in_or, in_larger, in_both}

-- what a way of a part meets
pub record Good (t : Table) (n : ℕ) (right : List Symbol) (when : ℕ) : Type 0 where
  pub vanishing : all_nullable t right ≡ true → is_nullable t n ≡ true
  pub begins : within (first_of t right 0) (get_or t.certificate.firsts n 0) ≡ true
  pub follows : are_followed t right (get_or t.certificate.follows n 0) ≡ true
  pub chosen : within (first_of t right (get_or t.certificate.follows n 0)) when ≡ true
  pub cheap : cost t right < get_or t.certificate.costs n 0

implied : (a b : Bool) → cond a b true ≡ true → a ≡ true → b ≡ true
implied true b h e = h
implied false b h e = absurd (true≢false (sym e))

good_way : (t : Table) (n : ℕ) (r : List Symbol) (w : ℕ) → is_good_way t n r w ≡ true → Good t n r w
good_way t n r w h =
    let five = and_parts (cond (all_nullable t r) (is_nullable t n) true && within (first_of t r 0) (get_or t.certificate.firsts n 0) && are_followed t r (get_or t.certificate.follows n 0) && within (first_of t r (get_or t.certificate.follows n 0)) w) (nat_lt (cost t r) (get_or t.certificate.costs n 0)) h in
    let four = and_parts (cond (all_nullable t r) (is_nullable t n) true && within (first_of t r 0) (get_or t.certificate.firsts n 0) && are_followed t r (get_or t.certificate.follows n 0)) (within (first_of t r (get_or t.certificate.follows n 0)) w) five.0 in
    let three = and_parts (cond (all_nullable t r) (is_nullable t n) true && within (first_of t r 0) (get_or t.certificate.firsts n 0)) (are_followed t r (get_or t.certificate.follows n 0)) four.0 in
    let two = and_parts (cond (all_nullable t r) (is_nullable t n) true) (within (first_of t r 0) (get_or t.certificate.firsts n 0)) three.0 in
    record {
      vanishing = implied (all_nullable t r) (is_nullable t n) two.0;
      begins = two.1;
      follows = three.1;
      chosen = four.1;
      cheap = ltb-true (cost t r) (get_or t.certificate.costs n 0) five.1;
    }

pub some_is : {A : Type 0} (x y : A) → Some x ≡ Some y → x ≡ y
some_is x y e = cc

pub not_none : {A : Type 0} (x : A) → None ≡ Some x → ⊥
not_none x e = cc

-- ---- the ways of one part

record Split (t : Table) (n seen : ℕ) (r : List Symbol) (w : ℕ) (rs : List (List Symbol)) (ws : List ℕ) : Type 0 where
  first : is_good_way t n r w ≡ true
  apart : nat_eq (bit_and seen w) 0 ≡ true
  others : are_good_ways t n (bit_or seen w) rs ws ≡ true

split : (t : Table) (n seen : ℕ) (r : List Symbol) (w : ℕ) (rs : List (List Symbol)) (ws : List ℕ) → are_good_ways t n seen (r ∷ rs) (w ∷ ws) ≡ true → Split t n seen r w rs ws
split t n seen r w rs ws h =
    let two = and_parts (is_good_way t n r w && nat_eq (bit_and seen w) 0) (are_good_ways t n (bit_or seen w) rs ws) h in
    let one = and_parts (is_good_way t n r w) (nat_eq (bit_and seen w) 0) two.0 in
    record { first = one.0; apart = one.1; others = two.1 }

-- the way at a place, with its classes
pub record Way (t : Table) (n : ℕ) (ws : List ℕ) (k : ℕ) (right : List Symbol) : Type 0 where
  pub when : ℕ
  pub is : at ws k ≡ Some when
  pub good : Good t n right when

way_at : (t : Table) (n seen : ℕ) (rs : List (List Symbol)) (ws : List ℕ) (k : ℕ) (right : List Symbol) → are_good_ways t n seen rs ws ≡ true → at rs k ≡ Some right → Way t n ws k right
way_at t n seen [] ws k right h e = absurd (not_none right e)
way_at t n seen (r ∷ rs) [] k right h e = absurd (true≢false (sym h))
way_at t n seen (r ∷ rs) (w ∷ ws) zero right h e =
    let P : List Symbol → Type 0 = λ x. Good t n x w in
    record { when = w; is = refl; good = subst P (some_is r right e) (good_way t n r w (split t n seen r w rs ws h).first) }
way_at t n seen (r ∷ rs) (w ∷ ws) (suc k) right h e =
    let x = way_at t n (bit_or seen w) rs ws k right (split t n seen r w rs ws h).others e in
    record { when = x.when; is = x.is; good = x.good }

unseen : (t : Table) (n seen : ℕ) (rs : List (List Symbol)) (ws : List ℕ) (k w c : ℕ) → are_good_ways t n seen rs ws ≡ true → at ws k ≡ Some w → is_in c seen ≡ true → is_in c w ≡ true → ⊥
unseen t n seen [] [] k w c h e i j = not_none w e
unseen t n seen [] (x ∷ ws) k w c h e i j = true≢false (sym h)
unseen t n seen (r ∷ rs) [] k w c h e i j = not_none w e
unseen t n seen (r ∷ rs) (x ∷ ws) zero w c h e i j =
    let P : ℕ → Type 0 = λ y. is_in c y ≡ true in
    in_both c seen x (split t n seen r x rs ws h).apart i (subst P (sym (some_is x w e)) j)
unseen t n seen (r ∷ rs) (x ∷ ws) (suc k) w c h e i j =
    unseen t n (bit_or seen x) rs ws k w c (split t n seen r x rs ws h).others e (in_left c seen x i) j

-- no class has two ways
one_way : (t : Table) (n seen : ℕ) (rs : List (List Symbol)) (ws : List ℕ) (j k v w c : ℕ) → are_good_ways t n seen rs ws ≡ true → at ws j ≡ Some v → at ws k ≡ Some w → is_in c v ≡ true → is_in c w ≡ true → j ≡ k
one_way t n seen [] [] j k v w c h e f i l = absurd (not_none v e)
one_way t n seen [] (x ∷ ws) j k v w c h e f i l = absurd (true≢false (sym h))
one_way t n seen (r ∷ rs) [] j k v w c h e f i l = absurd (not_none v e)
one_way t n seen (r ∷ rs) (x ∷ ws) zero zero v w c h e f i l = refl
one_way t n seen (r ∷ rs) (x ∷ ws) zero (suc k) v w c h e f i l =
    let P : ℕ → Type 0 = λ y. is_in c y ≡ true in
    absurd (unseen t n (bit_or seen x) rs ws k w c (split t n seen r x rs ws h).others f (in_right c seen x (subst P (sym (some_is x v e)) i)) l)
one_way t n seen (r ∷ rs) (x ∷ ws) (suc j) zero v w c h e f i l =
    let P : ℕ → Type 0 = λ y. is_in c y ≡ true in
    absurd (unseen t n (bit_or seen x) rs ws j v c (split t n seen r x rs ws h).others e (in_right c seen x (subst P (sym (some_is x w f)) l)) i)
one_way t n seen (r ∷ rs) (x ∷ ws) (suc j) (suc k) v w c h e f i l =
    ap suc (one_way t n (bit_or seen x) rs ws j k v w c (split t n seen r x rs ws h).others e f i l)

-- ---- the ways of all parts

part_at : (t : Table) (n : ℕ) (g : Rules) (ws : List (List ℕ)) (m : ℕ) → are_good_parts t n g ws ≡ true → are_good_ways t (n + m) 0 (row g m) (row ws m) ≡ true
part_at t n [] [] m h = refl
part_at t n [] (w ∷ ws) m h = absurd (true≢false (sym h))
part_at t n (r ∷ g) [] m h = absurd (true≢false (sym h))
part_at t n (r ∷ g) (w ∷ ws) zero h =
    let P : ℕ → Type 0 = λ y. are_good_ways t y 0 r w ≡ true in
    subst P (let e : n ≡ n + zero = omega arith in e) (and_parts (are_good_ways t n 0 r w) (are_good_parts t (n + 1) g ws) h).0
part_at t n (r ∷ g) (w ∷ ws) (suc m) h =
    let P : ℕ → Type 0 = λ y. are_good_ways t y 0 (row g m) (row ws m) ≡ true in
    subst P (let e : (n + 1) + m ≡ n + suc m = omega arith in e) (part_at t (n + 1) g ws m (and_parts (are_good_ways t n 0 r w) (are_good_parts t (n + 1) g ws) h).1)

good_part : (g : Rules) (t : Table) → are_good_parts t 0 g t.lookaheads ≡ true → (n : ℕ) → are_good_ways t n 0 (row g n) (row t.lookaheads n) ≡ true
good_part g t h n =
    let P : ℕ → Type 0 = λ y. are_good_ways t y 0 (row g n) (row t.lookaheads n) ≡ true in
    subst P (let e : 0 + n ≡ n = omega arith in e) (part_at t 0 g t.lookaheads n h)

pub way_of : (g : Rules) (t : Table) → are_good_parts t 0 g t.lookaheads ≡ true → (n k : ℕ) (right : List Symbol) → at (row g n) k ≡ Some right → Way t n (row t.lookaheads n) k right
way_of g t h n k right e = way_at t n 0 (row g n) (row t.lookaheads n) k right (good_part g t h n) e

pub one_way_of : (g : Rules) (t : Table) → are_good_parts t 0 g t.lookaheads ≡ true → (n j k v w c : ℕ) → at (row t.lookaheads n) j ≡ Some v → at (row t.lookaheads n) k ≡ Some w → is_in c v ≡ true → is_in c w ≡ true → j ≡ k
one_way_of g t h n j k v w c e f i l = one_way t n 0 (row g n) (row t.lookaheads n) j k v w c (good_part g t h n) e f i l

-- a way that was taken
pub record Opened (D : List Symbol → Type 0) (ss : List Symbol) (o : Option (List Symbol)) : Type 0 where
  pub right : List Symbol
  pub is : o ≡ Some right
  pub rest : D (right ++ ss)

pub opened : (D : List Symbol → Type 0) (ss : List Symbol) (o : Option (List Symbol)) → spelled D ss o → Opened D ss o
opened D ss None h = absurd h
opened D ss (Some r) h = record { right = r; is = refl; rest = h }

-- ---- fronts

pub first_of_append : (t : Table) (a b : List Symbol) (m : ℕ) → first_of t (a ++ b) m ≡ first_of t a (first_of t b m)
first_of_append t [] b m = refl
first_of_append t (Terminal c ∷ a) b m = refl
first_of_append t (Action x ∷ a) b m = first_of_append t a b m
first_of_append t (Nonterminal n ∷ a) b m = ap (λ x. cond (is_nullable t n) (bit_or (get_or t.certificate.firsts n 0) x) (get_or t.certificate.firsts n 0)) (first_of_append t a b m)

part_split : (e v : Bool) (c b x y : ℕ) (K : Type 0) → (is_in c x ≡ true → (is_in c y ≡ true) ⊎ ((v ≡ true) × K)) → is_in c (cond e (bit_or b x) b) ≡ true → (is_in c (cond e (bit_or b y) b) ≡ true) ⊎ (((e && v) ≡ true) × K)
part_split false v c b x y K f h = inl h
part_split true v c b x y K f h =
    ⊎_elim
    (λ (i : is_in c b ≡ true). inl (in_left c b y i))
    (λ (i : is_in c x ≡ true). ⊎_elim (λ (j : is_in c y ≡ true). inl (in_right c b y j)) (λ (j : (v ≡ true) × K). inr j) (f i))
    (in_or c b x h)

pub first_of_split : (t : Table) (a : List Symbol) (m c : ℕ) → is_in c (first_of t a m) ≡ true → (is_in c (first_of t a 0) ≡ true) ⊎ ((all_nullable t a ≡ true) × (is_in c m ≡ true))
first_of_split t [] m c h = inr (refl, h)
first_of_split t (Terminal d ∷ a) m c h = inl h
first_of_split t (Action x ∷ a) m c h = first_of_split t a m c h
first_of_split t (Nonterminal n ∷ a) m c h =
    part_split (is_nullable t n) (all_nullable t a) c (get_or t.certificate.firsts n 0) (first_of t a m) (first_of t a 0) (is_in c m ≡ true) (first_of_split t a m c) h

in_begins : (e : Bool) (c b x : ℕ) → is_in c b ≡ true → is_in c (cond e (bit_or b x) b) ≡ true
in_begins true c b x h = in_left c b x h
in_begins false c b x h = h

in_after : (e : Bool) (c b x : ℕ) → e ≡ true → is_in c x ≡ true → is_in c (cond e (bit_or b x) b) ≡ true
in_after true c b x e h = in_right c b x h
in_after false c b x e h = absurd (true≢false (sym e))

-- the right side of a way begins as its part does
pub first_of_way : (t : Table) (n : ℕ) (r : List Symbol) (w : ℕ) (a : List Symbol) (m c : ℕ) → Good t n r w → is_in c (first_of t (r ++ a) m) ≡ true → is_in c (first_of t (Nonterminal n ∷ a) m) ≡ true
first_of_way t n r w a m c good h =
    let P : ℕ → Type 0 = λ x. is_in c x ≡ true in
    ⊎_elim
    (λ (i : is_in c (first_of t r 0) ≡ true). in_begins (is_nullable t n) c (get_or t.certificate.firsts n 0) (first_of t a m) (in_larger c (first_of t r 0) (get_or t.certificate.firsts n 0) good.begins i))
    (λ (i : (all_nullable t r ≡ true) × (is_in c (first_of t a m) ≡ true)). in_after (is_nullable t n) c (get_or t.certificate.firsts n 0) (first_of t a m) (good.vanishing i.0) i.1)
    (first_of_split t r (first_of t a m) c (subst P (first_of_append t r a m) h))

pub leads : (g : Rules) (t : Table) → are_good_parts t 0 g t.lookaheads ≡ true → (ss : List Symbol) (m : ℕ) → Leads g t ss m → (ms : List Move) (a : List Symbol) (w : List ℕ) → Derives g ms (a ++ ss) w → is_in (ahead t w) (first_of t a m) ≡ true
leads g t good ss m after ms [] w d = after ms w d
leads g t good ss m after [] (x ∷ a) w d = absurd d
leads g t good ss m after (Shift ∷ ms) (Terminal c ∷ a) [] d = absurd d
leads g t good ss m after (Shift ∷ ms) (Terminal c ∷ a) (k ∷ w) d =
    let P : ℕ → Type 0 = λ x. is_in x (2 ^ c) ≡ true in
    subst P d.0 (in_one c)
leads g t good ss m after (Shift ∷ ms) (Nonterminal n ∷ a) w d = absurd d
leads g t good ss m after (Shift ∷ ms) (Action y ∷ a) w d = absurd d
leads g t good ss m after (Act x ∷ ms) (Terminal c ∷ a) w d = absurd d
leads g t good ss m after (Act x ∷ ms) (Nonterminal n ∷ a) w d = absurd d
leads g t good ss m after (Act x ∷ ms) (Action y ∷ a) w d = leads g t good ss m after ms a w d.1
leads g t good ss m after (Expand x k ∷ ms) (Terminal c ∷ a) w d = absurd d
leads g t good ss m after (Expand x k ∷ ms) (Action y ∷ a) w d = absurd d
leads g t good ss m after (Expand x k ∷ ms) (Nonterminal n ∷ a) w d =
    let o = opened (λ s. Derives g ms s w) (a ++ ss) (at (row g n) k) d.1 in
    let P : List Symbol → Type 0 = λ s. Derives g ms s w in
    let y = way_of g t good n k o.right o.is in
    first_of_way t n o.right y.when a m (ahead t w) y.good
    (leads g t good ss m after ms (o.right ++ a) w (subst P (sym (append_assoc o.right a ss)) o.rest))
