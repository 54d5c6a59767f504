-- Every part derives some words, so what is left of a text can always be ended.
use Rattle.std.proofs.Common.{◌≡◌, ℕ, zero, suc, ◌+◌, ◌<◌, Bool, true, false, cond, ◌&&◌, nat_lt, List, [], ◌∷◌, ◌++◌, Option, Some, None, get_or, length, length-append, refl, sym, ap, ◌∙◌, subst, append_assoc, append-nil, arith}
use Rattle.std.proofs.lemmas.Bool.{and_parts, true≢false, ltb-true}
use Rattle.ll_grammar.specs.Grammar.{Rules, Symbol, Terminal, Nonterminal, Action, Move, Shift, Expand, Act, at, row, Derives, shifts}
use Rattle.ll_grammar.specs.Predictive.{Table, are_known, are_lower, ends_by, all_end, is_nullable, cost, all_nullable}
use Rattle.ll_grammar.specs.Standing.{Reached}
use Rattle.ll_grammar.specs.Texts.{IsViablePrefix}
use Rattle.ll_grammar.proofs.Fronts.{way_of, opened}
use Rattle.ll_grammar.proofs.Predicts.{Predictive, applies, known_part}

-- some words that the symbols derive
pub record Ends (g : Rules) (ss : List Symbol) : Type 0 where
  pub moves : List Move
  pub words : List ℕ
  pub derives : Derives g moves ss words

pub joined : (g : Rules) (m k : List Move) (a b : List Symbol) (v w : List ℕ) → Derives g m a v → Derives g k b w → Derives g (m ++ k) (a ++ b) (v ++ w)
joined g [] k [] b [] w d e = e
joined g [] k [] b (c ∷ v) w d e = absurd d
joined g [] k (x ∷ a) b v w d e = absurd d
joined g (Shift ∷ m) k [] b v w d e = absurd d
joined g (Shift ∷ m) k (Nonterminal n ∷ a) b v w d e = absurd d
joined g (Shift ∷ m) k (Terminal c ∷ a) b [] w d e = absurd d
joined g (Shift ∷ m) k (Terminal c ∷ a) b (x ∷ v) w d e = (d.0, joined g m k a b v w d.1 e)
joined g (Shift ∷ m) k (Action y ∷ a) b v w d e = absurd d
joined g (Act x ∷ m) k [] b v w d e = absurd d
joined g (Act x ∷ m) k (Terminal c ∷ a) b v w d e = absurd d
joined g (Act x ∷ m) k (Nonterminal n ∷ a) b v w d e = absurd d
joined g (Act x ∷ m) k (Action y ∷ a) b v w d e = (d.0, joined g m k a b v w d.1 e)
joined g (Expand x p ∷ m) k [] b v w d e = absurd d
joined g (Expand x p ∷ m) k (Action y ∷ a) b v w d e = absurd d
joined g (Expand x p ∷ m) k (Terminal c ∷ a) b v w d e = absurd d
joined g (Expand x p ∷ m) k (Nonterminal n ∷ a) b v w d e =
    let o = opened (λ s. Derives g m s v) a (at (row g n) p) d.1 in
    let P : List Symbol → Type 0 = λ s. Derives g (m ++ k) s (v ++ w) in (
      d.0,
      applies (λ s. Derives g (m ++ k) s (v ++ w)) (a ++ b) (at (row g n) p) o.right o.is
          (subst P (append_assoc o.right a b) (joined g m k (o.right ++ a) b v w o.rest e)),
    )

pub shifts_append : (a b : List Move) → shifts (a ++ b) ≡ shifts a + shifts b
shifts_append [] b = omega arith
shifts_append (Shift ∷ a) b = let h = shifts_append a b in omega arith
shifts_append (Expand m k ∷ a) b = shifts_append a b
shifts_append (Act x ∷ a) b = shifts_append a b

-- a derivation takes all words
pub all_shifted : (g : Rules) (ms : List Move) (ss : List Symbol) (w : List ℕ) → Derives g ms ss w → shifts ms ≡ length w
all_shifted g [] [] [] d = refl
all_shifted g [] [] (c ∷ w) d = absurd d
all_shifted g [] (s ∷ ss) w d = absurd d
all_shifted g (Shift ∷ ms) [] w d = absurd d
all_shifted g (Shift ∷ ms) (Nonterminal n ∷ ss) w d = absurd d
all_shifted g (Shift ∷ ms) (Action a ∷ ss) w d = absurd d
all_shifted g (Shift ∷ ms) (Terminal c ∷ ss) [] d = absurd d
all_shifted g (Shift ∷ ms) (Terminal c ∷ ss) (x ∷ w) d = ap suc (all_shifted g ms ss w d.1)
all_shifted g (Act a ∷ ms) [] w d = absurd d
all_shifted g (Act a ∷ ms) (Terminal c ∷ ss) w d = absurd d
all_shifted g (Act a ∷ ms) (Nonterminal n ∷ ss) w d = absurd d
all_shifted g (Act a ∷ ms) (Action b ∷ ss) w d = all_shifted g ms ss w d.1
all_shifted g (Expand m k ∷ ms) [] w d = absurd d
all_shifted g (Expand m k ∷ ms) (Terminal c ∷ ss) w d = absurd d
all_shifted g (Expand m k ∷ ms) (Action b ∷ ss) w d = absurd d
all_shifted g (Expand m k ∷ ms) (Nonterminal n ∷ ss) w d =
    let o = opened (λ s. Derives g ms s w) ss (at (row g n) k) d.1 in all_shifted g ms (o.right ++ ss) w o.rest

-- the way by which a part ends
record Easiest (g : Rules) (t : Table) (n h : ℕ) : Type 0 where
  pub way : ℕ
  pub right : List Symbol
  pub is : at (row g n) way ≡ Some right
  pub lower : are_lower t h right ≡ true

walked : (g : Rules) (t : Table) (n h p : ℕ) (o : Option (List Symbol)) → at (row g n) p ≡ o → ends_by t h o ≡ true → Easiest g t n h
walked g t n h p None e f = absurd (true≢false (sym f))
walked g t n h p (Some r) e f = record { way = p; right = r; is = e; lower = f }

walk : (g : Rules) (t : Table) (k : ℕ) (hs ps : List ℕ) (n : ℕ) → all_end g t k hs ps ≡ true → n < length hs → Easiest g t (k + n) (get_or hs n 0)
walk g t k [] ps n h lt = absurd (omega arith)
walk g t k (x ∷ hs) [] n h lt = absurd (true≢false (sym h))
walk g t k (x ∷ hs) (p ∷ ps) zero h lt =
    let P : ℕ → Type 0 = λ y. Easiest g t y x in
    subst P (let e : k ≡ k + zero = omega arith in e) (walked g t k x p (at (row g k) p) refl (and_parts (ends_by t x (at (row g k) p)) (all_end g t (k + 1) hs ps) h).0)
walk g t k (x ∷ hs) (p ∷ ps) (suc n) h lt =
    let P : ℕ → Type 0 = λ y. Easiest g t y (get_or hs n 0) in
    subst P (let e : (k + 1) + n ≡ k + suc n = omega arith in e) (walk g t (k + 1) hs ps n (and_parts (ends_by t x (at (row g k) p)) (all_end g t (k + 1) hs ps) h).1 (omega arith))

easiest : (g : Rules) (t : Table) → Predictive g t → (n : ℕ) → n < length t.certificate.heights → Easiest g t n (get_or t.certificate.heights n 0)
easiest g t x n lt =
    let P : ℕ → Type 0 = λ y. Easiest g t y (get_or t.certificate.heights n 0) in
    subst P (let e : 0 + n ≡ n = omega arith in e) (walk g t 0 t.certificate.heights t.certificate.easiest n x.ends lt)

-- each part of less height ends, so these symbols do
all_of : (g : Rules) (t : Table) (h : ℕ) → ((n : ℕ) → n < length t.certificate.heights → get_or t.certificate.heights n 0 < h → Ends g (Nonterminal n ∷ [])) → (ss : List Symbol) → are_known t ss ≡ true → are_lower t h ss ≡ true → Ends g ss
all_of g t h each [] k l = record { moves = []; words = []; derives = tt }
all_of g t h each (Terminal c ∷ ss) k l =
    let e = all_of g t h each ss k l in
    record { moves = Shift ∷ e.moves; words = c ∷ e.words; derives = (refl, e.derives) }
all_of g t h each (Action a ∷ ss) k l =
    let e = all_of g t h each ss k l in
    record { moves = Act a ∷ e.moves; words = e.words; derives = (refl, e.derives) }
all_of g t h each (Nonterminal n ∷ ss) k l =
    let known = and_parts (nat_lt n (length t.certificate.heights)) (are_known t ss) k in
    let low = and_parts (nat_lt (get_or t.certificate.heights n 0) h) (are_lower t h ss) l in
    let e = all_of g t h each ss known.1 low.1 in
    let f = each n (ltb-true n (length t.certificate.heights) known.0) (ltb-true (get_or t.certificate.heights n 0) h low.0) in
    record { moves = f.moves ++ e.moves; words = f.words ++ e.words; derives = joined g f.moves e.moves (Nonterminal n ∷ []) ss f.words e.words f.derives e.derives }

part_ends : (g : Rules) (t : Table) → Predictive g t → (h n : ℕ) → n < length t.certificate.heights → get_or t.certificate.heights n 0 < h → Ends g (Nonterminal n ∷ [])
part_ends g t x zero n k l = absurd (omega arith)
part_ends g t x (suc h) n k l =
    let s = easiest g t x n k in
    let e = all_of g t (get_or t.certificate.heights n 0) (λ m a b. part_ends g t x h m a (omega arith)) s.right (known_part t g n s.way s.right x.knows s.is) s.lower in
    let P : List Symbol → Type 0 = λ y. Derives g e.moves y e.words in
    record {
      moves = Expand n s.way ∷ e.moves;
      words = e.words;
      derives = (refl, applies (λ y. Derives g e.moves y e.words) [] (at (row g n) s.way) s.right s.is (subst P (sym (append-nil s.right)) e.derives));
    }

pub ends : (g : Rules) (t : Table) → Predictive g t → (ss : List Symbol) → are_known t ss ≡ true → Ends g ss
ends g t x [] k = record { moves = []; words = []; derives = tt }
ends g t x (Terminal c ∷ ss) k =
    let e = ends g t x ss k in
    record { moves = Shift ∷ e.moves; words = c ∷ e.words; derives = (refl, e.derives) }
ends g t x (Action a ∷ ss) k =
    let e = ends g t x ss k in
    record { moves = Act a ∷ e.moves; words = e.words; derives = (refl, e.derives) }
ends g t x (Nonterminal n ∷ ss) k =
    let known = and_parts (nat_lt n (length t.certificate.heights)) (are_known t ss) k in
    let e = ends g t x ss known.1 in
    let f = part_ends g t x (get_or t.certificate.heights n 0 + 1) n (ltb-true n (length t.certificate.heights) known.0) (omega arith) in
    record { moves = f.moves ++ e.moves; words = f.words ++ e.words; derives = joined g f.moves e.moves (Nonterminal n ∷ []) ss f.words e.words f.derives e.derives }

pub begins : (g : Rules) (t : Table) → Predictive g t → (done : List ℕ) (moves : List Move) (ss : List Symbol) (looks : Option ℕ) → Reached g t done moves ss looks → IsViablePrefix g t.start done moves
begins g t x done moves ss looks r =
    let e = ends g t x ss r.known in
    let d = r.sound e.moves e.words e.derives in
    let n : shifts moves + shifts e.moves ≡ length done + length e.words = sym (shifts_append moves e.moves) ∙ all_shifted g (moves ++ e.moves) (Nonterminal t.start ∷ []) (done ++ e.words) d ∙ length-append done e.words in
    let k : shifts e.moves ≡ length e.words = all_shifted g e.moves ss e.words e.derives in
    record { more = e.words; rest = e.moves; derives = d; counted = omega arith }

-- ---- how many ways are taken before the next token

by_empty : (e v : Bool) (mine a b ab : ℕ) → ab ≡ a + cond v b 0 → cond e (mine + ab) mine ≡ cond e (mine + a) mine + cond (e && v) b 0
by_empty true v mine a b ab h = omega arith
by_empty false v mine a b ab h = omega arith

cost_append : (t : Table) (a b : List Symbol) → cost t (a ++ b) ≡ cost t a + cond (all_nullable t a) (cost t b) 0
cost_append t [] b = omega arith
cost_append t (Terminal c ∷ a) b = omega arith
cost_append t (Action x ∷ a) b = let h = cost_append t a b in omega arith
cost_append t (Nonterminal n ∷ a) b = by_empty (is_nullable t n) (all_nullable t a) (get_or t.certificate.costs n 0) (cost t a) (cost t b) (cost t (a ++ b)) (cost_append t a b)

less : (v e : Bool) (right mine after : ℕ) → (v ≡ true → e ≡ true) → right < mine → right + cond v after 0 < cond e (mine + after) mine
less true true right mine after f lt = omega arith
less true false right mine after f lt = absurd (true≢false (sym (f refl)))
less false true right mine after f lt = omega arith
less false false right mine after f lt = omega arith

pub cheaper : (g : Rules) (t : Table) → Predictive g t → (n k : ℕ) (r : List Symbol) (ss : List Symbol) → at (row g n) k ≡ Some r → cost t (r ++ ss) < cost t (Nonterminal n ∷ ss)
cheaper g t x n k r ss e =
    let good = (way_of g t x.parts n k r e).good in
    let Q : ℕ → Type 0 = λ y. y < cost t (Nonterminal n ∷ ss) in
    subst Q (sym (cost_append t r ss)) (less (all_nullable t r) (is_nullable t n) (cost t r) (get_or t.certificate.costs n 0) (cost t ss) good.vanishing good.cheap)
