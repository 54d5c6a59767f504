-- Where a walk over moves and tokens stands, and how it goes on.
use Rattle.std.proofs.Common.{◌≡◌, ℕ, zero, suc, map, ◌+◌, ◌<◌, ◌≤◌, List, [], ◌∷◌, ◌++◌, Option, Some, None, take, drop, length, length-take-le, get_or, refl, sym, ap, ◌∙◌, subst, append-nil, arith, add-one}
use Rattle.std.proofs.Math.Seq.{take-suc, drop-cons}
use Rattle.std.proofs.lemmas.List.{take-append-drop, take_all}
use Rattle.ll_grammar.specs.declared.form.Move.{Move}
use Rattle.ll_grammar.specs.declared.form.Move.TheVariants.{Shift, Expand, Act}
use Rattle.ll_grammar.specs.Grammar.{shifts}
use Rattle.ll_grammar.specs.Watch.{Watch, and_then, watched, GoesOn}
use Rattle.res_grammar.specs.Laws.{Laws}
use Rattle.res_grammar.specs.OwnName.{own}
use Rattle.res_grammar.specs.ClosingName.{closing}
use Rattle.res_grammar.specs.Nesting.{nesting}
use Rattle.res_grammar.specs.Faults.{Passed, Refuses, acted, AllPass, RefusesAfter, StopsAt}
use Rattle.res_lexer.specs.declared.token.Token.{Token}
use Rattle.res_grammar.specs.declared.watches.Watches.{Watches}
use Rattle.res_grammar.specs.declared.watches.Fault.{Fault}
use Rattle.res_grammar.specs.declared.watches.Fault.TheVariants.{Expected, TooDeep, EndName}

pub take_map : {A B : Type 0} (f : A → B) (k : ℕ) (xs : List A) → take k (map f xs) ≡ map f (take k xs)
take_map f zero xs = refl
take_map f (suc k) [] = refl
take_map f (suc k) (x ∷ xs) = ap (λ z. f x ∷ z) (take_map f k xs)

-- What the watches know after these moves over these tokens.
pub record Stood (moves : List Move) (ts : List Token) (s : Watches) : Type 0 where
  pub own : watched own moves ts own.outset ≡ Some s.own
  pub nesting : watched nesting moves ts nesting.outset ≡ Some s.nesting
  pub closing : watched closing moves ts closing.outset ≡ Some s.closing

some_of : {M : Type 0} (o : Option M) → and_then o (λ m. Some m) ≡ o
some_of None = refl
some_of (Some m) = refl

shift_on : {M : Type 0} → GoesOn M Token → (w : Watch M Token) (ms : List Move) (ts : List Token) (y : Token) (m : M) (o : Option M) → watched w ms ts w.outset ≡ Some m → w.shift y m ≡ o → watched w (ms ++ Shift ∷ []) (ts ++ y ∷ []) w.outset ≡ o
shift_on law w ms ts y m o e i = law w ms (Shift ∷ []) ts (y ∷ []) w.outset m e ∙ some_of (w.shift y m) ∙ i

act_on : {M : Type 0} → GoesOn M Token → (w : Watch M Token) (ms : List Move) (ts : List Token) (a : ℕ) (m : M) → watched w ms ts w.outset ≡ Some m → watched w (ms ++ Act a ∷ []) ts w.outset ≡ Some (w.act a m)
act_on {M} law w ms ts a m e =
    let P : List Token → Type 0 = λ z. watched w (ms ++ Act a ∷ []) z w.outset ≡ Some (w.act a m) in
    subst P (append-nil ts) (law w ms (Act a ∷ []) ts [] w.outset m e)

expand_on : {M : Type 0} → GoesOn M Token → (w : Watch M Token) (ms : List Move) (ts : List Token) (n k : ℕ) (m : M) → watched w ms ts w.outset ≡ Some m → watched w (ms ++ Expand n k ∷ []) ts w.outset ≡ Some m
expand_on {M} law w ms ts n k m e =
    let P : List Token → Type 0 = λ z. watched w (ms ++ Expand n k ∷ []) z w.outset ≡ Some m in
    subst P (append-nil ts) (law w ms (Expand n k ∷ []) ts [] w.outset m e)

pub taken_on : {A : Type 0} (xs : List A) (i : ℕ) (d : A) → i < length xs → take (i + 1) xs ≡ take i xs ++ get_or xs i d ∷ []
taken_on xs i d h = rw add-one (take-suc xs i d h)

shifts_append : (a b : List Move) → shifts (a ++ b) ≡ shifts a + shifts b
shifts_append [] b = omega arith
shifts_append (Shift ∷ a) b = let h = shifts_append a b in omega arith
shifts_append (Expand m k ∷ a) b = shifts_append a b
shifts_append (Act x ∷ a) b = shifts_append a b

pub step_on : (moves : List Move) (i : ℕ) (d x : Move) → i < length moves → x ≡ get_or moves i d → take i moves ++ x ∷ [] ≡ take (i + 1) moves
step_on moves i d x l e = ap (λ z. take i moves ++ z ∷ []) e ∙ sym (taken_on moves i d l)

pub shifted : Laws → (ms : List Move) (ts : List Token) (y : Token) (s new : Watches) → Passed y s new → Stood ms ts s → Stood (ms ++ Shift ∷ []) (ts ++ y ∷ []) new
shifted law ms ts y s new p h = record {
  own = shift_on law.own own ms ts y s.own (Some new.own) h.own p.own;
  nesting = shift_on law.nesting nesting ms ts y s.nesting (Some new.nesting) h.nesting p.nesting;
  closing = shift_on law.closing closing ms ts y s.closing (Some new.closing) h.closing p.closing;
}

pub act_met : Laws → (ms : List Move) (ts : List Token) (a : ℕ) (s : Watches) → Stood ms ts s → Stood (ms ++ Act a ∷ []) ts (acted a s)
act_met law ms ts a s h = record {
  own = act_on law.own own ms ts a s.own h.own;
  nesting = act_on law.nesting nesting ms ts a s.nesting h.nesting;
  closing = act_on law.closing closing ms ts a s.closing h.closing;
}

pub part_spelled : Laws → (ms : List Move) (ts : List Token) (n k : ℕ) (s : Watches) → Stood ms ts s → Stood (ms ++ Expand n k ∷ []) ts s
part_spelled law ms ts n k s h = record {
  own = expand_on law.own own ms ts n k s.own h.own;
  nesting = expand_on law.nesting nesting ms ts n k s.nesting h.nesting;
  closing = expand_on law.closing closing ms ts n k s.closing h.closing;
}

pub all_pass : (ms : List Move) (ts : List Token) (s : Watches) → Stood ms ts s → AllPass ms ts
all_pass ms ts s h = record {
  own = record { last = s.own; passes = h.own };
  nesting = record { last = s.nesting; passes = h.nesting };
  closing = record { last = s.closing; passes = h.closing };
}

pub refused_after : Laws → (f : Fault) (ms : List Move) (ts : List Token) (y : Token) (s : Watches) → Refuses f y s → Stood ms ts s → RefusesAfter f (ms ++ Shift ∷ []) (ts ++ y ∷ [])
refused_after law Expected ms ts y s r h = shift_on law.own own ms ts y s.own None h.own r
refused_after law TooDeep ms ts y s r h = (
  record { last = r.0.own_names; passes = shift_on law.own own ms ts y s.own (Some r.0.own_names) h.own r.0.is },
  shift_on law.nesting nesting ms ts y s.nesting None h.nesting r.1,
)
refused_after law EndName ms ts y s r h = (
  record { last = r.0.own_names; passes = shift_on law.own own ms ts y s.own (Some r.0.own_names) h.own r.0.is },
  record { last = r.1.depths; passes = shift_on law.nesting nesting ms ts y s.nesting (Some r.1.depths) h.nesting r.1.is },
  shift_on law.closing closing ms ts y s.closing None h.closing r.2,
)

split_at : (moves : List Move) (i : ℕ) (d : Move) → i < length moves → moves ≡ take i moves ++ get_or moves i d ∷ drop (i + 1) moves
split_at moves i d l =
    sym (take-append-drop i moves) ∙ ap (λ z. take i moves ++ z) (rw (add-one, drop-cons moves i d) refl)

pub stops_at : Laws → (moves : List Move) (ts : List Token) (i place : ℕ) (d : Move) (e : Token) (f : Fault) (s : Watches) → i < length moves → place < length ts → Shift ≡ get_or moves i d → Refuses f (get_or ts place e) s → Stood (take i moves) (take place ts) s → StopsAt moves ts place f
stops_at law moves ts i place d e f s l inside x r h = record {
  first = take i moves;
  rest = drop (i + 1) moves;
  is = split_at moves i d l ∙ ap (λ z. take i moves ++ z ∷ drop (i + 1) moves) (sym x);
  inside = inside;
  before = all_pass (take i moves) (take place ts) s h;
  refuses =
      let P : List Token → Type 0 = λ z. RefusesAfter f (take i moves ++ Shift ∷ []) z in
      subst P (sym (taken_on ts place e inside)) (refused_after law f (take i moves) (take place ts) (get_or ts place e) s r h);
}

onward : (moves : List Move) (ts : List Token) (i : ℕ) (d x : Move) (s : Watches) → i < length moves → get_or moves i d ≡ x → Stood (take i moves ++ x ∷ []) ts s → Stood (take (i + 1) moves) ts s
onward moves ts i d x s l e h =
    let P : List Move → Type 0 = λ z. Stood z ts s in subst P (step_on moves i d x l (sym e)) h

pub on_shift : Laws → (moves : List Move) (ts : List Token) (i place : ℕ) (d : Move) (e : Token) (s new : Watches) → i < length moves → place < length ts → get_or moves i d ≡ Shift → Passed (get_or ts place e) s new → Stood (take i moves) (take place ts) s → Stood (take (i + 1) moves) (take (place + 1) ts) new
on_shift law moves ts i place d e s new l inside x p h =
    let P : List Token → Type 0 = λ z. Stood (take i moves ++ Shift ∷ []) z new in
    onward moves (take (place + 1) ts) i d Shift new l x (subst P (sym (taken_on ts place e inside)) (shifted law (take i moves) (take place ts) (get_or ts place e) s new p h))

pub on_expand : Laws → (moves : List Move) (ts : List Token) (i n k : ℕ) (d : Move) (s : Watches) → i < length moves → get_or moves i d ≡ Expand n k → Stood (take i moves) ts s → Stood (take (i + 1) moves) ts s
on_expand law moves ts i n k d s l x h = onward moves ts i d (Expand n k) s l x (part_spelled law (take i moves) ts n k s h)

pub on_act : Laws → (moves : List Move) (ts : List Token) (i a : ℕ) (d : Move) (s : Watches) → i < length moves → get_or moves i d ≡ Act a → Stood (take i moves) ts s → Stood (take (i + 1) moves) ts (acted a s)
on_act law moves ts i a d s l x h = onward moves ts i d (Act a) (acted a s) l x (act_met law (take i moves) ts a s h)

counted : (ms : List Move) (ts : List Token) (place : ℕ) → place ≤ length ts → shifts ms ≡ length (take place ts) → shifts ms ≡ place
counted ms ts place l e = e ∙ length-take-le place ts l

-- past the last token there is no more to take
pub no_more : Laws → (moves : List Move) (ts : List Token) (i place : ℕ) (d : Move) (s : Watches) → i < length moves → shifts moves ≡ length ts → length ts ≤ place → place ≤ length ts → get_or moves i d ≡ Shift → Stood (take i moves) (take place ts) s → ⊥
no_more law moves ts i place d s l n past within x h =
    let a : shifts (take i moves) ≡ place = counted (take i moves) ts place within (law.counts own (take i moves) (take place ts) own.outset s.own h.own) in
    let b : shifts moves ≡ shifts (take i moves) + shifts (get_or moves i d ∷ drop (i + 1) moves) = ap shifts (split_at moves i d l) ∙ shifts_append (take i moves) (get_or moves i d ∷ drop (i + 1) moves) in
    let P : Move → Type 0 = λ z. shifts moves ≡ shifts (take i moves) + shifts (z ∷ drop (i + 1) moves) in
    let c : shifts moves ≡ shifts (take i moves) + suc (shifts (drop (i + 1) moves)) = subst P x b in
    omega arith

-- all moves are made
pub all_made : Laws → (moves : List Move) (ts : List Token) (i place : ℕ) (s : Watches) → length moves ≤ i → shifts moves ≡ length ts → place ≤ length ts → Stood (take i moves) (take place ts) s → AllPass moves ts
all_made law moves ts i place s past n within h =
    let P : List Move → Type 0 = λ z. Stood z (take place ts) s in
    let k = subst P (take_all i moves past) h in
    let a : shifts moves ≡ place = counted moves ts place within (law.counts own moves (take place ts) own.outset s.own k.own) in
    let Q : List Token → Type 0 = λ z. Stood moves z s in
    all_pass moves ts s (subst Q (take_all place ts (omega arith)) k)

-- the same at equal values
pub moved_to : (ms : List Move) (ts : List Token) (p q : ℕ) (s new : Watches) → q ≡ p → new ≡ s → p ≤ length ts → Stood ms (take p ts) s → (q ≤ length ts) × Stood ms (take q ts) new
moved_to ms ts p q s new e f l h =
    let P : ℕ → Type 0 = λ z. (z ≤ length ts) × Stood ms (take z ts) new in
    let Q : Watches → Type 0 = λ z. Stood ms (take p ts) z in
    subst P (sym e) (l, subst Q (sym f) h)
