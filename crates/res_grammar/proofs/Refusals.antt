-- Where a walk stops, there is a fault, and before it none.
use Rattle.std.proofs.Common.{◌≡◌, ℕ, zero, suc, true, ◌+◌, ◌<◌, ◌≤◌, List, [], ◌∷◌, ◌++◌, Option, Some, None, map, take, drop, length, length-take-le, refl, sym, ap, ◌∙◌, subst, append_assoc, append-nil, Vec, Global, arith}
use Rattle.std.proofs.lemmas.List.{take-append-drop}
use Rattle.std.specs.Prelude.{MatchOption}
use Rattle.ll_grammar.specs.declared.form.Move.{Move}
use Rattle.ll_grammar.specs.declared.form.Move.TheVariants.{Shift, Expand, Act}
use Rattle.ll_grammar.specs.declared.form.Symbol.TheVariants.{Nonterminal}
use Rattle.ll_grammar.specs.declared.reader.Answer.{Answer}
use Rattle.ll_grammar.specs.declared.reader.Answer.TheVariants as answer
use Rattle.ll_grammar.specs.Grammar.{Rules, shifts, Derives}
use Rattle.ll_grammar.specs.Predictive.{Table, is_ll1}
use Rattle.ll_grammar.specs.Texts.{Read, Refused}
use Rattle.ll_grammar.specs.Reader.{MatchAnswer}
use Rattle.ll_grammar.specs.Watch.{have_classes, Watch, watched, Passes, IsViable, OneWay}
use Rattle.res_grammar.specs.Numbers.{class_count}
use Rattle.res_grammar.specs.Classes.{class_of, classes_of}
use Rattle.res_grammar.specs.Laws.{Laws}
use Rattle.res_grammar.specs.OwnName.{OwnNames, own}
use Rattle.res_grammar.specs.ClosingName.{closing}
use Rattle.res_grammar.specs.Nesting.{nesting}
use Rattle.res_grammar.specs.Faults.{AllPass, RefusesAfter, StopsAt, Begins, GoesOn, IsShallow, ClosesNames, IsFaultAt, IsRefusedAt}
use Rattle.res_lexer.specs.declared.token.Token.{Token}
use Rattle.res_grammar.specs.declared.watches.Fault.{Fault}
use Rattle.res_grammar.specs.declared.watches.Fault.TheVariants.{Expected, TooDeep, EndName}
use Rattle.res_grammar.specs.Following.{can_follow}
use Rattle.res_grammar.proofs.Walks.{take_map}
use Rattle.res_grammar.proofs.Fairness.{names_fit, own_is_fair, names_fit_after}

module _ (g : Rules) (t : Table) (predictive : is_ll1 g t ≡ true) (all_classes : have_classes class_count g ≡ true) where
  -- a derivation whose first moves are these
  pub record Starts (moves : List Move) (ts : List Token) : Type 0 where
    pub rest : List Move
    pub more : List ℕ
    pub derives : Derives g (moves ++ rest) (Nonterminal t.start ∷ []) (classes_of ts ++ more)

  pub viable : {M : Type 0} (w : Watch M Token) → w.class ≡ own.class → (moves : List Move) (ts : List Token) → Starts moves ts → Passes M Token w moves ts → IsViable M Token g t.start w ts
  viable {M} w e moves ts s p =
      let P : (Token → ℕ) → Type 0 = λ f. Derives g (moves ++ s.rest) (Nonterminal t.start ∷ []) (map f ts ++ s.more) in
      record { moves = moves; rest = s.rest; more = s.more; derives = subst P (sym e) s.derives; passed = p }

  pub goes_on : Laws → (ts : List Token) → IsViable OwnNames Token g t.start own ts → GoesOn g t.start ts
  goes_on law ts v =
      law.fair g t class_count all_classes own (λ y. can_follow ts y.kind) (names_fit ts) (own_is_fair ts) ts v (names_fit_after ts v.moves v.passed.last v.passed.passes)

  begins : Laws → (moves : List Move) (ts : List Token) → Starts moves ts → Passes OwnNames Token own moves ts → GoesOn g t.start ts
  begins law moves ts s p = goes_on law ts (viable own refl moves ts s p)

  decides : {M : Type 0} → OneWay M Token → (w : Watch M Token) → w.class ≡ own.class → (moves : List Move) (ts : List Token) → Starts moves ts → shifts moves ≡ length ts → watched w moves ts w.outset ≡ None → IsViable M Token g t.start w ts → ⊥
  decides {M} law w e moves ts s n none v =
      let P : (Token → ℕ) → Type 0 = λ f. Derives g (moves ++ s.rest) (Nonterminal t.start ∷ []) (map f ts ++ s.more) in
      law g t predictive w moves ts (record { rest = s.rest; more = s.more; derives = subst P (sym e) s.derives; counted = n }) none v

  map_append : {A B : Type 0} (f : A → B) (xs ys : List A) → map f (xs ++ ys) ≡ map f xs ++ map f ys
  map_append f [] ys = refl
  map_append f (x ∷ xs) ys = ap (λ y. f x ∷ y) (map_append f xs ys)

  -- fewer tokens, fewer moves
  starts_before : (first second : List Move) (moves : List Move) (ts : List Token) (k : ℕ) → moves ≡ first ++ second → Starts moves ts → Starts first (take k ts)
  starts_before first second moves ts k e s =
      let P : List Move → Type 0 = λ z. Derives g z (Nonterminal t.start ∷ []) (classes_of ts ++ s.more) in
      let Q : List ℕ → Type 0 = λ z. Derives g (first ++ (second ++ s.rest)) (Nonterminal t.start ∷ []) z in
      record {
        rest = second ++ s.rest;
        more = classes_of (drop k ts) ++ s.more;
        derives = subst Q (ap (λ z. z ++ s.more) (ap classes_of (sym (take-append-drop k ts)) ∙ map_append (λ t. class_of t.kind) (take k ts) (drop k ts)) ∙ append_assoc (classes_of (take k ts)) (classes_of (drop k ts)) s.more)
            (subst P (ap (λ z. z ++ s.rest) e ∙ append_assoc first second s.rest) s.derives);
      }

  fault_at : Laws → (f : Fault) (ms : List Move) (ts : List Token) (place : ℕ) → place < length ts → Starts ms (take (place + 1) ts) → shifts ms ≡ length (take (place + 1) ts) → RefusesAfter f ms (take (place + 1) ts) → IsFaultAt g t.start f ts place
  fault_at law Expected ms ts place l s n r = (
    λ lt b. decides law.own_decides own refl ms (take (place + 1) ts) s n r (law.viable g t.start own (λ y. true) (take (place + 1) ts) b),
    λ le x. absurd (omega arith),
  )
  fault_at law TooDeep ms ts place l s n r =
      (l, begins law ms (take (place + 1) ts) s r.0, decides law.nesting_decides nesting refl ms (take (place + 1) ts) s n r.1)
  fault_at law EndName ms ts place l s n r =
      (l, begins law ms (take (place + 1) ts) s r.0, viable nesting refl ms (take (place + 1) ts) s r.1, decides law.closing_decides closing refl ms (take (place + 1) ts) s n r.2)

  shifts_one : (a : List Move) → shifts (a ++ Shift ∷ []) ≡ suc (shifts a)
  shifts_one [] = refl
  shifts_one (Shift ∷ a) = ap suc (shifts_one a)
  shifts_one (Expand m k ∷ a) = shifts_one a
  shifts_one (Act x ∷ a) = shifts_one a

  pub stopped : Laws → (moves : List Move) (ts : List Token) (place : ℕ) (f : Fault) → Starts moves ts → StopsAt moves ts place f → IsRefusedAt g t.start ts place f
  stopped law moves ts place f s x =
      let here = x.first ++ Shift ∷ [] in
      let a = starts_before x.first (Shift ∷ x.rest) moves ts place x.is s in
      let b = starts_before here x.rest moves ts (place + 1) (x.is ∙ sym (append_assoc x.first (Shift ∷ []) x.rest)) s in
      let n : shifts x.first ≡ length (take place ts) = law.counts own x.first (take place ts) own.outset x.before.own.last x.before.own.passes in
      let k : length (take place ts) ≡ place = length-take-le place ts (omega (arith, x.inside)) in
      let j : length (take (place + 1) ts) ≡ place + 1 = length-take-le (place + 1) ts (omega (arith, x.inside)) in
      let i : shifts here ≡ suc (shifts x.first) = shifts_one x.first in
      record {
        inside = omega (arith, x.inside);
        begins = begins law x.first (take place ts) a x.before.own;
        shallow = viable nesting refl x.first (take place ts) a x.before.nesting;
        closes = viable closing refl x.first (take place ts) a x.before.closing;
        here = fault_at law f here ts place x.inside b (let e : shifts here ≡ length (take (place + 1) ts) = omega arith in e) x.refuses;
      }

  -- ---- the same in a longer text

  pub take_less : {A : Type 0} (a b : ℕ) (xs : List A) → a ≤ b → take a (take b xs) ≡ take a xs
  take_less zero b xs l = refl
  take_less (suc a) zero xs l = absurd (omega arith)
  take_less (suc a) (suc b) [] l = refl
  take_less (suc a) (suc b) (x ∷ xs) l = ap (λ z. x ∷ z) (take_less a b xs (omega arith))

  fault_in : (f : Fault) (ts : List Token) (k place : ℕ) → place < k → k ≤ length ts → IsFaultAt g t.start f (take k ts) place → IsFaultAt g t.start f ts place
  fault_in Expected ts k place l m h =
      let P : List Token → Type 0 = λ z. Begins g t.start z → ⊥ in
      let n : length (take k ts) ≡ k = length-take-le k ts m in (
        λ lt. subst P (take_less (place + 1) k ts (omega arith)) (h.0 (omega arith)),
        λ le x. absurd (omega arith),
      )
  fault_in TooDeep ts k place l m h =
      let P : List Token → Type 0 = λ z. (place < length ts) × GoesOn g t.start z × (IsShallow g t.start z → ⊥) in
      subst P (take_less (place + 1) k ts (omega arith)) (omega arith, h.1, h.2)
  fault_in EndName ts k place l m h =
      let P : List Token → Type 0 = λ z. (place < length ts) × GoesOn g t.start z × IsShallow g t.start z × (ClosesNames g t.start z → ⊥) in
      subst P (take_less (place + 1) k ts (omega arith)) (omega arith, h.1, h.2, h.3)

  pub refused_in : (ts : List Token) (k place : ℕ) (f : Fault) → place < length (take k ts) → k ≤ length ts → IsRefusedAt g t.start (take k ts) place f → IsRefusedAt g t.start ts place f
  refused_in ts k place f l m h =
      let n : length (take k ts) ≡ k = length-take-le k ts m in
      let e : take place (take k ts) ≡ take place ts = take_less place k ts (omega arith) in
      let P : List Token → Type 0 = λ z. GoesOn g t.start z × IsShallow g t.start z × ClosesNames g t.start z in
      let all = subst P e (h.begins, h.shallow, h.closes) in
      record { inside = omega arith; begins = all.0; shallow = all.1; closes = all.2; here = fault_in f ts k place (omega arith) m h.here }

  -- ---- where no class goes on

  length_map : {A B : Type 0} (f : A → B) (xs : List A) → length (map f xs) ≡ length xs
  length_map f [] = refl
  length_map f (x ∷ xs) = ap suc (length_map f xs)

  pub refused_starts : (ts : List Token) (place : ℕ) (moves : List Move) → Refused g t.start (classes_of ts) place moves → Starts moves (take place ts)
  refused_starts ts place moves r =
      let P : List ℕ → Type 0 = λ z. Derives g (moves ++ r.before.rest) (Nonterminal t.start ∷ []) (z ++ r.before.more) in
      record { rest = r.before.rest; more = r.before.more; derives = subst P (take_map (λ t. class_of t.kind) place ts) r.before.derives }

  pub refused_inside : (ts : List Token) (place : ℕ) (moves : List Move) → Refused g t.start (classes_of ts) place moves → place ≤ length ts
  refused_inside ts place moves r = let n : length (classes_of ts) ≡ length ts = length_map (λ t. class_of t.kind) ts in omega (arith, r.inside)

  pub refused_counted : (ts : List Token) (place : ℕ) (moves : List Move) → Refused g t.start (classes_of ts) place moves → shifts moves ≡ length (take place ts)
  refused_counted ts place moves r =
      r.before.counted ∙ ap length (take_map (λ t. class_of t.kind) place ts) ∙ length_map (λ t. class_of t.kind) (take place ts)

  pub refused_classes : Laws → (ts : List Token) (place : ℕ) (moves : List Move) → Refused g t.start (classes_of ts) place moves → AllPass moves (take place ts) → IsRefusedAt g t.start ts place Expected
  refused_classes law ts place moves r p =
      let s = refused_starts ts place moves r in
      let n : length (classes_of ts) ≡ length ts = length_map (λ t. class_of t.kind) ts in
      record {
        inside = refused_inside ts place moves r;
        begins = begins law moves (take place ts) s p.own;
        shallow = viable nesting refl moves (take place ts) s p.nesting;
        closes = viable closing refl moves (take place ts) s p.closing;
        here = (
          λ l b.
              let P : List ℕ → Type 0 = λ z. Derives g b.text.moves (Nonterminal t.start ∷ []) z in
              r.here (omega arith) b.text.moves (classes_of b.more) (subst P (map_append (λ t. class_of t.kind) (take (place + 1) ts) b.more ∙ ap (λ z. z ++ classes_of b.more) (sym (take_map (λ t. class_of t.kind) (place + 1) ts))) b.text.derives),
          λ l x. r.none x.moves x.derives,
        );
      }

  pub read_starts : (ts : List Token) (moves : List Move) → Read g t.start (classes_of ts) moves → Starts moves ts
  read_starts ts moves r =
      let P : List ℕ → Type 0 = λ z. Derives g (moves ++ []) (Nonterminal t.start ∷ []) z in
      let Q : List Move → Type 0 = λ z. Derives g z (Nonterminal t.start ∷ []) (classes_of ts) in
      record { rest = []; more = []; derives = subst P (sym (append-nil (classes_of ts))) (subst Q (sym (append-nil moves)) r.derives) }

  -- ---- what calls answer, at equal values

  pub at_some : {A : Type 0} (o : Option A) (x : A) (P : Type 0) (Q : A → Type 0) → o ≡ Some x → MatchOption o P Q → Q x
  at_some {A} o x P Q e h = let R : Option A → Type 0 = λ z. MatchOption z P Q in subst R e h

  pub at_none : {A : Type 0} (o : Option A) (P : Type 0) (Q : A → Type 0) → o ≡ None → MatchOption o P Q → P
  at_none {A} o P Q e h = let R : Option A → Type 0 = λ z. MatchOption z P Q in subst R e h

  pub at_read : (a : Answer) (moves : Vec Move Global) (P : List Move → Type 0) (Q : ℕ → List Move → Type 0) → a ≡ answer.Read moves → MatchAnswer a P Q → P moves.items
  at_read a moves P Q e h = let R : Answer → Type 0 = λ z. MatchAnswer z P Q in subst R e h

  pub at_refused : (a : Answer) (place : ℕ) (moves : Vec Move Global) (P : List Move → Type 0) (Q : ℕ → List Move → Type 0) → a ≡ answer.Refused place moves → MatchAnswer a P Q → Q place moves.items
  at_refused a place moves P Q e h = let R : Answer → Type 0 = λ z. MatchAnswer z P Q in subst R e h

  -- the derivation that a call found, of the classes that another one gave
  pub read_by : (a : Answer) (v : Vec Move Global) (moves : List Move) (classes items : List ℕ) (ts : List Token) → a ≡ answer.Read v → moves ≡ v.items → classes ≡ items → items ≡ classes_of ts → MatchAnswer a (λ ms. Read g t.start classes ms) (λ place ms. Unit {0}) → Read g t.start (classes_of ts) moves
  read_by a v moves classes items ts e f i j h =
      let P : List ℕ → Type 0 = λ z. Read g t.start z moves in
      let Q : List Move → Type 0 = λ z. Read g t.start classes z in
      subst P (i ∙ j) (subst Q (sym f) (at_read a v (λ ms. Read g t.start classes ms) (λ place ms. Unit {0}) e h))

  pub refused_by : (a : Answer) (place : ℕ) (v : Vec Move Global) (moves : List Move) (classes items : List ℕ) (ts : List Token) → a ≡ answer.Refused place v → moves ≡ v.items → classes ≡ items → items ≡ classes_of ts → MatchAnswer a (λ ms. Unit {0}) (λ k ms. Refused g t.start classes k ms) → Refused g t.start (classes_of ts) place moves
  refused_by a place v moves classes items ts e f i j h =
      let P : List ℕ → Type 0 = λ z. Refused g t.start z place moves in
      let Q : List Move → Type 0 = λ z. Refused g t.start classes place z in
      subst P (i ∙ j) (subst Q (sym f) (at_refused a place v (λ ms. Unit {0}) (λ k ms. Refused g t.start classes k ms) e h))

  pub read_counted : (ts : List Token) (moves : List Move) → Read g t.start (classes_of ts) moves → shifts moves ≡ length ts
  read_counted ts moves r = r.counted ∙ length_map (λ t. class_of t.kind) ts

  pub stopped_before : Laws → (moves : List Move) (ts part : List Token) (k place : ℕ) (f : Fault) → part ≡ take k ts → Refused g t.start (classes_of ts) k moves → StopsAt moves part place f → IsRefusedAt g t.start ts place f
  stopped_before law moves ts part k place f e r x =
      let P : List Token → Type 0 = λ z. StopsAt moves z place f in
      let y = subst P e x in
      refused_in ts k place f y.inside (refused_inside ts k moves r) (stopped law moves (take k ts) place f (refused_starts ts k moves r) y)
