-- What a watch says of the viable prefixes of a grammar that one token decides.
use Rattle.std.proofs.Common.{◌≡◌, ℕ, zero, suc, Bool, true, nat_lt, length, List, [], ◌∷◌, ◌++◌, Option, Some, None, map, get_or, refl, sym, ap, ◌∙◌, subst, arith, append_assoc}
use Rattle.std.proofs.lemmas.Bool.{and_parts, and_from, ltb-true}
use Rattle.std.specs.List.{list_all}
use Rattle.ll_grammar.specs.Grammar.{Rules, Symbol, Terminal, Nonterminal, Action, Move, Shift, Expand, Act, at, row, Derives, shifts}
use Rattle.ll_grammar.specs.Predictive.{Table}
use Rattle.ll_grammar.specs.Standing.{Followed}
use Rattle.ll_grammar.specs.Watch.{Watch, and_then, watched, IsFair, are_classes, ways_have_classes, have_classes, OneWay, FairGoesOn, TextIsViable, FewerAreViable}
use Rattle.ll_grammar.proofs.Fronts.{some_is, not_none, opened, way_of, one_way_of}
use Rattle.ll_grammar.proofs.Predicts.{Predictive, predictive, predicts, followed_append, at_start}

pub map_append : {A B : Type 0} (f : A → B) (xs ys : List A) → map f (xs ++ ys) ≡ map f xs ++ map f ys
map_append f [] ys = refl
map_append f (x ∷ xs) ys = ap (λ y. f x ∷ y) (map_append f xs ys)

goes_shift : {M T : Type 0} (w : Watch M T) (a b : List Move) (s t : List T) (o : Option M) (n : M) → ((k : M) → watched w a s k ≡ Some n → watched w (a ++ b) (s ++ t) k ≡ watched w b t n) → and_then o (watched w a s) ≡ Some n → and_then o (watched w (a ++ b) (s ++ t)) ≡ watched w b t n
goes_shift w a b s t None n f e = absurd (not_none n e)
goes_shift w a b s t (Some k) n f e = f k e

-- the watch goes on from where it stands
pub goes_on : {M T : Type 0} (w : Watch M T) (a b : List Move) (s t : List T) (m n : M) → watched w a s m ≡ Some n → watched w (a ++ b) (s ++ t) m ≡ watched w b t n
goes_on w [] b [] t m n e = ap (watched w b t) (some_is m n e)
goes_on w [] b (x ∷ s) t m n e = absurd (not_none n e)
goes_on w (Shift ∷ a) b [] t m n e = absurd (not_none n e)
goes_on w (Shift ∷ a) b (x ∷ s) t m n e = goes_shift w a b s t (w.shift x m) n (λ k h. goes_on w a b s t k n h) e
goes_on w (Expand x k ∷ a) b s t m n e = goes_on w a b s t m n e
goes_on w (Act x ∷ a) b s t m n e = goes_on w a b s t (w.act x m) n e

classes_way : (n : ℕ) (rs : List (List Symbol)) (k : ℕ) (r : List Symbol) → ways_have_classes n rs ≡ true → at rs k ≡ Some r → are_classes n r ≡ true
classes_way n [] k r h e = absurd (not_none r e)
classes_way n (x ∷ rs) zero r h e =
    let P : List Symbol → Type 0 = λ y. are_classes n y ≡ true in
    subst P (some_is x r e) (and_parts (are_classes n x) (ways_have_classes n rs) h).0
classes_way n (x ∷ rs) (suc k) r h e = classes_way n rs k r (and_parts (are_classes n x) (ways_have_classes n rs) h).1 e

classes_part : (n : ℕ) (g : Rules) (p k : ℕ) (r : List Symbol) → have_classes n g ≡ true → at (row g p) k ≡ Some r → are_classes n r ≡ true
unfolding have_classes
classes_part n [] p k r h e = absurd (not_none r e)
classes_part n (x ∷ g) zero k r h e = classes_way n x k r (and_parts (ways_have_classes n x) (have_classes n g) h).0 e
classes_part n (x ∷ g) (suc p) k r h e = classes_part n g p k r (and_parts (ways_have_classes n x) (have_classes n g) h).1 e

classes_append : (n : ℕ) (a b : List Symbol) → are_classes n a ≡ true → are_classes n b ≡ true → are_classes n (a ++ b) ≡ true
classes_append n [] b h k = k
classes_append n (Terminal c ∷ a) b h k =
    let two = and_parts (nat_lt c n) (are_classes n a) h in
    and_from (nat_lt c n) (are_classes n (a ++ b)) two.0 (classes_append n a b two.1 k)
classes_append n (Nonterminal p ∷ a) b h k = classes_append n a b h k
classes_append n (Action x ∷ a) b h k = classes_append n a b h k

-- tokens of these classes that the watch passes
pub record Tokens (M T : Type 0) (w : Watch M T) (fits : T → Bool) (ms : List Move) (cs : List ℕ) (m : M) : Type 0 where
  pub tokens : List T
  pub fit : list_all fits tokens ≡ true
  pub classes : map w.class tokens ≡ cs
  pub last : M
  pub passes : watched w ms tokens m ≡ Some last

pub tokens_for : {M T : Type 0} (w : Watch M T) (fits : T → Bool) (holds : M → Bool) (n : ℕ) → IsFair M T w fits holds n → (g : Rules) → have_classes n g ≡ true → (ms : List Move) (ss : List Symbol) (cs : List ℕ) → are_classes n ss ≡ true → Derives g ms ss cs → (m : M) → holds m ≡ true → Tokens M T w fits ms cs m
tokens_for w fits holds n fair g all [] [] [] h d m i = record { tokens = []; fit = refl; classes = refl; last = m; passes = refl }
tokens_for w fits holds n fair g all [] [] (c ∷ cs) h d m i = absurd d
tokens_for w fits holds n fair g all [] (x ∷ ss) cs h d m i = absurd d
tokens_for w fits holds n fair g all (Shift ∷ ms) [] cs h d m i = absurd d
tokens_for w fits holds n fair g all (Shift ∷ ms) (Nonterminal k ∷ ss) cs h d m i = absurd d
tokens_for w fits holds n fair g all (Shift ∷ ms) (Action k ∷ ss) cs h d m i = absurd d
tokens_for w fits holds n fair g all (Shift ∷ ms) (Terminal c ∷ ss) [] h d m i = absurd d
tokens_for {M} {T} w fits holds n fair g all (Shift ∷ ms) (Terminal c ∷ ss) (k ∷ cs) h d m i =
    let two = and_parts (nat_lt c n) (are_classes n ss) h in
    let p = fair.passes m c i (ltb-true c n two.0) in
    let r = tokens_for w fits holds n fair g all ms ss cs two.1 d.1 p.next p.keeps in
    let P : ℕ → Type 0 = λ y. y ∷ map w.class r.tokens ≡ k ∷ cs in
    record {
      tokens = p.token ∷ r.tokens;
      fit = and_from (fits p.token) (list_all fits r.tokens) p.fit r.fit;
      classes = subst P (sym (p.class ∙ d.0)) (ap (λ y. k ∷ y) r.classes);
      last = r.last;
      passes = ap (λ o. and_then o (watched w ms r.tokens)) p.passes ∙ r.passes;
    }
tokens_for w fits holds n fair g all (Expand x k ∷ ms) [] cs h d m i = absurd d
tokens_for w fits holds n fair g all (Expand x k ∷ ms) (Terminal c ∷ ss) cs h d m i = absurd d
tokens_for w fits holds n fair g all (Expand x k ∷ ms) (Action c ∷ ss) cs h d m i = absurd d
tokens_for w fits holds n fair g all (Expand x k ∷ ms) (Nonterminal p ∷ ss) cs h d m i =
    let o = opened (λ s. Derives g ms s cs) ss (at (row g p) k) d.1 in
    let r = tokens_for w fits holds n fair g all ms (o.right ++ ss) cs (classes_append n o.right ss (classes_part n g p k o.right all o.is) h) o.rest m i in
    record { tokens = r.tokens; fit = r.fit; classes = r.classes; last = r.last; passes = r.passes }
tokens_for w fits holds n fair g all (Act a ∷ ms) [] cs h d m i = absurd d
tokens_for w fits holds n fair g all (Act a ∷ ms) (Terminal c ∷ ss) cs h d m i = absurd d
tokens_for w fits holds n fair g all (Act a ∷ ms) (Nonterminal p ∷ ss) cs h d m i = absurd d
tokens_for w fits holds n fair g all (Act a ∷ ms) (Action b ∷ ss) cs h d m i =
    let r = tokens_for w fits holds n fair g all ms ss cs h d.1 (w.act a m) (fair.acts a m i) in
    record { tokens = r.tokens; fit = r.fit; classes = r.classes; last = r.last; passes = r.passes }

-- ---- any moves decide

no_refusal : {M T : Type 0} (w : Watch M T) (a : List Move) (m : M) → shifts a ≡ 0 → watched w a [] m ≡ None → ⊥
no_refusal w [] m n e = not_none m (sym e)
no_refusal w (Shift ∷ a) m n e = absurd (omega arith)
no_refusal w (Expand x k ∷ a) m n e = no_refusal w a m n e
no_refusal w (Act x ∷ a) m n e = no_refusal w a (w.act x m) n e

after_shift : {M T : Type 0} (w : Watch M T) (a b : List Move) (ts : List T) (o : Option M) (n : M) → ((k : M) → watched w b ts k ≡ Some n → watched w a ts k ≡ None → ⊥) → and_then o (watched w b ts) ≡ Some n → and_then o (watched w a ts) ≡ None → ⊥
after_shift w a b ts None n f e h = not_none n e
after_shift w a b ts (Some k) n f e h = f k e h

decided : {M T : Type 0} (w : Watch M T) (g : Rules) (t : Table) → Predictive g t → (a r b s : List Move) (ss : List Symbol) (ts : List T) (u v : List ℕ) (m n : M) → Followed g t ss → shifts a ≡ length ts → Derives g (a ++ r) ss (map w.class ts ++ u) → Derives g (b ++ s) ss (map w.class ts ++ v) → watched w b ts m ≡ Some n → watched w a ts m ≡ None → ⊥
decided w g t x a r b s ss [] u v m n f i d e p q = no_refusal w a m i q
decided w g t x [] r b s ss (y ∷ ts) u v m n f i d e p q = absurd (omega arith)
decided w g t x (z ∷ a) r [] s ss (y ∷ ts) u v m n f i d e p q = not_none n p
decided w g t x (Shift ∷ a) r b s [] (y ∷ ts) u v m n f i d e p q = absurd d
decided w g t x (Shift ∷ a) r b s (Nonterminal k ∷ ss) (y ∷ ts) u v m n f i d e p q = absurd d
decided w g t x (Shift ∷ a) r b s (Action k ∷ ss) (y ∷ ts) u v m n f i d e p q = absurd d
decided w g t x (Shift ∷ a) r (Expand k l ∷ b) s (Terminal c ∷ ss) (y ∷ ts) u v m n f i d e p q = absurd e
decided w g t x (Shift ∷ a) r (Act k ∷ b) s (Terminal c ∷ ss) (y ∷ ts) u v m n f i d e p q = absurd e
decided w g t x (Shift ∷ a) r (Shift ∷ b) s (Terminal c ∷ ss) (y ∷ ts) u v m n f i d e p q =
    after_shift w a b ts (w.shift y m) n (λ k h j. decided w g t x a r b s ss ts u v k n f (omega arith) d.1 e.1 h j) p q
decided w g t x (Act c ∷ a) r b s [] (y ∷ ts) u v m n f i d e p q = absurd d
decided w g t x (Act c ∷ a) r b s (Terminal k ∷ ss) (y ∷ ts) u v m n f i d e p q = absurd d
decided w g t x (Act c ∷ a) r b s (Nonterminal k ∷ ss) (y ∷ ts) u v m n f i d e p q = absurd d
decided w g t x (Act c ∷ a) r (Shift ∷ b) s (Action k ∷ ss) (y ∷ ts) u v m n f i d e p q = absurd e
decided w g t x (Act c ∷ a) r (Expand j l ∷ b) s (Action k ∷ ss) (y ∷ ts) u v m n f i d e p q = absurd e
decided w g t x (Act c ∷ a) r (Act j ∷ b) s (Action k ∷ ss) (y ∷ ts) u v m n f i d e p q =
    decided w g t x a r b s ss (y ∷ ts) u v (w.act c m) n f i d.1 e.1 (ap (λ z. watched w b (y ∷ ts) (w.act z m)) (d.0 ∙ sym e.0) ∙ p) q
decided w g t x (Expand c l ∷ a) r b s [] (y ∷ ts) u v m n f i d e p q = absurd d
decided w g t x (Expand c l ∷ a) r b s (Terminal k ∷ ss) (y ∷ ts) u v m n f i d e p q = absurd d
decided w g t x (Expand c l ∷ a) r b s (Action k ∷ ss) (y ∷ ts) u v m n f i d e p q = absurd d
decided w g t x (Expand c l ∷ a) r (Shift ∷ b) s (Nonterminal k ∷ ss) (y ∷ ts) u v m n f i d e p q = absurd e
decided w g t x (Expand c l ∷ a) r (Act j ∷ b) s (Nonterminal k ∷ ss) (y ∷ ts) u v m n f i d e p q = absurd e
decided w g t x (Expand c l ∷ a) r (Expand j h ∷ b) s (Nonterminal k ∷ ss) (y ∷ ts) u v m n f i d e p q =
    let first = w.class y ∷ (map w.class ts ++ u) in
    let second = w.class y ∷ (map w.class ts ++ v) in
    let o = opened (λ z. Derives g (a ++ r) z first) ss (at (row g k) l) d.1 in
    let q' = opened (λ z. Derives g (b ++ s) z second) ss (at (row g k) h) e.1 in
    let c1 = predicts g t x.parts k ss f l (a ++ r) first o in
    let c2 = predicts g t x.parts k ss f h (b ++ s) second q' in
    let way : h ≡ l = one_way_of g t x.parts k h l c2.when c1.when (w.class y) c2.is c1.is c2.member c1.member in
    let Q : ℕ → Type 0 = λ z. at (row g k) z ≡ Some q'.right in
    let right : q'.right ≡ o.right = some_is q'.right o.right (sym (subst Q way q'.is) ∙ o.is) in
    let R : List Symbol → Type 0 = λ z. Derives g (b ++ s) (z ++ ss) second in
    let good = (way_of g t x.parts k l o.right o.is).good in
    decided w g t x a r b s (o.right ++ ss) (y ∷ ts) u v m n (followed_append g t x.parts o.right ss (get_or t.certificate.follows k 0) good.follows f.0 f.1) i o.rest (subst R right q'.rest) p q

pub one_way : {M T : Type 0} → OneWay M T
one_way g t test w moves ts k none v =
    let x = predictive g t test in
    decided w g t x moves k.rest v.moves v.rest (Nonterminal t.start ∷ []) ts k.more v.more w.outset v.passed.last (at_start g t x).followed k.counted k.derives v.derives v.passed.passes none

-- ---- fair watches

-- tokens that end a text
record Completes (M T : Type 0) (w : Watch M T) (fits : T → Bool) (ms : List Move) (ts : List T) (more : List ℕ) (m : M) : Type 0 where
  tokens : List T
  fit : list_all fits tokens ≡ true
  classes : map w.class tokens ≡ more
  last : M
  passes : watched w ms (ts ++ tokens) m ≡ Some last

complete_shift : {M T : Type 0} (w : Watch M T) (fits : T → Bool) (a r : List Move) (ts : List T) (more : List ℕ) (y : T) (m : M) (o : Option M) (n : M) → w.shift y m ≡ o → ((k : M) → watched w a ts k ≡ Some n → Completes M T w fits (a ++ r) ts more k) → and_then o (watched w a ts) ≡ Some n → Completes M T w fits (Shift ∷ (a ++ r)) (y ∷ ts) more m
complete_shift w fits a r ts more y m None n i f e = absurd (not_none n e)
complete_shift w fits a r ts more y m (Some k) n i f e =
    let c = f k e in
    record { tokens = c.tokens; fit = c.fit; classes = c.classes; last = c.last; passes = ap (λ z. and_then z (watched w (a ++ r) (ts ++ c.tokens))) i ∙ c.passes }

complete : {M T : Type 0} (w : Watch M T) (fits : T → Bool) (holds : M → Bool) (c : ℕ) → IsFair M T w fits holds c → (g : Rules) → have_classes c g ≡ true → (a r : List Move) (ss : List Symbol) (ts : List T) (more : List ℕ) (m n : M) → are_classes c ss ≡ true → Derives g (a ++ r) ss (map w.class ts ++ more) → watched w a ts m ≡ Some n → holds n ≡ true → Completes M T w fits (a ++ r) ts more m
complete w fits holds c fair g all [] r ss [] more m n h d e z =
    let k = tokens_for w fits holds c fair g all r ss more h d m (subst (λ y. holds y ≡ true) (sym (some_is m n e)) z) in
    record { tokens = k.tokens; fit = k.fit; classes = k.classes; last = k.last; passes = k.passes }
complete w fits holds c fair g all [] r ss (y ∷ ts) more m n h d e z = absurd (not_none n e)
complete w fits holds c fair g all (Shift ∷ a) r ss [] more m n h d e z = absurd (not_none n e)
complete w fits holds c fair g all (Shift ∷ a) r [] (y ∷ ts) more m n h d e z = absurd d
complete w fits holds c fair g all (Shift ∷ a) r (Nonterminal k ∷ ss) (y ∷ ts) more m n h d e z = absurd d
complete w fits holds c fair g all (Shift ∷ a) r (Action k ∷ ss) (y ∷ ts) more m n h d e z = absurd d
complete w fits holds c fair g all (Shift ∷ a) r (Terminal k ∷ ss) (y ∷ ts) more m n h d e z =
    complete_shift w fits a r ts more y m (w.shift y m) n refl (λ j i. complete w fits holds c fair g all a r ss ts more j n (and_parts (nat_lt k c) (are_classes c ss) h).1 d.1 i z) e
complete w fits holds c fair g all (Act x ∷ a) r [] ts more m n h d e z = absurd d
complete w fits holds c fair g all (Act x ∷ a) r (Terminal k ∷ ss) ts more m n h d e z = absurd d
complete w fits holds c fair g all (Act x ∷ a) r (Nonterminal k ∷ ss) ts more m n h d e z = absurd d
complete w fits holds c fair g all (Act x ∷ a) r (Action k ∷ ss) ts more m n h d e z =
    let y = complete w fits holds c fair g all a r ss ts more (w.act x m) n h d.1 e z in
    record { tokens = y.tokens; fit = y.fit; classes = y.classes; last = y.last; passes = y.passes }
complete w fits holds c fair g all (Expand x l ∷ a) r [] ts more m n h d e z = absurd d
complete w fits holds c fair g all (Expand x l ∷ a) r (Terminal k ∷ ss) ts more m n h d e z = absurd d
complete w fits holds c fair g all (Expand x l ∷ a) r (Action k ∷ ss) ts more m n h d e z = absurd d
complete w fits holds c fair g all (Expand x l ∷ a) r (Nonterminal k ∷ ss) ts more m n h d e z =
    let o = opened (λ z. Derives g (a ++ r) z (map w.class ts ++ more)) ss (at (row g k) l) d.1 in
    let y = complete w fits holds c fair g all a r (o.right ++ ss) ts more m n (classes_append c o.right ss (classes_part c g k l o.right all o.is) h) o.rest e z in
    record { tokens = y.tokens; fit = y.fit; classes = y.classes; last = y.last; passes = y.passes }

pub fair_goes_on : {M T : Type 0} → FairGoesOn M T
fair_goes_on {M} {T} g t n all w fits holds fair ts v z =
    let k = complete w fits holds n fair g all v.moves v.rest (Nonterminal t.start ∷ []) ts v.more w.outset v.passed.last refl v.derives v.passed.passes z in
    let P : List ℕ → Type 0 = λ y. Derives g (v.moves ++ v.rest) (Nonterminal t.start ∷ []) y in
    record {
      more = k.tokens;
      fit = k.fit;
      text = record {
        moves = v.moves ++ v.rest;
        derives = subst P (sym (map_append w.class ts k.tokens ∙ ap (λ y. map w.class ts ++ y) k.classes)) v.derives;
        passed = record { last = k.last; passes = k.passes };
      };
    }

-- ---- what texts begin with

record Halves (M T : Type 0) (w : Watch M T) (ms : List Move) (ts : List T) (m : M) : Type 0 where
  first : List Move
  second : List Move
  is : ms ≡ first ++ second
  last : M
  passes : watched w first ts m ≡ Some last

halve_shift : {M T : Type 0} (w : Watch M T) (ms : List Move) (y : T) (ts more : List T) (m n : M) (o : Option M) → w.shift y m ≡ o → ((k : M) → watched w ms (ts ++ more) k ≡ Some n → Halves M T w ms ts k) → and_then o (watched w ms (ts ++ more)) ≡ Some n → Halves M T w (Shift ∷ ms) (y ∷ ts) m
halve_shift w ms y ts more m n None i f e = absurd (not_none n e)
halve_shift w ms y ts more m n (Some k) i f e =
    let h = f k e in
    record { first = Shift ∷ h.first; second = h.second; is = ap (λ z. Shift ∷ z) h.is; last = h.last; passes = ap (λ z. and_then z (watched w h.first ts)) i ∙ h.passes }

halve : {M T : Type 0} (w : Watch M T) (ms : List Move) (ts more : List T) (m n : M) → watched w ms (ts ++ more) m ≡ Some n → Halves M T w ms ts m
halve w ms [] more m n e = record { first = []; second = ms; is = refl; last = m; passes = refl }
halve w [] (y ∷ ts) more m n e = absurd (not_none n e)
halve w (Shift ∷ ms) (y ∷ ts) more m n e =
    halve_shift w ms y ts more m n (w.shift y m) refl (λ k h. halve w ms ts more k n h) e
halve w (Expand x l ∷ ms) (y ∷ ts) more m n e =
    let h = halve w ms (y ∷ ts) more m n e in
    record { first = Expand x l ∷ h.first; second = h.second; is = ap (λ z. Expand x l ∷ z) h.is; last = h.last; passes = h.passes }
halve w (Act x ∷ ms) (y ∷ ts) more m n e =
    let h = halve w ms (y ∷ ts) more (w.act x m) n e in
    record { first = Act x ∷ h.first; second = h.second; is = ap (λ z. Act x ∷ z) h.is; last = h.last; passes = h.passes }

pub text_is_viable : {M T : Type 0} → TextIsViable M T
text_is_viable {M} {T} g start w fits ts b =
    let h = halve w b.text.moves ts b.more w.outset b.text.passed.last b.text.passed.passes in
    let P : List Move → Type 0 = λ y. Derives g y (Nonterminal start ∷ []) (map w.class (ts ++ b.more)) in
    let Q : List ℕ → Type 0 = λ y. Derives g (h.first ++ h.second) (Nonterminal start ∷ []) y in
    record {
      moves = h.first;
      rest = h.second;
      more = map w.class b.more;
      derives = subst Q (map_append w.class ts b.more) (subst P h.is b.text.derives);
      passed = record { last = h.last; passes = h.passes };
    }

taken_shift : {M T : Type 0} (w : Watch M T) (ms : List Move) (ts : List T) (o : Option M) (n : M) → ((k : M) → watched w ms ts k ≡ Some n → shifts ms ≡ length ts) → and_then o (watched w ms ts) ≡ Some n → shifts ms ≡ length ts
taken_shift w ms ts None n f e = absurd (not_none n e)
taken_shift w ms ts (Some k) n f e = f k e

pub takes_all : {M T : Type 0} (w : Watch M T) (a : List Move) (s : List T) (m n : M) → watched w a s m ≡ Some n → shifts a ≡ length s
takes_all w [] [] m n e = refl
takes_all w [] (y ∷ s) m n e = absurd (not_none n e)
takes_all w (Shift ∷ a) [] m n e = absurd (not_none n e)
takes_all w (Shift ∷ a) (y ∷ s) m n e = ap suc (taken_shift w a s (w.shift y m) n (λ k h. takes_all w a s k n h) e)
takes_all w (Expand x k ∷ a) s m n e = takes_all w a s m n e
takes_all w (Act x ∷ a) s m n e = takes_all w a s (w.act x m) n e

pub fewer_are_viable : {M T : Type 0} → FewerAreViable M T
fewer_are_viable {M} {T} g start w ts us v =
    let h = halve w v.moves ts us w.outset v.passed.last v.passed.passes in
    let P : List Move → Type 0 = λ y. Derives g y (Nonterminal start ∷ []) (map w.class (ts ++ us) ++ v.more) in
    let Q : List ℕ → Type 0 = λ y. Derives g (h.first ++ (h.second ++ v.rest)) (Nonterminal start ∷ []) y in
    record {
      moves = h.first;
      rest = h.second ++ v.rest;
      more = map w.class us ++ v.more;
      derives = subst Q (ap (λ y. y ++ v.more) (map_append w.class ts us) ∙ append_assoc (map w.class ts) (map w.class us) v.more)
          (subst P (ap (λ y. y ++ v.rest) h.is ∙ append_assoc h.first h.second v.rest) v.derives);
      passed = record { last = h.last; passes = h.passes };
    }
