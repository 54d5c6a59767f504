-- A text has one answer.
use Rattle.std.proofs.Common.{◌≡◌, ℕ, ◌+◌, ◌<◌, ◌≤◌, ◌⊎◌, ⊎_elim, List, [], ◌∷◌, ◌++◌, take, drop, length, refl, sym, ap, true, ◌∙◌, subst, append_assoc, append-nil, arith}
use Rattle.std.proofs.lemmas.List.{take-append-drop}
use Rattle.std.specs.List.{list_all}
use Rattle.ll_grammar.specs.declared.form.Move.{Move}
use Rattle.ll_grammar.specs.Grammar.{Rules}
use Rattle.ll_grammar.specs.Watch.{have_classes, IsText}
use Rattle.ll_grammar.specs.Predictive.{Table, is_ll1}
use Rattle.res_grammar.specs.Numbers.{class_count}
use Rattle.res_grammar.specs.Laws.{Laws}
use Rattle.res_grammar.specs.OwnName.{OwnNames, own}
use Rattle.res_grammar.specs.ClosingName.{closing}
use Rattle.res_grammar.specs.Nesting.{nesting}
use Rattle.res_grammar.specs.Following.{can_follow}
use Rattle.res_grammar.specs.Faults.{Begins, GoesOn, IsShallow, ClosesNames, IsFaultAt, IsRefusedAt, IsTextBy, OneRefusal, TextsAreNotRefused}
use Rattle.res_lexer.specs.declared.token.Token.{Token}
use Rattle.res_grammar.specs.declared.watches.Fault.{Fault}
use Rattle.res_grammar.specs.declared.watches.Fault.TheVariants.{Expected, TooDeep, EndName}
use Rattle.res_grammar.proofs.Refusals.{take_less, viable, read_starts, goes_on}

module _ (g : Rules) (t : Table) (predictive : is_ll1 g t ≡ true) (all_classes : have_classes class_count g ≡ true) where
  -- some of the tokens and the others
  parts : (ts : List Token) (k q : ℕ) → k ≤ q → take q ts ≡ take k ts ++ drop k (take q ts)
  parts ts k q l = sym (take-append-drop k (take q ts)) ∙ ap (λ z. z ++ drop k (take q ts)) (take_less g t predictive all_classes k q ts l)

  all_true : (ts : List Token) → list_all (λ y. true) ts ≡ true
  all_true [] = refl
  all_true (y ∷ ts) = all_true ts

  begins_some : (ts : List Token) → GoesOn g t.start ts → Begins g t.start ts
  begins_some ts b = record { more = b.more; fit = all_true b.more; text = b.text }

  -- what holds of all prefixes up to here
  record Fine (ts : List Token) : Type 0 where
    begins : GoesOn g t.start ts
    shallow : IsShallow g t.start ts
    closes : ClosesNames g t.start ts

  fewer : Laws → (ts us : List Token) → Fine (ts ++ us) → Fine ts
  fewer law ts us h = record {
    begins = goes_on g t predictive all_classes law ts (law.fewer_own g t.start own ts us (law.viable g t.start own (λ y. can_follow (ts ++ us) y.kind) (ts ++ us) h.begins));
    shallow = law.fewer_nesting g t.start nesting ts us h.shallow;
    closes = law.fewer_closing g t.start closing ts us h.closes;
  }

  fine_below : Laws → (ts : List Token) (k q : ℕ) → k ≤ q → Fine (take q ts) → Fine (take k ts)
  fine_below law ts k q l h =
      let P : List Token → Type 0 = λ z. Fine z in
      fewer law (take k ts) (drop k (take q ts)) (subst P (parts ts k q l) h)

  -- no fault at a token where all is fine with it
  no_fault : (f : Fault) (ts : List Token) (place : ℕ) → place < length ts → IsFaultAt g t.start f ts place → Fine (take (place + 1) ts) → ⊥
  no_fault Expected ts place l f h = f.0 l (begins_some (take (place + 1) ts) h.begins)
  no_fault TooDeep ts place l f h = f.2 h.shallow
  no_fault EndName ts place l f h = f.3 h.closes

  fine_before : (ts : List Token) (place : ℕ) (f : Fault) → IsRefusedAt g t.start ts place f → Fine (take place ts)
  fine_before ts place f h = record { begins = h.begins; shallow = h.shallow; closes = h.closes }

  not_before : Laws → (ts : List Token) (p q : ℕ) (f k : Fault) → IsRefusedAt g t.start ts p f → IsRefusedAt g t.start ts q k → p < q → ⊥
  not_before law ts p q f k a b l =
      no_fault f ts p (omega (arith, b.inside)) a.here (fine_below law ts (p + 1) q (omega arith) (fine_before ts q k b))

  same_fault : (f k : Fault) (ts : List Token) (place : ℕ) → IsFaultAt g t.start f ts place → IsFaultAt g t.start k ts place → f ≡ k
  same_fault Expected Expected ts place a b = refl
  same_fault TooDeep TooDeep ts place a b = refl
  same_fault EndName EndName ts place a b = refl
  same_fault Expected TooDeep ts place a b = absurd (a.0 b.0 (begins_some (take (place + 1) ts) b.1))
  same_fault Expected EndName ts place a b = absurd (a.0 b.0 (begins_some (take (place + 1) ts) b.1))
  same_fault TooDeep Expected ts place a b = absurd (b.0 a.0 (begins_some (take (place + 1) ts) a.1))
  same_fault EndName Expected ts place a b = absurd (b.0 a.0 (begins_some (take (place + 1) ts) a.1))
  same_fault TooDeep EndName ts place a b = absurd (a.2 b.2)
  same_fault EndName TooDeep ts place a b = absurd (b.2 a.2)

  less_or : (a b : ℕ) → (a < b) ⊎ (b ≤ a)
  less_or a b = grind arith

  pub one_refusal : Laws → OneRefusal g t.start
  one_refusal law ts p q f k a b =
      let same : p ≡ q =
      ⊎_elim
      (λ (l : p < q). absurd (not_before law ts p q f k a b l))
      (λ (l : q ≤ p). ⊎_elim (λ (m : q < p). absurd (not_before law ts q p k f b a m)) (λ (m : p ≤ q). omega arith) (less_or q p))
      (less_or p q) in
      let P : ℕ → Type 0 = λ z. IsFaultAt g t.start k ts z in
      (same, same_fault f k ts p a.here (subst P (sym same) b.here))

  fine_text : (ts : List Token) (moves : List Move) → IsTextBy g t.start moves ts → Fine ts
  fine_text ts moves x =
      let s = read_starts g t predictive all_classes ts moves x.read in
      let P : List Token → Type 0 = λ z. IsText OwnNames Token g t.start own z in
      record {
        begins = record { more = []; fit = refl; text = subst P (sym (append-nil ts)) (record { moves = moves; derives = x.read.derives; passed = x.pass.own }) };
        shallow = viable g t predictive all_classes nesting refl moves ts s x.pass.nesting;
        closes = viable g t predictive all_classes closing refl moves ts s x.pass.closing;
      }

  ended : (f : Fault) (ts : List Token) (place : ℕ) (moves : List Move) → length ts ≤ place → IsTextBy g t.start moves ts → IsFaultAt g t.start f ts place → ⊥
  ended Expected ts place moves l x f = f.1 l (record { moves = moves; derives = x.read.derives; passed = x.pass.own })
  ended TooDeep ts place moves l x f = absurd (omega (arith, f.0))
  ended EndName ts place moves l x f = absurd (omega (arith, f.0))

  pub texts_are_not_refused : Laws → TextsAreNotRefused g t.start
  texts_are_not_refused law ts moves place f x h =
      ⊎_elim
      (λ (l : place < length ts).
      let P : List Token → Type 0 = λ z. Fine z in
      no_fault f ts place l h.here (fewer law (take (place + 1) ts) (drop (place + 1) ts) (subst P (sym (take-append-drop (place + 1) ts)) (fine_text ts moves x))))
      (λ (l : length ts ≤ place). ended f ts place moves l x h.here)
      (less_or place (length ts))
