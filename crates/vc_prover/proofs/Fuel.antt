-- More fuel changes nothing that is found.
use Rattle.std.proofs.Common.{◌≡◌, ◌∙◌, sym, ap, refl, ℕ, zero, suc, ◌+◌, ◌≤◌, ltb, Bool, true, false, List, [], ◌∷◌, ◌++◌, length, Option, Some, None, option_map, append_assoc, append-nil, length-append, arith}
use Rattle.std.specs.Prelude.{if◌then◌else◌}
use Rattle.std.proofs.lemmas.Option.{same_Some}
use Rattle.vc_sequents.specs.declared.sequent.Sequent.{Sequent}
use Rattle.cert_form.specs.declared.cert.Step.{Step}
use Rattle.cert_form.specs.declared.cert.Step.TheVariants as step
use Rattle.cert_check.specs.Legality.{small_split}
use Rattle.vc_prover.specs.Search.{IsFound, IsOpen, closing, go_on, is_small_sequent, most_ends, search, splitting, steps_for, with_step}

when_more : {A : Type 0} (b : Bool) (o p : Option A) (a : A) → (o ≡ Some a → p ≡ Some a) → (if b then o else None) ≡ Some a → (if b then p else None) ≡ Some a
when_more true o p a h e = h e
when_more false o p a h e = cc

step_more : (x : Step) (o p : Option (List Step)) (a : List Step) → ((b : List Step) → o ≡ Some b → p ≡ Some b) → with_step x o ≡ Some a → with_step x p ≡ Some a
step_more x None p a h e = cc
step_more x (Some b) p a h e = ap (with_step x) (h b refl) ∙ e

go_more : (s : Sequent) (ends : ℕ) (c : Option Step) (split : Option (ℕ × List Sequent)) (closed closed' : Option (List Step)) (opened opened' : List Sequent → Option (List Step)) (a : List Step) →
    ((b : List Step) → closed ≡ Some b → closed' ≡ Some b) → ((new : List Sequent) (b : List Step) → opened new ≡ Some b → opened' new ≡ Some b) →
    go_on s ends c split closed opened ≡ Some a → go_on s ends c split closed' opened' ≡ Some a
go_more s ends (Some x) split closed closed' opened opened' a h k e = when_more (ltb ends most_ends) (with_step x closed) (with_step x closed') a (step_more x closed closed' a h) e
go_more s ends None None closed closed' opened opened' a h k e = cc
go_more s ends None (Some c) closed closed' opened opened' a h k e =
    when_more (small_split s c.0) (with_step (step.Split c.0 (length c.1)) (opened c.1)) (with_step (step.Split c.0 (length c.1)) (opened' c.1)) a
    (step_more (step.Split c.0 (length c.1)) (opened c.1) (opened' c.1) a (k c.1)) e

pub steps_more : (n m ends : ℕ) (ss : List Sequent) (a : List Step) → n ≤ m → steps_for n ends ss ≡ Some a → steps_for m ends ss ≡ Some a
steps_more zero m ends ss a le e = cc
steps_more (suc n) zero ends ss a le e = absurd (omega arith)
steps_more (suc n) (suc m) ends [] a le e = e
steps_more (suc n) (suc m) ends (s ∷ ss) a le e =
    go_more s ends (closing s) (splitting s) (steps_for n (ends + 1) ss) (steps_for m (ends + 1) ss) (λ new. steps_for n ends (new ++ ss)) (λ new. steps_for m ends (new ++ ss)) a
    (λ b h. steps_more n m (ends + 1) ss b (omega arith) h) (λ new b h. steps_more n m ends (new ++ ss) b (omega arith) h) e

search_more : (n m : ℕ) (s : Sequent) (a : List Step) → n ≤ m → search n s ≡ Some a → search m s ≡ Some a
search_more n m s a le e = when_more (is_small_sequent s) (steps_for n 0 (s ∷ [])) (steps_for m 0 (s ∷ [])) a (λ h. steps_more n m 0 (s ∷ []) a le h) e

-- A search finds one list of steps.
pub one_search : (s : Sequent) (a b : List Step) → IsFound s a → IsFound s b → a ≡ b
one_search s a b found other =
    same_Some a b (sym (search_more found.0 (found.0 + other.0) s a (omega arith) found.1) ∙ search_more other.0 (found.0 + other.0) s b (omega arith) other.1)

-- the steps so far, and then the others
abbrev pub after : List Step → Option (List Step) → Option (List Step)
after done o = option_map (λ xs. done ++ xs) o

after_step : (done : List Step) (x : Step) (o : Option (List Step)) → after done (with_step x o) ≡ after (done ++ x ∷ []) o
after_step done x None = refl
after_step done x (Some xs) = ap Some (sym (append_assoc done (x ∷ []) xs))

-- What the search of a sequent has come to: its steps so far, the ends among them, and the sequents that still stand.
pub record Progress (s : Sequent) (done : List Step) (ends : ℕ) (ss : List Sequent) : Type 0 where
  pub small : is_small_sequent s ≡ true
  pub so_far : (fuel : ℕ) → steps_for (length done + fuel) 0 (s ∷ []) ≡ after done (steps_for fuel ends ss)

-- a step leaves other sequents standing
abbrev pub Moves : ℕ → List Sequent → Step → ℕ → List Sequent → Type 0
Moves ends ss x ends' ss' = (fuel : ℕ) → steps_for (suc fuel) ends ss ≡ with_step x (steps_for fuel ends' ss')

pub starts : (s : Sequent) → is_small_sequent s ≡ true → Progress s [] 0 (s ∷ [])
starts s small = record { small = small; so_far = λ fuel. begun fuel }
  where
    same : (o : Option (List Step)) → o ≡ after [] o
    same None = refl
    same (Some xs) = refl

    begun : (fuel : ℕ) → steps_for (0 + fuel) 0 (s ∷ []) ≡ after [] (steps_for fuel 0 (s ∷ []))
    begun fuel = let e : 0 + fuel ≡ fuel = omega arith in ap (λ n. steps_for n 0 (s ∷ [])) e ∙ same (steps_for fuel 0 (s ∷ []))

pub goes_on : (s : Sequent) (done : List Step) (ends : ℕ) (ss : List Sequent) (x : Step) (ends' : ℕ) (ss' : List Sequent) → Moves ends ss x ends' ss' → Progress s done ends ss → Progress s (done ++ x ∷ []) ends' ss'
goes_on s done ends ss x ends' ss' moves p = record {
  small = p.small;
  so_far = λ fuel.
      let e : length (done ++ x ∷ []) + fuel ≡ length done + suc fuel = omega (arith, length-append done (x ∷ [])) in
      ap (λ n. steps_for n 0 (s ∷ [])) e ∙ (p.so_far (suc fuel) ∙ (ap (after done) (moves fuel) ∙ after_step done x (steps_for fuel ends' ss')));
}

when_small : {A : Type 0} (b : Bool) (o : Option A) → b ≡ true → (if b then o else None) ≡ o
when_small true o e = refl
when_small false o e = cc

pub finished : (s : Sequent) (done : List Step) (ends : ℕ) → Progress s done ends [] → IsFound s done
finished s done ends p =
    (length done + 1, when_small (is_small_sequent s) (steps_for (length done + 1) 0 (s ∷ [])) p.small ∙ (p.so_far 1 ∙ ap Some (append-nil done)))

none_from : {A : Type 0} (o : Option A) → ((a : A) → o ≡ Some a → ⊥) → o ≡ None
none_from None h = refl
none_from (Some a) h = absurd (h a refl)

-- A search that does not go on leaves the sequent open.
pub stuck : (s : Sequent) (done : List Step) (ends : ℕ) (ss : List Sequent) → ((fuel : ℕ) → steps_for fuel ends ss ≡ None) → Progress s done ends ss → IsOpen s
stuck s done ends ss none p fuel =
    none_from (search fuel s) (λ a e.
    let later : search (length done + fuel) s ≡ Some a = search_more fuel (length done + fuel) s a (omega arith) e in
    let here : search (length done + fuel) s ≡ None =
    when_small (is_small_sequent s) (steps_for (length done + fuel) 0 (s ∷ [])) p.small ∙ (p.so_far fuel ∙ ap (after done) (none fuel)) in
    let clash : None ≡ Some a = sym here ∙ later in
    cc)

pub too_large : (s : Sequent) → is_small_sequent s ≡ false → IsOpen s
too_large s large fuel = let e : (b : Bool) (o : Option (List Step)) → b ≡ false → (if b then o else None) ≡ None = λ b o h. ap (λ c. if c then o else None) h in e (is_small_sequent s) (steps_for fuel 0 (s ∷ [])) large
