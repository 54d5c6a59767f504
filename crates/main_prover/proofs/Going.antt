-- What a judge does with one condition, and with conditions after one another.
use Rattle.std.proofs.Common.{◌≡◌, ◌∙◌, sym, ap, refl, subst, ℕ, ◌+◌, List, [], ◌∷◌, ◌++◌, length, append_assoc, arith, length-append, Result, Ok, Err}
use Rattle.std.proofs.lemmas.List.{append-nil}
use Rattle.std.specs.Prelude.{IfOk, MatchResult, codes}
use Rattle.math_terms.specs.declared.name.NoMemory.{NoMemory}
use Rattle.std.specs.Result.{IsErrAnd}
use Rattle.vc_sequents.specs.declared.sequent.Sequent.{Sequent}
use Rattle.std.specs.List.{AllByRecursion}
use Rattle.math_terms.specs.declared.term.Term.{Term}
use Rattle.vc_sequents.specs.declared.sequent.VcKind.{VcKind}
use Rattle.vc_sequents.specs.declared.sequent.VcKind.TheVariants as kind
use Rattle.main_vcs.specs.Terms.{in_bounds}
use Rattle.main_form.specs.declared.module.Module.{Module}
use Rattle.main_vcs.specs.Walk.{Path, Condition, conditions_of}
use Rattle.main_prover.specs.declared.proving.Unproved.{Unproved}
use Rattle.main_prover.specs.declared.judge.Judge.{Judge}
use Rattle.main_prover.specs.declared.judge.Purpose.{Purpose}
use Rattle.main_prover.specs.declared.judge.Purpose.TheVariants.{Collect, Prove}
use Rattle.main_prover.specs.declared.judge.Stop.{Stop}
use Rattle.main_prover.specs.declared.judge.Stop.TheVariants as stop
use Rattle.main_prover.specs.working.Making.{Made, made, condition_at, sum_made}
use Rattle.main_prover.specs.working.Judging.{IsFirstAmong, AreDone, HasJudged, Goes, IsUnproved, IsStop, Stops, Judges, Makes, IsRefusal, AllProved, AfterPart, IsTerm, HasJudgedSum}
use Rattle.main_prover.specs.Proving.{IsProved, IsFirstUnproved, sequent_of, vc_of, vcs_from}

is_prove : Purpose → Type 0
is_prove Collect = ⊥
is_prove Prove = Unit {0}

collect_not_prove : Collect ≡ Prove → ⊥
unfolding is_prove
collect_not_prove e = subst is_prove (sym e) tt

-- one more of the conditions that are collected
vcs_push : (m : Module) (n : ℕ) (cs : List Condition) (c : Condition) → vcs_from m n (cs ++ c ∷ []) ≡ vcs_from m n cs ++ vc_of m (n + length cs) c ∷ []
vcs_push m n [] c = let e : n ≡ n + 0 = omega arith in ap (λ k. vc_of m k c ∷ []) e
vcs_push m n (d ∷ cs) c =
    let e : n + 1 + length cs ≡ n + length (d ∷ cs) = omega arith in
    ap (λ vs. vc_of m n d ∷ vs) (vcs_push m (n + 1) cs c ∙ ap (λ k. vcs_from m (n + 1) cs ++ vc_of m k c ∷ []) e)

all_push : (P : Condition → Type 0) (cs : List Condition) (c : Condition) → AllByRecursion P cs → P c → AllByRecursion P (cs ++ c ∷ [])
all_push P [] c h p = (p, tt)
all_push P (d ∷ cs) c h p = (h.0, all_push P cs c h.1 p)

length_push : (cs : List Condition) (c : Condition) → length (cs ++ c ∷ []) ≡ length cs + 1
length_push cs c = omega (arith, length-append cs (c ∷ []))

module _ (m : Module) where
  collected : (c : Condition) (cs : List Condition) (j k : Judge) (aim : Purpose) → j.purpose ≡ Collect → k ≡ record j { count = j.count + 1; collected = j.collected ++ vc_of m (j.count + 1) c ∷ [] } → HasJudged m aim cs j → HasJudged m aim (cs ++ c ∷ []) k
  collected c cs j k Prove p e h = absurd (collect_not_prove (sym p ∙ h.purpose))
  collected c cs j k Collect p e h =
      let count : 1 + length cs ≡ j.count + 1 = omega (arith, h.count) in
      record {
        purpose = ap (λ x. x.purpose) e ∙ h.purpose;
        count = ap (λ x. x.count) e ∙ ap (λ n. n + 1) h.count ∙ sym (length_push cs c);
        done =
            ap (λ x. x.collected) e
            ∙ ap (λ vs. vs ++ vc_of m (j.count + 1) c ∷ []) h.done
            ∙ ap (λ n. vcs_from m 1 cs ++ vc_of m n c ∷ []) (sym count)
            ∙ sym (vcs_push m 1 cs c);
      }

  pub collecting_goes : (c : Condition) (j k : Judge) → j.purpose ≡ Collect → k ≡ record j { count = j.count + 1; collected = j.collected ++ vc_of m (j.count + 1) c ∷ [] } → Goes m (c ∷ []) j k
  unfolding Goes
  collecting_goes c j k p e = λ aim before h. collected c before j k aim p e h

  proved : (c : Condition) (cs : List Condition) (j k : Judge) (aim : Purpose) → j.purpose ≡ Prove → k ≡ record j { count = j.count + 1 } → IsProved m c → HasJudged m aim cs j → HasJudged m aim (cs ++ c ∷ []) k
  proved c cs j k Collect p e is h = absurd (collect_not_prove (sym h.purpose ∙ p))
  proved c cs j k Prove p e is h = record {
    purpose = ap (λ x. x.purpose) e ∙ h.purpose;
    count = ap (λ x. x.count) e ∙ ap (λ n. n + 1) h.count ∙ sym (length_push cs c);
    done = all_push (IsProved m) cs c h.done is;
  }

  pub proving_goes : (c : Condition) (j k : Judge) → j.purpose ≡ Prove → k ≡ record j { count = j.count + 1 } → IsProved m c → Goes m (c ∷ []) j k
  unfolding Goes
  proving_goes c j k p e is = λ aim before h. proved c before j k aim p e is h

  refused : (c : Condition) (cs : List Condition) (j : Judge) (u : Unproved) (aim : Purpose) → j.purpose ≡ Prove → u.number ≡ j.count + 1 → u.kind ≡ c.kind → u.at ≡ c.at → (IsProved m c → ⊥) → HasJudged m aim cs j → IsUnproved m aim (cs ++ c ∷ []) u
  refused c cs j u Collect p n k at not h = collect_not_prove (sym h.purpose ∙ p)
  refused c cs j u Prove p n k at not h = record {
    before = cs;
    first = c;
    later = [];
    all = refl;
    proved = h.done;
    unproved = not;
    number = n ∙ ap (λ i. i + 1) h.count;
    kind = k;
    at = at;
  }

  pub refusal_stops : (c : Condition) (j : Judge) (u : Unproved) → j.purpose ≡ Prove → u.number ≡ j.count + 1 → u.kind ≡ c.kind → u.at ≡ c.at → (IsProved m c → ⊥) → Stops m (c ∷ []) j (stop.Unproved u)
  unfolding Stops
  refusal_stops c j u p n k at not = λ aim before h. refused c before j u aim p n k at not h

  pub memory_stops : (cs : List Condition) (j : Judge) → Stops m cs j stop.NoMemory
  unfolding Stops
  memory_stops cs j = λ aim before h. tt

  pub memory_judges : {A : Type 0} (cs : List Condition) (j k : Judge) (r : Result A Stop) → IsErrAnd r (λ s. s ≡ stop.NoMemory) → Judges m cs j r k
  memory_judges cs j k (Ok a) h = absurd h
  memory_judges cs j k (Err s) h = subst (Stops m cs j) (sym h) (memory_stops cs j)

  -- what collecting one gives
  pub collected_goes : (c : Condition) (j k : Judge) (n : ℕ) (s : Sequent) → j.purpose ≡ Collect → n ≡ j.count + 1 → s ≡ sequent_of c → k ≡ record j { count = n; collected = j.collected ++ record { name = record { component = m.name; part = codes "Main"; number = n }; kind = c.kind; at = c.at; sequent = s } ∷ [] } → Goes m (c ∷ []) j k
  collected_goes c j k n s p en es e =
      collecting_goes c j k p
      (e
      ∙ ap (λ i. record j { count = i; collected = j.collected ++ record { name = record { component = m.name; part = codes "Main"; number = i }; kind = c.kind; at = c.at; sequent = s } ∷ [] }) en
      ∙ ap (λ t. record j { count = j.count + 1; collected = j.collected ++ record { name = record { component = m.name; part = codes "Main"; number = j.count + 1 }; kind = c.kind; at = c.at; sequent = t } ∷ [] }) es)

  -- what proving one gives
  pub refused_stops : (c : Condition) (j : Judge) (u : Unproved) (s : Stop) → j.purpose ≡ Prove → u.number ≡ j.count + 1 → u.kind ≡ c.kind → u.at ≡ c.at → IsRefusal m u (sequent_of c) s → Stops m (c ∷ []) j s
  refused_stops c j u (stop.Unproved v) p n k at h =
      subst (λ w. Stops m (c ∷ []) j (stop.Unproved w)) (sym h.0) (refusal_stops c j u p n k at (h.1 c (sym k) refl))
  refused_stops c j u stop.NoMemory p n k at h = memory_stops (c ∷ []) j

  proving_judges : (c : Condition) (j k : Judge) (u : Unproved) (r : Result (Unit {0}) Stop) → j.purpose ≡ Prove → u.number ≡ j.count + 1 → u.kind ≡ c.kind → u.at ≡ c.at → MatchResult r (λ _. (k ≡ record j { count = u.number }) × AllProved m u.kind (sequent_of c)) (IsRefusal m u (sequent_of c)) → Judges m (c ∷ []) j r k
  proving_judges c j k u (Ok a) p n same at h =
      proving_goes c j k p (h.0 ∙ ap (λ i. record j { count = i }) n) (h.1 c (sym same) refl)
  proving_judges c j k u (Err s) p n same at h = refused_stops c j u s p n same at h

  pub proved_judges : (c : Condition) (j k : Judge) (u : Unproved) (t : Sequent) (r : Result (Unit {0}) Stop) → j.purpose ≡ Prove → u.number ≡ j.count + 1 → u.kind ≡ c.kind → u.at ≡ c.at → t ≡ sequent_of c → MatchResult r (λ _. (k ≡ record j { count = u.number }) × AllProved m u.kind t) (IsRefusal m u t) → Judges m (c ∷ []) j r k
  proved_judges c j k u t r p n same at is h =
      proving_judges c j k u r p n same at (subst (λ v. MatchResult r (λ _. (k ≡ record j { count = u.number }) × AllProved m u.kind v) (IsRefusal m u v)) is h)

  -- nothing more
  pub nothing_goes : (j : Judge) → Goes m [] j j
  unfolding Goes
  nothing_goes j = λ aim before h. subst (λ cs. HasJudged m aim cs j) (sym (append-nil before)) h

  -- one after the other
  pub goes_then : (cs ds : List Condition) (j k l : Judge) → Goes m cs j k → Goes m ds k l → Goes m (cs ++ ds) j l
  unfolding Goes
  goes_then cs ds j k l first second = λ aim before h.
      subst (λ xs. HasJudged m aim xs l) (append_assoc before cs ds) (second aim (before ++ cs) (first aim before h))

  more_later : (aim : Purpose) (cs ds : List Condition) (s : Stop) → IsStop m aim cs s → IsStop m aim (cs ++ ds) s
  more_later Collect cs ds (stop.Unproved u) h = h
  more_later Prove cs ds (stop.Unproved u) h = record {
    before = h.before;
    first = h.first;
    later = h.later ++ ds;
    all = ap (λ xs. xs ++ ds) h.all ∙ append_assoc h.before (h.first ∷ h.later) ds;
    proved = h.proved;
    unproved = h.unproved;
    number = h.number;
    kind = h.kind;
    at = h.at;
  }
  more_later aim cs ds stop.NoMemory h = tt

  pub stops_early : (cs ds : List Condition) (j : Judge) (s : Stop) → Stops m cs j s → Stops m (cs ++ ds) j s
  unfolding Stops
  stops_early cs ds j s first = λ aim before h.
      subst (λ xs. IsStop m aim xs s) (append_assoc before cs ds) (more_later aim (before ++ cs) ds s (first aim before h))

  pub stops_late : (cs ds : List Condition) (j k : Judge) (s : Stop) → Goes m cs j k → Stops m ds k s → Stops m (cs ++ ds) j s
  unfolding Goes Stops
  stops_late cs ds j k s first second = λ aim before h.
      subst (λ xs. IsStop m aim xs s) (append_assoc before cs ds) (second aim (before ++ cs) (first aim before h))

  pub judges_then : {A : Type 0} (cs ds : List Condition) (j k l : Judge) (r : Result A Stop) → Goes m cs j k → Judges m ds k r l → Judges m (cs ++ ds) j r l
  judges_then cs ds j k l (Ok a) first second = goes_then cs ds j k l first second
  judges_then cs ds j k l (Err s) first second = stops_late cs ds j k s first second

  -- a walk that stops because another one does
  pub stop_makes : (z : Made) (j k : Judge) (p : Path) (r : Result Term Stop) (s : Stop) → IsErrAnd r (λ t. t ≡ s) → Stops m z.conditions j s → Makes m z j r p k
  stop_makes z j k p (Ok a) s is h = absurd is
  stop_makes z j k p (Err t) s is h = subst (Stops m z.conditions j) (sym is) h

  pub begun_stops : (z : Made) (cs ds : List Condition) (j : Judge) (s : Stop) → z.conditions ≡ cs ++ ds → Stops m cs j s → Stops m z.conditions j s
  begun_stops z cs ds j s e h = subst (λ xs. Stops m xs j s) (sym e) (stops_early cs ds j s h)

  -- a sum after other conditions
  pub sum_makes : (z : Made) (at : ℕ) (cs : List Condition) (t : Term) (p : Path) (j k l : Judge) (r : Result Term Stop) → z ≡ sum_made at cs t p → Goes m cs j k → HasJudgedSum m at p t k r l → Makes m z j r p l
  sum_makes z at cs t p j k l (Ok u) e first h =
      subst (λ x. Makes m x j (Ok u) p l) (sym e) (h.0, refl, goes_then cs (condition_at kind.Range at p (in_bounds t) ∷ []) j k l first h.1)
  sum_makes z at cs t p j k l (Err s) e first h =
      subst (λ x. Makes m x j (Err s) p l) (sym e) (stops_late cs (condition_at kind.Range at p (in_bounds t) ∷ []) j k s first h)

  -- a term after its conditions
  pub term_makes : (z : Made) (cs : List Condition) (t : Term) (p : Path) (j k : Judge) (r : Result Term Stop) → z ≡ made cs t p → Goes m cs j k → IsTerm t r → Makes m z j r p k
  term_makes z cs t p j k (Ok u) e first h = subst (λ x. Makes m x j (Ok u) p k) (sym e) (h, refl, first)
  term_makes z cs t p j k (Err s) e first h = subst (Stops m z.conditions j) (sym h) (memory_stops z.conditions j)

  -- a sum of one part
  pub one_sum : (h : Term → Term) (z x : Made) (at : ℕ) (p : Path) (j k l : Judge) (a r : Result Term Stop) → z ≡ sum_made at x.conditions (h x.term) x.point → Makes m x j a p k → AfterPart a (λ v. HasJudgedSum m at p (h v) k r l) r → Makes m z j r p l
  one_sum h z x at p j k l (Ok v) r e first then =
      sum_makes z at x.conditions (h v) p j k l r (e ∙ ap (λ t. sum_made at x.conditions (h t) x.point) (sym first.0) ∙ ap (sum_made at x.conditions (h v)) (sym first.1)) first.2 then
  one_sum h z x at p j k l (Err s) r e first then =
      subst (λ q. Makes m z j q p l) (sym then) (begun_stops z x.conditions (condition_at kind.Range at x.point (in_bounds (h x.term)) ∷ []) j s (ap (λ y. y.conditions) e) first)

  -- a sum of two parts, of which the first is made
  pub two_sum : (h : Term → Term) (z y : Made) (cs : List Condition) (at : ℕ) (p : Path) (i j k l : Judge) (b r : Result Term Stop) → z ≡ sum_made at (cs ++ y.conditions) (h y.term) y.point → Goes m cs i j → Makes m y j b p k → AfterPart b (λ v. HasJudgedSum m at p (h v) k r l) r → Makes m z i r p l
  two_sum h z y cs at p i j k l (Ok v) r e before first then =
      sum_makes z at (cs ++ y.conditions) (h v) p i k l r (e ∙ ap (λ t. sum_made at (cs ++ y.conditions) (h t) y.point) (sym first.0) ∙ ap (sum_made at (cs ++ y.conditions) (h v)) (sym first.1)) (goes_then cs y.conditions i j k before first.2) then
  two_sum h z y cs at p i j k l (Err s) r e before first then =
      subst (λ q. Makes m z i q p l) (sym then) (begun_stops z (cs ++ y.conditions) (condition_at kind.Range at y.point (in_bounds (h y.term)) ∷ []) i s (ap (λ x. x.conditions) e) (stops_late cs y.conditions i j s before first))

  -- a term of one part, and of two
  pub one_term : (h : Term → Term) (z x : Made) (p : Path) (j k : Judge) (a r : Result Term Stop) → z ≡ made x.conditions (h x.term) x.point → Makes m x j a p k → AfterPart a (λ v. IsTerm (h v) r) r → Makes m z j r p k
  one_term h z x p j k (Ok v) r e first then =
      term_makes z x.conditions (h v) p j k r (e ∙ ap (λ t. made x.conditions (h t) x.point) (sym first.0) ∙ ap (made x.conditions (h v)) (sym first.1)) first.2 then
  one_term h z x p j k (Err s) r e first then =
      subst (λ q. Makes m z j q p k) (sym then) (subst (λ cs. Stops m cs j s) (sym (ap (λ y. y.conditions) e)) first)

  pub two_terms : (h : Term → Term) (z y : Made) (cs : List Condition) (p : Path) (i j k : Judge) (b r : Result Term Stop) → z ≡ made (cs ++ y.conditions) (h y.term) y.point → Goes m cs i j → Makes m y j b p k → AfterPart b (λ v. IsTerm (h v) r) r → Makes m z i r p k
  two_terms h z y cs p i j k (Ok v) r e before first then =
      term_makes z (cs ++ y.conditions) (h v) p i k r (e ∙ ap (λ t. made (cs ++ y.conditions) (h t) y.point) (sym first.0) ∙ ap (made (cs ++ y.conditions) (h v)) (sym first.1)) (goes_then cs y.conditions i j k before first.2) then
  two_terms h z y cs p i j k (Err s) r e before first then =
      subst (λ q. Makes m z i q p k) (sym then) (subst (λ ds. Stops m ds i s) (sym (ap (λ x. x.conditions) e)) (stops_late cs y.conditions i j s before first))

  pub memory_sum : (at : ℕ) (p : Path) (t : Term) (j k : Judge) (r : Result Term Stop) → IsErrAnd r (λ s. s ≡ stop.NoMemory) → HasJudgedSum m at p t j r k
  memory_sum at p t j k (Ok u) h = absurd h
  memory_sum at p t j k (Err s) h = subst (Stops m (condition_at kind.Range at p (in_bounds t) ∷ []) j) (sym h) (memory_stops (condition_at kind.Range at p (in_bounds t) ∷ []) j)

  pub after_ok : (b : Result Term Stop) (v : Term) (P : Term → Type 0) (r : Result Term Stop) → b ≡ Ok v → P v → AfterPart b P r
  after_ok b v P r e h = subst (λ x. AfterPart x P r) (sym e) h

  -- a term that has no conditions
  pub leaf_makes : (z : Made) (u : Term) (p q : Path) (j : Judge) (a : Result Term NoMemory) (r : Result Term Stop) → z ≡ made [] u q → IfOk a (λ t. (t ≡ u) × (p ≡ q)) → MatchResult a (λ t. r ≡ Ok t) (λ n. r ≡ Err stop.NoMemory) → Makes m z j r p j
  leaf_makes z u p q j (Ok t) r e is h =
      subst (λ x. Makes m x j r p j) (sym e) (subst (λ x. Makes m (made [] u q) j x p j) (sym h) (is.0, is.1, nothing_goes j))
  leaf_makes z u p q j (Err n) r e is h = subst (λ x. Makes m z j x p j) (sym h) (memory_stops z.conditions j)

  pub still_leaf_makes : (z : Made) (u : Term) (p : Path) (j : Judge) (a : Result Term NoMemory) (r : Result Term Stop) → z ≡ made [] u p → IfOk a (λ t. t ≡ u) → MatchResult a (λ t. r ≡ Ok t) (λ n. r ≡ Err stop.NoMemory) → Makes m z j r p j
  still_leaf_makes z u p j (Ok t) r e is h = leaf_makes z u p p j (Ok t) r e (is, refl) h
  still_leaf_makes z u p j (Err n) r e is h = leaf_makes z u p p j (Err n) r e tt h

  -- memory runs out after some conditions
  pub memory_stops_in : {A : Type 0} (cs : List Condition) (j : Judge) (P : A → Type 0) (r : Result A Stop) → IsErrAnd r (λ s. s ≡ stop.NoMemory) → MatchResult r P (λ s. Stops m cs j s)
  memory_stops_in cs j P (Ok a) h = absurd h
  memory_stops_in cs j P (Err s) h = subst (Stops m cs j) (sym h) (memory_stops cs j)

  -- from the beginning
  pub collected_all : (cs : List Condition) (j k : Judge) → HasJudged m Collect [] j → Goes m cs j k → k.collected ≡ vcs_from m 1 cs
  unfolding Goes
  collected_all cs j k begins goes = (goes Collect [] begins).done

  pub proved_all : (cs : List Condition) (j k : Judge) → HasJudged m Prove [] j → Goes m cs j k → AllByRecursion (IsProved m) cs
  unfolding Goes
  proved_all cs j k begins goes = (goes Prove [] begins).done

  pub first_among : (cs : List Condition) (j : Judge) (s : Stop) (u : Unproved) → HasJudged m Prove [] j → s ≡ stop.Unproved u → Stops m cs j s → IsFirstAmong m cs u
  unfolding Stops
  first_among cs j s u begins is stops = subst (IsStop m Prove cs) is (stops Prove [] begins)

pub first_unproved_of : (m : Module) (u : Unproved) → IsFirstAmong m (conditions_of m) u → IsFirstUnproved m u
first_unproved_of m u h = record {
  before = h.before;
  first = h.first;
  later = h.later;
  all = h.all;
  proved = h.proved;
  unproved = h.unproved;
  number = h.number;
  kind = h.kind;
  at = h.at;
}
