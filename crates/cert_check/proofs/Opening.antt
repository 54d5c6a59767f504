-- The sequents of a split, made beside what stands.
use Rattle.std.proofs.Common.{◌≡◌, ◌∙◌, sym, ap, refl, subst, ℕ, zero, suc, ◌+◌, ◌-◌, ◌<◌, true, List, [], ◌∷◌, ◌++◌, length, take, drop, get_or, Option, Some, None, IfSome, append_assoc, length-drop, arith}
use Rattle.std.proofs.Math.Seq.{take-append_seam}
use Rattle.std.proofs.lemmas.List.{take_all, take_more, drop-append-le}
use Rattle.math_terms.specs.declared.term.Term.{Term}
use Rattle.term_cells.specs.declared.cell.Cell.{Cell}
use Rattle.term_cells.specs.Growing.{Grows, Store}
use Rattle.term_cells.specs.Laws.{StandingLasts}
use Rattle.term_cells.specs.Standing.{stands}
use Rattle.vc_sequents.specs.declared.sequent.Sequent.{Sequent}
use Rattle.vc_sequents.specs.Splitting.{GoalCase, in_place, with_goal_case}
use Rattle.cert_check.specs.declared.cases.Part.{Part}
use Rattle.cert_check.specs.declared.cases.Part.TheVariants.{At, Truth, Not, Two, OfNegations, AndNot}
use Rattle.cert_check.specs.declared.cases.Case.{Case}
use Rattle.cert_check.specs.declared.cases.Case.TheVariants.{Nothing, Only, Both}
use Rattle.cert_check.specs.working.Cases.{FormulasAre, GoalIs, PartIs}
use Rattle.cert_check.specs.working.Children.{ChildIs, Opens}
use Rattle.term_cells.specs.Placed.{AllStand}
use Rattle.cert_check.specs.working.Path.{Adds, Puts, StandsIn}

pub all_joined : (cells : List Cell) (ts us : List Term) (ps qs : List ℕ) → AllStand cells ts ps → AllStand cells us qs → AllStand cells (ts ++ us) (ps ++ qs)
all_joined cells [] us [] qs h g = g
all_joined cells [] us (p ∷ ps) qs h g = absurd h
all_joined cells (t ∷ ts) us [] qs h g = absurd h
all_joined cells (t ∷ ts) us (p ∷ ps) qs h g = (h.0, all_joined cells ts us ps qs h.1 g)

-- formulas in the place of one
pub all_in_place : (cells : List Cell) (new : List Term) (qs : List ℕ) → AllStand cells new qs → (k : ℕ) (hs : List Term) (ps : List ℕ) → AllStand cells hs ps → k < length ps →
    AllStand cells (in_place k new hs) (take k ps ++ (qs ++ drop (suc k) ps))
all_in_place cells new qs g k [] [] h few = absurd (omega arith)
all_in_place cells new qs g k [] (p ∷ ps) h few = absurd h
all_in_place cells new qs g k (t ∷ ts) [] h few = absurd h
all_in_place cells new qs g zero (t ∷ ts) (p ∷ ps) h few = all_joined cells new ts qs ps g h.1
all_in_place cells new qs g (suc k) (t ∷ ts) (p ∷ ps) h few = (h.0, all_in_place cells new qs g k ts ps h.1 (omega arith))

module _ (law : StandingLasts) (cells more : List Cell) where
  all_last : (ts : List Term) (ps : List ℕ) → AllStand cells ts ps → AllStand (cells ++ more) ts ps
  all_last [] [] h = tt
  all_last [] (p ∷ ps) h = absurd h
  all_last (t ∷ ts) [] h = absurd h
  all_last (t ∷ ts) (p ∷ ps) h = (law cells more t p h.0, all_last ts ps h.1)

  part_lasts : (x : Part) (t : Term) → PartIs cells x t → PartIs (cells ++ more) x t
  part_lasts (At p) t h = law cells more t p h
  part_lasts (Truth b) t h = h
  part_lasts (Not p) t h = (h.0, law cells more h.0 p h.1, h.2)
  part_lasts (Two k p q) t h = (h.0, h.1, law cells more h.0 p h.2, law cells more h.1 q h.3, h.4)
  part_lasts (OfNegations k p q) t h = (h.0, h.1, law cells more h.0 p h.2, law cells more h.1 q h.3, h.4)
  part_lasts (AndNot p q) t h = (h.0, h.1, law cells more h.0 p h.2, law cells more h.1 q h.3, h.4)

module _ (law : StandingLasts) (old new : Store) (most : ℕ) (grows : Grows old new most) where
  pub grown_all : (ts : List Term) (ps : List ℕ) → AllStand old.0 ts ps → AllStand new.0 ts ps
  grown_all ts ps h = subst (λ (cells : List Cell). AllStand cells ts ps) (sym grows.held) (all_last law old.0 grows.more ts ps h)

  pub grown_part : (x : Part) (t : Term) → PartIs old.0 x t → PartIs new.0 x t
  grown_part x t h = subst (λ (cells : List Cell). PartIs cells x t) (sym grows.held) (part_lasts law old.0 grows.more x t h)

  pub grown_one : (t : Term) (p : ℕ) → stands old.0 t p ≡ true → stands new.0 t p ≡ true
  grown_one t p h = ap (λ (cells : List Cell). stands cells t p) grows.held ∙ law old.0 grows.more t p h

  pub grown_formulas : (c : Case) (ts : List Term) → FormulasAre old.0 c ts → FormulasAre new.0 c ts
  grown_formulas Nothing ts h = h
  grown_formulas (Only x) ts h = (h.0, grown_part x h.0 h.1, h.2)
  grown_formulas (Both x y) ts h = (h.0, h.1, grown_part x h.0 h.2, grown_part y h.1 h.3, h.4)

  pub grown_goal : (c : Case) (g : GoalCase) → GoalIs old.0 c g → GoalIs new.0 c g
  grown_goal Nothing g h = h
  grown_goal (Only x) g h = (h.0, grown_part x h.0 h.1, h.2)
  grown_goal (Both x y) g h = (h.0, h.1, grown_part x h.0 h.2, grown_part y h.1 h.3, h.4)

  pub grown_child : (k : ℕ) (s : Sequent) (c : Case) (child : Sequent) → ChildIs old.0 k s c child → ChildIs new.0 k s c child
  grown_child zero s c child h = (h.0, grown_goal c h.0 h.1, h.2)
  grown_child (suc k) s c child h = (h.0, grown_formulas c h.0 h.1, h.2, h.3)

  pub grown_sequent : (hyps : List ℕ) (goal : ℕ) (s : Sequent) → StandsIn old.0 hyps goal s → StandsIn new.0 hyps goal s
  grown_sequent hyps goal s h = record { hyps_stand = grown_all s.hyps hyps h.hyps_stand; goal_stands = grown_one s.goal goal h.goal_stands }

pub no_more : (cells : List Cell) (places : List ℕ) → Adds places places cells []
no_more cells places = ([], omega_nil places, tt)
  where
    omega_nil : (xs : List ℕ) → xs ≡ xs ++ []
    omega_nil [] = refl
    omega_nil (x ∷ xs) = ap (λ ys. x ∷ ys) (omega_nil xs)

-- places that are added to places that were added
pub adds_on : (old mid new : List ℕ) (cells : List Cell) (ts us : List Term) → Adds old mid cells ts → Adds mid new cells us → Adds old new cells (ts ++ us)
adds_on old mid new cells ts us f g =
    (f.0 ++ g.0, g.1 ∙ ap (λ ps. ps ++ g.0) f.1 ∙ append_assoc old f.0 g.0, all_joined cells ts us f.0 g.0 f.2 g.2)

module _ (law : StandingLasts) (mid new : Store) (most : ℕ) (grows : Grows mid new most) (old here : List ℕ) where
  pub adds_last : (ts : List Term) → Adds old here mid.0 ts → Adds old here new.0 ts
  adds_last ts f = (f.0, f.1, grown_all law mid new most grows ts f.0 f.2)

  pub second_added : {A : Type 0} (end : List ℕ) (t u : Term) (ts : List Term) → Adds old here mid.0 (t ∷ []) → ts ≡ t ∷ u ∷ [] → (r : Option A) →
      IfSome r (λ x. Adds here end new.0 (u ∷ [])) → IfSome r (λ x. Adds old end new.0 ts)
  second_added end t u ts f is None h = tt
  second_added end t u ts f is (Some x) h =
      subst (λ (us : List Term). Adds old end new.0 us) (sym is) (adds_on old here end new.0 (t ∷ []) (u ∷ []) (adds_last (t ∷ []) f) h)

  pub goal_added : (t u : Term) (g : GoalCase) → Adds old here mid.0 (t ∷ []) → g ≡ (t ∷ [], u) → (r : Option ℕ) →
      IfSome r (λ at. stands new.0 u at ≡ true) → IfSome r (λ at. Adds old here new.0 g.0 × (stands new.0 g.1 at ≡ true))
  goal_added t u g f is None h = tt
  goal_added t u g f is (Some at) h =
      subst (λ (e : GoalCase). Adds old here new.0 e.0 × (stands new.0 e.1 at ≡ true)) (sym is) (adds_last (t ∷ []) f, h)

pub only_goal : (cells : List Cell) (places : List ℕ) (t : Term) (g : GoalCase) → g ≡ ([], t) → (r : Option ℕ) →
    IfSome r (λ at. stands cells t at ≡ true) → IfSome r (λ at. Adds places places cells g.0 × (stands cells g.1 at ≡ true))
only_goal cells places t g is None h = tt
only_goal cells places t g is (Some at) h =
    subst (λ (e : GoalCase). Adds places places cells e.0 × (stands cells e.1 at ≡ true)) (sym is) (no_more cells places, h)

drop_nil : (n : ℕ) → drop {A = ℕ} n [] ≡ []
drop_nil zero = refl
drop_nil (suc n) = refl

whole : (old : List ℕ) (start end : ℕ) → end ≡ length old → take (end - start) (drop start old) ≡ drop start old
whole old start end e = take_all (end - start) (drop start old) (omega (arith, length-drop start old))

-- The hypotheses come once more, and behind them that of the case of a goal.
pub goal_opened : StandingLasts → (old new : Store) (most : ℕ) → Grows old new most → (places mid end : List ℕ) (start held : ℕ) → held ≡ length places → mid ≡ places ++ take (held - start) (drop start places) →
    (s : Sequent) (goal : ℕ) → StandsIn old.0 (drop start places) goal s → (g : GoalCase) (r : Option ℕ) →
    IfSome r (λ at. Adds mid end new.0 g.0 × (stands new.0 g.1 at ≡ true)) → IfSome r (λ at. Opens places end new.0 (with_goal_case s g) at)
goal_opened law old new most grows places mid end start held count is s goal standing g None h = tt
goal_opened law old new most grows places mid end start held count is s goal standing g (Some at) h =
    let ps = drop start places in
    let all = grown_all law old new most grows s.hyps ps standing.hyps_stand in
    let joined : end ≡ places ++ (ps ++ h.0.0) =
    h.0.1 ∙ ap (λ qs. qs ++ h.0.0) (is ∙ ap (λ qs. places ++ qs) (whole places start held count)) ∙ append_assoc places ps h.0.0 in
    (ps ++ h.0.0, joined, record { hyps_stand = all_joined new.0 s.hyps g.0 ps h.0.0 all h.0.2; goal_stands = h.1 })

drop_drop_at : (start k : ℕ) (xs : List ℕ) → drop k (drop start xs) ≡ drop (start + k) xs
drop_drop_at zero k xs = let same : k ≡ 0 + k = omega arith in ap (λ n. drop n xs) same
drop_drop_at (suc n) zero [] = sym (drop_nil (suc n + 0))
drop_drop_at (suc n) (suc k) [] = sym (drop_nil (suc n + suc k))
drop_drop_at (suc n) k (x ∷ xs) = let same : suc (n + k) ≡ suc n + k = omega arith in drop_drop_at n k xs ∙ ap (λ m. drop m (x ∷ xs)) same

-- the places behind that of a hypothesis, once more
behind : (places rest : List ℕ) (start k at held : ℕ) → at ≡ start + k → at < held → held ≡ length places → take (held - (at + 1)) (drop (at + 1) (places ++ rest)) ≡ drop (suc k) (drop start places)
behind places rest start k at held e few count =
    let left = drop (at + 1) places in
    let long : held - (at + 1) ≡ length left = omega (arith, length-drop (at + 1) places) in
    let next : at + 1 ≡ start + suc k = omega arith in
    ap (take (held - (at + 1))) (drop-append-le (at + 1) places rest (omega arith))
    ∙ ap (λ n. take n (left ++ rest)) long
    ∙ take-append_seam left rest
    ∙ ap (λ n. drop n places) next
    ∙ sym (drop_drop_at start (suc k) places)

pub puts_places : {A : Type 0} (old new : List ℕ × ℕ) (ps : List ℕ) (r : Option A) → Puts old new ps r → IfSome r (λ u. new.0 ≡ old.0 ++ ps)
puts_places old new ps None h = tt
puts_places old new ps (Some u) h = ap (λ (p : List ℕ × ℕ). p.0) h

-- The hypotheses come once more, with the formulas of a case in the place of one.
pub hypothesis_opened : {A : Type 0} → StandingLasts → (old new : Store) (most : ℕ) → Grows old new most → (places mid here end : List ℕ) (start k at held : ℕ) → at ≡ start + k → at < held → held ≡ length places →
    mid ≡ places ++ take (at - start) (drop start places) → (hs ts : List Term) → AllStand old.0 hs (drop start places) → Adds mid here new.0 ts →
    (r : Option A) → IfSome r (λ u. end ≡ here ++ take (held - (at + 1)) (drop (at + 1) here)) → IfSome r (λ u. Adds places end new.0 (in_place k ts hs))
hypothesis_opened law old new most grows places mid here end start k at held e few count is hs ts all new_ones None h = tt
hypothesis_opened law old new most grows places mid here end start k at held e few count is hs ts all new_ones (Some u) h =
    let ps = drop start places in
    let qs = new_ones.0 in
    let long : k < length ps = omega (arith, length-drop start places) in
    let front : at - start ≡ k = omega arith in
    let mid_is : mid ≡ places ++ take k ps = is ∙ ap (λ n. places ++ take n ps) front in
    let here_is : here ≡ places ++ (take k ps ++ qs) = new_ones.1 ∙ ap (λ xs. xs ++ qs) mid_is ∙ append_assoc places (take k ps) qs in
    let last : take (held - (at + 1)) (drop (at + 1) here) ≡ drop (suc k) ps =
    ap (λ xs. take (held - (at + 1)) (drop (at + 1) xs)) here_is ∙ behind places (take k ps ++ qs) start k at held e few count in
    let joined : end ≡ places ++ (take k ps ++ (qs ++ drop (suc k) ps)) =
    h ∙ (λ i. here_is i ++ last i) ∙ append_assoc places (take k ps ++ qs) (drop (suc k) ps) ∙ ap (λ xs. places ++ xs) (append_assoc (take k ps) qs (drop (suc k) ps)) in
    (take k ps ++ (qs ++ drop (suc k) ps), joined, all_in_place new.0 ts qs new_ones.2 k hs ps (grown_all law old new most grows hs ps all) long)

-- One formula more is loaded.
pub loaded_next : StandingLasts → (old new : Store) (most : ℕ) → Grows old new most → (places mid end : List ℕ) (fs : List Term) (i p : ℕ) (t : Term) → i < length fs → t ≡ get_or fs i t → Adds places mid old.0 (take i fs) →
    stands new.0 t p ≡ true → end ≡ mid ++ p ∷ [] → Adds places end new.0 (take (i + 1) fs)
loaded_next law old new most grows places mid end fs i p t few is all standing put =
    let more : take i fs ++ t ∷ [] ≡ take (i + 1) fs = ap (λ u. take i fs ++ u ∷ []) is ∙ sym (take_more fs i t few) in
    subst (λ (ts : List Term). Adds places end new.0 ts) more
    (adds_on places mid end new.0 (take i fs) (t ∷ []) (adds_last law old new most grows places mid (take i fs) all) (p ∷ [], put, (standing, tt)))

-- A sequent is loaded.
pub loaded : StandingLasts → (old new : Store) (most : ℕ) → Grows old new most → (none places : List ℕ) → none ≡ [] → (s : Sequent) (hs : List Term) → hs ≡ s.hyps → Adds none places old.0 hs → (r : Option ℕ) →
    IfSome r (λ at. stands new.0 s.goal at ≡ true) → IfSome r (λ goal. StandsIn new.0 places goal s)
loaded law old new most grows none places e s hs is all None h = tt
loaded law old new most grows none places e s hs is all (Some at) h =
    let same : all.0 ≡ places = ap (λ (ns : List ℕ). ns ++ all.0) (sym e) ∙ sym all.1 in
    let standing : AllStand new.0 hs places = subst (λ (ps : List ℕ). AllStand new.0 hs ps) same (grown_all law old new most grows hs all.0 all.2) in
    record { hyps_stand = subst (λ (ts : List Term). AllStand new.0 ts places) is standing; goal_stands = h }
