-- How many nodes a path holds while it grows.
use Rattle.std.proofs.Common.{◌≡◌, ◌∙◌, sym, ap, refl, subst, ℕ, zero, suc, ◌+◌, ◌-◌, ◌*◌, ◌^◌, ◌<◌, ◌≤◌, ◌⊎◌, inl, inr, List, [], ◌∷◌, length, take, drop, get_or, Option, Some, None, IfNone, length-append, length-drop, length-take, arith}
use Rattle.std.specs.List.{sum_by}
use Rattle.std.proofs.lemmas.List.Sums.{sum_by_more, sum_by_more_le}
use Rattle.math_terms.specs.declared.term.Term.{Term}
use Rattle.math_terms.specs.Terms.{nodes}
use Rattle.term_cells.specs.declared.cell.Cell.{Cell}
use Rattle.term_cells.specs.Growing.{Grows, IsShort, Store}
use Rattle.vc_sequents.specs.declared.sequent.Sequent.{Sequent}
use Rattle.vc_sequents.specs.Splitting.{GoalCase, in_place, with_case, with_goal_case}
use Rattle.cert_check.specs.declared.cases.Case.{Case}
use Rattle.cert_check.specs.declared.cases.Part.{Part}
use Rattle.cert_check.specs.declared.path.Path.{Path}
use Rattle.cert_check.specs.working.Cases.{FormulasAre, GoalIs, PartIs, made}
use Rattle.cert_check.specs.working.Children.{ChildIs}
use Rattle.cert_check.specs.Need.{sequent_nodes}
use Rattle.term_cells.specs.Placed.{AllStand}
use Rattle.cert_check.specs.working.Path.{Puts}
use Rattle.cert_check.specs.working.Room.{Holds, Takes}
use Rattle.cert_check.proofs.Counts.{case_total, counted, goal_case_total, in_place_total, part_made, some_node, stand_counted}

abbrev places_of : List ℕ × ℕ → List ℕ
places_of s = s.0

abbrev room_of : List ℕ × ℕ → ℕ
room_of s = s.1

-- There is no room for so many nodes more.
abbrev pub Lacks : Path → ℕ → Type 0
Lacks p more = (n : ℕ) → Holds p n → p.sheet < n + more

module _ (p : Path) (n : ℕ) (h : Holds p n) where
  holds_more : (q : Path) (k more : ℕ) → Grows p.cells q.cells k → k ≤ 2 * more + 1 → q.places.1 ≡ p.places.1 → length q.places.0 ≤ length p.places.0 + more → q.sheet ≡ p.sheet → Holds q (n + more)
  holds_more q k more grows few same long sheet = record {
    room = record {
      cells = omega (arith, grows.room, h.room.cells);
      places = omega (arith, h.room.places);
      few = omega (arith, h.room.few);
    };
    cells = omega (arith, ap length grows.held, length-append p.cells.0 grows.more, grows.few, h.cells);
    places = omega (arith, h.places);
  }

pub takes_as : {A : Type 0} (p q : Path) (a b : ℕ) (r : Option A) → a ≡ b → Takes p q a r → Takes p q b r
takes_as {A} p q a b r e f = let P : ℕ → Type 0 = λ m. Takes {A = A} p q m r in subst P e f

pub takes_none : {A : Type 0} (p q : Path) (a : ℕ) (r : Option A) → r ≡ None → Lacks p a → Takes p q a r
takes_none {A} p q a r e f = let P : Option A → Type 0 = λ o. Takes {A = A} p q a o in subst P (sym e) f

-- where there is no room for a part, there is none for the whole
pub lacks_less : (p : Path) (a b : ℕ) → a ≤ b → Lacks p a → Lacks p b
lacks_less p a b le f n h = omega (arith, f n h)

pub takes_more : {A B : Type 0} (p q : Path) (a b : ℕ) (x : A) (y : B) → a ≤ b → Takes p q a (Some x) → Takes p q b (Some y)
takes_more p q a b x y le f n h =
    let held = f n h in
    record { room = held.room; cells = omega (arith, held.cells); places = omega (arith, held.places) }

pub lacks_then : {A : Type 0} (p m : Path) (a b : ℕ) (x : A) → m.sheet ≡ p.sheet → Takes p m a (Some x) → Lacks m b → Lacks p (a + b)
lacks_then p m a b x same f g n h = omega (arith, g (n + a) (f n h))

pub takes_then : {A B : Type 0} (p m q : Path) (a b : ℕ) (x : A) (r : Option B) → m.sheet ≡ p.sheet → Takes p m a (Some x) → Takes m q b r → Takes p q (a + b) r
takes_then p m q a b x None same f g = lacks_then p m a b x same f g
takes_then p m q a b x (Some y) same f g =
    λ n h. let P : ℕ → Type 0 = λ k. Holds q k in
    let sum : n + a + b ≡ n + (a + b) = omega arith in
    subst P sum (g (n + a) (f n h))

-- places come last
pub lacks_places : (p : Path) (k more : ℕ) → p.places.1 < length p.places.0 + k → k ≤ more → Lacks p more
lacks_places p k more short few n h = omega (arith, h.room.places, h.places)

pub takes_places : {A : Type 0} (p q : Path) (ps : List ℕ) (more : ℕ) (r : Option A) → q.cells ≡ p.cells → q.sheet ≡ p.sheet → Puts p.places q.places ps r → length ps ≤ more → Takes p q more r
takes_places p q ps more None cells sheet put few = lacks_places p (length ps) more put.0 few
takes_places p q ps more (Some x) cells sheet put few = λ n h. record {
  room = record {
    cells = ap (λ (s : Store). s.1) cells ∙ h.room.cells ∙ ap (λ (k : ℕ). 2 * k) (sym sheet);
    places = ap room_of put ∙ h.room.places ∙ sym sheet;
    few = omega (arith, h.room.few);
  };
  cells = omega (arith, h.cells, ap (λ (s : Store). length s.0) cells);
  places = omega (arith, h.places, ap (λ s. length (places_of s)) put, length-append p.places.0 ps);
}

-- a formula is made
module _ (p : Path) (x : Part) (t : Term) (part : PartIs p.cells.0 x t) where
  pub lacks_cells : IsShort p.cells (made x + 1) → Lacks p (nodes t)
  lacks_cells short = λ n h.
      let cells = h.room.cells in
      let least = h.room.few in
      let held = h.cells in
      let few = part_made p.cells.0 x t part in
      elim short [ inl a ↦ omega arith | inr b ↦ omega arith ]

  pub takes_cells : {A : Type 0} (q : Path) (r : Option A) → Grows p.cells q.cells (made x + 1) → IfNone r (IsShort p.cells (made x + 1)) → q.places ≡ p.places → q.sheet ≡ p.sheet → Takes p q (nodes t) r
  takes_cells q None grows short places sheet = lacks_cells short
  takes_cells q (Some y) grows short places sheet = λ n h.
      holds_more p n h q (made x + 1) (nodes t) grows (omega (arith, part_made p.cells.0 x t part)) (ap room_of places) (omega (arith, ap (λ s. length (places_of s)) places)) sheet

  -- and its place comes last
  pub takes_part : {A : Type 0} (q : Path) (at : ℕ) (r : Option A) → Grows p.cells q.cells (made x + 1) → q.sheet ≡ p.sheet → Puts p.places q.places (at ∷ []) r → Takes p q (nodes t) r
  takes_part q at None grows sheet put = lacks_places p 1 (nodes t) put.0 (some_node t)
  takes_part q at (Some y) grows sheet put = λ n h.
      holds_more p n h q (made x + 1) (nodes t) grows (omega (arith, part_made p.cells.0 x t part)) (ap room_of put)
      (omega (arith, ap (λ s. length (places_of s)) put, length-append p.places.0 (at ∷ []), some_node t)) sheet

-- a formula is loaded, for which there are two cells a node
module _ (p : Path) (t : Term) where
  pub lacks_load : ((p.cells.1 < length p.cells.0 + 2 * nodes t) ⊎ (2 ^ 32 - 1 ≤ length p.cells.0 + 2 * nodes t)) → Lacks p (nodes t)
  lacks_load short = λ n h.
      let cells = h.room.cells in
      let least = h.room.few in
      let held = h.cells in
      elim short [ inl a ↦ omega arith | inr b ↦ omega arith ]

  pub takes_load_push : {A : Type 0} (q : Path) (at : ℕ) (r : Option A) → Grows p.cells q.cells (2 * nodes t + 1) → q.sheet ≡ p.sheet → Puts p.places q.places (at ∷ []) r → Takes p q (nodes t) r
  takes_load_push q at None grows sheet put = lacks_places p 1 (nodes t) put.0 (some_node t)
  takes_load_push q at (Some y) grows sheet put = λ n h.
      holds_more p n h q (2 * nodes t + 1) (nodes t) grows (omega arith) (ap room_of put)
      (omega (arith, ap (λ s. length (places_of s)) put, length-append p.places.0 (at ∷ []), some_node t)) sheet

-- Formulas are loaded one after another.
module _ {A : Type 0} (p m : Path) (fs : List Term) (i : ℕ) (f : Term) (x : A) (few : i < length fs) (is : f ≡ get_or fs i f) (same : m.sheet ≡ p.sheet) (held : Takes p m (sum_by nodes (take i fs)) (Some x)) where
  pub loaded_short : Lacks m (nodes f) → Lacks p (sum_by nodes fs)
  loaded_short g =
      lacks_less p (sum_by nodes (take i fs) + nodes f) (sum_by nodes fs) (omega (arith, sum_by_more_le nodes fs i f few, ap nodes is))
      (lacks_then p m (sum_by nodes (take i fs)) (nodes f) x same held g)

  pub loaded_more : {B : Type 0} (q : Path) (y : B) → Takes m q (nodes f) (Some y) → Takes p q (sum_by nodes (take (i + 1) fs)) (Some y)
  loaded_more q y g =
      takes_as p q (sum_by nodes (take i fs) + nodes f) (sum_by nodes (take (i + 1) fs)) (Some y) (omega (arith, sum_by_more nodes fs i f few, ap nodes is))
      (takes_then p m q (sum_by nodes (take i fs)) (nodes f) x (Some y) same held g)

-- The hypotheses come once more, with the formulas of a case in the place of one.
module _ (p : Path) (start k at held : ℕ) (is : at ≡ start + k) (count : held ≡ length p.places.0) (hs : List Term) (all : AllStand p.cells.0 hs (drop start p.places.0)) (few : k < length hs) where
  long : start + length hs ≡ held
  long = omega (arith, stand_counted p.cells.0 hs (drop start p.places.0) all, length-drop start p.places.0)

  pub within_held : at < held
  within_held = omega (arith, long)

  front_counted : length (take (at - start) (drop start p.places.0)) ≤ sum_by nodes (take k hs)
  front_counted = omega (arith, length-take (at - start) (drop start p.places.0), length-take k hs, counted (take k hs))

  pub takes_front : {A : Type 0} (q : Path) (r : Option A) → q.cells ≡ p.cells → q.sheet ≡ p.sheet → Puts p.places q.places (take (at - start) (drop start p.places.0)) r → Takes p q (sum_by nodes (take k hs)) r
  takes_front q r cells sheet put = takes_places p q (take (at - start) (drop start p.places.0)) (sum_by nodes (take k hs)) r cells sheet put front_counted

  pub front_lacks : p.places.1 < length p.places.0 + length (take (at - start) (drop start p.places.0)) → Lacks p (sum_by nodes (take k hs))
  front_lacks short = lacks_places p (length (take (at - start) (drop start p.places.0))) (sum_by nodes (take k hs)) short front_counted

  module _ (ts : List Term) where
    pub front_short : Lacks p (sum_by nodes (take k hs)) → Lacks p (sum_by nodes (in_place k ts hs))
    front_short f = lacks_less p (sum_by nodes (take k hs)) (sum_by nodes (in_place k ts hs)) (omega (arith, in_place_total ts k hs few)) f

    module _ {A : Type 0} (m : Path) (x : A) (same : m.sheet ≡ p.sheet) (f : Takes p m (sum_by nodes (take k hs)) (Some x)) where
      pub case_short : Lacks m (sum_by nodes ts) → Lacks p (sum_by nodes (in_place k ts hs))
      case_short g =
          lacks_less p (sum_by nodes (take k hs) + sum_by nodes ts) (sum_by nodes (in_place k ts hs)) (omega (arith, in_place_total ts k hs few))
          (lacks_then p m (sum_by nodes (take k hs)) (sum_by nodes ts) x same f g)

      back_counted : (ps : List ℕ) → length (take (held - (at + 1)) ps) ≤ sum_by nodes (drop (suc k) hs)
      back_counted ps = omega (arith, long, length-take (held - (at + 1)) ps, length-drop (suc k) hs, counted (drop (suc k) hs))

      pub hypothesis_taken : {B C : Type 0} (e q : Path) (y : B) (r : Option C) → e.sheet ≡ m.sheet → Takes m e (sum_by nodes ts) (Some y) → q.cells ≡ e.cells → q.sheet ≡ e.sheet →
          Puts e.places q.places (take (held - (at + 1)) (drop (at + 1) e.places.0)) r → Takes p q (sum_by nodes (in_place k ts hs)) r
      hypothesis_taken e q y r next g cells sheet put =
          let a = sum_by nodes (take k hs) in
          let b = sum_by nodes ts in
          let c = sum_by nodes (drop (suc k) hs) in
          takes_as p q (a + b + c) (sum_by nodes (in_place k ts hs)) r (in_place_total ts k hs few)
          (takes_then p e q (a + b) c y r (next ∙ same) (takes_then p m e a b x (Some y) same f g)
          (takes_places e q (take (held - (at + 1)) (drop (at + 1) e.places.0)) c r cells sheet put (back_counted (drop (at + 1) e.places.0))))

-- The hypotheses come once more, and a goal is made.
module _ (p : Path) (start held : ℕ) (count : held ≡ length p.places.0) (s : Sequent) (all : AllStand p.cells.0 s.hyps (drop start p.places.0)) where
  again_counted : length (take (held - start) (drop start p.places.0)) ≤ sum_by nodes s.hyps
  again_counted = omega (arith, length-take (held - start) (drop start p.places.0), stand_counted p.cells.0 s.hyps (drop start p.places.0) all, counted s.hyps)

  pub takes_again : {A : Type 0} (q : Path) (r : Option A) → q.cells ≡ p.cells → q.sheet ≡ p.sheet → Puts p.places q.places (take (held - start) (drop start p.places.0)) r → Takes p q (sum_by nodes s.hyps) r
  takes_again q r cells sheet put = takes_places p q (take (held - start) (drop start p.places.0)) (sum_by nodes s.hyps) r cells sheet put again_counted

  pub again_lacks : p.places.1 < length p.places.0 + length (take (held - start) (drop start p.places.0)) → Lacks p (sum_by nodes s.hyps)
  again_lacks short = lacks_places p (length (take (held - start) (drop start p.places.0))) (sum_by nodes s.hyps) short again_counted

  pub again_short : (g : GoalCase) → Lacks p (sum_by nodes s.hyps) → Lacks p (sequent_nodes (with_goal_case s g))
  again_short g f = lacks_less p (sum_by nodes s.hyps) (sequent_nodes (with_goal_case s g)) (omega (arith, goal_case_total s g)) f

  pub goal_taken : {A B : Type 0} (m q : Path) (g : GoalCase) (x : A) (r : Option B) → m.sheet ≡ p.sheet → Takes p m (sum_by nodes s.hyps) (Some x) → Takes m q (sum_by nodes g.0 + nodes g.1) r →
      Takes p q (sequent_nodes (with_goal_case s g)) r
  goal_taken m q g x r same f h =
      takes_as p q (sum_by nodes s.hyps + (sum_by nodes g.0 + nodes g.1)) (sequent_nodes (with_goal_case s g)) r (goal_case_total s g)
      (takes_then p m q (sum_by nodes s.hyps) (sum_by nodes g.0 + nodes g.1) x r same f h)

-- The sequent of a case is made.
module _ (p q : Path) (cells : List Cell) (s : Sequent) (c : Case) (child : Sequent) where
  pub goal_child : {A : Type 0} (k : ℕ) → k ≡ 0 → ChildIs cells k s c child → (r : Option A) → ((g : GoalCase) → GoalIs cells c g → Takes p q (sequent_nodes (with_goal_case s g)) r) → Takes p q (sequent_nodes child) r
  goal_child zero e h r f = takes_as p q (sequent_nodes (with_goal_case s h.0)) (sequent_nodes child) r (ap sequent_nodes (sym h.2)) (f h.0 h.1)
  goal_child (suc k) e h r f = absurd (omega arith)

  larger : (k i : ℕ) → i ≡ k → (ts : List Term) → child ≡ with_case s k ts → sum_by nodes (in_place i ts s.hyps) ≤ sequent_nodes child
  larger k i e ts is = omega (arith, case_total s i ts, ap sequent_nodes is, ap (λ (j : ℕ). sequent_nodes (with_case s j ts)) e)

  pub hypothesis_lacks : (k i : ℕ) → (k ≡ 0 → ⊥) → i ≡ k - 1 → ChildIs cells k s c child →
      ((ts : List Term) → i < length s.hyps → FormulasAre cells c ts → Lacks p (sum_by nodes (in_place i ts s.hyps))) → Lacks p (sequent_nodes child)
  hypothesis_lacks zero i some e h f = absurd (some refl)
  hypothesis_lacks (suc k) i some e h f =
      lacks_less p (sum_by nodes (in_place i h.0 s.hyps)) (sequent_nodes child) (larger k i (omega arith) h.0 h.2) (f h.0 (omega (arith, h.3)) h.1)

  pub hypothesis_child : {A B : Type 0} (x : A) (y : B) (k i : ℕ) → (k ≡ 0 → ⊥) → i ≡ k - 1 → ChildIs cells k s c child →
      ((ts : List Term) → i < length s.hyps → FormulasAre cells c ts → Takes p q (sum_by nodes (in_place i ts s.hyps)) (Some x)) → Takes p q (sequent_nodes child) (Some y)
  hypothesis_child x y zero i some e h f = absurd (some refl)
  hypothesis_child x y (suc k) i some e h f =
      takes_more p q (sum_by nodes (in_place i h.0 s.hyps)) (sequent_nodes child) x y (larger k i (omega arith) h.0 h.2) (f h.0 (omega (arith, h.3)) h.1)
