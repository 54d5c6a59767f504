-- Nesting that is no deeper than other nesting stays so, whatever action is done.
use Rattle.std.proofs.Common.{ℕ, ◌+◌, ◌-◌, ◌≤◌, ◌==◌, if◌then◌else◌, max, Bool, true, false, List, [], ◌∷◌, arith}
use Rattle.std.proofs.Math.Nat.{le-max_left, le-max_right, max-le, le-min, min-le_left, min-le_right}
use Rattle.res_grammar.specs.Nesting.{begun, entered, finished, first_or_0, nesting_act, operands_met, operator_met, others, raised}
use Rattle.res_grammar.specs.Numbers.{begin_mark, finish_mark, enter_mark, leave_mark, operator_mark, operated_mark}
use Rattle.res_grammar.specs.declared.nesting.Nesting.{Nesting}
use Rattle.round_trip.proofs.Steady.{did_steady}

abbrev pub AllBelow : List ℕ → List ℕ → Type 0
AllBelow [] ys = Unit {0}
AllBelow (x ∷ xs) [] = ⊥
AllBelow (x ∷ xs) (y ∷ ys) = (x ≤ y) × AllBelow xs ys

-- Nothing of the first is deeper than in the second, and where the first stands is no deeper than what it knows.
pub record Below (a b : Nesting) : Type 0 where
  pub depth : a.depth ≤ b.depth
  pub deep : a.deep ≤ b.deep
  pub deepest : a.deepest ≤ b.deepest
  pub saved : AllBelow a.saved b.saved
  pub sound : a.depth ≤ a.deep
  pub within : a.depth ≤ a.deepest

-- ---- the parts of it

trans : {a b c : ℕ} → a ≤ b → b ≤ c → a ≤ c
trans l k = omega (arith, l, k)

raised_below : {a b : ℕ} → a ≤ b → raised a ≤ raised b
raised_below {a} {b} l = le-min (trans (min-le_left (a + 1) 201) (let f : a + 1 ≤ b + 1 = omega (arith, l) in f)) (min-le_right (a + 1) 201)

max_below : {a b c d : ℕ} → a ≤ c → b ≤ d → max a b ≤ max c d
max_below {a} {b} {c} {d} l k = max-le (trans l (le-max_left c d)) (trans k (le-max_right c d))

first_below : (xs ys : List ℕ) → AllBelow xs ys → first_or_0 xs ≤ first_or_0 ys
first_below [] ys h = omega arith
first_below (x ∷ xs) [] h = absurd h
first_below (x ∷ xs) (y ∷ ys) h = h.0

others_below : (xs ys : List ℕ) → AllBelow xs ys → AllBelow (others xs) (others ys)
others_below [] ys h = tt
others_below (x ∷ xs) [] h = absurd h
others_below (x ∷ xs) (y ∷ ys) h = h.1

-- ---- the actions

entered_below : (a b : Nesting) → Below a b → Below (entered a) (entered b)
entered_below a b h = record {
  depth = raised_below h.depth;
  deep = max_below h.deep (raised_below h.depth);
  deepest = max_below h.deepest (raised_below h.depth);
  saved = h.saved;
  sound = le-max_right a.deep (raised a.depth);
  within = le-max_right a.deepest (raised a.depth);
}

abbrev left : Nesting → Nesting
left s = record s { depth = s.depth - 1 }

left_below : (a b : Nesting) → Below a b → Below (left a) (left b)
left_below a b h =
    let l : a.depth ≤ b.depth = h.depth in
    let k : a.depth ≤ a.deep = h.sound in
    let w : a.depth ≤ a.deepest = h.within in
    record { depth = omega (arith, l); deep = h.deep; deepest = h.deepest; saved = h.saved; sound = omega (arith, k); within = omega (arith, w) }

begun_below : (a b : Nesting) → Below a b → Below (begun a) (begun b)
begun_below a b h = record { depth = h.depth; deep = h.depth; deepest = h.deepest; saved = (h.deep, h.saved); sound = omega arith; within = h.within }

finished_below : (a b : Nesting) → Below a b → Below (finished a) (finished b)
finished_below a b h = record {
  depth = h.depth;
  deep = max_below (first_below a.saved b.saved h.saved) h.deep;
  deepest = h.deepest;
  saved = others_below a.saved b.saved h.saved;
  sound = trans h.sound (le-max_right (first_or_0 a.saved) a.deep);
  within = h.within;
}

operator_below : (a b : Nesting) → Below a b → Below (operator_met a) (operator_met b)
operator_below a b h = record {
  depth = raised_below h.depth;
  deep = raised_below h.depth;
  deepest = max_below h.deepest (raised_below h.deep);
  saved = (raised_below h.deep, h.saved);
  sound = omega arith;
  within = trans (raised_below h.sound) (le-max_right a.deepest (raised a.deep));
}

operands_below : (a b : Nesting) → Below a b → Below (operands_met a) (operands_met b)
operands_below a b h =
    let l : a.depth ≤ b.depth = h.depth in
    let w : a.depth ≤ a.deepest = h.within in
    let k : a.depth ≤ max (first_or_0 a.saved) a.deep = trans h.sound (le-max_right (first_or_0 a.saved) a.deep) in
    record {
      depth = omega (arith, l);
      deep = max_below (first_below a.saved b.saved h.saved) h.deep;
      deepest = h.deepest;
      saved = others_below a.saved b.saved h.saved;
      sound = trans (let f : a.depth - 1 ≤ a.depth = omega arith in f) k;
      within = omega (arith, w);
    }

choose_below : (c : Bool) {x y v w : Nesting} → Below x y → Below v w → Below (if c then x else v) (if c then y else w)
choose_below true h k = h
choose_below false h k = k

pub act_below : (m : ℕ) (a b : Nesting) → Below a b → Below (nesting_act m a) (nesting_act m b)
act_below m a b h =
    choose_below (m == enter_mark) (entered_below a b h)
    (choose_below (m == leave_mark) (left_below a b h)
    (choose_below (m == begin_mark) (begun_below a b h)
    (choose_below (m == finish_mark) (finished_below a b h)
    (choose_below (m == operator_mark) (operator_below a b h)
    (choose_below (m == operated_mark) (operands_below a b h) h)))))

pub act_rises : (m : ℕ) (d : Nesting) → d.deepest ≤ (nesting_act m d).deepest
act_rises m d = (did_steady m).grows d
