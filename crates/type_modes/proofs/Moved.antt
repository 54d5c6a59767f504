-- The arguments of a call, one after the other.
use Rattle.std.proofs.Common.{◌≡◌, ◌∙◌, ℕ, zero, suc, ◌+◌, ◌<◌, ◌≤◌, Bool, true, false, cond, ◌||◌, List, [], ◌∷◌, ◌++◌, length, map, take, drop, get_or, Option, None, Some, is_some, not, ◌&&◌, option_map, slice_get, unwrap_or, refl, ap, sym, append_assoc, append-nil, not-suc-le-zero, le_of_suc-le-suc, arith}
use Rattle.std.proofs.Math.Seq.{drop-nil}
use Rattle.std.specs.List.{flat_map, list_any, zip}
use Rattle.std.specs.Option.{option_map_or}
use Rattle.std.proofs.lemmas.List.{at_drop_all, map-append}
use Rattle.std.proofs.lemmas.List.Folds.{list_any-append}
use Rattle.std.proofs.lemmas.List.Sums.{fold-append}
use Rattle.std.proofs.lemmas.Option.{slice_get-map, slice_get_read}
use Rattle.std.proofs.lemmas.Slice.Zip.{length-zip}
use Rattle.type_rules.specs.declared.error.ModeError.{ModeError}
use Rattle.type_rules.specs.declared.error.ModeError.TheVariants.{Mode as OfMode, OfType, Repeated}
use Rattle.type_rules.specs.Breaches.{least_of, lesser, refuse}
use Rattle.type_rules.specs.Headings.{is_evaluates}
use Rattle.type_rules.specs.Origins.{differ}
use Rattle.type_modes.specs.Calls.{Look, Param, argument, each, held, may_move, moved, overlapping}
use Rattle.type_modes.specs.Places.{Body, Spot, at, overlap}
use Rattle.type_modes.specs.working.Found.{each_at, moved_at, moved_by, overlap_at, overlaps_earlier, spot_in}
use Rattle.type_modes.proofs.Lists.{any_map}

-- ---- breaches, one part after the other

pub least_of_append : (o : Option ModeError) (xs ys : List ModeError) → least_of o (xs ++ ys) ≡ least_of (least_of o xs) ys
least_of_append o xs ys = fold-append lesser o xs ys

-- a step of a loop that notes the breaches of one item after the other
pub one_noted : (all : Option ModeError) (before after : Option ModeError) (left own rest : List ModeError)
    → after ≡ least_of before own → left ≡ own ++ rest → least_of before left ≡ all → least_of after rest ≡ all
one_noted all before after left own rest noted is so =
    ap (λ o. least_of o rest) noted ∙ sym (least_of_append before own rest) ∙ ap (least_of before) (sym is) ∙ so

-- what is seen of the argument of a number
pub seen_at : {X Y : Type 0} (f : X → Y) (xs : List X) (k : ℕ) (x : X) → k < length xs → x ≡ get_or xs k x → slice_get (map f xs) k ≡ Some (f x)
seen_at f xs k x below is = slice_get-map f xs k ∙ ap (option_map f) (slice_get_read xs (length xs) k x refl below is)

-- ---- one argument

pub held_none : (b : Body) (a : Look) → a.spot ≡ None → held b a ≡ None
held_none b a is = ap (λ o. option_map_or (at b) o None) is

pub held_some : (b : Body) (a : Look) (s : Spot) → a.spot ≡ Some s → held b a ≡ at b s
held_some b a s is = ap (λ o. option_map_or (at b) o None) is

pub argument_noted : (b : Body) (p : Param) (a : Look) (o m n : Option ModeError) (differs moves : Bool) (place : ℕ)
    → differs ≡ (differ p.1 a.origin && (is_evaluates p.0 || is_some (held b a))) → moves ≡ (not (is_evaluates p.0) && not (may_move p.0 (held b a))) → a.at ≡ place
    → m ≡ least_of o (refuse differs (OfType place)) → n ≡ least_of m (refuse moves (OfMode place)) → n ≡ least_of o (argument b (p, a))
argument_noted b p a o m n differs moves place differs_is moves_is at_is first second =
    second
    ∙ ap (λ l. least_of l (refuse moves (OfMode place))) first
    ∙ sym (least_of_append o (refuse differs (OfType place)) (refuse moves (OfMode place)))
    ∙ ap (λ k. least_of o (refuse differs (OfType k) ++ refuse moves (OfMode k))) (sym at_is)
    ∙ ap (λ d. least_of o (refuse d (OfType a.at) ++ refuse moves (OfMode a.at))) differs_is
    ∙ ap (λ d. least_of o (refuse (differ p.1 a.origin && (is_evaluates p.0 || is_some (held b a))) (OfType a.at) ++ refuse d (OfMode a.at))) moves_is

-- ---- what an argument moves

abbrev pub one : Option Spot → ℕ → List (Spot × ℕ)
one o place = option_map_or (λ (s : Spot). (s, place) ∷ []) o []

one_is : (evaluates : Bool) (o : Option Spot) (place : ℕ) → cond evaluates [] (one o place) ≡ one (spot_in (cond evaluates [] (one o place))) place
one_is true o place = refl
one_is false None place = refl
one_is false (Some s) place = refl

moved_is : (p : Option Param) (a : Look) → moved_by p (Some a) ≡ one (spot_in (moved_by p (Some a))) a.at
moved_is None a = refl
moved_is (Some p) a = one_is (is_evaluates p.0) a.spot a.at

moved_no : (p : Option Param) → moved_by p None ≡ []
moved_no None = refl
moved_no (Some p) = refl

spot_is : (o : Option Spot) (place : ℕ) → spot_in (one o place) ≡ o
spot_is None place = refl
spot_is (Some s) place = refl

module _ (params : List Param) (args : List Look) (k : ℕ) where
  -- the place that an argument moves, where there is a parameter for it
  pub moved_none : slice_get params k ≡ None → moved_at params args k ≡ None
  moved_none absent = ap (λ p. spot_in (moved_by p (slice_get args k))) absent

  pub moved_evaluated : (p : Param) (a : Look) → slice_get params k ≡ Some p → slice_get args k ≡ Some a → is_evaluates p.0 ≡ true → moved_at params args k ≡ None
  moved_evaluated p a is given evaluates =
      ap (λ q. spot_in (moved_by q (slice_get args k))) is
      ∙ ap (λ x. spot_in (moved_by (Some p) x)) given
      ∙ ap (λ e. spot_in (cond e [] (one a.spot a.at))) evaluates

  pub moved_spot : (p : Param) (a : Look) → slice_get params k ≡ Some p → slice_get args k ≡ Some a → is_evaluates p.0 ≡ false → moved_at params args k ≡ a.spot
  moved_spot p a is given moves =
      ap (λ q. spot_in (moved_by q (slice_get args k))) is
      ∙ ap (λ x. spot_in (moved_by (Some p) x)) given
      ∙ ap (λ e. spot_in (cond e [] (one a.spot a.at))) moves
      ∙ spot_is a.spot a.at

-- ---- the places that are moved, one argument after the other

left_suc : (params : List Param) (args : List Look) (k : ℕ)
    → flat_map moved (drop k (zip params args)) ≡ moved_by (slice_get params k) (slice_get args k) ++ flat_map moved (drop (suc k) (zip params args))
left_suc [] args zero = refl
left_suc [] args (suc k) = refl
left_suc (p ∷ ps) [] zero = refl
left_suc (p ∷ ps) [] (suc k) = ap (λ (m : List (Spot × ℕ)). m ++ []) (sym (moved_no (slice_get ps k)))
left_suc (p ∷ ps) (a ∷ rest) zero = refl
left_suc (p ∷ ps) (a ∷ rest) (suc k) = left_suc ps rest k

front_suc : (params : List Param) (args : List Look) (k : ℕ)
    → flat_map moved (take (suc k) (zip params args)) ≡ flat_map moved (take k (zip params args)) ++ moved_by (slice_get params k) (slice_get args k)
front_suc [] args zero = refl
front_suc [] args (suc k) = refl
front_suc (p ∷ ps) [] zero = refl
front_suc (p ∷ ps) [] (suc k) = sym (moved_no (slice_get ps k))
front_suc (p ∷ ps) (a ∷ rest) zero = append-nil (moved (p, a))
front_suc (p ∷ ps) (a ∷ rest) (suc k) =
    ap (λ m. moved (p, a) ++ m) (front_suc ps rest k)
    ∙ sym (append_assoc (moved (p, a)) (flat_map moved (take k (zip ps rest))) (moved_by (slice_get ps k) (slice_get rest k)))

abbrev pub front : List Param → List Look → ℕ → List (Spot × ℕ)
front params args k = flat_map moved (take k (zip params args))

abbrev pub left : List Param → List Look → ℕ → List (Spot × ℕ)
left params args k = flat_map moved (drop k (zip params args))

-- what is noted of those from a number on
abbrev pub overlapping_from : List Param → List Look → ℕ → List ModeError
overlapping_from params args k = overlapping (map (λ (m : Spot × ℕ). m.0) (front params args k)) (left params args k)

one_overlapping : (o : Option Spot) (place : ℕ) (before after : List (Spot × ℕ))
    → overlapping (map (λ (m : Spot × ℕ). m.0) before) (one o place ++ after)
    ≡ option_map_or (λ (s : Spot). refuse (list_any (λ (m : Spot × ℕ). overlap s m.0) before) (Repeated place)) o []
    ++ overlapping (map (λ (m : Spot × ℕ). m.0) (before ++ one o place)) after
one_overlapping None place before after = ap (λ bs. overlapping (map (λ (m : Spot × ℕ). m.0) bs) after) (sym (append-nil before))
one_overlapping (Some s) place before after =
    ap (λ b. refuse b (Repeated place) ++ overlapping (map (λ (m : Spot × ℕ). m.0) before ++ s ∷ []) after) (any_map (overlap s) (λ (m : Spot × ℕ). m.0) before)
    ∙ ap (λ bs. refuse (list_any (λ (m : Spot × ℕ). overlap s m.0) before) (Repeated place) ++ overlapping bs after) (sym (map-append (λ (m : Spot × ℕ). m.0) before ((s, place) ∷ [])))

module _ (params : List Param) (args : List Look) (k : ℕ) where
  left_more : left params args k ≡ moved_by (slice_get params k) (slice_get args k) ++ left params args (k + 1)
  left_more =
      let on : suc k ≡ k + 1 = omega arith in
      left_suc params args k ∙ ap (λ n. moved_by (slice_get params k) (slice_get args k) ++ left params args n) on

  pub front_more : front params args (k + 1) ≡ front params args k ++ moved_by (slice_get params k) (slice_get args k)
  front_more =
      let on : k + 1 ≡ suc k = omega arith in
      ap (front params args) on ∙ front_suc params args k

  pub overlapping_more : (a : Look) → slice_get args k ≡ Some a → overlapping_from params args k ≡ overlap_at params args k a.at ++ overlapping_from params args (k + 1)
  overlapping_more a given =
      let p = slice_get params k in
      let is_one : moved_by p (slice_get args k) ≡ one (moved_at params args k) a.at =
      ap (moved_by p) given ∙ moved_is p a ∙ ap (λ x. one (spot_in (moved_by p x)) a.at) (sym given) in
      ap (overlapping (map (λ (m : Spot × ℕ). m.0) (front params args k))) (left_more ∙ ap (λ m. m ++ left params args (k + 1)) is_one)
      ∙ one_overlapping (moved_at params args k) a.at (front params args k) (left params args (k + 1))
      ∙ ap (λ m. overlap_at params args k a.at ++ overlapping (map (λ (m : Spot × ℕ). m.0) m) (left params args (k + 1)))
      (ap (λ m. front params args k ++ m) (sym is_one) ∙ sym front_more)

  pub overlapping_ended : length args ≤ k → overlapping_from params args k ≡ []
  overlapping_ended past =
      let long = length-zip params args in
      ap (overlapping (map (λ (m : Spot × ℕ). m.0) (front params args k))) (at_drop_all (flat_map moved) (zip params args) k (omega (arith, past, long)))

-- ---- an earlier argument that overlaps

any_one : (o : Option Spot) (place : ℕ) (s : Spot) → list_any (λ (m : Spot × ℕ). overlap s m.0) (one o place) ≡ option_map_or (overlap s) o false
any_one None place s = refl
any_one (Some t) place s = elim (overlap s t) as (λ b. (b || false) ≡ b) [ true ↦ refl | false ↦ refl ]

any_moved : (p : Option Param) (a : Option Look) (s : Spot) → list_any (λ (m : Spot × ℕ). overlap s m.0) (moved_by p a) ≡ option_map_or (overlap s) (spot_in (moved_by p a)) false
any_moved p None s = ap (λ (m : List (Spot × ℕ)). list_any (λ (n : Spot × ℕ). overlap s n.0) m) (moved_no p) ∙ ap (λ (m : List (Spot × ℕ)). option_map_or (overlap s) (spot_in m) false) (sym (moved_no p))
any_moved p (Some a) s =
    ap (λ (m : List (Spot × ℕ)). list_any (λ (n : Spot × ℕ). overlap s n.0) m) (moved_is p a)
    ∙ any_one (spot_in (moved_by p (Some a))) a.at s

pub earlier_more : (params : List Param) (args : List Look) (k : ℕ) (s : Spot)
    → overlaps_earlier params args (k + 1) s ≡ (overlaps_earlier params args k s || option_map_or (overlap s) (moved_at params args k) false)
earlier_more params args k s =
    ap (λ (m : List (Spot × ℕ)). list_any (λ (n : Spot × ℕ). overlap s n.0) m) (front_more params args k)
    ∙ list_any-append (λ (n : Spot × ℕ). overlap s n.0) (front params args k) (moved_by (slice_get params k) (slice_get args k))
    ∙ ap (λ b. overlaps_earlier params args k s || b) (any_moved (slice_get params k) (slice_get args k) s)

pub still_apart : (params : List Param) (args : List Look) (k : ℕ) (s : Spot)
    → overlaps_earlier params args k s ≡ false → option_map_or (overlap s) (moved_at params args k) false ≡ false → overlaps_earlier params args (k + 1) s ≡ false
still_apart params args k s before here =
    earlier_more params args k s ∙ ap (λ b. b || option_map_or (overlap s) (moved_at params args k) false) before ∙ here

any_longer : {X Y : Type 0} (f : X → List Y) (test : Y → Bool) (xs : List X) (k n : ℕ) → k ≤ n → list_any test (flat_map f (take k xs)) ≡ true → list_any test (flat_map f (take n xs)) ≡ true
any_longer f test xs zero n below passes = absurd (cc)
any_longer f test xs (suc k) zero below passes = absurd (not-suc-le-zero below)
any_longer f test [] (suc k) (suc n) below passes = passes
any_longer f test (x ∷ xs) (suc k) (suc n) below passes =
    let split : (m : ℕ) → list_any test (f x ++ flat_map f (take m xs)) ≡ (list_any test (f x) || list_any test (flat_map f (take m xs))) = λ m. list_any-append test (f x) (flat_map f (take m xs)) in
    split n
    ∙ elim (list_any test (f x)) as (λ b. (b || list_any test (flat_map f (take k xs))) ≡ true → (b || list_any test (flat_map f (take n xs))) ≡ true) [
      | true ↦ λ _. refl
      | false ↦ λ so. any_longer f test xs k n (le_of_suc-le-suc below) so
    ] (sym (split k) ∙ passes)

pub overlaps_by : (params : List Param) (args : List Look) (k n : ℕ) (s t : Spot) → k + 1 ≤ n → moved_at params args k ≡ Some t → overlap s t ≡ true → overlaps_earlier params args n s ≡ true
overlaps_by params args k n s t below is meets =
    any_longer moved (λ (m : Spot × ℕ). overlap s m.0) (zip params args) (k + 1) n below (
    earlier_more params args k s
    ∙ ap (λ o. overlaps_earlier params args k s || option_map_or (overlap s) o false) is
    ∙ ap (λ b. overlaps_earlier params args k s || b) meets
    ∙ elim (overlaps_earlier params args k s) as (λ b. (b || true) ≡ true) [ true ↦ refl | false ↦ refl ])

-- ---- arguments with their parameters, one after the other

same_item : {X : Type 0} (x y : X) → Some x ≡ Some y → x ≡ y
same_item x y is = ap (λ o. unwrap_or o x) is

each_suc : (b : Body) (params : List Param) (args : List Look) (k : ℕ) (a : Look) → slice_get args k ≡ Some a
    → each b (drop k params) (drop k args) ≡ each_at b (slice_get params k) a ++ each b (drop (suc k) params) (drop (suc k) args)
each_suc b params [] k a given = absurd (cc)
each_suc b [] (x ∷ xs) zero a given =
    ap (λ r. r ++ each b [] xs) (sym (append-nil x.breaches))
    ∙ ap (λ y. each_at b None y ++ each b [] xs) (same_item x a given)
each_suc b (p ∷ ps) (x ∷ xs) zero a given =
    ap (λ y. each_at b (Some p) y ++ each b ps xs) (same_item x a given)
each_suc b [] (x ∷ xs) (suc k) a given =
    ap (λ (q : List Param). each b q (drop k xs)) (sym (drop-nil k)) ∙ each_suc b [] xs k a given
each_suc b (p ∷ ps) (x ∷ xs) (suc k) a given = each_suc b ps xs k a given

pub each_more : (b : Body) (params : List Param) (args : List Look) (k : ℕ) (a : Look) → slice_get args k ≡ Some a
    → each b (drop k params) (drop k args) ≡ each_at b (slice_get params k) a ++ each b (drop (k + 1) params) (drop (k + 1) args)
each_more b params args k a given =
    let on : suc k ≡ k + 1 = omega arith in
    each_suc b params args k a given ∙ ap (λ n. each_at b (slice_get params k) a ++ each b (drop n params) (drop n args)) on

pub each_ended : (b : Body) (params : List Param) (args : List Look) (k : ℕ) → length args ≤ k → each b params (drop k args) ≡ []
each_ended b params args k past = at_drop_all (each b params) args k past
