-- The lines of the kept combinations make their rows from the table.
use Rattle.std.proofs.Common.{◌≡◌, ◌∙◌, sym, ap, subst, refl, ℕ, suc, ◌+◌, ◌-◌, ◌<◌, ◌≤◌, ◌==◌, true, false, ◌||◌, List, [], ◌∷◌, ◌++◌, length, reverse, map, get_or, ℤ, pos, Option, Some, None, option_and_then, unwrap_or, ⊎_elim, arith}
use Rattle.std.proofs.lemmas.Bool.{cases_Bool, cases_lt, cases_eq, eq-eqb, eqb-true, false≢true, lt-ltb, le-ltb, or_left, or_right}
use Rattle.std.proofs.lemmas.List.{append_assoc, append-nil, get_or-append-add, get_or_append_left, length-append, length-map, length-reverse, map-append, map_push}
use Rattle.std.proofs.lemmas.List.Folds.{list_any-append}
use Rattle.std.proofs.lemmas.Option.{same_Some, slice_get-get_or}
use Rattle.math_terms.specs.declared.name.Line.{Line}
use Rattle.num_theory.specs.Lines.{ends_in_contradiction, is_contradiction, is_refuted, numbered, refutes, sum_at, sum_by, sum_of, with_lines}
use Rattle.linear_prover.specs.declared.rows_in_hand.Combination.{Combination}
use Rattle.linear_prover.specs.Elimination.{called, is_among, kept, line_of, lines_of, needed_by_last, place_of}
use Rattle.linear_prover.proofs.Making.{AreMade, IsEnding, all_rows, length-rows_after, made_of, row_at, rows_after}
use Rattle.linear_prover.proofs.Marking.{kept_more}
use Rattle.linear_prover.proofs.Placing.{needed_is, numbers}

kept_after : (n : ℕ) (cs : List Combination) (needed : List ℕ) (after : List (ℕ × Combination)) → kept n cs needed after ≡ kept n cs needed [] ++ after
kept_after n [] needed after = refl
kept_after n (c ∷ cs) needed after =
    let g = n + length cs in
    ⊎_elim
    (λ is.
    let more = c.i ∷ c.j ∷ needed in
    kept_more n c cs needed after g true refl is ∙ (kept_after n cs more ((g, c) ∷ after)
    ∙ (sym (append_assoc (kept n cs more []) ((g, c) ∷ []) after)
    ∙ ap (λ ds. ds ++ after) (sym (kept_more n c cs needed [] g true refl is ∙ kept_after n cs more ((g, c) ∷ []))))))
    (λ not_so. kept_more n c cs needed after g false refl not_so ∙ (kept_after n cs needed after ∙ ap (λ ds. ds ++ after) (sym (kept_more n c cs needed [] g false refl not_so))))
    (cases_Bool (is_among needed g))

kept_yes : (n : ℕ) (c : Combination) (cs : List Combination) (needed : List ℕ) → is_among needed (n + length cs) ≡ true →
    kept n (c ∷ cs) needed [] ≡ kept n cs (c.i ∷ c.j ∷ needed) [] ++ (n + length cs, c) ∷ []
kept_yes n c cs needed is = kept_more n c cs needed [] (n + length cs) true refl is ∙ kept_after n cs (c.i ∷ c.j ∷ needed) ((n + length cs, c) ∷ [])

kept_no : (n : ℕ) (c : Combination) (cs : List Combination) (needed : List ℕ) → is_among needed (n + length cs) ≡ false →
    kept n (c ∷ cs) needed [] ≡ kept n cs needed []
kept_no n c cs needed not_so = kept_more n c cs needed [] (n + length cs) false refl not_so

among_push : (ns : List ℕ) (g m : ℕ) → is_among (ns ++ g ∷ []) m ≡ (is_among ns m || ((g == m) || false))
among_push ns g m = list_any-append (λ k. k == m) ns (g ∷ [])

-- what is needed and was made is kept
kept_holds : (n : ℕ) (cs : List Combination) (needed : List ℕ) (m : ℕ) → is_among needed m ≡ true → n ≤ m → m < n + length cs →
    is_among (numbers (kept n cs needed [])) m ≡ true
kept_holds n [] needed m among from to = absurd (omega arith)
kept_holds n (c ∷ cs) needed m among from to =
    let g = n + length cs in
    ⊎_elim
    (λ is.
    let more = c.i ∷ c.j ∷ needed in
    ap (λ ds. is_among (numbers ds) m) (kept_yes n c cs needed is)
    ∙ (ap (λ ns. is_among ns m) (map-append (λ d. d.0) (kept n cs more []) ((g, c) ∷ []))
    ∙ (among_push (numbers (kept n cs more [])) g m
    ∙ ⊎_elim
    (λ here. or_right (is_among (numbers (kept n cs more [])) m) ((g == m) || false) (or_left (g == m) false (eq-eqb g m (sym here))))
    (λ other. or_left (is_among (numbers (kept n cs more [])) m) ((g == m) || false)
    (kept_holds n cs more m (or_right (c.i == m) ((c.j == m) || is_among needed m) (or_right (c.j == m) (is_among needed m) among)) from (omega arith)))
    (cases_eq m g))))
    (λ not_so.
    let other : m < g = ⊎_elim (λ here. absurd (false≢true (sym not_so ∙ (ap (is_among needed) (sym here) ∙ among)))) (λ apart. omega arith) (cases_eq m g) in
    ap (λ ds. is_among (numbers ds) m) (kept_no n c cs needed not_so) ∙ kept_holds n cs needed m among from other)
    (cases_Bool (is_among needed g))

-- the row at the place of a number
place_row : (f : ℕ → List ℤ) (ns tail : List ℕ) (i : ℕ) → is_among ns i ≡ true →
    (place_of i (ns ++ tail) < length ns) × (get_or (map f ns) (place_of i (ns ++ tail)) [] ≡ f i)
place_row f [] tail i among = absurd (false≢true among)
place_row f (m ∷ ms) tail i among =
    ⊎_elim
    (λ here. rw (here) (omega arith, ap f (eqb-true m i here)))
    (λ other.
    let rest = place_row f ms tail i (sym (ap (λ b. b || is_among ms i) other) ∙ among) in
    rw (other) (omega (arith, rest.0), rest.1))
    (cases_Bool (m == i))

-- what a line calls
reads : (table all : List (List ℤ)) (ns tail : List ℕ) (i : ℕ) → (i < length table → row_at all i ≡ row_at table i) → (length table ≤ i → is_among ns i ≡ true) →
    numbered (table ++ map (row_at all) ns) (called (length table) (ns ++ tail) i) ≡ Some (row_at all i)
reads table all ns tail i first among =
    let rows = table ++ map (row_at all) ns in
    ⊎_elim
    (λ low.
    let next : i + 1 ≡ suc i = omega arith in
    let call : called (length table) (ns ++ tail) i ≡ suc i = rw (lt-ltb i (length table) low) next in
    let inside : i < length rows = omega (arith, length-append table (map (row_at all) ns)) in
    ap (numbered rows) call ∙ (slice_get-get_or rows i [] inside ∙ ap Some (get_or_append_left table (map (row_at all) ns) [] i low ∙ sym (first low))))
    (λ high.
    let place = place_of i (ns ++ tail) in
    let at = place_row (row_at all) ns tail i (among high) in
    let next : length table + place + 1 ≡ suc (length table + place) = omega arith in
    let call : called (length table) (ns ++ tail) i ≡ suc (length table + place) = rw (le-ltb i (length table) high) next in
    let inside : length table + place < length rows = omega (arith, at.0, length-append table (map (row_at all) ns), length-map ns (row_at all)) in
    ap (numbered rows) call ∙ (slice_get-get_or rows (length table + place) [] inside ∙ ap Some (get_or-append-add table (map (row_at all) ns) place [] ∙ at.1)))
    (cases_lt i (length table))

pub sum_at_rows : (p q : ℕ) (o r : Option (List ℤ)) (a b : List ℤ) → o ≡ Some a → r ≡ Some b → sum_at (pos p) o (pos q) r ≡ sum_of p a q b
sum_at_rows p q o r a b first second = rw (first, second) refl

and_then_more : {A B : Type 0} (f g : A → Option B) (o : Option A) (x y : B) → ((r : A) → f r ≡ Some x → g r ≡ Some y) → option_and_then f o ≡ Some x → option_and_then g o ≡ Some y
and_then_more f g None x y step h = cc
and_then_more f g (Some r) x y step h = step r h

with_lines_push : (ls : List Line) (l : Line) (table rows : List (List ℤ)) (row : List ℤ) → with_lines ls table ≡ Some rows → sum_by rows l ≡ Some row →
    with_lines (ls ++ l ∷ []) table ≡ Some (rows ++ row ∷ [])
with_lines_push [] l table rows row so_far next =
    let same : table ≡ rows = same_Some table rows so_far in
    let made : sum_by table l ≡ Some row = ap (λ rs. sum_by rs l) same ∙ next in
    ap (option_and_then (λ r. Some (table ++ r ∷ []))) made ∙ ap (λ rs. Some (rs ++ row ∷ [])) same
with_lines_push (x ∷ xs) l table rows row so_far next =
    and_then_more (λ r. with_lines xs (table ++ r ∷ [])) (λ r. with_lines (xs ++ l ∷ []) (table ++ r ∷ [])) (sum_by table x) rows (rows ++ row ∷ [])
    (λ r h. with_lines_push xs l (table ++ r ∷ []) rows row h next) so_far

-- the lines of the kept combinations, however they are called beside others that come after
abbrev pub lines_with : ℕ → List ℕ → List (ℕ × Combination) → List Line
lines_with n ns ds = map (λ d. line_of n ns d.1) ds

replays : (table all : List (List ℤ)) (cs : List Combination) (needed tail : List ℕ) → ((i : ℕ) → i < length table → row_at all i ≡ row_at table i) → AreMade all (length table) cs →
    with_lines (lines_with (length table) (numbers (kept (length table) cs needed []) ++ tail) (kept (length table) cs needed [])) table
    ≡ Some (table ++ map (row_at all) (numbers (kept (length table) cs needed [])))
replays table all [] needed tail first made = ap Some (sym (append-nil table))
replays table all (c ∷ cs) needed tail first made =
    let n = length table in
    let g = n + length cs in
    let P : List (ℕ × Combination) → Type 0 = λ ds. with_lines (lines_with n (numbers ds ++ tail) ds) table ≡ Some (table ++ map (row_at all) (numbers ds)) in
    ⊎_elim
    (λ is.
    let more = c.i ∷ c.j ∷ needed in
    let before = kept n cs more [] in
    let rows = table ++ map (row_at all) (numbers before) in
    let so_far = replays table all cs more (g ∷ tail) first made.1 in
    let first_among : is_among more c.i ≡ true = or_left (c.i == c.i) ((c.j == c.i) || is_among needed c.i) (eq-eqb c.i c.i refl) in
    let second_among : is_among more c.j ≡ true = or_right (c.i == c.j) ((c.j == c.j) || is_among needed c.j) (or_left (c.j == c.j) (is_among needed c.j) (eq-eqb c.j c.j refl)) in
    let first_row = reads table all (numbers before) (g ∷ tail) c.i (first c.i) (λ from. kept_holds n cs more c.i first_among from made.0.first_row) in
    let second_row = reads table all (numbers before) (g ∷ tail) c.j (first c.j) (λ from. kept_holds n cs more c.j second_among from made.0.second_row) in
    let next : sum_by rows (line_of n (numbers before ++ g ∷ tail) c) ≡ Some (row_at all g) =
    sum_at_rows c.p c.q _ _ (row_at all c.i) (row_at all c.j) first_row second_row ∙ made.0.made in
    let whole = with_lines_push (lines_with n (numbers before ++ g ∷ tail) before) (line_of n (numbers before ++ g ∷ tail) c) table rows (row_at all g) so_far next in
    let ns = numbers before ++ g ∷ tail in
    let pushed : numbers (before ++ (g, c) ∷ []) ≡ numbers before ++ g ∷ [] = map_push (λ d. d.0) before (g, c) in
    let names : numbers (before ++ (g, c) ∷ []) ++ tail ≡ ns = ap (λ ms. ms ++ tail) pushed ∙ append_assoc (numbers before) (g ∷ []) tail in
    let lines : lines_with n (numbers (before ++ (g, c) ∷ []) ++ tail) (before ++ (g, c) ∷ []) ≡ lines_with n ns before ++ line_of n ns c ∷ [] =
    ap (λ ms. lines_with n ms (before ++ (g, c) ∷ [])) names ∙ map_push (λ d. line_of n ns d.1) before (g, c) in
    let ends : table ++ map (row_at all) (numbers (before ++ (g, c) ∷ [])) ≡ rows ++ row_at all g ∷ [] =
    ap (λ ms. table ++ map (row_at all) ms) pushed
    ∙ (ap (λ rs. table ++ rs) (map_push (row_at all) (numbers before) g) ∙ sym (append_assoc table (map (row_at all) (numbers before)) (row_at all g ∷ []))) in
    subst P (sym (kept_yes n c cs needed is)) (ap (λ ls. with_lines ls table) lines ∙ (whole ∙ ap Some (sym ends))))
    (λ not_so. subst P (sym (kept_no n c cs needed not_so)) (replays table all cs needed tail first made.1))
    (cases_Bool (is_among needed g))

pub ends_push : (rows : List (List ℤ)) (row : List ℤ) → ends_in_contradiction (rows ++ row ∷ []) ≡ is_contradiction row
ends_push [] row = refl
ends_push (r ∷ []) row = refl
ends_push (r ∷ s ∷ rows) row = ends_push (s ∷ rows) row

first_rows : (table : List (List ℤ)) (cs : List Combination) (i : ℕ) → i < length table → row_at (rows_after table cs) i ≡ row_at table i
first_rows table [] i within = refl
first_rows table (c ∷ cs) i within =
    get_or_append_left (rows_after table cs) (unwrap_or (made_of (rows_after table cs) c) [] ∷ []) [] i (omega (arith, length-rows_after table cs)) ∙ first_rows table cs i within

-- the lines of what the last combination needs refute where it makes a contradiction
ending_refutes : (table all : List (List ℤ)) (c : Combination) (cs : List Combination) → ((i : ℕ) → i < length table → row_at all i ≡ row_at table i) → AreMade all (length table) (c ∷ cs) →
    is_contradiction (row_at all (length table + length cs)) ≡ true →
    refutes table (lines_of (length table) (kept (length table) (c ∷ cs) ((length table + length cs) ∷ []) [])) ≡ true
ending_refutes table all c cs first made ends =
    let n = length table in
    let g = n + length cs in
    let last : is_among (g ∷ []) g ≡ true = or_left (g == g) false (eq-eqb g g refl) in
    let ds = kept n (c ∷ cs) (g ∷ []) [] in
    let before = kept n cs (c.i ∷ c.j ∷ g ∷ []) [] in
    let is : ds ≡ before ++ (g, c) ∷ [] = kept_yes n c cs (g ∷ []) last in
    let replayed = replays table all (c ∷ cs) (g ∷ []) [] first made in
    let lines : lines_of n ds ≡ lines_with n (numbers ds ++ []) ds = ap (λ ns. lines_with n ns ds) (sym (append-nil (numbers ds))) in
    let rows : table ++ map (row_at all) (numbers ds) ≡ (table ++ map (row_at all) (numbers before)) ++ row_at all g ∷ [] =
    ap (λ es. table ++ map (row_at all) (numbers es)) is
    ∙ (ap (λ ms. table ++ map (row_at all) ms) (map_push (λ d. d.0) before (g, c))
    ∙ (ap (λ rs. table ++ rs) (map_push (row_at all) (numbers before) g) ∙ sym (append_assoc table (map (row_at all) (numbers before)) (row_at all g ∷ [])))) in
    ap (refutes table) lines ∙ (ap is_refuted replayed ∙ (ap ends_in_contradiction rows ∙ (ends_push (table ++ map (row_at all) (numbers before)) (row_at all g) ∙ ends)))

-- the same, by what elimination leaves
pub last_refutes : (table : List (List ℤ)) (made : List Combination) → IsEnding table made → refutes table (lines_of (length table) (needed_by_last (length table) made)) ≡ true
last_refutes table made h = at (reverse made) refl (omega (arith, length-reverse made, h.some))
  where
    at : (rs : List Combination) → reverse made ≡ rs → 0 < length rs → refutes table (lines_of (length table) (needed_by_last (length table) made)) ≡ true
    at [] e some = absurd (omega arith)
    at (c ∷ cs) e some =
        let n = length table in
        let all = all_rows table made in
        let short : length made - 1 ≡ length cs = omega (arith, sym (length-reverse made) ∙ ap length e) in
        let counted : length (c ∷ cs) - 1 ≡ length cs = omega arith in
        let needed = needed_is n made (c ∷ cs) e some ∙ ap (λ m. kept n (c ∷ cs) ((n + m) ∷ []) []) counted in
        ap (λ ds. refutes table (lines_of n ds)) needed
        ∙ ending_refutes table all c cs (first_rows table (reverse made)) (subst (AreMade all n) e h.combinations) (ap (λ m. is_contradiction (row_at all (n + m))) (sym short) ∙ h.contradiction)
