-- The code of a formed program does what the program means.
use Rattle.std.proofs.Common.{◌≡◌, ◌≢◌, ℕ, zero, suc, ◌+◌, ◌-◌, ◌*◌, ◌<◌, ◌≤◌, ℤ, List, [], ◌∷◌, ◌++◌, length, map, replicate, Bool, true, ◌&&◌, Option, Some, None, refl, sym, ap, ◌∙◌, subst, ⊎_elim, arith, append_assoc, length-append}
use Rattle.std.specs.Prelude.{IsSomeAnd, slice_get, slice_set, option_and_then}
use Rattle.std.specs.List.{list_all}
use Rattle.std.proofs.Math.Seq.{get_or-append_seam}
use Rattle.std.proofs.lemmas.Bool.{and_parts, cases_lt}
use Rattle.std.proofs.lemmas.List.{append-nil}
use Rattle.std.proofs.lemmas.Option.{slice_get-get_or}
use Rattle.source_meaning.specs.declared.linked.Scalar.{Scalar}
use Rattle.source_meaning.specs.declared.linked.Spot.TheVariants.{Local}
use Rattle.source_meaning.specs.declared.linked.TypeForm.{TypeForm}
use Rattle.source_meaning.specs.declared.linked.TypeForm.TheVariants as form
use Rattle.source_meaning.specs.declared.linked.Proc.{Proc}
use Rattle.source_meaning.specs.declared.linked.Linked.{Linked}
use Rattle.source_meaning.specs.declared.trace.WrongKind.{WrongKind}
use Rattle.source_meaning.specs.declared.trace.End.{End}
use Rattle.source_meaning.specs.declared.trace.End.TheVariants.{Done, Spent, Deep, Wrong}
use Rattle.source_meaning.specs.Meaning.{Store, Run, Going, Over, run_all, initial_of, initial_values, begins, ended, run_of}
use Rattle.source_meaning.specs.Formed.{Kind, kind_of_form, kinds_of, kind_of_scalar, fits, has_kind, IsFormed}
use Rattle.stack_machine.specs.declared.image.Cell.{Cell}
use Rattle.stack_machine.specs.declared.image.Instr.{Instr}
use Rattle.stack_machine.specs.declared.image.Instr.TheVariants as instr
use Rattle.stack_machine.specs.declared.image.Image.{Image}
use Rattle.stack_machine.specs.Machine.{Frame, State, step, after, settled, initial_cell}
use Rattle.stack_machine.specs.Code.{stmt_code, joined, init_code, proc_code, code_of}
use Rattle.stack_machine.specs.Running.{cell_of_scalar}
use Rattle.stack_machine.specs.Simulation.{IsFront, Simulates}
use Rattle.stack_machine.proofs.Going.{go, after_go, halted_stays_lem, after_front}
use Rattle.stack_machine.proofs.Expressions.{HasAt, has_front, has_back, Fit, cells, stands, frame, one, then_one, then_more}
use Rattle.stack_machine.proofs.Patch.{length-init_code}
use Rattle.stack_machine.proofs.Statements.{at, Runs, body_runs}

has_all : (is pre : List Instr) → HasAt (pre ++ is) (length pre) is
has_all [] pre = tt
has_all (i ∷ is) pre =
    let within : length pre < length (pre ++ i ∷ is) = omega (arith, length-append pre (i ∷ is)) in
    let here = slice_get-get_or (pre ++ i ∷ is) (length pre) i within ∙ ap Some (get_or-append_seam pre i is i) in
    let n : length (pre ++ i ∷ []) ≡ length pre + 1 = omega (arith, length-append pre (i ∷ [])) in
    let rest = has_all is (pre ++ i ∷ []) in
    let rest' = subst (λ l. HasAt l (length (pre ++ i ∷ [])) is) (append_assoc pre (i ∷ []) is) rest in
    (here, subst (λ m. HasAt (pre ++ i ∷ is) m is) n rest')

list_all-map : {A : Type 0} (f : A → Bool) (xs : List A) → list_all (λ b. b) (map f xs) ≡ list_all f xs
list_all-map f [] = refl
list_all-map f (x ∷ xs) = ap (λ b. f x && b) (list_all-map f xs)

-- a variable's first value
first_cell : (o : Option TypeForm) → has_kind (kind_of_form o) ≡ true → initial_cell (Some Cell.Hole) o ≡ Some (cell_of_scalar (initial_of o))
first_cell None h = absurd (cc)
first_cell (Some form.Int) h = refl
first_cell (Some form.Bool) h = refl
first_cell (Some (form.Array n t)) h = absurd (cc)
first_cell (Some (form.Record i ts)) h = absurd (cc)

first_kind : (o : Option TypeForm) → has_kind (kind_of_form o) ≡ true → kind_of_form o ≡ Some (kind_of_scalar (initial_of o))
first_kind None h = absurd (cc)
first_kind (Some form.Int) h = refl
first_kind (Some form.Bool) h = refl
first_kind (Some (form.Array n t)) h = absurd (cc)
first_kind (Some (form.Record i ts)) h = absurd (cc)

first_fit : (types : List TypeForm) (ts : List ℕ) → list_all has_kind (kinds_of types ts) ≡ true → Fit (kinds_of types ts) (initial_values types ts)
first_fit types [] h = tt
first_fit types (t ∷ ts) h =
    let both = and_parts (has_kind (kind_of_form (slice_get types t))) (list_all has_kind (kinds_of types ts)) h in
    (first_kind (slice_get types t) both.0, first_fit types ts both.1)

hole_at : (done : List Scalar) (rest : List Cell) → slice_get (cells done ++ Cell.Hole ∷ rest) (length done) ≡ Some Cell.Hole
hole_at [] rest = refl
hole_at (v ∷ done) rest = hole_at done rest

made_at : (done : List Scalar) (rest : List Cell) (c : Cell) → slice_set (cells done ++ Cell.Hole ∷ rest) (length done) c ≡ cells done ++ c ∷ rest
made_at [] rest c = refl
made_at (v ∷ done) rest c = ap (λ l. cell_of_scalar v ∷ l) (made_at done rest c)

cells-append : (a b : List Scalar) → cells (a ++ b) ≡ cells a ++ cells b
cells-append [] b = refl
cells-append (v ∷ a) b = ap (λ l. cell_of_scalar v ∷ l) (cells-append a b)

-- the variables are made one after another
inits : (image : Image) (input : List ℤ) (ts : List ℕ) (done : List Scalar) → list_all has_kind (kinds_of image.types ts) ≡ true → HasAt image.code (length done) (init_code (length done) ts) → go image (stands (length done) (cells done ++ replicate (length ts) Cell.Hole) [] input []) (length ts) ≡ Some (stands (length done + length ts) (cells (done ++ initial_values image.types ts)) [] input [])
inits image input [] done h has =
    let n : length done ≡ length done + 0 = omega arith in
    ap (λ c. Some (stands (length done) c [] input [])) (append-nil (cells done) ∙ ap cells (sym (append-nil done)))
    ∙ ap (λ k. Some (stands k (cells (done ++ [])) [] input [])) n
inits image input (t ∷ ts) done h has =
    let form = slice_get image.types t in
    let both = and_parts (has_kind (kind_of_form form)) (list_all has_kind (kinds_of image.types ts)) h in
    let v = initial_of form in
    let rest = replicate (length ts) Cell.Hole in
    let holes = cells done ++ Cell.Hole ∷ rest in
    let more = done ++ v ∷ [] in
    let len : length more ≡ length done + 1 = omega (arith, length-append done (v ∷ [])) in
    let len' : suc (length done) ≡ length more = omega (arith, length-append done (v ∷ [])) in
    let cell_is : initial_cell (slice_get holes (length done)) form ≡ Some (cell_of_scalar v) = ap (λ c. initial_cell c form) (hole_at done rest) ∙ first_cell form both.0 in
    let locals_are : slice_set holes (length done) (cell_of_scalar v) ≡ cells more ++ rest = made_at done rest (cell_of_scalar v) ∙ sym (append_assoc (cells done) (cell_of_scalar v ∷ []) rest) ∙ ap (λ l. l ++ rest) (sym (cells-append done (v ∷ []))) in
    let f = frame (length done) holes [] in
    let first = one image (length done) holes [] input [] (instr.Init (Local (length done)) t) (stands (length more) (cells more ++ rest) [] input []) has.0
    (ap (settled f [] input [] [] (Local (length done))) cell_is ∙ ap (λ c. Some (stands (length done + 1) c [] input [])) locals_are ∙ ap (λ k. Some (stands k (cells more ++ rest) [] input [])) (sym len)) in
    let H : ℕ → Type 0 = λ k. HasAt image.code k (init_code (suc (length done)) ts) in
    let I : ℕ → Type 0 = λ k. HasAt image.code (length more) (init_code k ts) in
    let there = inits image input ts more both.1 (subst I len' (subst H (sym len) has.1)) in
    let n : suc (length ts) ≡ 1 + length ts = omega arith in
    let to : length more + length ts ≡ length done + suc (length ts) = omega (arith, len) in
    ap (go image (stands (length done) holes [] input [])) n
    ∙ then_more image (stands (length done) holes [] input []) (stands (length more) (cells more ++ rest) [] input []) 1 (length ts) _ first there
    ∙ ap (λ k. Some (stands k (cells (more ++ initial_values image.types ts)) [] input [])) to
    ∙ ap (λ l. Some (stands (length done + suc (length ts)) (cells l) [] input [])) (append_assoc done (v ∷ []) (initial_values image.types ts))

-- a run that is stuck stays so
pub none_stays : (image : Image) (input : List ℤ) (n d : ℕ) → after image input n ≡ None → after image input (n + d) ≡ None
none_stays image input n zero h = let e : n + 0 ≡ n = omega arith in ap (after image input) e ∙ h
none_stays image input n (suc d) h =
    let e : n + suc d ≡ suc (n + d) = omega arith in
    ap (after image input) e ∙ ap (option_and_then (step image)) (none_stays image input n d h)

-- before a state there is one, with a front of its output
front_at : (image : Image) (input : List ℤ) (n m : ℕ) (t : State) (o : Option State) → after image input n ≡ o → n ≤ m → after image input m ≡ Some t → IsSomeAnd o (λ s. IsFront s.output t.output)
front_at image input n m t None e le h =
    let d : n + (m - n) ≡ m = omega arith in
    let none = none_stays image input n (m - n) e in
    let at_m = ap (after image input) d in
    absurd (cc)
front_at image input n m t (Some s) e le h = after_front image input n m s t le e h

-- the same beyond a halted state
front_of : (image : Image) (input : List ℤ) (n m : ℕ) (t : State) → t.frames ≡ [] → after image input m ≡ Some t → IsSomeAnd (after image input n) (λ s. IsFront s.output t.output)
front_of image input n m t halted h =
    ⊎_elim
    (λ lt. front_at image input n m t (after image input n) refl (omega arith) h)
    (λ le. front_at image input n n t (after image input n) refl (omega arith) (halted_stays_lem image input m n t le h halted))
    (cases_lt n m)

from_some : (a b : State) → Some a ≡ Some b → a ≡ b
from_some a b e = cc

-- two halted states of one run are the same
one_end : (image : Image) (input : List ℤ) (m n : ℕ) (a b : State) → a.frames ≡ [] → b.frames ≡ [] → after image input m ≡ Some a → after image input n ≡ Some b → a ≡ b
one_end image input m n a b ha hb ea eb =
    ⊎_elim
    (λ lt. from_some a b (sym (halted_stays_lem image input m n a (omega arith) ea ha) ∙ eb))
    (λ le. from_some a b (sym ea ∙ halted_stays_lem image input n m b le eb hb))
    (cases_lt m n)

abbrev halted : Store → State
halted t = record { frames = []; input = t.input; output = t.output }

-- what a run of the program says of its code
abbrev Follows : Image → List ℤ → ℕ → End × Store → Type 0
Follows image input fuel (Done, t) = (n : ℕ) × (after image input n ≡ Some (halted t))
Follows image input fuel (Spent, t) = (n : ℕ) × (f : Frame) × (i : List ℤ) × (fuel ≤ n) × (after image input n ≡ Some (record { frames = f ∷ []; input = i; output = t.output }))
Follows image input fuel (Deep, t) = ⊥
Follows image input fuel (Wrong w, t) = Unit {0}

-- from where the body begins
follows_from : (image : Image) (kinds : List (Option Kind)) (input : List ℤ) (k to fuel : ℕ) (from : State) (r : Run) → after image input k ≡ Some from → slice_get image.code to ≡ Some instr.Return → Runs image kinds from to fuel r → Follows image input fuel (ended r)
follows_from image kinds input k to fuel from (Going t) e i h =
    (k + (h.by + 1), after_go image input from k (h.by + 1) e ∙ then_one image from h.by to (cells t.locals) [] t.input t.output instr.Return (halted t) h.steps i refl)
follows_from image kinds input k to fuel from (Over Done t) e i h = absurd h
follows_from image kinds input k to fuel from (Over Spent t) e i h =
    (k + h.by, h.frame, h.input, omega (arith, h.paid), after_go image input from k h.by e ∙ h.steps)
follows_from image kinds input k to fuel from (Over Deep t) e i h = h
follows_from image kinds input k to fuel from (Over (Wrong w) t) e i h = tt

-- every run of a formed program
follows : (l : Linked) (p : Proc) (input : List ℤ) (fuel : ℕ) → IsFormed l p → Follows (code_of l p) input fuel (run_of l p input fuel)
follows l p input fuel formed =
    let image = code_of l p in
    let kinds = kinds_of l.types p.locals in
    let n = length p.locals in
    let body = joined (map stmt_code p.body) n in
    let both = and_parts (list_all has_kind kinds) (list_all (fits kinds) p.body) formed.fits in
    let all = has_all (proc_code p) [] in
    let init = init_code 0 p.locals in
    let back = has_back image.code 0 init (body ++ instr.Return ∷ []) all in
    let len : 0 + length init ≡ n = omega (arith, length-init_code 0 p.locals) in
    let H : ℕ → Type 0 = λ k. HasAt image.code k (body ++ instr.Return ∷ []) in
    let has = subst H len back in
    let made = inits image input p.locals [] both.0 (has_front image.code 0 init (body ++ instr.Return ∷ []) all) in
    let zero_n : 0 + n ≡ n = omega arith in
    let s = begins l p input fuel in
    let entered : after image input n ≡ Some (at n s) = ap (after image input) (sym zero_n) ∙ after_go image input (stands 0 (replicate n Cell.Hole) [] input []) 0 n refl ∙ made ∙ ap (λ k. Some (stands k (cells s.locals) [] input [])) zero_n in
    follows_from image kinds input n (n + length body) fuel (at n s) (run_all p.body s) entered
    (has_back image.code n body (instr.Return ∷ []) has).0
    (body_runs image kinds p.body s n (list_all-map (fits kinds) p.body ∙ both.1) (first_fit l.types p.locals both.0) (has_front image.code n body (instr.Return ∷ []) has))

steps_from : (image : Image) (input : List ℤ) (n fuel : ℕ) (x : End × Store) → n ≤ fuel → Follows image input fuel x → ((w : WrongKind) → x.0 ≢ Wrong w) → IsSomeAnd (after image input n) (λ s. IsFront s.output x.1.output)
steps_from image input n fuel (Done, t) le f never = front_of image input n f.0 (halted t) refl f.1
steps_from image input n fuel (Spent, t) le f never = front_at image input n f.0 _ (after image input n) refl (omega (arith, f.3)) f.4
steps_from image input n fuel (Deep, t) le f never = absurd f
steps_from image input n fuel (Wrong w, t) le f never = absurd (never w refl)

-- the program is done with what the halted machine has
abbrev DoneAs : Linked → Proc → List ℤ → State → Type 0
DoneAs l p input s = (fuel : ℕ) × (t : Store) × (run_of l p input fuel ≡ (Done, t)) × (t.input ≡ s.input) × (t.output ≡ s.output)

only_from : (l : Linked) (p : Proc) (input : List ℤ) (n fuel : ℕ) (s : State) (x : End × Store) → n < fuel → run_of l p input fuel ≡ x → Follows (code_of l p) input fuel x → ((w : WrongKind) → x.0 ≢ Wrong w) → after (code_of l p) input n ≡ Some s → s.frames ≡ [] → DoneAs l p input s
only_from l p input n fuel s (Done, t) lt e f never h over =
    let same = one_end (code_of l p) input f.0 n (halted t) s refl over f.1 h in
    (fuel, t, e, ap (λ u. u.input) same, ap (λ u. u.output) same)
only_from l p input n fuel s (Spent, t) lt e f never h over =
    let same = from_some _ _ (sym (halted_stays_lem (code_of l p) input n f.0 s (omega (arith, f.3)) h over) ∙ f.4) in
    let none : [] ≡ f.1 ∷ [] = sym over ∙ ap (λ u. u.frames) same in
    absurd (cc)
only_from l p input n fuel s (Deep, t) lt e f never h over = absurd f
only_from l p input n fuel s (Wrong w, t) lt e f never h over = absurd (never w refl)

pub simulates_lem : (l : Linked) (p : Proc) → IsFormed l p → (input : List ℤ) → Simulates l p (code_of l p) input
simulates_lem l p formed input = record {
  steps = λ never n. steps_from (code_of l p) input n (2 * n) (run_of l p input (2 * n)) (omega arith) (follows l p input (2 * n) formed) (never (2 * n));
  halts = λ fuel t e. (let P : End × Store → Type 0 = λ x. Follows (code_of l p) input fuel x in subst P e (follows l p input fuel formed));
  halts_only = λ never n s h over. only_from l p input n (suc n) s (run_of l p input (suc n)) (omega arith) refl (follows l p input (suc n) formed) (never (suc n)) h over;
}

-- the same of an image that is the code of the program's one procedure
pub compiled_simulates : (l : Linked) (main p : Proc) (image : Image) → Some main ≡ slice_get l.procs 0 → image ≡ code_of l main → IsFormed l p → (input : List ℤ) → Simulates l p image input
compiled_simulates l main p image first is formed input =
    let same : Some main ≡ Some p = first ∙ ap (λ ps. slice_get ps 0) formed.procs in
    let one : main ≡ p = cc in
    let P : Image → Type 0 = λ i. Simulates l p i input in
    subst P (sym (is ∙ ap (code_of l) one)) (simulates_lem l p formed input)
