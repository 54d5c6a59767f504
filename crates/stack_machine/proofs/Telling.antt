-- What a sink got of a run.
use Rattle.std.proofs.Common.{◌≡◌, ◌≢◌, ℕ, suc, ◌+◌, ◌<◌, ◌≤◌, ℤ, List, [], ◌∷◌, ◌++◌, length, take, drop, Option, Some, None, refl, sym, ap, ◌∙◌, subst, arith, append_assoc}
use Rattle.std.specs.Prelude.{IsSome, IsSomeAnd, OnErr, Result, Ok, Err, option_and_then}
use Rattle.std.specs.Fmt.{signed_decimal}
use Rattle.std.proofs.lemmas.List.{append-nil, take-append-drop}
use Rattle.std.proofs.Math.Seq.{take-append_seam, take-append-add}
use Rattle.edge_io.specs.Held.{Grew, GrewByPrefix}
use Rattle.stack_machine.specs.declared.image.Image.{Image}
use Rattle.stack_machine.specs.declared.image.Stop.TheVariants.{Halted, StepsSpent, SinkFault, NoMemory}
use Rattle.stack_machine.specs.declared.running.Running.{Running}
use Rattle.stack_machine.specs.declared.running.Effect.{Effect}
use Rattle.stack_machine.specs.declared.running.Effect.TheVariants.{Quiet, Wrote, Returned}
use Rattle.stack_machine.specs.Machine.{State, step_of, step, after}
use Rattle.stack_machine.specs.Lines.{line, lines}
use Rattle.stack_machine.specs.Runs.{NeverStuck, Stopped}
use Rattle.stack_machine.specs.Running.{frame_of, state_after, text_of, CanStep, Steps, Begins}
use Rattle.stack_machine.proofs.Going.{halted_stays_lem, step_after_none, after_front}

pub grew_refl : (held : Option (List ℕ)) → Grew held held []
grew_refl None = tt
grew_refl (Some held) = sym (append-nil held)

grew-trans : (a b c : Option (List ℕ)) (p q : List ℕ) → Grew a b p → Grew b c q → Grew a c (p ++ q)
grew-trans a b None p q g h = tt
grew-trans a None (Some now) p q g h = absurd h
grew-trans None (Some then) (Some now) p q g h = absurd g
grew-trans (Some before) (Some then) (Some now) p q g h = rw (h, g) (append_assoc before p q)

grew-trans-prefix : (a b c : Option (List ℕ)) (p q : List ℕ) → Grew a b p → GrewByPrefix b c q → GrewByPrefix a c (p ++ q)
grew-trans-prefix a b c p q g (n, h) =
    (length p + n, rw (take-append-add p q n) (grew-trans a b c p (take n q) g h))

grew-prefix : (a b : Option (List ℕ)) (p q : List ℕ) → Grew a b p → GrewByPrefix a b (p ++ q)
grew-prefix a b p q g = (length p, rw (take-append_seam p q) g)

-- a prefix of a piece is one of whatever it begins
prefix-longer : (a b : Option (List ℕ)) (p q : List ℕ) → GrewByPrefix a b p → GrewByPrefix a b (p ++ q)
prefix-longer a b p q (n, g) =
    let e : take n p ++ (drop n p ++ q) ≡ p ++ q = sym (append_assoc (take n p) (drop n p) q) ∙ ap (λ l. l ++ q) (take-append-drop n p) in
    let P : List ℕ → Type 0 = λ l. GrewByPrefix a b l in
    subst P e (grew-prefix a b (take n p) (drop n p ++ q) g)

pub line_begun : (a b : Option (List ℕ)) (n : ℤ) → GrewByPrefix a b (signed_decimal n) → GrewByPrefix a b (line n)
line_begun a b n g = prefix-longer a b (signed_decimal n) (10 ∷ []) g

pub line_ended : {A E : Type 0} (r : Result A E) (a b c : Option (List ℕ)) (n : ℤ) → Grew a b (signed_decimal n) → OnErr r (GrewByPrefix b c (10 ∷ [])) → OnErr r (GrewByPrefix a c (line n))
line_ended (Ok v) a b c n g h = h
line_ended (Err e) a b c n g h = grew-trans-prefix a b c (signed_decimal n) (10 ∷ []) g h

lines-append : (a b : List ℤ) → lines (a ++ b) ≡ lines a ++ lines b
lines-append [] b = refl
lines-append (n ∷ a) b = ap (λ l. line n ++ l) (lines-append a b) ∙ sym (append_assoc (line n) (lines a) (lines b))

-- the lines of the output after an instruction
output_on : (procedure : ℕ) (input : List ℤ) (r : Running) (output : List ℤ) (e : Effect) → lines output ++ text_of e ≡ lines (state_after procedure input r output e).output
output_on procedure input r output Quiet = append-nil (lines output)
output_on procedure input r output (Wrote n) = ap (λ l. lines output ++ l) (sym (append-nil (line n))) ∙ sym (lines-append output (n ∷ []))
output_on procedure input r output Returned = append-nil (lines output)

-- after so many steps the run stands in this frame, and the sink got the lines of the output
pub record Reached (image : Image) (input : List ℤ) (k : ℕ) (r : Running) (old now : Option (List ℕ)) : Type 0 where
  pub output : List ℤ
  pub state : after image input k ≡ Some (state_after image.main input r output Quiet)
  pub grew : Grew old now (lines output)

pub reached_start : (image : Image) (input : List ℤ) (r : Running) (held : Option (List ℕ)) → Begins image r → r.taken ≡ 0 → Reached image input 0 r held held
reached_start image input r held b e = record {
  output = [];
  state = b input ∙ ap (λ n. Some (record { frames = frame_of image.main r ∷ []; input = drop n input; output = [] })) (sym e);
  grew = grew_refl held;
}

one_more : (image : Image) (input : List ℤ) (k : ℕ) → after image input (k + 1) ≡ after image input (suc k)
one_more image input k = let e : k + 1 ≡ suc k = omega arith in ap (after image input) e

-- one more step
stepped : (image : Image) (input : List ℤ) (k : ℕ) (s : State) → after image input k ≡ Some s → after image input (suc k) ≡ step_of image s.frames s.input s.output
stepped image input k s e = ap (option_and_then (step image)) e

-- the state after an instruction that is the next
stepped_to : (image : Image) (input : List ℤ) (k : ℕ) (r r' : Running) (e : Effect) (old now : Option (List ℕ)) (a : Reached image input k r old now) → Steps image input r r' e → after image input (suc k) ≡ Some (state_after image.main input r' a.output e)
stepped_to image input k r r' e old now a s = stepped image input k _ a.state ∙ s a.output

going_on : (image : Image) (input : List ℤ) (k : ℕ) (r : Running) (output : List ℤ) (e : Effect) (old now : Option (List ℕ)) → e ≢ Returned → after image input (k + 1) ≡ Some (state_after image.main input r output e) → Grew old now (lines (state_after image.main input r output e).output) → Reached image input (k + 1) r old now
going_on image input k r output Quiet old now on s g = record { output = output; state = s; grew = g }
going_on image input k r output (Wrote n) old now on s g = record { output = output ++ n ∷ []; state = s; grew = g }
going_on image input k r output Returned old now on s g = absurd (on refl)

grown_on : (image : Image) (input : List ℤ) (r' : Running) (output : List ℤ) (e : Effect) (old mid now : Option (List ℕ)) → Grew old mid (lines output) → Grew mid now (text_of e) → Grew old now (lines (state_after image.main input r' output e).output)
grown_on image input r' output e old mid now g h =
    let P : List ℕ → Type 0 = λ l. Grew old now l in
    subst P (output_on image.main input r' output e) (grew-trans old mid now (lines output) (text_of e) g h)

pub reached_on : (image : Image) (input : List ℤ) (k : ℕ) (r r' : Running) (e : Effect) (old mid now : Option (List ℕ)) → Reached image input k r old mid → Steps image input r r' e → Grew mid now (text_of e) → e ≢ Returned → Reached image input (k + 1) r' old now
reached_on image input k r r' e old mid now a s g on =
    going_on image input k r' a.output e old now on (one_more image input k ∙ stepped_to image input k r r' e old mid a s) (grown_on image input r' a.output e old mid now a.grew g)

-- what the machine can do next
pub can_step : (image : Image) (input : List ℤ) (steps k : ℕ) (r : Running) (old now : Option (List ℕ)) → NeverStuck image input steps → k < steps → Reached image input k r old now → CanStep image input r
can_step image input steps k r old now never lt a =
    step_after_none image (frame_of image.main r ∷ []) (drop r.taken input) a.output (subst IsSome (stepped image input k _ a.state) (never (suc k) (omega arith)))

at_some : {A : Type 0} (P : A → Type 0) (o : Option A) (s : A) → o ≡ Some s → P s → IsSomeAnd o P
at_some P o s e p = let Q : Option _ → Type 0 = λ x. IsSomeAnd x P in subst Q (sym e) p

returned : (image : Image) (input : List ℤ) (r : Running) (output : List ℤ) (e : Effect) → e ≡ Returned → (state_after image.main input r output e).frames ≡ []
returned image input r output Quiet is = absurd (cc)
returned image input r output (Wrote n) is = absurd (cc)
returned image input r output Returned is = refl

pub stopped_halted : (image : Image) (input : List ℤ) (steps k : ℕ) (r r' : Running) (e : Effect) (old mid now : Option (List ℕ)) → k < steps → Reached image input k r old mid → Steps image input r r' e → Grew mid now (text_of e) → e ≡ Returned → Stopped image input steps Halted old now
stopped_halted image input steps k r r' e old mid now lt a s g is =
    let halted = returned image input r' a.output e is in
    at_some _ (after image input steps) _ (halted_stays_lem image input (suc k) steps _ (omega arith) (stepped_to image input k r r' e old mid a s) halted) (halted, grown_on image input r' a.output e old mid now a.grew g)

pub stopped_spent : (image : Image) (input : List ℤ) (steps : ℕ) (r : Running) (old now : Option (List ℕ)) → Reached image input steps r old now → Stopped image input steps StepsSpent old now
stopped_spent image input steps r old now a =
    at_some _ (after image input steps) _ a.state (λ h. cc, a.grew)

pub stopped_memory : (image : Image) (input : List ℤ) (steps k : ℕ) (r : Running) (old now : Option (List ℕ)) → k ≤ steps → Reached image input k r old now → Stopped image input steps NoMemory old now
stopped_memory image input steps k r old now le a =
    (k, le, at_some _ (after image input k) _ a.state a.grew)

faulty : (image : Image) (input : List ℤ) (steps k : ℕ) (s : State) (old now : Option (List ℕ)) (o : Option State) → k ≤ steps → after image input k ≡ Some s → GrewByPrefix old now (lines s.output) → after image input steps ≡ o → IsSome o → IsSomeAnd o (λ t. GrewByPrefix old now (lines t.output))
faulty image input steps k s old now None le e g h some = absurd (cc)
faulty image input steps k s old now (Some t) le e g h some =
    let f = after_front image input k steps s t le e h in
    let same : lines s.output ++ lines f.0 ≡ lines t.output = sym (lines-append s.output f.0) ∙ ap lines (sym f.1) in
    let P : List ℕ → Type 0 = λ l. GrewByPrefix old now l in
    subst P same (prefix-longer old now (lines s.output) (lines f.0) g)

pub stopped_fault : (image : Image) (input : List ℤ) (steps k : ℕ) (r r' : Running) (e : Effect) (old mid now : Option (List ℕ)) → NeverStuck image input steps → k < steps → Reached image input k r old mid → Steps image input r r' e → GrewByPrefix mid now (text_of e) → Stopped image input steps SinkFault old now
stopped_fault image input steps k r r' e old mid now never lt a s g =
    let P : List ℕ → Type 0 = λ l. GrewByPrefix old now l in
    faulty image input steps (suc k) _ old now (after image input steps) (omega arith) (stepped_to image input k r r' e old mid a s)
    (subst P (output_on image.main input r' a.output e) (grew-trans-prefix old mid now (lines a.output) (text_of e) a.grew g)) refl (never steps (omega arith))
