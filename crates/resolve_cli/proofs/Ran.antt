-- What a run of a module's image leaves on out.
use Rattle.std.proofs.Common.{◌≡◌, ◌∙◌, sym, ap, refl, subst, ℕ, ◌≤◌, ℤ, List, [], ◌∷◌, ◌++◌, length, Option, Some, None, arith, append_assoc, inl, inr}
use Rattle.std.specs.Prelude.{IsSomeAnd, IsSome}
use Rattle.std.proofs.lemmas.Bool.{true≢false}
use Rattle.std.proofs.lemmas.List.{take-append-le, take_all}
use Rattle.edge_io.specs.Held.{Grew, GrewByPrefix}
use Rattle.stack_machine.specs.declared.image.Image.{Image}
use Rattle.stack_machine.specs.declared.image.Stop.TheVariants as stop
use Rattle.stack_machine.specs.Machine.{Frame, State, after}
use Rattle.stack_machine.specs.Lines.{line, lines}
use Rattle.stack_machine.specs.Runs.{Stopped}
use Rattle.stack_machine.specs.Simulation.{IsFront}
use Rattle.main_form.specs.declared.module.Module.{Module}
use Rattle.resolve_cli.specs.declared.status.Status.{Status}
use Rattle.resolve_cli.specs.declared.status.Status.TheVariants as status
use Rattle.resolve_cli.specs.Answer.{RunAnswer, halted, spent, image_of}
use Rattle.resolve_cli.specs.Resolves.{Answered, answer, cut}

lines-append : (xs ys : List ℤ) → lines (xs ++ ys) ≡ lines xs ++ lines ys
lines-append [] ys = refl
lines-append (x ∷ xs) ys = ap (λ bs. line x ++ bs) (lines-append xs ys) ∙ sym (append_assoc (line x) (lines xs) (lines ys))

-- a whole piece is a prefix of a longer one
pub grew_prefix : (a b : Option (List ℕ)) (p q : List ℕ) → Grew a b p → GrewByPrefix a b (p ++ q)
grew_prefix a b p q grew =
    (length p, subst (λ piece. Grew a b piece) (sym (take-append-le (length p) p q (omega arith) ∙ take_all (length p) p (omega arith))) grew)

abbrev pub Grows : Type 0
Grows = (image : Image) (input : List ℤ) (m n : ℕ) (s t : State) → m ≤ n → after image input m ≡ Some s → after image input n ≡ Some t → IsFront s.output t.output

pub some_and : {A : Type 0} (o : Option A) (P : A → Type 0) → IsSomeAnd o P → (a : A) × (o ≡ Some a) × P a
some_and None P h = absurd h
some_and (Some a) P h = (a, refl, h)

some_there : {A : Type 0} (o : Option A) → IsSome o → (a : A) × (o ≡ Some a)
some_there None h = absurd (true≢false (sym h))
some_there (Some a) h = (a, refl)

module _ (m : Module) (numbers : List ℤ) (steps : ℕ) where
  -- A run that comes to a state answers: it is over there or goes on.
  run_there : (t : State) → after (image_of m) numbers steps ≡ Some t → (s : Status) × RunAnswer m numbers steps s (lines t.output)
  run_there t reached = by_frames t.frames refl
    where
      by_frames : (fs : List Frame) → t.frames ≡ fs → (s : Status) × RunAnswer m numbers steps s (lines t.output)
      by_frames [] is = (status.Done, halted t reached is refl refl)
      by_frames (f ∷ fs) is = (status.StepsSpent steps, spent t reached (λ none. let g : [] ≡ f ∷ fs = sym none ∙ is in absurd (cc)) refl refl)

  pub halted_answered : (old new : Option (List ℕ)) → Stopped (image_of m) numbers steps stop.Halted old new → Answered (RunAnswer m numbers steps) status.Done old new
  halted_answered old new h =
      let at = some_and (after (image_of m) numbers steps) (λ s. (s.frames ≡ []) × Grew old new (lines s.output)) h in
      answer (lines at.0.output) (halted at.0 at.1 at.2.0 refl refl) at.2.1

  pub spent_answered : (old new : Option (List ℕ)) → Stopped (image_of m) numbers steps stop.StepsSpent old new → Answered (RunAnswer m numbers steps) (status.StepsSpent steps) old new
  spent_answered old new h =
      let at = some_and (after (image_of m) numbers steps) (λ s. (s.frames ≡ [] → ⊥) × Grew old new (lines s.output)) h in
      answer (lines at.0.output) (spent at.0 at.1 at.2.0 refl refl) at.2.1

  pub fault_answered : (old new : Option (List ℕ)) → Stopped (image_of m) numbers steps stop.SinkFault old new → Answered (RunAnswer m numbers steps) status.SinkFault old new
  fault_answered old new h =
      let at = some_and (after (image_of m) numbers steps) (λ s. GrewByPrefix old new (lines s.output)) h in
      let end = run_there at.0 at.1 in
      cut (inl refl) end.0 (lines at.0.output) end.1 at.2

  pub memory_answered : Grows → IsSome (after (image_of m) numbers steps) → (old new : Option (List ℕ)) → Stopped (image_of m) numbers steps stop.NoMemory old new → Answered (RunAnswer m numbers steps) status.NoMemory old new
  memory_answered grows stands old new (k, le, h) =
      let at = some_and (after (image_of m) numbers k) (λ s. Grew old new (lines s.output)) h in
      let t = some_there (after (image_of m) numbers steps) stands in
      let end = run_there t.0 t.1 in
      let front = grows (image_of m) numbers k steps at.0 t.0 le at.1 t.1 in
      cut (inr refl) end.0 (lines t.0.output) end.1 (subst (λ bs. GrewByPrefix old new bs) (sym (ap lines front.1 ∙ lines-append at.0.output front.0)) (grew_prefix old new (lines at.0.output) (lines front.0) at.2))
