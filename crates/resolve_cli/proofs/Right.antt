-- Accepted modules run right.
use Rattle.std.proofs.Common.{◌≡◌, ◌∙◌, sym, ap, refl, subst, ℕ, ◌*◌, ◌≤◌, ℤ, List, [], ◌∷◌, length, Option, Some, None}
use Rattle.std.specs.Prelude.{IsSome, IsSomeAnd}
use Rattle.source_meaning.specs.declared.linked.Linked.{Linked}
use Rattle.source_meaning.specs.declared.linked.Proc.{Proc}
use Rattle.source_meaning.specs.declared.trace.End.{End}
use Rattle.source_meaning.specs.declared.trace.End.TheVariants.{Done, Wrong}
use Rattle.source_meaning.specs.declared.trace.WrongKind.{WrongKind}
use Rattle.source_meaning.specs.Formed.{IsFormed}
use Rattle.source_meaning.specs.Meaning.{Store, run_of}
use Rattle.stack_machine.specs.declared.image.Image.{Image}
use Rattle.stack_machine.specs.Code.{code_of}
use Rattle.stack_machine.specs.Machine.{State, after}
use Rattle.stack_machine.specs.Refusal.{most_instructions}
use Rattle.stack_machine.specs.Runs.{HasMain}
use Rattle.stack_machine.specs.Simulation.{IsFront, NeverWrong, Simulates}
use Rattle.main_form.specs.declared.module.Claim.{Claim}
use Rattle.main_form.specs.declared.module.Module.{Module}
use Rattle.main_form.specs.declared.file.Shape.TheVariants as shape
use Rattle.main_form.specs.Formed.{IsForm}
use Rattle.main_form.specs.Shape.{shape_of}
use Rattle.res_ast.specs.declared.component.Component.{Component}
use Rattle.module_parser.specs.Spelling.{Spells}
use Rattle.component_checks.specs.Checks.{mistake_of}
use Rattle.main_vcs.specs.Events.{EventsAreGood}
use Rattle.main_vcs.specs.Linking.{main_of}
use Rattle.main_vcs.specs.Soundness.{Allows, ConditionsAreSound, IsInput, IsLinkOf, IsRightRun}
use Rattle.main_prover.specs.Proving.{ProvedIsValid}
use Rattle.resolve_cli.specs.Answer.{IsAccepted, IsBuilt, image_of, linked_of}
use Rattle.resolve_cli.specs.Headline.{IsRight, meaning_of}

-- the laws of runs, as the functions of the crates below state them
pub record RunLaws : Type 0 where
  pub valid : ProvedIsValid
  pub sound : ConditionsAreSound
  pub formed : (m : Module) (l : Linked) → IsForm m → IsLinkOf m l → IsFormed l (main_of m)
  pub simulates : (l : Linked) (p : Proc) → IsFormed l p → (input : List ℤ) → Simulates l p (code_of l p) input

link_of : (m : Module) → IsLinkOf m (linked_of m)
link_of m = record { types = refl; procs = refl; main = refl }

wrong_not_right : (c : Claim) (e : End) (s : Store) (w : WrongKind) → e ≡ Wrong w → IsRightRun c (e, s) → ⊥
wrong_not_right c e s w is right = subst (λ x. IsRightRun c (x, s)) is right

done_allows : (c : Claim) (r : End × Store) (t : Store) → r ≡ (Done, t) → IsRightRun c r → Allows c t.output
done_allows c r t is right = subst (λ x. IsRightRun c x) is right

some_is : {A : Type 0} (o : Option A) (P : A → Type 0) → IsSomeAnd o P → IsSome o
some_is None P h = absurd h
some_is (Some a) P h = refl

module _ (laws : RunLaws) (m : Module) (form : IsForm m) (accepted : IsAccepted m) where
  run_right : (input : List ℤ) → IsInput input → (fuel : ℕ) → IsRightRun m.claim (run_of (linked_of m) (main_of m) input fuel)
  run_right input is fuel = laws.sound m (linked_of m) (link_of m) (laws.valid m accepted) input is fuel

  never_wrong : (input : List ℤ) → IsInput input → NeverWrong (linked_of m) (main_of m) input
  never_wrong input is fuel w e =
      let r = run_of (linked_of m) (main_of m) input fuel in wrong_not_right m.claim r.0 r.1 w e (run_right input is fuel)

  simulated : (input : List ℤ) → Simulates (linked_of m) (main_of m) (image_of m) input
  simulated input = laws.simulates (linked_of m) (main_of m) (laws.formed m (linked_of m) form (link_of m)) input

  abbrev Follows : List ℤ → ℕ → State → Type 0
  Follows input n s = IsFront s.output (meaning_of m input (2 * n)).output

  follows : (input : List ℤ) → IsInput input → (n : ℕ) → IsSomeAnd (after (image_of m) input n) (Follows input n)
  follows input is n = (simulated input).steps (never_wrong input is) n

  pub goes_on : (input : List ℤ) → IsInput input → (n : ℕ) → IsSome (after (image_of m) input n)
  goes_on input is n = some_is (after (image_of m) input n) (Follows input n) (follows input is n)

  writes_front : (input : List ℤ) → IsInput input → (n : ℕ) (s : State) → after (image_of m) input n ≡ Some s → Follows input n s
  writes_front input is n s reached = subst (λ o. IsSomeAnd o (Follows input n)) reached (follows input is n)

  halts_allowed : (input : List ℤ) → IsInput input → (n : ℕ) (s : State) → after (image_of m) input n ≡ Some s → s.frames ≡ [] → Allows m.claim s.output
  halts_allowed input is n s reached over =
      let done = (simulated input).halts_only (never_wrong input is) n s reached over in
      subst (λ out. Allows m.claim out) done.4 (done_allows m.claim (run_of (linked_of m) (main_of m) input done.0) done.1 done.2 (run_right input is done.0))

  pub right : EventsAreGood → (bytes : List ℕ) (cs : List Component) → Spells bytes cs → shape_of cs ≡ shape.Module m → mistake_of cs ≡ None → IsRight bytes m
  right good bytes cs spells of without = record {
    components = cs;
    spells = spells;
    is = of;
    without_mistake = without;
    valid = laws.valid m accepted;
    never_stuck = goes_on;
    front = writes_front;
    allowed = halts_allowed;
    good = λ input is fuel. good m (linked_of m) (link_of m) (laws.valid m accepted) input is fuel;
  }

-- the image that compiling a link gives
pub same_image : (m : Module) (l : Linked) → IsLinkOf m l → (image : Image) → image ≡ code_of l (main_of m) → image ≡ image_of m
same_image m l link image is =
    is ∙ ap (λ ts. code_of (record { instances = []; types = ts; procs = main_of m ∷ []; main = 0 }) (main_of m)) link.types

pub has_main : (m : Module) (image : Image) → image ≡ image_of m → HasMain image
has_main m image is = subst HasMain (sym is) (refl, refl)

pub built : (m : Module) (image : Image) → image ≡ image_of m → IsAccepted m → length image.code ≤ most_instructions → IsBuilt m
built m image is accepted few = record { accepted = accepted; short = subst (λ (i : Image). length i.code ≤ most_instructions) is few }

pub image_goes_on : RunLaws → (m : Module) → IsForm m → IsAccepted m → (image : Image) → image ≡ image_of m → (numbers : List ℤ) → IsInput numbers → (n : ℕ) → IsSome (after image numbers n)
image_goes_on laws m form accepted image is numbers input n = subst (λ i. IsSome (after i numbers n)) (sym is) (goes_on laws m form accepted numbers input n)
