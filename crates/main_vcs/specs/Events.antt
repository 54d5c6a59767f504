-- The events of a module's runs, and that those of a module whose conditions are valid are good.
use Rattle.std.specs.Prelude.{◌≡◌, ℕ, ℤ, List}
use Rattle.std.specs.List.{AllByRecursion}
use Rattle.source_meaning.specs.declared.linked.Linked.{Linked}
use Rattle.source_meaning.specs.declared.trace.Event.{Event}
use Rattle.source_meaning.specs.Meaning.{Store, main_call, main_return}
use Rattle.source_meaning.specs.Trace.{trace_of}
use Rattle.main_form.specs.declared.module.Module.{Module}
use Rattle.main_vcs.specs.Linking.{main_of}
use Rattle.main_vcs.specs.Soundness.{Allows, IsInput, IsLinkOf, IsValidCondition}
use Rattle.main_vcs.specs.Walk.{conditions_of}

-- A good event of a module's run on an input: the call of Main, or its return, at which it has written what it claims.
pub data IsGood (m : Module) (input : List ℤ) (e : Event) : Type 0 where
  called : e ≡ main_call 0 (main_of m) input → IsGood m input e
  returned : (s : Store) → e ≡ main_return 0 (main_of m) input s → Allows m.claim s.output → IsGood m input e

-- Where all conditions are valid, all events are good, on every input and with any fuel.
abbrev pub EventsAreGood : Type 0
EventsAreGood =
    (m : Module) (l : Linked) → IsLinkOf m l → AllByRecursion IsValidCondition (conditions_of m) → (input : List ℤ) → IsInput input → (fuel : ℕ) → AllByRecursion (IsGood m input) (trace_of l (main_of m) input fuel).events
