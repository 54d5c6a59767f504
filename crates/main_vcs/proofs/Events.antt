-- The events of a module's runs are good where its conditions are valid.
use Rattle.std.proofs.Common.{◌≡◌, ap, ℕ, ℤ, List}
use Rattle.std.specs.List.{AllByRecursion}
use Rattle.source_meaning.specs.declared.trace.End.{End}
use Rattle.source_meaning.specs.declared.trace.End.TheVariants.{Done, Spent, Deep, Wrong}
use Rattle.source_meaning.specs.Meaning.{Store, events_at, main_call, main_return, run_of}
use Rattle.main_form.specs.declared.module.Module.{Module}
use Rattle.main_vcs.specs.Linking.{main_of}
use Rattle.main_vcs.specs.Soundness.{IsRightRun}
use Rattle.main_vcs.specs.Events.{EventsAreGood, IsGood, called, returned}
use Rattle.main_vcs.proofs.Sound.{conditions_sound}

-- those of a right run
run_good : (m : Module) (k : ℕ) (input : List ℤ) (r : End × Store) → k ≡ 0 → IsRightRun m.claim r → AllByRecursion (IsGood m input) (events_at k (main_of m) input r)
run_good m k input (Done, s) first right =
    (called (ap (λ n. main_call n (main_of m) input) first), (returned s (ap (λ n. main_return n (main_of m) input s) first) right, tt))
run_good m k input (Spent, s) first right = (called (ap (λ n. main_call n (main_of m) input) first), tt)
run_good m k input (Deep, s) first right = absurd right
run_good m k input (Wrong w, s) first right = absurd right

pub events_good : EventsAreGood
events_good m l link valid input ok fuel =
    run_good m l.main input (run_of l (main_of m) input fuel) link.main (conditions_sound m l link valid input ok fuel)
