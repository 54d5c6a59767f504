-- What the reference answers for a program and an input.
use Rattle.std.specs.Prelude.{ℕ, ℤ, List}
use Rattle.source_meaning.specs.declared.linked.Proc.{Proc}
use Rattle.source_meaning.specs.declared.linked.Linked.{Linked}
use Rattle.source_meaning.specs.declared.trace.Trace.{Trace}
use Rattle.source_meaning.specs.declared.trace.MeaningError.{MeaningError}
use Rattle.source_meaning.specs.declared.trace.MeaningError.TheVariants.{Wide, NoMemory}
use Rattle.source_meaning.specs.Meaning.{run_of, events_at}

-- a program's run on an input, with its events and its output
abbrev pub trace_of : Linked → Proc → List ℤ → ℕ → Trace
trace_of l p input fuel = record {
  outcome = (run_of l p input fuel).0;
  events = events_at l.main p input (run_of l p input fuel);
  output = (run_of l p input fuel).1.output;
}

-- No abstract number is computed on programs of this form, so none is too wide.
abbrev pub IsMeaningRefusal : MeaningError → Type 0
IsMeaningRefusal Wide = ⊥
IsMeaningRefusal NoMemory = Unit {0}
