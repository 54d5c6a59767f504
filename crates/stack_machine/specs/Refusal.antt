-- What compiling answers.
use Rattle.std.specs.Prelude.{◌≡◌, ℕ, ◌+◌, ◌<◌, ◌≤◌, List, ◌++◌, length, Result, Ok, Err}
use Rattle.source_meaning.specs.declared.linked.Proc.{Proc}
use Rattle.source_meaning.specs.declared.linked.Linked.{Linked}
use Rattle.source_meaning.specs.Formed.{IsFormed}
use Rattle.stack_machine.specs.declared.image.Instr.{Instr}
use Rattle.stack_machine.specs.declared.codegen.CodeError.{CodeError}
use Rattle.stack_machine.specs.declared.codegen.CodeError.TheVariants.{CodeTooLong, NoMemory}
use Rattle.stack_machine.specs.Code.{proc_code}

-- the most instructions of a program
abbrev pub most_instructions : ℕ
most_instructions = 65536

-- Code is too long exactly where the program has more instructions than that.
abbrev pub IsCodeRefusal : CodeError → Linked → Type 0
IsCodeRefusal CodeTooLong l = (p : Proc) → IsFormed l p → most_instructions < length (proc_code p)
IsCodeRefusal NoMemory l = Unit {0}

-- A piece was put at the end of the code, or it has no room there.
abbrev pub Emitted : {A : Type 0} → List Instr → List Instr → List Instr → Result A CodeError → Type 0
Emitted old new piece (Ok a) = (new ≡ old ++ piece) × (length new ≤ most_instructions)
Emitted old new piece (Err CodeTooLong) = most_instructions < length old + length piece
Emitted old new piece (Err NoMemory) = Unit {0}
