-- What an evaluation answers.
use Rattle.std.specs.Prelude.{◌≡◌, Bool, true, false, Option, Some, None, Result, Ok, Err}
use Rattle.math_terms.specs.declared.name.NoMemory.{NoMemory}
use Rattle.math_terms.specs.declared.term.Term.{Term}
use Rattle.math_terms.specs.declared.term.Term.TheFolds.{fold-Term}
use Rattle.math_terms.specs.declared.value.Value.{Value}
use Rattle.math_terms.specs.Values.{Val, denotes}
use Rattle.math_terms.specs.Plain.{plain_step}

-- a closed term's value, and whether the term is plain
abbrev pub plain : Term → Val × Bool
plain t = fold-Term (Val × Bool) plain_step t

abbrev pub plain_value : Term → Val
plain_value t = (plain t).0

-- what is answered for a term with this value that is plain or not; nothing is known where memory has run out
abbrev pub IsEvaluation : Val × Bool → Result (Option Value) NoMemory → Type 0
IsEvaluation p (Ok None) = p.1 ≡ false
IsEvaluation p (Ok (Some v)) = (p.1 ≡ true) × (denotes v ≡ p.0)
IsEvaluation p (Err e) = Unit {0}
