use Rattle.std.proofs.Common.{◌∙◌, sym, ap}
use Rattle.math_terms.specs.Values.{denotes, entries}
use Rattle.math_terms.proofs.Evaluations.{entries_of_string}
use Rattle.math_terms.proofs.operations.entries_of.Goals as goal

pub returns-in-Str : goal.returns-in-Str
returns-in-Str c = entries_of_string c.in-Str.entries ∙ ap (λ v. entries (denotes v)) (sym c.in-Str.is)
