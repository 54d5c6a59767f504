-- What the names of a clause stand for. Of two entries of one name the first counts, whether or not it allows what is written.
use Rattle.std.specs.Prelude.{ℕ, Bool, ◌&&◌, List, Option, None, Some, option_and_then, if◌then◌else◌}
use Rattle.std.specs.List.{find}
use Rattle.std.specs.Option.{option_map}
use Rattle.std.specs.Str.{bytes_eq}
use Rattle.math_terms.specs.declared.descriptor.Sort.{Sort}
use Rattle.math_types.specs.declared.known.Known.{Known}

abbrev pub is_of : List ℕ → Known → Bool
is_of name k = bytes_eq k.name name

abbrev pub entry : List Known → List ℕ → Option Known
entry known name = find (is_of name) known

-- `x` and its parts may stand where the current value is known, `#x` and its parts where the old one is.
abbrev pub may_stand : Bool → Known → Bool
may_stand old k = if old then k.old else k.current

-- the sort of `x`, or of `#x`
abbrev pub whole : Bool → Known → Option Sort
whole old k = if may_stand old k && k.whole then Some k.sort else None

abbrev pub word : List Known → Bool → List ℕ → Option Sort
word known old name = option_and_then (whole old) (entry known name)

-- the sort of `x.p`, or of `#x.p`
abbrev pub part_in : List (List ℕ × Sort) → List ℕ → Option Sort
part_in parts p = option_map (λ q. q.1) (find (λ q. bytes_eq q.0 p) parts)

abbrev pub part : Bool → List ℕ → Known → Option Sort
part old p k = if may_stand old k then part_in k.parts p else None

abbrev pub dotted : List Known → Bool → List ℕ → List ℕ → Option Sort
dotted known old name p = option_and_then (part old p) (entry known name)
