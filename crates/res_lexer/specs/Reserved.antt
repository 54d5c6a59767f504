-- The reserved words, none of which is a name.
use Rattle.std.specs.Prelude.{ℕ, Bool, List, [], ◌∷◌, codes}
use Rattle.std.specs.List.{list_any}
use Rattle.res_lexer.specs.Pieces.{same_bytes}

abbrev pub reserved : List (List ℕ)
reserved =
    codes "Concept" ∷ codes "type" ∷ codes "evaluates" ∷ codes "Integer" ∷ codes "uses" ∷ codes "requires" ∷ codes "end" ∷ codes "Type" ∷ codes "Family" ∷ codes "is" ∷ codes "modeled" ∷ codes "by" ∷ codes "exemplar" ∷ codes "constraint" ∷ codes "initialization" ∷ codes "ensures" ∷ codes "Z" ∷ codes "B" ∷ codes "Str" ∷ codes "Cart_Prod" ∷ codes "Operation" ∷ codes "Boolean" ∷ codes "In_Stream" ∷ codes "Out_Stream" ∷ codes "alters" ∷ codes "clears" ∷ codes "preserves" ∷ codes "replaces" ∷ codes "restores" ∷ codes "updates" ∷ codes "Enhancement" ∷ codes "for" ∷ codes "Realization" ∷ codes "of" ∷ codes "Procedure" ∷ codes "Facility" ∷ codes "Static_Array_Template" ∷ codes "realized" ∷ codes "enhanced" ∷ codes "represented" ∷ codes "Record" ∷ codes "convention" ∷ codes "correspondence" ∷ codes "Conc" ∷ codes "decreasing" ∷ codes "Var" ∷ codes "If" ∷ codes "then" ∷ codes "else" ∷ codes "While" ∷ codes "changing" ∷ codes "maintaining" ∷ codes "do" ∷ codes "implies" ∷ codes "or" ∷ codes "and" ∷ codes "not" ∷ codes "o" ∷ codes "div" ∷ codes "mod" ∷ codes "true" ∷ codes "false" ∷ codes "min_int" ∷ codes "max_int" ∷ codes "Empty_String" ∷ codes "Reverse" ∷ codes "Prt_Btwn" ∷ codes "Is_Initial" ∷ codes "Read" ∷ codes "Write" ∷ codes "At_End" ∷ codes "Remaining" ∷ codes "Swap_Entry" ∷ codes "Static_Array" ∷ []

abbrev pub is_reserved : List ℕ → Bool
is_reserved name = list_any (same_bytes name) reserved
