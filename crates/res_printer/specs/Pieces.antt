-- Pieces of a canonical text, each before the text that follows it.
use Rattle.std.specs.Prelude.{ℕ, List, [], ◌∷◌, ◌++◌, Option, Some, None, codes}

abbrev pub Piece : Type 0
Piece = List ℕ → List ℕ

-- A space stands after a token,
abbrev pub says : List ℕ → Piece
says token rest = token ++ (32 ∷ rest)

-- and in its place a line feed after `;`, `then`, `else` and `do`.
abbrev pub ends_line : List ℕ → Piece
ends_line token rest = token ++ (10 ∷ rest)

abbrev pub semicolon : Piece
semicolon = ends_line (codes ";")

abbrev pub comma : Piece
comma = says (codes ",")

abbrev pub opens : Piece
opens = says (codes "(")

abbrev pub closes : Piece
closes = says (codes ")")

abbrev pub colon : Piece
colon = says (codes ":")

abbrev pub dot : Piece
dot = says (codes ".")

-- ---- rows

abbrev pub nothing : Piece
nothing rest = rest

-- one piece behind the other
abbrev pub row : List Piece → Piece
row [] rest = rest
row (p ∷ ps) rest = p (row ps rest)

-- each item of a list as a piece, one behind the other
abbrev pub each : {A : Type 0} → (A → Piece) → List A → Piece
each piece [] rest = rest
each piece (x ∷ xs) rest = piece x (each piece xs rest)

-- with this between each two
abbrev pub separated : {A : Type 0} → Piece → (A → Piece) → List A → Piece
separated between piece [] rest = rest
separated between piece (x ∷ xs) rest = piece x (each (λ y. row (between ∷ piece y ∷ [])) xs rest)

-- ---- names

abbrev pub dotted : List ℕ → List ℕ → Piece
dotted name part = row (says name ∷ dot ∷ says part ∷ [])

-- a name, behind that of a facility if there is one
abbrev pub qualified : Option (List ℕ) → List ℕ → Piece
qualified None name = says name
qualified (Some facility) name = dotted facility name

-- the end of what has this name
abbrev pub closing : List ℕ → Piece
closing name = row (says (codes "end") ∷ says name ∷ semicolon ∷ [])
