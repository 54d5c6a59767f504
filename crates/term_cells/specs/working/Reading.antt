-- What is left of a text that is being read.
use Rattle.std.specs.Prelude.{◌≡◌, ℕ, ◌+◌, ◌-◌, ◌*◌, ◌^◌, ◌≤◌, List, [], ◌∷◌, ◌++◌, length, drop}
use Rattle.term_cells.specs.declared.cell.Cell.{Cell}
use Rattle.term_cells.specs.declared.reading.Frame.{Frame}
use Rattle.term_cells.specs.working.Pieces.{HasPieces, joined}

-- frames, how many there is room for, and bytes that come before them
abbrev pub State : Type 0
State = List Frame × ℕ × List ℕ

-- The frames read a text: that of the top frame's pieces from its stage on, and then that of the others. Below its place there is room for
-- the frames that are still to come.
abbrev pub FramesRead : List Cell → ℕ → List Frame → List ℕ → Type 0
FramesRead cells room [] text = text ≡ []
FramesRead cells room (f ∷ fs) text =
    (ps : List (List ℕ)) × HasPieces cells f.place f.wrapped ps × (f.place + length (f ∷ fs) ≤ room) × ((rest : List ℕ) × (text ≡ joined (drop f.stage ps) ++ rest) × FramesRead cells room fs rest)

abbrev pub Reads : List Cell → State → List ℕ → Type 0
Reads cells s text = (rest : List ℕ) × (text ≡ s.2 ++ rest) × FramesRead cells s.1 s.0 rest

-- A number that falls with each step. A node weighs more than all that can stand below it.
unfoldable pub unit : ℕ → ℕ
unit place = 41 * 12 ^ place

unfoldable pub frame_weight : Frame → ℕ
frame_weight f = 1 + (10 - f.stage) * unit f.place

abbrev pub frames_weight : List Frame → ℕ
frames_weight [] = 0
frames_weight (f ∷ fs) = frame_weight f + frames_weight fs

abbrev pub weight : State → ℕ
weight s = length s.2 + frames_weight s.0
