-- The numbers of an input text, and what reading them from a source answers.
use Rattle.std.specs.Prelude.{◌≡◌, ℕ, ◌+◌, ◌-◌, ◌*◌, ◌<◌, ◌≤◌, nat_lt, ◌==◌, ℤ, pos, negsuc, neg_ℤ, int_le, Bool, false, not, ◌&&◌, ◌||◌, if◌then◌else◌, List, [], ◌∷◌, length, drop, slice_index, Option, Some, None, Result, Ok, Err, Vec}
use Rattle.std.specs.Str.{all_ascii_digits}
use Rattle.std.specs.declared.alloc.Global.{Global}
use Rattle.edge_io.specs.declared.numbers.InputError.{InputError}
use Rattle.edge_io.specs.declared.numbers.InputError.TheVariants.{Failed, TooLong, NoNumber, TooMany, NoMemory}

-- the most bytes of a text
abbrev pub most_text_bytes : ℕ
most_text_bytes = 1048576

-- the most numbers of a text
abbrev pub most_numbers : ℕ
most_numbers = 65535

-- space, tab, CR and LF
abbrev pub is_blank : ℕ → Bool
is_blank b = b == 32 || b == 9 || b == 13 || b == 10

-- a byte of a piece
abbrev pub is_part : ℕ → Bool
is_part b = not (is_blank b)

-- a stretch of bytes and the offset at which it begins
abbrev pub Piece : Type 0
Piece = ℕ × List ℕ

-- A byte that stands at an offset, before the pieces of what follows it: it begins the next piece where that one
-- goes on right after it, and is a piece of its own where not.
abbrev pub with_byte : ℕ → ℕ → List Piece → List Piece
with_byte at b [] = (at, b ∷ []) ∷ []
with_byte at b (p ∷ ps) = if p.0 == at + 1 then (at, b ∷ p.1) ∷ ps else (at, b ∷ []) ∷ p ∷ ps

-- the pieces of a text that begins at an offset
abbrev pub pieces_from : ℕ → List ℕ → List Piece
pieces_from at [] = []
pieces_from at (b ∷ bs) = if is_blank b then pieces_from (at + 1) bs else with_byte at b (pieces_from (at + 1) bs)

-- the maximal stretches of a text without blanks, each with its offset
abbrev pub pieces : List ℕ → List Piece
pieces text = pieces_from 0 text

-- the number that is read on from another one, digit by digit
abbrev pub read_on : ℕ → List ℕ → ℕ
read_on n [] = n
read_on n (d ∷ ds) = read_on (10 * n + (d - 48)) ds

abbrev pub has_minus : List ℕ → Bool
has_minus piece = slice_index piece 0 == 45

-- what follows the minus sign, where there is one
abbrev pub after_minus : List ℕ → List ℕ
after_minus piece = if has_minus piece then drop 1 piece else piece

-- decimal digits, at least one
abbrev pub are_digits : List ℕ → Bool
are_digits [] = false
are_digits (d ∷ ds) = all_ascii_digits (d ∷ ds)

-- the number that a minus sign, or none, and digits write
abbrev pub signed_number : List ℕ → ℤ
signed_number piece = if has_minus piece then neg_ℤ (pos (read_on 0 (after_minus piece))) else pos (read_on 0 (after_minus piece))

-- a number of 64 signed bits
abbrev pub is_word : ℤ → Bool
is_word n = int_le (negsuc 9223372036854775807) n && int_le n (pos 9223372036854775807)

-- The number of a piece: an optional minus sign and at least one digit, within 64 signed bits.
abbrev pub number_of : List ℕ → Option ℤ
number_of piece = if are_digits (after_minus piece) && is_word (signed_number piece) then Some (signed_number piece) else None

-- a number before those that follow it
abbrev pub followed : ℤ → Result (List ℤ) InputError → Result (List ℤ) InputError
followed n (Ok ns) = Ok (n ∷ ns)
followed n (Err e) = Err e

-- A piece at an offset, after so many numbers, and what follows it: refused where it is no number, and where no more
-- numbers may come.
abbrev pub with_piece : ℕ → ℕ → Option ℤ → Result (List ℤ) InputError → Result (List ℤ) InputError
with_piece k at None rest = Err (NoNumber at)
with_piece k at (Some n) rest = if nat_lt k most_numbers then followed n rest else Err (TooMany at)

-- the numbers of pieces that come after so many numbers
abbrev pub numbers_after : ℕ → List Piece → Result (List ℤ) InputError
numbers_after k [] = Ok []
numbers_after k (p ∷ ps) = with_piece k p.0 (number_of p.1) (numbers_after (k + 1) ps)

-- what a text is read as
abbrev pub reading : List ℕ → Result (List ℤ) InputError
reading text = if nat_lt most_text_bytes (length text) then Err TooLong else numbers_after 0 (pieces text)

-- the text is what a source had left, where it told
abbrev pub HadLeft : Option (List ℕ) → List ℕ → Type 0
HadLeft None text = Unit {0}
HadLeft (Some left) text = text ≡ left

-- a source that told has nothing left
abbrev pub NothingLeft : Option (List ℕ) → Option (List ℕ) → Type 0
NothingLeft None new = Unit {0}
NothingLeft (Some left) new = new ≡ Some []

-- a source that told has left what it had but for its first n bytes
abbrev pub LacksFirst : Option (List ℕ) → Option (List ℕ) → ℕ → Type 0
LacksFirst None new n = Unit {0}
LacksFirst (Some left) new n = new ≡ Some (drop n left)

-- What reading a text to its end answers, from what the source had left and has left: where the text is too long, one byte more than a
-- text may have was read.
abbrev pub IsText : Option (List ℕ) → Option (List ℕ) → Result (Vec ℕ Global) InputError → Type 0
IsText old new (Ok text) = HadLeft old text.items × NothingLeft old new × (length text.items ≤ most_text_bytes)
IsText old new (Err Failed) = Unit {0}
IsText old new (Err TooLong) = (text : List ℕ) × HadLeft old text × (most_text_bytes < length text) × LacksFirst old new (most_text_bytes + 1)
IsText old new (Err (NoNumber at)) = ⊥
IsText old new (Err (TooMany at)) = ⊥
IsText old new (Err NoMemory) = Unit {0}

-- What the numbers of a text are answered as: its reading, but for a failed read and for want of memory.
abbrev pub Answers : List ℕ → Result (Vec ℤ Global) InputError → Type 0
Answers text (Ok numbers) = reading text ≡ Ok numbers.items
Answers text (Err Failed) = Unit {0}
Answers text (Err TooLong) = reading text ≡ Err TooLong
Answers text (Err (NoNumber at)) = reading text ≡ Err (NoNumber at)
Answers text (Err (TooMany at)) = reading text ≡ Err (TooMany at)
Answers text (Err NoMemory) = Unit {0}

-- What a source that told has left: nothing at these answers, and where the text is too long what follows the first byte that it may not have.
abbrev pub LeavesInput : Option (List ℕ) → Option (List ℕ) → Result (Vec ℤ Global) InputError → Type 0
LeavesInput old new (Ok numbers) = NothingLeft old new
LeavesInput old new (Err Failed) = Unit {0}
LeavesInput old new (Err TooLong) = LacksFirst old new (most_text_bytes + 1)
LeavesInput old new (Err (NoNumber at)) = NothingLeft old new
LeavesInput old new (Err (TooMany at)) = NothingLeft old new
LeavesInput old new (Err NoMemory) = Unit {0}

-- What reading numbers answers, from what the source had left and has left: there is a text, what was left where the
-- source told, whose reading the answer is.
abbrev pub IsReading : Option (List ℕ) → Option (List ℕ) → Result (Vec ℤ Global) InputError → Type 0
IsReading old new answer = (text : List ℕ) × HadLeft old text × Answers text answer × LeavesInput old new answer
