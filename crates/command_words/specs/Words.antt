-- The written reading of the command line's words, as lists of bytes.
use Rattle.std.specs.Prelude.{ℕ, nat_le, ◌==◌, Bool, true, false, not, ◌&&◌, ◌||◌, List, [], ◌∷◌, length, Option, Some, None, option_and_then, option_map, codes, if◌then◌else◌}
use Rattle.std.specs.List.{list_all, list_any, before_first, after_first}
use Rattle.std.specs.Str.Parse.{digits_value}
use Rattle.res_lexer.specs.Tokens.{is_digit, same_bytes}

-- A word of a command: bytes.
abbrev pub Word : Type 0
Word = List ℕ

-- what a command says: its verb, its options in order, each with its value, and its further words
pub record Reading : Type 0 where
  pub verb : Word
  pub options : List (Word × Word)
  pub further : List Word

-- A value, as a further word, is not empty and does not begin with `-`.
abbrev pub is_value : Word → Bool
is_value [] = false
is_value (b ∷ bs) = not (b == 45)

abbrev pub is_among : Word → List Word → Bool
is_among w names = list_any (same_bytes w) names

-- the options of each verb; a word that is no verb has none
abbrev pub verb_options : List (Word × List Word)
verb_options =
    (codes "verify", codes "certs" ∷ []) ∷ (codes "prove", codes "out" ∷ []) ∷ (codes "vcs", []) ∷ (codes "code", codes "choice" ∷ codes "certs" ∷ []) ∷ (codes "run", codes "choice" ∷ codes "certs" ∷ codes "steps" ∷ []) ∷ (codes "gen", []) ∷ []

abbrev pub options_in : List (Word × List Word) → Word → Option (List Word)
options_in [] verb = None
options_in (v ∷ vs) verb = if same_bytes verb v.0 then Some v.1 else options_in vs verb

abbrev pub options_of : Word → Option (List Word)
options_of verb = options_in verb_options verb

-- the name of an option in `--name`, where the word begins with two dashes
abbrev pub option_text : Word → Option Word
option_text [] = None
option_text (a ∷ []) = None
option_text (a ∷ b ∷ bs) = if a == 45 && b == 45 then Some bs else None

-- one more option, or one more further word, before the others
abbrev pub with_option : Word → Word → Option (List (Word × Word) × List Word) → Option (List (Word × Word) × List Word)
with_option name value None = None
with_option name value (Some r) = Some ((name, value) ∷ r.0, r.1)

abbrev pub with_further : Word → Option (List (Word × Word) × List Word) → Option (List (Word × Word) × List Word)
with_further w None = None
with_further w (Some r) = Some (r.0, w ∷ r.1)

-- whether an `=` stands in a word
abbrev pub has_equals : Word → Bool
has_equals w = list_any (λ b. b == 61) w

-- What a word says where no option waits for its value: it is a further word; it is an option with its value; or it
-- is an option whose value is the next word.
pub data Piece : Type 0 where
  Further : Piece
  Whole : Word → Word → Piece
  Waits : Word → Piece

-- An option is `--name` and one more word, or `--name=value`, the name up to the first `=`.
abbrev pub option_piece : List Word → Word → Option Piece
option_piece names text =
    if has_equals text then (if is_among (before_first (λ b. b == 61) text) names && is_value (after_first (λ b. b == 61) text) then Some (Whole (before_first (λ b. b == 61) text) (after_first (λ b. b == 61) text)) else None) else (if is_among text names then Some (Waits text) else None)

abbrev pub piece_at : List Word → Word → Option Word → Option Piece
piece_at names w None = if is_value w then Some Further else None
piece_at names w (Some text) = option_piece names text

abbrev pub piece_of : List Word → Word → Option Piece
piece_of names w = piece_at names w (option_text w)

-- a word before the others, by what it says
abbrev pub with_piece : Option Piece → Word → Option (List (Word × Word) × List Word) → (Word → Option (List (Word × Word) × List Word)) → Option (List (Word × Word) × List Word)
with_piece None w rest waiting = None
with_piece (Some Further) w rest waiting = with_further w rest
with_piece (Some (Whole name value)) w rest waiting = with_option name value rest
with_piece (Some (Waits name)) w rest waiting = waiting name

-- The options and further words of what follows the verb. Where an option still waits for its value, its name is given.
abbrev pub gathered : List Word → Option Word → List Word → Option (List (Word × Word) × List Word)
gathered names None [] = Some ([], [])
gathered names (Some name) [] = None
gathered names (Some name) (w ∷ ws) = if is_value w then with_option name w (gathered names None ws) else None
gathered names None (w ∷ ws) = with_piece (piece_of names w) w (gathered names None ws) (λ name. gathered names (Some name) ws)

abbrev pub all_differ : List Word → Bool
all_differ [] = true
all_differ (w ∷ ws) = not (is_among w ws) && all_differ ws

-- digits without a leading zero
abbrev pub is_number : Word → Bool
is_number [] = false
is_number (b ∷ bs) = is_digit b && not (b == 48) && list_all is_digit bs

-- a number of steps has at most 12 digits, and is at least 1
abbrev pub is_steps : Word → Bool
is_steps w = is_number w && nat_le (length w) 12

abbrev pub is_good_value : Word → Word → Bool
is_good_value name value = not (same_bytes name (codes "steps")) || is_steps value

abbrev pub good_values : List (Word × Word) → Bool
good_values [] = true
good_values (o ∷ os) = is_good_value o.0 o.1 && good_values os

-- a number from 1 to 64
abbrev pub is_gen_number : Word → Bool
is_gen_number w = is_number w && nat_le (length w) 2 && nat_le (digits_value 10 w) 64

-- 1 to 256 files, and for gen one number from 1 to 64
abbrev pub good_further : Word → List Word → Bool
good_further verb [] = false
good_further verb (w ∷ ws) =
    if same_bytes verb (codes "gen") then (nat_le (length ws) 0 && is_gen_number w) else nat_le (length ws) 255

abbrev pub names_of : List (Word × Word) → List Word
names_of [] = []
names_of (o ∷ os) = o.0 ∷ names_of os

abbrev pub checked : Word → Option (List (Word × Word) × List Word) → Option Reading
checked verb None = None
checked verb (Some r) =
    if all_differ (names_of r.0) && good_values r.0 && good_further verb r.1 then Some (record { verb = verb; options = r.0; further = r.1 }) else None

-- The first word is the verb.
abbrev pub read_words : List Word → Option Reading
read_words [] = None
read_words (verb ∷ ws) = option_and_then (λ names. checked verb (gathered names None ws)) (options_of verb)

-- how many instructions a run may take where nothing is said of it
unfoldable pub most_steps : ℕ
most_steps = 100000000

-- how many instructions the options allow, where they say nothing else
abbrev pub steps_of : List (Word × Word) → Option ℕ
steps_of [] = Some most_steps
steps_of (o ∷ []) = if same_bytes (codes "steps") o.0 then Some (digits_value 10 o.1) else None
steps_of (o ∷ p ∷ os) = None

-- what is built of the commands: `run` of one file, for so many instructions at most
pub data Command : Type 0 where
  Run : Word → ℕ → Command
  Other : Command

abbrev pub run_file : Word → Option ℕ → Command
run_file file None = Other
run_file file (Some steps) = Run file steps

abbrev pub run_of : List (Word × Word) → List Word → Command
run_of os [] = Other
run_of os (w ∷ []) = run_file w (steps_of os)
run_of os (w ∷ v ∷ ws) = Other

abbrev pub command_of : Reading → Command
command_of r = if same_bytes r.verb (codes "run") then run_of r.options r.further else Other

-- the command that the words say
abbrev pub command : List Word → Option Command
command words = option_map command_of (read_words words)
