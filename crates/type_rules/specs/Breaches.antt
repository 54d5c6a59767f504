-- The least of some breaches.
use Rattle.std.specs.Prelude.{ℕ, ◌==◌, nat_lt, Bool, ◌&&◌, ◌||◌, if◌then◌else◌, List, [], ◌∷◌, fold, Option, None, Some}
use Rattle.type_rules.specs.declared.error.ModeError.{ModeError}
use Rattle.type_rules.specs.declared.error.ModeError.TheVariants.{OfType, Mode, Repeated, Changing, Order, Stream, MainHeading, Missing, NoMemory}

abbrev pub place : ModeError → ℕ
place (OfType at) = at
place (Mode at) = at
place (Repeated at) = at
place (Changing at name) = at
place (Order at) = at
place (Stream at) = at
place (MainHeading at) = at
place (Missing at name) = at
place NoMemory = 0

-- the order of the kinds
abbrev pub rank : ModeError → ℕ
rank (OfType at) = 0
rank (Mode at) = 1
rank (Repeated at) = 2
rank (Changing at name) = 3
rank (Order at) = 4
rank (Stream at) = 5
rank (MainHeading at) = 6
rank (Missing at name) = 7
rank NoMemory = 8

-- A breach comes before another at a smaller place, or at the same place by its kind.
abbrev pub is_before : ModeError → ModeError → Bool
is_before a b = nat_lt (place a) (place b) || (place a == place b && nat_lt (rank a) (rank b))

-- the lesser of the least so far and a further breach; of two alike the first
abbrev pub lesser : Option ModeError → ModeError → Option ModeError
lesser None b = Some b
lesser (Some a) b = if is_before b a then Some b else Some a

abbrev pub least_of : Option ModeError → List ModeError → Option ModeError
least_of so_far breaches = fold lesser so_far breaches

abbrev pub least : List ModeError → Option ModeError
least breaches = least_of None breaches

-- one breach where a rule is broken
abbrev pub refuse : Bool → ModeError → List ModeError
refuse is_broken breach = if is_broken then breach ∷ [] else []
