-- The rules of statements.
use Rattle.std.specs.Prelude.{ℕ, false, not, ◌&&◌, List, [], ◌∷◌, ◌++◌, map, Option, None, Some, is_none}
use Rattle.std.specs.List.{flat_map}
use Rattle.std.specs.Option.{option_map_or}
use Rattle.res_ast.specs.declared.statement.Place.{Place}
use Rattle.res_ast.specs.declared.statement.Stmt.{Stmt}
use Rattle.res_ast.specs.declared.statement.Stmt.TheOpen.{Stmt-F}
use Rattle.res_ast.specs.declared.statement.Stmt.TheFolds.{fold-Stmt}
use Rattle.type_rules.specs.declared.error.ModeError.{ModeError}
use Rattle.type_rules.specs.declared.error.ModeError.TheVariants.{OfType, Mode as OfMode, Changing, Repeated, Stream}
use Rattle.type_rules.specs.Breaches.{refuse}
use Rattle.type_rules.specs.Origins.{Origin, differ, has, is_no_scalar, is_stream}
use Rattle.type_modes.specs.Calls.{Look, call, call_changes, declared}
use Rattle.type_modes.specs.Expressions.{look}
use Rattle.type_modes.specs.Places.{Body, Holder, Spot, at, is_changeable, is_listed, overlap, spot}

-- The breaches in a statement, and what it changes, in the order of the text.
pub record Seen : Type 0 where
  pub breaches : List ModeError
  pub changes : List Spot

-- ---- places that are written

abbrev pub origin_at : Body → Place → Option Origin
origin_at b p = option_map_or (λ h. h.origin) (at b (spot p)) None

abbrev pub target_of : Option Holder → ℕ → List ModeError
target_of None place = OfType place ∷ []
target_of (Some h) place = refuse (not (is_changeable h)) (OfMode place)

abbrev pub target : Body → Place → List ModeError
target b p = target_of (at b (spot p)) p.at

abbrev pub changed : Body → Place → List Spot
changed b p = declared b (spot p)

-- ---- swaps and assignments

abbrev pub swap : Body → Place → Place → List ModeError
swap b x y =
    target b x ++ target b y
    ++ refuse (has is_stream (origin_at b x)) (Stream x.at)
    ++ refuse (has is_stream (origin_at b y)) (Stream y.at)
    ++ refuse (differ (origin_at b x) (origin_at b y)) (OfType y.at)
    ++ refuse (overlap (spot y) (spot x)) (Repeated y.at)

-- An Integer or a Boolean is assigned, a value of the same type.
abbrev pub assign : Body → Place → Look → List ModeError
assign b x value =
    target b x
    ++ refuse (is_no_scalar (origin_at b x)) (OfType x.at)
    ++ value.breaches
    ++ refuse (not (is_no_scalar (origin_at b x)) && differ (origin_at b x) value.origin) (OfType value.at)

-- ---- guards and loops

abbrev pub guard : Look → List ModeError
guard g = g.breaches ++ refuse (differ (Some Origin.Boolean) g.origin) (OfType g.at)

abbrev pub listed : Body → Place → List ModeError
listed b p = refuse (is_none (at b (spot p))) (OfType p.at)

-- A loop lists each variable that its body changes.
abbrev pub unlisted : Body → List Spot → ℕ → Spot → List ModeError
unlisted b listed place s = refuse (not (is_listed b listed s)) (Changing place s.0)

abbrev pub breaches_in : List Seen → List ModeError
breaches_in ss = flat_map (λ s. s.breaches) ss

abbrev pub changes_in : List Seen → List Spot
changes_in ss = flat_map (λ s. s.changes) ss

abbrev pub loop : Body → List Place → ℕ → List Seen → List ModeError
loop b places place inner =
    flat_map (listed b) places ++ flat_map (unlisted b (map spot places) place) (changes_in inner) ++ breaches_in inner

-- ---- statements

abbrev pub seen : List ModeError → List Spot → Seen
seen breaches changes = record { breaches = breaches; changes = changes }

abbrev pub call_seen : Body → Option (List ℕ) → List ℕ → List Look → ℕ → Seen
call_seen b facility name args place =
    seen (call b false (b.called facility name) args place) (call_changes b (b.called facility name) args)

abbrev pub stmt_step : Body → Stmt-F Seen → Seen
stmt_step b (Stmt-F.Swap place x y) = seen (swap b x y) (changed b x ++ changed b y)
stmt_step b (Stmt-F.Assign place x e) = seen (assign b x (look b e)) (changed b x ++ (look b e).changes)
stmt_step b (Stmt-F.Call place facility name args) = call_seen b facility name (map (look b) args) place
stmt_step b (Stmt-F.If place g first second) =
    seen (guard (look b g) ++ breaches_in first ++ breaches_in second) ((look b g).changes ++ changes_in first ++ changes_in second)
stmt_step b (Stmt-F.While place g places invariant metric inner) =
    seen (guard (look b g) ++ loop b places place inner) ((look b g).changes ++ changes_in inner)

abbrev pub statement : Body → Stmt → Seen
statement b s = fold-Stmt Seen (stmt_step b) s

abbrev pub statements : Body → List Stmt → List ModeError
statements b ss = flat_map (λ s. (statement b s).breaches) ss
