-- Statements, one layer opened, and what is noted of their parts.
use Rattle.std.proofs.Common.{◌≡◌, ◌∙◌, ℕ, List, ◌++◌, map, Option, ap, sym}
use Rattle.std.specs.List.{flat_map}
use Rattle.std.proofs.lemmas.List.Sums.{fold-append}
use Rattle.res_ast.specs.declared.expression.Expr.{Expr}
use Rattle.res_ast.specs.declared.statement.Place.{Place}
use Rattle.res_ast.specs.declared.statement.Stmt.{Stmt}
use Rattle.res_ast.specs.declared.statement.Stmt.TheVariants as stmt
use Rattle.res_ast.specs.declared.statement.Stmt.TheOpen.{Stmt-F}
use Rattle.res_ast.specs.declared.statement.Stmt.TheFolds.{fold-roll-Stmt}
use Rattle.type_rules.specs.declared.error.ModeError.{ModeError}
use Rattle.type_rules.specs.Breaches.{least_of, lesser}
use Rattle.type_modes.specs.Expressions.{look}
use Rattle.type_modes.specs.Places.{Body, spot}
use Rattle.type_modes.specs.Statements.{Seen, assign, breaches_in, changed, changes_in, guard, listed, loop, seen, statement, stmt_step, swap, unlisted}
use Rattle.type_modes.specs.working.Found.{noted}
use Rattle.type_modes.specs.working.Seen.{Listing}
use Rattle.type_modes.proofs.Noting.{noted_both, noted_three}

-- ---- one layer

module _ (b : Body) (x : Stmt) (place : ℕ) where
  pub swap_seen : (one other : Place) → x ≡ stmt.Swap place one other → seen (swap b one other) (changed b one ++ changed b other) ≡ statement b x
  swap_seen one other is = sym (fold-roll-Stmt Seen (stmt_step b) (Stmt-F.Swap place one other)) ∙ ap (statement b) (stmt.rolls-Swap place one other ∙ sym is)

  pub assign_seen : (target : Place) (e : Expr) → x ≡ stmt.Assign place target e → seen (assign b target (look b e)) (changed b target ++ (look b e).changes) ≡ statement b x
  assign_seen target e is = sym (fold-roll-Stmt Seen (stmt_step b) (Stmt-F.Assign place target e)) ∙ ap (statement b) (stmt.rolls-Assign place target e ∙ sym is)

  pub if_seen : (g : Expr) (first second : List Stmt) → x ≡ stmt.If place g first second
      → seen (guard (look b g) ++ breaches_in (map (statement b) first) ++ breaches_in (map (statement b) second)) ((look b g).changes ++ changes_in (map (statement b) first) ++ changes_in (map (statement b) second)) ≡ statement b x
  if_seen g first second is = sym (fold-roll-Stmt Seen (stmt_step b) (Stmt-F.If place g first second)) ∙ ap (statement b) (stmt.rolls-If place g first second ∙ sym is)

  pub while_seen : (g : Expr) (places : List Place) (invariant metric : Expr) (inner : List Stmt) → x ≡ stmt.While place g places invariant metric inner
      → seen (guard (look b g) ++ loop b places place (map (statement b) inner)) ((look b g).changes ++ changes_in (map (statement b) inner)) ≡ statement b x
  while_seen g places invariant metric inner is =
      sym (fold-roll-Stmt Seen (stmt_step b) (Stmt-F.While place g places invariant metric inner)) ∙ ap (statement b) (stmt.rolls-While place g places invariant metric inner ∙ sym is)

-- ---- breaches, part by part

pub least_both : (o p q : Option ModeError) (xs ys : List ModeError) → p ≡ least_of o xs → q ≡ least_of p ys → q ≡ least_of o (xs ++ ys)
least_both o p q xs ys first second = second ∙ ap (λ r. least_of r ys) first ∙ sym (fold-append lesser o xs ys)

pub least_three : (o p q r : Option ModeError) (xs ys zs : List ModeError) → p ≡ least_of o xs → q ≡ least_of p ys → r ≡ least_of q zs → r ≡ least_of o (xs ++ ys ++ zs)
least_three o p q r xs ys zs first second third = least_both o q r (xs ++ ys) zs (least_both o p q xs ys first second) third

-- what a loop notes are the breaches of its changing list
pub loop_noted : (b : Body) (places : List Place) (place : ℕ) (o p q r : Option ModeError) (l : Listing) (inner : List Seen)
    → l ≡ record { body = b; listed = map spot places; at = place }
    → p ≡ least_of o (flat_map (listed b) places) → q ≡ noted l p (changes_in inner) → r ≡ least_of q (breaches_in inner) → r ≡ least_of o (loop b places place inner)
unfolding noted
loop_noted b places place o p q r l inner is first second third =
    let own : q ≡ least_of p (flat_map (unlisted b (map spot places) place) (changes_in inner)) = second ∙ ap (λ (k : Listing). noted k p (changes_in inner)) is in
    least_three o p q r (flat_map (listed b) places) (flat_map (unlisted b (map spot places) place) (changes_in inner)) (breaches_in inner) first own third

-- ---- what a statement changes, as a loop notes it

module _ (l : Listing) (o p : Option ModeError) (x : Stmt) (place : ℕ) where
  whole : (s : Seen) → s ≡ statement l.body x → p ≡ noted l o s.changes → p ≡ noted l o (statement l.body x).changes
  whole s is own = own ∙ ap (λ (r : Seen). noted l o r.changes) is

  pub swap_noted : (m : Option ModeError) (one other : Place) → x ≡ stmt.Swap place one other
      → m ≡ noted l o (changed l.body one) → p ≡ noted l m (changed l.body other) → p ≡ noted l o (statement l.body x).changes
  swap_noted m one other is first second =
      whole (seen (swap l.body one other) (changed l.body one ++ changed l.body other)) (swap_seen l.body x place one other is)
      (noted_both l o m p (changed l.body one) (changed l.body other) first second)

  pub assign_noted : (m : Option ModeError) (target : Place) (e : Expr) → x ≡ stmt.Assign place target e
      → m ≡ noted l o (changed l.body target) → p ≡ noted l m (look l.body e).changes → p ≡ noted l o (statement l.body x).changes
  assign_noted m target e is first second =
      whole (seen (assign l.body target (look l.body e)) (changed l.body target ++ (look l.body e).changes)) (assign_seen l.body x place target e is)
      (noted_both l o m p (changed l.body target) (look l.body e).changes first second)

  pub if_noted : (m n : Option ModeError) (g : Expr) (first second : List Stmt) → x ≡ stmt.If place g first second
      → m ≡ noted l o (look l.body g).changes → n ≡ noted l m (changes_in (map (statement l.body) first)) → p ≡ noted l n (changes_in (map (statement l.body) second))
      → p ≡ noted l o (statement l.body x).changes
  if_noted m n g first second is guarded one other =
      let a = map (statement l.body) first in
      let b = map (statement l.body) second in
      whole (seen (guard (look l.body g) ++ breaches_in a ++ breaches_in b) ((look l.body g).changes ++ changes_in a ++ changes_in b)) (if_seen l.body x place g first second is)
      (noted_three l o m n p (look l.body g).changes (changes_in a) (changes_in b) guarded one other)

  pub while_noted : (m : Option ModeError) (g : Expr) (places : List Place) (invariant metric : Expr) (inner : List Stmt) → x ≡ stmt.While place g places invariant metric inner
      → m ≡ noted l o (look l.body g).changes → p ≡ noted l m (changes_in (map (statement l.body) inner)) → p ≡ noted l o (statement l.body x).changes
  while_noted m g places invariant metric inner is guarded own =
      let a = map (statement l.body) inner in
      whole (seen (guard (look l.body g) ++ loop l.body places place a) ((look l.body g).changes ++ changes_in a)) (while_seen l.body x place g places invariant metric inner is)
      (noted_both l o m p (look l.body g).changes (changes_in a) guarded own)

-- ---- the breaches in a statement

module _ (b : Body) (o p : Option ModeError) (x : Stmt) (place : ℕ) where
  broken : (s : Seen) → s ≡ statement b x → p ≡ least_of o s.breaches → p ≡ least_of o (statement b x).breaches
  broken s is own = own ∙ ap (λ (r : Seen). least_of o r.breaches) is

  pub while_least : (l : Listing) (m n r : Option ModeError) (g : Expr) (places : List Place) (invariant metric : Expr) (inner : List Stmt) → x ≡ stmt.While place g places invariant metric inner
      → l ≡ record { body = b; listed = map spot places; at = place }
      → m ≡ least_of o (guard (look b g)) → n ≡ least_of m (flat_map (listed b) places)
      → r ≡ noted l n (changes_in (map (statement b) inner)) → p ≡ least_of r (breaches_in (map (statement b) inner))
      → p ≡ least_of o (statement b x).breaches
  while_least l m n r g places invariant metric inner is around guarded missing own rest =
      let u = map (statement b) inner in
      broken (seen (guard (look b g) ++ loop b places place u) ((look b g).changes ++ changes_in u)) (while_seen b x place g places invariant metric inner is)
      (least_both o m p (guard (look b g)) (loop b places place u) guarded (loop_noted b places place m n r p l u around missing own rest))
