-- Slots one after the other.
use Rattle.std.proofs.Common.{◌≡◌, ℕ, suc, ◌+◌, ◌<◌, Bool, true, false, cond, List, [], ◌∷◌, ◌++◌, map, filter, fold, length, take, drop, get_or, Option, None, Some, refl, sym, ap, ◌∙◌, if◌then◌else◌}
use Rattle.std.specs.Option.{option_or}
use Rattle.res_ast.specs.declared.component.Component.{Component}
use Rattle.module_table.specs.declared.error.NameError.{NameError}
use Rattle.module_table.specs.declared.slots.Slot.{Slot as Slot_in_code}
use Rattle.module_table.specs.working.Seen.{seen}
use Rattle.module_table.specs.Slots.{Slot, breach, first_breach, is_listed, listed, with_name}
use Rattle.std.proofs.lemmas.List.{append-nil, map-append, map_more, map_push, take-append-drop}
use Rattle.std.proofs.Math.Seq.{drop-cons}
use Rattle.std.proofs.lemmas.List.Elements.{filter-append}
use Rattle.std.proofs.lemmas.List.Sums.{fold_push}

pub listed-push : (ss : List Slot) (s : Slot) → listed (ss ++ s ∷ []) ≡ (if is_listed s then with_name (listed ss) s.name else listed ss)
listed-push ss s = ap (λ xs. fold with_name [] (map (λ s. s.name) xs)) (filter-append is_listed ss (s ∷ [])) ∙ by (is_listed s)
  where
    by : (b : Bool) → fold with_name [] (map (λ s. s.name) (filter is_listed ss ++ cond b (s ∷ []) [])) ≡ (if b then with_name (listed ss) s.name else listed ss)
    by true = ap (fold with_name []) (map_push (λ s. s.name) (filter is_listed ss) s) ∙ fold_push with_name [] (map (λ s. s.name) (filter is_listed ss)) s.name
    by false = ap (λ xs. fold with_name [] (map (λ s. s.name) xs)) (append-nil (filter is_listed ss))

or-assoc : {A : Type 0} (o p q : Option A) → option_or o (option_or p q) ≡ option_or (option_or o p) q
or-assoc None p q = refl
or-assoc (Some a) p q = refl

pub first_breach-append : (table : List Component) (xs ys : List Slot) → first_breach table (xs ++ ys) ≡ option_or (first_breach table xs) (first_breach table ys)
first_breach-append table [] ys = refl
first_breach-append table (x ∷ xs) ys =
    ap (option_or (breach table x)) (first_breach-append table xs ys) ∙ or-assoc (breach table x) (first_breach table xs) (first_breach table ys)

module _ (table : List Component) (slots : List Slot_in_code) (i : ℕ) (s : Slot_in_code) (within : i < length slots) (is : s ≡ get_or slots i s)
    (none : first_breach table (map seen (take i slots)) ≡ None) where
  -- a slot without a breach, behind others without one
  pub first_breach-passed : breach table (seen s) ≡ None → first_breach table (map seen (take (i + 1) slots)) ≡ None
  first_breach-passed at =
      ap (first_breach table) (map_more seen slots i s within ∙ ap (λ x. map seen (take i slots) ++ seen x ∷ []) (sym is))
      ∙ first_breach-append table (map seen (take i slots)) (seen s ∷ [])
      ∙ ap (λ b. option_or b (option_or (breach table (seen s)) None)) none ∙ ap (λ b. option_or b None) at

  -- a breach behind slots without one
  pub first_breach-met : (e : NameError) → breach table (seen s) ≡ Some e → first_breach table (map seen slots) ≡ Some e
  first_breach-met e at =
      let rest = map seen (drop (suc i) slots) in
      ap (λ ss. first_breach table (map seen ss)) (sym (take-append-drop i slots) ∙ ap (λ ss. take i slots ++ ss) (drop-cons slots i s within))
      ∙ ap (first_breach table) (map-append seen (take i slots) (get_or slots i s ∷ drop (suc i) slots) ∙ ap (λ x. map seen (take i slots) ++ seen x ∷ rest) (sym is))
      ∙ first_breach-append table (map seen (take i slots)) (seen s ∷ rest)
      ∙ ap (λ b. option_or b (option_or (breach table (seen s)) (first_breach table rest))) none ∙ ap (λ b. option_or b (first_breach table rest)) at
