-- What the steps from a number on need, from what the first of them gives.
use Rattle.std.proofs.Common.{◌≡◌, ◌∙◌, ap, ℕ, suc, ◌+◌, ◌<◌, ◌≤◌, max, List, [], ◌∷◌, ◌++◌, length, drop, length-drop, Option, Some, slice_get, Result, Ok, Err, arith}
use Rattle.vc_sequents.specs.declared.sequent.Sequent.{Sequent}
use Rattle.cert_form.specs.declared.cert.Step.{Step}
use Rattle.cert_check.specs.declared.walk.Stop.{Stop}
use Rattle.cert_check.specs.declared.walk.Stop.TheVariants.{Illegal, Full}
use Rattle.cert_check.specs.Legality.{gives}
use Rattle.cert_check.specs.Need.{Standing, below, need_from, path_nodes, row_room}
use Rattle.cert_check.specs.working.Room.{Needs}
use Rattle.cert_check.proofs.Walks.{drop_some}

need_some : (sts : List Step) (p : Standing) (rest : List Standing) → 0 < length sts → path_nodes p ≤ need_from sts (p ∷ rest)
need_some [] p rest h = absurd (omega arith)
need_some (st ∷ sts) p rest h = omega arith

module _ (steps : List Step) (at : ℕ) (p : Standing) (room : ℕ) where
  -- There is no room for the sequent itself.
  pub needs_room : at < length steps → room < path_nodes p → Needs steps at p room (Err Full)
  needs_room few less = λ rest. omega (arith, need_some (drop at steps) p rest (omega (arith, length-drop at steps)))

  module _ (st : Step) (here : slice_get steps at ≡ Some st) where
    -- the need of the first step, and of those after it
    first : (o : Option (List Sequent)) → gives st p.1 ≡ o → (rest : List Standing) →
        need_from (drop at steps) (p ∷ rest) ≡ max (path_nodes p + row_room st) (below p o (λ new. need_from (drop (at + 1) steps) (new ++ rest)))
    first o given rest =
        let same : suc at ≡ at + 1 = omega arith in
        ap (λ sts. need_from sts (p ∷ rest)) (drop_some steps at st here ∙ ap (λ n. st ∷ drop n steps) same)
        ∙ ap (λ q. max (path_nodes p + row_room st) (below p q (λ new. need_from (drop (at + 1) steps) (new ++ rest)))) given

    pub needs_one : (x : Sequent) → gives st p.1 ≡ Some (x ∷ []) → (r : Result ℕ Stop) → Needs steps (at + 1) (path_nodes p, x) room r → Needs steps at p room r
    needs_one x given (Ok m) h = λ rest. omega (arith, first (Some (x ∷ [])) given rest, h rest)
    needs_one x given (Err (Illegal k)) h = tt
    needs_one x given (Err Full) h = λ rest. omega (arith, first (Some (x ∷ [])) given rest, h rest)

    module _ (x y : Sequent) (given : gives st p.1 ≡ Some (x ∷ y ∷ [])) where
      pub needs_first : (stop : Stop) → Needs steps (at + 1) (path_nodes p, x) room (Err stop) → Needs steps at p room (Err stop)
      needs_first (Illegal k) h = tt
      needs_first Full h = λ rest. omega (arith, first (Some (x ∷ y ∷ [])) given rest, h ((path_nodes p, y) ∷ rest))

      pub needs_two : (m : ℕ) → Needs steps (at + 1) (path_nodes p, x) room (Ok m) → (r : Result ℕ Stop) → Needs steps m (path_nodes p, y) room r → Needs steps at p room r
      needs_two m h (Ok n) g = λ rest. omega (arith, first (Some (x ∷ y ∷ [])) given rest, h ((path_nodes p, y) ∷ rest), g rest)
      needs_two m h (Err (Illegal k)) g = tt
      needs_two m h (Err Full) g = λ rest. omega (arith, first (Some (x ∷ y ∷ [])) given rest, h ((path_nodes p, y) ∷ rest), g rest)
