-- Lists of parts, by their cells.
use Rattle.std.proofs.Common.{◌≡◌, ℕ, true, List, [], ◌∷◌, ◌++◌, map, Some, slice_get}
use Rattle.math_terms.specs.declared.term.Term.{Term}
use Rattle.term_cells.specs.declared.cell.Cell.{Cell}
use Rattle.term_cells.specs.Laws.{ListAt}
use Rattle.term_cells.specs.Standing.{parts_stand, stands}
use Rattle.term_cells.proofs.Apart.{end_parts, end_from, link_parts, link_from}
use Rattle.term_cells.proofs.Comparing.{parts_below}
use Rattle.term_cells.proofs.Lasting.{get_append, stands_append}

pub list_opens : (cells : List Cell) (ts : List Term) (at limit : ℕ) → parts_stand cells (map (stands cells) ts) at limit ≡ true → (c : Cell) × (slice_get cells at ≡ Some c) × ListAt cells ts c at
list_opens cells [] at limit h =
    let e = end_parts cells at limit h in
    (e.cell, e.cell_is, e.form_is)
list_opens cells (t ∷ ts) at limit h =
    let l = link_parts cells (stands cells t) (map (stands cells) ts) at limit h in
    (l.cell, l.cell_is, (l.form_is, l.part_below, l.part_is, parts_below cells (map (stands cells) ts) l.cell.b at l.rest_is, l.rest_is))

pub parts_append : (cells more : List Cell) (ts : List Term) (at limit : ℕ) → parts_stand cells (map (stands cells) ts) at limit ≡ true → parts_stand (cells ++ more) (map (stands (cells ++ more)) ts) at limit ≡ true
parts_append cells more [] at limit h =
    let e = end_parts cells at limit h in
    end_from (cells ++ more) at limit (record { cell = e.cell; below = e.below; cell_is = get_append cells more at e.cell e.cell_is; form_is = e.form_is })
parts_append cells more (t ∷ ts) at limit h =
    let l = link_parts cells (stands cells t) (map (stands cells) ts) at limit h in
    link_from (cells ++ more) (stands (cells ++ more) t) (map (stands (cells ++ more)) ts) at limit (record {
      cell = l.cell;
      below = l.below;
      cell_is = get_append cells more at l.cell l.cell_is;
      form_is = l.form_is;
      part_below = l.part_below;
      part_is = stands_append cells more t l.cell.a l.part_is;
      rest_is = parts_append cells more ts l.cell.b at l.rest_is;
    })
