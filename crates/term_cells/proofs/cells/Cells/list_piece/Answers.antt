use Rattle.std.proofs.Common.{subst, sym, ℕ, ◌∷◌, false}
use Rattle.term_cells.specs.declared.before.Next.TheVariants.{Child}
use Rattle.term_cells.specs.working.Pieces.{NextIs, list_pieces}
use Rattle.term_cells.proofs.PieceOf.{first_listed, others_listed}
use Rattle.term_cells.proofs.cells.Cells.list_piece.Goals as goal

pub returns-in-0-clause-piece : goal.returns-in-0-clause-piece
returns-in-0-clause-piece c = λ place limit t ts e h.
    subst (λ (k : ℕ). NextIs c.args.self.now.0 place (list_pieces (t ∷ ts)) k (Child c.args.cell.a false)) (sym c.in-0.is) (first_listed c.args.self.now.0 place limit c.args.cell t ts e h)

pub returns-in-2-clause-piece : goal.returns-in-2-clause-piece
returns-in-2-clause-piece c = λ place limit t ts e h.
    subst (λ (k : ℕ). NextIs c.args.self.now.0 place (list_pieces (t ∷ ts)) k (Child c.args.cell.b false)) (sym c.in-2.is) (others_listed c.args.self.now.0 place limit c.args.cell t ts e h)
