-- A point of a path, as the walk has it, and what statements make of points.
use Rattle.std.specs.Prelude.{ℕ, ◌+◌, List, [], ◌∷◌, ◌++◌, slice_index_or, slice_set}
use Rattle.math_terms.specs.declared.term.Term.{Term}
use Rattle.vc_sequents.specs.declared.sequent.Sequent.{Sequent}
use Rattle.main_prover.specs.declared.path.Path.{Path}
use Rattle.main_vcs.specs.Terms.{var, cat, single, equal, bounds, integer, stream}
use Rattle.main_vcs.specs.Walk as walk

abbrev pub point_of : Path → walk.Path
point_of p = record {
  terms = p.values.terms;
  input = p.values.input;
  output = p.values.output;
  hyps = p.known.hyps;
  vars = p.known.vars;
  fresh = p.counts.fresh;
  reads = p.counts.reads;
}

abbrev pub sequent_at : walk.Path → Term → Sequent
sequent_at p goal = record { vars = p.vars; params = 0; hyps = p.hyps; goal = goal }

-- after an assignment, and after a write
abbrev pub assigned : ℕ → Term → walk.Path → walk.Path
assigned k t p = record p { terms = slice_set p.terms k t }

abbrev pub written : Term → walk.Path → walk.Path
written t p = record p { output = cat p.output (single t) }

-- the parts of a read: its two variables, the facts on them, of which the first has this number, and what it counts
abbrev pub known_more : List (List ℕ) → List ℕ → ℕ → walk.Path → walk.Path
known_more names input k p = record p {
  vars = p.vars ++ (walk.fresh_name (slice_index_or names k []) (slice_index_or p.fresh k 0), integer) ∷ (walk.fresh_name input (p.reads + 1), stream) ∷ [];
}

abbrev pub split : ℕ → walk.Path → walk.Path
split n p = record p {
  input = var (n + 1);
  hyps = p.hyps ++ (bounds (var n) ++ equal p.input (cat (single (var n)) (var (n + 1))) ∷ []);
}

abbrev pub counted : ℕ → ℕ → walk.Path → walk.Path
counted k n p = record p {
  terms = slice_set p.terms k (var n);
  fresh = slice_set p.fresh k (slice_index_or p.fresh k 0 + 1);
  reads = p.reads + 1;
}
