-- Which piece stands at a place, by the tests in their order.
use Rattle.std.proofs.Common.{◌≡◌, ℕ, true, false, nat_lt, List, take, codes, refl}
use Rattle.std.specs.List.{prefix_len}
use Rattle.identifiers.specs.Identifiers.{is_identifier, longest}
use Rattle.res_lexer.specs.Pieces.{Gap, piece_at, first_passes, begins, is_blank, is_digit, comment, line_comment_len, bracket_comment, bracket_comment_len, word, literal, symbol_at}

pub at_blank : (place : ℕ) (rest : List ℕ) → first_passes is_blank rest ≡ true → piece_at place rest ≡ Gap 1
unfolding piece_at
at_blank place rest h = rw h refl

pub at_line : (place : ℕ) (rest : List ℕ) → first_passes is_blank rest ≡ false → begins (codes "--") rest ≡ true → piece_at place rest ≡ comment place (take (line_comment_len rest) rest)
unfolding piece_at
at_line place rest h line = rw h (rw line refl)

pub at_bracket : (place : ℕ) (rest : List ℕ) → first_passes is_blank rest ≡ false → begins (codes "--") rest ≡ false → begins (codes "(*") rest ≡ true → piece_at place rest ≡ bracket_comment place rest (bracket_comment_len rest)
unfolding piece_at
at_bracket place rest h line bracket = rw h (rw line (rw bracket refl))

-- neither a blank nor a comment begins
pub record IsDense (rest : List ℕ) : Type 0 where
  pub blank : first_passes is_blank rest ≡ false
  pub line : begins (codes "--") rest ≡ false
  pub bracket : begins (codes "(*") rest ≡ false

pub at_word : (place : ℕ) (rest : List ℕ) → IsDense rest → nat_lt 0 (longest is_identifier rest) ≡ true → piece_at place rest ≡ word place (take (longest is_identifier rest) rest)
unfolding piece_at
at_word place rest dense name = rw dense.blank (rw dense.line (rw dense.bracket (rw name refl)))

pub at_literal : (place : ℕ) (rest : List ℕ) → IsDense rest → nat_lt 0 (longest is_identifier rest) ≡ false → nat_lt 0 (prefix_len is_digit rest) ≡ true → piece_at place rest ≡ literal place (take (prefix_len is_digit rest) rest)
unfolding piece_at
at_literal place rest dense name digits = rw dense.blank (rw dense.line (rw dense.bracket (rw name (rw digits refl))))

pub at_symbol : (place : ℕ) (rest : List ℕ) → IsDense rest → nat_lt 0 (longest is_identifier rest) ≡ false → nat_lt 0 (prefix_len is_digit rest) ≡ false → piece_at place rest ≡ symbol_at place rest
unfolding piece_at
at_symbol place rest dense name digits = rw dense.blank (rw dense.line (rw dense.bracket (rw name (rw digits refl))))
