use Rattle.std.proofs.Common.{◌≡◌, ℕ, List, Bool, ◌∙◌, sym, ap, nat_lt, nat_eq, length, ◌&&◌, true, false, arith}
use Rattle.identifiers.specs.Identifiers.{is_identifier, longest}
use Rattle.identifiers.proofs.Spelling.{whole}
use Rattle.identifiers.proofs.names.is_identifier.Goals as goal

-- the test, whose first part is known
by_length : (bytes : List ℕ) (len : ℕ) (some : Bool) → len ≡ longest is_identifier bytes → nat_lt 0 len ≡ some → (some && nat_eq len (length bytes)) ≡ is_identifier bytes
by_length bytes len some is tested =
    ap (λ b. b && nat_eq len (length bytes)) (sym tested) ∙ ap (λ n. nat_lt 0 n && nat_eq n (length bytes)) is ∙ whole bytes

pub returns-then-len-gt0 : goal.returns-then-len-gt0
returns-then-len-gt0 c =
    by_length c.args.bytes.now c.identifier_len-len.result true c.identifier_len-len.ensures.longest (grind (arith, c.if-len-gt0.true))

pub returns-else-len-gt0 : goal.returns-else-len-gt0
returns-else-len-gt0 c =
    let fails : nat_lt 0 c.identifier_len-len.result ≡ false = grind (arith, c.if-len-gt0.false) in
    fails ∙ by_length c.args.bytes.now c.identifier_len-len.result false c.identifier_len-len.ensures.longest fails
