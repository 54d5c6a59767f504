use Rattle.std.proofs.Common.{◌≡◌, ◌≤◌, ℕ, List, ◌++◌, length, encode_utf8}
use Rattle.std.specs.Char.{IsScalar}
use Rattle.identifiers.proofs.characters.first_character.Given as goal

abbrev pub invariant-loop-len : goal.invariant-loop-len
invariant-loop-len l = (c : ℕ) (rest : List ℕ) → IsScalar c → l.bytes ≡ encode_utf8 c ++ rest → l.len ≤ length (encode_utf8 c)
