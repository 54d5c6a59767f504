-- Words of ASCII are tokens that some text has.
use Rattle.std.proofs.Common.{◌≡◌, ◌∙◌, refl, ℕ, ◌<◌, nat_le, nat_lt, Bool, true, false, ◌&&◌, List, [], ◌∷◌, length}
use Rattle.std.specs.List.{AllByRecursion}
use Rattle.std.proofs.lemmas.Bool.{false≢true, leb-true, ltb-true}
use Rattle.identifiers.specs.Identifiers.{is_plain_identifier}
use Rattle.identifiers.specs.Laws.{PlainAreAscii}
use Rattle.res_lexer.specs.Pieces.{most_name_bytes}
use Rattle.res_lexer.specs.Spaced.{IsWritable}
use Rattle.res_lexer.specs.declared.token.TokenKind.TheVariants as kind

pub and_left : (a b : Bool) → (a && b) ≡ true → a ≡ true
and_left true b h = refl
and_left false b h = absurd (false≢true h)

pub and_right : (a b : Bool) → (a && b) ≡ true → b ≡ true
and_right true b h = h
and_right false b h = absurd (false≢true h)

abbrev are_ascii : List ℕ → Bool
are_ascii [] = true
are_ascii (b ∷ bs) = nat_lt b 128 && are_ascii bs

ascii_are : (bs : List ℕ) → are_ascii bs ≡ true → AllByRecursion (λ b. b < 128) bs
ascii_are [] h = tt
ascii_are (b ∷ bs) h = (ltb-true b 128 (and_left (nat_lt b 128) (are_ascii bs) h), ascii_are bs (and_right (nat_lt b 128) (are_ascii bs) h))

-- a word of ASCII, no longer than one may be
abbrev pub is_plain : List ℕ → Bool
is_plain name = are_ascii name && (is_plain_identifier name && nat_le (length name) most_name_bytes)

pub plain_writable : PlainAreAscii → (name : List ℕ) → is_plain name ≡ true → IsWritable (kind.Word name)
plain_writable law name h =
    let e = and_right (are_ascii name) (is_plain_identifier name && nat_le (length name) most_name_bytes) h in
    (law name (ascii_are name (and_left (are_ascii name) (is_plain_identifier name && nat_le (length name) most_name_bytes) h)) ∙ and_left (is_plain_identifier name) (nat_le (length name) most_name_bytes) e, leb-true (length name) most_name_bytes (and_right (is_plain_identifier name) (nat_le (length name) most_name_bytes) e))
