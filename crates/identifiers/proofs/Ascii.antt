-- Identifiers of ASCII alone.
use Rattle.std.proofs.Common.{◌≡◌, ℕ, zero, suc, ◌<◌, ◌∙◌, true, ◌&&◌, ◌||◌, ◌==◌, List, [], ◌∷◌, chars, IsAscii, refl, ap, ap₂, arith}
use Rattle.std.proofs.lemmas.Str.{char_from_byte, chars-IsAscii, IsUtf8-from_ascii, is_utf8-from_IsUtf8}
use Rattle.std.specs.List.{list_all, AllByRecursion}
use Rattle.std.specs.Str.{is_utf8}
use Rattle.unicode_ident.specs.Ident.{is_xid_continue}
use Rattle.unicode_ident.proofs.IdentLemmas.{is_xid_start-ascii, is_xid_continue-ascii}
use Rattle.identifiers.proofs.Spelling.{none}
use Rattle.identifiers.specs.Laws.{BeginsNone, EndsAll}
use Rattle.identifiers.specs.Identifiers.{begins_identifier, spell_identifier, is_identifier, is_plain_identifier, is_letter, is_letter_or_digit}

ascii : (bytes : List ℕ) → AllByRecursion (λ b. b < 128) bytes → IsAscii bytes
ascii [] h i = omega arith
ascii (b ∷ bs) h zero = h.0
ascii (b ∷ bs) h (suc i) = ascii bs h.1 i

letter : (b : ℕ) → b < 128 → begins_identifier b ≡ is_letter b
letter b low = ap (λ x. x || b == 95) (is_xid_start-ascii b low)

letter_or_digit : (b : ℕ) → b < 128 → is_xid_continue b ≡ is_letter_or_digit b
letter_or_digit b low = is_xid_continue-ascii b low ∙ grind arith

all_letters : (bytes : List ℕ) → AllByRecursion (λ b. b < 128) bytes → list_all is_xid_continue bytes ≡ list_all is_letter_or_digit bytes
all_letters [] h = refl
all_letters (b ∷ bs) h = ap₂ (λ x y. x && y) (letter_or_digit b h.0) (all_letters bs h.1)

spelling : (bytes : List ℕ) → AllByRecursion (λ b. b < 128) bytes → spell_identifier bytes ≡ is_plain_identifier bytes
spelling [] h = refl
spelling (b ∷ bs) h = ap₂ (λ x y. x && y) (letter b h.0) (all_letters bs h.1)

pub plain : (name : List ℕ) → AllByRecursion (λ b. b < 128) name → is_identifier name ≡ is_plain_identifier name
unfolding is_identifier
plain name h =
    let low = ascii name h in
    let text : is_utf8 name ≡ true = is_utf8-from_IsUtf8 name (IsUtf8-from_ascii name low) in
    let characters : chars name ≡ name = chars-IsAscii name low in
    ap₂ (λ x cs. x && spell_identifier cs) text characters ∙ spelling name h

pub begins_none : BeginsNone
begins_none b bs low other =
    none (b ∷ bs) (λ c rest scalar e.
    let is : c ≡ b = char_from_byte (b ∷ bs) rest c e low (omega arith) in
    ap begins_identifier is ∙ letter b low ∙ other)

pub ends_all : EndsAll
ends_all b bs low other c rest scalar e =
    let is : c ≡ b = char_from_byte (b ∷ bs) rest c e low (omega arith) in
    ap is_xid_continue is ∙ letter_or_digit b low ∙ other
