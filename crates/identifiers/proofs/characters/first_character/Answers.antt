use Rattle.std.proofs.Common.{ℕ, List, [], ◌≡◌, ◌+◌, ◌<◌, ◌≤◌, ◌++◌, ◌∙◌, sym, subst, ap, take, drop, length, encode_utf8, IsUtf8, append_assoc, append-nil, min, ◌∷◌, take-append-drop, length-append, length-take-le, arith}
use Rattle.std.proofs.Math.Seq.{take-append_seam}
use Rattle.std.proofs.lemmas.Str.{IsUtf8-encode, len_utf8_bounds, length-encode}
use Rattle.std.specs.Char.{IsScalar}
use Rattle.identifiers.proofs.characters.first_character.Goals as goal

-- a character has one to four bytes
bytes_of : (c : ℕ) → (1 ≤ length (encode_utf8 c)) × (length (encode_utf8 c) ≤ 4)
bytes_of c =
    let bounds = len_utf8_bounds c in
    (omega (arith, bounds.0, length-encode c), omega (arith, bounds.1, length-encode c))

-- where no character of fewer bytes begins the text, and these bytes are not one, it has more
more_bytes : (bytes rest : List ℕ) (n c : ℕ) → IsScalar c → bytes ≡ encode_utf8 c ++ rest → 0 < n → n ≤ length (encode_utf8 c) → (IsUtf8 (take n bytes) → take n bytes ≡ []) → n + 1 ≤ length (encode_utf8 c)
more_bytes bytes rest n c scalar e some most fails = grind (arith, most, differs)
  where
    differs : n ≡ length (encode_utf8 c) → ⊥
    differs same =
        let front : take n bytes ≡ encode_utf8 c = ap (λ l. take n l) e ∙ ap (λ m. take m (encode_utf8 c ++ rest)) same ∙ take-append_seam (encode_utf8 c) rest in
        let none = fails (subst IsUtf8 (sym front) (IsUtf8-encode c scalar)) in
        omega (arith, (bytes_of c).0, ap length (sym front ∙ none))

-- no character has so many bytes
none : (bytes rest : List ℕ) (n c : ℕ) → bytes ≡ encode_utf8 c ++ rest → (end : ℕ) → end ≡ min (length bytes) 4 → end ≤ n → n + 1 ≤ length (encode_utf8 c) → ⊥
none bytes rest n c e end is last more =
    omega (arith, (bytes_of c).1, ap length e, length-append (encode_utf8 c) rest, is, last, more)

pub loop-len-init : goal.loop-len-init
loop-len-init c = λ d rest scalar e. (bytes_of d).0

pub returns-in-Some : goal.returns-in-Some
returns-in-Some c =
    let scalar = c.in-Some.ensures.0 in
    let more = c.in-Some.ensures.1.0 in
    let front = c.in-Some.ensures.1.1 in
    let fits : c.loop-len.len ≤ length c.args.bytes.now = omega (arith, c.loop-len-test.true, c.min-len-end.ensures) in
    let whole = sym (take-append-drop c.loop-len.len c.args.bytes.now) ∙ ap (λ l. l ++ drop c.loop-len.len c.args.bytes.now) front ∙ append_assoc (encode_utf8 c.in-Some.character) more (drop c.loop-len.len c.args.bytes.now) in
    let most = c.loop-len.invariant c.in-Some.character (more ++ drop c.loop-len.len c.args.bytes.now) scalar whole in
    let sum = sym (length-take-le c.loop-len.len c.args.bytes.now fits) ∙ ap length front ∙ length-append (encode_utf8 c.in-Some.character) more in
    (scalar, alone (encode_utf8 c.in-Some.character) more (take c.loop-len.len c.args.bytes.now) front (omega (arith, most, sum)), omega arith, fits)
  where
    alone : (xs ys zs : List ℕ) → zs ≡ xs ++ ys → length ys ≡ 0 → zs ≡ xs
    alone xs [] zs e none = e ∙ append-nil xs
    alone xs (y ∷ ys) zs e none = absurd (omega (arith, none))

pub loop-len-preserved : goal.loop-len-preserved
loop-len-preserved c = λ d rest scalar e.
    more_bytes c.args.bytes.now rest c.loop-len.len d scalar e (omega arith) (c.loop-len.invariant d rest scalar e) c.in_default.ensures

pub returns-in_default : goal.returns-in_default
returns-in_default c = λ d rest scalar e.
    let more = more_bytes c.args.bytes.now rest c.loop-len.len d scalar e (omega arith) (c.loop-len.invariant d rest scalar e) c.in_default.ensures in
    none c.args.bytes.now rest c.loop-len.len d e c.min-len-end.result c.min-len-end.ensures (omega arith) more

pub returns : goal.returns
returns c = λ d rest scalar e.
    omega (arith, (bytes_of d).0, ap length e, length-append (encode_utf8 d) rest, c.min-len-end.ensures, c.loop-len-test.false, c.loop-len.auto.len, c.loop-len.invariant d rest scalar e, (bytes_of d).1)
