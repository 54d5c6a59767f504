-- The bytes that came from a source so far.
use Rattle.std.proofs.Common.{◌≡◌, ◌∙◌, ℕ, ◌+◌, ◌<◌, ℤ, List, [], ◌++◌, length, drop, Option, Some, None, Result, Ok, Err, refl, sym, ap, arith, length-append}
use Rattle.std.proofs.lemmas.Bool.{cond-true, lt-ltb}
use Rattle.std.proofs.Math.Seq.{drop-append_seam}
use Rattle.edge_io.specs.declared.numbers.InputError.{InputError}
use Rattle.edge_io.specs.declared.numbers.InputError.TheVariants.{Failed, TooLong, NoNumber, TooMany, NoMemory}
use Rattle.std.specs.Prelude.{IsErrOf, Vec}
use Rattle.std.specs.declared.alloc.Global.{Global}
use Rattle.edge_io.specs.Numbers.{most_text_bytes, Answers, HadLeft, NothingLeft, IsText, IsReading, reading}

-- bytes came from the front of what a source had left, where it told
abbrev pub Came : Option (List ℕ) → Option (List ℕ) → List ℕ → Type 0
Came None now bytes = Unit {0}
Came (Some left) now bytes = (rest : List ℕ) × (now ≡ Some rest) × (bytes ++ rest ≡ left)

-- a text of which one byte came that it may not have
pub came_many : (old now : Option (List ℕ)) (bytes : List ℕ) → Came old now bytes → length bytes ≡ most_text_bytes + 1 → IsText old now (Err TooLong)
came_many None now bytes came many = (bytes, tt, omega (arith, many), tt)
came_many (Some left) now bytes (rest, is, whole) many =
    let long : most_text_bytes < length left = omega (arith, many, ap (λ (l : List ℕ). length l) whole, length-append bytes rest) in
    let gone : drop (most_text_bytes + 1) left ≡ rest = ap (λ n. drop n left) (sym many) ∙ ap (drop (length bytes)) (sym whole) ∙ drop-append_seam bytes rest in
    (left, refl, long, is ∙ ap Some (sym gone))

-- a source had something left
some_text : (old : Option (List ℕ)) → (text : List ℕ) × HadLeft old text
some_text None = ([], tt)
some_text (Some left) = (left, refl)

long : (text : List ℕ) → most_text_bytes < length text → reading text ≡ Err TooLong
long text many = cond-true _ _ _ (lt-ltb most_text_bytes (length text) many)

-- a text that was refused has no numbers
pub refused : (old new : Option (List ℕ)) (e : InputError) → IsText old new (Err e) → IsReading old new (Err e)
refused old new Failed h = let text = some_text old in (text.0, text.1, tt, tt)
refused old new TooLong h = (h.0, h.1, long h.0 h.2, h.3)
refused old new (NoNumber at) h = absurd h
refused old new (TooMany at) h = absurd h
refused old new NoMemory h = let text = some_text old in (text.0, text.1, tt, tt)

-- the numbers of a text that was read to its end
pub parsed : (old new : Option (List ℕ)) (text : List ℕ) (r : Result (Vec ℤ Global) InputError) → HadLeft old text → NothingLeft old new → Answers text r → (IsErrOf r TooLong → ⊥) → IsReading old new r
parsed old new text (Ok ns) had none a short = (text, had, a, none)
parsed old new text (Err Failed) had none a short = (text, had, a, tt)
parsed old new text (Err TooLong) had none a short = absurd (short refl)
parsed old new text (Err (NoNumber at)) had none a short = (text, had, a, none)
parsed old new text (Err (TooMany at)) had none a short = (text, had, a, none)
parsed old new text (Err NoMemory) had none a short = (text, had, a, tt)
