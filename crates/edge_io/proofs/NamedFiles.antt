-- What a list of named files has under a name, and after a change.
use Rattle.std.proofs.Common.{◌≡◌, ◌≢◌, ℕ, zero, suc, ◌+◌, ◌<◌, Bool, true, false, List, [], ◌∷◌, ◌++◌, length, take, Some, None, slice_get, slice_set, get_or, add-one, refl, sym, ◌∙◌, ap}
use Rattle.std.proofs.Math.Seq.{take-suc}
use Rattle.std.specs.Bool.{Decides}
use Rattle.std.proofs.lemmas.Slice.Eq.{bytes_eq-Decides}
use Rattle.edge_io.specs.Memory.{files_of}
use Rattle.edge_io.specs.working.First.{IsFirst}

is_false : (b : Bool) (P : Type 0) → Decides b P → ¬ P → b ≡ false
is_false true P d refuted = absurd (refuted (d.0 refl))
is_false false P d refuted = refl

found : (file : List ℕ × List ℕ) (name bytes : List ℕ) → Some file ≡ Some (name, bytes) → file ≡ (name, bytes)
found file name bytes e = cc

pub files_of-hit : (file : List ℕ × List ℕ) (files : List (List ℕ × List ℕ)) (name : List ℕ) → file.0 ≡ name → files_of (file ∷ files) name ≡ Some file.1
files_of-hit file files name e = rw ((bytes_eq-Decides file.0 name).1 e) refl

pub files_of-miss : (file : List ℕ × List ℕ) (files : List (List ℕ × List ℕ)) (name : List ℕ) → file.0 ≢ name → files_of (file ∷ files) name ≡ files_of files name
files_of-miss file files name ne = rw (is_false _ _ (bytes_eq-Decides file.0 name) ne) refl

-- a name that a list does not hold is not its first one
miss_from_none : (file : List ℕ × List ℕ) (files : List (List ℕ × List ℕ)) (name : List ℕ) → files_of (file ∷ files) name ≡ None → file.0 ≢ name
miss_from_none file files name e same = let h = files_of-hit file files name same in cc

pub files_of-append : (xs ys : List (List ℕ × List ℕ)) (name : List ℕ) → files_of xs name ≡ None → files_of (xs ++ ys) name ≡ files_of ys name
files_of-append [] ys name e = refl
files_of-append (x ∷ xs) ys name e =
    let ne = miss_from_none x xs name e in
    files_of-miss x (xs ++ ys) name ne ∙ files_of-append xs ys name (sym (files_of-miss x xs name ne) ∙ e)

pub files_of-append_other : (xs : List (List ℕ × List ℕ)) (file : List ℕ × List ℕ) (name : List ℕ) → file.0 ≢ name → files_of (xs ++ file ∷ []) name ≡ files_of xs name
files_of-append_other [] file name ne = files_of-miss file [] name ne
files_of-append_other (x ∷ xs) file name ne = rw (files_of-append_other xs file name ne) refl

pub files_of-set : (files : List (List ℕ × List ℕ)) (at : ℕ) (name bytes : List ℕ) → IsFirst files name at → files_of (slice_set files at (name, bytes)) name ≡ Some bytes
files_of-set [] at name bytes (none, (old, e)) = cc
files_of-set (x ∷ xs) zero name bytes first = files_of-hit (name, bytes) xs name refl
files_of-set (x ∷ xs) (suc at) name bytes (none, (old, e)) =
    let ne = miss_from_none x (take at xs) name none in
    files_of-miss x (slice_set xs at (name, bytes)) name ne ∙ files_of-set xs at name bytes (sym (files_of-miss x (take at xs) name ne) ∙ none, (old, e))

pub files_of-set_other : (files : List (List ℕ × List ℕ)) (at : ℕ) (name bytes old other : List ℕ) → slice_get files at ≡ Some (name, old) → name ≢ other → files_of (slice_set files at (name, bytes)) other ≡ files_of files other
files_of-set_other [] at name bytes old other e ne = refl
files_of-set_other (x ∷ xs) zero name bytes old other e ne =
    let same = ap (λ (file : List ℕ × List ℕ). file.0) (found x name old e) in
    files_of-miss (name, bytes) xs other ne ∙ sym (files_of-miss x xs other (λ h. ne (sym same ∙ h)))
files_of-set_other (x ∷ xs) (suc at) name bytes old other e ne = rw (files_of-set_other xs at name bytes old other e ne) refl

-- the place of the first file of a name gives the file
pub files_of-first : (files : List (List ℕ × List ℕ)) (at : ℕ) (name bytes : List ℕ) → files_of (take at files) name ≡ None → slice_get files at ≡ Some (name, bytes) → files_of files name ≡ Some bytes
files_of-first [] at name bytes none e = cc
files_of-first (x ∷ xs) zero name bytes none e =
    let h = found x name bytes e in
    files_of-hit x xs name (ap (λ (file : List ℕ × List ℕ). file.0) h) ∙ ap (λ (file : List ℕ × List ℕ). Some file.1) h
files_of-first (x ∷ xs) (suc at) name bytes none e =
    let ne = miss_from_none x (take at xs) name none in
    files_of-miss x xs name ne ∙ files_of-first xs at name bytes (sym (files_of-miss x (take at xs) name ne) ∙ none) e

-- a file of another name leaves a list without that name
pub none_further : (files : List (List ℕ × List ℕ)) (at : ℕ) (file : List ℕ × List ℕ) (name : List ℕ) → at < length files → file ≡ get_or files at file → files_of (take at files) name ≡ None → file.0 ≢ name → files_of (take (at + 1) files) name ≡ None
none_further files at file name lt is none ne =
    rw (add-one, take-suc files at file lt, ← is) (files_of-append (take at files) (file ∷ []) name none ∙ files_of-miss file [] name ne)

-- After the first file of a name was replaced, and after a file of a new name was appended.
pub replaced : (files : List (List ℕ × List ℕ)) (at : ℕ) (name bytes text held : List ℕ) → text ≡ name → held ≡ bytes → IsFirst files name at → files_of (slice_set files at (text, held)) name ≡ Some bytes
replaced files at name bytes text held named copied first =
    rw (named, copied) (files_of-set files at name bytes first)

pub replaced_other : (files : List (List ℕ × List ℕ)) (at : ℕ) (name other text held : List ℕ) → text ≡ name → IsFirst files name at → other ≢ name → files_of (slice_set files at (text, held)) other ≡ files_of files other
replaced_other files at name other text held named (none, (old, e)) ne =
    rw named (files_of-set_other files at name held old other e (λ h. ne (sym h)))

pub pushed : (files : List (List ℕ × List ℕ)) (name bytes text held : List ℕ) → text ≡ name → held ≡ bytes → files_of files name ≡ None → files_of (files ++ (text, held) ∷ []) name ≡ Some bytes
pushed files name bytes text held named copied none =
    files_of-append files ((text, held) ∷ []) name none ∙ files_of-hit (text, held) [] name named ∙ ap (λ bytes. Some bytes) copied

pub pushed_other : (files : List (List ℕ × List ℕ)) (name other text held : List ℕ) → text ≡ name → other ≢ name → files_of (files ++ (text, held) ∷ []) other ≡ files_of files other
pushed_other files name other text held named ne =
    files_of-append_other files (text, held) other (λ h. ne (sym h ∙ named))
