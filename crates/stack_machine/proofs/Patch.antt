-- Code is put together, and jumps are written once their targets are known.
use Rattle.std.proofs.Common.{◌≡◌, ◌≢◌, ℕ, suc, ◌+◌, ◌^◌, ◌<◌, ◌≤◌, List, [], ◌∷◌, ◌++◌, length, map, take, drop, get_or, refl, sym, ap, ◌∙◌, arith, append_assoc, length-append}
use Rattle.std.specs.Prelude.{Result, Ok, Err, slice_set}
use Rattle.std.proofs.Math.ListN.{length-set, length-take}
use Rattle.std.proofs.Math.Seq.{set-append_seam}
use Rattle.std.proofs.lemmas.List.{take_more, take-append-drop, append-nil}
use Rattle.source_meaning.specs.declared.linked.Spot.TheVariants.{Local}
use Rattle.source_meaning.specs.declared.linked.Proc.{Proc}
use Rattle.source_meaning.specs.declared.linked.LExpr.{LExpr}
use Rattle.source_meaning.specs.declared.linked.LStmt.{LStmt}
use Rattle.source_meaning.specs.declared.linked.LStmt.TheVariants.{LIf, rolls-LIf}
use Rattle.source_meaning.specs.declared.linked.LStmt.TheOpen.{LStmt-F}
use Rattle.source_meaning.specs.declared.linked.LStmt.TheFolds.{fold-roll-LStmt}
use Rattle.stack_machine.specs.declared.image.Instr.{Instr}
use Rattle.stack_machine.specs.declared.image.Instr.TheVariants.{Init, Jump, JumpFalse, Return}
use Rattle.stack_machine.specs.declared.codegen.CodeError.{CodeError}
use Rattle.stack_machine.specs.declared.codegen.CodeError.TheVariants.{CodeTooLong, NoMemory}
use Rattle.stack_machine.specs.Code.{expr_code, when_code, choice_code, if_code, stmt_step, stmt_code, body_code, init_code, proc_code}
use Rattle.stack_machine.specs.Refusal.{Emitted, most_instructions}

pub code_if : (g : LExpr) (a b : List LStmt) (at : ℕ) → stmt_code (LIf g a b) at ≡ if_code (expr_code g) (map stmt_code a) (map stmt_code b) at
code_if g a b at = ap (λ (f : ℕ → List Instr). f at) (ap stmt_code (sym (rolls-LIf g a b)) ∙ fold-roll-LStmt (ℕ → List Instr) stmt_step (LStmt-F.LIf g a b))

if_when : (g : List Instr) (a b : List LStmt) (at : ℕ) → b ≡ [] → if_code g (map stmt_code a) (map stmt_code b) at ≡ when_code g (body_code a) at
if_when g a [] at h = refl
if_when g a (y ∷ b) at h = absurd (cc)

if_choice : (g : List Instr) (a b : List LStmt) (at : ℕ) → b ≢ [] → if_code g (map stmt_code a) (map stmt_code b) at ≡ choice_code g (body_code a) (body_code b) at
if_choice g a [] at h = absurd (h refl)
if_choice g a (y ∷ b) at h = refl

-- the code of a choice without an else part, and with one
whole_when : (x : LStmt) (g : LExpr) (a b : List LStmt) (at : ℕ) → x ≡ LIf g a b → b ≡ [] → when_code (expr_code g) (body_code a) at ≡ stmt_code x at
whole_when x g a b at is h = sym (if_when (expr_code g) a b at h) ∙ sym (code_if g a b at) ∙ ap (λ s. stmt_code s at) (sym is)

whole_choice : (x : LStmt) (g : LExpr) (a b : List LStmt) (at : ℕ) → x ≡ LIf g a b → b ≢ [] → choice_code (expr_code g) (body_code a) (body_code b) at ≡ stmt_code x at
whole_choice x g a b at is h = sym (if_choice (expr_code g) a b at h) ∙ sym (code_if g a b at) ∙ ap (λ s. stmt_code s at) (sym is)

-- where a piece has no room, neither has a longer one
pub emitted_less : (old old' piece piece' : List Instr) (e : CodeError) → length old + length piece ≤ length old' + length piece' → Emitted {A = Unit {0}} old old piece (Err e) → Emitted {A = Unit {0}} old' old' piece' (Err e)
emitted_less old old' piece piece' CodeTooLong le h = omega arith
emitted_less old old' piece piece' NoMemory le h = tt

module _ (o g c1 : List Instr) (a : ℕ → List Instr) (e1 : c1 ≡ o ++ (g ++ JumpFalse 0 ∷ [])) where
  len1 : length c1 ≡ length o + length g + 1
  len1 = omega (arith, ap length e1, length-append o (g ++ JumpFalse 0 ∷ []), length-append g (JumpFalse 0 ∷ []))

  pub when_len : length c1 + length (a (length c1)) ≡ length o + length (when_code g a (length o))
  when_len =
      let body = length o + length g + 1 in
      let e = ap (λ n. length (a n)) len1 in
      omega (arith, len1, e, length-append g (JumpFalse (body + length (a body)) ∷ a body))

  pub patch_when : (c2 c3 : List Instr) (n1 : ℕ) → n1 + 1 ≡ length c1 → c2 ≡ c1 ++ a (length c1) → c3 ≡ slice_set c2 n1 (JumpFalse (length c2)) → c3 ≡ o ++ when_code g a (length o)
  patch_when c2 c3 n1 m1 e2 e3 =
      let body = length o + length g + 1 in
      let piece = a body in
      let base = o ++ g in
      let i = JumpFalse (length c2) in
      let at1 : n1 ≡ length base = omega (arith, len1, length-append o g) in
      let flat : c2 ≡ base ++ (JumpFalse 0 ∷ piece) = e2 ∙ ap (λ n. c1 ++ a n) len1 ∙ ap (λ l. l ++ piece) e1 ∙ append_assoc o (g ++ JumpFalse 0 ∷ []) piece ∙ ap (λ l. o ++ l) (append_assoc g (JumpFalse 0 ∷ []) piece) ∙ sym (append_assoc o g (JumpFalse 0 ∷ piece)) in
      let len2 : length c2 ≡ body + length piece = ap length flat ∙ omega (arith, length-append base (JumpFalse 0 ∷ piece), length-append o g) in
      e3 ∙ ap (λ l. slice_set l n1 i) flat ∙ ap (λ n. slice_set (base ++ (JumpFalse 0 ∷ piece)) n i) at1
      ∙ set-append_seam base (JumpFalse 0) piece i
      ∙ append_assoc o g (i ∷ piece)
      ∙ ap (λ n. o ++ (g ++ (JumpFalse n ∷ piece))) len2

  module _ (b : ℕ → List Instr) where
    choice_parts : length (choice_code g a b (length o)) ≡ length g + 1 + length (a (length o + length g + 1)) + 1 + length (b (length o + length g + 1 + length (a (length o + length g + 1)) + 1))
    choice_parts =
        let body = length o + length g + 1 in
        let other = body + length (a body) + 1 in
        let tail = Jump (other + length (b other)) ∷ b other in
        omega (arith, length-append g (JumpFalse other ∷ (a body ++ tail)), length-append (a body) tail)

    pub choice_first : length c1 + length (a (length c1)) ≤ length o + length (choice_code g a b (length o))
    choice_first =
        let e = ap (λ n. length (a n)) len1 in
        omega (arith, len1, e, choice_parts)

    module _ (c2 c3 c4 : List Instr) (n1 n2 : ℕ) (m1 : n1 + 1 ≡ length c1) (e2 : c2 ≡ c1 ++ a (length c1)) (m2 : n2 ≡ length c2) where
      choice_len2 : length c2 ≡ length o + length g + 1 + length (a (length o + length g + 1))
      choice_len2 =
          let e = ap (λ n. length (a n)) len1 in
          omega (arith, len1, e, ap length e2, length-append c1 (a (length c1)))

      pub choice_turn : length c2 + 1 ≤ length o + length (choice_code g a b (length o))
      choice_turn = omega (arith, choice_len2, choice_parts)

      module _ (e3 : c3 ≡ c2 ++ Jump 0 ∷ []) (e4 : c4 ≡ slice_set c3 n1 (JumpFalse (length c3))) where
        choice_len4 : length c4 ≡ length o + length g + 1 + length (a (length o + length g + 1)) + 1
        choice_len4 = omega (arith, choice_len2, ap length e3, length-append c2 (Jump 0 ∷ []), ap length e4, length-set c3 n1 (JumpFalse (length c3)))

        pub choice_second : length c4 + length (b (length c4)) ≤ length o + length (choice_code g a b (length o))
        choice_second =
            let e = ap (λ n. length (b n)) choice_len4 in
            omega (arith, choice_len4, e, choice_parts)

        pub patch_choice : (c5 c6 : List Instr) → c5 ≡ c4 ++ b (length c4) → c6 ≡ slice_set c5 n2 (Jump (length c5)) → c6 ≡ o ++ choice_code g a b (length o)
        patch_choice c5 c6 e5 e6 =
            let body = length o + length g + 1 in
            let first = a body in
            let other = body + length first + 1 in
            let second = b other in
            let base = o ++ g in
            let x = JumpFalse 0 in
            let y = Jump 0 in
            let i = JumpFalse (length c3) in
            let j = Jump (length c5) in
            let at1 : n1 ≡ length base = omega (arith, len1, m1, length-append o g) in
            let len3 : length c3 ≡ other = omega (arith, choice_len2, ap length e3, length-append c2 (y ∷ [])) in
            let flat2 : c2 ≡ base ++ (x ∷ first) = e2 ∙ ap (λ n. c1 ++ a n) len1 ∙ ap (λ l. l ++ first) e1 ∙ append_assoc o (g ++ x ∷ []) first ∙ ap (λ l. o ++ l) (append_assoc g (x ∷ []) first) ∙ sym (append_assoc o g (x ∷ first)) in
            let flat3 : c3 ≡ base ++ (x ∷ (first ++ y ∷ [])) = e3 ∙ ap (λ l. l ++ y ∷ []) flat2 ∙ append_assoc base (x ∷ first) (y ∷ []) in
            let flat4 : c4 ≡ base ++ (i ∷ (first ++ y ∷ [])) = e4 ∙ ap (λ l. slice_set l n1 i) flat3 ∙ ap (λ n. slice_set (base ++ (x ∷ (first ++ y ∷ []))) n i) at1 ∙ set-append_seam base x (first ++ y ∷ []) i in
            let front' = base ++ (i ∷ first) in
            let flat5 : c5 ≡ front' ++ (y ∷ second) = e5 ∙ ap (λ n. c4 ++ b n) choice_len4 ∙ ap (λ l. l ++ second) flat4 ∙ append_assoc base (i ∷ (first ++ y ∷ [])) second ∙ ap (λ l. base ++ (i ∷ l)) (append_assoc first (y ∷ []) second) ∙ sym (append_assoc base (i ∷ first) (y ∷ second)) in
            let at2 : n2 ≡ length front' = omega (arith, m2, choice_len2, length-append base (i ∷ first), length-append o g) in
            let len5 : length c5 ≡ other + length second = ap length flat5 ∙ omega (arith, length-append front' (y ∷ second), length-append base (i ∷ first), length-append o g) in
            e6 ∙ ap (λ l. slice_set l n2 j) flat5 ∙ ap (λ n. slice_set (front' ++ (y ∷ second)) n j) at2
            ∙ set-append_seam front' y second j
            ∙ append_assoc base (i ∷ first) (j ∷ second)
            ∙ append_assoc o g (i ∷ (first ++ j ∷ second))
            ∙ ap (λ n. o ++ (g ++ (JumpFalse n ∷ (first ++ (j ∷ second))))) len3
            ∙ ap (λ n. o ++ (g ++ (JumpFalse other ∷ (first ++ (Jump n ∷ second))))) len5

-- the parts of a choice in the code of a statement
pub first_room : (x : LStmt) (g : LExpr) (a b : List LStmt) (o c1 : List Instr) → x ≡ LIf g a b → c1 ≡ o ++ (expr_code g ++ JumpFalse 0 ∷ []) → length c1 + length (body_code a (length c1)) ≤ length o + length (stmt_code x (length o))
first_room x g a [] o c1 is e1 = omega (arith, when_len o (expr_code g) c1 (body_code a) e1, ap length (whole_when x g a [] (length o) is refl))
first_room x g a (y ∷ b) o c1 is e1 = omega (arith, choice_first o (expr_code g) c1 (body_code a) e1 (body_code (y ∷ b)), ap length (whole_choice x g a (y ∷ b) (length o) is (λ h. cc)))

pub turn_room : (x : LStmt) (g : LExpr) (a b : List LStmt) (o c1 c2 : List Instr) (n1 : ℕ) → x ≡ LIf g a b → b ≢ [] → c1 ≡ o ++ (expr_code g ++ JumpFalse 0 ∷ []) → n1 + 1 ≡ length c1 → c2 ≡ c1 ++ body_code a (length c1) → length c2 + 1 ≤ length o + length (stmt_code x (length o))
turn_room x g a b o c1 c2 n1 is some e1 m1 e2 = omega (arith, choice_turn o (expr_code g) c1 (body_code a) e1 (body_code b) c2 c2 c2 n1 (length c2) m1 e2 refl, ap length (whole_choice x g a b (length o) is some))

pub second_room : (x : LStmt) (g : LExpr) (a b : List LStmt) (o c1 c2 c3 c4 : List Instr) (n1 n2 : ℕ) → x ≡ LIf g a b → b ≢ [] → c1 ≡ o ++ (expr_code g ++ JumpFalse 0 ∷ []) → n1 + 1 ≡ length c1 → c2 ≡ c1 ++ body_code a (length c1) → n2 ≡ length c2 → c3 ≡ c2 ++ Jump 0 ∷ [] → c4 ≡ slice_set c3 n1 (JumpFalse (length c3)) → length c4 + length (body_code b (length c4)) ≤ length o + length (stmt_code x (length o))
second_room x g a b o c1 c2 c3 c4 n1 n2 is some e1 m1 e2 m2 e3 e4 = omega (arith, choice_second o (expr_code g) c1 (body_code a) e1 (body_code b) c2 c3 c4 n1 n2 m1 e2 m2 e3 e4, ap length (whole_choice x g a b (length o) is some))

pub when_whole : (x : LStmt) (g : LExpr) (a b : List LStmt) (o c1 c2 c3 : List Instr) (n1 : ℕ) → x ≡ LIf g a b → b ≡ [] → c1 ≡ o ++ (expr_code g ++ JumpFalse 0 ∷ []) → n1 + 1 ≡ length c1 → (c2 ≡ c1 ++ body_code a (length c1)) × (length c2 ≤ most_instructions) → c3 ≡ slice_set c2 n1 (JumpFalse (length c2)) → (c3 ≡ o ++ stmt_code x (length o)) × (length c3 ≤ most_instructions)
when_whole x g a b o c1 c2 c3 n1 is none e1 m1 e2 e3 = (
  patch_when o (expr_code g) c1 (body_code a) e1 c2 c3 n1 m1 e2.0 e3 ∙ ap (λ l. o ++ l) (whole_when x g a b (length o) is none),
  omega (arith, e2.1, ap length e3, length-set c2 n1 (JumpFalse (length c2))),
)

pub choice_whole : (x : LStmt) (g : LExpr) (a b : List LStmt) (o c1 c2 c3 c4 c5 c6 : List Instr) (n1 n2 : ℕ) → x ≡ LIf g a b → b ≢ [] → c1 ≡ o ++ (expr_code g ++ JumpFalse 0 ∷ []) → n1 + 1 ≡ length c1 → c2 ≡ c1 ++ body_code a (length c1) → n2 ≡ length c2 → c3 ≡ c2 ++ Jump 0 ∷ [] → c4 ≡ slice_set c3 n1 (JumpFalse (length c3)) → (c5 ≡ c4 ++ body_code b (length c4)) × (length c5 ≤ most_instructions) → c6 ≡ slice_set c5 n2 (Jump (length c5)) → (c6 ≡ o ++ stmt_code x (length o)) × (length c6 ≤ most_instructions)
choice_whole x g a b o c1 c2 c3 c4 c5 c6 n1 n2 is some e1 m1 e2 m2 e3 e4 e5 e6 = (
  patch_choice o (expr_code g) c1 (body_code a) e1 (body_code b) c2 c3 c4 n1 n2 m1 e2 m2 e3 e4 c5 c6 e5.0 e6 ∙ ap (λ l. o ++ l) (whole_choice x g a b (length o) is some),
  omega (arith, e5.1, ap length e6, length-set c5 n2 (Jump (length c5))),
)

pub body-append : (xs ys : List LStmt) (at : ℕ) → body_code (xs ++ ys) at ≡ body_code xs at ++ body_code ys (at + length (body_code xs at))
body-append [] ys at = let e : at ≡ at + 0 = omega arith in ap (body_code ys) e
body-append (x ∷ xs) ys at =
    let here = stmt_code x at in
    let mid = at + length here in
    let rest = body_code xs mid in
    let n : mid + length rest ≡ at + length (here ++ rest) = omega (arith, length-append here rest) in
    ap (λ l. here ++ l) (body-append xs ys mid)
    ∙ sym (append_assoc here rest (body_code ys (mid + length rest)))
    ∙ ap (λ k. (here ++ rest) ++ body_code ys k) n

module _ (xs : List LStmt) (i : ℕ) (x : LStmt) (o c : List Instr) (is : x ≡ get_or xs i x) (within : i < length xs) (e : c ≡ o ++ body_code (take i xs) (length o)) where
  more_code : body_code (take (i + 1) xs) (length o) ≡ body_code (take i xs) (length o) ++ (stmt_code x (length c) ++ [])
  more_code =
      let n : length o + length (body_code (take i xs) (length o)) ≡ length c = sym (ap length e ∙ length-append o (body_code (take i xs) (length o))) in
      ap (λ l. body_code l (length o)) (take_more xs i x within ∙ ap (λ y. take i xs ++ y ∷ []) (sym is))
      ∙ body-append (take i xs) (x ∷ []) (length o)
      ∙ ap (λ k. body_code (take i xs) (length o) ++ (stmt_code x k ++ [])) n

  pub body_more : (c' : List Instr) → c' ≡ c ++ stmt_code x (length c) → c' ≡ o ++ body_code (take (i + 1) xs) (length o)
  body_more c' e' =
      e' ∙ ap (λ l. l ++ stmt_code x (length c)) e
      ∙ append_assoc o (body_code (take i xs) (length o)) (stmt_code x (length c))
      ∙ ap (λ l. o ++ (body_code (take i xs) (length o) ++ l)) (sym (append-nil (stmt_code x (length c))))
      ∙ ap (λ l. o ++ l) (sym more_code)

  pub body_room : length c + length (stmt_code x (length c)) ≤ length o + length (body_code xs (length o))
  body_room =
      let first = body_code (take (i + 1) xs) (length o) in
      let whole = ap (λ l. length (body_code l (length o))) (take-append-drop (i + 1) xs) in
      let parts = body-append (take (i + 1) xs) (drop (i + 1) xs) (length o) in
      omega (arith, whole, ap length parts, length-append first (body_code (drop (i + 1) xs) (length o + length first)), ap length more_code, length-append (body_code (take i xs) (length o)) (stmt_code x (length c) ++ []), length-append (stmt_code x (length c)) [], ap length e, length-append o (body_code (take i xs) (length o)))

pub length-init_code : (k : ℕ) (ts : List ℕ) → length (init_code k ts) ≡ length ts
length-init_code k [] = refl
length-init_code k (t ∷ ts) = ap suc (length-init_code (suc k) ts)

init-append : (k : ℕ) (ts : List ℕ) (t : ℕ) → init_code k (ts ++ t ∷ []) ≡ init_code k ts ++ Init (Local (k + length ts)) t ∷ []
init-append k [] t = let e : k ≡ k + 0 = omega arith in ap (λ n. Init (Local n) t ∷ []) e
init-append k (u ∷ ts) t =
    let e : suc k + length ts ≡ k + suc (length ts) = omega arith in
    ap (λ l. Init (Local k) u ∷ l) (init-append (suc k) ts t ∙ ap (λ n. init_code (suc k) ts ++ Init (Local n) t ∷ []) e)

module _ (ts : List ℕ) (i : ℕ) (o c : List Instr) (within : i < length ts) (e : c ≡ o ++ init_code 0 (take i ts)) where
  init_len : length c ≡ length o + i
  init_len = omega (arith, ap length e, length-append o (init_code 0 (take i ts)), length-init_code 0 (take i ts), length-take i ts)

  pub init_few : length c ≤ most_instructions → i < 2 ^ 32
  init_few few = omega (arith, init_len)

  pub init_more : (t : ℕ) (c' : List Instr) → t ≡ get_or ts i 0 → c' ≡ c ++ Init (Local i) t ∷ [] → c' ≡ o ++ init_code 0 (take (i + 1) ts)
  init_more t c' is e' =
      let n : i ≡ 0 + length (take i ts) = omega (arith, length-take i ts) in
      e' ∙ ap (λ l. l ++ Init (Local i) t ∷ []) e ∙ append_assoc o (init_code 0 (take i ts)) (Init (Local i) t ∷ [])
      ∙ ap (λ k. o ++ (init_code 0 (take i ts) ++ Init (Local k) t ∷ [])) n
      ∙ ap (λ u. o ++ (init_code 0 (take i ts) ++ Init (Local (0 + length (take i ts))) u ∷ [])) is
      ∙ ap (λ l. o ++ l) (sym (init-append 0 (take i ts) (get_or ts i 0)))
      ∙ ap (λ l. o ++ init_code 0 l) (sym (take_more ts i 0 within))

  pub init_room : length c + 1 ≤ length o + length (init_code 0 ts)
  init_room = omega (arith, init_len, length-init_code 0 ts)

module _ (p : Proc) (o c1 : List Instr) (none : o ≡ []) (e1 : c1 ≡ o ++ init_code 0 p.locals) where
  proc_len : length c1 ≡ length p.locals
  proc_len = omega (arith, ap length e1, ap length none, length-append o (init_code 0 p.locals), length-init_code 0 p.locals)

  pub proc_room : length c1 + length (body_code p.body (length c1)) ≤ length o + length (proc_code p)
  proc_room =
      let n = length p.locals in
      let e = ap (λ k. length (body_code p.body k)) proc_len in
      omega (arith, e, proc_len, ap length none, length-init_code 0 p.locals, length-append (init_code 0 p.locals) (body_code p.body n ++ Return ∷ []), length-append (body_code p.body n) (Return ∷ []))

  pub proc_whole : {A : Type 0} (r : Result A CodeError) (c2 c3 : List Instr) → c2 ≡ c1 ++ body_code p.body (length c1) → Emitted c2 c3 (Return ∷ []) r → Emitted o c3 (proc_code p) r
  proc_whole (Ok x) c2 c3 e2 h =
      let init = init_code 0 p.locals in
      let n = length p.locals in
      (h.0 ∙ ap (λ l. l ++ Return ∷ []) (e2 ∙ ap (λ k. c1 ++ body_code p.body k) proc_len ∙ ap (λ l. l ++ body_code p.body n) e1) ∙ append_assoc (o ++ init) (body_code p.body n) (Return ∷ []) ∙ append_assoc o init (body_code p.body n ++ Return ∷ []), h.1)
  proc_whole (Err CodeTooLong) c2 c3 e2 h =
      let n = length p.locals in
      let e = ap (λ k. length (body_code p.body k)) proc_len in
      omega (arith, e, proc_len, ap length e2, length-append c1 (body_code p.body (length c1)), ap length none, length-init_code 0 p.locals, length-append (init_code 0 p.locals) (body_code p.body n ++ Return ∷ []), length-append (body_code p.body n) (Return ∷ []))
  proc_whole (Err NoMemory) c2 c3 e2 h = tt

pub locals_few : (p : Proc) → length (proc_code p) ≤ most_instructions → length p.locals < 2 ^ 32
locals_few p few =
    let n = length p.locals in
    omega (arith, length-init_code 0 p.locals, length-append (init_code 0 p.locals) (body_code p.body n ++ Return ∷ []))
