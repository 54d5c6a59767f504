-- The code of statements does what the statements do.
use Rattle.std.proofs.Common.{◌≡◌, ℕ, zero, suc, ◌+◌, ◌≤◌, ℤ, List, [], ◌∷◌, ◌++◌, length, map, Bool, true, false, ◌&&◌, Option, Some, None, refl, sym, ap, ◌∙◌, subst, arith, length-append}
use Rattle.std.specs.Prelude.{Ok, Err, slice_get, if◌then◌else◌}
use Rattle.std.specs.List.{list_all}
use Rattle.std.proofs.lemmas.Bool.{and_parts}
use Rattle.source_meaning.specs.declared.linked.Scalar.{Scalar}
use Rattle.source_meaning.specs.declared.linked.Spot.{Spot}
use Rattle.source_meaning.specs.declared.linked.LExpr.{LExpr}
use Rattle.source_meaning.specs.declared.linked.LStmt.{LStmt}
use Rattle.source_meaning.specs.declared.linked.LStmt.TheOpen.{LStmt-F}
use Rattle.source_meaning.specs.declared.linked.LStmt.TheViews.{roll-LStmt}
use Rattle.source_meaning.specs.declared.linked.LStmt.TheFolds.{map-LStmt, fold-roll-LStmt, ind-LStmt}
use Rattle.source_meaning.specs.declared.trace.End.TheVariants.{Done, Spent, Deep, Wrong}
use Rattle.source_meaning.specs.Meaning.{Store, Run, Going, Over, number, truth, value, given, next, set, write, read, in_order, paid, run_step, run_one, Found}
use Rattle.source_meaning.specs.Formed.{Kind, Number, Truth, kind_at, kind_of, same_kind, fits_step, fits}
use Rattle.stack_machine.specs.declared.image.Instr.{Instr}
use Rattle.stack_machine.specs.declared.image.Instr.TheVariants as instr
use Rattle.stack_machine.specs.declared.image.Image.{Image}
use Rattle.stack_machine.specs.Machine.{Frame, State, settled}
use Rattle.stack_machine.specs.Code.{expr_code, joined, when_code, choice_code, if_code, stmt_step, stmt_code}
use Rattle.stack_machine.proofs.Going.{go}
use Rattle.stack_machine.proofs.Expressions.{HasAt, has_front, has_back, Fit, cells, store_at, stands, frame, one, then_one, then_more, Gives, expr_runs}

-- the state of the machine between statements
abbrev pub at : ℕ → Store → State
at pc s = stands pc (cells s.locals) [] s.input s.output

-- the same kind on both sides
record SameKind (i j : Option Kind) : Type 0 where
  kind : Kind
  left : i ≡ Some kind
  right : j ≡ Some kind

same_known : (i j : Option Kind) → same_kind i j ≡ true → SameKind i j
same_known (Some Number) (Some Number) h = record { kind = Number; left = refl; right = refl }
same_known (Some Number) (Some Truth) h = absurd (cc)
same_known (Some Number) None h = absurd (cc)
same_known (Some Truth) (Some Truth) h = record { kind = Truth; left = refl; right = refl }
same_known (Some Truth) (Some Number) h = absurd (cc)
same_known (Some Truth) None h = absurd (cc)
same_known None j h = absurd (cc)

module _ (image : Image) (kinds : List (Option Kind)) where
  -- the machine comes to a store at an address, in at least as many steps as fuel was paid of so much
  pub record Comes (from : State) (to need : ℕ) (t : Store) : Type 0 where
    pub by : ℕ
    pub steps : go image from by ≡ Some (at to t)
    pub paid : need ≤ t.fuel + by
    pub fit : Fit kinds t.locals

  -- the machine has made as many steps, and still runs
  pub record Spends (from : State) (need : ℕ) (t : Store) : Type 0 where
    pub by : ℕ
    pub frame : Frame
    pub input : List ℤ
    pub steps : go image from by ≡ Some (record { frames = frame ∷ []; input = input; output = t.output })
    pub paid : need ≤ by

  abbrev pub Runs : State → ℕ → ℕ → Run → Type 0
  Runs from to need (Going t) = Comes from to need t
  Runs from to need (Over Done t) = ⊥
  Runs from to need (Over Spent t) = Spends from need t
  Runs from to need (Over Deep t) = ⊥
  Runs from to need (Over (Wrong w) t) = Unit {0}

  ends_at : (from : State) (to to' need : ℕ) (r : Run) → to ≡ to' → Runs from to need r → Runs from to' need r
  ends_at from to to' need r e h = let P : ℕ → Type 0 = λ n. Runs from n need r in subst P e h

  -- some steps first
  after_steps : (from mid : State) (n to need need' : ℕ) (r : Run) → go image from n ≡ Some mid → need ≤ need' + n → Runs mid to need' r → Runs from to need r
  after_steps from mid n to need need' (Going t) g le h = record {
    by = n + h.by;
    steps = then_more image from mid n h.by _ g h.steps;
    paid = omega (arith, h.paid);
    fit = h.fit;
  }
  after_steps from mid n to need need' (Over Done t) g le h = h
  after_steps from mid n to need need' (Over Spent t) g le h = record {
    by = n + h.by;
    frame = h.frame;
    input = h.input;
    steps = then_more image from mid n h.by _ g h.steps;
    paid = omega (arith, h.paid);
  }
  after_steps from mid n to need need' (Over Deep t) g le h = h
  after_steps from mid n to need need' (Over (Wrong w) t) g le h = tt

  seq_run : (from : State) (mid to need : ℕ) (r : Run) (g : Store → Run) → Runs from mid need r → ((t : Store) → Fit kinds t.locals → Runs (at mid t) to t.fuel (g t)) → Runs from to need (next r g)
  seq_run from mid to need (Going t) g h k = after_steps from (at mid t) h.by to need t.fuel (g t) h.steps h.paid (k t h.fit)
  seq_run from mid to need (Over Done t) g h k = h
  seq_run from mid to need (Over Spent t) g h k = h
  seq_run from mid to need (Over Deep t) g h k = h
  seq_run from mid to need (Over (Wrong w) t) g h k = tt

  -- a jump at the end
  jump_on : (from : State) (mid to need : ℕ) (r : Run) → slice_get image.code mid ≡ Some (instr.Jump to) → Runs from mid need r → Runs from to need r
  jump_on from mid to need (Going t) i h = record {
    by = h.by + 1;
    steps = then_one image from h.by mid (cells t.locals) [] t.input t.output (instr.Jump to) (at to t) h.steps i refl;
    paid = omega (arith, h.paid);
    fit = h.fit;
  }
  jump_on from mid to need (Over Done t) i h = h
  jump_on from mid to need (Over Spent t) i h = h
  jump_on from mid to need (Over Deep t) i h = h
  jump_on from mid to need (Over (Wrong w) t) i h = tt

  -- a unit of fuel, where there is one
  pay_run : (s : Store) (f pc to : ℕ) (d : Store → Run) → ((n : ℕ) → Runs (at pc s) to (suc n) (d (record s { fuel = n }))) → Runs (at pc s) to f (paid f s d)
  pay_run s zero pc to d h = record { by = 0; frame = frame pc (cells s.locals) []; input = s.input; steps = refl; paid = omega arith }
  pay_run s (suc n) pc to d h = h n

  set_run : (s : Store) (pc n : ℕ) (p : Spot) (k : Kind) (found : Found) → Fit kinds s.locals → kind_at kinds p ≡ Some k → slice_get image.code (pc + n) ≡ Some (instr.Store p) → Gives image (cells s.locals) s.input s.output pc [] [] n k found → Runs (at pc s) (pc + n + 1) (suc s.fuel) (given s found (set s p))
  set_run s pc n p k (Ok v) fit kp i g =
      let st = store_at kinds s.locals p v fit (kp ∙ ap Some (sym g.1)) in
      let f = frame (pc + n) (cells s.locals) (v ∷ []) in
      let act_is = ap (settled f [] s.input s.output [] p) st.cell ∙ ap (λ c. Some (stands (pc + n + 1) c [] s.input s.output)) st.locals in
      record {
        by = n + 1;
        steps = then_one image (at pc s) n (pc + n) (cells s.locals) (v ∷ []) s.input s.output (instr.Store p) _ g.0 i act_is;
        paid = omega arith;
        fit = st.fit;
      }
  set_run s pc n p k (Err w) fit kp i g = tt

  read_run : (locals : List Scalar) (input output : List ℤ) (fuel pc : ℕ) (p : Spot) → Fit kinds locals → kind_at kinds p ≡ Some Number → slice_get image.code pc ≡ Some (instr.ReadIn p) → Runs (stands pc (cells locals) [] input output) (pc + 1) (suc fuel) (read (record { locals = locals; input = input; output = output; fuel = fuel }) p input)
  read_run locals [] output fuel pc p fit kp i = tt
  read_run locals (n ∷ input) output fuel pc p fit kp i =
      let st = store_at kinds locals p (Scalar.Int n) fit kp in
      let f = frame pc (cells locals) [] in
      let act_is = ap (settled f [] input output [] p) st.cell ∙ ap (λ c. Some (stands (pc + 1) c [] input output)) st.locals in
      record {
        by = 1;
        steps = one image pc (cells locals) [] (n ∷ input) output (instr.ReadIn p) _ i act_is;
        paid = omega arith;
        fit = st.fit;
      }

  write_run : (s : Store) (pc n : ℕ) (found : Found) → Fit kinds s.locals → slice_get image.code (pc + n) ≡ Some instr.WriteOut → Gives image (cells s.locals) s.input s.output pc [] [] n Number found → Runs (at pc s) (pc + n + 1) (suc s.fuel) (given s found (λ v. write s (number v)))
  write_run s pc n (Ok (Scalar.Int m)) fit i g = record {
    by = n + 1;
    steps = then_one image (at pc s) n (pc + n) (cells s.locals) (Scalar.Int m ∷ []) s.input s.output instr.WriteOut _ g.0 i refl;
    paid = omega arith;
    fit = fit;
  }
  write_run s pc n (Ok (Scalar.Bool b)) fit i g = absurd (cc g.1)
  write_run s pc n (Err w) fit i g = tt

  -- a choice, from what its two parts do
  if_run : (s : Store) (pc n other to : ℕ) (found : Found) (a b : Store → Run) → slice_get image.code (pc + n) ≡ Some (instr.JumpFalse other) → Gives image (cells s.locals) s.input s.output pc [] [] n Truth found → Runs (at (pc + n + 1) s) to s.fuel (a s) → Runs (at other s) to s.fuel (b s) → Runs (at pc s) to (suc s.fuel) (given s found (λ v. if truth v then a s else b s))
  if_run s pc n other to (Ok (Scalar.Int m)) a b i g ra rb = absurd (cc g.1)
  if_run s pc n other to (Ok (Scalar.Bool true)) a b i g ra rb =
      after_steps (at pc s) (at (pc + n + 1) s) (n + 1) to (suc s.fuel) s.fuel (a s)
      (then_one image (at pc s) n (pc + n) (cells s.locals) (Scalar.Bool true ∷ []) s.input s.output (instr.JumpFalse other) _ g.0 i refl) (omega arith) ra
  if_run s pc n other to (Ok (Scalar.Bool false)) a b i g ra rb =
      after_steps (at pc s) (at other s) (n + 1) to (suc s.fuel) s.fuel (b s)
      (then_one image (at pc s) n (pc + n) (cells s.locals) (Scalar.Bool false ∷ []) s.input s.output (instr.JumpFalse other) _ g.0 i refl) (omega arith) rb
  if_run s pc n other to (Err w) a b i g ra rb = tt

  -- The code of a statement does what the statement does.
  abbrev pub Does : LStmt → Type 0
  Does x = (s : Store) (pc : ℕ) → fits kinds x ≡ true → Fit kinds s.locals → HasAt image.code pc (stmt_code x pc) → Runs (at pc s) (pc + length (stmt_code x pc)) s.fuel (run_one x s)

  abbrev pub bare : List ((x : LStmt) × Does x) → List LStmt
  bare ys = map (λ e. e.0) ys

  -- statements one after another
  pub all_run : (ys : List ((x : LStmt) × Does x)) (s : Store) (pc : ℕ) → list_all (λ b. b) (map (fits kinds) (bare ys)) ≡ true → Fit kinds s.locals → HasAt image.code pc (joined (map stmt_code (bare ys)) pc) → Runs (at pc s) (pc + length (joined (map stmt_code (bare ys)) pc)) s.fuel (in_order (map run_one (bare ys)) s)
  all_run [] s pc h fit has = record { by = 0; steps = (let e : pc ≡ pc + 0 = omega arith in ap (λ n. Some (at n s)) e); paid = omega arith; fit = fit }
  all_run (y ∷ ys) s pc h fit has =
      let both = and_parts (fits kinds y.0) (list_all (λ b. b) (map (fits kinds) (bare ys))) h in
      let here = stmt_code y.0 pc in
      let mid = pc + length here in
      let rest = joined (map stmt_code (bare ys)) mid in
      let len : mid + length rest ≡ pc + length (here ++ rest) = omega (arith, length-append here rest) in
      ends_at (at pc s) _ _ s.fuel _ len
      (seq_run (at pc s) mid (mid + length rest) s.fuel (run_one y.0 s) (in_order (map run_one (bare ys)))
      (y.1 s pc both.0 fit (has_front image.code pc here rest has))
      (λ t f. all_run ys t mid both.1 f (has_back image.code pc here rest has)))

  abbrev LayerDoes : LStmt-F LStmt → Type 0
  LayerDoes x = (s : Store) (pc : ℕ) → fits_step kinds (map-LStmt LStmt Bool (fits kinds) x) ≡ true → Fit kinds s.locals → HasAt image.code pc (stmt_step (map-LStmt LStmt (ℕ → List Instr) stmt_code x) pc) → Runs (at pc s) (pc + length (stmt_step (map-LStmt LStmt (ℕ → List Instr) stmt_code x) pc)) s.fuel (run_step (map-LStmt LStmt (Store → Run) run_one x) s)

  rolled : (x : LStmt-F LStmt) → LayerDoes x → Does (roll-LStmt x)
  rolled x h s pc hf fit has =
      let cc' = ap (λ (f : ℕ → List Instr). f pc) (fold-roll-LStmt (ℕ → List Instr) stmt_step x) in
      let fc = fold-roll-LStmt Bool (fits_step kinds) x in
      let rc = ap (λ (f : Store → Run). f s) (fold-roll-LStmt (Store → Run) run_step x) in
      let H : List Instr → Type 0 = λ c. HasAt image.code pc c in
      let C : List Instr → Type 0 = λ c. Runs (at pc s) (pc + length c) s.fuel (run_one (roll-LStmt x) s) in
      let V : Run → Type 0 = λ v. Runs (at pc s) (pc + length (stmt_step (map-LStmt LStmt (ℕ → List Instr) stmt_code x) pc)) s.fuel v in
      subst C (sym cc') (subst V (sym rc) (h s pc (sym fc ∙ hf) fit (subst H cc' has)))

  when_run : (g : LExpr) (a : List ((x : LStmt) × Does x)) (s : Store) (pc : ℕ) → kind_of kinds g ≡ Some Truth → list_all (λ b. b) (map (fits kinds) (bare a)) ≡ true → Fit kinds s.locals → HasAt image.code pc (when_code (expr_code g) (joined (map stmt_code (bare a))) pc) → Runs (at pc s) (pc + length (when_code (expr_code g) (joined (map stmt_code (bare a))) pc)) (suc s.fuel) (given s (value s g) (λ v. if truth v then in_order (map run_one (bare a)) s else in_order [] s))
  when_run g a s pc kg fa fit has =
      let cg = expr_code g in
      let body = pc + length cg + 1 in
      let ca = joined (map stmt_code (bare a)) body in
      let jump = instr.JumpFalse (body + length ca) in
      let rest = has_back image.code pc cg (jump ∷ ca) has in
      let len : body + length ca ≡ pc + length (cg ++ (jump ∷ ca)) = omega (arith, length-append cg (jump ∷ ca)) in
      ends_at (at pc s) _ _ (suc s.fuel) _ len
      (if_run s pc (length cg) (body + length ca) (body + length ca) (value s g) (in_order (map run_one (bare a))) (in_order []) rest.0
      (expr_runs image kinds s fit g pc [] Truth kg (has_front image.code pc cg (jump ∷ ca) has))
      (all_run a s body fa fit rest.1)
      (record { by = 0; steps = refl; paid = omega arith; fit = fit }))

  choice_run : (g : LExpr) (a b : List ((x : LStmt) × Does x)) (s : Store) (pc : ℕ) → kind_of kinds g ≡ Some Truth → list_all (λ b. b) (map (fits kinds) (bare a)) ≡ true → list_all (λ b. b) (map (fits kinds) (bare b)) ≡ true → Fit kinds s.locals → HasAt image.code pc (choice_code (expr_code g) (joined (map stmt_code (bare a))) (joined (map stmt_code (bare b))) pc) → Runs (at pc s) (pc + length (choice_code (expr_code g) (joined (map stmt_code (bare a))) (joined (map stmt_code (bare b))) pc)) (suc s.fuel) (given s (value s g) (λ v. if truth v then in_order (map run_one (bare a)) s else in_order (map run_one (bare b)) s))
  choice_run g a b s pc kg fa fb fit has =
      let cg = expr_code g in
      let body = pc + length cg + 1 in
      let ca = joined (map stmt_code (bare a)) body in
      let other = body + length ca + 1 in
      let cb = joined (map stmt_code (bare b)) other in
      let to = other + length cb in
      let tail = instr.Jump to ∷ cb in
      let rest = has_back image.code pc cg (instr.JumpFalse other ∷ (ca ++ tail)) has in
      let last = has_back image.code body ca tail rest.1 in
      let len : to ≡ pc + length (cg ++ (instr.JumpFalse other ∷ (ca ++ tail))) = omega (arith, length-append cg (instr.JumpFalse other ∷ (ca ++ tail)), length-append ca tail) in
      ends_at (at pc s) _ _ (suc s.fuel) _ len
      (if_run s pc (length cg) other to (value s g) (in_order (map run_one (bare a))) (in_order (map run_one (bare b))) rest.0
      (expr_runs image kinds s fit g pc [] Truth kg (has_front image.code pc cg (instr.JumpFalse other ∷ (ca ++ tail)) has))
      (jump_on (at body s) (body + length ca) to s.fuel (in_order (map run_one (bare a)) s) last.0 (all_run a s body fa fit (has_front image.code body ca tail rest.1)))
      (all_run b s other fb fit last.1))

  two_parts : (g : LExpr) (a b : List ((x : LStmt) × Does x)) (s : Store) (pc : ℕ) → kind_of kinds g ≡ Some Truth → list_all (λ b. b) (map (fits kinds) (bare a)) ≡ true → list_all (λ b. b) (map (fits kinds) (bare b)) ≡ true → Fit kinds s.locals → HasAt image.code pc (if_code (expr_code g) (map stmt_code (bare a)) (map stmt_code (bare b)) pc) → Runs (at pc s) (pc + length (if_code (expr_code g) (map stmt_code (bare a)) (map stmt_code (bare b)) pc)) (suc s.fuel) (given s (value s g) (λ v. if truth v then in_order (map run_one (bare a)) s else in_order (map run_one (bare b)) s))
  two_parts g a [] s pc kg fa fb fit has = when_run g a s pc kg fa fit has
  two_parts g a (b ∷ bs) s pc kg fa fb fit has = choice_run g a (b ∷ bs) s pc kg fa fb fit has

  layer : (y : LStmt-F ((x : LStmt) × Does x)) → LayerDoes (map-LStmt ((x : LStmt) × Does x) LStmt (λ e. e.0) y)
  layer (LStmt-F.LSet p e) s pc hf fit has =
      let k = same_known (kind_at kinds p) (kind_of kinds e) hf in
      let c = expr_code e in
      let len : pc + length c + 1 ≡ pc + length (c ++ instr.Store p ∷ []) = omega (arith, length-append c (instr.Store p ∷ [])) in
      pay_run s s.fuel pc _ _ (λ n.
      ends_at (at pc s) _ _ (suc n) _ len
      (set_run (record s { fuel = n }) pc (length c) p k.kind (value s e) fit k.left (has_back image.code pc c (instr.Store p ∷ []) has).0
      (expr_runs image kinds s fit e pc [] k.kind k.right (has_front image.code pc c (instr.Store p ∷ []) has))))
  layer (LStmt-F.LRead p) s pc hf fit has =
      let k = same_known (kind_at kinds p) (Some Number) hf in
      pay_run s s.fuel pc _ _ (λ n. read_run s.locals s.input s.output n pc p fit (k.left ∙ sym k.right) has.0)
  layer (LStmt-F.LWrite e) s pc hf fit has =
      let k = same_known (kind_of kinds e) (Some Number) hf in
      let c = expr_code e in
      let len : pc + length c + 1 ≡ pc + length (c ++ instr.WriteOut ∷ []) = omega (arith, length-append c (instr.WriteOut ∷ [])) in
      pay_run s s.fuel pc _ _ (λ n.
      ends_at (at pc s) _ _ (suc n) _ len
      (write_run (record s { fuel = n }) pc (length c) (value s e) fit (has_back image.code pc c (instr.WriteOut ∷ []) has).0
      (expr_runs image kinds s fit e pc [] Number (k.left ∙ sym k.right) (has_front image.code pc c (instr.WriteOut ∷ []) has))))
  layer (LStmt-F.LIf g a b) s pc hf fit has =
      let outer = and_parts (same_kind (kind_of kinds g) (Some Truth) && list_all (λ b. b) (map (fits kinds) (bare a))) (list_all (λ b. b) (map (fits kinds) (bare b))) hf in
      let inner = and_parts (same_kind (kind_of kinds g) (Some Truth)) (list_all (λ b. b) (map (fits kinds) (bare a))) outer.0 in
      let k = same_known (kind_of kinds g) (Some Truth) inner.0 in
      pay_run s s.fuel pc _ _ (λ n. two_parts g a b (record s { fuel = n }) pc (k.left ∙ sym k.right) inner.1 outer.1 fit has)

  pub stmt_runs : (x : LStmt) → Does x
  stmt_runs = ind-LStmt Does (λ x y is. subst (λ z. Does (roll-LStmt z)) is (rolled (map-LStmt ((x : LStmt) × Does x) LStmt (λ e. e.0) y) (layer y)))

  each : (xs : List LStmt) → bare (map (λ x. (x, stmt_runs x)) xs) ≡ xs
  each [] = refl
  each (x ∷ xs) = ap (λ l. x ∷ l) (each xs)

  -- the code of a body does what the body does
  pub body_runs : (xs : List LStmt) (s : Store) (pc : ℕ) → list_all (λ b. b) (map (fits kinds) xs) ≡ true → Fit kinds s.locals → HasAt image.code pc (joined (map stmt_code xs) pc) → Runs (at pc s) (pc + length (joined (map stmt_code xs) pc)) s.fuel (in_order (map run_one xs) s)
  body_runs xs =
      let P : List LStmt → Type 0 = λ l. (s : Store) (pc : ℕ) → list_all (λ b. b) (map (fits kinds) l) ≡ true → Fit kinds s.locals → HasAt image.code pc (joined (map stmt_code l) pc) → Runs (at pc s) (pc + length (joined (map stmt_code l) pc)) s.fuel (in_order (map run_one l) s) in
      subst P (each xs) (all_run (map (λ x. (x, stmt_runs x)) xs))
