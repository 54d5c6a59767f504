-- Reading falls and goes on.
use Rattle.std.proofs.Common.{◌≡◌, ◌∙◌, sym, ap, refl, subst, ℕ, suc, ◌+◌, ◌-◌, ◌*◌, ◌^◌, ◌<◌, ◌≤◌, ltb, Bool, true, false, ◌&&◌, ◌||◌, List, [], ◌∷◌, ◌++◌, length, drop, ◌⊎◌, inl, inr, append_assoc, arith}
use Rattle.std.proofs.lemmas.Bool.{cases_lt, eq-eqb, le-ltb, ne_eqb}
use Rattle.std.proofs.lemmas.List.{append-nil}
use Rattle.std.proofs.Math.Nat.{pow-le-pow_right, one-le-pow, pow-succ'}
use Rattle.math_terms.specs.declared.term.Term.{Term}
use Rattle.num_theory.specs.Linear.{text_before}
use Rattle.num_theory.specs.Texts.{text}
use Rattle.term_cells.specs.declared.cell.Cell.{Cell}
use Rattle.term_cells.specs.declared.reading.Frame.{Frame}
use Rattle.term_cells.specs.declared.before.Next.TheVariants.{Child, Done}
use Rattle.term_cells.specs.working.Pieces.{HasPieces, NextIs, joined, nth, term_pieces}
use Rattle.term_cells.specs.working.Reading.{FramesRead, Reads, State, frame_weight, frames_weight, unit, weight}
use Rattle.term_cells.specs.Standing.{stands}
use Rattle.term_cells.proofs.Laid.{joined_from, term_joined}

-- what one place weighs, twelve times what one below weighs
pub unit_above : (q p : ℕ) → q < p → 12 * unit q ≤ unit p
unfolding unit
unit_above q p l =
    let grows : 12 ^ (suc q) ≤ 12 ^ p = pow-le-pow_right (omega arith) (omega arith) in
    omega (arith, grows, pow-succ' 12 q)

pub unit_at_least : (p : ℕ) → 41 ≤ unit p
unfolding unit
unit_at_least p =
    let some : 1 ≤ 12 ^ p = one-le-pow p 12 (omega arith) in
    omega arith

-- a frame at its next piece
abbrev pub next_frame : Frame → Frame
next_frame f = record f { stage = f.stage + 1 }

suc_times : (m n : ℕ) → suc m * n ≡ n + m * n
suc_times m n = omega arith

one_less : (a b u : ℕ) → a ≡ u + b → (1 + b) + u ≡ 1 + a
one_less a b u e = omega arith

-- it weighs less by one unit
pub weight_next : (f : Frame) → f.stage < 10 → frame_weight (next_frame f) + unit f.place ≡ frame_weight f
unfolding frame_weight
weight_next f l =
    let steps : 10 - f.stage ≡ suc (10 - (f.stage + 1)) = omega arith in
    one_less ((10 - f.stage) * unit f.place) ((10 - (f.stage + 1)) * unit f.place) (unit f.place)
    (ap (λ n. n * unit f.place) steps ∙ suc_times (10 - (f.stage + 1)) (unit f.place))

-- a frame weighs something, and a new one eleven units less than what is above
pub weight_some : (f : Frame) → 1 ≤ frame_weight f
unfolding frame_weight
weight_some f = omega arith

-- a frame at its first piece
abbrev pub first_frame : ℕ → Bool → Frame
first_frame q w = record { place = q; wrapped = w; stage = 0 }

pub weight_first : (q : ℕ) (w : Bool) → frame_weight (first_frame q w) ≡ 1 + 10 * unit q
unfolding frame_weight
weight_first q w = refl

-- a frame that was pushed, or for which there was no room
pub weight_pushed : (fs new : List Frame) (f : Frame) (room : ℕ) → (length fs < room → new ≡ f ∷ fs) → (room ≤ length fs → new ≡ fs) → frames_weight new ≤ frame_weight f + frames_weight fs
weight_pushed fs new f room pushed full = by_room (cases_lt (length fs) room)
  where
    by_room : (length fs < room) ⊎ (room ≤ length fs) → frames_weight new ≤ frame_weight f + frames_weight fs
    by_room (inl l) = omega (arith, ap frames_weight (pushed l))
    by_room (inr l) = omega (arith, ap frames_weight (full l))

joined_on : (ps : List (List ℕ)) (k : ℕ) (rest : List ℕ) → joined (drop k ps) ++ rest ≡ nth ps k ++ (joined (drop (k + 1) ps) ++ rest)
joined_on ps k rest =
    let more : suc k ≡ k + 1 = omega arith in
    ap (λ s. s ++ rest) (joined_from ps k ∙ ap (λ n. nth ps k ++ joined (drop n ps)) more)
    ∙ append_assoc (nth ps k) (joined (drop (k + 1) ps)) rest

module _ (cells : List Cell) (s : State) (f : Frame) (fs : List Frame) (frames : s.0 ≡ f ∷ fs) (empty : s.2 ≡ []) (text : List ℕ) (reads : Reads cells s text) where
  opened : FramesRead cells s.1 (f ∷ fs) text
  opened =
      let same : reads.0 ≡ text = sym (reads.1 ∙ ap (λ b. b ++ reads.0) empty) in
      subst (λ x. FramesRead cells s.1 (f ∷ fs) x) same (subst (λ x. FramesRead cells s.1 x reads.0) frames reads.2)

  pub its_ps : List (List ℕ)
  its_ps = opened.0

  pub has_pieces : HasPieces cells f.place f.wrapped its_ps
  unfolding its_ps
  has_pieces = opened.1

  pub room_below : f.place + length (f ∷ fs) ≤ s.1
  room_below = opened.2

  its_rest : List ℕ
  its_rest = opened.3.0

  its_text : text ≡ joined (drop f.stage its_ps) ++ its_rest
  unfolding its_ps its_rest
  its_text = opened.3.1

  others_read : FramesRead cells s.1 fs its_rest
  unfolding its_rest
  others_read = opened.3.2

  -- after the last piece the other frames read on
  pub done_reads : (new : State) → new.0 ≡ fs → new.1 ≡ s.1 → new.2 ≡ [] → NextIs cells f.place its_ps f.stage Done → Reads cells new text
  done_reads new e g h is =
      let same : text ≡ its_rest = its_text ∙ ap (λ b. b ++ its_rest) is in
      let fr : FramesRead cells new.1 new.0 text = subst (λ x. FramesRead cells new.1 x text) (sym e) (subst (λ r. FramesRead cells r fs text) (sym g) (subst (λ x. FramesRead cells s.1 fs x) (sym same) others_read)) in
      (text, ap (λ b. b ++ text) (sym h), fr)

  next_reads : FramesRead cells s.1 (next_frame f ∷ fs) (joined (drop (f.stage + 1) its_ps) ++ its_rest)
  next_reads = (its_ps, has_pieces, room_below, (its_rest, refl, others_read))

  -- bytes come before the next piece
  pub bytes_read : (new : State) (bytes : List ℕ) → new.0 ≡ next_frame f ∷ fs → new.1 ≡ s.1 → new.2 ≡ bytes → bytes ≡ nth its_ps f.stage → Reads cells new text
  bytes_read new bytes e g h is =
      let rest = joined (drop (f.stage + 1) its_ps) ++ its_rest in
      let fr : FramesRead cells new.1 new.0 rest = subst (λ x. FramesRead cells new.1 x rest) (sym e) (subst (λ r. FramesRead cells r (next_frame f ∷ fs) rest) (sym g) next_reads) in
      (rest, its_text ∙ joined_on its_ps f.stage its_rest ∙ ap (λ b. b ++ rest) (sym is ∙ sym h), fr)

  -- a child comes before the next piece
  pub child_reads : (new : State) (q : ℕ) (w : Bool) → new.0 ≡ first_frame q w ∷ next_frame f ∷ fs → new.1 ≡ s.1 → new.2 ≡ [] → NextIs cells f.place its_ps f.stage (Child q w) → Reads cells new text
  child_reads new q w e g h is =
      let rest = joined (drop (f.stage + 1) its_ps) ++ its_rest in
      let child : Frame = first_frame q w in
      let qs = is.1.0 in
      let same : text ≡ joined qs ++ rest = its_text ∙ joined_on its_ps f.stage its_rest ∙ ap (λ b. b ++ rest) (sym is.1.2) in
      let room : q + length (child ∷ next_frame f ∷ fs) ≤ s.1 = omega (arith, room_below, is.0) in
      let here : FramesRead cells s.1 (child ∷ next_frame f ∷ fs) text = (qs, is.1.1, room, (rest, same, next_reads)) in
      let fr : FramesRead cells new.1 new.0 text = subst (λ x. FramesRead cells new.1 x text) (sym e) (subst (λ r. FramesRead cells r (child ∷ next_frame f ∷ fs) text) (sym g) here) in
      (text, ap (λ b. b ++ text) (sym h), fr)

-- with no frame and no bytes the text is at its end
pub nothing_left : (cells : List Cell) (s : State) (text : List ℕ) → s.0 ≡ [] → s.2 ≡ [] → Reads cells s text → text ≡ []
nothing_left cells s text e f reads =
    reads.1 ∙ ap (λ b. b ++ reads.0) f ∙ subst (λ x. FramesRead cells s.1 x reads.0) e reads.2

-- a byte is read
pub byte_reads : (cells : List Cell) (old new : State) (text : List ℕ) (byte : ℕ) → old.2 ≡ byte ∷ new.2 → new.0 ≡ old.0 → new.1 ≡ old.1 → Reads cells old text → (rest : List ℕ) × (text ≡ byte ∷ rest) × Reads cells new rest
byte_reads cells old new text byte e f g reads =
    let rest = new.2 ++ reads.0 in
    let fr : FramesRead cells new.1 new.0 reads.0 = subst (λ x. FramesRead cells new.1 x reads.0) (sym f) (subst (λ r. FramesRead cells r old.0 reads.0) (sym g) reads.2) in
    (rest, reads.1 ∙ ap (λ b. b ++ reads.0) e, (reads.0, refl, fr))

-- the text of the term at a place
pub starts_reading : (cells : List Cell) (new : State) (t : Term) (p : ℕ) → stands cells t p ≡ true → p < new.1 → new.0 ≡ first_frame p false ∷ [] → new.2 ≡ [] → Reads cells new (text t)
starts_reading cells new t p h l e f =
    let ps = term_pieces false t in
    let room : p + length (first_frame p false ∷ []) ≤ new.1 = omega arith in
    let same : text t ≡ joined (drop 0 ps) ++ [] = sym (append-nil (joined ps) ∙ term_joined false t) in
    let fr : FramesRead cells new.1 (first_frame p false ∷ []) (text t) = (ps, inl (t, h, refl), room, ([], same, refl)) in
    (text t, ap (λ b. b ++ text t) (sym f), subst (λ x. FramesRead cells new.1 x (text t)) (sym e) fr)

-- how a step makes the weight fall
pub falls_by_bytes : (f : Frame) (fs new : List Frame) (room : ℕ) (bytes : List ℕ) → f.stage < 10 → length bytes ≤ 40 → (length fs < room → new ≡ next_frame f ∷ fs) → (room ≤ length fs → new ≡ fs) →
    length bytes + frames_weight new < frame_weight f + frames_weight fs
falls_by_bytes f fs new room bytes l short pushed full =
    omega (arith, weight_pushed fs new (next_frame f) room pushed full, weight_next f l, unit_at_least f.place)

pub falls_by_child : (f : Frame) (fs mid new : List Frame) (room q : ℕ) (w : Bool) → f.stage < 10 → q < f.place → (length fs < room → mid ≡ next_frame f ∷ fs) → (room ≤ length fs → mid ≡ fs) →
    (length mid < room → new ≡ first_frame q w ∷ mid) → (room ≤ length mid → new ≡ mid) → frames_weight new < frame_weight f + frames_weight fs
falls_by_child f fs mid new room q w l below pushed full pushed' full' =
    omega (arith, weight_pushed fs mid (next_frame f) room pushed full, weight_pushed mid new (first_frame q w) room pushed' full', weight_next f l, weight_first q w, unit_above q f.place below, unit_at_least q)

pub falls_without : (f : Frame) (fs mid : List Frame) (room : ℕ) → f.stage < 10 → (length fs < room → mid ≡ next_frame f ∷ fs) → (room ≤ length fs → mid ≡ fs) → frames_weight mid < frame_weight f + frames_weight fs
falls_without f fs mid room l pushed full =
    omega (arith, weight_pushed fs mid (next_frame f) room pushed full, weight_next f l, unit_at_least f.place)

-- a step of a reading: the top frame is taken off, put back at its next piece where there is room, and what comes next comes before it
module _ (old mid pushed : State) (f g : Frame) (frames : old.0 ≡ f ∷ mid.0) (empty : old.2 ≡ []) (at_next : g ≡ next_frame f)
    (fits : length mid.0 < mid.1 → pushed.0 ≡ g ∷ mid.0) (full : mid.1 ≤ length mid.0 → pushed.0 ≡ mid.0) where
  fits_next : length mid.0 < mid.1 → pushed.0 ≡ next_frame f ∷ mid.0
  fits_next l = fits l ∙ ap (λ h. h ∷ mid.0) at_next

  old_weight : weight old ≡ frame_weight f + frames_weight mid.0
  old_weight = (λ i. length (empty i) + frames_weight (frames i)) ∙ zero_add_weight (frame_weight f + frames_weight mid.0)
    where
      zero_add_weight : (n : ℕ) → 0 + n ≡ n
      zero_add_weight n = omega arith

  pub bytes_fall : (new : State) → f.stage < 10 → new.0 ≡ pushed.0 → length new.2 ≤ 40 → weight new < weight old
  bytes_fall new l e short =
      let less = falls_by_bytes f mid.0 pushed.0 mid.1 new.2 l short fits_next full in
      let same : frames_weight new.0 ≡ frames_weight pushed.0 = ap frames_weight e in
      omega (arith, less, same, old_weight)

  pub no_child_falls : (new : State) → f.stage < 10 → new.0 ≡ pushed.0 → new.2 ≡ [] → weight new < weight old
  no_child_falls new l e h =
      let less = falls_without f mid.0 pushed.0 mid.1 l fits_next full in
      let same : frames_weight new.0 ≡ frames_weight pushed.0 = ap frames_weight e in
      let none : length new.2 ≡ 0 = ap length h in
      omega (arith, less, same, none, old_weight)

  pub child_falls : (new : State) (q : ℕ) (w : Bool) → f.stage < 10 → q < f.place → pushed.1 ≡ mid.1 → (length pushed.0 < pushed.1 → new.0 ≡ first_frame q w ∷ pushed.0) → (pushed.1 ≤ length pushed.0 → new.0 ≡ pushed.0) → new.2 ≡ [] →
      weight new < weight old
  child_falls new q w l below room fits' full' h =
      let less = falls_by_child f mid.0 pushed.0 new.0 mid.1 q w l below fits_next full (λ k. fits' (omega (arith, room))) (λ k. full' (omega (arith, room))) in
      let none : length new.2 ≡ 0 = ap length h in
      omega (arith, less, none, old_weight)

  module _ (cells : List Cell) (text : List ℕ) (reads : Reads cells old text) (same_room : mid.1 ≡ old.1) (room_kept : pushed.1 ≡ mid.1) where
    room_for : length mid.0 < mid.1
    room_for = omega (arith, room_below cells old f mid.0 frames empty text reads, same_room)

    pub bytes_go_on : (new : State) (bytes : List ℕ) → ((ps : List (List ℕ)) → HasPieces cells f.place f.wrapped ps → bytes ≡ nth ps f.stage) → new.0 ≡ pushed.0 → new.1 ≡ pushed.1 → new.2 ≡ bytes → Reads cells new text
    bytes_go_on new bytes answer e g h =
        bytes_read cells old f mid.0 frames empty text reads new bytes (e ∙ fits_next room_for) (g ∙ room_kept ∙ same_room) h
        (answer (its_ps cells old f mid.0 frames empty text reads) (has_pieces cells old f mid.0 frames empty text reads))

    pub child_goes_on : (new : State) (q : ℕ) (w : Bool) → ((ps : List (List ℕ)) → HasPieces cells f.place f.wrapped ps → NextIs cells f.place ps f.stage (Child q w)) →
        (length pushed.0 < pushed.1 → new.0 ≡ first_frame q w ∷ pushed.0) → new.1 ≡ pushed.1 → new.2 ≡ [] → Reads cells new text
    child_goes_on new q w answer fits' g h =
        let next = answer (its_ps cells old f mid.0 frames empty text reads) (has_pieces cells old f mid.0 frames empty text reads) in
        let below = room_below cells old f mid.0 frames empty text reads in
        let top = fits_next room_for in
        let size : length pushed.0 ≡ suc (length mid.0) = ap length top in
        let more : length pushed.0 < pushed.1 = omega (arith, size, below, next.0, room_kept, same_room) in
        child_reads cells old f mid.0 frames empty text reads new q w (fits' more ∙ ap (λ hs. first_frame q w ∷ hs) top) (g ∙ room_kept ∙ same_room) h next

    pub child_is_below : (q : ℕ) (w : Bool) → ((ps : List (List ℕ)) → HasPieces cells f.place f.wrapped ps → NextIs cells f.place ps f.stage (Child q w)) → q < f.place
    child_is_below q w answer = (answer (its_ps cells old f mid.0 frames empty text reads) (has_pieces cells old f mid.0 frames empty text reads)).0

pub done_falls : (old new : State) (f : Frame) → old.0 ≡ f ∷ new.0 → new.2 ≡ old.2 → weight new < weight old
done_falls old new f e h =
    let frames : frames_weight old.0 ≡ frame_weight f + frames_weight new.0 = ap frames_weight e in
    let bytes : length new.2 ≡ length old.2 = ap length h in
    omega (arith, frames, bytes, weight_some f)

-- a reading of the same frames and bytes
pub same_reads : (cells : List Cell) (old new : State) (text : List ℕ) → new.0 ≡ old.0 → new.1 ≡ old.1 → new.2 ≡ old.2 → Reads cells old text → Reads cells new text
same_reads cells old new text e f g reads =
    let fr : FramesRead cells new.1 new.0 reads.0 = subst (λ x. FramesRead cells new.1 x reads.0) (sym e) (subst (λ r. FramesRead cells r old.0 reads.0) (sym f) reads.2) in
    (reads.0, reads.1 ∙ ap (λ b. b ++ reads.0) (sym g), fr)

or_false : (b : Bool) → (b || false) ≡ b
or_false true = refl
or_false false = refl

-- the order of two texts by their first bytes
pub order_by_first : (a b : ℕ) (xs ys : List ℕ) → (a ≡ b → ⊥) → text_before (a ∷ xs) (b ∷ ys) ≡ ltb a b
order_by_first a b xs ys differ = ap (λ e. ltb a b || (e && text_before xs ys)) (ne_eqb a b differ) ∙ or_false (ltb a b)

pub order_by_rest : (a b : ℕ) (xs ys : List ℕ) → a ≡ b → text_before (a ∷ xs) (b ∷ ys) ≡ text_before xs ys
order_by_rest a b xs ys same = (λ i. le-ltb a b (omega arith) i || (eq-eqb a b same i && text_before xs ys))
