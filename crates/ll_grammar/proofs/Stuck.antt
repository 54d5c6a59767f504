-- Where a reader cannot go on, no derivation does; where it is through, the derivation is the only one.
use Rattle.std.proofs.Common.{◌≡◌, ◌≢◌, ℕ, ◌+◌, ◌<◌, true, List, [], ◌∷◌, ◌++◌, Some, get_or, length, take, drop, refl, sym, ap, ◌∙◌, subst, append_assoc, append-nil, arith, add-one}
use Rattle.std.proofs.Math.Seq.{take-suc}
use Rattle.std.proofs.lemmas.List.{take-append-drop}
use Rattle.ll_grammar.specs.Grammar.{Rules, Symbol, Terminal, Nonterminal, Move, Shift, Expand, Act, Derives}
use Rattle.ll_grammar.specs.Predictive.{Table, is_in, ahead, Chosen}
use Rattle.ll_grammar.specs.Standing.{Reached}
use Rattle.ll_grammar.specs.Texts.{Read, IsViablePrefix, Refused}
use Rattle.ll_grammar.specs.Reader.{Stuck}
use Rattle.ll_grammar.proofs.Predicts.{Predictive, first_move}
use Rattle.ll_grammar.proofs.Viable.{all_shifted}

next_is : (g : Rules) (t : Table) (d : ℕ) (ss : List Symbol) (ms : List Move) (w : List ℕ) → Derives g ms (Terminal d ∷ ss) w → d ≡ ahead t w
next_is g t d ss [] w h = absurd h
next_is g t d ss (Act x ∷ ms) w h = absurd h
next_is g t d ss (Expand x p ∷ ms) w h = absurd h
next_is g t d ss (Shift ∷ ms) [] h = absurd h
next_is g t d ss (Shift ∷ ms) (c ∷ w) h = h.0

pub stuck_word : (g : Rules) (t : Table) (done : List ℕ) (moves : List Move) (d : ℕ) (ss : List Symbol) (c : ℕ) → d ≢ c → Reached g t done moves (Terminal d ∷ ss) (Some c) → Stuck g t done c
stuck_word g t done moves d ss c other r = record {
  never = λ ms w l h. let k = r.whole ms w l h in other (next_is g t d ss k.rest w k.derives ∙ l);
}

pub stuck_part : (g : Rules) (t : Table) → Predictive g t → (done : List ℕ) (moves : List Move) (n : ℕ) (ss : List Symbol) (c : ℕ) → ((k : ℕ) → Chosen t.lookaheads n k c → ⊥) → Reached g t done moves (Nonterminal n ∷ ss) (Some c) → Stuck g t done c
stuck_part g t x done moves n ss c none r = record {
  never = λ ms w l h.
      let k = r.whole ms w l h in
      let f = first_move g t x.parts n ss r.followed k.rest w k.derives in
      let P : ℕ → Type 0 = λ y. is_in y f.chosen.when ≡ true in
      none f.way (record { when = f.chosen.when; is = f.chosen.is; member = subst P l f.chosen.member });
}

-- a derivation of nothing
pub record Nothing (ms : List Move) (w : List ℕ) : Type 0 where
  pub moves : ms ≡ []
  pub words : w ≡ []

nothing : (g : Rules) (ms : List Move) (w : List ℕ) → Derives g ms [] w → Nothing ms w
nothing g [] [] h = record { moves = refl; words = refl }
nothing g [] (c ∷ w) h = absurd h
nothing g (Shift ∷ ms) w h = absurd h
nothing g (Act x ∷ ms) w h = absurd h
nothing g (Expand x p ∷ ms) w h = absurd h

not_cons : (c : ℕ) (w : List ℕ) → c ∷ w ≡ [] → ⊥
not_cons c w e = cc

-- no text goes on at all
pub record Full (g : Rules) (t : Table) (done : List ℕ) : Type 0 where
  pub never : (ms : List Move) (c : ℕ) (w : List ℕ) → Derives g ms (Nonterminal t.start ∷ []) (done ++ c ∷ w) → ⊥

pub full : (g : Rules) (t : Table) (done : List ℕ) (moves : List Move) (c : ℕ) → Reached g t done moves [] (Some c) → (ms : List Move) (w : List ℕ) → Derives g ms (Nonterminal t.start ∷ []) (done ++ c ∷ w) → ⊥
full g t done moves c r ms w h =
    let k = r.whole ms (c ∷ w) refl h in not_cons c w (nothing g k.rest (c ∷ w) k.derives).words

pub end_read : (g : Rules) (t : Table) (done : List ℕ) (moves : List Move) → Reached g t done moves [] (Some t.end_mark) → Read g t.start done moves
end_read g t done moves r =
    let P : List ℕ → Type 0 = λ y. Derives g moves (Nonterminal t.start ∷ []) y in
    let Q : List Move → Type 0 = λ y. Derives g y (Nonterminal t.start ∷ []) (done ++ []) in
    let d = subst P (append-nil done) (subst Q (append-nil moves) (r.sound [] [] tt)) in
    record {
      derives = d;
      counted = all_shifted g moves (Nonterminal t.start ∷ []) done d;
      only = λ ms h.
          let R : List ℕ → Type 0 = λ y. Derives g ms (Nonterminal t.start ∷ []) y in
          let k = r.whole ms [] refl (subst R (sym (append-nil done)) h) in
          k.is ∙ ap (λ y. moves ++ y) (nothing g k.rest [] k.derives).moves ∙ append-nil moves;
    }

-- ---- refusals

taken : (words : List ℕ) (place : ℕ) → place < length words → take (place + 1) words ≡ take place words ++ get_or words place 0 ∷ []
taken words place h = rw add-one (take-suc words place 0 h)

pub refused_here : (g : Rules) (t : Table) (words : List ℕ) (place : ℕ) (moves : List Move) → place < length words → IsViablePrefix g t.start (take place words) moves → ((ms : List Move) (w : List ℕ) → Derives g ms (Nonterminal t.start ∷ []) (take place words ++ get_or words place 0 ∷ w) → ⊥) → Refused g t.start words place moves
refused_here g t words place moves lt before never = record {
  before = before;
  inside = omega arith;
  here = λ l ms more d.
      let P : List ℕ → Type 0 = λ y. Derives g ms (Nonterminal t.start ∷ []) (y ++ more) in
      let Q : List ℕ → Type 0 = λ y. Derives g ms (Nonterminal t.start ∷ []) y in
      never ms more (subst Q (append_assoc (take place words) (get_or words place 0 ∷ []) more) (subst P (taken words place lt) d));
  none = λ ms d.
      let P : List ℕ → Type 0 = λ y. Derives g ms (Nonterminal t.start ∷ []) y in
      never ms (drop (place + 1) words)
      (subst P (sym (take-append-drop (place + 1) words) ∙ ap (λ y. y ++ drop (place + 1) words) (taken words place lt) ∙ append_assoc (take place words) (get_or words place 0 ∷ []) (drop (place + 1) words)) d);
}

pub refused_end : (g : Rules) (t : Table) (words : List ℕ) (place : ℕ) (moves : List Move) → place ≡ length words → IsViablePrefix g t.start (take place words) moves → ((ms : List Move) → Derives g ms (Nonterminal t.start ∷ []) words → ⊥) → Refused g t.start words place moves
refused_end g t words place moves e before none = record {
  before = before;
  inside = omega arith;
  here = λ l ms more d. absurd (omega arith);
  none = none;
}

not_ended : (g : Rules) (d : ℕ) (ss : List Symbol) (ms : List Move) → Derives g ms (Terminal d ∷ ss) [] → ⊥
not_ended g d ss [] h = absurd h
not_ended g d ss (Act x ∷ ms) h = absurd h
not_ended g d ss (Expand x p ∷ ms) h = absurd h
not_ended g d ss (Shift ∷ ms) h = absurd h

pub end_word : (g : Rules) (t : Table) (done : List ℕ) (moves : List Move) (d : ℕ) (ss : List Symbol) → Reached g t done moves (Terminal d ∷ ss) (Some t.end_mark) → (ms : List Move) → Derives g ms (Nonterminal t.start ∷ []) done → ⊥
end_word g t done moves d ss r ms h =
    let P : List ℕ → Type 0 = λ y. Derives g ms (Nonterminal t.start ∷ []) y in
    let k = r.whole ms [] refl (subst P (sym (append-nil done)) h) in
    not_ended g d ss k.rest k.derives
