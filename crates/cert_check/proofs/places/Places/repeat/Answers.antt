use Rattle.std.proofs.Common.{◌≡◌, ◌∙◌, ap, sym, ◌++◌, ◌∷◌, [], ◌-◌, ℕ, List, Some, take, drop, slice_get, arith}
use Rattle.cert_check.proofs.Repeating.{repeats}
use Rattle.cert_check.proofs.places.Places.repeat.Goals as goal

pub loop-i-preserved : goal.loop-i-preserved
loop-i-preserved c =
    let old = c.args.self.now in
    let now = c.loop-i.invariant in
    let here : slice_get (old.0 ++ take (c.loop-i.i - c.args.from) (drop c.args.from old.0)) c.loop-i.i ≡ Some c.in_ok-place.place =
    ap (λ (s : List ℕ × ℕ). slice_get s.0 c.loop-i.i) (sym now) ∙ sym c.in_ok-place.ensures in
    c.in_ok-push.ensures
    ∙ ap (λ (s : List ℕ × ℕ). (s.0 ++ c.in_ok-place.place ∷ [], s.1)) now
    ∙ ap (λ (ps : List ℕ). (ps, old.1)) (repeats old.0 c.args.from c.loop-i.i c.in_ok-place.place (omega arith) (omega arith) here)
