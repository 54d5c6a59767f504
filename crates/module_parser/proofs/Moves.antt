-- What the moves that are left build, after one of them.
use Rattle.std.proofs.Common.{◌≡◌, ℕ, ◌<◌, ◌+◌, List, [], ◌∷◌, length, get_or, drop, refl, subst, sym, add-one, drop-cons, arith}
use Rattle.ll_grammar.specs.declared.form.Move.{Move}
use Rattle.ll_grammar.specs.declared.form.Move.TheVariants.{Shift, Expand, Act}
use Rattle.ll_grammar.specs.Grammar.{Builder, built}
use Rattle.res_lexer.specs.declared.token.Token.{Token}
use Rattle.expr_parser.specs.Built.{Stage}

-- a list without items
pub empty : {A : Type 0} (xs : List A) → length xs ≡ 0 → xs ≡ []
empty [] e = refl
empty (x ∷ xs) e = absurd (omega arith)

next_move : (moves : List Move) (i : ℕ) (d move : Move) → i < length moves → get_or moves i d ≡ move → drop i moves ≡ move ∷ drop (i + 1) moves
next_move moves i d move l e =
    let P : Move → Type 0 = λ m. drop i moves ≡ m ∷ drop (i + 1) moves in
    subst P e (rw (add-one, drop-cons moves i d))

pub on_shift : {S : Type 0} (b : Builder S Token) (moves : List Move) (i : ℕ) (d : Move) (left rest : List Token) (token : Token) (s end : S) → i < length moves → get_or moves i d ≡ Shift → left ≡ token ∷ rest → built b (drop i moves) left s ≡ end → built b (drop (i + 1) moves) rest (b.take token s) ≡ end
on_shift b moves i d left rest token s end l e is h =
    let P : List Move → Type 0 = λ ms. built b ms left s ≡ end in
    let Q : List Token → Type 0 = λ ts. built b (Shift ∷ drop (i + 1) moves) ts s ≡ end in
    subst Q is (subst P (next_move moves i d Shift l e) h)

pub past_end : {S : Type 0} (b : Builder S Token) (moves : List Move) (i : ℕ) (d : Move) (left : List Token) (s end : S) → i < length moves → get_or moves i d ≡ Shift → left ≡ [] → built b (drop i moves) left s ≡ end → built b (drop (i + 1) moves) left s ≡ end
past_end b moves i d left s end l e is h =
    let P : List Move → Type 0 = λ ms. built b ms left s ≡ end in
    let Q : List Token → Type 0 = λ ts. built b (Shift ∷ drop (i + 1) moves) ts s ≡ end in
    let R : List Token → Type 0 = λ ts. built b (drop (i + 1) moves) ts s ≡ end in
    subst R (sym is) (subst Q is (subst P (next_move moves i d Shift l e) h))

pub on_expand : {S : Type 0} (b : Builder S Token) (moves : List Move) (i part way : ℕ) (d : Move) (left : List Token) (s end : S) → i < length moves → get_or moves i d ≡ Expand part way → built b (drop i moves) left s ≡ end → built b (drop (i + 1) moves) left s ≡ end
on_expand b moves i part way d left s end l e h =
    let P : List Move → Type 0 = λ ms. built b ms left s ≡ end in
    subst P (next_move moves i d (Expand part way) l e) h

pub on_act : {S : Type 0} (b : Builder S Token) (moves : List Move) (i action : ℕ) (d : Move) (left : List Token) (s end : S) → i < length moves → get_or moves i d ≡ Act action → built b (drop i moves) left s ≡ end → built b (drop (i + 1) moves) left (b.act action s) ≡ end
on_act b moves i action d left s end l e h =
    let P : List Move → Type 0 = λ ms. built b ms left s ≡ end in
    subst P (next_move moves i d (Act action) l e) h

-- The same under other names.
pub moved : {S : Type 0} (b : Builder (Stage S) Token) (moves : List Move) (end : Stage S) (left here : List Token) (last token : Token) (state now : S) → here ≡ left → token ≡ last → now ≡ state → built b moves left (record { last = last; state = state }) ≡ end → built b moves here (record { last = token; state = now }) ≡ end
moved {S} b moves end left here last token state now e f g h =
    let P : List Token → Type 0 = λ ts. built b moves ts (record { last = last; state = state }) ≡ end in
    let Q : Token → Type 0 = λ t. built b moves here (record { last = t; state = state }) ≡ end in
    let R : S → Type 0 = λ s. built b moves here (record { last = token; state = s }) ≡ end in
    subst R (sym g) (subst Q (sym f) (subst P (sym e) h))
