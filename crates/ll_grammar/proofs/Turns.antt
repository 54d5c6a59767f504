-- What the reader's functions say of where it stands.
use Rattle.std.proofs.Common.{◌≡◌, ◌≢◌, ℕ, ◌+◌, ◌<◌, ◌≤◌, List, [], ◌∷◌, ◌++◌, Option, Some, None, get_or, length, take, refl, sym, ap, ◌∙◌, subst, append-nil, arith, add-one}
use Rattle.std.proofs.Math.Seq.{take-suc}
use Rattle.std.proofs.lemmas.List.{take_all as all_taken}
use Rattle.ll_grammar.specs.declared.reader.Settled.{Settled}
use Rattle.ll_grammar.specs.declared.form.Grammar.{Grammar}
use Rattle.ll_grammar.specs.Grammar.{Symbol, Terminal, Nonterminal, Action, Move, Shift, Act, Derives}
use Rattle.ll_grammar.specs.Predictive.{Certificate}
use Rattle.ll_grammar.specs.Texts.{Read, Refused, IsViablePrefix}
use Rattle.ll_grammar.specs.Reader.{IsLl1, Stands, Stuck, Never, NoWay, Settles, Somewhere, rules_of, table_of}
use Rattle.ll_grammar.proofs.Predicts.{predictive, at_start, looking, shift_step, act_step}
use Rattle.ll_grammar.proofs.Stuck.{stuck_word, stuck_part, full, end_read, refused_here, refused_end, end_word}
use Rattle.ll_grammar.proofs.Viable.{begins}

take_all : (words : List ℕ) (place : ℕ) → length words ≤ place → take place words ≡ words
take_all words place l = all_taken place words l

pub stand_on : (g : Grammar) (k : Certificate) (done : List ℕ) (moves : List Move) (stack below : List Symbol) (x s : Symbol) (look : Option ℕ) → stack ≡ x ∷ below → x ≡ s → Stands g k done moves stack look → Stands g k done moves (s ∷ below) look
stand_on g k done moves stack below x s look e f h =
    let P : List Symbol → Type 0 = λ y. Stands g k done moves y look in
    subst P (e ∙ ap (λ y. y ∷ below) f) h

pub stand_empty : (g : Grammar) (k : Certificate) (done : List ℕ) (moves : List Move) (stack : List Symbol) (look : Option ℕ) → stack ≡ [] → Stands g k done moves stack look → Stands g k done moves [] look
stand_empty g k done moves stack look e h =
    let P : List Symbol → Type 0 = λ y. Stands g k done moves y look in
    subst P e h

pub somewhere : (g : Grammar) (k : Certificate) (done : List ℕ) (moves : List Move) (stack : List Symbol) (class : ℕ) → Stands g k done moves stack (Some class) → Somewhere g k done moves class
somewhere g k done moves stack class h = record { stack = stack; stands = h }

pub no_way : (g : Grammar) (k : Certificate) → IsLl1 g k → (done : List ℕ) (moves after : List Move) (part class : ℕ) (below : List Symbol) → NoWay g part class × (after ≡ moves) → Stands g k done moves (Nonterminal part ∷ below) (Some class) → Stuck (rules_of g) (table_of g k) done class × Somewhere g k done after class
no_way g k ok done moves after part class below none h =
    let P : List Move → Type 0 = λ y. Somewhere g k done y class in (
      stuck_part (rules_of g) (table_of g k) (predictive (rules_of g) (table_of g k) ok.decides) done moves part below class none.0.none h,
      subst P (sym none.1) (somewhere g k done moves (Nonterminal part ∷ below) class h),
    )

-- ---- one class

pub settled_as : (g : Grammar) (k : Certificate) (done : List ℕ) (class : ℕ) (moves : List Move) (stack : List Symbol) (x s : Settled) → x ≡ s → Settles g k done class moves stack x → Settles g k done class moves stack s
settled_as g k done class moves stack x s e h =
    let P : Settled → Type 0 = λ y. Settles g k done class moves stack y in
    subst P e h

pub look_at : (g : Grammar) (k : Certificate) (done : List ℕ) (moves : List Move) (stack : List Symbol) (class : ℕ) → Stands g k done moves stack None → Stands g k done moves stack (Some class)
look_at g k done moves stack class h = looking (rules_of g) (table_of g k) done moves stack class h

pub never_stuck : (g : Grammar) (k : Certificate) (done : List ℕ) (class : ℕ) → Stuck (rules_of g) (table_of g k) done class → Never g done class
never_stuck g k done class h = record { never = λ ms w d. h.never ms (class ∷ w) refl d }

pub never_word : (g : Grammar) (k : Certificate) (done : List ℕ) (moves : List Move) (word class : ℕ) (below : List Symbol) → word ≢ class → Stands g k done moves (Terminal word ∷ below) (Some class) → Never g done class
never_word g k done moves word class below other h =
    never_stuck g k done class (stuck_word (rules_of g) (table_of g k) done moves word below class other h)

pub never_full : (g : Grammar) (k : Certificate) (done : List ℕ) (moves : List Move) (class : ℕ) → Stands g k done moves [] (Some class) → Never g done class
never_full g k done moves class h = record { never = full (rules_of g) (table_of g k) done moves class h }

pub shifted_on : (g : Grammar) (k : Certificate) (done : List ℕ) (moves after : List Move) (word class : ℕ) (below : List Symbol) → word ≡ class → after ≡ moves ++ Shift ∷ [] → Stands g k done moves (Terminal word ∷ below) (Some class) → Stands g k (done ++ class ∷ []) after below None
shifted_on g k done moves after word class below e f h =
    let P : ℕ → Type 0 = λ y. Stands g k done moves (Terminal y ∷ below) (Some class) in
    let Q : List Move → Type 0 = λ y. Stands g k (done ++ class ∷ []) y below None in
    subst Q (sym f) (shift_step (rules_of g) (table_of g k) done moves below class (subst P e h))

-- ---- all classes

pub starts : (g : Grammar) (k : Certificate) → IsLl1 g k → (moves : List Move) (stack : List Symbol) → moves ≡ [] → stack ≡ Nonterminal g.start ∷ [] → Stands g k [] moves stack None
starts g k ok moves stack e f =
    let P : List Move → Type 0 = λ y. Stands g k [] y stack None in
    let Q : List Symbol → Type 0 = λ y. Stands g k [] [] y None in
    subst P (sym e) (subst Q (sym f) (at_start (rules_of g) (table_of g k) (predictive (rules_of g) (table_of g k) ok.decides)))

pub one_more : (g : Grammar) (k : Certificate) (words : List ℕ) (place class : ℕ) (moves : List Move) (stack : List Symbol) → place < length words → class ≡ get_or words place 0 → Stands g k (take place words ++ class ∷ []) moves stack None → Stands g k (take (place + 1) words) moves stack None
one_more g k words place class moves stack l e h =
    let P : List ℕ → Type 0 = λ y. Stands g k y moves stack None in
    subst P (ap (λ c. take place words ++ c ∷ []) e ∙ sym (rw add-one (take-suc words place 0 l))) h

pub refuse : (g : Grammar) (k : Certificate) → IsLl1 g k → (words : List ℕ) (place class : ℕ) (moves : List Move) → place < length words → class ≡ get_or words place 0 → Never g (take place words) class × Somewhere g k (take place words) moves class → Refused (rules_of g) g.start words place moves
refuse g k ok words place class moves l e n =
    refused_here (rules_of g) (table_of g k) words place moves l
    (begins (rules_of g) (table_of g k) (predictive (rules_of g) (table_of g k) ok.decides) (take place words) moves n.1.stack (Some class) n.1.stands)
    (let P : ℕ → Type 0 = λ c. (ms : List Move) (w : List ℕ) → Derives (rules_of g) ms (Nonterminal g.start ∷ []) (take place words ++ c ∷ w) → ⊥ in subst P e n.0.never)

pub all_words : (g : Grammar) (k : Certificate) (words : List ℕ) (place : ℕ) (moves : List Move) (stack : List Symbol) → length words ≤ place → Stands g k (take place words) moves stack None → Stands g k words moves stack None
all_words g k words place moves stack l h =
    let P : List ℕ → Type 0 = λ y. Stands g k y moves stack None in
    subst P (take_all words place l) h

pub read_all : (g : Grammar) (k : Certificate) (words : List ℕ) (moves : List Move) → Stands g k words moves [] (Some g.end_mark) → Read (rules_of g) g.start words moves
read_all g k words moves h = end_read (rules_of g) (table_of g k) words moves h

-- the words are no text, but begin one
pub refuse_end : (g : Grammar) (k : Certificate) → IsLl1 g k → (words : List ℕ) (moves : List Move) → Somewhere g k words moves g.end_mark → ((ms : List Move) → Derives (rules_of g) ms (Nonterminal g.start ∷ []) words → ⊥) → Refused (rules_of g) g.start words (length words) moves
refuse_end g k ok words moves h n =
    refused_end (rules_of g) (table_of g k) words (length words) moves refl
    (let P : List ℕ → Type 0 = λ y. IsViablePrefix (rules_of g) g.start y moves in
    subst P (sym (take_all words (length words) (omega arith)))
    (begins (rules_of g) (table_of g k) (predictive (rules_of g) (table_of g k) ok.decides) words moves h.stack (Some g.end_mark) h.stands))
    n

pub refuse_stuck : (g : Grammar) (k : Certificate) → IsLl1 g k → (words : List ℕ) (moves : List Move) → Stuck (rules_of g) (table_of g k) words g.end_mark × Somewhere g k words moves g.end_mark → Refused (rules_of g) g.start words (length words) moves
refuse_stuck g k ok words moves n =
    refuse_end g k ok words moves n.1
    (λ ms d. let P : List ℕ → Type 0 = λ y. Derives (rules_of g) ms (Nonterminal g.start ∷ []) y in n.0.never ms [] refl (subst P (sym (append-nil words)) d))

pub refuse_word : (g : Grammar) (k : Certificate) → IsLl1 g k → (words : List ℕ) (moves : List Move) (below : List Symbol) (word : ℕ) → Stands g k words moves (Terminal word ∷ below) (Some g.end_mark) → Refused (rules_of g) g.start words (length words) moves
refuse_word g k ok words moves below word n =
    refuse_end g k ok words moves (somewhere g k words moves (Terminal word ∷ below) g.end_mark n) (λ ms d. end_word (rules_of g) (table_of g k) words moves word below n ms d)

pub acted_on : (g : Grammar) (k : Certificate) (done : List ℕ) (moves after : List Move) (action class : ℕ) (below : List Symbol) → after ≡ moves ++ Act action ∷ [] → Stands g k done moves (Action action ∷ below) (Some class) → Stands g k done after below (Some class)
acted_on g k done moves after action class below f h =
    let Q : List Move → Type 0 = λ y. Stands g k done y below (Some class) in
    subst Q (sym f) (act_step (rules_of g) (table_of g k) done moves below action (Some class) h)
