-- Names that are watched: those that open a component or an operation, those that close one, and that of a result.
use Rattle.std.proofs.Common.{◌≡◌, ◌∙◌, sym, ap, refl, subst, ℕ, Bool, cond, true, false, ◌==◌, nat_eq, List, [], ◌∷◌, ◌++◌, Option, Some, None, option_map}
use Rattle.std.proofs.lemmas.Bool.{eq-eqb, eqb-true}
use Rattle.std.specs.Cmp.Lexicographic.{pointwise}
use Rattle.ll_grammar.specs.Grammar as grammar
use Rattle.ll_grammar.specs.Grammar.{at, made, opening}
use Rattle.ll_grammar.specs.Watch.{and_then}
use Rattle.ll_grammar.specs.declared.form.Move.{Move}
use Rattle.ll_grammar.specs.declared.form.Move.TheVariants.{Shift, Expand, Act}
use Rattle.ll_grammar.specs.declared.form.Symbol.{Symbol}
use Rattle.ll_grammar.specs.declared.form.Symbol.TheVariants.{Terminal, Nonterminal, Action}
use Rattle.identifiers.specs.Laws.{PlainAreAscii}
use Rattle.res_lexer.specs.Spaced.{IsWritable, spaced}
use Rattle.res_lexer.specs.declared.token.Token.{Token}
use Rattle.res_lexer.specs.declared.token.TokenKind.{TokenKind}
use Rattle.res_lexer.specs.declared.token.TokenKind.TheVariants as kind
use Rattle.res_grammar.specs.Classes.{class_of, class_of_word, remembered, same_word, word_of}
use Rattle.res_grammar.specs.ClosingName.{ClosingNames, closing, closing_act, repeats}
use Rattle.res_grammar.specs.Language.{language_rules}
use Rattle.res_grammar.specs.Nesting.{nesting_act}
use Rattle.res_grammar.specs.Numbers as n
use Rattle.res_grammar.specs.OwnName.{OwnNames, answers, own, own_act}
use Rattle.res_grammar.specs.declared.own_name.Asks.{Asks}
use Rattle.res_grammar.specs.declared.own_name.Asks.TheVariants.{Any, Own}
use Rattle.expr_parser.specs.Built.{Stage}
use Rattle.module_parser.specs.Spelling.{files}
use Rattle.module_parser.specs.declared.state.State.{State}
use Rattle.res_printer.specs.Pieces.{Piece, says}
use Rattle.round_trip.specs.ReadsBack.{token, tokens}
use Rattle.round_trip.proofs.Canonical.{Going, Knowledge, Passing, act, both, calm, done, kinds, some_before, some_mapped, took_calm, way, ◌▹◌}
use Rattle.round_trip.proofs.Chains.{Claim}
use Rattle.round_trip.proofs.Claims.{AnyWord, Hold, Name, in_component, in_operation, keep, known_or, same_state}
use Rattle.round_trip.proofs.Depths.{act_below, act_rises}
use Rattle.round_trip.proofs.Doing.{Doing, Names, did, doing, then, took}

-- ---- what is asked of the next token

abbrev asked : Option Name → Knowledge → Asks → Option Name → Names
asked l k a f = record {
  own = Some (record { last = l; operation = k.operation; in_result = k.in_result; asks = a });
  closing = Some (record { last = l; component = k.component; operation = k.operation; closes = f });
}

chosen : {A : Type 0} (b : Bool) (x y : A) → cond b (Some x) None ≡ Some y → b ≡ true
chosen true x y e = refl
chosen false x y e = absurd (let f : None ≡ Some y = e in cc)

abbrev own_answers : TokenKind → Knowledge → Asks → Bool
own_answers j k a = cond (class_of j == n.id) (answers a k.operation (word_of j)) true

own_asked : (j : TokenKind) (l : Option Name) (k : Knowledge) (a : Asks) (f : Option Name) → Passing ((took j).names (asked l k a f)) → own_answers j k a ≡ true
own_asked j l k a f h = chosen (own_answers j k a) _ h.own_names h.own

closing_asked : (j : TokenKind) (l : Option Name) (k : Knowledge) (a : Asks) (f : Option Name) → Passing ((took j).names (asked l k a f)) → repeats f (class_of j) (word_of j) ≡ true
closing_asked j l k a f h = chosen (repeats f (class_of j) (word_of j)) _ h.closing_names h.closing

-- Where the token passes, nothing is asked any more; and it passes whatever the last identifier is.
took_asked : (j : TokenKind) (l i : Option Name) (k : Knowledge) (a : Asks) (f : Option Name) → Passing ((took j).names (asked l k a f)) → (took j).names (asked i k a f) ≡ calm (remembered (class_of j) (word_of j) i) k
took_asked j l i k a f h =
    let last = remembered (class_of j) (word_of j) i in
    let q : Option OwnNames = Some (record { last = last; operation = k.operation; in_result = k.in_result; asks = Any }) in
    let r : Option ClosingNames = Some (record { last = last; component = k.component; operation = k.operation; closes = None }) in
    ap (λ (b : Bool). let m : Names = record { own = cond b q None; closing = cond (repeats f (class_of j) (word_of j)) r None } in m) (own_asked j l k a f h)
    ∙ ap (λ (b : Bool). let m : Names = record { own = q; closing = cond b r None } in m) (closing_asked j l k a f h)

-- An action asks something of the one token behind it, which stands for a symbol.
record Asking (a : ℕ) (asks : Asks) (closes : Knowledge → Option Name) (s : Symbol) (before : List Move) (j : TokenKind) : Type 0 where
  pub acts : (l : Option Name) (k : Knowledge) → (did a).names (calm l k) ≡ asked l k asks (closes k)
  pub skips : (r : List Move) (ks : List TokenKind) → doing (before ++ r) ks ≡ doing r ks
  pub shifts : (r : List Move) (tt : List Symbol) (us : List Token) (w : Stage State) → made language_rules files (before ++ Shift ∷ r) (s ∷ tt) (token j ∷ us) w ≡ made language_rules files r tt us (files.take (token j) w)
  pub writable : PlainAreAscii → IsWritable j

asking : {a : ℕ} {asks : Asks} {closes : Knowledge → Option Name} {s : Symbol} {before : List Move} {x : Name} → Asking a asks closes s before (kind.Word x) → (t : Knowledge → Piece) → ((k : Knowledge) → repeats (closes k) (class_of (kind.Word x)) x ≡ true → (z : List ℕ) → t k z ≡ says x z)
    → Going (Action a ∷ s ∷ []) [] t (λ w. files.take (token (kind.Word x)) (files.act a w)) (λ w. files.take (token (kind.Word x)) (files.act a w)) (λ k. k) false (then (did a) (took (kind.Word x)))
asking {a} {asks} {closes} {s} {before} {x} g t told =
    let j : TokenKind = kind.Word x in
    let after : (l : Option Name) (k : Knowledge) → Passing ((took j).names ((did a).names (calm l k))) → Passing ((took j).names (asked l k asks (closes k))) = λ l k h. subst (λ z. Passing ((took j).names z)) (g.acts l k) h in
    record {
      leads = record {
        builds = λ w. refl;
        rises = λ d. act_rises a d;
        refuses = λ m h.
            let f = some_before (option_map (own_act a) m.own) (own.shift (token j)) h.own_names h.own in
            let i = some_before (option_map (closing_act a) m.closing) (closing.shift (token j)) h.closing_names h.closing in
            let u = some_mapped m.own (own_act a) f.0 f.1 in
            let v = some_mapped m.closing (closing_act a) i.0 i.1 in
            record { own_names = u.0; closing_names = v.0; own = u.1; closing = v.1 };
        knows = λ l k h. record { last = remembered (class_of j) (word_of j) l; is = ap (took j).names (g.acts l k) ∙ took_asked j l l k asks (closes k) (after l k h) };
        moves = λ r. Act a ∷ (before ++ Shift ∷ r);
        row = λ us. (j, 32 ∷ []) ∷ us;
        reads = λ l k h us. told k (closing_asked j l k asks (closes k) (after l k h)) (spaced us);
        apart = λ law us h. (g.writable law, refl, (λ f. absurd (let e : 32 ∷ [] ≡ [] = f in cc)), h);
        goes = λ r tt us w. ap (λ z. cond z (made language_rules files (before ++ Shift ∷ r) (s ∷ tt) (tokens ((j, 32 ∷ []) ∷ us)) (files.act a w)) None) (eq-eqb a a refl) ∙ g.shifts r tt (tokens us) (files.act a w);
        names = λ l i k h. record {
          last = remembered (class_of j) (word_of j) i;
          leads = λ r us. ap (λ z. z.names ((did a).names (calm i k))) (g.skips (Shift ∷ r) (j ∷ kinds us)) ∙ ap (λ z. (doing r (kinds us)).names ((took j).names z)) (g.acts i k) ∙ ap (λ z. (doing r (kinds us)).names z) (took_asked j l i k asks (closes k) (after l k h));
        };
        lightly = λ e. absurd (let f : false ≡ true = e in cc);
      };
      nests = λ e f l h. record { to = nesting_act a e; below = act_below a e f l; leads = λ r us. ap (λ z. z.nest (nesting_act a e)) (g.skips (Shift ∷ r) (j ∷ kinds us)) };
    }

-- ---- the same name

same_bytes : (a b : List ℕ) → pointwise nat_eq a b ≡ true → a ≡ b
same_bytes [] [] h = refl
same_bytes (x ∷ xs) (y ∷ ys) h =
    let e = both (nat_eq x y) (pointwise nat_eq xs ys) h in
    ap (λ z. z ∷ xs) (eqb-true x y e.0) ∙ ap (λ z. y ∷ z) (same_bytes xs ys e.1)
same_bytes [] (y ∷ ys) h = absurd (let f : false ≡ true = h in cc)
same_bytes (x ∷ xs) [] h = absurd (let f : false ≡ true = h in cc)

repeated : (f : Option Name) (class : ℕ) (x : Name) → repeats f class x ≡ true → (z : List ℕ) → says (known_or x f) z ≡ says x z
repeated None class x h z = refl
repeated (Some y) class x h z = ap (λ v. says v z) (same_bytes y x (both (class == n.id) (same_word y x) h).1)

-- ---- names that close

closing_going : (a : ℕ) (closes : Knowledge → Option Name) → ((l : Option Name) (k : Knowledge) → (did a).names (calm l k) ≡ asked l k Any (closes k)) → (d : Doing) (w : AnyWord d)
    → Going (Action a ∷ Nonterminal n.word_part ∷ []) [] (λ k. says (known_or w.word (closes k))) (λ v. files.take (token (kind.Word w.word)) (files.act a v)) (λ v. files.take (token (kind.Word w.word)) (files.act a v)) (λ k. k) false (then (did a) d)
closing_going a closes acts d w =
    let g : Asking a Any closes (Nonterminal n.word_part) (Expand n.word_part w.way ∷ []) (kind.Word w.word) = record {
      acts = acts;
      skips = λ r ks. refl;
      shifts = λ r tt us v.
          let go : List Symbol → Option (grammar.Stand (Stage State) Token) = λ z. made language_rules files (Shift ∷ r) z (token (kind.Word w.word) ∷ us) v in
          ap (λ z. opening go tt z) w.spells ∙ ap (λ z. cond z (made language_rules files r tt us (files.take (token (kind.Word w.word)) v)) None) w.is_class;
      writable = w.writable;
    } in
    subst (λ z. Going (Action a ∷ Nonterminal n.word_part ∷ []) [] (λ k. says (known_or w.word (closes k))) (λ v. files.take (token (kind.Word w.word)) (files.act a v)) (λ v. files.take (token (kind.Word w.word)) (files.act a v)) (λ k. k) false (then (did a) z)) (sym w.is)
    (asking g (λ k. says (known_or w.word (closes k))) (λ k h z. repeated (closes k) (class_of (kind.Word w.word)) w.word h z))

pub close_component_ways : (E : Claim) → Hold E n.close_component_part
unfolding language_rules
close_component_ways E = ((λ d s w. record { value = w.word; light = _; canonical = way n.close_component_part 0 refl (closing_going n.close_component_mark (λ k. k.component) (λ l k. refl) d w) (same_state w.word) (λ v. refl) (λ v. refl) }), tt)

pub close_operation_ways : (E : Claim) → Hold E n.close_operation_part
unfolding language_rules
close_operation_ways E = ((λ d s w. record { value = w.word; light = _; canonical = way n.close_operation_part 0 refl (closing_going n.close_operation_mark (λ k. k.operation) (λ l k. refl) d w) (same_state w.word) (λ v. refl) (λ v. refl) }), tt)

-- ---- the name of a result

result_going : (x : Name) → class_of_word x ≡ n.id → IsWritable (kind.Word x) → Going (Action n.same_mark ∷ Terminal n.id ∷ []) [] (λ k. says x) (λ v. files.take (token (kind.Word x)) (files.act n.same_mark v)) (λ v. files.take (token (kind.Word x)) (files.act n.same_mark v)) (λ k. k) false (then (did n.same_mark) (took (kind.Word x)))
result_going x e i =
    let g : Asking n.same_mark Own (λ k. None) (Terminal n.id) [] (kind.Word x) = record {
      acts = λ l k. refl;
      skips = λ r ks. refl;
      shifts = λ r tt us v. ap (λ z. cond (n.id == z) (made language_rules files r tt us (files.take (token (kind.Word x)) v)) None) e;
      writable = λ law. i;
    } in
    asking g (λ k. says x) (λ k h z. refl)

pub result_name_ways : (E : Claim) → Hold E n.result_name_part
unfolding language_rules
result_name_ways E = ((λ x e i. record { value = x; light = _; canonical = way n.result_name_part 0 refl (result_going x e i ▹ act n.keep_mark refl ▹ done) (keep x) (λ w. refl) (λ w. refl) }), tt)

-- ---- names that open

opening_going : (a : ℕ) (f : Knowledge → Knowledge) (x : Name) → class_of_word x ≡ n.id → IsWritable (kind.Word x) → ((k : Knowledge) → (did a).names (calm (Some x) k) ≡ calm (Some x) (f k))
    → Going (Terminal n.id ∷ Action a ∷ []) [] (λ k. says x) (λ w. files.act a (files.take (token (kind.Word x)) w)) (λ w. files.act a (files.take (token (kind.Word x)) w)) f false (then (took (kind.Word x)) (did a))
opening_going a f x e i acts =
    let j : TokenKind = kind.Word x in
    let opens : (l : Option Name) (k : Knowledge) → (did a).names ((took j).names (calm l k)) ≡ calm (Some x) (f k) =
    λ l k. ap (did a).names (took_calm j l k ∙ ap (λ z. calm (cond (z == n.id) (Some x) l) k) e) ∙ acts k in
    record {
      leads = record {
        builds = λ w. refl;
        rises = λ d. act_rises a d;
        refuses = λ m h.
            let u = some_mapped (and_then m.own (own.shift (token j))) (own_act a) h.own_names h.own in
            let v = some_mapped (and_then m.closing (closing.shift (token j))) (closing_act a) h.closing_names h.closing in
            let b = some_before m.own (own.shift (token j)) u.0 u.1 in
            let c = some_before m.closing (closing.shift (token j)) v.0 v.1 in
            record { own_names = b.0; closing_names = c.0; own = b.1; closing = c.1 };
        knows = λ l k h. record { last = Some x; is = opens l k };
        moves = λ r. Shift ∷ Act a ∷ r;
        row = λ us. (j, 32 ∷ []) ∷ us;
        reads = λ l k h us. refl;
        apart = λ law us h. (i, refl, (λ g. absurd (let d : 32 ∷ [] ≡ [] = g in cc)), h);
        goes = λ r tt us w.
            ap (λ z. cond (n.id == z) (made language_rules files (Act a ∷ r) (Action a ∷ tt) (tokens us) (files.take (token j) w)) None) e
            ∙ ap (λ z. cond z (made language_rules files r tt (tokens us) (files.act a (files.take (token j) w))) None) (eq-eqb a a refl);
        names = λ l k m h. record { last = Some x; leads = λ r us. ap (doing r (kinds us)).names (opens k m) };
        lightly = λ g. absurd (let d : false ≡ true = g in cc);
      };
      nests = λ b c l h. record { to = nesting_act a b; below = act_below a b c l; leads = λ r us. refl };
    }

pub component_name_ways : (E : Claim) → Hold E n.component_name_part
unfolding language_rules
component_name_ways E = ((λ x e i. record { value = x; light = _; canonical = way n.component_name_part 0 refl (opening_going n.open_component_mark (in_component x) x e i (λ k. refl)) (keep x) (λ w. refl) (λ w. refl) }), tt)

pub operation_name_ways : (E : Claim) → Hold E n.operation_name_part
unfolding language_rules
operation_name_ways E = ((λ x e i. record { value = x; light = _; canonical = way n.operation_name_part 0 refl (opening_going n.open_operation_mark (in_operation x) x e i (λ k. refl)) (keep x) (λ w. refl) (λ w. refl) }), tt)
