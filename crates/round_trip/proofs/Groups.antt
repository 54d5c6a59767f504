-- Parameters, fields and variables, which are read in groups and printed one by one.
use Rattle.std.proofs.Common.{◌≡◌, ◌∙◌, ap, refl, ℕ, true, List, [], ◌∷◌, ◌++◌, map}
use Rattle.ll_grammar.specs.declared.form.Symbol.{Symbol}
use Rattle.ll_grammar.specs.declared.form.Symbol.TheVariants.{Nonterminal}
use Rattle.res_lexer.specs.Spaced.{IsWritable}
use Rattle.res_lexer.specs.declared.token.Token.{Token}
use Rattle.res_lexer.specs.declared.token.TokenKind.TheVariants as kind
use Rattle.res_ast.specs.declared.heading.Mode.{Mode}
use Rattle.res_ast.specs.declared.heading.Param.{Param}
use Rattle.res_ast.specs.declared.heading.PType.{PType}
use Rattle.res_grammar.specs.Classes.{class_of_word}
use Rattle.res_grammar.specs.Language.{language_rules}
use Rattle.res_grammar.specs.Numbers as n
use Rattle.expr_parser.specs.Built.{Stage}
use Rattle.expr_parser.specs.declared.word.Word.{Word}
use Rattle.module_parser.specs.Headings as headings
use Rattle.module_parser.specs.declared.state.State.{State}
use Rattle.res_printer.specs.Components.{field, param, variable}
use Rattle.res_printer.specs.Pieces.{Piece, each, row, semicolon, separated}
use Rattle.round_trip.proofs.Canonical.{Going, act, as_apart, as_staged, done, expanded, flatly, instead, line, name, nothing_going, staged, through, way, way_as, word, ◌▹◌}
use Rattle.round_trip.proofs.Chains.{Claim}
use Rattle.round_trip.proofs.Claims.{AllNames, Hold, ModeClaim, Name, TypeClaim, add_fields, add_params, added_both, each_both, grouped, named, top_added}
use Rattle.round_trip.proofs.Doing.{Doing, nothing_done}

-- no name follows
abbrev NoMore : Type 0
NoMore = Going (Nonterminal n.more_names_part ∷ []) [] (λ k z. z) (λ w. w) (λ w. w) (λ k. k) true nothing_done

no_more : NoMore
unfolding language_rules
no_more = expanded n.more_names_part 1 refl done

-- More is spelled, where nothing was read.
record Extra (ss : List Symbol) (text : Piece) (push : State → State) : Type 0 where
  pub last : Stage State → Token
  pub going : Going ss ss (λ k. text) (λ w. w) (staged last push) (λ k. k) true nothing_done

extra : {ss : List Symbol} {t : Piece} {l r : Stage State → Token} {p : State → State} {m : Doing} → Going ss ss (λ k. t) (staged l p) (staged r p) (λ k. k) true m → Extra ss t p
extra {ss} {t} {l} {r} {p} x = record { last = r; going = instead (nothing_going {ss = ss}) x (flatly (nothing_going {ss = ss})) }

both_extra : {ss : List Symbol} {t u : Piece} {p q : State → State} → Extra ss t p → Extra ss u q → Extra ss (λ z. t (u z)) (λ s. q (p s))
both_extra {p = p} x y = record { last = λ w. y.last (staged x.last p w); going = through x.going y.going }

no_extra : {ss : List Symbol} → Extra ss (λ z. z) (λ s. s)
no_extra {ss} = record { last = λ w. w.last; going = nothing_going {ss = ss} }

-- ---- parameters

abbrev param_of : Mode → PType → Word → Param
param_of m t w = record { at = w.at; mode = m; name = w.name; ptype = t }

one_param : (m d : Doing) (a : ModeClaim m) (t : TypeClaim d) (x : Name) → class_of_word x ≡ n.id → IsWritable (kind.Word x) → Extra (Nonterminal n.more_parameters_part ∷ []) (row (semicolon ∷ param (param_of a.value t.value (named x)) ∷ [])) (add_params (param_of a.value t.value (named x) ∷ []))
unfolding language_rules
one_param m d a t x e i =
    let p = as_staged (line 16 refl ▹ expanded n.parameter_part 0 refl (a.canonical.going ▹ act n.names_mark refl ▹ name x e i ▹ act n.add_name_mark refl ▹ no_more ▹ word 17 refl ▹ t.canonical.going ▹ act n.add_params_mark refl ▹ done) ▹ done) (add_params (param_of a.value t.value (named x) ∷ [])) (λ w. refl) (λ w. refl) in
    extra (expanded n.more_parameters_part 0 refl (p.going ▹ nothing_going {ss = Nonterminal n.more_parameters_part ∷ []}))

more_params : (m d : Doing) (a : ModeClaim m) (t : TypeClaim d) (xs : List Name) → AllNames xs → Extra (Nonterminal n.more_parameters_part ∷ []) (each (λ p. row (semicolon ∷ param p ∷ [])) (map (param_of a.value t.value) (map named xs))) (add_params (map (param_of a.value t.value) (map named xs)))
more_params m d a t [] h = no_extra
more_params m d a t (x ∷ xs) h = both_extra (one_param m d a t x h.0 h.1) (more_params m d a t xs h.2)

pub parameter_ways : (E : Claim) → Hold E n.parameter_part
unfolding language_rules
parameter_ways E = (
  (λ m s0 a x e i j s1 b d s2 t.
      let p = param_of a.value t.value (named x) in
      let ps = map (param_of a.value t.value) (map named b.read.value) in
      let more = b.read.canonical.going in
      let first = as_apart (expanded n.parameter_part 0 refl (a.canonical.going ▹ act n.names_mark refl ▹ name x e i ▹ act n.add_name_mark refl ▹ instead more no_more (flatly more) ▹ word 17 refl ▹ t.canonical.going ▹ act n.add_params_mark refl ▹ done)) (add_params (p ∷ ps)) (add_params (p ∷ []))
      (λ w. ap (λ z. headings.add_params (record w.state { names = z; modes = a.value ∷ w.state.modes; types = t.value ∷ w.state.types })) (top_added (map named b.read.value) (named x ∷ []) w.state.names) ∙ ap (λ z. record w.state { params = z }) (grouped p ps w.state.params)) (λ w. refl) in
      let rest = more_params m d a t b.read.value b.are in
      record { first = p; others = ps; read_last = first.read_last; last = λ w. rest.last (staged first.last (add_params (p ∷ [])) w); going = first.going ▹ rest.going }),
  tt,
)

params_say : (p : Param) (ps qs : List Param) (z : List ℕ) → separated semicolon param ((p ∷ ps) ++ qs) z ≡ param p (each (λ p. row (semicolon ∷ param p ∷ [])) ps (each (λ p. row (semicolon ∷ param p ∷ [])) qs z))
params_say p ps qs z = ap (param p) (each_both (λ p. row (semicolon ∷ param p ∷ [])) ps qs z)

pub parameters_ways : (E : Claim) → Hold E n.parameters_part
unfolding language_rules
parameters_ways E = (
  (λ m s0 a d s1 b. record {
    value = (a.first ∷ a.others) ++ b.value;
    light = _;
    canonical = way_as n.parameters_part 0 refl (through a.going b.canonical.going) (λ k. separated semicolon param ((a.first ∷ a.others) ++ b.value)) (λ k z. params_say a.first a.others b.value z) (add_params ((a.first ∷ a.others) ++ b.value))
        (λ w. ap (λ z. record w.state { params = z }) (added_both (a.first ∷ a.others) b.value w.state.params)) (λ w. ap (λ z. record w.state { params = z }) (added_both (a.first ∷ a.others) b.value w.state.params));
  }),
  (
    record { value = []; light = _; canonical = way n.parameters_part 1 refl done (add_params []) (λ w. refl) (λ w. refl) },
    tt,
  ),
)

pub more_parameters_ways : (E : Claim) → Hold E n.more_parameters_part
unfolding language_rules
more_parameters_ways E = (
  (λ m s0 a d s1 b. record {
    value = (a.first ∷ a.others) ++ b.value;
    light = _;
    canonical = way_as n.more_parameters_part 0 refl (line 16 refl ▹ through a.going b.canonical.going) (λ k. each (λ p. row (semicolon ∷ param p ∷ [])) ((a.first ∷ a.others) ++ b.value)) (λ k z. each_both (λ p. row (semicolon ∷ param p ∷ [])) (a.first ∷ a.others) b.value z) (add_params ((a.first ∷ a.others) ++ b.value))
        (λ w. ap (λ z. record w.state { params = z }) (added_both (a.first ∷ a.others) b.value w.state.params)) (λ w. ap (λ z. record w.state { params = z }) (added_both (a.first ∷ a.others) b.value w.state.params));
  }),
  (
    record { value = []; light = _; canonical = way n.more_parameters_part 1 refl done (add_params []) (λ w. refl) (λ w. refl) },
    tt,
  ),
)

-- ---- fields and variables

abbrev typed_name : PType → Word → Name × PType
typed_name t w = (w.name, t)

one_field : (d : Doing) (t : TypeClaim d) (x : Name) → class_of_word x ≡ n.id → IsWritable (kind.Word x) → Extra (Nonterminal n.fields_part ∷ []) (field (x, t.value)) (add_fields ((x, t.value) ∷ []))
unfolding language_rules
one_field d t x e i =
    let p = as_staged (act n.names_mark refl ▹ name x e i ▹ act n.add_name_mark refl ▹ no_more ▹ word 17 refl ▹ t.canonical.going ▹ act n.add_typed_names_mark refl ▹ line 16 refl ▹ done) (add_fields ((x, t.value) ∷ [])) (λ w. refl) (λ w. refl) in
    extra (expanded n.fields_part 0 refl (p.going ▹ nothing_going {ss = Nonterminal n.fields_part ∷ []}))

more_fields : (d : Doing) (t : TypeClaim d) (xs : List Name) → AllNames xs → Extra (Nonterminal n.fields_part ∷ []) (each field (map (typed_name t.value) (map named xs))) (add_fields (map (typed_name t.value) (map named xs)))
more_fields d t [] h = no_extra
more_fields d t (x ∷ xs) h = both_extra (one_field d t x h.0 h.1) (more_fields d t xs h.2)

pub fields_ways : (E : Claim) → Hold E n.fields_part
unfolding language_rules
fields_ways E = (
  (λ x e i j s0 b d s1 t f s2 c.
      let ps = map (typed_name t.value) (map named (x ∷ b.read.value)) in
      let more = b.read.canonical.going in
      let first = as_apart (act n.names_mark refl ▹ name x e i ▹ act n.add_name_mark refl ▹ instead more no_more (flatly more) ▹ word 17 refl ▹ t.canonical.going ▹ act n.add_typed_names_mark refl ▹ line 16 refl ▹ done) (add_fields ps) (add_fields ((x, t.value) ∷ []))
      (λ w. ap (λ z. headings.add_typed_names (record w.state { names = z; types = t.value ∷ w.state.types })) (top_added (map named b.read.value) (named x ∷ []) w.state.names) ∙ ap (λ z. record w.state { fields = z }) (grouped (x, t.value) (map (typed_name t.value) (map named b.read.value)) w.state.fields)) (λ w. refl) in
      let rest = more_fields d t b.read.value b.are in
      record {
        value = ps ++ c.value;
        light = _;
        canonical = way_as n.fields_part 0 refl (first.going ▹ through rest.going c.canonical.going) (λ k. each field (ps ++ c.value)) (λ k z. each_both field ps c.value z) (add_fields (ps ++ c.value))
            (λ w. ap (λ z. record w.state { fields = z }) (added_both ps c.value w.state.fields)) (λ w. ap (λ z. record w.state { fields = z }) (added_both ps c.value w.state.fields));
      }),
  (
    record { value = []; light = _; canonical = way n.fields_part 1 refl done (add_fields []) (λ w. refl) (λ w. refl) },
    tt,
  ),
)

one_variable : (d : Doing) (t : TypeClaim d) (x : Name) → class_of_word x ≡ n.id → IsWritable (kind.Word x) → Extra (Nonterminal n.variables_part ∷ []) (variable (x, t.value)) (add_fields ((x, t.value) ∷ []))
unfolding language_rules class_of_word
one_variable d t x e i =
    let p = as_staged (word 66 refl ▹ act n.names_mark refl ▹ name x e i ▹ act n.add_name_mark refl ▹ no_more ▹ word 17 refl ▹ t.canonical.going ▹ act n.add_typed_names_mark refl ▹ line 16 refl ▹ done) (add_fields ((x, t.value) ∷ [])) (λ w. refl) (λ w. refl) in
    extra (expanded n.variables_part 0 refl (p.going ▹ nothing_going {ss = Nonterminal n.variables_part ∷ []}))

more_variables : (d : Doing) (t : TypeClaim d) (xs : List Name) → AllNames xs → Extra (Nonterminal n.variables_part ∷ []) (each variable (map (typed_name t.value) (map named xs))) (add_fields (map (typed_name t.value) (map named xs)))
more_variables d t [] h = no_extra
more_variables d t (x ∷ xs) h = both_extra (one_variable d t x h.0 h.1) (more_variables d t xs h.2)

pub variables_ways : (E : Claim) → Hold E n.variables_part
unfolding language_rules class_of_word
variables_ways E = (
  (λ x e i j s0 b d s1 t f s2 c.
      let ps = map (typed_name t.value) (map named (x ∷ b.read.value)) in
      let more = b.read.canonical.going in
      let first = as_apart (word 66 refl ▹ act n.names_mark refl ▹ name x e i ▹ act n.add_name_mark refl ▹ instead more no_more (flatly more) ▹ word 17 refl ▹ t.canonical.going ▹ act n.add_typed_names_mark refl ▹ line 16 refl ▹ done) (add_fields ps) (add_fields ((x, t.value) ∷ []))
      (λ w. ap (λ z. headings.add_typed_names (record w.state { names = z; types = t.value ∷ w.state.types })) (top_added (map named b.read.value) (named x ∷ []) w.state.names) ∙ ap (λ z. record w.state { fields = z }) (grouped (x, t.value) (map (typed_name t.value) (map named b.read.value)) w.state.fields)) (λ w. refl) in
      let rest = more_variables d t b.read.value b.are in
      record {
        value = ps ++ c.value;
        light = _;
        canonical = way_as n.variables_part 0 refl (first.going ▹ through rest.going c.canonical.going) (λ k. each variable (ps ++ c.value)) (λ k z. each_both variable ps c.value z) (add_fields (ps ++ c.value))
            (λ w. ap (λ z. record w.state { fields = z }) (added_both ps c.value w.state.fields)) (λ w. ap (λ z. record w.state { fields = z }) (added_both ps c.value w.state.fields));
      }),
  (
    record { value = []; light = _; canonical = way n.variables_part 1 refl done (add_fields []) (λ w. refl) (λ w. refl) },
    tt,
  ),
)
