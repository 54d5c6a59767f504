-- Facilities: each way of their parts.
use Rattle.std.proofs.Common.{ap, refl, ℕ, zero, suc, pos, negsuc, ◌&&◌, true, List, [], ◌∷◌, Some, None, codes}
use Rattle.ll_grammar.specs.declared.form.Symbol.TheVariants.{Nonterminal, Action}
use Rattle.res_lexer.specs.Spaced.{IsWritable}
use Rattle.res_lexer.specs.declared.token.TokenKind.TheVariants as kind
use Rattle.res_ast.specs.declared.facility.FacArg.{FacArg}
use Rattle.res_ast.specs.declared.facility.FacArg.TheVariants as arg
use Rattle.res_ast.specs.declared.facility.FacDecl.{FacDecl}
use Rattle.res_grammar.specs.Classes.{class_of_word}
use Rattle.res_grammar.specs.Language.{language_rules}
use Rattle.res_grammar.specs.Numbers as n
use Rattle.module_parser.specs.declared.state.State.{State}
use Rattle.res_printer.specs.Components.{enhanced, facility_arguments}
use Rattle.res_printer.specs.Pieces.{each}
use Rattle.round_trip.proofs.Canonical.{Staged, act, as_apart, as_staged, done, expanded, flatly, instead, line, literal, name, touching, way, word, ◌▹◌}
use Rattle.round_trip.proofs.Chains.{Claim}
use Rattle.round_trip.proofs.Claims.{ArgumentClaim, ArgumentsClaim, EnhancedClaim, FacilityRest, Hold, Name, add_args, add_facilities, add_pairs, put_facility_rest, top_added}
use Rattle.round_trip.proofs.Doing.{Doing, did, then, took}

-- ---- arguments

abbrev put_args : List FacArg → State → State
put_args xs s = record s { args = xs ∷ s.args }

argued : (m : Doing) (a : ArgumentsClaim m) → Staged (Action n.args_mark ∷ Nonterminal n.arguments_part ∷ []) (λ k. facility_arguments a.value) (put_args a.value) (λ k. k) (a.light && true) (then (did n.args_mark) m)
argued m a = as_staged (act n.args_mark refl ▹ a.canonical.going ▹ done) (put_args a.value) (λ w. ap (λ z. record w.state { args = z }) (top_added a.value [] w.state.args)) (λ w. ap (λ z. record w.state { args = z }) (top_added a.value [] w.state.args))

pub arguments_ways : (E : Claim) → Hold E n.arguments_part
unfolding language_rules
arguments_ways E = (
  (λ m s0 a j s1 b. record { value = a.value ∷ b.value; light = _; canonical = way n.arguments_part 0 refl (word 13 refl ▹ a.canonical.going ▹ b.canonical.going ▹ word 14 refl ▹ done) (add_args (a.value ∷ b.value)) (λ w. refl) (λ w. refl) }),
  (
    record { value = []; light = _; canonical = way n.arguments_part 1 refl done (add_args []) (λ w. refl) (λ w. refl) },
    tt,
  ),
)

pub more_arguments_ways : (E : Claim) → Hold E n.more_arguments_part
unfolding language_rules
more_arguments_ways E = (
  (λ m s0 a j s1 b. record { value = a.value ∷ b.value; light = _; canonical = way n.more_arguments_part 0 refl (word 15 refl ▹ a.canonical.going ▹ b.canonical.going ▹ done) (add_args (a.value ∷ b.value)) (λ w. refl) (λ w. refl) }),
  (
    record { value = []; light = _; canonical = way n.more_arguments_part 1 refl done (add_args []) (λ w. refl) (λ w. refl) },
    tt,
  ),
)

-- a minus sign and a literal, as they are read
abbrev minus_done : ℕ → Doing
minus_done k = then (took (kind.Symbol 10)) (then (did n.keep_mark) (then (took (kind.Literal (pos k))) (did n.minus_arg_mark)))

-- no blank stands between them
minus_argument : (k : ℕ) → IsWritable (kind.Literal (pos k)) → ArgumentClaim (minus_done k)
unfolding language_rules
minus_argument zero i =
    let read = as_apart (word 11 refl ▹ act n.keep_mark refl ▹ literal 0 i ▹ act n.minus_arg_mark refl ▹ done) (add_args (arg.Number 0 (pos 0) ∷ [])) (add_args (arg.Number 0 (pos 0) ∷ [])) (λ w. refl) (λ w. refl) in
    let print = as_staged (expanded n.argument_part 1 refl (literal 0 i ▹ act n.number_arg_mark refl ▹ done)) (add_args (arg.Number 0 (pos 0) ∷ [])) (λ w. refl) (λ w. refl) in
    record { value = arg.Number 0 (pos 0); light = _; canonical = record { read_last = read.read_last; last = print.last; going = instead read.going print.going (flatly read.going) } }
minus_argument (suc k) i = record { value = arg.Number 0 (negsuc k); light = _; canonical = way n.argument_part 2 refl (touching k i ▹ act n.minus_arg_mark refl ▹ done) (add_args (arg.Number 0 (negsuc k) ∷ [])) (λ w. refl) (λ w. refl) }

pub argument_ways : (E : Claim) → Hold E n.argument_part
unfolding language_rules
argument_ways E = (
  (λ m s0 a. record { value = arg.OfType a.value; light = _; canonical = way n.argument_part 0 refl (a.canonical.going ▹ act n.type_arg_mark refl ▹ done) (add_args (arg.OfType a.value ∷ [])) (λ w. refl) (λ w. refl) }),
  (
    (λ k i. record { value = arg.Number 0 (pos k); light = _; canonical = way n.argument_part 1 refl (literal k i ▹ act n.number_arg_mark refl ▹ done) (add_args (arg.Number 0 (pos k) ∷ [])) (λ w. refl) (λ w. refl) }),
    (
      (λ k i. minus_argument k i),
      tt,
    ),
  ),
)

-- ---- enhancements

abbrev put_pairs : List (Name × Name) → State → State
put_pairs ps s = record s { pairs = ps ∷ s.pairs }

paired : (m : Doing) (a : EnhancedClaim m) → Staged (Action n.pairs_mark ∷ Nonterminal n.enhanced_part ∷ []) (λ k. each enhanced a.value) (put_pairs a.value) (λ k. k) (a.light && true) (then (did n.pairs_mark) m)
paired m a = as_staged (act n.pairs_mark refl ▹ a.canonical.going ▹ done) (put_pairs a.value) (λ w. ap (λ z. record w.state { pairs = z }) (top_added a.value [] w.state.pairs)) (λ w. ap (λ z. record w.state { pairs = z }) (top_added a.value [] w.state.pairs))

pub enhanced_ways : (E : Claim) → Hold E n.enhanced_part
unfolding language_rules class_of_word
enhanced_ways E = (
  (λ x e i y f j m s0 a. record { value = (x, y) ∷ a.value; light = _; canonical = way n.enhanced_part 0 refl (word 59 refl ▹ word 32 refl ▹ name x e i ▹ act n.keep_mark refl ▹ word 58 refl ▹ word 32 refl ▹ name y f j ▹ act n.add_pair_mark refl ▹ a.canonical.going ▹ done) (add_pairs ((x, y) ∷ a.value)) (λ w. refl) (λ w. refl) }),
  (
    record { value = []; light = _; canonical = way n.enhanced_part 1 refl done (add_pairs []) (λ w. refl) (λ w. refl) },
    tt,
  ),
)

-- ---- facilities

pub facility_rest_ways : (E : Claim) → Hold E n.facility_rest_part
unfolding language_rules class_of_word
facility_rest_ways E = (
  (λ x e i m s0 a y f j d s1 b.
      let v : FacilityRest = record { concept = x; args = a.value; realization = Some y; enhanced = b.value } in
      record { value = v; light = _; canonical = way n.facility_rest_part 0 refl (name x e i ▹ act n.keep_mark refl ▹ (argued m a).going ▹ word 58 refl ▹ word 32 refl ▹ name y f j ▹ act n.keep_mark refl ▹ act n.realized_by_mark refl ▹ (paired d b).going ▹ done) (put_facility_rest v) (λ w. refl) (λ w. refl) }),
  (
    (λ m s0 a.
        let v : FacilityRest = record { concept = codes "Static_Array_Template"; args = a.value; realization = None; enhanced = [] } in
        record { value = v; light = _; canonical = way n.facility_rest_part 1 refl (word 57 refl ▹ act n.keep_mark refl ▹ (argued m a).going ▹ act n.not_realized_mark refl ▹ act n.pairs_mark refl ▹ done) (put_facility_rest v) (λ w. refl) (λ w. refl) }),
    tt,
  ),
)

pub facility_ways : (E : Claim) → Hold E n.facility_part
unfolding language_rules class_of_word
facility_ways E = (
  (λ x e i m s0 a.
      let f : FacDecl = record { at = 0; name = x; concept = a.value.concept; args = a.value.args; realization = a.value.realization; enhanced = a.value.enhanced } in
      record { value = f; light = _; canonical = way n.facility_part 0 refl (word 56 refl ▹ act n.keep_mark refl ▹ name x e i ▹ act n.keep_mark refl ▹ word 30 refl ▹ a.canonical.going ▹ line 16 refl ▹ act n.add_fac_mark refl ▹ done) (add_facilities (f ∷ [])) (λ w. refl) (λ w. refl) }),
  tt,
)

pub facilities_ways : (E : Claim) → Hold E n.facilities_part
unfolding language_rules
facilities_ways E = (
  (λ m s0 a j s1 b. record { value = a.value ∷ b.value; light = _; canonical = way n.facilities_part 0 refl (a.canonical.going ▹ b.canonical.going ▹ done) (add_facilities (a.value ∷ b.value)) (λ w. refl) (λ w. refl) }),
  (
    record { value = []; light = _; canonical = way n.facilities_part 1 refl done (add_facilities []) (λ w. refl) (λ w. refl) },
    tt,
  ),
)
