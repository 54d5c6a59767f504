-- Names, clauses, types and headings: each way of their parts.
use Rattle.std.proofs.Common.{◌≡◌, ap, refl, ℕ, List, [], ◌∷◌, map, Option, Some, None, codes, true, false}
use Rattle.res_ast.specs.declared.heading.Formal.{Formal}
use Rattle.res_ast.specs.declared.heading.Heading.{Heading}
use Rattle.res_ast.specs.declared.heading.Mode.TheVariants as mode
use Rattle.res_ast.specs.declared.heading.PType.{PType}
use Rattle.res_grammar.specs.Classes.{class_of_word}
use Rattle.res_grammar.specs.Language.{language_rules}
use Rattle.res_grammar.specs.Numbers as n
use Rattle.module_parser.specs.Headings.{heading_of}
use Rattle.module_parser.specs.declared.state.State.{State}
use Rattle.res_printer.specs.Components.{ptype}
use Rattle.res_printer.specs.Pieces.{says}
use Rattle.round_trip.proofs.Canonical.{act, done, line, name, way, way_as, word, ◌▹◌}
use Rattle.round_trip.proofs.Chains.{Claim}
use Rattle.round_trip.proofs.Claims.{Hold, HeadingRest, Name, Outside, add_formals, add_headings, add_names, keep, named, put_clause, put_formals, put_heading, put_heading_rest, put_mode, put_names, put_result, put_type, top_added, type_of, type_rest, type_rest_text}

-- ---- names and clauses

pub more_names_ways : (E : Claim) → Hold E n.more_names_part
unfolding language_rules
more_names_ways E = (
  (λ x e i m s0 a. record {
    read = record { value = x ∷ a.read.value; canonical = way n.more_names_part 0 refl (word 15 refl ▹ name x e i ▹ act n.add_name_mark refl ▹ a.read.canonical.going ▹ done) (add_names (x ∷ a.read.value)) (λ w. refl) (λ w. refl) };
    are = (e, i, a.are);
  }),
  (
    record { read = record { value = []; canonical = way n.more_names_part 1 refl done (add_names []) (λ w. refl) (λ w. refl) }; are = tt },
    tt,
  ),
)

pub uses_ways : (E : Claim) → Hold E n.uses_part
unfolding language_rules class_of_word
uses_ways E = (
  (λ x e i m s0 a. record { value = x ∷ a.read.value; light = _; canonical = way n.uses_part 0 refl (word 25 refl ▹ act n.names_mark refl ▹ name x e i ▹ act n.add_name_mark refl ▹ a.read.canonical.going ▹ line 16 refl ▹ done) (put_names (x ∷ a.read.value)) (λ w. ap (λ z. record w.state { names = z }) (top_added (map named a.read.value) (named x ∷ []) w.state.names)) (λ w. ap (λ z. record w.state { names = z }) (top_added (map named a.read.value) (named x ∷ []) w.state.names)) }),
  (
    record { value = []; light = _; canonical = way n.uses_part 1 refl (act n.names_mark refl ▹ done) (put_names []) (λ w. refl) (λ w. refl) },
    tt,
  ),
)

pub requires_ways : (E : Claim) → Outside E → Hold E n.requires_part
unfolding language_rules class_of_word
requires_ways E o = (
  (λ m s0 e. let a = o.expression m e in record { value = Some a.value; light = _; canonical = way n.requires_part 0 refl (word 26 refl ▹ a.canonical.going ▹ line 16 refl ▹ act n.some_clause_mark refl ▹ done) (put_clause (Some a.value)) (λ w. refl) (λ w. refl) }),
  (
    record { value = None; light = _; canonical = way n.requires_part 1 refl (act n.no_clause_mark refl ▹ done) (put_clause None) (λ w. refl) (λ w. refl) },
    tt,
  ),
)

pub ensures_ways : (E : Claim) → Outside E → Hold E n.ensures_part
unfolding language_rules class_of_word
ensures_ways E o = (
  (λ m s0 e. let a = o.expression m e in record { value = Some a.value; light = _; canonical = way n.ensures_part 0 refl (word 36 refl ▹ a.canonical.going ▹ line 16 refl ▹ act n.some_clause_mark refl ▹ done) (put_clause (Some a.value)) (λ w. refl) (λ w. refl) }),
  (
    record { value = None; light = _; canonical = way n.ensures_part 1 refl (act n.no_clause_mark refl ▹ done) (put_clause None) (λ w. refl) (λ w. refl) },
    tt,
  ),
)

pub constraint_ways : (E : Claim) → Outside E → Hold E n.constraint_part
unfolding language_rules class_of_word
constraint_ways E o = (
  (λ m s0 e. let a = o.expression m e in record { value = Some a.value; light = _; canonical = way n.constraint_part 0 refl (word 34 refl ▹ a.canonical.going ▹ line 16 refl ▹ act n.some_clause_mark refl ▹ done) (put_clause (Some a.value)) (λ w. refl) (λ w. refl) }),
  (
    record { value = None; light = _; canonical = way n.constraint_part 1 refl (act n.no_clause_mark refl ▹ done) (put_clause None) (λ w. refl) (λ w. refl) },
    tt,
  ),
)

pub metric_ways : (E : Claim) → Outside E → Hold E n.metric_part
unfolding language_rules class_of_word
metric_ways E o = (
  (λ m s0 e. let a = o.expression m e in record { value = Some a.value; light = _; canonical = way n.metric_part 0 refl (word 65 refl ▹ a.canonical.going ▹ line 16 refl ▹ act n.some_clause_mark refl ▹ done) (put_clause (Some a.value)) (λ w. refl) (λ w. refl) }),
  (
    record { value = None; light = _; canonical = way n.metric_part 1 refl (act n.no_clause_mark refl ▹ done) (put_clause None) (λ w. refl) (λ w. refl) },
    tt,
  ),
)

-- ---- types

pub mode_ways : (E : Claim) → Hold E n.mode_part
unfolding language_rules class_of_word
mode_ways E = (
  record { value = mode.Alters; canonical = way n.mode_part 0 refl (word 45 refl ▹ act n.mode_alters_mark refl ▹ done) (put_mode mode.Alters) (λ w. refl) (λ w. refl) },
  (
    record { value = mode.Clears; canonical = way n.mode_part 1 refl (word 46 refl ▹ act n.mode_clears_mark refl ▹ done) (put_mode mode.Clears) (λ w. refl) (λ w. refl) },
    (
      record { value = mode.Evaluates; canonical = way n.mode_part 2 refl (word 23 refl ▹ act n.mode_evaluates_mark refl ▹ done) (put_mode mode.Evaluates) (λ w. refl) (λ w. refl) },
      (
        record { value = mode.Preserves; canonical = way n.mode_part 3 refl (word 47 refl ▹ act n.mode_preserves_mark refl ▹ done) (put_mode mode.Preserves) (λ w. refl) (λ w. refl) },
        (
          record { value = mode.Replaces; canonical = way n.mode_part 4 refl (word 48 refl ▹ act n.mode_replaces_mark refl ▹ done) (put_mode mode.Replaces) (λ w. refl) (λ w. refl) },
          (
            record { value = mode.Restores; canonical = way n.mode_part 5 refl (word 49 refl ▹ act n.mode_restores_mark refl ▹ done) (put_mode mode.Restores) (λ w. refl) (λ w. refl) },
            (
              record { value = mode.Updates; canonical = way n.mode_part 6 refl (word 50 refl ▹ act n.mode_updates_mark refl ▹ done) (put_mode mode.Updates) (λ w. refl) (λ w. refl) },
              tt,
            ),
          ),
        ),
      ),
    ),
  ),
)

-- a type of one word
abbrev built_in : Name → PType
built_in x = record { at = 0; facility = None; name = x }

-- a type of this facility
abbrev type_named : Option Name → Name → PType
type_named None x = built_in x
type_named (Some y) x = record { at = 0; facility = Some x; name = y }

type_rest_is : (v : Option Name) (x : Name) (s : State) → type_rest v (keep x s) ≡ put_type (type_named v x) s
type_rest_is None x s = refl
type_rest_is (Some y) x s = refl

type_says : (v : Option Name) (x : Name) (z : List ℕ) → ptype (type_named v x) z ≡ says x (type_rest_text v z)
type_says None x z = refl
type_says (Some y) x z = refl

pub type_ways : (E : Claim) → Hold E n.type_part
unfolding language_rules class_of_word
type_ways E = (
  record { value = built_in (codes "Integer"); canonical = way n.type_part 0 refl (word 24 refl ▹ act n.type_word_mark refl ▹ done) (put_type (built_in (codes "Integer"))) (λ w. refl) (λ w. refl) },
  (
    record { value = built_in (codes "Boolean"); canonical = way n.type_part 1 refl (word 42 refl ▹ act n.type_word_mark refl ▹ done) (put_type (built_in (codes "Boolean"))) (λ w. refl) (λ w. refl) },
    (
      record { value = built_in (codes "In_Stream"); canonical = way n.type_part 2 refl (word 43 refl ▹ act n.type_word_mark refl ▹ done) (put_type (built_in (codes "In_Stream"))) (λ w. refl) (λ w. refl) },
      (
        record { value = built_in (codes "Out_Stream"); canonical = way n.type_part 3 refl (word 44 refl ▹ act n.type_word_mark refl ▹ done) (put_type (built_in (codes "Out_Stream"))) (λ w. refl) (λ w. refl) },
        (
          (λ x e i m s0 a. record { value = type_named a.value x; canonical = way_as n.type_part 4 refl (name x e i ▹ act n.keep_mark refl ▹ a.canonical.going ▹ done) (λ k. ptype (type_named a.value x)) (λ k z. type_says a.value x z) (put_type (type_named a.value x)) (λ w. type_rest_is a.value x w.state) (λ w. type_rest_is a.value x w.state) }),
          tt,
        ),
      ),
    ),
  ),
)

pub type_rest_ways : (E : Claim) → Hold E n.type_rest_part
unfolding language_rules
type_rest_ways E = (
  (λ m s0 a. record { value = Some a.value; canonical = way n.type_rest_part 0 refl (word 18 refl ▹ a.canonical.going ▹ done) (type_rest (Some a.value)) (λ w. refl) (λ w. refl) }),
  (
    record { value = None; canonical = way n.type_rest_part 1 refl (act n.type_alone_mark refl ▹ done) (type_rest None) (λ w. refl) (λ w. refl) },
    tt,
  ),
)

pub type_of_ways : (E : Claim) → Hold E n.type_of_part
unfolding language_rules class_of_word
type_of_ways E = (
  (λ x e i. record { value = x; canonical = way n.type_of_part 0 refl (name x e i ▹ act n.type_of_mark refl ▹ done) (type_of x) (λ w. refl) (λ w. refl) }),
  (
    record { value = codes "Static_Array"; canonical = way n.type_of_part 1 refl (word 94 refl ▹ act n.type_of_mark refl ▹ done) (type_of (codes "Static_Array")) (λ w. refl) (λ w. refl) },
    tt,
  ),
)

pub result_type_ways : (E : Claim) → Hold E n.result_type_part
unfolding language_rules class_of_word
result_type_ways E = (
  record { value = built_in (codes "Integer"); light = _; canonical = way n.result_type_part 0 refl (word 24 refl ▹ act n.result_type_mark refl ▹ done) (put_result (Some (built_in (codes "Integer")))) (λ w. refl) (λ w. refl) },
  (
    record { value = built_in (codes "Boolean"); light = _; canonical = way n.result_type_part 1 refl (word 42 refl ▹ act n.result_type_mark refl ▹ done) (put_result (Some (built_in (codes "Boolean")))) (λ w. refl) (λ w. refl) },
    tt,
  ),
)

-- ---- headings

-- the heading of what was read, where the list of its parameters is on top
abbrev heading_from : Name → State → HeadingRest → State
heading_from x s r = heading_of (put_heading_rest r (keep x (keep (codes "Operation") s)))

pub heading_ways : (E : Claim) → Hold E n.heading_part
unfolding language_rules class_of_word
heading_ways E = (
  (λ mx s0 x mp s1 p mr s2 r.
      let h : Heading = record { at = 0; name = x.value; params = p.value; result = r.value.result; requires_clause = r.value.requires_clause; ensures_clause = r.value.ensures_clause } in
      record {
        value = h;
        light = _;
        canonical = way n.heading_part 0 refl (word 41 refl ▹ act n.keep_mark refl ▹ x.canonical.going ▹ act n.params_mark refl ▹ word 13 refl ▹ p.canonical.going ▹ word 14 refl ▹ r.canonical.going ▹ act n.heading_mark refl ▹ done) (put_heading h)
            (λ w. ap (λ z. heading_from x.value (record w.state { params = z }) r.value) (top_added p.value [] w.state.params)) (λ w. ap (λ z. heading_from x.value (record w.state { params = z }) r.value) (top_added p.value [] w.state.params));
      }),
  tt,
)

pub headings_ways : (E : Claim) → Hold E n.headings_part
unfolding language_rules
headings_ways E = (
  (λ m s0 a j s1 b. record { value = a.value ∷ b.value; light = _; canonical = way n.headings_part 0 refl (a.canonical.going ▹ act n.add_heading_mark refl ▹ b.canonical.going ▹ done) (add_headings (a.value ∷ b.value)) (λ w. refl) (λ w. refl) }),
  (
    record { value = []; light = _; canonical = way n.headings_part 1 refl done (add_headings []) (λ w. refl) (λ w. refl) },
    tt,
  ),
)

-- ---- formals

pub formal_ways : (E : Claim) → Hold E n.formal_part
unfolding language_rules class_of_word
formal_ways E = (
  (λ x e i. let f : Formal = record { at = 0; name = x; is_type = true } in record { value = f; light = _; canonical = way n.formal_part 0 refl (word 22 refl ▹ name x e i ▹ act n.type_formal_mark refl ▹ done) (add_formals (f ∷ [])) (λ w. refl) (λ w. refl) }),
  (
    (λ x e i. let f : Formal = record { at = 0; name = x; is_type = false } in record { value = f; light = _; canonical = way n.formal_part 1 refl (word 23 refl ▹ name x e i ▹ act n.integer_formal_mark refl ▹ word 17 refl ▹ word 24 refl ▹ done) (add_formals (f ∷ [])) (λ w. refl) (λ w. refl) }),
    tt,
  ),
)

pub more_formals_ways : (E : Claim) → Hold E n.more_formals_part
unfolding language_rules
more_formals_ways E = (
  (λ m s0 a j s1 b. record { value = a.value ∷ b.value; light = _; canonical = way n.more_formals_part 0 refl (line 16 refl ▹ a.canonical.going ▹ b.canonical.going ▹ done) (add_formals (a.value ∷ b.value)) (λ w. refl) (λ w. refl) }),
  (
    record { value = []; light = _; canonical = way n.more_formals_part 1 refl done (add_formals []) (λ w. refl) (λ w. refl) },
    tt,
  ),
)

pub formals_ways : (E : Claim) → Hold E n.formals_part
unfolding language_rules
formals_ways E = (
  (λ m s0 a j s1 b. record { value = a.value ∷ b.value; light = _; canonical = way n.formals_part 0 refl (word 13 refl ▹ act n.formals_mark refl ▹ a.canonical.going ▹ b.canonical.going ▹ word 14 refl ▹ done) (put_formals (a.value ∷ b.value)) (λ w. ap (λ z. record w.state { formals = z }) (top_added b.value (a.value ∷ []) w.state.formals)) (λ w. ap (λ z. record w.state { formals = z }) (top_added b.value (a.value ∷ []) w.state.formals)) }),
  (
    record { value = []; light = _; canonical = way n.formals_part 1 refl (act n.formals_mark refl ▹ done) (put_formals []) (λ w. refl) (λ w. refl) },
    tt,
  ),
)
