-- Components: each way of their parts.
use Rattle.std.proofs.Common.{◌≡◌, ◌∙◌, ap, refl, ℕ, ◌&&◌, Bool, true, false, List, [], ◌∷◌, map, Option, Some, None, codes}
use Rattle.ll_grammar.specs.declared.form.Symbol.TheVariants.{Nonterminal, Action}
use Rattle.res_ast.specs.declared.component.Component.TheVariants as component
use Rattle.res_ast.specs.declared.facility.FacDecl.{FacDecl}
use Rattle.res_ast.specs.declared.expression.Expr.{Expr}
use Rattle.res_ast.specs.declared.heading.Formal.{Formal}
use Rattle.res_ast.specs.declared.heading.Heading.{Heading}
use Rattle.res_ast.specs.declared.heading.PType.{PType}
use Rattle.res_ast.specs.declared.procedure.Rep.{Rep}
use Rattle.res_ast.specs.declared.procedure.LocalOp.{LocalOp}
use Rattle.res_ast.specs.declared.procedure.Procedure.{Procedure}
use Rattle.res_grammar.specs.Classes.{class_of_word}
use Rattle.res_grammar.specs.Language.{language_rules}
use Rattle.res_grammar.specs.Numbers as n
use Rattle.module_parser.specs.Components as components
use Rattle.module_parser.specs.declared.state.State.{State}
use Rattle.res_printer.specs.Components.{facility, heading, local, piece_of, procedure, purpose, representation, uses}
use Rattle.res_printer.specs.Pieces.{Piece, closing, each, row, says, semicolon}
use Rattle.round_trip.proofs.Canonical.{Staged, act, as_staged, done, line, name, way, way_as, word, ◌▹◌}
use Rattle.round_trip.proofs.Chains.{Claim}
use Rattle.round_trip.proofs.Claims.{ComponentRead, FacilitiesClaim, FamilyRead, Hold, added_all, all_go_on, goes_on, keep, named, HeadingsClaim, LocalsClaim, Name, ProceduresClaim, RealizationRest, in_component, in_headings, in_operations, in_realization, local_headings, of_text, procedure_names, put_component, put_realization_rest, top_added}
use Rattle.round_trip.proofs.Doing.{Doing, did, then}

-- ---- lists that are opened

abbrev put_facilities : List FacDecl → State → State
put_facilities fs s = record s { facilities = fs ∷ s.facilities }

facilitated : (m : Doing) (a : FacilitiesClaim m) → Staged (Action n.facs_mark ∷ Nonterminal n.facilities_part ∷ []) (λ k. each facility a.value) (put_facilities a.value) (λ k. k) (a.light && true) (then (did n.facs_mark) m)
facilitated m a = as_staged (act n.facs_mark refl ▹ a.canonical.going ▹ done) (put_facilities a.value) (λ w. ap (λ z. record w.state { facilities = z }) (top_added a.value [] w.state.facilities)) (λ w. ap (λ z. record w.state { facilities = z }) (top_added a.value [] w.state.facilities))

abbrev put_locals : List LocalOp → State → State
put_locals ls s = record s { locals = ls ∷ s.locals }

located : (m : Doing) (a : LocalsClaim m) → Staged (Action n.locals_mark ∷ Nonterminal n.locals_part ∷ []) (λ k. each local a.value) (put_locals a.value) (in_headings (local_headings a.value)) (a.light && true) (then (did n.locals_mark) m)
located m a = as_staged (act n.locals_mark refl ▹ a.canonical.going ▹ done) (put_locals a.value) (λ w. ap (λ z. record w.state { locals = z }) (top_added a.value [] w.state.locals)) (λ w. ap (λ z. record w.state { locals = z }) (top_added a.value [] w.state.locals))

abbrev put_procedures : List Procedure → State → State
put_procedures ps s = record s { procedures = ps ∷ s.procedures }

proceeded : (m : Doing) (a : ProceduresClaim m) → Staged (Action n.procedures_mark ∷ Nonterminal n.procedures_part ∷ []) (λ k. each procedure a.value) (put_procedures a.value) (in_operations (procedure_names a.value)) (a.light && true) (then (did n.procedures_mark) m)
proceeded m a = as_staged (act n.procedures_mark refl ▹ a.canonical.going ▹ done) (put_procedures a.value) (λ w. ap (λ z. record w.state { procedures = z }) (top_added a.value [] w.state.procedures)) (λ w. ap (λ z. record w.state { procedures = z }) (top_added a.value [] w.state.procedures))

abbrev put_headings : List Heading → State → State
put_headings hs s = record s { heading_lists = hs ∷ s.heading_lists }

headed : (m : Doing) (a : HeadingsClaim m) → Staged (Action n.headings_mark ∷ Nonterminal n.headings_part ∷ []) (λ k. each heading a.value) (put_headings a.value) (in_headings a.value) (a.light && true) (then (did n.headings_mark) m)
headed m a = as_staged (act n.headings_mark refl ▹ a.canonical.going ▹ done) (put_headings a.value) (λ w. ap (λ z. record w.state { heading_lists = z }) (top_added a.value [] w.state.heading_lists)) (λ w. ap (λ z. record w.state { heading_lists = z }) (top_added a.value [] w.state.heading_lists))

-- ---- realizations

pub realization_rest_ways : (E : Claim) → Hold E n.realization_rest_part
unfolding language_rules class_of_word
realization_rest_ways E = (
  (λ x e i m s0 u d s1 f g s2 l h s3 p.
      let v : RealizationRest = record { concept = Some x; uses = u.value; facilities = f.value; rep = None; locals = l.value; procs = p.value } in
      record { value = v; light = _; canonical = way n.realization_rest_part 0 refl (word 54 refl ▹ name x e i ▹ act n.of_concept_mark refl ▹ line 16 refl ▹ u.canonical.going ▹ (facilitated d f).going ▹ act n.no_rep_mark refl ▹ (located g l).going ▹ (proceeded h p).going ▹ done) (put_realization_rest v) (λ w. refl) (λ w. refl) }),
  (
    (λ m s0 u d s1 f g s2 r h s3 p.
        let v : RealizationRest = record { concept = None; uses = u.value; facilities = f.value; rep = r.value; locals = []; procs = p.value } in
        record { value = v; light = _; canonical = way n.realization_rest_part 1 refl (act n.for_concept_mark refl ▹ line 16 refl ▹ u.canonical.going ▹ (facilitated d f).going ▹ r.canonical.going ▹ act n.locals_mark refl ▹ (proceeded h p).going ▹ done) (put_realization_rest v) (λ w. refl) (λ w. refl) }),
    tt,
  ),
)

-- ---- components

names_named : (xs : List Name) → map (λ w. w.name) (map named xs) ≡ xs
names_named [] = refl
names_named (x ∷ xs) = ap (λ z. x ∷ z) (names_named xs)

off : (t : Option PType) (b : Bool) → b ≡ false → goes_on t b ≡ false
off None b e = e
off (Some t) b e = refl

all_off : (hs : List Heading) (b : Bool) → b ≡ false → all_go_on hs b ≡ false
all_off [] b e = e
all_off (h ∷ hs) b e = all_off hs (goes_on h.result b) (off h.result b e)

abbrev concept_read : Name → List Formal → List Name → Option Expr → FamilyRead → List Heading → ComponentRead
concept_read x fs us q f hs = record {
  component = λ p. component.Concept (record { at = 0; name = x; formals = fs; uses = us; requires_clause = q; family = f.family p; headings = hs });
  left = f.left;
  clean = f.clean;
  knows = λ k. in_headings hs (in_component x k);
  rests = λ k e. all_off hs k.in_result e;
}

abbrev enhancement_read : Name → Name → List Name → List Heading → ComponentRead
enhancement_read x y us hs = record {
  component = λ p. component.Enhancement (record { at = 0; name = x; concept = y; uses = us; headings = hs });
  left = λ p. p;
  clean = refl;
  knows = λ k. in_headings hs (in_component x k);
  rests = λ k e. all_off hs k.in_result e;
}

-- what a realization is for, where this stands behind `of`
abbrev enhancement_of : Option Name → Name → Option Name
enhancement_of None y = None
enhancement_of (Some z) y = Some y

abbrev concept_of : Option Name → Name → Name
concept_of None y = y
concept_of (Some z) y = z

abbrev realization_read : Name → Name → RealizationRest → ComponentRead
realization_read x y r = record {
  component = λ p. component.Realization (record { at = 0; name = x; enhancement = enhancement_of r.concept y; concept = concept_of r.concept y; uses = r.uses; facilities = r.facilities; rep = r.rep; locals = r.locals; procs = r.procs; end_at = 0 });
  left = λ p. p;
  clean = refl;
  knows = λ k. in_realization r (in_component x k);
  rests = λ k e. all_off (local_headings r.locals) k.in_result e;
}

realized_is : (c : Option Name) (us : List Name) (fs : List FacDecl) (t : Option Rep) (ls : List LocalOp) (ps : List Procedure) (x y : Name) (s : State)
    → components.realization_of (keep (codes "end") (put_realization_rest (record { concept = c; uses = us; facilities = fs; rep = t; locals = ls; procs = ps }) (keep y (keep x (keep (codes "Realization") s))))) ≡ put_component (realization_read x y (record { concept = c; uses = us; facilities = fs; rep = t; locals = ls; procs = ps })) s
realized_is None us fs t ls ps x y s = ap (λ z. put_component (realization_read x y (record { concept = None; uses = z; facilities = fs; rep = t; locals = ls; procs = ps })) s) (names_named us)
realized_is (Some c) us fs t ls ps x y s = ap (λ z. put_component (realization_read x y (record { concept = Some c; uses = z; facilities = fs; rep = t; locals = ls; procs = ps })) s) (names_named us)

purpose_says : (c : Option Name) (y : Name) (z : List ℕ) → purpose (enhancement_of c y) (concept_of c y) z ≡ says y (of_text c z)
purpose_says None y z = refl
purpose_says (Some c) y z = refl

-- what stands behind the concept of a realization, to its end
abbrev realization_tail : Name → RealizationRest → Piece
realization_tail x r = row (semicolon ∷ uses r.uses ∷ each facility r.facilities ∷ representation r.rep ∷ each local r.locals ∷ each procedure r.procs ∷ closing x ∷ [])

abbrev module_read : Name → List Name → List FacDecl → List LocalOp → ComponentRead
module_read x us fs ls = record {
  component = λ p. component.Facility (record { at = 0; name = x; uses = us; facilities = fs; operations = ls });
  left = λ p. p;
  clean = refl;
  knows = λ k. in_headings (local_headings ls) (in_component x k);
  rests = λ k e. all_off (local_headings ls) k.in_result e;
}

pub component_ways : (E : Claim) → Hold E n.component_part
unfolding language_rules class_of_word
component_ways E = (
  (λ mx sx x mf sf fs mu su u mq sq q mt st t mh sh h mc sc c.
      let v : List Name → ComponentRead = λ us. concept_read x.value fs.value us q.value t.value h.value in
      record {
        value = v u.value;
        light = _;
        canonical = way n.component_part 0 refl (word 21 refl ▹ act n.keep_mark refl ▹ x.canonical.going ▹ fs.canonical.going ▹ line 16 refl ▹ u.canonical.going ▹ q.canonical.going ▹ t.canonical.going ▹ (headed mh h).going ▹ word 27 refl ▹ c.canonical.going ▹ line 16 refl ▹ act n.concept_mark refl ▹ done)
            (put_component (v u.value)) (λ w. ap (λ z. put_component (v z) w.state) (names_named u.value)) (λ w. ap (λ z. put_component (v z) w.state) (names_named u.value));
      }),
  (
    (λ mx sx x y e i mu su u ma sa a mh sh h mc sc c.
        let v : List Name → ComponentRead = λ us. enhancement_read x.value y us (a.value ∷ h.value) in
        let same : (s : State) → components.enhancement_of (record (keep y (keep x.value (keep (codes "Enhancement") s))) { names = map named u.value ∷ s.names; heading_lists = added_all h.value ((a.value ∷ []) ∷ s.heading_lists) }) ≡ put_component (v u.value) s = λ s.
        ap (λ z. components.enhancement_of (record (keep y (keep x.value (keep (codes "Enhancement") s))) { names = map named u.value ∷ s.names; heading_lists = z })) (top_added h.value (a.value ∷ []) s.heading_lists)
        ∙ ap (λ z. put_component (v z) s) (names_named u.value) in
        record {
          value = v u.value;
          light = _;
          canonical = way n.component_part 1 refl (word 51 refl ▹ act n.keep_mark refl ▹ x.canonical.going ▹ word 52 refl ▹ name y e i ▹ act n.keep_mark refl ▹ line 16 refl ▹ u.canonical.going ▹ act n.headings_mark refl ▹ a.canonical.going ▹ act n.add_heading_mark refl ▹ h.canonical.going ▹ word 27 refl ▹ c.canonical.going ▹ line 16 refl ▹ act n.enhancement_mark refl ▹ done)
              (put_component (v u.value)) (λ w. same w.state) (λ w. same w.state);
        }),
    (
      (λ mx sx x y e i mr sr r mc sc c.
          let v = realization_read x.value y r.value in
          let same : (s : State) → components.realization_of (keep (codes "end") (put_realization_rest r.value (keep y (keep x.value (keep (codes "Realization") s))))) ≡ put_component v s = λ s. realized_is r.value.concept r.value.uses r.value.facilities r.value.rep r.value.locals r.value.procs x.value y s in
          record {
            value = v;
            light = _;
            canonical = way_as n.component_part 2 refl (word 53 refl ▹ act n.keep_mark refl ▹ x.canonical.going ▹ word 52 refl ▹ name y e i ▹ act n.keep_mark refl ▹ r.canonical.going ▹ word 27 refl ▹ act n.keep_mark refl ▹ c.canonical.going ▹ line 16 refl ▹ act n.realization_mark refl ▹ done)
                (λ k. piece_of (v.component [])) (λ k z. ap (λ p. says (codes "Realization") (says x.value (says (codes "for") p))) (purpose_says r.value.concept y (realization_tail x.value r.value z)))
                (put_component v) (λ w. same w.state) (λ w. same w.state);
          }),
      (
        (λ mx sx x mu su u mf sf f ml sl l mc sc c.
            let v : List Name → ComponentRead = λ us. module_read x.value us f.value l.value in
            record {
              value = v u.value;
              light = _;
              canonical = way n.component_part 3 refl (word 56 refl ▹ act n.keep_mark refl ▹ x.canonical.going ▹ line 16 refl ▹ u.canonical.going ▹ (facilitated mf f).going ▹ (located ml l).going ▹ word 27 refl ▹ c.canonical.going ▹ line 16 refl ▹ act n.module_mark refl ▹ done)
                  (put_component (v u.value)) (λ w. ap (λ z. put_component (v z) w.state) (names_named u.value)) (λ w. ap (λ z. put_component (v z) w.state) (names_named u.value));
            }),
        tt,
      ),
    ),
  ),
)
