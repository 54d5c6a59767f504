-- The words have one answer over the files and the input.
use Rattle.std.proofs.Common.{◌≡◌, ◌∙◌, sym, ap, subst, ℕ, ℤ, List, [], length, Option, Some, None, Result, Ok, Err, arith}
use Rattle.std.specs.Prelude.{option_map, slice_get}
use Rattle.edge_io.specs.declared.numbers.InputError.{InputError}
use Rattle.edge_io.specs.Files.{Files}
use Rattle.edge_io.specs.Numbers.{reading}
use Rattle.res_lexer.specs.declared.token.Token.{Token}
use Rattle.res_lexer.specs.declared.token.LexError.{LexError}
use Rattle.res_lexer.specs.Tokens.{AreTokens, Refuses}
use Rattle.stack_machine.specs.Lines.{lines}
use Rattle.stack_machine.specs.Machine.{State, after}
use Rattle.main_form.specs.declared.module.Module.{Module}
use Rattle.main_form.specs.declared.file.Shape.TheVariants as shape
use Rattle.main_form.specs.Shape.{shape_of}
use Rattle.component_checks.specs.declared.mistake.Mistake.{Mistake}
use Rattle.component_checks.specs.Checks.{mistake_of}
use Rattle.main_prover.specs.Proving.{NoneFirst, OneFirst}
use Rattle.res_ast.specs.declared.component.Component.{Component}
use Rattle.module_parser.specs.Spelling.{IsRefused, OneRefusal, OneSpelling, SpelledIsNotRefused, Spells}
use Rattle.command_words.specs.Words.{Command, Other, Run, Word, command, command_of, read_words}
use Rattle.resolve_cli.specs.declared.status.Status.{Status}
use Rattle.resolve_cli.specs.declared.status.Status.TheVariants as status
use Rattle.resolve_cli.specs.Answer.{Answers, ComponentsAnswer, FileAnswer, ModuleAnswer, RunAnswer, TextAnswer, bad_input, checked, file, halted, image_of, lexical, long, mistaken, no_file, no_reading, not_built, ran, short, spelled, spent, syntax_error, too_long, unbuilt, unproved}
use Rattle.report_lines.specs.Lines.{lex_line, mistake_line, not_built_line, syntax_line, unproved_line}

-- the laws of texts, as the functions of the crates below state them
pub record TextLaws : Type 0 where
  pub read_or_refused : (bytes : List ℕ) (ts : List Token) (e : LexError) → AreTokens bytes ts → Refuses bytes e → ⊥
  pub one_spelling : OneSpelling
  pub spelled_not_refused : SpelledIsNotRefused
  pub one_syntax : OneRefusal

-- the words say one command
same_command : (words : List Word) (c d : Command) → command words ≡ Some c → command words ≡ Some d → c ≡ d
same_command words c d e f = let g : Some c ≡ Some d = sym e ∙ f in cc

same_name : (m n : List ℕ) (j k : ℕ) → Run m j ≡ Run n k → m ≡ n
same_name m n j k e = cc

same_steps : (m n : List ℕ) (j k : ℕ) → Run m j ≡ Run n k → j ≡ k
same_steps m n j k e = cc

no_words : (words : List Word) (c : Command) → read_words words ≡ None → command words ≡ Some c → ⊥
no_words words c e f = let g : None ≡ Some c = ap (option_map command_of) (sym e) ∙ f in absurd (cc)

no_other : (words : List Word) (name : List ℕ) (steps : ℕ) → command words ≡ Some Other → command words ≡ Some (Run name steps) → ⊥
no_other words name steps e f = let g : Other ≡ Run name steps = same_command words Other (Run name steps) e f in absurd (cc)

not_there : (files : Files) (name bytes : List ℕ) → files name ≡ None → files name ≡ Some bytes → ⊥
not_there files name bytes e f = let g : None ≡ Some bytes = sym e ∙ f in absurd (cc)

same_text : (files : Files) (name a b : List ℕ) → files name ≡ Some a → files name ≡ Some b → a ≡ b
same_text files name a b e f = let g : Some a ≡ Some b = sym e ∙ f in cc

same_module : (m n : Module) → shape.Module m ≡ shape.Module n → m ≡ n
same_module m n e = cc

same_line : (n l : List ℕ) (at to : ℕ) → shape.NotBuilt n at ≡ shape.NotBuilt l to → status.Refused (not_built_line n at) ≡ status.Refused (not_built_line l to)
same_line n l at to e =
    let names : n ≡ l = cc in
    let places : at ≡ to = cc in
    ap (λ x. status.Refused (not_built_line x at)) names ∙ ap (λ x. status.Refused (not_built_line l x)) places

no_module : (cs : List Component) (n : List ℕ) (at : ℕ) (m : Module) → shape_of cs ≡ shape.NotBuilt n at → shape_of cs ≡ shape.Module m → ⊥
no_module cs n at m not of = let g : shape.NotBuilt n at ≡ shape.Module m = sym not ∙ of in absurd (cc)

no_mistake : (cs : List Component) (e : Mistake) → mistake_of cs ≡ Some e → mistake_of cs ≡ None → ⊥
no_mistake cs e wrong without = let g : Some e ≡ None = sym wrong ∙ without in absurd (cc)

same_mistake : (m n : Module) (e f : Mistake) → m ≡ n → e ≡ f → status.Refused (mistake_line m.name e) ≡ status.Refused (mistake_line n.name f)
same_mistake m n e f names mistakes =
    ap (λ (x : Module). status.Refused (mistake_line x.name e)) names ∙ ap (λ x. status.Refused (mistake_line n.name x)) mistakes

-- the laws that two refusals are one
pub record RefusalLaws : Type 0 where
  pub texts : TextLaws
  pub one_refusal : (bytes : List ℕ) (e f : LexError) → Refuses bytes e → Refuses bytes f → e ≡ f
  pub one_first : OneFirst
  pub none_first : NoneFirst

abbrev Both : Status → Status → List ℕ → List ℕ → Type 0
Both s t o p = (s ≡ t) × (o ≡ p)

both : (s t u : Status) (o p q : List ℕ) → s ≡ u → t ≡ u → o ≡ q → p ≡ q → Both s t o p
both s t u o p q is is' lined lined' = (is ∙ sym is', lined ∙ sym lined')

both_none : (s t u v : Status) (o p : List ℕ) → s ≡ u → t ≡ v → u ≡ v → o ≡ [] → p ≡ [] → Both s t o p
both_none s t u v o p is is' same nothing nothing' = (is ∙ same ∙ sym is', nothing ∙ sym nothing')

same_some : {A : Type 0} (o : Option A) (a b : A) → o ≡ Some a → o ≡ Some b → a ≡ b
same_some o a b e f = let g : Some a ≡ Some b = sym e ∙ f in cc

same_ok : (r : Result (List ℤ) InputError) (a b : List ℤ) → r ≡ Ok a → r ≡ Ok b → a ≡ b
same_ok r a b e f = let g : Result.Ok a ≡ Result.Ok b = sym e ∙ f in cc

same_err : (r : Result (List ℤ) InputError) (a b : InputError) → r ≡ Err a → r ≡ Err b → a ≡ b
same_err r a b e f = let g : Result.Err a ≡ Result.Err b = sym e ∙ f in cc

ok_not_err : (r : Result (List ℤ) InputError) (a : List ℤ) (b : InputError) → r ≡ Ok a → r ≡ Err b → ⊥
ok_not_err r a b e f = let g : Result.Ok a ≡ Result.Err b = sym e ∙ f in absurd (cc)

run_one : (m : Module) (numbers : List ℤ) (steps : ℕ) (s t : Status) (o p : List ℕ) → RunAnswer m numbers steps s o → RunAnswer m numbers steps t p → Both s t o p
run_one m numbers steps s t o p (halted a reached over is lined) (halted b reached' over' is' lined') =
    let same = same_some (after (image_of m) numbers steps) a b reached reached' in
    both s t status.Done o p (lines b.output) is is' (lined ∙ ap (λ (x : State). lines x.output) same) lined'
run_one m numbers steps s t o p (halted a reached over is lined) (spent b reached' goes is' lined') =
    let same = same_some (after (image_of m) numbers steps) a b reached reached' in
    absurd (goes (subst (λ (x : State). x.frames ≡ []) same over))
run_one m numbers steps s t o p (spent a reached goes is lined) (halted b reached' over is' lined') =
    let same = same_some (after (image_of m) numbers steps) b a reached' reached in
    absurd (goes (subst (λ (x : State). x.frames ≡ []) same over))
run_one m numbers steps s t o p (spent a reached goes is lined) (spent b reached' goes' is' lined') =
    let same = same_some (after (image_of m) numbers steps) a b reached reached' in
    both s t (status.StepsSpent steps) o p (lines b.output) is is' (lined ∙ ap (λ (x : State). lines x.output) same) lined'

module _ (laws : RefusalLaws) where
  module_one : (m : Module) (steps : ℕ) (input : List ℕ) (s t : Status) (o p : List ℕ) → ModuleAnswer m steps input s o → ModuleAnswer m steps input t p → Both s t o p
  module_one m steps input s t o p (unproved u first is nothing) (unproved v first' is' nothing') =
      both_none s t _ _ o p is is' (ap (λ x. status.Refused (unproved_line m.name x.number x.kind x.at)) (laws.one_first m u v first first')) nothing nothing'
  module_one m steps input s t o p (unproved u first is nothing) (too_long accepted many is' nothing') = absurd (laws.none_first m u first accepted)
  module_one m steps input s t o p (unproved u first is nothing) (bad_input built e fails is' nothing') = absurd (laws.none_first m u first built.accepted)
  module_one m steps input s t o p (unproved u first is nothing) (ran built numbers reads a) = absurd (laws.none_first m u first built.accepted)
  module_one m steps input s t o p (too_long accepted many is nothing) (unproved u first is' nothing') = absurd (laws.none_first m u first accepted)
  module_one m steps input s t o p (too_long accepted many is nothing) (too_long accepted' many' is' nothing') = both s t _ o p [] is is' nothing nothing'
  module_one m steps input s t o p (too_long accepted many is nothing) (bad_input built e fails is' nothing') = let few = built.short in absurd (omega (arith, many, few))
  module_one m steps input s t o p (too_long accepted many is nothing) (ran built numbers reads a) = let few = built.short in absurd (omega (arith, many, few))
  module_one m steps input s t o p (bad_input built e fails is nothing) (unproved u first is' nothing') = absurd (laws.none_first m u first built.accepted)
  module_one m steps input s t o p (bad_input built e fails is nothing) (too_long accepted many is' nothing') = let few = built.short in absurd (omega (arith, many, few))
  module_one m steps input s t o p (bad_input built e fails is nothing) (bad_input built' f fails' is' nothing') =
      both_none s t _ _ o p is is' (ap (λ x. status.BadInput x) (same_err (reading input) e f fails fails')) nothing nothing'
  module_one m steps input s t o p (bad_input built e fails is nothing) (ran built' numbers reads a) = absurd (ok_not_err (reading input) numbers e reads fails)
  module_one m steps input s t o p (ran built numbers reads a) (unproved u first is' nothing') = absurd (laws.none_first m u first built.accepted)
  module_one m steps input s t o p (ran built numbers reads a) (too_long accepted many is' nothing') = let few = built.short in absurd (omega (arith, many, few))
  module_one m steps input s t o p (ran built numbers reads a) (bad_input built' e fails is' nothing') = absurd (ok_not_err (reading input) numbers e reads fails)
  module_one m steps input s t o p (ran built numbers reads a) (ran built' ns reads' b) =
      run_one m ns steps s t o p (subst (λ ks. RunAnswer m ks steps s o) (same_ok (reading input) numbers ns reads reads') a) b

  components_one : (cs : List Component) (steps : ℕ) (input : List ℕ) (s t : Status) (o p : List ℕ) → ComponentsAnswer cs steps input s o → ComponentsAnswer cs steps input t p → Both s t o p
  components_one cs steps input s t o p (unbuilt n at not is nothing) (unbuilt l to not' is' nothing') =
      both_none s t _ _ o p is is' (same_line n l at to (sym not ∙ not')) nothing nothing'
  components_one cs steps input s t o p (unbuilt n at not is nothing) (mistaken m e of wrong is' nothing') = absurd (no_module cs n at m not of)
  components_one cs steps input s t o p (unbuilt n at not is nothing) (checked m of without a) = absurd (no_module cs n at m not of)
  components_one cs steps input s t o p (mistaken m e of wrong is nothing) (unbuilt n at not is' nothing') = absurd (no_module cs n at m not of)
  components_one cs steps input s t o p (mistaken m e of wrong is nothing) (mistaken n f of' wrong' is' nothing') =
      both_none s t _ _ o p is is' (same_mistake m n e f (same_module m n (sym of ∙ of')) (same_some (mistake_of cs) e f wrong wrong')) nothing nothing'
  components_one cs steps input s t o p (mistaken m e of wrong is nothing) (checked n of' without a) = absurd (no_mistake cs e wrong without)
  components_one cs steps input s t o p (checked m of without a) (unbuilt n at not is nothing) = absurd (no_module cs n at m not of)
  components_one cs steps input s t o p (checked m of without a) (mistaken n e of' wrong is nothing) = absurd (no_mistake cs e wrong without)
  components_one cs steps input s t o p (checked m of without a) (checked n of' without' b) =
      module_one n steps input s t o p (subst (λ k. ModuleAnswer k steps input s o) (same_module m n (sym of ∙ of')) a) b

  text_one : (name bytes : List ℕ) (steps : ℕ) (input : List ℕ) (s t : Status) (o p : List ℕ) → TextAnswer name bytes steps input s o → TextAnswer name bytes steps input t p → Both s t o p
  text_one name bytes steps input s t o p (lexical e refuses is nothing) (lexical f refuses' is' nothing') =
      both_none s t _ _ o p is is' (ap (λ x. status.Refused (lex_line name x)) (laws.one_refusal bytes e f refuses refuses')) nothing nothing'
  text_one name bytes steps input s t o p (lexical e refuses is nothing) (syntax_error f refused is' nothing') = absurd (laws.texts.read_or_refused bytes refused.tokens e refused.are refuses)
  text_one name bytes steps input s t o p (lexical e refuses is nothing) (spelled cs spells a) = absurd (laws.texts.read_or_refused bytes spells.tokens e spells.are refuses)
  text_one name bytes steps input s t o p (syntax_error f refused is nothing) (lexical e refuses is' nothing') = absurd (laws.texts.read_or_refused bytes refused.tokens e refused.are refuses)
  text_one name bytes steps input s t o p (syntax_error e refused is nothing) (syntax_error f refused' is' nothing') =
      both_none s t _ _ o p is is' (ap (λ x. status.Refused (syntax_line name x)) (laws.texts.one_syntax bytes e f refused refused')) nothing nothing'
  text_one name bytes steps input s t o p (syntax_error e refused is nothing) (spelled cs spells a) = absurd (laws.texts.spelled_not_refused bytes cs e spells refused)
  text_one name bytes steps input s t o p (spelled cs spells a) (lexical e refuses is' nothing') = absurd (laws.texts.read_or_refused bytes spells.tokens e spells.are refuses)
  text_one name bytes steps input s t o p (spelled cs spells a) (syntax_error e refused is' nothing') = absurd (laws.texts.spelled_not_refused bytes cs e spells refused)
  text_one name bytes steps input s t o p (spelled cs spells a) (spelled ds spells' b) =
      components_one ds steps input s t o p (subst (λ xs. ComponentsAnswer xs steps input s o) (laws.texts.one_spelling bytes cs ds spells spells') a) b

  file_one : (name bytes : List ℕ) (steps : ℕ) (input : List ℕ) (s t : Status) (o p : List ℕ) → FileAnswer name bytes steps input s o → FileAnswer name bytes steps input t p → Both s t o p
  file_one name bytes steps input s t o p (long many is nothing) (long many' is' nothing') = both s t _ o p [] is is' nothing nothing'
  file_one name bytes steps input s t o p (long many is nothing) (short few a) = absurd (omega (arith, many, few))
  file_one name bytes steps input s t o p (short few a) (long many is nothing) = absurd (omega (arith, many, few))
  file_one name bytes steps input s t o p (short few a) (short few' b) = text_one name bytes steps input s t o p a b

  pub one_answer : (words : List Word) (files : Files) (input : List ℕ) (s t : Status) (o p : List ℕ) → Answers words files input s o → Answers words files input t p → (s ≡ t) × (o ≡ p)
  one_answer words files input s t o p (no_reading none is nothing) (no_reading none' is' nothing') = both s t _ o p [] is is' nothing nothing'
  one_answer words files input s t o p (no_reading none is nothing) (not_built other is' nothing') = absurd (no_words words Other none other)
  one_answer words files input s t o p (no_reading none is nothing) (no_file n k says missing is' nothing') = absurd (no_words words (Run n k) none says)
  one_answer words files input s t o p (no_reading none is nothing) (file n k bytes says holds a) = absurd (no_words words (Run n k) none says)
  one_answer words files input s t o p (not_built other is nothing) (no_reading none is' nothing') = absurd (no_words words Other none other)
  one_answer words files input s t o p (not_built other is nothing) (not_built other' is' nothing') = both s t _ o p [] is is' nothing nothing'
  one_answer words files input s t o p (not_built other is nothing) (no_file n k says missing is' nothing') = absurd (no_other words n k other says)
  one_answer words files input s t o p (not_built other is nothing) (file n k bytes says holds a) = absurd (no_other words n k other says)
  one_answer words files input s t o p (no_file n k says missing is nothing) (no_reading none is' nothing') = absurd (no_words words (Run n k) none says)
  one_answer words files input s t o p (no_file n k says missing is nothing) (not_built other is' nothing') = absurd (no_other words n k other says)
  one_answer words files input s t o p (no_file n k says missing is nothing) (no_file l j says' missing' is' nothing') =
      both_none s t _ _ o p is is' (ap (λ x. status.NotFound x) (same_name n l k j (same_command words (Run n k) (Run l j) says says'))) nothing nothing'
  one_answer words files input s t o p (no_file n k says missing is nothing) (file l j bytes says' holds a) =
      let names = same_name n l k j (same_command words (Run n k) (Run l j) says says') in
      absurd (not_there files l bytes (ap files (sym names) ∙ missing) holds)
  one_answer words files input s t o p (file n k bytes says holds a) (no_reading none is nothing) = absurd (no_words words (Run n k) none says)
  one_answer words files input s t o p (file n k bytes says holds a) (not_built other is nothing) = absurd (no_other words n k other says)
  one_answer words files input s t o p (file n k bytes says holds a) (no_file l j says' missing is nothing) =
      let names = same_name l n j k (same_command words (Run l j) (Run n k) says' says) in
      absurd (not_there files n bytes (ap files (sym names) ∙ missing) holds)
  one_answer words files input s t o p (file n k bytes says holds a) (file l j bs says' holds' b) =
      let same = same_command words (Run n k) (Run l j) says says' in
      let names = same_name n l k j same in
      let texts = same_text files l bytes bs (ap files (sym names) ∙ holds) holds' in
      file_one l bs j input s t o p (subst (λ i. FileAnswer l bs i input s o) (same_steps n l k j same) (subst (λ c. FileAnswer l c k input s o) texts (subst (λ f. FileAnswer f bytes k input s o) names a))) b
