-- One token decides, by the test.
use Rattle.std.proofs.Common.{◌≡◌, true, sym, subst, refl}
use Rattle.ll_grammar.specs.declared.form.Grammar.{Grammar}
use Rattle.ll_grammar.specs.Grammar.{Rules}
use Rattle.ll_grammar.specs.Predictive.{Table, is_ll1}
use Rattle.ll_grammar.specs.Reader.{IsFlat, IsLl1, rules_of, table_of}
use Rattle.ll_grammar.specs.Watch.{have_classes}
use Rattle.res_grammar.specs.Numbers.{class_count}
use Rattle.res_grammar.specs.Expressions.{expression_table}
use Rattle.res_grammar.specs.Language.{language_rules, language_table, language_certificate}

pub language_is_ll1 : is_ll1 language_rules language_table ≡ true
unfolding is_ll1 language_rules language_table language_certificate
language_is_ll1 = refl

pub expressions_are_ll1 : is_ll1 language_rules expression_table ≡ true
unfolding is_ll1 language_rules language_table language_certificate
expressions_are_ll1 = refl

pub language_has_classes : have_classes class_count language_rules ≡ true
unfolding have_classes language_rules
language_has_classes = refl

-- what a grammar of the code needs
pub is_ll1_by : (g : Grammar) (t : Table) → IsFlat g → rules_of g ≡ language_rules → table_of g language_certificate ≡ t → is_ll1 language_rules t ≡ true → IsLl1 g language_certificate
is_ll1_by g t f r e h =
    let P : Rules → Type 0 = λ y. is_ll1 y (table_of g language_certificate) ≡ true in
    let Q : Table → Type 0 = λ y. is_ll1 language_rules y ≡ true in
    record { flat = f; decides = subst P (sym r) (subst Q (sym e) h) }

pub has_classes_by : (g : Grammar) → rules_of g ≡ language_rules → have_classes class_count (rules_of g) ≡ true
has_classes_by g r = let P : Rules → Type 0 = λ y. have_classes class_count y ≡ true in subst P (sym r) language_has_classes
