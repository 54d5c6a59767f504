-- What is claimed of each part of the grammar holds of each of its ways, and so of whatever is derived from it.
use Rattle.std.proofs.lemmas.Bool.{true≢false}
use Rattle.std.proofs.Common.{Bool, true, false, sym, ◌∙◌, ◌≡◌, refl, false, List, [], ◌∷◌, map}
use Rattle.ll_grammar.specs.Grammar.{Derives}
use Rattle.ll_grammar.specs.declared.form.Move.{Move}
use Rattle.ll_grammar.specs.declared.form.Symbol.TheVariants.{Nonterminal}
use Rattle.res_lexer.specs.declared.token.TokenKind.{TokenKind}
use Rattle.res_grammar.specs.Classes.{class_of}
use Rattle.res_grammar.specs.Language.{language_rules}
use Rattle.res_grammar.specs.Numbers as n
use Rattle.round_trip.specs.MinusZero.{has_minus_minus_zero}
use Rattle.round_trip.proofs.Doing.{doing}
use Rattle.round_trip.proofs.MinusZero.{signs_hold}
use Rattle.round_trip.proofs.Chains.{AllWays, AllWritable}
use Rattle.round_trip.proofs.Derived.{Held, derived_held}
use Rattle.round_trip.proofs.Claims.{Hold, claim}
use Rattle.round_trip.proofs.Ways.{said}
use Rattle.round_trip.proofs.Ways as expressions
use Rattle.round_trip.proofs.Outside.{expressions_from_outside}
use Rattle.round_trip.proofs.AnyWords.{word_ways}
use Rattle.round_trip.proofs.Asked as names
use Rattle.round_trip.proofs.Facilities as facilities
use Rattle.round_trip.proofs.Groups as groups
use Rattle.round_trip.proofs.Headings as headings
use Rattle.round_trip.proofs.Models as models
use Rattle.round_trip.proofs.Procedures as procedures
use Rattle.round_trip.proofs.Results as results
use Rattle.round_trip.proofs.Statements as statements
use Rattle.round_trip.proofs.Components as components

file_ways : Hold said n.file_part
unfolding language_rules
file_ways = ((λ d s x e t y. tt), tt)

components_ways : Hold said n.components_part
unfolding language_rules
components_ways = ((λ d s x e t y. tt), (tt, tt))

all_hold : AllWays (claim said) 0 language_rules
unfolding language_rules
all_hold = (
  file_ways,
  (
    components_ways,
    (
      components.component_ways said,
      (
        components.realization_rest_ways said,
        (
          headings.formals_ways said,
          (
            headings.more_formals_ways said,
            (
              headings.formal_ways said,
              (
                headings.uses_ways said,
                (
                  headings.more_names_ways said,
                  (
                    headings.requires_ways said expressions_from_outside,
                    (
                      headings.ensures_ways said expressions_from_outside,
                      (
                        models.family_ways said expressions_from_outside,
                        (
                          headings.constraint_ways said expressions_from_outside,
                          (
                            models.model_ways said,
                            (
                              models.more_factors_ways said,
                              (
                                headings.headings_ways said,
                                (
                                  headings.heading_ways said,
                                  (
                                    results.heading_rest_ways said expressions_from_outside,
                                    (
                                      headings.result_type_ways said,
                                      (
                                        groups.parameters_ways said,
                                        (
                                          groups.more_parameters_ways said,
                                          (
                                            groups.parameter_ways said,
                                            (
                                              headings.mode_ways said,
                                              (
                                                headings.type_ways said,
                                                (
                                                  headings.type_rest_ways said,
                                                  (
                                                    headings.type_of_ways said,
                                                    (
                                                      facilities.facilities_ways said,
                                                      (
                                                        facilities.facility_ways said,
                                                        (
                                                          facilities.facility_rest_ways said,
                                                          (
                                                            facilities.arguments_ways said,
                                                            (
                                                              facilities.more_arguments_ways said,
                                                              (
                                                                facilities.argument_ways said,
                                                                (
                                                                  facilities.enhanced_ways said,
                                                                  (
                                                                    procedures.representation_ways said expressions_from_outside,
                                                                    (
                                                                      groups.fields_ways said,
                                                                      (
                                                                        procedures.locals_ways said,
                                                                        (
                                                                          procedures.procedures_ways said,
                                                                          (
                                                                            procedures.signature_rest_ways said,
                                                                            (
                                                                              procedures.body_ways said,
                                                                              (
                                                                                headings.metric_ways said expressions_from_outside,
                                                                                (
                                                                                  groups.variables_ways said,
                                                                                  (
                                                                                    statements.statements_ways said,
                                                                                    (
                                                                                      statements.statement_ways said expressions_from_outside,
                                                                                      (
                                                                                        procedures.else_ways said,
                                                                                        (
                                                                                          statements.statement_rest_ways said expressions_from_outside,
                                                                                          (
                                                                                            statements.statement_dot_ways said expressions_from_outside,
                                                                                            (
                                                                                              statements.statement_dot_rest_ways said expressions_from_outside,
                                                                                              (
                                                                                                expressions.builtin_ways,
                                                                                                (
                                                                                                  statements.place_ways said,
                                                                                                  (
                                                                                                    statements.place_rest_ways said,
                                                                                                    (
                                                                                                      statements.more_places_ways said,
                                                                                                      (
                                                                                                        expressions.expressions_ways,
                                                                                                        (
                                                                                                          expressions.more_expressions_ways,
                                                                                                          (
                                                                                                            expressions.expression_ways,
                                                                                                            (
                                                                                                              expressions.implies_rest_ways,
                                                                                                              (
                                                                                                                expressions.or_ways,
                                                                                                                (
                                                                                                                  expressions.or_rest_ways,
                                                                                                                  (
                                                                                                                    expressions.and_ways,
                                                                                                                    (
                                                                                                                      expressions.and_rest_ways,
                                                                                                                      (
                                                                                                                        expressions.not_ways,
                                                                                                                        (
                                                                                                                          expressions.compare_rest_ways,
                                                                                                                          (
                                                                                                                            expressions.concatenation_ways,
                                                                                                                            (
                                                                                                                              expressions.concatenation_rest_ways,
                                                                                                                              (
                                                                                                                                expressions.sum_ways,
                                                                                                                                (
                                                                                                                                  expressions.sum_rest_ways,
                                                                                                                                  (
                                                                                                                                    expressions.product_ways,
                                                                                                                                    (
                                                                                                                                      expressions.product_rest_ways,
                                                                                                                                      (
                                                                                                                                        expressions.unary_ways,
                                                                                                                                        (
                                                                                                                                          expressions.after_minus_ways,
                                                                                                                                          (
                                                                                                                                            expressions.operand_ways,
                                                                                                                                            (
                                                                                                                                              expressions.parentheses_rest_ways,
                                                                                                                                              (
                                                                                                                                                expressions.tuple_rest_ways,
                                                                                                                                                (
                                                                                                                                                  expressions.old_rest_ways,
                                                                                                                                                  (
                                                                                                                                                    expressions.operand_rest_ways,
                                                                                                                                                    (
                                                                                                                                                      expressions.operand_dot_ways,
                                                                                                                                                      (
                                                                                                                                                        expressions.dot_rest_ways,
                                                                                                                                                        (
                                                                                                                                                          names.component_name_ways said,
                                                                                                                                                          (
                                                                                                                                                            names.close_component_ways said,
                                                                                                                                                            (
                                                                                                                                                              names.close_operation_ways said,
                                                                                                                                                              (
                                                                                                                                                                names.operation_name_ways said,
                                                                                                                                                                (
                                                                                                                                                                  names.result_name_ways said,
                                                                                                                                                                  (
                                                                                                                                                                    expressions.head_name_ways,
                                                                                                                                                                    (
                                                                                                                                                                      word_ways said,
                                                                                                                                                                      tt,
                                                                                                                                                                    ),
                                                                                                                                                                  ),
                                                                                                                                                                ),
                                                                                                                                                              ),
                                                                                                                                                            ),
                                                                                                                                                          ),
                                                                                                                                                        ),
                                                                                                                                                      ),
                                                                                                                                                    ),
                                                                                                                                                  ),
                                                                                                                                                ),
                                                                                                                                              ),
                                                                                                                                            ),
                                                                                                                                          ),
                                                                                                                                        ),
                                                                                                                                      ),
                                                                                                                                    ),
                                                                                                                                  ),
                                                                                                                                ),
                                                                                                                              ),
                                                                                                                            ),
                                                                                                                          ),
                                                                                                                        ),
                                                                                                                      ),
                                                                                                                    ),
                                                                                                                  ),
                                                                                                                ),
                                                                                                              ),
                                                                                                            ),
                                                                                                          ),
                                                                                                        ),
                                                                                                      ),
                                                                                                    ),
                                                                                                  ),
                                                                                                ),
                                                                                              ),
                                                                                            ),
                                                                                          ),
                                                                                        ),
                                                                                      ),
                                                                                    ),
                                                                                  ),
                                                                                ),
                                                                              ),
                                                                            ),
                                                                          ),
                                                                        ),
                                                                      ),
                                                                    ),
                                                                  ),
                                                                ),
                                                              ),
                                                            ),
                                                          ),
                                                        ),
                                                      ),
                                                    ),
                                                  ),
                                                ),
                                              ),
                                            ),
                                          ),
                                        ),
                                      ),
                                    ),
                                  ),
                                ),
                              ),
                            ),
                          ),
                        ),
                      ),
                    ),
                  ),
                ),
              ),
            ),
          ),
        ),
      ),
    ),
  ),
)

-- A component that was derived has a canonical derivation.
by_signs : (b : Bool) (ms : List Move) (ks : List TokenKind) → has_minus_minus_zero ks ≡ b → Derives language_rules ms (Nonterminal n.component_part ∷ []) (map class_of ks) → AllWritable ks → Held (has_minus_minus_zero ks ≡ false) (claim said) n.component_part ms ks
by_signs false ms ks e d w = record { done = doing ms ks; holds = signs_hold (claim said) all_hold n.component_part refl ms ks d w e; builds = λ s. refl; names = λ q. refl; nests = λ z ν. refl }
by_signs true ms ks e d w =
    let h = derived_held (claim said) language_rules all_hold n.component_part ms ks d w in
    record { done = h.done; holds = h.holds; builds = h.builds; names = h.names; nests = λ z. absurd (true≢false (sym e ∙ z)) }

pub component_held : (ms : List Move) (ks : List TokenKind) → Derives language_rules ms (Nonterminal n.component_part ∷ []) (map class_of ks) → AllWritable ks → Held (has_minus_minus_zero ks ≡ false) (claim said) n.component_part ms ks
component_held ms ks d w = by_signs (has_minus_minus_zero ks) ms ks refl d w
