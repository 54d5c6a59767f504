-- Any word closes what it names: an identifier, or a reserved word.
use Rattle.std.proofs.Common.{◌≡◌, refl, ap, ℕ, true, ◌==◌, [], ◌∷◌, Some, codes}
use Rattle.ll_grammar.specs.Grammar as grammar
use Rattle.ll_grammar.specs.Grammar.{at}
use Rattle.ll_grammar.specs.declared.form.Symbol.TheVariants.{Terminal}
use Rattle.res_lexer.specs.declared.token.TokenKind.TheVariants as kind
use Rattle.res_grammar.specs.Classes.{class_of, class_of_word}
use Rattle.res_grammar.specs.Language.{language_rules}
use Rattle.res_grammar.specs.Numbers as n
use Rattle.round_trip.proofs.Canonical.{constant_writable, is_constant}
use Rattle.round_trip.proofs.Chains.{Claim}
use Rattle.round_trip.proofs.Claims.{AnyWord, Hold, Name}
use Rattle.round_trip.proofs.Doing.{took}

reserved : (way class : ℕ) (x : Name) → at (grammar.row language_rules n.word_part) way ≡ Some (Terminal class ∷ []) → (class == class_of (kind.Word x)) ≡ true → is_constant (kind.Word x) ≡ true → AnyWord (took (kind.Word x))
reserved way class x e f c = record { word = x; class = class; way = way; spells = e; is_class = f; writable = λ law. constant_writable law (kind.Word x) c; is = refl }

pub word_ways : (E : Claim) → Hold E n.word_part
unfolding language_rules class_of_word
word_ways E = (
  (λ x e w. record { word = x; class = n.id; way = 0; spells = refl; is_class = ap (λ z. n.id == z) e; writable = λ law. w; is = refl }),
  (
    reserved 1 21 (codes "Concept") refl refl refl,
    (
      reserved 2 22 (codes "type") refl refl refl,
      (
        reserved 3 23 (codes "evaluates") refl refl refl,
        (
          reserved 4 24 (codes "Integer") refl refl refl,
          (
            reserved 5 25 (codes "uses") refl refl refl,
            (
              reserved 6 26 (codes "requires") refl refl refl,
              (
                reserved 7 27 (codes "end") refl refl refl,
                (
                  reserved 8 28 (codes "Type") refl refl refl,
                  (
                    reserved 9 29 (codes "Family") refl refl refl,
                    (
                      reserved 10 30 (codes "is") refl refl refl,
                      (
                        reserved 11 31 (codes "modeled") refl refl refl,
                        (
                          reserved 12 32 (codes "by") refl refl refl,
                          (
                            reserved 13 33 (codes "exemplar") refl refl refl,
                            (
                              reserved 14 34 (codes "constraint") refl refl refl,
                              (
                                reserved 15 35 (codes "initialization") refl refl refl,
                                (
                                  reserved 16 36 (codes "ensures") refl refl refl,
                                  (
                                    reserved 17 37 (codes "Z") refl refl refl,
                                    (
                                      reserved 18 38 (codes "B") refl refl refl,
                                      (
                                        reserved 19 39 (codes "Str") refl refl refl,
                                        (
                                          reserved 20 40 (codes "Cart_Prod") refl refl refl,
                                          (
                                            reserved 21 41 (codes "Operation") refl refl refl,
                                            (
                                              reserved 22 42 (codes "Boolean") refl refl refl,
                                              (
                                                reserved 23 43 (codes "In_Stream") refl refl refl,
                                                (
                                                  reserved 24 44 (codes "Out_Stream") refl refl refl,
                                                  (
                                                    reserved 25 45 (codes "alters") refl refl refl,
                                                    (
                                                      reserved 26 46 (codes "clears") refl refl refl,
                                                      (
                                                        reserved 27 47 (codes "preserves") refl refl refl,
                                                        (
                                                          reserved 28 48 (codes "replaces") refl refl refl,
                                                          (
                                                            reserved 29 49 (codes "restores") refl refl refl,
                                                            (
                                                              reserved 30 50 (codes "updates") refl refl refl,
                                                              (
                                                                reserved 31 51 (codes "Enhancement") refl refl refl,
                                                                (
                                                                  reserved 32 52 (codes "for") refl refl refl,
                                                                  (
                                                                    reserved 33 53 (codes "Realization") refl refl refl,
                                                                    (
                                                                      reserved 34 54 (codes "of") refl refl refl,
                                                                      (
                                                                        reserved 35 55 (codes "Procedure") refl refl refl,
                                                                        (
                                                                          reserved 36 56 (codes "Facility") refl refl refl,
                                                                          (
                                                                            reserved 37 57 (codes "Static_Array_Template") refl refl refl,
                                                                            (
                                                                              reserved 38 58 (codes "realized") refl refl refl,
                                                                              (
                                                                                reserved 39 59 (codes "enhanced") refl refl refl,
                                                                                (
                                                                                  reserved 40 60 (codes "represented") refl refl refl,
                                                                                  (
                                                                                    reserved 41 61 (codes "Record") refl refl refl,
                                                                                    (
                                                                                      reserved 42 62 (codes "convention") refl refl refl,
                                                                                      (
                                                                                        reserved 43 63 (codes "correspondence") refl refl refl,
                                                                                        (
                                                                                          reserved 44 64 (codes "Conc") refl refl refl,
                                                                                          (
                                                                                            reserved 45 65 (codes "decreasing") refl refl refl,
                                                                                            (
                                                                                              reserved 46 66 (codes "Var") refl refl refl,
                                                                                              (
                                                                                                reserved 47 67 (codes "If") refl refl refl,
                                                                                                (
                                                                                                  reserved 48 68 (codes "then") refl refl refl,
                                                                                                  (
                                                                                                    reserved 49 69 (codes "else") refl refl refl,
                                                                                                    (
                                                                                                      reserved 50 70 (codes "While") refl refl refl,
                                                                                                      (
                                                                                                        reserved 51 71 (codes "changing") refl refl refl,
                                                                                                        (
                                                                                                          reserved 52 72 (codes "maintaining") refl refl refl,
                                                                                                          (
                                                                                                            reserved 53 73 (codes "do") refl refl refl,
                                                                                                            (
                                                                                                              reserved 54 74 (codes "implies") refl refl refl,
                                                                                                              (
                                                                                                                reserved 55 75 (codes "or") refl refl refl,
                                                                                                                (
                                                                                                                  reserved 56 76 (codes "and") refl refl refl,
                                                                                                                  (
                                                                                                                    reserved 57 77 (codes "not") refl refl refl,
                                                                                                                    (
                                                                                                                      reserved 58 78 (codes "o") refl refl refl,
                                                                                                                      (
                                                                                                                        reserved 59 79 (codes "div") refl refl refl,
                                                                                                                        (
                                                                                                                          reserved 60 80 (codes "mod") refl refl refl,
                                                                                                                          (
                                                                                                                            reserved 61 81 (codes "true") refl refl refl,
                                                                                                                            (
                                                                                                                              reserved 62 82 (codes "false") refl refl refl,
                                                                                                                              (
                                                                                                                                reserved 63 83 (codes "min_int") refl refl refl,
                                                                                                                                (
                                                                                                                                  reserved 64 84 (codes "max_int") refl refl refl,
                                                                                                                                  (
                                                                                                                                    reserved 65 85 (codes "Empty_String") refl refl refl,
                                                                                                                                    (
                                                                                                                                      reserved 66 86 (codes "Reverse") refl refl refl,
                                                                                                                                      (
                                                                                                                                        reserved 67 87 (codes "Prt_Btwn") refl refl refl,
                                                                                                                                        (
                                                                                                                                          reserved 68 88 (codes "Is_Initial") refl refl refl,
                                                                                                                                          (
                                                                                                                                            reserved 69 89 (codes "Read") refl refl refl,
                                                                                                                                            (
                                                                                                                                              reserved 70 90 (codes "Write") refl refl refl,
                                                                                                                                              (
                                                                                                                                                reserved 71 91 (codes "At_End") refl refl refl,
                                                                                                                                                (
                                                                                                                                                  reserved 72 92 (codes "Remaining") refl refl refl,
                                                                                                                                                  (
                                                                                                                                                    reserved 73 93 (codes "Swap_Entry") refl refl refl,
                                                                                                                                                    (
                                                                                                                                                      reserved 74 94 (codes "Static_Array") refl refl refl,
                                                                                                                                                      tt,
                                                                                                                                                    ),
                                                                                                                                                  ),
                                                                                                                                                ),
                                                                                                                                              ),
                                                                                                                                            ),
                                                                                                                                          ),
                                                                                                                                        ),
                                                                                                                                      ),
                                                                                                                                    ),
                                                                                                                                  ),
                                                                                                                                ),
                                                                                                                              ),
                                                                                                                            ),
                                                                                                                          ),
                                                                                                                        ),
                                                                                                                      ),
                                                                                                                    ),
                                                                                                                  ),
                                                                                                                ),
                                                                                                              ),
                                                                                                            ),
                                                                                                          ),
                                                                                                        ),
                                                                                                      ),
                                                                                                    ),
                                                                                                  ),
                                                                                                ),
                                                                                              ),
                                                                                            ),
                                                                                          ),
                                                                                        ),
                                                                                      ),
                                                                                    ),
                                                                                  ),
                                                                                ),
                                                                              ),
                                                                            ),
                                                                          ),
                                                                        ),
                                                                      ),
                                                                    ),
                                                                  ),
                                                                ),
                                                              ),
                                                            ),
                                                          ),
                                                        ),
                                                      ),
                                                    ),
                                                  ),
                                                ),
                                              ),
                                            ),
                                          ),
                                        ),
                                      ),
                                    ),
                                  ),
                                ),
                              ),
                            ),
                          ),
                        ),
                      ),
                    ),
                  ),
                ),
              ),
            ),
          ),
        ),
      ),
    ),
  ),
)
