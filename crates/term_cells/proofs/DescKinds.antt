-- The kinds of what lies in descriptors.
use Rattle.std.proofs.Common.{◌≡◌, ◌∙◌, sym, ap, refl, ℕ, true, List, [], ◌∷◌, map}
use Rattle.math_terms.specs.declared.descriptor.Desc.{Desc}
use Rattle.math_terms.specs.declared.descriptor.Shape.{Shape}
use Rattle.math_terms.specs.declared.descriptor.Shape.TheOpen.{Shape-F}
use Rattle.math_terms.specs.declared.descriptor.Shape.TheVariants.{Z, B, Str, Tup, Param, rolls-Z, rolls-B, rolls-Str, rolls-Tup, rolls-Param}
use Rattle.math_terms.specs.declared.descriptor.Shape.TheFolds.{fold-Shape, fold_out-Desc, fold-roll-Shape}
use Rattle.math_terms.specs.declared.descriptor.Sort.{Sort}
use Rattle.math_terms.specs.declared.descriptor.Sort.TheOpen.{Sort-F}
use Rattle.math_terms.specs.declared.descriptor.Sort.TheViews.{roll-Sort, out-Sort, out-roll-Sort}
use Rattle.math_terms.specs.declared.descriptor.Sort.TheFolds.{fold-roll-Sort}
use Rattle.math_terms.specs.Kinds.{forget, forget_step, sort_of_desc, sort_of_shape_step, sort_of_desc_step}
use Rattle.math_terms.specs.Sorts.{z, b, any, is_str, str, str_form, tup}
use Rattle.term_cells.specs.KindShown.{is_other, kind_of_desc}

list_map-map : {X Y W : Type 0} (f : X → Y) (g : Y → W) (xs : List X) → map g (map f xs) ≡ map (λ x. g (f x)) xs
list_map-map f g [] = refl
list_map-map f g (x ∷ xs) = ap (λ ys. g (f x) ∷ ys) (list_map-map f g xs)

sort_of_shape : Shape → Sort
sort_of_shape s = fold-Shape Sort Sort sort_of_shape_step sort_of_desc_step s

by_shape : (d : Desc) (s : Shape) → d.shape ≡ s → kind_of_desc d ≡ forget (sort_of_shape s)
unfolding sort_of_shape
by_shape d s e =
    ap forget (fold_out-Desc Sort Sort sort_of_shape_step sort_of_desc_step d ∙ ap (fold-Shape Sort Sort sort_of_shape_step sort_of_desc_step) e)

pub number_desc : (d : Desc) → d.shape ≡ Z → kind_of_desc d ≡ z
unfolding sort_of_shape
number_desc d e =
    by_shape d Z e
    ∙ ap (λ s. forget (fold-Shape Sort Sort sort_of_shape_step sort_of_desc_step s)) (sym rolls-Z)
    ∙ ap forget (fold-roll-Shape Sort Sort sort_of_shape_step sort_of_desc_step Shape-F.Z)
    ∙ fold-roll-Sort Sort forget_step Sort-F.Z

pub truth_desc : (d : Desc) → d.shape ≡ B → kind_of_desc d ≡ b
unfolding sort_of_shape
truth_desc d e =
    by_shape d B e
    ∙ ap (λ s. forget (fold-Shape Sort Sort sort_of_shape_step sort_of_desc_step s)) (sym rolls-B)
    ∙ ap forget (fold-roll-Shape Sort Sort sort_of_shape_step sort_of_desc_step Shape-F.B)
    ∙ fold-roll-Sort Sort forget_step Sort-F.B

pub tuple_desc : (d : Desc) (ds : List Desc) → d.shape ≡ Tup ds → kind_of_desc d ≡ tup (map kind_of_desc ds)
unfolding sort_of_shape
tuple_desc d ds e =
    by_shape d (Tup ds) e
    ∙ ap (λ s. forget (fold-Shape Sort Sort sort_of_shape_step sort_of_desc_step s)) (sym (rolls-Tup ds))
    ∙ ap forget (fold-roll-Shape Sort Sort sort_of_shape_step sort_of_desc_step (Shape-F.Tup ds))
    ∙ fold-roll-Sort Sort forget_step (Sort-F.Tup (map sort_of_desc ds))
    ∙ ap tup (list_map-map sort_of_desc forget ds)

str_is : (s : Sort) → forget (roll-Sort (Sort-F.Str s)) ≡ str any
str_is s = fold-roll-Sort Sort forget_step (Sort-F.Str s)

pub string_desc : (d e : Desc) → d.shape ≡ Str e → is_str (kind_of_desc d) ≡ true
unfolding sort_of_shape
string_desc d e f =
    ap is_str (by_shape d (Str e) f
    ∙ ap (λ s. forget (fold-Shape Sort Sort sort_of_shape_step sort_of_desc_step s)) (sym (rolls-Str e))
    ∙ ap forget (fold-roll-Shape Sort Sort sort_of_shape_step sort_of_desc_step (Shape-F.Str e))
    ∙ fold-roll-Sort Sort forget_step (Sort-F.Str (sort_of_desc e)))
    ∙ ap str_form (out-roll-Sort (Sort-F.Str any))

pub other_param : (d : Desc) (k : ℕ) → d.shape ≡ Param k → is_other (out-Sort (kind_of_desc d)) ≡ true
unfolding sort_of_shape
other_param d k f =
    ap (λ s. is_other (out-Sort s)) (by_shape d (Param k) f
    ∙ ap (λ s. forget (fold-Shape Sort Sort sort_of_shape_step sort_of_desc_step s)) (sym (rolls-Param k))
    ∙ ap forget (fold-roll-Shape Sort Sort sort_of_shape_step sort_of_desc_step (Shape-F.Param k))
    ∙ fold-roll-Sort Sort forget_step (Sort-F.Param k))
    ∙ ap is_other (out-roll-Sort (Sort-F.Param k))
