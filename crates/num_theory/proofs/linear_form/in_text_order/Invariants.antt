use Rattle.std.proofs.Common.{◌≡◌, ◌≤◌, map, take, drop, vec_len}
use Rattle.num_theory.specs.Linear.{shown}
use Rattle.num_theory.specs.working.Making.{text_of_product}
use Rattle.num_theory.proofs.linear_form.in_text_order.Given as goal

abbrev pub invariant-loop-coefficient : goal.invariant-loop-coefficient
invariant-loop-coefficient l = record {
  within : vec_len l.products ≤ vec_len l.fn.products;
  left : l.products.items ≡ take (vec_len l.products) l.fn.products.items;
  placed : l.ordered.items ≡ shown (drop (vec_len l.products) l.fn.products.items);
  same : l.texts.items ≡ map text_of_product l.ordered.items;
}

abbrev pub decreases-loop-coefficient : goal.decreases-loop-coefficient
decreases-loop-coefficient l = vec_len l.products
