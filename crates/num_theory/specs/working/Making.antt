-- Forms as the code has them.
use Rattle.std.specs.Prelude.{◌≡◌, ℕ, true, List}
use Rattle.num_theory.specs.declared.forms.RawForm.{RawForm}
use Rattle.num_theory.specs.Number.{is_narrow}
use Rattle.num_theory.specs.Linear.{Form, Product, narrow_products}
use Rattle.num_theory.specs.Texts.{text}

abbrev pub form_of : RawForm → Form
form_of f = record { products = f.products.items; constant = f.constant; is_narrow = f.is_narrow }

-- a narrow form has narrow numbers
abbrev pub IsWellMade : Form → Type 0
IsWellMade f = f.is_narrow ≡ true → (narrow_products f.products ≡ true) × (is_narrow f.constant ≡ true)

abbrev pub text_of_product : Product → List ℕ
text_of_product p = text p.1
