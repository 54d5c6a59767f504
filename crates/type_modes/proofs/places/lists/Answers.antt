use Rattle.std.proofs.Common.{◌∙◌, sym, rules, tests}
use Rattle.std.proofs.lemmas.Iterator.{YieldsList-from_slice}
use Rattle.std.proofs.lemmas.Iterator.Search.{any_from_yields_List}
use Rattle.res_ast.specs.declared.statement.Place.{Place}
use Rattle.type_modes.specs.Places.{Spot, covers, spot}
use Rattle.type_modes.specs.working.Seen.{seen_spot}
use Rattle.type_modes.proofs.Lists.{any_map}
use Rattle.type_modes.proofs.places.lists.Goals as goal

pub returns : goal.returns
returns c =
    let changed = seen_spot c.args.changed in
    let places = c.args.listed.now in
    let test = λ (p : Place). covers (spot p) changed in
    any_from_yields_List test _ _ c.any.result c.any.ensures.ran (YieldsList-from_slice places cc) (λ x b q k. search (rules, tests))
    ∙ sym (any_map (λ (s : Spot). covers s changed) spot places)
