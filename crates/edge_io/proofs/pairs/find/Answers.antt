use Rattle.std.proofs.Common.{ℕ, List, Some, sym, ap, ◌∙◌}
use Rattle.std.proofs.lemmas.Option.{get_or_from_slice_get}
use Rattle.edge_io.proofs.NamedFiles.{files_of-first}
use Rattle.edge_io.proofs.pairs.find.Goals as goal

pub returns-in-Some : goal.returns-in-Some
returns-in-Some c =
    let file = c.in-Some.ensures.first.1 in
    let here = get_or_from_slice_get c.args.files.now c.in-Some.at (c.args.name.now, file.0) c.index-files-at.result file.1 in
    ap (λ bytes. Some bytes) (c.as_slice.ensures ∙ ap (λ (item : List ℕ × List ℕ). item.1) here)
    ∙ sym (files_of-first c.args.files.now c.in-Some.at c.args.name.now file.0 c.in-Some.ensures.first.0 file.1)
