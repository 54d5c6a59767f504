use Rattle.std.proofs.Common.{refl}
use Rattle.resolve_cli.specs.Answer.{most_component_bytes}
use Rattle.resolve_cli.proofs.top.most_component_bytes.Goals as goal

pub returns : goal.returns
unfolding most_component_bytes
returns c = refl
