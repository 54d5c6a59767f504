use Rattle.resolve_cli.proofs.Ended.{answers_run_right}
use Rattle.resolve_cli.proofs.answer_laws.headline.Goals as goal

pub returns : goal.returns
returns c =
    answers_run_right c.built_is_formed.ensures (record { valid = c.proved_is_valid.ensures; sound = c.conditions_are_sound.ensures; formed = c.modules_are_formed.ensures; simulates = c.code_simulates.ensures }) c.events_are_good.ensures
