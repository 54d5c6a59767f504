use Rattle.std.proofs.Common.{◌≡◌, ◌∷◌, [], ◌++◌, true, sym, ap, ◌∙◌, subst}
use Rattle.command_words.specs.Words as spec
use Rattle.command_words.specs.Words.{Word}
use Rattle.command_words.specs.working.Reading.{option_word, options_for, IsSummary}
use Rattle.command_words.proofs.Gathering.{value-taken}
use Rattle.command_words.proofs.words.State.value.Goals as goal

pub returns-then-is_value-clause-state : goal.returns-then-is_value-clause-state
returns-then-is_value-clause-state c =
    λ words rest st.
    let is_value : spec.is_value c.args.word.now ≡ true = ap spec.is_value (sym c.as_bytes-value.ensures.value) ∙ (sym c.is_value.ensures ∙ c.if-is_value.true) in
    let P : Word → Type 0 = λ w. IsSummary (st.os ++ ((option_word c.args.option, w) ∷ [])) st.fs c.with_option.result in
    record {
      os = st.os ++ ((option_word c.args.option, c.args.word.now) ∷ []);
      fs = st.fs;
      reads = value-taken (options_for c.args.verb) words rest c.args.word.now c.args.self c.args.option c.requires is_value st;
      sums = subst P c.as_bytes-value.ensures.value (c.with_option.ensures.more st.os st.fs st.sums);
    }
