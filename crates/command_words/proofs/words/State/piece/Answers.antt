use Rattle.std.proofs.Common.{◌≡◌, ◌∷◌, [], ◌++◌, Some, sym, subst, ap, ◌∙◌}
use Rattle.command_words.specs.Words as spec
use Rattle.command_words.specs.working.Reading.{option_word, options_for, IsPiece}
use Rattle.command_words.specs.declared.words.Piece.{Piece}
use Rattle.command_words.proofs.Gathering.{piece-read, prepended-option, prepended-further}
use Rattle.command_words.proofs.words.State.piece.Goals as goal

pub returns-in-Some-Further-clause-state : goal.returns-in-Some-Further-clause-state
returns-in-Some-Further-clause-state c =
    λ words rest st.
    let names = options_for c.args.verb in
    let is : spec.piece_of names c.args.word.now ≡ Some spec.Further = ap (spec.piece_of names) (sym c.as_bytes.ensures.value) ∙ (let P : Piece → Type 0 = λ f. IsPiece (Some f) (spec.piece_of names c.as_bytes.result.now) in subst P c.in-Some-Further.field-0-is c.in-Some-Further.ensures) in
    record {
      os = st.os;
      fs = st.fs ++ (c.args.word.now ∷ []);
      reads = piece-read names words rest c.args.word.now c.args.self _ c.requires.idle is st ∙ prepended-further st.os st.fs c.args.word.now _;
      sums = c.with_further.ensures.more st.os st.fs st.sums;
    }

pub returns-in-Some-Whole-clause-state : goal.returns-in-Some-Whole-clause-state
returns-in-Some-Whole-clause-state c =
    λ words rest st.
    let names = options_for c.args.verb in
    let name = option_word c.in-Some-Whole.option in
    let value = c.in-Some-Whole.value.now in
    let is : spec.piece_of names c.args.word.now ≡ Some (spec.Whole name value) = ap (spec.piece_of names) (sym c.as_bytes.ensures.value) ∙ (let P : Piece → Type 0 = λ f. IsPiece (Some f) (spec.piece_of names c.as_bytes.result.now) in subst P c.in-Some-Whole.field-0-is c.in-Some-Whole.ensures) in
    record {
      os = st.os ++ ((name, value) ∷ []);
      fs = st.fs;
      reads = piece-read names words rest c.args.word.now c.args.self _ c.requires.idle is st ∙ prepended-option st.os st.fs name value _;
      sums = c.with_option.ensures.more st.os st.fs st.sums;
    }
