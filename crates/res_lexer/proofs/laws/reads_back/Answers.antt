use Rattle.res_lexer.proofs.Spacing.{reads_back}
use Rattle.res_lexer.proofs.laws.reads_back.Goals as goal

pub returns : goal.returns
returns c =
    let below = c.identifier_laws.ensures in
    reads_back (record {
      stands = below.stands;
      ends = below.ends;
      begins_none = below.begins_none;
      ends_all = below.ends_all;
      end_ends_all = below.end_ends_all;
      plain = below.plain;
    })
