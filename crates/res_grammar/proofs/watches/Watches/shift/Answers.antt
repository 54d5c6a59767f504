use Rattle.std.proofs.lemmas.Bool.Decides.{when_true, when_false}
use Rattle.res_grammar.proofs.watches.Watches.shift.Goals as goal

pub returns-then-not-shift-3 : goal.returns-then-not-shift-3
returns-then-not-shift-3 c = (
  record { own_names = c.shift.new.self; is = when_true _ _ c.if-not-shift.false c.shift.ensures },
  record { depths = c.args.self.now.nesting; is = when_true _ _ c.if-not-shift-2.false (c.shift-2.ensures c.args.token.now) },
  when_false _ _ c.if-not-shift-3.true c.shift-3.ensures,
)
