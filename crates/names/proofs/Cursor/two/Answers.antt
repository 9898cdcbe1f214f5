use Rattle.std.proofs.Common.{rules}
use Rattle.names.specs.Table.{first_in, rows}
use Rattle.names.proofs.Search.{two_lem}
use Rattle.names.proofs.Cursor.two.Goals as goal

pub returns : goal.returns
unfolding first_in rows
returns c = rw (two_lem c.args.s.now c.args.self.at) (search rules)
