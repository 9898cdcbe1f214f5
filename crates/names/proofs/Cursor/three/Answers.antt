use Rattle.std.proofs.Common.{rules}
use Rattle.names.specs.Table.{first_in, rows}
use Rattle.names.proofs.Search.{three_lem}
use Rattle.names.proofs.Cursor.three.Goals as goal

pub returns : goal.returns
unfolding first_in rows
returns c = rw (three_lem c.args.s.now c.args.self.at) (search rules)
