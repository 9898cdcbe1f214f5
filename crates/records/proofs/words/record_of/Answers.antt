use Rattle.std.proofs.Common.{rules}
use Rattle.std.proofs.lemmas.List.{drop-replicate}
use mathlib.Core.Path.{◌≡◌}
use lib.IntN.{pos}
use lib.ListN.{length}
use Rattle.records.proofs.words.record_of.Goals as goal

pub returns : goal.returns
returns g c =
    let l : length c.args.words ≡ g.row.N = search rules in
    rw (c.copy_from_slice.ensures.after, drop-replicate g.row.N 16 (pos 0), l)
