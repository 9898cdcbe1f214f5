use Rattle.std.proofs.Common.{suc, ◌+◌, ◌*◌, ◌≡◌, ap, sym, List, ℕ, ◌∙◌, length, arith}
use Rattle.std.proofs.Math.Seq.{sets}
use Rattle.std.specs.Iterator.Adapters.{enumerate_source, enumerate_count}
use Rattle.lent_slots.specs.Bytes.{little_endian}
use Rattle.table_rules.specs.Rules.{Rule}
use Rattle.table_rules.specs.Numbers.{written}
use Rattle.months.specs.Months.{rule_mask}
use Rattle.months.specs.Entries.{wrap, entries_of}
use Rattle.months.specs.Walk.{rule_of, rules_left}
use Rattle.months.proofs.EntryLaws.{entry_more, two_sets}
use Rattle.months.proofs.entries.fill_entries.Goals as goal

pub loop-i-preserved : goal.loop-i-preserved
loop-i-preserved c =
    let i = c.args.first + c.in-Some.i in
    let r = rule_of c.in-Some.rule in
    let h = c.in-Some.ensures.steps in
    let rs = rules_left (enumerate_source c.next.new.self) in
    let l : length (rules_left (enumerate_source c.loop-i.i-iterator)) ≡ suc (length rs) = ap length h.0 in
    let x = wrap (c.args.base + c.in-Some.rule.head) in
    let e : c.put_word-in-loop-i.new.table ≡ sets (sets c.loop-i.list (i * 8) (little_endian x)) (i * 8 + 4) (little_endian (rule_mask r.items)) =
    cc in
    record {
      same_length = rw e (two_sets c.loop-i.list (i * 8) (i * 8 + 4) x (rule_mask r.items) ∙ c.loop-i.invariant.same_length);
      room = omega arith;
      written_so_far =
          c.loop-i.invariant.written_so_far ∙ ap (λ j. written c.loop-i.list ((c.args.first + j) * 2) (entries_of c.args.base (rules_left (enumerate_source c.loop-i.i-iterator)))) (sym h.1)
          ∙ ap (λ (l : List Rule). written c.loop-i.list (i * 2) (entries_of c.args.base l)) h.0
          ∙ entry_more c.args.base c.loop-i.list i (c.args.first + enumerate_count c.next.new.self) r rs (omega arith)
          ∙ ap (λ (b : List ℕ). written b ((c.args.first + enumerate_count c.next.new.self) * 2) (entries_of c.args.base rs)) (sym e);
    }
