use mathlib.Core.Path.{◌∙◌}
use Rattle.names.specs.Names.{weekday}
use Rattle.names.specs.Spellings.{named}
use Rattle.names.proofs.Local.{past_one}
use Rattle.names.proofs.NameCut.{name_local}
use Rattle.names.proofs.Odd.{named_got, named_none}
use Rattle.days.specs.Weekdays.{weekday_after, weekday_shape, weekday_meaning, weekday_item, weekday_item_after}
use Rattle.records.proofs.Anywhere.{item_after_lem}
use Rattle.days.proofs.weekdays.weekday_item.Goals as goal

pub returns-in_default : goal.returns-in_default
unfolding weekday_item weekday_item_after weekday_shape
returns-in_default c = rw (named_none c.args.s.now c.args.c.at weekday c.in_default.ensures.is)

pub weekday_item_after-requires : goal.weekday_item_after-requires
unfolding weekday_item weekday_item_after weekday_shape
weekday_item_after-requires c = let both_told = past_one (name_local weekday) c.in-Some.ensures.is in record { p_lt_at = both_told.0; at_in_bounds = both_told.1 }

pub returns : goal.returns
unfolding weekday_item weekday_item_after weekday_shape
returns c = item_after_lem (named weekday) (weekday_after c.args.m) weekday_meaning (named_got c.args.s.now c.args.c.at weekday c.in-Some.ensures.is)
    ∙ c.weekday_item_after.ensures
