-- What stands before an item of a rule after another, by the rules' own rows.
use Rattle.std.specs.Prelude.{ℕ, ◌&&◌, Option, Some, None, if◌then◌else◌}
use Rattle.records.specs.declared.Item.{Item}
use Rattle.items.specs.declared.Kind.{Kind}
use Rattle.rules.specs.Rows.{small, listed, following, is_wide}
use Rattle.sheet_texts.specs.Texts.{Text, nothing, ◌then◌, mark}
use Rattle.sheet_texts.specs.Items.{item_text, full, has, kind_in}
use Rattle.item_texts.specs.declared.Sort.{Sort}
use Rattle.item_texts.specs.declared.Sort.TheVariants as sort
use Rattle.item_texts.specs.declared.Joint.{Joint}
use Rattle.item_texts.specs.declared.Joint.TheVariants.{Comma, Colon, Blank}

-- the number of a sort
abbrev pub number_of : Sort → ℕ
number_of sort.Years = 1
number_of sort.MonthDays = 2
number_of sort.Weeks = 3
number_of sort.Weekdays = 4
number_of sort.Holidays = 5
number_of sort.Times = 6

-- an item of a sort after one of kind k: a comma in a list, a colon between wide and small part, a blank else; or it may not stand there
unfoldable pub joint_of : Kind → ℕ → Option Joint
joint_of k n =
    if has (listed k) n then Some (Comma (kind_in k (listed k) n))
    else if is_wide k && has small n then Some (Colon (kind_in k small n))
    else if has (following k) n then Some (Blank (kind_in k (following k) n))
    else None

-- an item after what stands before it, if it may stand there
abbrev pub joined : Option Joint → Item → Text
joined (Some (Comma k)) a = mark "," then item_text a
joined (Some (Colon k)) a = mark ":" then mark " " then full a
joined (Some (Blank k)) a = mark " " then full a
joined None a = nothing
