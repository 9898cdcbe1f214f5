-- What an answer of the code says, in the definitions' terms.
use Rattle.std.specs.Prelude.{ℕ, List, [], ◌∷◌, Bool, ◌≡◌, eqb, Option, Some, None, Result, Ok, Err, if◌then◌else◌}
use Rattle.names.specs.Read.{Read, got, none, refused, Reader, follow, nothing, pure, ◌>>=◌}
use Rattle.names.specs.Texts.{blanks}
use Rattle.names.specs.Refusals.{number}
use Rattle.names.specs.Seen.{numbers, seen_judged}
use Rattle.names.specs.declared.Cursor.{Cursor}
use Rattle.names.specs.declared.refusals.Reason.{Reason}
use Rattle.names.specs.declared.refusals.Refusal.{Refusal}
use Rattle.names.specs.declared.Manner.{Manner}
use Rattle.names.specs.Spellings.{odd_from}
use Rattle.names.specs.Names.{Word, word, weekday, month, event, easter, holiday, week}
use Rattle.records.specs.declared.Item.{Item}
use Rattle.times.specs.Spans.{event_item_after}
use Rattle.days.specs.Weekdays.{weekday_item_after}
use Rattle.days.specs.Holidays.{holiday_item_after}
use Rattle.dates.specs.Weeks.{week_item}
use Rattle.dates.specs.MonthDays.{month_day_after}
use Rattle.items.specs.Musts.{missing_at, must}
use Rattle.records.specs.Words.{Placed}
use Rattle.items.specs.Kinds.{after_blank, item_in}
use Rattle.items.specs.Sets.{begins_with}
use Rattle.items.specs.declared.Kind.{Kind}
use Rattle.items.specs.declared.PlacedItem.{PlacedItem}
use Rattle.items.specs.declared.Stands.{Stands}
use Rattle.items.specs.declared.Stands.TheVariants as stands

-- an item at its place, and its kind
abbrev pub placed : PlacedItem → Placed × Kind
placed x = ((x.item, x.place), x.kind)

-- what stands at the place i, where items of these kinds are wanted: such an item or its refusal, or else a name, or neither
abbrev pub Standing : Manner → List Kind → List ℕ → ℕ → Result Stands (Refusal Reason) → Type 0
Standing m ks s i (Ok (stands.Item x c)) = item_in m ks s i ≡ got (placed x) c.at
Standing m ks s i (Ok (stands.Name w c)) = (item_in m ks s i ≡ none) × (word s i ≡ got (numbers w) c.at)
Standing m ks s i (Ok stands.Nothing) = (item_in m ks s i ≡ none) × (word s i ≡ none)
Standing m ks s i (Err r) = item_in m ks s i ≡ refused (number r.reason) r.place

-- what is missing at a place: after the blanks, by its number
abbrev pub Lacking : List ℕ → ℕ → (Refusal Reason) → Type 0
Lacking s i r = (blanks s i ≡ got tt r.place) × (number r.reason ≡ missing_at s r.place)

-- what was read of an item at i, which has its place at p
abbrev pub at_place : List ℕ → ℕ → ℕ → Read Item → Read Placed
at_place s i p r = follow s i r (λ a. pure (a, p)) nothing

-- where a reading ends
abbrev pub place_after : {A : Type 0} → Read A → ℕ
place_after (got a j) = j
place_after none = 0
place_after (refused k p) = 0

-- the place of the item that begins at i with a name of kind n, up to j: a week's is where its number begins
unfoldable pub place_of : ℕ → ℕ → List ℕ → ℕ → ℕ
place_of n i s j = if eqb n week then place_after (blanks s j) else i

-- an item of this kind
abbrev pub with_kind : Kind → Read Placed → Read (Placed × Kind)
with_kind k (got a j) = got (a, k) j
with_kind k none = none
with_kind k (refused n p) = refused n p

-- an answer of those who look for no name: it says what was read
abbrev pub Finds : Read (Placed × Kind) → Result (Option (PlacedItem × Cursor)) (Refusal Reason) → Type 0
Finds m r = m ≡ seen_judged placed r

-- this kind where a test passes, or else another wish
abbrev pub wish_if : Bool → Kind → Option Kind → Option Kind
wish_if t k other = if t then Some k else other

-- of these kinds, the first that may begin with a name of this kind
unfoldable pub wished : ℕ → List Kind → Option Kind
wished n [] = None
wished n (k ∷ ks) = if begins_with n k then Some k else wished n ks

-- the month day without a year that begins at p with a name, after that name
abbrev pub month_day_named : ℕ → Word → Reader Item
month_day_named p w = do
  odd ← odd_from w.0 p
  month_day_after p None (w, odd)

-- the item that begins at p with a name of kind n, which is v of its kind, after that name
unfoldable pub after_name : Manner → ℕ → ℕ → ℕ → Reader Item
after_name m p n v =
    if eqb n weekday then weekday_item_after m p v
    else if eqb n month then month_day_named p (n, v)
    else if eqb n easter then month_day_named p (n, v)
    else if eqb n event then event_item_after m p v
    else if eqb n holiday then holiday_item_after p v
    else if eqb n week then must (after_blank week_item)
    else nothing
