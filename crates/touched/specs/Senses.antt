-- What the tests of selectors say, in other words than their definitions.
use Rattle.std.specs.Prelude.{ℕ, ◌+◌, ◌-◌, ◌*◌, ◌≤◌, true, ◌↔◌, ◌≡◌, leb, if◌then◌else◌}
use Rattle.names.specs.Tests.{within}
use Rattle.almanac.specs.Numbers.{number}
use Rattle.almanac.specs.Laws.{Known}
use Rattle.almanac.specs.declared.Ymd.{Ymd}
use Rattle.touched.specs.Selectors.{stepped, round, dated}

-- by range and step: some number of steps from the first, and not past the last. A step of 0 never leaves the first
abbrev pub Stepped : Type 0
Stepped = (first last step n : ℕ) → (stepped first last step n ≡ true) ↔ ((n ≤ last) × ((k : ℕ) × (n ≡ first + k * step)))

-- in a round of c numbers, 1 to c: how far b is from a, going on and round
abbrev pub way : ℕ → ℕ → ℕ → ℕ
way c a b = if leb a b then b - a else b + c - a

-- going round, n comes no later than the last
abbrev pub Round : Type 0
Round = (c first last n : ℕ) → first ≤ c → last ≤ c → n ≤ c → 1 ≤ last → 1 ≤ n → (round first last n ≡ true) ↔ (way c first n ≤ way c first last)

-- a day of the calendar between two others by the numbers of their dates is between them
abbrev pub Between : Type 0
Between =
    (a b x : Ymd) → Known a → Known b → Known x →
    (within (dated a.year a.month a.day) (dated b.year b.month b.day) (dated x.year x.month x.day) ≡ true) ↔ ((number a ≤ number x) × (number x ≤ number b))
