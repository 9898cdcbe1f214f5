-- What has to stand at a place, and what is said where it does not (docs/RULES.md, 6).
use Rattle.std.specs.Prelude.{ℕ, suc, List, [], ◌∷◌, Bool, false, ◌&&◌, ◌||◌, not, eqb, get_or, drop, if◌then◌else◌}
use Rattle.names.specs.Read.{Reader, refused, branch, pure, ◌>>◌}
use Rattle.names.specs.Texts.{blanks}
use Rattle.names.specs.Refusals.{no_shape, broken_quote}

-- whether a quote stands in a text
unfoldable pub has_quote : List ℕ → Bool
has_quote [] = false
has_quote (b ∷ s) = eqb b 34 || has_quote s

-- a broken quote: the byte at the place is a quote, and the next is a quote too or no later quote stands in the text
unfoldable pub at_broken_quote : List ℕ → ℕ → Bool
at_broken_quote s p = eqb (get_or s p 0) 34 && (eqb (get_or s (suc p) 0) 34 || not (has_quote (drop (suc p) s)))

-- what is missing at a place: 12 for a broken quote, 3 for the rest
unfoldable pub missing_at : List ℕ → ℕ → ℕ
missing_at s p = if at_broken_quote s p then broken_quote else no_shape

-- nothing of its kind stands here: the place is the first byte after the blanks
unfoldable pub missing : {A : Type 0} → Reader A
missing = do
  blanks
  λ s p. refused (missing_at s p) p

-- m, which has to stand here
abbrev pub must : {A : Type 0} → Reader A → Reader A
must m = branch m pure missing
