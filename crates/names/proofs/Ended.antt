-- Where nothing stands after a text, a `;` and the text's end are read alike too.
use Prim.Native.Nat.{ℕ, suc, ◌+◌, ◌<◌}
use mathlib.Core.List.{List, ◌++◌, append-nil}
use mathlib.Core.Bool.{Bool, true}
use mathlib.Core.Path.{◌≡◌, refl}
use lib.Dec.{eqb}
use lib.ListN.{length, get_or, length-append}
use Rattle.names.specs.Read.{one, at_end}
use Rattle.names.specs.Texts.{byte}
use Rattle.names.proofs.Local.{Ended, Follows, stop_end, At, keep, Local, map_local, one_turns, look_local, compare_add}

-- one byte that passes a test
pub one_ended : {u : List ℕ} {a c : Bool} (p : ℕ → Bool) → Local Ended keep u a c 1 (one p) (one p)
one_ended {a = a} {c} p = one_turns p turns cut
  where
    turns : (s v : List ℕ) (i : ℕ) → Follows Ended v → At v a s i → i < length s → p (get_or s i 0) ≡ true → At v c s (suc i)
    turns s v i stop_end w h e = tt

    cut : (s v : List ℕ) (i : ℕ) → Follows Ended v → At v a s i → one p (s ++ v) i ≡ one p s i
    cut s v i stop_end w = rw append-nil

-- this byte
pub byte_ended : {u : List ℕ} {a c : Bool} (b : ℕ) → Local Ended keep u a c 1 (byte b) (byte b)
unfolding byte
byte_ended b = map_local _ _ (λ x. refl) (one_ended (eqb b))

-- the text's end
pub at_end_ended : {u : List ℕ} {a : Bool} → Local Ended keep u a a 0 at_end at_end
unfolding at_end
at_end_ended {u} {a} = look_local (λ s i. eqb i (length s)) alike
  where
    alike : (s v : List ℕ) (i : ℕ) → Follows Ended v → At v a s i → eqb (length u + i) (length (u ++ (s ++ v))) ≡ eqb i (length s)
    alike s v i stop_end w = simp (append-nil, length-append, compare_add)
