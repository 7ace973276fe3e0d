-- What calls returned that each returned 0.
use Prim.Native.Nat.{ℕ}
use mathlib.Core.Path.{◌≡◌, refl}
use mathlib.Core.List.{List, [], ◌∷◌}
use lib.ListN.{length, replicate}
use Rattle.std.specs.List.{FoldsTo}

pub zeros :
    {F : Type 0} {step : F → ℕ → F → Type 0}
    → ((f : F) (x : ℕ) (g : F) → step f x g → x ≡ 0)
    → (f : F) (xs : List ℕ) (g : F) → FoldsTo step f xs g → xs ≡ replicate (length xs) 0
zeros zero f [] g r = refl
zeros zero f (x ∷ xs) g r = rw (zero f x r.0 r.1, ← zeros zero r.0 xs g r.2)
