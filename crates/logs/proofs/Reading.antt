-- Of the reader's functions, as they were walked by hand before the check walked them; nothing cites it any more.
--
-- The three slices that `play` and `play_stretch` borrowed, before one `Standing` had them: the table, the report and the counters, at the last three of four lifetimes. Each walk passes them on for
-- good to a callee that takes them last too, so what the three own together, and what is said of their last lists, is one formula for both.
--     Lent, Lists          the three borrows; a list for each
--     word, word_typed     the machine value of a slice, the stretch's too, and that it is well typed where the count fits
--     words, vals          those of the three, in a row and by parameter.        spells, tells    that they are those.        WellTyped, well_typed    and well typed
--     muts, lent           the types of the three, and what they own
--     Asks, Leaves         what is required and ensured, of a stretch, a place in it and the three
--     gave, gave-goes      what is had of the three at exit, and the law for it.        finals    that written out: what says their last lists
--     lasting              what a callee says of the last lists (`ended`) gives `finals`, and that each is as long as it was (`SameLengths`)
-- `gave_goes` and `lasting` take `Logic`. The rest assumes nothing.
use mathlib.Core.Path.{◌≡◌}
use Prim.Native.Nat.{ℕ, ◌<◌, ◌^◌}
use mathlib.Core.List.{List, [], ◌∷◌}
use lib.ListN.{length}
use seplogic.Ra.Ura.{Ura}
use mir.Syntax.{named}
use mir.Val.{Val, WT}
use base.Logic.{ent, guard}
use base.Fml.{Fml, ftrue, fsep, feq}
use types.Logic.{Logic, sem}
use contract.Lifetimes.{Lfts}
use types.Kit.{‵, ◌$◌, ◌∵◌, !, qed, move, check, fsplit, fjoin, feq_l, done}
use denote.RattleType.{RattleType, owns}
use denote.Laws.{Spells, Ises, Are, Tellss}
use denote.Builtin.{u8, u64}
use denote.Exit.{yes}
use denote.Ref.{MutBor}
use denote.Signature.{Slot, plain, mut_slice_of}
use denote.Slice.{slice_val, MutSlice, finally, mut_slice_vals, mut_slice_Tells}
use denote.Triple.End.{Kepts}
use denote.Triple.Walked.{Stays, gave_slice, AllGo, Goes-gave_slice}
use Rattle.logs.specs.Walking.{standing, Ready, StoodAt}

abbrev pub Lent : Type 0
Lent = MutBor (List ℕ) × (MutBor (List ℕ) × (MutBor (List ℕ) × Unit {0}))

abbrev pub Lists : Type 0
Lists = List ℕ × (List ℕ × (List ℕ × Unit {0}))

abbrev pub Asks : List ℕ → ℕ → Lent → Type 0
Asks s at xs = Ready s at (standing xs.0.now xs.1.0.now xs.1.1.0.now)

abbrev pub Leaves : List ℕ → ℕ → Lent → Lists → ℕ → Type 0
Leaves s at xs zs p = StoodAt s at (standing xs.0.now xs.1.0.now xs.1.1.0.now) (standing zs.0 zs.1.0 zs.1.1.0) p

-- At entry ---------------------------------------------------------------------------------------------------------------------------------

abbrev pub word : MutBor (List ℕ) → Val
word x = slice_val x.ref_ptr (length x.now)

pub word_typed : (x : MutBor (List ℕ)) → length x.now < 2 ^ 64 → WT (word x)
word_typed x fits = (tt, (record { fits = fits }, tt))

abbrev pub words : Lent → List Val
words xs = word xs.0 ∷ word xs.1.0 ∷ word xs.1.1.0 ∷ []

abbrev pub vals : Lent → List Val × (List Val × (List Val × Unit {0}))
vals xs = (word xs.0 ∷ [], (word xs.1.0 ∷ [], (word xs.1.1.0 ∷ [], tt)))

abbrev pub muts : Lfts 4 → List RattleType
muts κs = MutSlice (named 1) κs.1.0 u8 ∷ MutSlice (named 2) κs.1.1.0 u8 ∷ MutSlice (named 3) κs.1.1.1.0 u64 ∷ []

abbrev pub lent : Lfts 4 → Lent → Fml
lent κs xs = owns (muts κs) xs (vals xs)

abbrev pub spells : (κs : Lfts 4) → Spells (muts κs)
spells κs = (mut_slice_vals, (mut_slice_vals, (mut_slice_vals, tt)))

pub tells : (κs : Lfts 4) → Tellss (muts κs) (Ises (muts κs)) (spells κs)
tells κs = (mut_slice_Tells (named 1) κs.1.0 u8, (mut_slice_Tells (named 2) κs.1.1.0 u8, (mut_slice_Tells (named 3) κs.1.1.1.0 u64, tt)))

abbrev pub WellTyped : Lent → Type 0
WellTyped xs = WT (word xs.0) × (WT (word xs.1.0) × WT (word xs.1.1.0))

pub well_typed : (κs : Lfts 4) (xs : Lent) → Are (muts κs) (Ises (muts κs)) xs (vals xs) → WellTyped xs
well_typed κs xs are = (word_typed xs.0 are.0.0.1.0, (word_typed xs.1.0 are.1.0.0.1.0, word_typed xs.1.1.0 are.1.1.0.0.1.0))

-- At exit ----------------------------------------------------------------------------------------------------------------------------------

-- the three as places of a signature
abbrev pub slots : List (Slot 4)
slots = mut_slice_of (1 ∷ []) tt (plain (λ _. u8)) ∷ mut_slice_of (2 ∷ []) tt (plain (λ _. u8)) ∷ mut_slice_of (3 ∷ []) tt (plain (λ _. u64)) ∷ []

abbrev pub kept : Kepts slots
kept = (yes, (yes, (yes, tt)))

abbrev pub gave : Stays slots kept
gave = (gave_slice (1 ∷ []) tt (plain (λ _. u8)), (gave_slice (2 ∷ []) tt (plain (λ _. u8)), (gave_slice (3 ∷ []) tt (plain (λ _. u64)), tt)))

abbrev pub finals : Lent → Lists → Fml
finals xs zs = fsep (finally u8 xs.0.ghost_name zs.0) (fsep (finally u8 xs.1.0.ghost_name zs.1.0) (fsep (finally u64 xs.1.1.0.ghost_name zs.1.1.0) ftrue))

abbrev pub SameLengths : Lent → Lists → Type 0
SameLengths xs zs =
    (length zs.0 ≡ length xs.0.now) × ((length zs.1.0 ≡ length xs.1.0.now) × ((length zs.1.1.0 ≡ length xs.1.1.0.now) × Unit {0}))

abbrev said : (R : RattleType) → MutBor (List R.Denot) → List R.Denot → Fml
said R x ws = fsep (finally R x.ghost_name ws) (feq ℕ (length ws) (length x.now))

abbrev pub ended : Lent → Lists → Fml
ended xs zs = fsep (said u8 xs.0 zs.0) (fsep (said u8 xs.1.0 zs.1.0) (fsep (said u64 xs.1.1.0 zs.1.1.0) ftrue))

module _ {M : Type 1} {𝓤 : Ura M} (𝓛 : Logic 𝓤) where
  pub gave_goes : AllGo 𝓛 4 slots kept gave
  gave_goes =
      (Goes-gave_slice 𝓛 4 1 tt (plain (λ _. u8)), (Goes-gave_slice 𝓛 4 2 tt (plain (λ _. u8)), (Goes-gave_slice 𝓛 4 3 tt (plain (λ _. u64)), tt)))

  pub lasting : (xs : Lent) (zs : Lists) → ent 𝓤 (sem 𝓛 (ended xs zs)) (guard 𝓤 (SameLengths xs zs) (sem 𝓛 (finals xs zs)))
  lasting xs zs =
      qed 𝓛 (‵ (ended xs zs) ∷ []) ∵ fsplit ! $ fsplit ! $ move ! (1 ∷ []) $ feq_l ! (λ l. move ! (1 ∷ []) $ fsplit ! $ fsplit ! $ move ! (1 ∷ []) $ feq_l ! (λ m.
      move ! (1 ∷ []) $ fsplit ! $ fsplit ! $ move ! (1 ∷ []) $ feq_l ! (λ n.
      -- [the counters' last list; true; the report's; the table's]
      check ! (l, (m, (n, tt))) $ fjoin ! $ move ! (1 ∷ 0 ∷ []) $ fjoin ! $ move ! (1 ∷ 0 ∷ []) $ fjoin ! $ done !)))
