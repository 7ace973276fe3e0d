-- One turn of a loop over the records of a table: the next record, and those behind it.
use Prim.Native.Nat.{ℕ, suc, ◌+◌, ◌-◌, ◌*◌, ◌<◌}
use mathlib.Core.Bool.{true, ◌&&◌}
use mathlib.Core.Path.{◌≡◌, refl, sym, ◌∙◌}
use mathlib.Core.List.{List, ◌∷◌}
use native.Mathlib.Nat.{mul-suc}
use native.Mathlib.Numerals.{add-one}
use native.Mathlib.Omega.{arith}
use borrow.Author.Tests.{eq-eqb, ne_eqb, eqb-true, eqb-false}
use lib.Dec.{eqb}
use lib.ListN.{take, drop}
use lib.Seq.{drop-drop}
use Rattle.laws.specs.RecordsInLists.{record_at}
use Rattle.laws.proofs.Bools.{split}
use Rattle.rules.specs.Tasks.{places, nexuses}
use Rattle.records.specs.Records.{nexus_size, task_size, task_from, task_fits, nexus_fits, unused_fits}
use Rattle.records.specs.Tables.{nexuses_at, tasks_at, nexuses_fit, unused_fit}
use Rattle.decide.specs.OlderTasks.{behind_by, fits_by}
use Rattle.rules.specs.Types.{Allegiance}
use Rattle.decide.specs.declared.states.Older.{Older}
use Rattle.inspect.specs.TableTest.{used_fit, key_of, keys_from}

-- what hangs on the records from the i-th on hangs on that one and those behind it
next :
    {A : Type 0} (w : ℕ) (F : ℕ → List ℕ → A) (H : ℕ → List ℕ → List ℕ → A)
    → ((k : ℕ) (l : List ℕ) → F (suc k) l ≡ H k (take w l) (drop w l))
    → (t : List ℕ) (at n i : ℕ) → i < n
    → F (n - i) (drop (at + w * i) t) ≡ H (n - (i + 1)) (record_at w t (at + w * i)) (drop (at + w * (i + 1)) t)
next w F H one t at n i h =
    let e : n - i ≡ suc (n - (i + 1)) = omega arith in
    let m : w * (i + 1) ≡ w * i + w = rw add-one (mul-suc w i) in
    let f : at + w * (i + 1) ≡ at + w * i + w = omega arith in
    rw (e, f, ← drop-drop w (at + w * i) t) (one (n - (i + 1)) (drop (at + w * i) t))

pub nexuses_next :
    (t : List ℕ) (i : ℕ) → i < nexuses
    → nexuses_fit i (nexuses - i) (drop (nexuses_at + nexus_size * i) t)
    ≡ (nexus_fits i (record_at nexus_size t (nexuses_at + nexus_size * i)) && nexuses_fit (i + 1) (nexuses - (i + 1)) (drop (nexuses_at + nexus_size * (i + 1)) t))
unfolding nexuses_fit
nexuses_next t i = next nexus_size (nexuses_fit i) (λ k r l. nexus_fits i r && nexuses_fit (i + 1) k l) (λ k l. refl) t nexuses_at nexuses i

pub nexuses_end : (i : ℕ) (l : List ℕ) → nexuses_fit i 0 l ≡ true
unfolding nexuses_fit
nexuses_end i l = refl

pub unused_next :
    (t : List ℕ) (i : ℕ) → i < places
    → unused_fit (places - i) (drop (tasks_at + task_size * i) t)
    ≡ (unused_fits (record_at task_size t (tasks_at + task_size * i)) && unused_fit (places - (i + 1)) (drop (tasks_at + task_size * (i + 1)) t))
unfolding unused_fit
unused_next t i = next task_size unused_fit (λ k r l. unused_fits r && unused_fit k l) (λ k l. refl) t tasks_at places i

pub unused_end : (l : List ℕ) → unused_fit 0 l ≡ true
unfolding unused_fit
unused_end l = refl

module _ (t : List ℕ) (n i : ℕ) (h : i < n) where
  pub keys_next :
      keys_from (n - i) (drop (tasks_at + task_size * i) t)
      ≡ key_of (task_from (record_at task_size t (tasks_at + task_size * i))) ∷ keys_from (n - (i + 1)) (drop (tasks_at + task_size * (i + 1)) t)
  unfolding keys_from
  keys_next = next task_size keys_from (λ k r l. key_of (task_from r) ∷ keys_from k l) (λ k l. refl) t tasks_at n i h

  -- the youngest is the one behind which none is left
  youngest : eqb (n - (i + 1)) 0 ≡ eqb (i + 1) n
  youngest =
      split (eqb (i + 1) n)
      (λ e. let f = eqb-true (i + 1) n e in eq-eqb (n - (i + 1)) 0 (omega arith) ∙ sym e)
      (λ e. ne_eqb (n - (i + 1)) 0 (λ z. eqb-false (i + 1) n e (omega arith)) ∙ sym e)

  pub used_next :
      (aca : Allegiance) (o : Older)
      → used_fit (n - i) aca o (drop (tasks_at + task_size * i) t)
      ≡ (task_fits (record_at task_size t (tasks_at + task_size * i))
      && (fits_by aca o (task_from (record_at task_size t (tasks_at + task_size * i))) (eqb (i + 1) n)
      && used_fit (n - (i + 1)) aca (behind_by (task_from (record_at task_size t (tasks_at + task_size * i))).attribute o) (drop (tasks_at + task_size * (i + 1)) t)))
  unfolding used_fit
  used_next aca o =
      rw (← youngest)
      (next task_size (λ k l. used_fit k aca o l)
      (λ k r l. task_fits r && (fits_by aca o (task_from r) (eqb k 0) && used_fit k aca (behind_by (task_from r).attribute o) l))
      (λ k l. refl) t tasks_at n i h)
