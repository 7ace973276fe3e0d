-- A good table is the writing of the state that it says, and the writing of a well-formed state is a good table.
use Prim.Native.Nat.{ℕ, zero, suc, ◌+◌, ◌-◌, ◌*◌, ◌≤◌, ◌<◌}
use mathlib.Core.Bool.{true}
use mathlib.Core.Path.{◌≡◌, refl, ap, sym, ◌∙◌}
use mathlib.Core.List.{List, [], ◌∷◌, ◌++◌, append_assoc, append-nil}
use native.Mathlib.Omega.{arith}
use native.Mathlib.Nat.{mul-suc}
use native.Mathlib.Numerals.{add-one}
use lib.Dec.{eqb, ltb, leb}
use lib.ListN.{length, get_or, take, drop, length-drop, take-append-drop, drop_of_length-le}
use lib.Seq.{drop-drop, get_or-drop}
use borrow.Author.Tests.{eqb-true, eq-eqb, ltb-true, leb-true}
use Rattle.laws.specs.RecordsInLists.{record_at, joined}
use Rattle.laws.proofs.Bools.{and-true}
use Rattle.octets.specs.Sizes.{head_size, nexus_size, task_size, nexuses_at, tasks_at, table_size, count_offset, aca_offset, run_offset}
use Rattle.octets.proofs.Widths.{tabled, take_bytes}
use Rattle.values.specs.Headers.{most_run}
use Rattle.rules.specs.Tasks.{places, nexuses}
use Rattle.rules.specs.Well.{well_formed}
use Rattle.rules.proofs.WellKept.{Tested, to_tested}
use Rattle.records.specs.Numbers.{tag_in, attribute_fits, state_fits, policy_fits, pending_fits}
use Rattle.records.specs.Records.{header_bytes, header_from, header_fits, nexus_bytes, nexus_fits, pending_in, task_bytes, task_from, task_fits, unused_bytes, unused_fits}
use Rattle.records.specs.Tables.{Bytes, tasks_from, pendings_from, count_in, state_of, nexus_records, unused_records, table_with, table_bytes, nexuses_fit, tasks_fit, unused_fit, good_table}
use Rattle.records.proofs.Values.{attribute_good, state_good, flag_good, aca_good, policy_good, pending_good}
use Rattle.octets.proofs.Tags.{tag_good, tag_none}

-- One record -------------------------------------------------------------------------------------------------------------------------------

-- a record of its kind, byte by byte, is the record of the value that it says
module _ (a0 a1 a2 a3 a4 a5 a6 a7 : ℕ) where
  abbrev untagged : List ℕ
  untagged = a0 ∷ a1 ∷ a2 ∷ a3 ∷ a4 ∷ a5 ∷ a6 ∷ a7 ∷ []

  -- and the ranges of a header's fields
  header_bytes_good :
      header_fits untagged ≡ true → (header_bytes (header_from untagged) ≡ untagged) × (a4 ≤ places) × (a5 ≤ nexuses) × (a6 ≤ most_run)
  header_bytes_good e =
      let o7 = and-true _ (eqb a7 0) e in
      let o6 = and-true _ (leb a6 most_run) o7.0 in
      let o5 = and-true _ (leb a5 nexuses) o6.0 in
      let o4 = and-true _ (leb a4 places) o5.0 in
      let o3 = and-true _ (policy_fits a3) o4.0 in
      let o2 = and-true _ (eqb a2 1) o3.0 in
      let o1 = and-true (eqb a0 0x54) (eqb a1 0x48) o2.0 in (
        rw (eqb-true a0 0x54 o1.0, eqb-true a1 0x48 o1.1, eqb-true a2 1 o2.1, eqb-true a7 0 o7.1, policy_good a3 o3.1, aca_good a5),
        leb-true a4 places o4.1,
        leb-true a5 nexuses o5.1,
        leb-true a6 most_run o6.1,
      )

  nexus_bytes_good : (i : ℕ) → nexus_fits i untagged ≡ true → nexus_bytes i (pending_in untagged) 0 ≡ untagged
  nexus_bytes_good i e =
      let o7 = and-true _ (eqb a7 0) e in
      let o6 = and-true _ (eqb a6 0) o7.0 in
      let o5 = and-true _ (eqb a5 0) o6.0 in
      let o4 = and-true _ (eqb a4 0) o5.0 in
      let o3 = and-true _ (pending_fits a3) o4.0 in
      let o2 = and-true _ (eqb a2 i) o3.0 in
      let o1 = and-true (eqb a0 0x54) (eqb a1 0x4E) o2.0 in
      rw (pending_good a3 o3.1, eqb-true a0 0x54 o1.0, eqb-true a1 0x4E o1.1, eqb-true a2 i o2.1, eqb-true a4 0 o4.1, eqb-true a5 0 o5.1, eqb-true a6 0 o6.1, eqb-true a7 0 o7.1)

module _ (f : ℕ → ℕ) where
  abbrev tagged : List ℕ
  tagged = tabled task_size f

  task_bytes_good : ((i : ℕ) → f i < 256) → task_fits tagged ≡ true → task_bytes (task_from tagged) ≡ tagged
  task_bytes_good bytes e =
      let o5 = and-true _ (ltb (f 5) 2) e in
      let o4 = and-true _ (state_fits (f 4)) o5.0 in
      let o3 = and-true _ (attribute_fits (f 3)) o4.0 in
      let o2 = and-true _ (ltb (f 2) nexuses) o3.0 in
      let o1 = and-true (eqb (f 0) 0x54) (eqb (f 1) 0x54) o2.0 in
      rw (attribute_good (f 3) o3.1, state_good (f 4) o4.1, flag_good (f 5) (ltb-true (f 5) 2 o5.1), tag_good f bytes, eqb-true (f 0) 0x54 o1.0, eqb-true (f 1) 0x54 o1.1)

  unused_bytes_good : unused_fits tagged ≡ true → unused_bytes ≡ tagged
  unused_bytes_good e =
      let o6 = and-true _ (eqb (tag_in tagged) 0) e in
      let o5 = and-true _ (eqb (f 5) 0) o6.0 in
      let o4 = and-true _ (eqb (f 4) 0) o5.0 in
      let o3 = and-true _ (eqb (f 3) 0) o4.0 in
      let o2 = and-true _ (eqb (f 2) 0) o3.0 in
      let o1 = and-true (eqb (f 0) 0x54) (eqb (f 1) 0x54) o2.0 in
      rw (eqb-true (f 0) 0x54 o1.0, eqb-true (f 1) 0x54 o1.1, eqb-true (f 2) 0 o2.1, eqb-true (f 3) 0 o3.1, eqb-true (f 4) 0 o4.1, eqb-true (f 5) 0 o5.1, ← tag_none f (eqb-true (tag_in tagged) 0 o6.1))

-- the same of the first bytes of a list
by_bytes : (w : ℕ) (P : List ℕ → Type 0) (l : List ℕ) → w ≤ length l → P (tabled w (λ i. get_or l i 0)) → P (take w l)
by_bytes w P l h p = rw (take_bytes w l h) p

module _ (l : List ℕ) where
  abbrev HeaderGood : List ℕ → Type 0
  HeaderGood r = (header_bytes (header_from r) ≡ r) × (get_or l count_offset 0 ≤ places) × (get_or l aca_offset 0 ≤ nexuses) × (get_or l run_offset 0 ≤ most_run)

  pub header_good : head_size ≤ length l → header_fits (take head_size l) ≡ true → HeaderGood (take head_size l)
  header_good long = by_bytes head_size (λ r. header_fits r ≡ true → HeaderGood r) l long (header_bytes_good _ _ _ _ _ _ _ _)

  pub nexus_good : nexus_size ≤ length l → (i : ℕ) → nexus_fits i (take nexus_size l) ≡ true → nexus_bytes i (pending_in (take nexus_size l)) 0 ≡ take nexus_size l
  nexus_good long i = by_bytes nexus_size (λ r. nexus_fits i r ≡ true → nexus_bytes i (pending_in r) 0 ≡ r) l long (nexus_bytes_good _ _ _ _ _ _ _ _ i)

  pub task_good : task_size ≤ length l → Bytes l → task_fits (take task_size l) ≡ true → task_bytes (task_from (take task_size l)) ≡ take task_size l
  task_good long b = by_bytes task_size (λ r. task_fits r ≡ true → task_bytes (task_from r) ≡ r) l long (task_bytes_good (λ i. get_or l i 0) b)

  pub unused_good : task_size ≤ length l → unused_fits (take task_size l) ≡ true → unused_bytes ≡ take task_size l
  unused_good long = by_bytes task_size (λ r. unused_fits r ≡ true → unused_bytes ≡ r) l long (unused_bytes_good (λ i. get_or l i 0))

-- Many records -----------------------------------------------------------------------------------------------------------------------------

pub bytes_drop : (l : List ℕ) (n : ℕ) → Bytes l → Bytes (drop n l)
bytes_drop l n b i = rw (get_or-drop) (b (n + i))

pub bytes_take : (l : List ℕ) (n : ℕ) → Bytes l → Bytes (take n l)
bytes_take l zero b i = omega arith
bytes_take [] (suc n) b i = b i
bytes_take (x ∷ l) (suc n) b zero = b 0
bytes_take (x ∷ l) (suc n) b (suc i) = bytes_take l n (λ j. b (suc j)) i

-- one record of width w written, and the rest of the list as it was
one_more : (w : ℕ) (r written l : List ℕ) (n : ℕ) → r ≡ take w l → written ++ drop (w * n) (drop w l) ≡ drop w l
    → (r ++ written) ++ drop (w * suc n) l ≡ l
one_more w r written l n p q =
    let more : w * suc n ≡ w + w * n = rw mul-suc (omega arith) in
    let e : drop (w * suc n) l ≡ drop (w * n) (drop w l) = ap (λ (k : ℕ). drop k l) more ∙ sym (drop-drop (w * n) w l) in
    rw (e, p, append_assoc, q) (take-append-drop w l)

nexuses_good :
    (n i : ℕ) (l : List ℕ) → nexus_size * n ≤ length l → nexuses_fit i n l ≡ true
    → nexus_records (λ j. 0) i (pendings_from n l) ++ drop (nexus_size * n) l ≡ l
unfolding nexuses_fit nexus_records pendings_from
nexuses_good zero i l h e = refl
nexuses_good (suc n) i l h e =
    let o = and-true (nexus_fits i (take nexus_size l)) (nexuses_fit (i + 1) n (drop nexus_size l)) e in
    one_more nexus_size _ (nexus_records (λ j. 0) (suc i) (pendings_from n (drop nexus_size l))) l n (nexus_good l (omega arith) i o.0)
    (nexuses_good n (suc i) (drop nexus_size l) (simp length-drop (omega arith)) (rw add-one at o.1))

tasks_good :
    (n : ℕ) (l : List ℕ) → Bytes l → task_size * n ≤ length l → tasks_fit n l ≡ true → joined task_bytes (tasks_from n l) ++ drop (task_size * n) l ≡ l
unfolding tasks_fit tasks_from
tasks_good zero l b h e = refl
tasks_good (suc n) l b h e =
    let o = and-true (task_fits (take task_size l)) (tasks_fit n (drop task_size l)) e in
    one_more task_size _ (joined task_bytes (tasks_from n (drop task_size l))) l n (task_good l (omega arith) b o.0)
    (tasks_good n (drop task_size l) (bytes_drop l task_size b) (simp length-drop (omega arith)) o.1)

unused_all : (n : ℕ) (l : List ℕ) → task_size * n ≤ length l → unused_fit n l ≡ true → unused_records n ++ drop (task_size * n) l ≡ l
unfolding unused_fit unused_records
unused_all zero l h e = refl
unused_all (suc n) l h e =
    let o = and-true (unused_fits (take task_size l)) (unused_fit n (drop task_size l)) e in
    one_more task_size _ (unused_records n) l n (unused_good l (omega arith) o.0)
    (unused_all n (drop task_size l) (simp length-drop (omega arith)) o.1)

pub length_tasks_from : (n : ℕ) (l : List ℕ) → length (tasks_from n l) ≡ n
unfolding tasks_from
length_tasks_from zero l = refl
length_tasks_from (suc n) l = ap suc (length_tasks_from n (drop task_size l))

pub length_pendings_from : (n : ℕ) (l : List ℕ) → length (pendings_from n l) ≡ n
unfolding pendings_from
length_pendings_from zero l = refl
length_pendings_from (suc n) l = ap suc (length_pendings_from n (drop nexus_size l))

-- The table --------------------------------------------------------------------------------------------------------------------------------

-- the test, taken apart
pub record TableTested (b : List ℕ) : Type 0 where
  pub long : length b ≡ table_size
  pub header : header_fits (record_at head_size b 0) ≡ true
  pub nexus_records_lem : nexuses_fit 0 nexuses (drop nexuses_at b) ≡ true
  pub used : tasks_fit (count_in b) (drop tasks_at b) ≡ true
  pub unused : unused_fit (places - count_in b) (drop (tasks_at + task_size * count_in b) b) ≡ true
  pub well : well_formed (state_of b) ≡ true

pub table_tested : (b : List ℕ) → good_table b ≡ true → TableTested b
unfolding good_table
table_tested b e =
    let o1 = and-true (eqb (length b) table_size) _ e in
    let o2 = and-true (header_fits (record_at head_size b 0)) _ o1.1 in
    let o3 = and-true (nexuses_fit 0 nexuses (drop nexuses_at b)) _ o2.1 in
    let o4 = and-true (tasks_fit (count_in b) (drop tasks_at b)) _ o3.1 in
    let o5 = and-true (unused_fit (places - count_in b) (drop (tasks_at + task_size * count_in b) b)) (well_formed (state_of b)) o4.1 in
    record {
      long = eqb-true (length b) table_size o1.0;
      header = o2.0;
      nexus_records_lem = o3.0;
      used = o4.0;
      unused = o5.0;
      well = o5.1;
    }

-- the state that a good table says passes the test of well-formed states
pub good_tested : (b : List ℕ) → good_table b ≡ true → Tested (state_of b)
good_tested b e = to_tested (state_of b) (table_tested b e).well

pub tested_table : (b : List ℕ) → TableTested b → good_table b ≡ true
unfolding good_table
tested_table b w =
    rw (eq-eqb (length b) table_size w.long, w.header, w.nexus_records_lem, w.used, w.unused, w.well)

-- a good table is the writing of the state that it says
pub table_good : (b : List ℕ) → Bytes b → good_table b ≡ true → table_bytes (state_of b) ≡ b
unfolding table_bytes table_with state_of
table_good b by e =
    let w = table_tested b e in
    let n = count_in b in
    let hd = header_good b (omega (arith, w.long)) w.header in
    let nx : nexus_records (λ j. 0) 0 (pendings_from nexuses (drop nexuses_at b)) ++ drop (nexus_size * nexuses) (drop nexuses_at b) ≡ drop nexuses_at b =
    nexuses_good nexuses 0 (drop nexuses_at b) (simp length-drop (omega (arith, w.long))) w.nexus_records_lem
    in
    let ts : joined task_bytes (tasks_from n (drop tasks_at b)) ++ drop (task_size * n) (drop tasks_at b) ≡ drop tasks_at b =
    tasks_good n (drop tasks_at b) (bytes_drop b tasks_at by) (simp length-drop (omega (arith, w.long))) w.used
    in
    let un : unused_records (places - n) ≡ drop (task_size * n) (drop tasks_at b) = last n hd.1 w.long w.unused in
    let P = nexus_records (λ j. 0) 0 (pendings_from nexuses (drop nexuses_at b)) in
    let T = tasks_from n (drop tasks_at b) in
    ap (λ (z : List ℕ). z ++ (P ++ (joined task_bytes T ++ unused_records (places - length T)))) hd.0
    ∙ ap (λ (m : ℕ). take head_size b ++ (P ++ (joined task_bytes T ++ unused_records (places - m)))) (length_tasks_from n (drop tasks_at b))
    ∙ ap (λ (z : List ℕ). take head_size b ++ (P ++ (joined task_bytes T ++ z))) un
    ∙ ap (λ (z : List ℕ). take head_size b ++ (P ++ z)) (ts ∙ sym (drop-drop (nexus_size * nexuses) nexuses_at b))
    ∙ ap (λ (z : List ℕ). take head_size b ++ z) nx
    ∙ take-append-drop head_size b
  where
    last :
        (n : ℕ) → n ≤ places → length b ≡ table_size → unused_fit (places - n) (drop (tasks_at + task_size * n) b) ≡ true
        → unused_records (places - n) ≡ drop (task_size * n) (drop tasks_at b)
    last n few long fit =
        let l = drop (tasks_at + task_size * n) b in
        let size : length l ≡ task_size * (places - n) = simp length-drop (omega arith) in
        sym (append-nil (unused_records (places - n)))
        ∙ ap (λ (z : List ℕ). unused_records (places - n) ++ z) (sym (drop_of_length-le l {i = task_size * (places - n)} (omega arith)))
        ∙ unused_all (places - n) l (omega arith) fit
        ∙ sym (drop-drop (task_size * n) tasks_at b)
