-- The test of a table in code's order is the test of a good table.
use Prim.Native.Nat.{ℕ, zero, suc, ◌+◌, ◌-◌, ◌*◌, ◌≤◌, ◌<◌}
use mathlib.Core.Bool.{Bool, true, false, ◌&&◌, and_assoc}
use mathlib.Core.Path.{◌≡◌, refl, ap, sym, ◌∙◌}
use mathlib.Core.List.{List, [], ◌∷◌, map}
use native.Mathlib.Omega.{arith}
use lib.Dec.{eqb, leb}
use lib.ListN.{length, get_or, take, drop}
use lib.Seq.{get_or-drop, get_or-take}
use borrow.Author.Tests.{eqb-true, eqb-false, eq-eqb, ne_eqb, lt-ltb, lt-leb, leb-false}
use Rattle.laws.specs.Lists.{any, is_nil}
use Rattle.laws.specs.RecordsInLists.{record_at}
use Rattle.laws.proofs.Bools.{and-true, or-false, split}
use Rattle.octets.specs.Sizes.{head_size, task_size, tasks_at, table_size, nexuses_at, count_offset, aca_offset, run_offset, nexus_offset, tag_bound}
use Rattle.octets.proofs.Tags.{tag_low}
use Rattle.rules.specs.Tasks.{places, nexuses, same}
use Rattle.rules.specs.Well.{states_fit, fault_fits, distinct, too_high, well_formed}
use Rattle.rules.proofs.WellParts.{well_formed_parts}
use Rattle.records.specs.Numbers.{tag_in, aca_from}
use Rattle.records.specs.Records.{header_from, header_fits, task_from, task_fits}
use Rattle.records.specs.Tables.{count_in, Bytes, tasks_from, state_of, nexuses_fit, tasks_fit, unused_fit, good_table}
use Rattle.records.proofs.TaskRecords.{task_nexus_low}
use Rattle.records.proofs.Good.{length_tasks_from, length_pendings_from, header_good, bytes_drop, bytes_take}
use Rattle.decide.specs.OlderTasks.{no_older, behind_by, fits_by, fit_by}
use Rattle.decide.proofs.OlderTasks.{fit_walk}
use Rattle.rules.specs.Types.{Task, Allegiance}
use Rattle.decide.specs.declared.states.Older.{Older}
use Rattle.inspect.specs.TableTest.{used_fit, key_of, keys_from, keys_apart, table_test, records_fit}

-- Tests joined -----------------------------------------------------------------------------------------------------------------------------

and_swap : (a b c d : Bool) → a && (b && (c && d)) ≡ (a && c) && (b && d)
and_swap true true true d = refl
and_swap true true false d = refl
and_swap true false true d = refl
and_swap true false false d = refl
and_swap false b c d = refl

and_turn : (f u d : Bool) → f && (u && d) ≡ u && (d && f)
and_turn true true true = refl
and_turn true true false = refl
and_turn true false d = refl
and_turn false true true = refl
and_turn false true false = refl
and_turn false false d = refl

-- what the first test says may be used for the second
and_given : (a : Bool) {x y : Bool} → (a ≡ true → x ≡ y) → a && x ≡ a && y
and_given true h = h refl
and_given false h = refl

-- Used records -----------------------------------------------------------------------------------------------------------------------------

youngest : (n : ℕ) (l : List ℕ) → eqb n 0 ≡ is_nil (tasks_from n l)
unfolding tasks_from
youngest zero l = refl
youngest (suc n) l = ne_eqb (suc n) 0 (λ e. omega arith)

used_fit_is : (n : ℕ) (aca : Allegiance) (o : Older) (l : List ℕ) → used_fit n aca o l ≡ tasks_fit n l && fit_by aca o (tasks_from n l)
unfolding used_fit tasks_fit tasks_from
used_fit_is zero aca o l = refl
used_fit_is (suc n) aca o l =
    rw (used_fit_is n aca (behind_by (task_from (take task_size l)).attribute o) (drop task_size l), youngest n (drop task_size l))
    (and_swap (task_fits (take task_size l)) (fits_by aca o (task_from (take task_size l)) (is_nil (tasks_from n (drop task_size l)))) (tasks_fit n (drop task_size l))
    (fit_by aca (behind_by (task_from (take task_size l)).attribute o) (tasks_from n (drop task_size l))))

nexuses_low : (n : ℕ) (l : List ℕ) → tasks_fit n l ≡ true → any too_high (tasks_from n l) ≡ false
unfolding tasks_fit tasks_from
nexuses_low zero l e = refl
nexuses_low (suc n) l e =
    let o = and-true (task_fits (take task_size l)) (tasks_fit n (drop task_size l)) e in
    rw (lt-leb nexuses (get_or (take task_size l) nexus_offset 0) (task_nexus_low (take task_size l) o.0)) (nexuses_low n (drop task_size l) o.1)

-- Names as numbers -------------------------------------------------------------------------------------------------------------------------

abbrev big_tag : Task → Bool
big_tag t = leb tag_bound t.tag

tags_fit : (n : ℕ) (l : List ℕ) → Bytes l → any big_tag (tasks_from n l) ≡ false
unfolding tasks_from
tags_fit zero l b = refl
tags_fit (suc n) l b =
    rw (lt-leb tag_bound (tag_in (take task_size l)) (tag_low (take task_size l) (bytes_take l task_size b)))
    (tags_fit n (drop task_size l) (λ i. rw get_or-drop (b (task_size + i))))

keys_are : (n : ℕ) (l : List ℕ) → keys_from n l ≡ map key_of (tasks_from n l)
unfolding keys_from tasks_from
keys_are zero l = refl
keys_are (suc n) l = ap (λ (z : List ℕ). key_of (task_from (take task_size l)) ∷ z) (keys_are n (drop task_size l))

key_same : (t u : Task) → big_tag t ≡ false → big_tag u ≡ false → eqb (key_of t) (key_of u) ≡ same t.nexus t.tag u
key_same t u p q =
    split (same t.nexus t.tag u)
    (λ e.
    let o = and-true (eqb u.nexus t.nexus) (eqb u.tag t.tag) e in
    eq-eqb (key_of t) (key_of u)
    (omega (arith, eqb-true u.nexus t.nexus o.0, eqb-true u.tag t.tag o.1))
    ∙ sym e)
    (λ e. ne_eqb (key_of t) (key_of u) (λ k. apart_keys k e) ∙ sym e)
  where
    apart_keys : key_of t ≡ key_of u → same t.nexus t.tag u ≡ false → ⊥
    apart_keys k e =
        let gt = leb-false tag_bound t.tag p in
        let gu = leb-false tag_bound u.tag q in
        let n : u.nexus ≡ t.nexus = omega arith in
        let g : u.tag ≡ t.tag = omega arith in
        let both : same t.nexus t.tag u ≡ true = rw (eq-eqb u.nexus t.nexus n, eq-eqb u.tag t.tag g) in
        Rattle.laws.proofs.Bools.not_both both e

any_key : (t : Task) (us : List Task) → big_tag t ≡ false → any big_tag us ≡ false → any (eqb (key_of t)) (map key_of us) ≡ any (same t.nexus t.tag) us
any_key t [] p q = refl
any_key t (u ∷ us) p q =
    let o = or-false (big_tag u) (any big_tag us) q in
    rw (key_same t u p o.0, any_key t us p o.1)

apart_keys : (ts : List Task) → any big_tag ts ≡ false → keys_apart (map key_of ts) ≡ distinct ts
unfolding keys_apart
apart_keys [] q = refl
apart_keys (t ∷ ts) q =
    let o = or-false (big_tag t) (any big_tag ts) q in
    rw (any_key t ts o.0 o.1, apart_keys ts o.1)

-- The table --------------------------------------------------------------------------------------------------------------------------------

aca_fits : (n : ℕ) → n ≤ nexuses → fault_fits (aca_from n) ≡ true
aca_fits n h = split (eqb n 0) (λ e. rw e) (λ e. rw e (lt-ltb (n - 1) nexuses (omega (arith, eqb-false n 0 e))))

-- with its records good, a table is well formed if names and states are
well_is :
    (b : List ℕ) → length b ≡ table_size → header_fits (record_at head_size b 0) ≡ true → tasks_fit (count_in b) (drop tasks_at b) ≡ true
    → well_formed (state_of b)
    ≡ distinct (tasks_from (count_in b) (drop tasks_at b))
    && states_fit (header_from (record_at head_size b 0)).aca (tasks_from (count_in b) (drop tasks_at b))
unfolding state_of
well_is b long h t =
    let n = count_in b in
    let f = header_good b (omega arith) h in
    let byte : (i : ℕ) → i < head_size → get_or (record_at head_size b 0) i 0 ≡ get_or b i 0 = λ i l. get_or-take head_size b i 0 l in
    well_formed_parts (state_of b)
    (omega (arith, f.3, byte run_offset (omega arith)))
    (omega (arith, f.1, length_tasks_from n (drop tasks_at b)))
    (byte count_offset (omega arith) ∙ sym (length_tasks_from n (drop tasks_at b)))
    (length_pendings_from nexuses (drop nexuses_at b))
    (aca_fits (get_or (record_at head_size b 0) aca_offset 0) (omega (arith, f.2, byte aca_offset (omega arith))))
    (nexuses_low n (drop tasks_at b) t)

-- code's test is the one of RULES 17.3
pub table_test_is : (b : List ℕ) → Bytes b → table_test b ≡ good_table b
unfolding table_test good_table
table_test_is b by =
    and_given (eqb (length b) table_size)
    (λ l.
    and_given (header_fits (record_at head_size b 0))
    (λ h.
    and_given (nexuses_fit 0 nexuses (drop nexuses_at b))
    (λ x.
    let n = count_in b in
    let aca = (header_from (record_at head_size b 0)).aca in
    let ts = tasks_from n (drop tasks_at b) in
    let u = unused_fit (places - n) (drop (tasks_at + task_size * n) b) in
    let names : keys_apart (keys_from n (drop tasks_at b)) ≡ distinct ts =
    ap keys_apart (keys_are n (drop tasks_at b)) ∙ apart_keys ts (tags_fit n (drop tasks_at b) (bytes_drop b tasks_at by))
    in
    let used : used_fit n aca no_older (drop tasks_at b) ≡ tasks_fit n (drop tasks_at b) && states_fit aca ts =
    used_fit_is n aca no_older (drop tasks_at b) ∙ ap (λ (z : Bool). tasks_fit n (drop tasks_at b) && z) (fit_walk aca ts)
    in
    ap (λ (z : Bool). z && (u && keys_apart (keys_from n (drop tasks_at b)))) used
    ∙ ap (λ (z : Bool). (tasks_fit n (drop tasks_at b) && states_fit aca ts) && (u && z)) names
    ∙ and_assoc (tasks_fit n (drop tasks_at b)) (states_fit aca ts) (u && distinct ts)
    ∙ and_given (tasks_fit n (drop tasks_at b))
    (λ t.
    and_turn (states_fit aca ts) u (distinct ts)
    ∙ ap (λ (z : Bool). u && z) (sym (well_is b (eqb-true (length b) table_size l) h t))))))

-- What code knows at each of its answers, over the header record that it read -------------------------------------------------------------

module _ (b r : List ℕ) (read : r ≡ record_at head_size b 0) where
  count_read : get_or r count_offset 0 ≡ count_in b
  count_read = rw read (get_or-take head_size b count_offset 0 (omega arith))

  pub count_fits : length b ≡ table_size → header_fits r ≡ true → get_or r count_offset 0 ≤ places
  count_fits long h =
      omega (arith, count_read, (header_good b (omega arith) (rw read at h)).1)

  pub by_tests :
      Bytes b → (x : Bool) → x ≡ eqb (length b) table_size && (header_fits r && records_fit (get_or r count_offset 0) (header_from r).aca b)
      → x ≡ good_table b
  unfolding table_test
  by_tests by x e =
      let F : List ℕ → ℕ → Bool = λ q n. eqb (length b) table_size && (header_fits q && records_fit n (header_from q).aca b) in
      e ∙ ap (λ (n : ℕ). F r n) count_read ∙ ap (λ (q : List ℕ). F q (count_in b)) read ∙ table_test_is b by
