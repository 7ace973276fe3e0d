-- What bytes say of the event, the report and the table that they write: kinds and names.
use Rattle.std.specs.Prelude.{Option, Some, None}
use Prim.Native.Nat.{ℕ, zero, suc, ◌+◌, ◌<◌}
use mathlib.Core.Bool.{Bool, false, ◌||◌, not}
use mathlib.Core.Path.{◌≡◌, refl, ap, sym, ◌∙◌}
use mathlib.Core.List.{List, [], ◌∷◌, ◌++◌, map}
use native.Mathlib.Omega.{arith}
use lib.Dec.{eqb}
use lib.ListN.{length, get_or, take, drop, replicate}
use borrow.Author.Tests.{eqb-true}
use Rattle.laws.specs.Lists.{one_if, any, count}
use Rattle.laws.specs.RecordsInLists.{record_at, joined}
use Rattle.laws.proofs.RecordsInLists.{record_byte, walked_at}
use Rattle.laws.proofs.Bools.{or-false, cases}
use Rattle.octets.specs.Sizes.{policy_offset, aca_offset, run_offset, first_offset, second_offset, tag_offset, attribute_offset}
use Rattle.rules.specs.Tasks.{is_head}
use Rattle.rules.specs.Rulings.{State, task_name, ended_name}
use Rattle.rules.specs.Rules.{attribute_of, new_task, status_of}
use Rattle.rules.proofs.NewTasks.{new_task_attribute}
use Rattle.rules.proofs.WellKept.{Tested}
use Rattle.records.specs.Numbers.{attribute_number, attribute_fits, attribute_from, aca_number, aca_from, policy_from, tag_in, tag_bytes}
use Rattle.records.specs.Records.{head_size, task_size, task_from, ended_bytes}
use Rattle.records.specs.Tables.{tasks_at, count_in, tasks_from, state_of, table_bytes, report_bytes}
use Rattle.records.specs.Events.{event_of, asked_number, second_number, SpareAttribute}
use Rattle.records.proofs.Values.{attribute_back, aca_good}
use Rattle.records.proofs.Good.{length_tasks_from}
use Rattle.history.specs.History.{nobody}
use Rattle.history.specs.Waits.{heads_among, others_among}
use Rattle.octets.proofs.Tags.{tag_back}
use Rattle.records.proofs.ReadBack.{state_back_again}
use Rattle.records.proofs.EventsSay.{event_fields}
use Rattle.rules.specs.Types.{Attribute, Task, Entry, Finish, Command, Completion, Management, Condition, Ended, Named, Event}
use Rattle.demands.specs.Seen.{kind_of, event_name, names_from, task_at, attributes_from, heads_in, others_in, present_in}

-- Events -----------------------------------------------------------------------------------------------------------------------------------

name_of : {n m g k : ℕ} → n ≡ m → tag_in (replicate tag_offset 0 ++ tag_bytes g) ≡ tag_in (replicate tag_offset 0 ++ tag_bytes k)
    → ◌≡◌ {A = Named} (record { nexus = n; tag = g }) (record { nexus = m; tag = k })
name_of {g = g} {k = k} p t = let q : g ≡ k = sym (tag_back g) ∙ t ∙ tag_back k in λ i. record { nexus = p i; tag = q i }

-- by what is read: the record's kind, and whom it names
abbrev pub Reads : Option Event → List ℕ → Type 0
Reads None e = Unit {0}
Reads (Some (Command c)) e = (kind_of e ≡ 1) × (event_name e ≡ record { nexus = c.nexus; tag = c.tag })
Reads (Some (Completion n g f)) e = (kind_of e ≡ 2) × (event_name e ≡ record { nexus = n; tag = g })
Reads (Some (Management n f)) e = kind_of e ≡ 3
Reads (Some (Condition h)) e = kind_of e ≡ 4

-- RULES 14.2: the byte of HEAD OF QUEUE
pub head_byte : (n : ℕ) → is_head (attribute_from n) ≡ eqb n 1
head_byte n =
    cases (λ a. is_head a ≡ eqb n 1) (eqb n 0) (λ e. rw (eqb-true n 0 e))
    (λ z.
    cases (λ a. is_head a ≡ eqb n 1) (eqb n 1) (λ e. sym e) (λ o. cases (λ a. is_head a ≡ eqb n 1) (eqb n 2) (λ e. sym o) (λ e. sym o)))

unfit : (n : ℕ) → attribute_fits n ≡ false → eqb n 1 ≡ false
unfit n e = (or-false (eqb n 0) (eqb n 1) (or-false (eqb n 0 || eqb n 1) (eqb n 2) (or-false _ (eqb n 4) e).0).0).1

module _ (e : List ℕ) where
  field : (i : ℕ) {l k : List ℕ} → l ≡ k → get_or l i 0 ≡ get_or k i 0
  field i q = ap (λ (b : List ℕ). get_or b i 0) q

  pub event_reads : (o : Option Event) → event_of e ≡ o → Reads o e
  event_reads None q = tt
  event_reads (Some (Command c)) q =
      let l = (event_fields e (Command c) q).1 in (field 2 l, name_of (field 3 l) (ap tag_in l))
  event_reads (Some (Completion n g f)) q =
      let l = (event_fields e (Completion n g f) q).1 in (field 2 l, name_of (field 3 l) (ap tag_in l))
  event_reads (Some (Management n f)) q = field 2 (event_fields e (Management n f) q).1
  event_reads (Some (Condition h)) q = field 2 (event_fields e (Condition h) q).1

  -- the status, of a completion
  pub status_brought : (n g : ℕ) (f : Finish) → event_of e ≡ Some (Completion n g f) → get_or e first_offset 0 ≡ status_of f
  status_brought n g f q = field 4 (event_fields e (Completion n g f) q).1

  -- NACA and exempt, of a command
  pub second_asked : (c : Entry) → event_of e ≡ Some (Command c) → get_or e second_offset 0 ≡ second_number c
  second_asked c q = field 5 (event_fields e (Command c) q).1

  -- the byte of a known attribute
  pub known_asked : (c : Entry) (t : Attribute) → event_of e ≡ Some (Command c) → c.asked ≡ Some t → get_or e first_offset 0 ≡ attribute_number t
  known_asked c t q z = field 4 (event_fields e (Command c) q).1 ∙ ap (asked_number (get_or e first_offset 0)) z

  -- RULES 14.2: only the byte 1 lets a HEAD OF QUEUE task in
  pub head_asked : (c : Entry) → event_of e ≡ Some (Command c) → is_head (new_task c).attribute ≡ eqb (get_or e first_offset 0) 1
  head_asked c q =
      let l = event_fields e (Command c) q in ap is_head (new_task_attribute c) ∙ go c.asked l.0 (field 4 l.1)
    where
      go : (a : Option Attribute) → SpareAttribute (get_or e 4 0) a → get_or e 4 0 ≡ asked_number (get_or e 4 0) a → is_head (attribute_of a) ≡ eqb (get_or e 4 0) 1
      go (Some t) s z = ap is_head (sym (attribute_back t)) ∙ head_byte (attribute_number t) ∙ ap (λ n. eqb n 1) (sym z)
      go None s z = sym (unfit (get_or e 4 0) s)

-- Reports ----------------------------------------------------------------------------------------------------------------------------------

names_back : (es : List Ended) (rest : List ℕ) → names_from (length es) (joined ended_bytes es ++ rest) ≡ map ended_name es
names_back [] rest = refl
names_back (e ∷ es) rest =
    λ i. record { nexus = e.nexus; tag = tag_back e.tag i } ∷ names_back es rest i

pub report_names : (es : List Ended) → names_from (length es) (report_bytes es) ≡ map ended_name es
unfolding report_bytes
report_names es = names_back es _

-- Tables -----------------------------------------------------------------------------------------------------------------------------------

pub any_at : {A : Type 0} (p : A → Bool) (d : A) (xs : List A) (i : ℕ) → any p xs ≡ false → i < length xs → p (get_or xs i d) ≡ false
any_at p d [] i e h = absurd (omega arith)
any_at p d (x ∷ xs) zero e h = (or-false (p x) (any p xs) e).0
any_at p d (x ∷ xs) (suc i) e h = any_at p d xs i (or-false (p x) (any p xs) e).1 (omega arith)

module _ (b : List ℕ) where
  pub count_is : length (state_of b).tasks ≡ count_in b
  unfolding state_of
  count_is = length_tasks_from (count_in b) (drop tasks_at b)

  pub task_is : (i : ℕ) → i < count_in b → get_or (state_of b).tasks i nobody ≡ task_from (task_at b i)
  unfolding state_of tasks_from
  task_is i h = walked_at task_size task_from tasks_from (λ n l. refl) (count_in b) i b tasks_at nobody h

  -- a byte of the header
  head_is : (i : ℕ) → i < head_size → get_or (record_at head_size b 0) i 0 ≡ get_or b i 0
  head_is i h = record_byte head_size b 0 i 0 h ∙ ap (λ k. get_or b k 0) (let z : 0 + i ≡ i = omega arith in z)

  aca_is : (state_of b).header.aca ≡ aca_from (get_or b aca_offset 0)
  unfolding state_of
  aca_is = ap aca_from (head_is aca_offset (omega arith))

  pub aca_byte : get_or b aca_offset 0 ≡ aca_number (state_of b).header.aca
  aca_byte = sym (ap aca_number aca_is ∙ aca_good (get_or b aca_offset 0))

  pub clear_is : get_or b aca_offset 0 ≡ 0 → (state_of b).header.aca ≡ None
  clear_is z = aca_is ∙ ap aca_from z

  pub run_is : (state_of b).header.run ≡ get_or b run_offset 0
  unfolding state_of
  run_is = head_is run_offset (omega arith)

  pub policy_is : (state_of b).header.policy ≡ policy_from (get_or b policy_offset 0)
  unfolding state_of
  policy_is = ap policy_from (head_is policy_offset (omega arith))

task_names : (n : ℕ) (l : List ℕ) → names_from n l ≡ map task_name (tasks_from n l)
unfolding tasks_from
task_names zero l = refl
task_names (suc n) l = rw (task_names n (drop task_size l))

pub present_in_lem : (b : List ℕ) → present_in b ≡ map task_name (state_of b).tasks
unfolding state_of
present_in_lem b = task_names _ _

-- the attribute bytes are those of the tasks that a table says
attribute_count :
    (q : Attribute → Bool) (r : ℕ → Bool) → ((x : ℕ) → q (attribute_from x) ≡ r x) → (n : ℕ) (l : List ℕ)
    → count r (attributes_from n l) ≡ count (λ (t : Task). q t.attribute) (tasks_from n l)
unfolding tasks_from
attribute_count q r f zero l = refl
attribute_count q r f (suc n) l =
    omega (arith, ap one_if (f (get_or (take task_size l) attribute_offset 0)), attribute_count q r f n (drop task_size l))

module _ (s : State) (w : Tested s) where
  counted_in :
      (q : Attribute → Bool) (r : ℕ → Bool) → ((x : ℕ) → q (attribute_from x) ≡ r x)
      → count r (attributes_from (count_in (table_bytes s)) (drop tasks_at (table_bytes s))) ≡ count (λ (t : Task). q t.attribute) s.tasks
  unfolding state_of
  counted_in q r f =
      attribute_count q r f (count_in (table_bytes s)) (drop tasks_at (table_bytes s))
      ∙ ap (λ (z : State). count (λ (t : Task). q t.attribute) z.tasks) (state_back_again s w.counted w.eight)

  pub heads_in_lem : heads_in (table_bytes s) ≡ heads_among s.tasks
  heads_in_lem = counted_in is_head (λ x. eqb x 1) head_byte

  pub others_in_lem : others_in (table_bytes s) ≡ others_among s.tasks
  others_in_lem = counted_in (λ a. not (is_head a)) (λ x. not (eqb x 1)) (λ x. ap not (head_byte x))

pub present_is : (s : State) → Tested s → present_in (table_bytes s) ≡ map task_name s.tasks
present_is s w = present_in_lem (table_bytes s) ∙ ap (λ (z : State). map task_name z.tasks) (state_back_again s w.counted w.eight)
