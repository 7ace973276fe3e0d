-- RULES 22.2 to 22.4: what a port driver sees of a run: bytes, and the answers of the three functions. Nothing here asks the rules.
--
--   told t m             := what apply answers to the call m on the table t
--   kind_of e, event_name e  := the kind of an event record; its nexus and tag
--   record_name r, names_from n l  := nexus and tag of a task or ended record; those of the first n such records of l
--   task_at t i, attribute_at t i  := the task record at place i of the table t, the oldest at 0; its attribute byte
--   pending_byte t i      := the pending byte of nexus i in the table t
--   attributes_from n l   := the attribute bytes of the first n task records of l
--   heads_in t, others_in t  := how many tasks of the table t are HEAD OF QUEUE, and how many are not
--   present_in t          := nexus and tag of each task of the table t, oldest first
--   is_accepted t m       := the call brings a COMMAND, and apply answers 0
--   listed t m, listed_by t ms  := nexus and tag of each ended record that the call reports, that the calls ms report
--   ended_among n l, ended_in r  := how many of the first n records of l are ended records; how many the report r holds
--   is_listed k l         := the name k is among l
--   is_turn_by t m, turns_by t ms := the call is a turn; how many of the calls ms are
--   is_named_by u k        := name answered u, which names k
--   found o f            := f of what o holds; none where it holds nothing
--   gained t m           := the command that the call adds to the ledger, as a list of one or none
--   strike k l, strike_all ks l := l without the first of the name k, without those of the names ks; none where one of them is not there
--   ledger_by t ms l      := the driver's ledger, l before the calls ms, after them; none where a report lists somebody who is not in it
use Rattle.std.specs.Prelude.{ℕ, zero, suc, ◌+◌, ◌*◌, Bool, cond, ◌&&◌, not, List, [], ◌∷◌, ◌++◌, eqb, get_or, take, drop, Option, Some, None}
use Rattle.laws.specs.Lists.{one_if, any, count}
use Rattle.laws.specs.RecordsInLists.{record_at}
use Rattle.octets.specs.Sizes.{aca_offset, pending_offset, kind_offset, sender_offset, nexus_offset, attribute_offset}
use Rattle.rules.specs.Types.{Named}
use Rattle.rules.specs.Tasks.{places}
use Rattle.rules.specs.Rulings.{same_name}
use Rattle.records.specs.Numbers.{tag_in}
use Rattle.records.specs.Records.{nexus_size, task_size, marked}
use Rattle.records.specs.Tables.{nexuses_at, count_in, tasks_at}
use Rattle.operations.specs.Operations.{named}
use Rattle.numbers.specs.declared.Answered.{Answered}
use Rattle.numbers.specs.declared.NamedTurn.{NamedTurn}
use Rattle.numbers.specs.Boundary.{answered, turn_for}
use Rattle.demands.specs.Calls.{Call, applied}

-- RULES 20.1: of a call
abbrev pub told : List ℕ → Call → Answered
told t m = answered (applied t m)

-- Names ------------------------------------------------------------------------------------------------------------------------------------

-- RULES 16.6: kind, nexus and tag of an event
abbrev pub kind_of : List ℕ → ℕ
kind_of e = get_or e kind_offset 0

abbrev pub event_name : List ℕ → Named
event_name e = record { nexus = get_or e sender_offset 0; tag = tag_in e }

-- RULES 15.3 and 15.5: a task and an ended record have nexus and tag at the same places
abbrev pub record_name : List ℕ → Named
record_name r = record { nexus = get_or r nexus_offset 0; tag = tag_in r }

abbrev pub names_from : ℕ → List ℕ → List Named
names_from zero l = []
names_from (suc n) l = record_name (take task_size l) ∷ names_from n (drop task_size l)

-- RULES 13.2 and 15.3: a task of a table, its attribute
abbrev pub task_at : List ℕ → ℕ → List ℕ
task_at t i = record_at task_size t (tasks_at + task_size * i)

abbrev pub attribute_at : List ℕ → ℕ → ℕ
attribute_at t i = get_or (task_at t i) attribute_offset 0

-- RULES 13.2 and 15.2
abbrev pub pending_byte : List ℕ → ℕ → ℕ
pending_byte t i = get_or (record_at nexus_size t (nexuses_at + nexus_size * i)) pending_offset 0

-- RULES 15.3 and 23.7: a and b, counted in the table
abbrev pub attributes_from : ℕ → List ℕ → List ℕ
attributes_from zero l = []
attributes_from (suc n) l = get_or (take task_size l) attribute_offset 0 ∷ attributes_from n (drop task_size l)

abbrev pub heads_in : List ℕ → ℕ
heads_in t = count (λ x. eqb x 1) (attributes_from (count_in t) (drop tasks_at t))

abbrev pub others_in : List ℕ → ℕ
others_in t = count (λ x. not (eqb x 1)) (attributes_from (count_in t) (drop tasks_at t))

-- RULES 17.1: oldest first
abbrev pub present_in : List ℕ → List Named
present_in t = names_from (count_in t) (drop tasks_at t)

-- RULES 22.2: a name among others
abbrev pub is_listed : Named → List Named → Bool
is_listed k l = any (same_name k) l

-- Accepted, ended, turns -------------------------------------------------------------------------------------------------------------------

-- RULES 22.2: accepted
abbrev pub is_accepted : List ℕ → Call → Bool
is_accepted t m = eqb (kind_of m.event) 1 && eqb (told t m).answer 0

-- RULES 19.2 and 22.2: as many as the ended count says
abbrev pub listed : List ℕ → Call → List Named
listed t m = names_from (told t m).ended (applied t m).report

-- RULES 17.2 and 19.2: ended records by their mark
abbrev pub ended_among : ℕ → List ℕ → ℕ
ended_among zero l = 0
ended_among (suc n) l = one_if (marked (take task_size l) 0x45) + ended_among n (drop task_size l)

abbrev pub ended_in : List ℕ → ℕ
ended_in r = ended_among places r

-- RULES 22.2: ended, by any of the calls
abbrev pub listed_by : List ℕ → List Call → List Named
listed_by t [] = []
listed_by t (m ∷ ms) = listed t m ++ listed_by (applied t m).table ms

-- RULES 22.3: name gave this name
abbrev pub is_named_by : NamedTurn → Named → Bool
is_named_by u k = u.found && same_name (record { nexus = u.nexus; tag = u.tag }) k

-- RULES 22.3
unfoldable pub is_turn_by : List ℕ → Call → Bool
is_turn_by t m =
    eqb (get_or t aca_offset 0) 0 && eqb (kind_of m.event) 2 && is_named_by (turn_for (named t)) (event_name m.event) && eqb (told t m).answer 0

-- RULES 22.3: how many
abbrev pub turns_by : List ℕ → List Call → ℕ
turns_by t [] = 0
turns_by t (m ∷ ms) = one_if (is_turn_by t m) + turns_by (applied t m).table ms

-- The ledger -------------------------------------------------------------------------------------------------------------------------------

-- RULES 22.4: on with what is there, or with nothing
abbrev pub found : {A B : Type 0} → Option A → (A → Option B) → Option B
found None f = None
found (Some a) f = f a

-- RULES 22.4: a name dropped; there has to be one
abbrev pub strike : Named → List Named → Option (List Named)
strike k [] = None
strike k (x ∷ l) = cond (same_name k x) (Some l) (found (strike k l) (λ r. Some (x ∷ r)))

abbrev pub strike_all : List Named → List Named → Option (List Named)
strike_all [] l = Some l
strike_all (k ∷ ks) l = found (strike k l) (strike_all ks)

-- RULES 22.4: a call drops what its report lists, and adds its command where that is accepted, as the youngest
abbrev pub gained : List ℕ → Call → List Named
gained t m = cond (is_accepted t m) (event_name m.event ∷ []) []

-- RULES 22.4
abbrev pub ledger_by : List ℕ → List Call → List Named → Option (List Named)
ledger_by t [] l = Some l
ledger_by t (m ∷ ms) l = found (strike_all (listed t m) l) (λ r. ledger_by (applied t m).table ms (r ++ gained t m))
