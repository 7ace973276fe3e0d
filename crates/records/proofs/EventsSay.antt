-- The event records: each is read back as its event, and what is read is one of them.
use Rattle.std.specs.Prelude.{Option, Some, None}
use Prim.Native.Nat.{ℕ, ◌+◌, ◌*◌, ◌/◌, ◌%◌, ◌<◌}
use mathlib.Core.Bool.{Bool, true, false, ◌||◌, ◌&&◌}
use mathlib.Core.Path.{◌≡◌, refl, ap, sym, ◌∙◌}
use mathlib.Core.List.{List}
use mathlib.Core.Logic.{◌↔◌, ◌⊎◌, inl, inr}
use native.Mathlib.Omega.{arith}
use lib.Dec.{eqb, ltb}
use lib.ListN.{length, get_or}
use lib.Seq.{take_all}
use borrow.Author.Tests.{eqb-true, eqb-false, ne_eqb, ltb-true, lt-ltb, le-ltb}
use Rattle.laws.proofs.Bools.{and-true, or-true, not_both, cases, split}
use Rattle.rules.specs.Types.{Finish, Good, CheckCondition, Busy, ReservationConflict, Function, AbortTask, AbortTaskSet, ClearTaskSet, ClearAca, LogicalUnitReset, Unknown, Happening, PowerOn, HardReset, NexusLoss, Event, Command, Completion, Management, Condition, Attribute}
use Rattle.rules.specs.Rules.{status_of}
use Rattle.records.specs.Numbers.{flag, bit_of, tag_in, attribute_fits}
use Rattle.records.specs.Records.{event_size, marked}
use Rattle.records.specs.Tables.{Bytes}
use Rattle.records.specs.Events.{read_if, asked_from, command_from, finish_from, completion_from, function_from, management_from, happening_from, condition_from, event_from, event_of, event_line, asked_number, second_number, function_number, function_tag, happening_number, happening_nexus, event_record, event_bytes, SpareAttribute, SpareFunction, Spare, IsEvent}
use Rattle.octets.proofs.Widths.{record_bytes}
use Rattle.records.proofs.Values.{attribute_back, attribute_good, attribute_fits_lem, flag_good}
use Rattle.octets.proofs.Tags.{tag_good, tag_back}

-- Written, then read -----------------------------------------------------------------------------------------------------------------------

line_read : (k n a b g : ℕ) → event_of (event_line k n a b g) ≡ event_from k n a b g
unfolding event_of
line_read k n a b g = rw (tag_back g)

asked_back : (a : ℕ) (t : Option Attribute) → SpareAttribute a t → asked_from (asked_number a t) ≡ t
asked_back a (Some t) s = rw (attribute_fits_lem t, attribute_back t)
asked_back a None s = rw s

command_back :
    (n a g : ℕ) (t : Option Attribute) (p q : Bool) → SpareAttribute a t
    → command_from n (asked_number a t) (flag p + flag q * 2) g ≡ Some (Command (record { nexus = n; asked = t; naca = p; exempt = q; tag = g }))
command_back n a g t true true s = rw (asked_back a t s)
command_back n a g t true false s = rw (asked_back a t s)
command_back n a g t false true s = rw (asked_back a t s)
command_back n a g t false false s = rw (asked_back a t s)

completion_back : (n g : ℕ) (f : Finish) → completion_from n (status_of f) 0 g ≡ Some (Completion n g f)
completion_back n g Good = refl
completion_back n g CheckCondition = refl
completion_back n g Busy = refl
completion_back n g ReservationConflict = refl

management_back :
    (n a g : ℕ) (f : Function) → SpareFunction a f → management_from n (function_number a f) 0 (function_tag g f) ≡ Some (Management n f)
management_back n a g (AbortTask t) s = refl
management_back n a g AbortTaskSet s = refl
management_back n a g ClearTaskSet s = refl
management_back n a g ClearAca s = refl
management_back n a g LogicalUnitReset s = refl
management_back n a g Unknown (inl z) = rw z
management_back n a g Unknown (inr h) =
    rw (le-ltb a 2 (omega arith), lt-ltb 5 a h, other 1 (omega arith), other 2 (omega arith), other 3 (omega arith), other 4 (omega arith), other 5 (omega arith))
  where
    other : (k : ℕ) → k < 6 → eqb a k ≡ false
    other k l = ne_eqb a k (λ e. omega arith)

condition_back : (h : Happening) → condition_from (happening_nexus h) (happening_number h) 0 0 ≡ Some (Condition h)
condition_back PowerOn = refl
condition_back HardReset = refl
condition_back (NexusLoss n) = refl

-- an event record is read as its event, whatever stands in the places that the event does not keep
pub event_back : (a g : ℕ) (v : Event) → Spare a v → event_of (event_record a g v) ≡ Some v
unfolding event_from
event_back a g (Command c) s =
    line_read 1 c.nexus (asked_number a c.asked) (second_number c) c.tag
    ∙ command_back c.nexus a c.tag c.asked c.naca c.exempt s
event_back a g (Completion n t f) s = line_read 2 n (status_of f) 0 t ∙ completion_back n t f
event_back a g (Management n f) s = line_read 3 n (function_number a f) 0 (function_tag g f) ∙ management_back n a g f s
event_back a g (Condition h) s = line_read 4 (happening_nexus h) (happening_number h) 0 0 ∙ condition_back h

-- so every event has a record
pub event_bytes_back : (v : Event) → event_of (event_bytes v) ≡ Some v
unfolding event_bytes
event_bytes_back v = event_back 7 0 v (seven v)
  where
    seven_asked : (t : Option Attribute) → SpareAttribute 7 t
    seven_asked (Some t) = tt
    seven_asked None = refl

    seven_function : (f : Function) → SpareFunction 7 f
    seven_function (AbortTask t) = tt
    seven_function AbortTaskSet = tt
    seven_function ClearTaskSet = tt
    seven_function ClearAca = tt
    seven_function LogicalUnitReset = tt
    seven_function Unknown = inr (omega arith)

    seven : (v : Event) → Spare 7 v
    seven (Command c) = seven_asked c.asked
    seven (Completion n t f) = tt
    seven (Management n f) = seven_function f
    seven (Condition h) = tt

-- Read, then written -----------------------------------------------------------------------------------------------------------------------

-- the record of kind k, nexus n, first a, second b and tag g is one of the event v
abbrev Line : ℕ → ℕ → ℕ → ℕ → ℕ → Event → Type 0
Line k n a b g v = Spare a v × (event_line k n a b g ≡ event_record a g v)

-- the event is read only where the test holds
read_if_lem : (P : Event → Type 0) {t : Bool} {x v : Event} → (t ≡ true → P x) → read_if t x ≡ Some v → P v
read_if_lem P {t = true} {x} {v} f e = let z : x ≡ v = cc in rw z at (f refl)
read_if_lem P {t = false} f e = absurd (let z : ◌≡◌ {A = ℕ} 0 1 = cc in omega arith)

asked_good : (a : ℕ) → SpareAttribute a (asked_from a) × (asked_number a (asked_from a) ≡ a)
asked_good a =
    cases (λ (t : Option Attribute). SpareAttribute a t × (asked_number a t ≡ a)) (attribute_fits a) (λ q. (tt, attribute_good a q)) (λ q. (q, refl))

second_good : (b : ℕ) → b < 4 → flag (bit_of b 1) + flag (bit_of b 2) * 2 ≡ b
second_good b h = omega (arith, flag_good (b / 1 % 2) (omega arith), flag_good (b / 2 % 2) (omega arith))

command_line : (n a b g : ℕ) (v : Event) → command_from n a b g ≡ Some v → Line 1 n a b g v
command_line n a b g v =
    read_if_lem (Line 1 n a b g) (λ q. ((asked_good a).0, rw ((asked_good a).1, second_good b (ltb-true b 4 q))))

finish_good : (a : ℕ) → eqb a 0x00 || eqb a 0x02 || eqb a 0x08 || eqb a 0x18 ≡ true → status_of (finish_from a) ≡ a
finish_good a e =
    cases Is (eqb a 0x00) (λ q. sym (eqb-true a 0x00 q))
    (λ q0.
    cases Is (eqb a 0x02) (λ q. sym (eqb-true a 0x02 q))
    (λ q2.
    cases Is (eqb a 0x08) (λ q. sym (eqb-true a 0x08 q)) (λ q8. sym (eqb-true a 0x18 (or-true (eqb a 0x00 || eqb a 0x02 || eqb a 0x08) _ e (rw (q0, q2, q8)))))))
  where
    Is : Finish → Type 0
    Is f = status_of f ≡ a

completion_line : (n a b g : ℕ) (v : Event) → completion_from n a b g ≡ Some v → Line 2 n a b g v
completion_line n a b g v =
    read_if_lem (Line 2 n a b g)
    (λ q.
    let o = and-true _ _ q in
    (tt, rw (eqb-true b 0 o.1, finish_good a o.0)))

function_good :
    (a g : ℕ) → ltb a 2 || ltb 5 a || eqb g 0 ≡ true
    → SpareFunction a (function_from a g) × ((function_number a (function_from a g) ≡ a) × (function_tag g (function_from a g) ≡ g))
function_good a g e =
    cases Is (eqb a 1) (λ q. (tt, (sym (eqb-true a 1 q), refl)))
    (λ q1.
    cases Is (eqb a 2) (λ q. (tt, no_tag 2 refl q))
    (λ q2.
    cases Is (eqb a 3) (λ q. (tt, no_tag 3 refl q))
    (λ q3.
    cases Is (eqb a 4) (λ q. (tt, no_tag 4 refl q))
    (λ q4.
    cases Is (eqb a 5) (λ q. (tt, no_tag 5 refl q)) (λ q5. (other q1 q2 q3 q4 q5, (refl, refl)))))))
  where
    Is : Function → Type 0
    Is f = SpareFunction a f × ((function_number a f ≡ a) × (function_tag g f ≡ g))

    no_tag : (k : ℕ) → ltb k 2 || ltb 5 k ≡ false → eqb a k ≡ true → (k ≡ a) × (0 ≡ g)
    no_tag k l q =
        let z = eqb-true a k q in
        (sym z, sym (eqb-true g 0 (or-true (ltb a 2 || ltb 5 a) (eqb g 0) e (rw z l))))

    other : eqb a 1 ≡ false → eqb a 2 ≡ false → eqb a 3 ≡ false → eqb a 4 ≡ false → eqb a 5 ≡ false → (a ≡ 0) ⊎ (5 < a)
    other q1 q2 q3 q4 q5 =
        split (eqb a 0) (λ q. inl (eqb-true a 0 q))
        (λ q. inr (omega (arith, eqb-false a 0 q, eqb-false a 1 q1, eqb-false a 2 q2, eqb-false a 3 q3, eqb-false a 4 q4, eqb-false a 5 q5)))

management_line : (n a b g : ℕ) (v : Event) → management_from n a b g ≡ Some v → Line 3 n a b g v
management_line n a b g v =
    read_if_lem (Line 3 n a b g)
    (λ q.
    let o = and-true _ _ q in
    let f = function_good a g o.1 in
    (f.0, rw (eqb-true b 0 o.0, f.1.0, f.1.1)))

happening_good :
    (n a : ℕ) → eqb a 3 || (eqb n 0 && (eqb a 1 || eqb a 2)) ≡ true
    → (happening_nexus (happening_from n a) ≡ n) × (happening_number (happening_from n a) ≡ a)
happening_good n a e =
    cases Is (eqb a 1) (λ q. let z = eqb-true a 1 q in (no_nexus (rw z at e), sym z))
    (λ q1.
    cases Is (eqb a 2) (λ q. let z = eqb-true a 2 q in (no_nexus (rw z at e), sym z))
    (λ q2. (refl, split (eqb a 3) (λ q. sym (eqb-true a 3 q)) (λ q. not_both (and-true (eqb n 0) false (rw (q, q1, q2) at e)).1 refl))))
  where
    Is : Happening → Type 0
    Is h = (happening_nexus h ≡ n) × (happening_number h ≡ a)

    no_nexus : eqb n 0 && true ≡ true → 0 ≡ n
    no_nexus h = sym (eqb-true n 0 (and-true _ _ h).0)

condition_line : (n a b g : ℕ) (v : Event) → condition_from n a b g ≡ Some v → Line 4 n a b g v
condition_line n a b g v =
    read_if_lem (Line 4 n a b g)
    (λ q.
    let o = and-true _ _ q in
    let z = and-true _ _ o.0 in
    let h = happening_good n a o.1 in
    (tt, rw (eqb-true b 0 z.0, eqb-true g 0 z.1, h.0, h.1)))

event_line_lem : (k n a b g : ℕ) (v : Event) → event_from k n a b g ≡ Some v → Line k n a b g v
unfolding event_from
event_line_lem k n a b g v =
    cases Is (eqb k 1) (λ q e. rw (eqb-true k 1 q) (command_line n a b g v e))
    (λ q1.
    cases Is (eqb k 2) (λ q e. rw (eqb-true k 2 q) (completion_line n a b g v e))
    (λ q2.
    cases Is (eqb k 3) (λ q e. rw (eqb-true k 3 q) (management_line n a b g v e))
    (λ q3.
    cases Is (eqb k 4) (λ q e. rw (eqb-true k 4 q) (condition_line n a b g v e))
    (λ q4 e. absurd (let z : ◌≡◌ {A = ℕ} 0 1 = cc in omega arith)))))
  where
    Is : Option Event → Type 0
    Is r = r ≡ Some v → Line k n a b g v

-- what is read off a record, field by field, is what its event writes
pub event_fields :
    (e : List ℕ) (v : Event) → event_of e ≡ Some v
    → Spare (get_or e 4 0) v
    × (event_line (get_or e 2 0) (get_or e 3 0) (get_or e 4 0) (get_or e 5 0) (tag_in e) ≡ event_record (get_or e 4 0) (tag_in e) v)
unfolding event_of
event_fields e v =
    cases (λ (r : Option Event). r ≡ Some v → Line (get_or e 2 0) (get_or e 3 0) (get_or e 4 0) (get_or e 5 0) (tag_in e) v)
    (eqb (length e) event_size && marked e 0x56)
    (λ q r. event_line_lem _ _ _ _ _ v r)
    (λ q r. absurd (let z : ◌≡◌ {A = ℕ} 0 1 = cc in omega arith))

-- RULES 16.6: every string of bytes that is read is the record of its event, with its own first and tag
pub event_is_written :
    (e : List ℕ) (v : Event) → Bytes e → event_of e ≡ Some v
    → Spare (get_or e 4 0) v × (e ≡ event_record (get_or e 4 0) (tag_in e) v)
unfolding event_of
event_is_written e v by =
    cases (λ (r : Option Event). r ≡ Some v → Spare a v × (e ≡ event_record a g v)) (eqb (length e) event_size && marked e 0x56)
    (λ q r.
    let o = and-true _ _ q in
    let m = and-true _ _ o.1 in
    let w = event_line_lem (get_or e 2 0) (get_or e 3 0) a (get_or e 5 0) g v r in
    (w.0, bytes (eqb-true (length e) event_size o.0) (eqb-true (get_or e 0 0) 0x54 m.0) (eqb-true (get_or e 1 0) 0x56 m.1) ∙ w.1))
    (λ q r. absurd (let z : ◌≡◌ {A = ℕ} 0 1 = cc in omega arith))
  where
    a : ℕ
    a = get_or e 4 0

    g : ℕ
    g = tag_in e

    bytes : length e ≡ event_size → get_or e 0 0 ≡ 0x54 → get_or e 1 0 ≡ 0x56 → e ≡ event_line (get_or e 2 0) (get_or e 3 0) a (get_or e 5 0) g
    bytes l m n =
        sym (take_all event_size e (omega arith)) ∙ record_bytes event_size e 0 (omega arith)
        ∙ rw (m, n, tag_good (λ i. get_or e i 0) by)

-- RULES 16.6: answer 3 exactly where the bytes are no event record
pub bad_event_says : (e : List ℕ) → Bytes e → (event_of e ≡ None) ↔ (IsEvent e → ⊥)
bad_event_says e by = (to, λ h. from h (event_of e) refl)
  where
    to : event_of e ≡ None → IsEvent e → ⊥
    to u i =
        let r : event_of e ≡ Some i.event = ap event_of i.written ∙ event_back i.first i.tag i.event i.spare in
        let z : ◌≡◌ {A = ℕ} 0 1 = cc in
        omega arith

    from : (IsEvent e → ⊥) → (r : Option Event) → event_of e ≡ r → event_of e ≡ None
    from h (Some v) q =
        let w = event_is_written e v by q in
        absurd (h (record { event = v; first = get_or e 4 0; tag = tag_in e; spare = w.0; written = w.1 }))
    from h None q = q
