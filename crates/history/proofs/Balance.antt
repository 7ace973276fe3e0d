-- As many commands are accepted as there are ended records and tasks in the table; and the records have bytes for statuses.
use Prim.Native.Nat.{◌+◌}
use mathlib.Core.Path.{◌≡◌, refl, ap, sym, ◌∙◌}
use mathlib.Core.List.{List, [], ◌∷◌}
use native.Mathlib.Omega.{arith}
use lib.ListN.{length, length-append, length-map}
use Rattle.laws.specs.Lists.{count}
use Rattle.laws.proofs.Lists.{count_append}
use Rattle.rules.specs.Types.{Event, Policy}
use Rattle.rules.specs.Rulings.{fresh, task_name, ended_name}
use Rattle.rules.specs.Rules.{report}
use Rattle.rules.proofs.EndStatuses.{byte_end, report_bytes_lem}
use Rattle.history.specs.History.{Past, begin, advance, play, after, look}
use Rattle.history.proofs.Advanced.{advance_log}
use Rattle.history.proofs.Conserve.{total}
use Rattle.history.proofs.Identity.{known}

-- `total`, by the ended records
pub recorded : (p : Policy) (es : List Event) → length (after p es).roll ≡ length (after p es).log + length (after p es).state.tasks
recorded p es =
    let h = after p es in
    let ends = sym (length-map h.log ended_name) ∙ ap length (known p es).reports ∙ length-map h.departed (λ k. task_name (look h.roll k)) in
    omega (arith, total p es, ends)

log_bytes : (h : Past) (es : List Event) → count byte_end h.log ≡ length h.log → count byte_end (play h es).log ≡ length (play h es).log
log_bytes h [] b = b
log_bytes h (e ∷ es) b =
    log_bytes (advance h e) es
    (rw (advance_log h e, count_append byte_end h.log (report h.state e), length-append h.log (report h.state e))
    (omega (arith, b, report_bytes_lem h.state e)))

-- no end has a status that is no byte
pub recorded_bytes : (p : Policy) (es : List Event) → count byte_end (after p es).log ≡ length (after p es).log
recorded_bytes p es = log_bytes (begin (fresh p)) es refl
