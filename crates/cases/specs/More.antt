-- The cases that are not in RULES 26.2 to 26.10 and 26.14, J and K among them, each with the clause that it comes from; then all cases.
use Rattle.std.specs.Prelude.{List, [], ◌∷◌, ◌++◌}
use Rattle.cases.specs.Play.{Case}
use Rattle.cases.specs.Begin.{cleared, tag_order}
use Rattle.cases.specs.Errors.{dormant_as_aca_begins, younger_head, abort_task_set_in_aca, causing_nexus, oldest_head}
use Rattle.cases.specs.Turns.{case_k, run_stays_four, ordered_turn, head_out_of_turn, failed_turn, turn_in_aca, ordered_waits, head_waits}
use Rattle.cases.specs.Answers.{lowest_is1, lowest_is2, long_report, lowest_is3, lowest_is4, rejected, starting, naming_nobody}
use Rattle.cases.specs.Answers.{bad_heads, bad_tasks, bad_without_aca, bad_in_aca, unreachable, bad_events, event_lengths}
use Rattle.cases.specs.Entries.{overlap_first, overlap_settles, entry_sets_up_aca, exempt, attributes_in_aca, rank_order, bits_in_aca, bits_before_attribute}
use Rattle.cases.specs.EndsAtEntry.{overlap_qerr_none, overlap_qerr_all, overlap_qerr_nexus, bit_qerr_none, bit_qerr_all, bit_qerr_nexus}
use Rattle.cases.specs.EndsAtEntry.{attribute_qerr_none, attribute_qerr_all, attribute_qerr_nexus, reported_bit_stays_clear, hosts_end_each_other}
use Rattle.cases.specs.EndsAtEntry.{dormant_as_entry_begins, aca_of_refused, overlap_spares_others_in_aca, bit_spares_all_in_aca, busy_and_active_change_nothing}
use Rattle.cases.specs.EndsAtEntry.{entry_leaves_run}
use Rattle.cases.specs.OnlyEnds.{busy_is_fourth_turn, conflict_stays_four, busy_out_of_turn, conflict_enables, busy_with_naca}
use Rattle.cases.specs.OnlyEnds.{busy_qerr_all, busy_qerr_all_tas, busy_qerr_nexus, busy_qerr_nexus_tas, aca_task_busy, aca_task_busy_qerr}
use Rattle.cases.specs.OnlyEnds.{busy_refused, other_statuses}
use Rattle.cases.specs.Allegiances.{aca_begins, aca_task_good, aca_task_fails, aca_task_fails_again, only_aca_task_completes, abort_task_in_aca}
use Rattle.cases.specs.Allegiances.{clear_task_set_in_aca, clear_no_aca, clear_aca, qerr_ends_blocked, qerr_ends_dormant, qerr_ends_nexus_in_aca}
use Rattle.cases.specs.Aborts.{qerr_none, qerr_all, qerr_nexus, clear_task_set, clear_task_set_tas, other_aborts}
use Rattle.cases.specs.Resets.{unit_reset, hard_reset, power_on, faulted_nexus_loss, other_nexus_loss}
use Rattle.cases.specs.Full.{case_j, full_in_aca, full_as_aca_begins, full_qerr_all}
use Rattle.cases.specs.Paper.{paper}

abbrev pub more : List Case
more =
    cleared
    ∷ tag_order
    ∷ dormant_as_aca_begins
    ∷ younger_head
    ∷ abort_task_set_in_aca
    ∷ causing_nexus
    ∷ oldest_head
    ∷ case_k
    ∷ run_stays_four
    ∷ ordered_turn
    ∷ head_out_of_turn
    ∷ failed_turn
    ∷ turn_in_aca
    ∷ ordered_waits
    ∷ head_waits
    ∷ lowest_is1
    ∷ lowest_is2
    ∷ long_report
    ∷ lowest_is3
    ∷ lowest_is4
    ∷ rejected
    ∷ starting
    ∷ naming_nobody
    ∷ bad_heads
    ∷ bad_tasks
    ∷ bad_without_aca
    ∷ bad_in_aca
    ∷ unreachable
    ∷ bad_events
    ∷ event_lengths
    ∷ overlap_first
    ∷ overlap_settles
    ∷ entry_sets_up_aca
    ∷ exempt
    ∷ attributes_in_aca
    ∷ rank_order
    ∷ bits_in_aca
    ∷ bits_before_attribute
    ∷ overlap_qerr_none
    ∷ overlap_qerr_all
    ∷ overlap_qerr_nexus
    ∷ bit_qerr_none
    ∷ bit_qerr_all
    ∷ bit_qerr_nexus
    ∷ attribute_qerr_none
    ∷ attribute_qerr_all
    ∷ attribute_qerr_nexus
    ∷ reported_bit_stays_clear
    ∷ hosts_end_each_other
    ∷ dormant_as_entry_begins
    ∷ aca_of_refused
    ∷ overlap_spares_others_in_aca
    ∷ bit_spares_all_in_aca
    ∷ busy_and_active_change_nothing
    ∷ entry_leaves_run
    ∷ busy_is_fourth_turn
    ∷ conflict_stays_four
    ∷ busy_out_of_turn
    ∷ conflict_enables
    ∷ busy_with_naca
    ∷ busy_qerr_all
    ∷ busy_qerr_all_tas
    ∷ busy_qerr_nexus
    ∷ busy_qerr_nexus_tas
    ∷ aca_task_busy
    ∷ aca_task_busy_qerr
    ∷ busy_refused
    ∷ other_statuses
    ∷ aca_begins
    ∷ aca_task_good
    ∷ aca_task_fails
    ∷ aca_task_fails_again
    ∷ only_aca_task_completes
    ∷ abort_task_in_aca
    ∷ clear_task_set_in_aca
    ∷ clear_no_aca
    ∷ clear_aca
    ∷ qerr_ends_blocked
    ∷ qerr_ends_dormant
    ∷ qerr_ends_nexus_in_aca
    ∷ qerr_none
    ∷ qerr_all
    ∷ qerr_nexus
    ∷ clear_task_set
    ∷ clear_task_set_tas
    ∷ other_aborts
    ∷ unit_reset
    ∷ hard_reset
    ∷ power_on
    ∷ faulted_nexus_loss
    ∷ other_nexus_loss
    ∷ case_j
    ∷ full_in_aca
    ∷ full_as_aca_begins
    ∷ full_qerr_all
    ∷ []

abbrev pub cases : List Case
cases = paper ++ more
