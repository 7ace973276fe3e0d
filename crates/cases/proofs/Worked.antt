-- Every case is right, by computation: A to K of RULES 26, and the others.
use mathlib.Core.Bool.{true}
use mathlib.Core.Path.{◌≡◌, refl}
use Rattle.rules.specs.Tasks.{whose_turn}
use Rattle.rules.specs.Rulings.{fresh}
use Rattle.rules.specs.Rules.{new_task, enter, complete, manage, happen, rule_for, ruling}
use Rattle.rules.specs.Well.{well_formed}
use Rattle.records.specs.Events.{event_from, event_of}
use Rattle.records.specs.Tables.{tasks_from, pendings_from, state_of, nexus_records, unused_records, table_with, table_bytes, report_bytes, nexuses_fit, tasks_fit, unused_fit, good_table}
use Rattle.operations.specs.Operations.{outcome, named, started}
use Rattle.cases.specs.Play.{same_bytes, plays, right, all}
use Rattle.cases.specs.More.{cases}

pub worked : all right cases ≡ true
unfolding whose_turn fresh new_task enter complete manage happen rule_for ruling well_formed event_from event_of tasks_from pendings_from state_of nexus_records unused_records table_with table_bytes report_bytes nexuses_fit tasks_fit unused_fit good_table outcome named started same_bytes plays
worked = refl
