-- The values that the rules are about, passed on under one path.
pub use Rattle.values.specs.declared.Attribute.{Attribute, TheVariants.Simple, TheVariants.HeadOfQueue, TheVariants.Ordered, TheVariants.Aca}
pub use Rattle.values.specs.declared.TaskState.{TaskState, TheVariants.Dormant, TheVariants.Enabled, TheVariants.Blocked}
pub use Rattle.values.specs.declared.Task.{Task}
pub use Rattle.values.specs.declared.Entry.{Entry}
pub use Rattle.values.specs.declared.Finish.{Finish, TheVariants.Good, TheVariants.CheckCondition, TheVariants.Busy, TheVariants.ReservationConflict}
pub use Rattle.values.specs.declared.Function.{Function, TheVariants.AbortTask, TheVariants.AbortTaskSet, TheVariants.ClearTaskSet}
pub use Rattle.values.specs.declared.Function.{TheVariants.ClearAca, TheVariants.LogicalUnitReset, TheVariants.Unknown}
pub use Rattle.values.specs.declared.Happening.{Happening, TheVariants.PowerOn, TheVariants.HardReset, TheVariants.NexusLoss}
pub use Rattle.values.specs.declared.Event.{Event, TheVariants.Command, TheVariants.Completion, TheVariants.Management, TheVariants.Condition}
pub use Rattle.values.specs.declared.Qerr.{Qerr, TheVariants.EndNone, TheVariants.EndAll, TheVariants.EndNexus}
pub use Rattle.values.specs.declared.Policy.{Policy}
pub use Rattle.values.specs.declared.Header.{Header}
pub use Rattle.values.specs.declared.Pending.{Pending}
pub use Rattle.values.specs.declared.Bit.{Bit, TheVariants.PowerBit, TheVariants.HardBit, TheVariants.UnitBit, TheVariants.LossBit, TheVariants.ClearedBit}
pub use Rattle.values.specs.declared.Sense.{Sense}
pub use Rattle.values.specs.declared.Answer.{Answer, TheVariants.Done, TheVariants.BadTable, TheVariants.BadReport, TheVariants.BadEvent}
pub use Rattle.values.specs.declared.Answer.{TheVariants.NexusAboveSeven, TheVariants.NoSuchTask, TheVariants.NotEnabled}
pub use Rattle.values.specs.declared.Answer.{TheVariants.EndedAtEntry, TheVariants.Rejected, TheVariants.BadPolicy}
pub use Rattle.values.specs.declared.Ended.{Ended}
pub use Rattle.values.specs.declared.Sweep.{Sweep, TheVariants.Nobody, TheVariants.OneTask, TheVariants.NexusTasks, TheVariants.AcaTask}
pub use Rattle.values.specs.declared.Sweep.{TheVariants.AllTasks, TheVariants.ClearedBy, TheVariants.FailedTask}
pub use Rattle.values.specs.declared.Notice.{Notice, TheVariants.Quiet, TheVariants.Reported, TheVariants.OthersLost, TheVariants.NexusLost}
pub use Rattle.values.specs.declared.Notice.{TheVariants.ReportedAndOthersLost, TheVariants.UnitWasReset, TheVariants.HardWasReset, TheVariants.PowerCameOn}
pub use Rattle.values.specs.declared.Change.{Change}
pub use Rattle.values.specs.declared.Ruling.{Ruling, TheVariants.Keeps, TheVariants.Changes}
pub use Rattle.values.specs.declared.Named.{Named}
pub use Rattle.values.specs.Options.{Allegiance, Fate}
