-- The types of src/, passed on under one path.
pub use Rattle.decide.specs.declared.states.Older.{Older}
