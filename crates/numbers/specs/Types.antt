-- The types of src/, passed on under one path.
pub use Rattle.numbers.specs.declared.Answered.{Answered}
pub use Rattle.numbers.specs.declared.NamedTurn.{NamedTurn}
