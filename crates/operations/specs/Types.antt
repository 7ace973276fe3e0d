-- What the operations say, passed on under one path.
pub use Rattle.values.specs.declared.Applied.{Applied}
pub use Rattle.values.specs.declared.Naming.{Naming}
