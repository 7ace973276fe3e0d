-- RULES 23: the mission as one statement, and the waits that growers' contracts quote. The three functions of src/lib.rt promise what outcome, started and named
-- give, for every buffer, and ask nothing (numbers/specs/Boundary); of these the mission's three demands and the waits speak. Their statements stand in
-- crates/demands/specs/Demands.antt, apart from code.
pub use Rattle.demands.specs.Demands.{Demand1, Demand2, Demand3, WaitsRequested, WaitsLongest, TurnsToHave}

-- RULES 23.1 to 23.5
pub record Mission : Type 0 where
  pub one : Demand1
  pub two : Demand2
  pub three : Demand3

-- RULES 23.7 to 23.10
pub record Contracts : Type 0 where
  pub requested : WaitsRequested
  pub longest : WaitsLongest
  pub turns : TurnsToHave
