-- Bounds of a delay, and what a drawing's header says, as plain numbers.
use Rattle.std.specs.Prelude.{ℕ, ◌*◌, ◌≤◌}

-- the least and the greatest delay, in ticks
pub record Bounds : Type 0 where
  pub min : ℕ
  pub max : ℕ

-- A period is so many units of so many ticks. Wires and clocks have these bounds if nothing else
-- is said of them.
pub record Header : Type 0 where
  pub units : ℕ
  pub ticks : ℕ
  pub wire : Bounds
  pub pskew : ℕ × ℕ
  pub cskew : ℕ × ℕ

-- the period, in ticks
abbrev pub period : Header → ℕ
period h = h.units * h.ticks

-- what a delay may be
pub record IsDelay (d : Bounds) : Type 0 where
  pub ordered : d.min ≤ d.max
  pub bounded : d.max ≤ 4095

-- how early and how late an edge may come
pub record IsSkew (s : ℕ × ℕ) : Type 0 where
  pub early : s.0 ≤ 4095
  pub late : s.1 ≤ 4095

-- what a header may say
pub record IsHeader (h : Header) : Type 0 where
  pub shortest : 2 ≤ period h
  pub longest : period h ≤ 4096
  pub wire : IsDelay h.wire
  pub pskew : IsSkew h.pskew
  pub cskew : IsSkew h.cskew
