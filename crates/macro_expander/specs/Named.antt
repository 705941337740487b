-- A circuit by whole names, as far as it is expanded: nothing in it has a number.
use Rattle.std.specs.Prelude.{ℕ, Bool, List, Option}
use Rattle.scald_base.specs.Time.{Bounds, Header}
use Rattle.scald_base.specs.declared.refusal.Place.{Place}
use Rattle.element_kinds.specs.declared.kind.Kind.{Kind}
use Rattle.flat_circuit.specs.declared.limits.Limits.{Limits}
use Rattle.flat_circuit.specs.declared.split.Split.{Split}
use Rattle.flat_circuit.specs.Name.{Name}
use Rattle.flat_circuit.specs.Builder.{Asserted}

-- what a bit is on
pub data Where : Type 0 where
  On : Name → Where
  Fixed : Bool → Where

pub record Bit : Type 0 where
  pub target : Where
  pub inverted : Bool

pub record NamedPin : Type 0 where
  pub target : Where
  pub inverted : Bool
  pub hold : Bool

-- an instance bit, or a checker bit, which has no output
pub record NamedInstance : Type 0 where
  pub path : List ℕ
  pub bit : ℕ
  pub kind : Kind
  pub delay : Bounds
  pub split : Option Split
  pub limits : Limits
  pub pins : List NamedPin
  pub out : Option Where
  pub out_inverted : Bool
  pub place : Place

-- What is expanded so far: the statements that were reached, the nets in the order of their first
-- use and the bounds of their wires in the same order, what is asserted of them, and the instance
-- and checker bits.
pub record State : Type 0 where
  pub header : Header
  pub statements : ℕ
  pub names : List Name
  pub wires : List Bounds
  pub asserted : List Asserted
  pub instances : List NamedInstance
