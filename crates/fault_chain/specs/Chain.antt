-- Chains: from where a fault was found back through the pins and elements that may have made it.
use Rattle.std.specs.Prelude.{ℕ, zero, suc, ◌+◌, ◌-◌, ◌==◌, List, [], ◌∷◌, length, slice_get, if◌then◌else◌, Option, Some, None}
use Rattle.std.specs.List.{list_any}
use Rattle.std.specs.Option.{option_map, option_or}
use Rattle.scald_base.specs.Clock.{back}
use Rattle.scald_base.specs.Time.{Bounds, period}
use Rattle.vector_names.specs.declared.bits.Target.{Target}
use Rattle.vector_names.specs.declared.bits.Target.TheVariants.{Net as OnNet, Constant}
use Rattle.step_values.specs.Steps.{is_quiet}
use Rattle.step_values.specs.Cell.{values}
use Rattle.skew_algebra.specs.Wave.{fold}
use Rattle.flat_circuit.specs.declared.instance.Pin.{Pin}
use Rattle.flat_circuit.specs.declared.instance.Instance.{Instance}
use Rattle.flat_circuit.specs.declared.net.Net.{Net}
use Rattle.flat_circuit.specs.declared.fault.Fault.{Fault}
use Rattle.flat_circuit.specs.declared.fault.Fault.TheVariants.{Point, Width, Hazard, Assertion}
use Rattle.flat_circuit.specs.Circuit.{Circuit, wire_at, driver}
use Rattle.gate_eval.specs.Hold.{first_some}
use Rattle.storage_eval.specs.Storage.{listening}
use Rattle.fixpoint_engine.specs.Waves.{Waves}
use Rattle.fault_chain.specs.declared.chain.Link.{Link}
use Rattle.fault_chain.specs.declared.chain.End.{End}
use Rattle.fault_chain.specs.declared.chain.End.TheVariants.{Level, Repeat, Undriven, Both}
use Rattle.fault_chain.specs.declared.chain.Chain.{Chain}

-- ---- one link

-- what a net may do in the slot o before slot p
abbrev pub link_back : Circuit → Waves → ℕ → ℕ → ℕ → Link
link_back c ws i p o =
    record {
      net = i;
      slot = back (period c.header) p o;
      value = fold values (ws i) (back (period c.header) p o);
    }

-- that, if it may change there
abbrev pub mover_back : Circuit → Waves → ℕ → ℕ → ℕ → Option Link
mover_back c ws i p o =
    if is_quiet (link_back c ws i p o).value then None else Some (link_back c ws i p o)

-- the first such slot, from the least of a delay before slot p down to the greatest
abbrev pub first_back : Circuit → Waves → ℕ → ℕ → Bounds → Option Link
first_back c ws i p d = first_some (mover_back c ws i p) (d.max - d.min + 1) d.min

-- one delay after another
abbrev pub then_late : Bounds → Bounds → Bounds
then_late wire d = record { min = wire.min + d.min; max = wire.max + d.max }

-- The change of a pin's net that may show in slot p, late by the wire and then by this delay. A
-- constant has none.
abbrev pub through : Circuit → Waves → ℕ → Bounds → Target → Option Link
through c ws p d (OnNet i) = first_back c ws i p (then_late (wire_at c.nets i) d)
through c ws p d (Constant one) = None

-- that of the first pin that has one
abbrev pub through_first : Circuit → Waves → ℕ → Bounds → List Pin → Option Link
through_first c ws p d [] = None
through_first c ws p d (pin ∷ pins) =
    option_or (through c ws p d pin.target) (through_first c ws p d pins)

-- of the pins that the element listens to, late by its delay
abbrev pub next_link : Circuit → Waves → Instance → ℕ → Option Link
next_link c ws j p = through_first c ws p j.delay (listening j.kind j.pins)

-- ---- all links

-- a link before others
abbrev pub linked : Link → Chain → Chain
linked link rest = record { links = link ∷ rest.links; end = rest.end }

abbrev pub ending : Link → End → Chain
ending link end = record { links = link ∷ []; end = end }

-- A link, and what follows if something drives its net, and a pin of that changes.
abbrev pub chain_after : Link → Option (Option Chain) → Chain
chain_after link None = ending link Undriven
chain_after link (Some None) = ending link Both
chain_after link (Some (Some rest)) = linked link rest

-- From a link on, if these nets stand in earlier links and at most so many nets do not. If
-- none is left the link's net is one of them.
abbrev pub chain_from : Circuit → Waves → ℕ → List ℕ → Link → Chain
chain_from c ws zero seen link = ending link Repeat
chain_from c ws (suc left) seen link =
    if list_any (λ i. i == link.net) seen then ending link Repeat
    else chain_after link (option_map
    (λ j. option_map (chain_from c ws left (link.net ∷ seen)) (next_link c ws j link.slot))
    (driver c link.net))

-- ---- the first link

abbrev pub pin_of : Option Instance → ℕ → Option Pin
pin_of None place = None
pin_of (Some j) place = slice_get j.pins place

abbrev pub at_pin : Circuit → Waves → ℕ → Option Pin → Option Link
at_pin c ws p None = None
at_pin c ws p (Some pin) = through c ws p (record { min = 0; max = 0 }) pin.target

-- the change of a pin of an instance that shows in slot p
abbrev pub link_at_pin : Circuit → Waves → ℕ → ℕ → ℕ → Option Link
link_at_pin c ws k place p = at_pin c ws p (pin_of (slice_get c.instances k) place)

abbrev pub at_net : Circuit → Waves → ℕ → ℕ → Option Net → Option Link
at_net c ws i p None = None
at_net c ws i p (Some net) = Some (link_back c ws i p 0)

-- what a net does in slot p, whether it may change there or not
abbrev pub link_at_net : Circuit → Waves → ℕ → ℕ → Option Link
link_at_net c ws i p = at_net c ws i p (slice_get c.nets i)

-- the net of an assertion; the input of a checker at edges, the pin of one of pulses, and the pin
-- that a hazard names
abbrev pub first_link : Circuit → Waves → Fault → Option Link
first_link c ws (Point kind k edge slot value) = link_at_pin c ws k 1 slot
first_link c ws (Width k high from width) = link_at_pin c ws k 0 from
first_link c ws (Hazard k slot pin) = link_at_pin c ws k pin slot
first_link c ws (Assertion i slot value) = link_at_net c ws i slot

-- the chain of a fault, which always has a first link
abbrev pub chain_at : Circuit → Waves → Option Link → Chain
chain_at c ws None = record { links = []; end = Undriven }
chain_at c ws (Some link) =
    if is_quiet link.value then ending link Level else chain_from c ws (length c.nets) [] link

unfoldable pub chain_of : Circuit → Waves → Fault → Chain
chain_of c ws f = chain_at c ws (first_link c ws f)
