-- The chains of the circuit that a text draws.
use Rattle.std.proofs.Common.{refl}
use Rattle.std.proofs.lemmas.List.Elements.{All-weaker}
use Rattle.drawing_tree.specs.WellFormed.{IsWellFormed}
use Rattle.drawing_grammar.proofs.Different.{well_formed}
use Rattle.case_analysis.specs.Base.{IsBase, base_round}
use Rattle.timing_analysis.specs.Case.{IsSettled}
use Rattle.fault_chain.specs.Laws.{AreWhole, DrawnChainsAreWhole}
use Rattle.fault_chain.proofs.Delays.{has_delays, has_header}
use Rattle.fault_chain.proofs.Whole.{chains_are_whole}

pub drawn_chains_are_whole : DrawnChainsAreWhole
drawn_chains_are_whole text c values limit base cases draws settles are_settled =
    let d = draws.drawing in
    let drawn = draws.draws.drawn in
    let formed : IsWellFormed d = well_formed text drawn.tokens d drawn.are drawn.draws in
    let is_base : IsBase c limit base (base_round c base) = record { settles = settles; waves = λ i. refl } in
    All-weaker (IsSettled c limit base) (AreWhole c) (λ case settled.
    chains_are_whole c limit base (base_round c base) case draws.draws.is_circuit
    (has_header d c formed.header draws.draws.circuit) (has_delays d c formed.header draws.draws.circuit) is_base settled) cases are_settled.settled
