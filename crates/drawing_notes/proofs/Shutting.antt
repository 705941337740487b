-- Data that a select excludes.
use Rattle.std.proofs.Common.{◌≡◌, ℕ, ◌-◌, ◌<◌, ◌≤◌, true, sym, arith}
use Rattle.std.specs.Prelude.{nat_le}
use Rattle.std.proofs.lemmas.Bool.{and_from}
use Rattle.std.proofs.lemmas.Bool.Decides.{nat_tests}
use Rattle.element_kinds.specs.Kinds.{selects_of}
use Rattle.flat_circuit.specs.declared.instance.Instance.{Instance}
use Rattle.fixpoint_engine.specs.Waves.{Waves}
use Rattle.drawing_notes.specs.Passing.{is_shut, shuts}
use Rattle.drawing_notes.proofs.Ranging.{any_at}

pub shut_at : (ws : Waves) (j : Instance) (place k : ℕ) → selects_of j.kind ≤ place → k < selects_of j.kind →
    shuts ws j (place - selects_of j.kind) k ≡ true → true ≡ is_shut ws j place
shut_at ws j place k le below is =
    let yes : nat_le (selects_of j.kind) place ≡ true = grind (arith, nat_tests) in
    sym (and_from (nat_le (selects_of j.kind) place) _ yes (any_at (shuts ws j (place - selects_of j.kind)) (selects_of j.kind) k below is))
