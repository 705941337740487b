-- Runs of any length and of any bits: those of a wire, and those of a buffer that passes them on.
use Rattle.std.proofs.Common.{◌≡◌, ℕ, zero, suc, ◌-◌, Bool, false, List, [], ◌∷◌, length, get_or, refl, ap, subst, arith, slice_get, Some}
use Rattle.std.proofs.lemmas.List.Elements.{All-nil, All-cons}
use Rattle.element_kinds.specs.declared.kind.Kind.TheVariants.{Buf}
use Rattle.flat_circuit.specs.declared.instance.Instance.{Instance}
use Rattle.flat_circuit.specs.Circuit.{Circuit}
use Rattle.flat_circuit.specs.Run.{Run, Choice, IsRunAt, IsRun}
use Rattle.flat_circuit.proofs.RunTables.{bounds, input, driven_by, on, element, circuit, late}

abbrev Long : List Bool → List Bool → Type 0
Long bits other = length other ≡ length bits

-- ---- a wire

abbrev wire : Circuit
wire = circuit (input ∷ []) []

abbrev on_wire : List Bool → Run
on_wire bits = record { ticks = length bits; choices = []; bits = bits ∷ [] }

wires_are_free : (bits : List Bool) → IsRun wire (on_wire bits)
wires_are_free bits = record {
  nets = refl;
  long = All-cons (Long bits) bits [] refl (All-nil (Long bits));
  instances = refl;
  at = λ k i choice here chosen. cc;
}

-- ---- a buffer

abbrev passing : Instance
passing = element Buf (bounds 0 0) (on 1 ∷ []) 0

abbrev buffer : Circuit
buffer = circuit (driven_by 0 ∷ input ∷ []) (passing ∷ [])

abbrev of_buffer : Choice
of_buffer = late 0 (0 ∷ [])

abbrev passed_on : List Bool → Run
passed_on bits = record { ticks = length bits; choices = of_buffer ∷ []; bits = bits ∷ bits ∷ [] }

at_buffer : (bits : List Bool) → IsRunAt buffer (passed_on bits) passing of_buffer
at_buffer bits = record {
  delay = (omega arith, omega arith);
  wires = ((omega arith, omega arith), tt);
  obeys = λ t less asked.
      let at : t - 0 ≡ (t - 0) - 0 = omega arith in ap (λ (u : ℕ). get_or bits u false) at;
}

at_each : (bits : List Bool) (k : ℕ) (i : Instance) (choice : Choice) →
    slice_get (passing ∷ []) k ≡ Some i → slice_get (of_buffer ∷ []) k ≡ Some choice →
    IsRunAt buffer (passed_on bits) i choice
at_each bits zero i choice here chosen =
    let one : passing ≡ i = cc in
    let two : of_buffer ≡ choice = cc in
    subst (λ (j : Instance). IsRunAt buffer (passed_on bits) j choice) one
    (subst (λ (other : Choice). IsRunAt buffer (passed_on bits) passing other) two
    (at_buffer bits))
at_each bits (suc k) i choice here chosen = cc

buffers_pass_on : (bits : List Bool) → IsRun buffer (passed_on bits)
buffers_pass_on bits = record {
  nets = refl;
  long = All-cons (Long bits) bits (bits ∷ []) refl
      (All-cons (Long bits) bits [] refl (All-nil (Long bits)));
  instances = refl;
  at = at_each bits;
}
