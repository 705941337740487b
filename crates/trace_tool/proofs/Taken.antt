-- What one line says, taken into a trace.
use Rattle.std.proofs.Common.{◌≡◌, ◌≢◌, ℕ, ◌<◌, ◌≤◌, Bool, List, [], length, set, Option, Some, refl, ap, sym, subst, ◌∙◌, arith}
use Rattle.std.specs.Prelude.{slice_get}
use Rattle.std.proofs.lemmas.List.{get_or-set_other, get_or-set_same, length-set}
use Rattle.flat_circuit.specs.declared.instance.Instance.{Instance}
use Rattle.flat_circuit.specs.Circuit.{Circuit}
use Rattle.trace_sim.specs.Choice.{PickFits}
use Rattle.trace_tool.specs.declared.extent.Extent.{Extent}
use Rattle.trace_tool.specs.declared.trace.Trace.{Trace}
use Rattle.trace_tool.specs.declared.line.Line.TheVariants.{Head, Delays, Bits, End}
use Rattle.trace_tool.specs.Trace.{delays_line, end_line, head_line, instance_line, net_line, pick_at, row_at, wires_at}
use Rattle.trace_tool.specs.Reading.{IsFitPick, PickIsFit}
use Rattle.trace_tool.specs.Extent.{most_ticks}
use Rattle.trace_tool.specs.Taking.{AreLong, IsRefused, IsTaken}

-- ---- the head

abbrev pub with_ticks : Trace → ℕ → Trace
with_ticks old n = record { ticks = n; delays = old.delays; wires = old.wires; bits = old.bits }

pub head_taken : (e : Extent) (c : Circuit) (old : Trace) (line : List ℕ) (n : ℕ) → AreLong c old → 1 ≤ n → n ≤ most_ticks e → line ≡ head_line n →
    IsTaken e c old (with_ticks old n) Head line
head_taken e c old line n long some few is = record {
  right = ((some, few), is);
  long = record { delays = long.delays; wires = long.wires; bits = long.bits };
  ticks = λ other. absurd (other refl);
  delays = λ k other. refl;
  wires = λ k other. refl;
  bits = λ n other. refl;
}

pub head_refused : (e : Extent) (c : Circuit) (old : Trace) (line : List ℕ) → ((n : ℕ) → 1 ≤ n → n ≤ most_ticks e → line ≡ head_line n → ⊥) → IsRefused e c old Head line
head_refused e c old line none t same right = none t.ticks right.0.0 right.0.1 right.1

-- ---- delays

abbrev pub with_delays : Trace → ℕ → ℕ × ℕ → List ℕ → Trace
with_delays old k pick wires =
    record { ticks = old.ticks; delays = set old.delays k pick; wires = set old.wires k wires; bits = old.bits }

another : (k j : ℕ) → Delays k ≢ Delays j → j ≢ k
another k j other same = other (ap (λ (n : ℕ). Delays n) (sym same))

pub delays_taken : (e : Extent) (c : Circuit) (old : Trace) (line : List ℕ) (k : ℕ) (i : Instance) (pick : ℕ × ℕ) (wires : List ℕ) → AreLong c old →
    slice_get c.instances k ≡ Some i → k < length c.instances → IsFitPick c i pick wires → line ≡ instance_line i pick wires →
    IsTaken e c old (with_delays old k pick wires) (Delays k) line
delays_taken e c old line k i pick wires long here inside fits is =
    let first = long.delays in
    let second = long.wires in
    let p : pick ≡ pick_at (with_delays old k pick wires) k = sym (get_or-set_same old.delays k pick (0, 0) (omega (arith, first, inside))) in
    let w : wires ≡ wires_at (with_delays old k pick wires) k = sym (get_or-set_same old.wires k wires [] (omega (arith, second, inside))) in
    record {
      right = (
        subst (λ (o : Option Instance). PickIsFit c o (pick_at (with_delays old k pick wires) k) (wires_at (with_delays old k pick wires) k)) (sym here)
            (subst (λ (ws : List ℕ). IsFitPick c i (pick_at (with_delays old k pick wires) k) ws) w
            (subst (λ (q : ℕ × ℕ). IsFitPick c i q wires) p fits)),
        is ∙ ap (λ (q : ℕ × ℕ). instance_line i q wires) p ∙ ap (instance_line i (pick_at (with_delays old k pick wires) k)) w
            ∙ ap (λ (o : Option Instance). delays_line o (pick_at (with_delays old k pick wires) k) (wires_at (with_delays old k pick wires) k)) (sym here),
      );
      long = record {
        delays = length-set old.delays k pick ∙ long.delays;
        wires = length-set old.wires k wires ∙ long.wires;
        bits = long.bits;
      };
      ticks = λ other. refl;
      delays = λ j other. get_or-set_other old.delays k j pick (0, 0) (another k j other);
      wires = λ j other. get_or-set_other old.wires k j wires [] (another k j other);
      bits = λ n other. refl;
    }

pub delays_refused : (e : Extent) (c : Circuit) (old : Trace) (line : List ℕ) (k : ℕ) (i : Instance) → slice_get c.instances k ≡ Some i →
    ((pick : ℕ × ℕ) (wires : List ℕ) → PickFits c i pick wires → line ≡ instance_line i pick wires → ⊥) → IsRefused e c old (Delays k) line
delays_refused e c old line k i here none t same right =
    none (pick_at t k) (wires_at t k)
    (subst (λ (o : Option Instance). PickIsFit c o (pick_at t k) (wires_at t k)) here right.0).fits
    (right.1 ∙ ap (λ (o : Option Instance). delays_line o (pick_at t k) (wires_at t k)) here)

-- ---- bits

abbrev pub with_row : Trace → ℕ → List Bool → Trace
with_row old n row = record { ticks = old.ticks; delays = old.delays; wires = old.wires; bits = set old.bits n row }

pub bits_taken : (e : Extent) (c : Circuit) (old : Trace) (line : List ℕ) (n : ℕ) (row : List Bool) → AreLong c old → n < length c.nets →
    length row ≡ old.ticks → line ≡ net_line c n row → IsTaken e c old (with_row old n row) (Bits n) line
bits_taken e c old line n row long inside each is =
    let rows = long.bits in
    let r : row ≡ row_at (with_row old n row) n = sym (get_or-set_same old.bits n row [] (omega (arith, rows, inside))) in
    record {
      right = (ap length (sym r) ∙ each, is ∙ ap (net_line c n) r);
      long = record { delays = long.delays; wires = long.wires; bits = length-set old.bits n row ∙ long.bits };
      ticks = λ other. refl;
      delays = λ k other. refl;
      wires = λ k other. refl;
      bits = λ m other. get_or-set_other old.bits n m row [] (λ same. other (ap (λ (k : ℕ). Bits k) (sym same)));
    }

pub bits_refused : (e : Extent) (c : Circuit) (old : Trace) (line : List ℕ) (n : ℕ) →
    ((row : List Bool) → length row ≡ old.ticks → line ≡ net_line c n row → ⊥) → IsRefused e c old (Bits n) line
bits_refused e c old line n none t same right = none (row_at t n) (right.0 ∙ same (λ clash. (let no = clash in cc))) right.1

-- ---- the end

pub end_taken : (e : Extent) (c : Circuit) (old : Trace) (line : List ℕ) → AreLong c old → line ≡ end_line → IsTaken e c old old End line
end_taken e c old line long is = record {
  right = (tt, is);
  long = long;
  ticks = λ other. refl;
  delays = λ k other. refl;
  wires = λ k other. refl;
  bits = λ n other. refl;
}

pub end_refused : (e : Extent) (c : Circuit) (old : Trace) (line : List ℕ) → line ≢ end_line → IsRefused e c old End line
end_refused e c old line other t same right = other right.1
