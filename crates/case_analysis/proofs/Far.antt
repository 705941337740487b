-- Instances one after the other: how far they look back, and how many have an output.
use Rattle.std.proofs.Common.{◌≡◌, ℕ, suc, ◌+◌, max, true, false, cond, List, ◌∷◌, drop, drop-cons, ap, ◌∙◌, arith, slice_get, Some}
use Rattle.std.proofs.lemmas.Option.{slice_get_within, get_or_from_slice_get}
use Rattle.std.proofs.lemmas.List.Sums.{sum_by-cons}
use Rattle.flat_circuit.specs.declared.instance.Instance.{Instance}
use Rattle.flat_circuit.specs.declared.net.Net.{Net}
use Rattle.element_kinds.specs.Kinds.{has_output}
use Rattle.flat_circuit.specs.Instances.{outputs}
use Rattle.fixpoint_engine.specs.Reach.{greatest_wire, greatest_delay, farthest}

-- the rest of a list from a place on
pub from_place : {A : Type 0} (xs : List A) (k : ℕ) (x : A) → slice_get xs k ≡ Some x → drop k xs ≡ x ∷ drop (k + 1) xs
from_place xs k x is =
    let next : suc k ≡ k + 1 = omega arith in
    drop-cons xs k x (slice_get_within xs k x is) ∙ (λ i. get_or_from_slice_get xs k x x is i ∷ drop (next i) xs)

pub far_more : (nets : List Net) (js : List Instance) (k : ℕ) (j : Instance) (sofar more : ℕ) → slice_get js k ≡ Some j → more ≡ greatest_delay j + greatest_wire nets j.pins →
    max sofar (farthest nets (drop k js)) ≡ farthest nets js → max (max sofar more) (farthest nets (drop (k + 1) js)) ≡ farthest nets js
far_more nets js k j sofar more is far so =
    let rest : farthest nets (drop k js) ≡ max (greatest_delay j + greatest_wire nets j.pins) (farthest nets (drop (k + 1) js)) = ap (farthest nets) (from_place js k j is) in
    omega (arith, rest, far, so)

outputs_at : (js : List Instance) (k : ℕ) (j : Instance) → slice_get js k ≡ Some j → outputs (drop k js) ≡ cond (has_output j.kind) 1 0 + outputs (drop (k + 1) js)
outputs_at js k j is =
    ap outputs (from_place js k j is) ∙ sum_by-cons (λ (i : Instance). cond (has_output i.kind) 1 0) j (drop (k + 1) js)

pub outputs_more : (js : List Instance) (k n : ℕ) (j : Instance) → slice_get js k ≡ Some j →
    has_output j.kind ≡ true → n + outputs (drop k js) ≡ outputs js → n + 1 + outputs (drop (k + 1) js) ≡ outputs js
outputs_more js k n j is makes so =
    let one : cond (has_output j.kind) 1 0 ≡ 1 = ap (λ b. cond {A = ℕ} b 1 0) makes in
    let count = outputs_at js k j is in
    omega (arith, count, one, so)

pub outputs_same : (js : List Instance) (k n : ℕ) (j : Instance) → slice_get js k ≡ Some j →
    has_output j.kind ≡ false → n + outputs (drop k js) ≡ outputs js → n + outputs (drop (k + 1) js) ≡ outputs js
outputs_same js k n j is makes so =
    let none : cond (has_output j.kind) 1 0 ≡ 0 = ap (λ b. cond {A = ℕ} b 1 0) makes in
    let count = outputs_at js k j is in
    omega (arith, count, none, so)
