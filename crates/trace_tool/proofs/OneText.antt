-- The lines of a trace say its ticks, its delays and its bits.
use Rattle.std.proofs.Common.{◌≡◌, ℕ, zero, suc, ◌+◌, ◌<◌, ◌≤◌, Bool, List, [], ◌∷◌, length, drop, Option, Some, refl, ap, sym, ◌∙◌, arith, inl, inr}
use Rattle.std.specs.Prelude.{slice_get, slice_index_or, option_map, ◌⊎◌}
use Rattle.std.proofs.lemmas.Option.{same_Some, slice_get-get_or, slice_get-map, slice_get_past, slice_get_within}
use Rattle.flat_circuit.specs.declared.instance.Instance.{Instance}
use Rattle.flat_circuit.specs.Circuit.{Circuit, IsCircuit}
use Rattle.trace_sim.proofs.Places.{has_place}
use Rattle.trace_tool.specs.declared.extent.Extent.{Extent}
use Rattle.trace_tool.specs.declared.trace.Trace.{Trace}
use Rattle.trace_tool.specs.Trace.{delays_line, instance_line, line_order, line_text, net_line, pick_at, row_at, trace_lines, wires_at}
use Rattle.trace_tool.specs.Reading.{IsReadAs, IsTrace}
use Rattle.trace_tool.specs.Laws.{LinesSayBits}
use Rattle.trace_tool.proofs.Lines.{line_at_bits, line_at_delays}
use Rattle.trace_tool.proofs.Digits.{digits_are, digits_behind}
use Rattle.trace_tool.proofs.Distinct.{below_or_not}
use Rattle.trace_tool.proofs.Fronts.{same_lists}
use Rattle.trace_tool.proofs.Heads.{head_is_one, most_small}
use Rattle.trace_tool.proofs.Readback.{SayOne, one_line_says}

-- one line says one row
one_row : (c : Circuit) (n : ℕ) (row other : List Bool) → net_line c n row ≡ net_line c n other → row ≡ other
one_row c n row other same =
    let line = net_line c n row in
    let count = length (net_line c n []) in
    sym (digits_are row (drop count line) (digits_behind c n count row line (drop count line) refl refl refl))
    ∙ digits_are other (drop count line) (digits_behind c n count other line (drop count line) same refl refl)

-- the line of a net, where it stands
net_stands : (c : Circuit) (trace : Trace) (at n : ℕ) → slice_get c.order at ≡ Some n →
    slice_get (trace_lines c trace) (suc (length c.instances + at)) ≡ Some (net_line c n (row_at trace n))
net_stands c trace at n is =
    slice_get-map (line_text c trace) (line_order c) (suc (length c.instances + at))
    ∙ ap (option_map (line_text c trace)) (line_at_bits c at (suc (length c.instances + at)) n refl is)

same_rows : (c : Circuit) (t u : Trace) → IsCircuit c → trace_lines c t ≡ trace_lines c u → (n : ℕ) → n < length c.nets → row_at t n ≡ row_at u n
same_rows c t u known same n below =
    let at = has_place c known n below in
    let both = sym (net_stands c t at.place n at.is) ∙ ap (λ (ls : List (List ℕ)). slice_get ls (suc (length c.instances + at.place))) same
    ∙ net_stands c u at.place n at.is in
    one_row c n (row_at t n) (row_at u n) (let one : net_line c n (row_at t n) ≡ net_line c n (row_at u n) = cc in one)

pub lines_say_bits : LinesSayBits
lines_say_bits e c lines t u known one two =
    let same = sym one.are ∙ two.are in
    let most = most_small e in
    let few = one.is_trace.few in
    let small = two.is_trace.few in
    record {
      ticks = head_is_one t.ticks u.ticks (omega (arith, few, most)) (omega (arith, small, most)) (ap (λ (ls : List (List ℕ)). slice_index_or ls 0 []) same);
      bits = same_lists t.bits u.bits (λ n. by_number n (below_or_not n (length c.nets)) same);
    }
  where
    by_number : (n : ℕ) → (n < length c.nets) ⊎ (length c.nets ≤ n) → trace_lines c t ≡ trace_lines c u → slice_get t.bits n ≡ slice_get u.bits n
    by_number n (inl below) same =
        let first = one.is_trace.bits.rows in
        let second = two.is_trace.bits.rows in
        slice_get-get_or t.bits n [] (omega (arith, below, first))
        ∙ ap (λ (row : List Bool). Some row) (same_rows c t u known same n below)
        ∙ sym (slice_get-get_or u.bits n [] (omega (arith, below, second)))
    by_number n (inr past) same =
        let first = one.is_trace.bits.rows in
        let second = two.is_trace.bits.rows in
        slice_get_past t.bits n (omega (arith, past, first)) ∙ sym (slice_get_past u.bits n (omega (arith, past, second)))

-- ---- delays too

record Item {X : Type 0} (xs : List X) (k : ℕ) : Type 0 where
  item : X
  is : slice_get xs k ≡ Some item

item_at : {X : Type 0} (xs : List X) (k : ℕ) → k < length xs → Item xs k
item_at [] k below = absurd (omega (arith, below))
item_at (x ∷ xs) zero below = record { item = x; is = refl }
item_at (x ∷ xs) (suc k) below = let h = item_at xs k (omega (arith, below)) in record { item = h.item; is = h.is }

-- the line of an instance, where it stands
delays_stand : (c : Circuit) (trace : Trace) (k : ℕ) (i : Instance) → slice_get c.instances k ≡ Some i →
    slice_get (trace_lines c trace) (suc k) ≡ Some (instance_line i (pick_at trace k) (wires_at trace k))
delays_stand c trace k i here =
    slice_get-map (line_text c trace) (line_order c) (suc k)
    ∙ ap (option_map (line_text c trace)) (line_at_delays c k (suc k) refl (slice_get_within c.instances k i here))
    ∙ ap (λ (o : Option Instance). Some (delays_line o (pick_at trace k) (wires_at trace k))) here

one_instance_says : (e : Extent) (c : Circuit) (t u : Trace) → IsTrace e c t → IsTrace e c u → trace_lines c t ≡ trace_lines c u → (k : ℕ) → k < length c.instances →
    SayOne (pick_at t k) (pick_at u k) (wires_at t k) (wires_at u k)
one_instance_says e c t u one two same k below =
    let i = item_at c.instances k below in
    let both = sym (delays_stand c t k i.item i.is) ∙ ap (λ (ls : List (List ℕ)). slice_get ls (suc k)) same ∙ delays_stand c u k i.item i.is in
    one_line_says i.item (pick_at t k) (pick_at u k) (wires_at t k) (wires_at u k) (one.fit k i.item i.is).plain (two.fit k i.item i.is).plain
    (same_Some (instance_line i.item (pick_at t k) (wires_at t k)) (instance_line i.item (pick_at u k) (wires_at u k)) both)

-- lists that are so long have one item at each place, or none
same_items : {X : Type 0} (xs ys : List X) (d : X) (n k : ℕ) → length xs ≡ n → length ys ≡ n → (k < n → slice_index_or xs k d ≡ slice_index_or ys k d) →
    slice_get xs k ≡ slice_get ys k
same_items xs ys d n k first second each = elim (below_or_not k n) as (λ _. slice_get xs k ≡ slice_get ys k) [
  | inl below ↦ slice_get-get_or xs k d (omega arith) ∙ ap Some (each below) ∙ sym (slice_get-get_or ys k d (omega arith))
  | inr past ↦ slice_get_past xs k (omega arith) ∙ sym (slice_get_past ys k (omega arith))
]

-- So lines are those of one trace.
pub lines_say_trace : (e : Extent) (c : Circuit) (lines : List (List ℕ)) (t u : Trace) → IsCircuit c → IsReadAs e c lines t → IsReadAs e c lines u → t ≡ u
lines_say_trace e c lines t u known one two =
    let alike = lines_say_bits e c lines t u known one two in
    let same = sym one.are ∙ two.are in
    let says = one_instance_says e c t u one.is_trace two.is_trace same in
    let delays = same_lists t.delays u.delays (λ k. same_items t.delays u.delays (0, 0) (length c.instances) k one.is_trace.delays two.is_trace.delays
    (λ below. (says k below).picks)) in
    let wires = same_lists t.wires u.wires (λ k. same_items t.wires u.wires [] (length c.instances) k one.is_trace.wires two.is_trace.wires
    (λ below. (says k below).delays)) in
    ap (λ (n : ℕ). record { ticks = n; delays = t.delays; wires = t.wires; bits = t.bits }) alike.ticks
    ∙ ap (λ (ds : List (ℕ × ℕ)). record { ticks = u.ticks; delays = ds; wires = t.wires; bits = t.bits }) delays
    ∙ ap (λ (ws : List (List ℕ)). record { ticks = u.ticks; delays = u.delays; wires = ws; bits = t.bits }) wires
    ∙ ap (λ (rows : List (List Bool)). record { ticks = u.ticks; delays = u.delays; wires = u.wires; bits = rows }) alike.bits
