-- Lines that are right, and lines that are just not.
use Rattle.std.proofs.Common.{◌≡◌, ◌≢◌, ℕ, zero, suc, ◌<◌, ◌≤◌, true, List, [], ◌∷◌, length, codes, None, refl, ap, sym, ◌∙◌, arith}
use Rattle.std.specs.Prelude.{slice_get, slice_index_or}
use Rattle.std.specs.Fmt.{digits}
use Rattle.std.proofs.lemmas.List.Elements.{All-cons, All-nil}
use Rattle.flat_circuit.specs.declared.instance.Instance.{Instance}
use Rattle.element_kinds.specs.declared.kind.Kind.TheVariants.{MinPulse}
use Rattle.vector_names.specs.declared.bits.Target.TheVariants.{Net as OnNet}
use Rattle.trace_sim.specs.Choice.{PickFits}
use Rattle.trace_tool.specs.declared.extent.Extent.{Extent}
use Rattle.trace_tool.specs.declared.extent.Extent.TheVariants.{Short, Long}
use Rattle.trace_tool.specs.Extent.{most_ticks}
use Rattle.trace_tool.specs.declared.trace.Trace.{Trace}
use Rattle.trace_tool.specs.Trace.{end_line, head_line, instance_line, line_order}
use Rattle.trace_tool.specs.Reading.{HasFirst, HasNoTrace, HasTrace, IsLine, IsRight, IsWrongLine}
use Rattle.trace_tool.proofs.Cutting.{each_byte, no_trace}
use Rattle.trace_tool.proofs.Heads.{head_found}
use Rattle.trace_tool.proofs.ExamplesText.{checked, made, on}

-- ---- where a trace ends

abbrev first_line : List ℕ
first_line = codes "TRACE 1"

-- the first line that says so ends it, and a second one is of the drawing
pub first_end_counts : HasTrace (codes "TRACE 1\nEND TRACE\nEND TRACE\n") (first_line ∷ end_line ∷ []) (codes "END TRACE\n")
first_end_counts = record {
  before = first_line ∷ [];
  are = refl;
  each = All-cons IsLine first_line [] (each_byte first_line refl) (All-nil IsLine);
  none_ends = All-cons (λ (line : List ℕ). line ≢ end_line) first_line [] other (All-nil (λ (line : List ℕ). line ≢ end_line));
  is = refl;
}
  where
    other : first_line ≢ end_line
    other same = let first = ap (λ (l : List ℕ). slice_index_or l 0 0) same in omega (arith, first)

-- a line without its byte 10 is none
pub end_has_to_end : HasNoTrace (codes "TRACE 1\nEND TRACE")
end_has_to_end = no_trace (codes "TRACE 1\nEND TRACE") refl

-- ---- the head

abbrev any_trace : Trace
any_trace = record { ticks = 1; delays = (0, 0) ∷ []; wires = (0 ∷ []) ∷ []; bits = (true ∷ []) ∷ [] }

-- a first line that is no head
wrong_head : (e : Extent) (line : List ℕ) (lines : List (List ℕ)) → ((n : ℕ) → 1 ≤ n → n ≤ most_ticks e → line ≡ head_line n → ⊥) → IsWrongLine e checked (line ∷ lines) 1
wrong_head e line lines none = record {
  some = omega arith;
  inside = omega arith;
  before = record { trace = any_trace; each = λ j below. absurd (omega (arith, below)) };
  here = λ first. let right = first.each 0 (omega arith) in none first.trace.ticks right.0.0 right.0.1 right.1;
}

pub no_ticks : IsWrongLine Short checked (codes "TRACE 0" ∷ end_line ∷ []) 1
no_ticks = wrong_head Short (codes "TRACE 0") (end_line ∷ []) (λ n some few same.
    let is = head_found (codes "TRACE 0") 0 n refl (omega (arith, few)) same in omega (arith, some, is))

one_tick_at : (lines : List (List ℕ)) (j : ℕ) → j < 1 →
    IsRight Short checked any_trace (slice_get (line_order checked) j) (slice_get (codes "TRACE 1" ∷ lines) j)
unfolding digits
one_tick_at lines zero below = ((omega arith, omega arith), refl)
one_tick_at lines (suc j) below = absurd (omega (arith, below))

pub one_tick : HasFirst Short checked (codes "TRACE 1" ∷ end_line ∷ []) 1
one_tick = record { trace = any_trace; each = one_tick_at (end_line ∷ []) }

pub too_many_ticks : IsWrongLine Short checked (codes "TRACE 4097" ∷ end_line ∷ []) 1
too_many_ticks = wrong_head Short (codes "TRACE 4097") (end_line ∷ []) (λ n some few same.
    let is = head_found (codes "TRACE 4097") 4097 n refl (omega (arith, few)) same in omega (arith, few, is))

-- as many may be asked for
abbrev long_trace : ℕ → Trace
long_trace n = record { ticks = n; delays = any_trace.delays; wires = any_trace.wires; bits = any_trace.bits }

more_ticks_at : (j : ℕ) → j < 1 →
    IsRight Long checked (long_trace 4097) (slice_get (line_order checked) j) (slice_get (codes "TRACE 4097" ∷ end_line ∷ []) j)
unfolding digits
more_ticks_at zero below = ((omega arith, omega arith), refl)
more_ticks_at (suc j) below = absurd (omega (arith, below))

pub more_ticks : HasFirst Long checked (codes "TRACE 4097" ∷ end_line ∷ []) 1
more_ticks = record { trace = long_trace 4097; each = more_ticks_at }

most_ticks_at : (j : ℕ) → j < 1 →
    IsRight Long checked (long_trace 1048576) (slice_get (line_order checked) j) (slice_get (codes "TRACE 1048576" ∷ end_line ∷ []) j)
unfolding digits
most_ticks_at zero below = ((omega arith, omega arith), refl)
most_ticks_at (suc j) below = absurd (omega (arith, below))

pub most_long_ticks : HasFirst Long checked (codes "TRACE 1048576" ∷ end_line ∷ []) 1
most_long_ticks = record { trace = long_trace 1048576; each = most_ticks_at }

-- and no more
pub too_long : IsWrongLine Long checked (codes "TRACE 1048577" ∷ end_line ∷ []) 1
too_long = wrong_head Long (codes "TRACE 1048577") (end_line ∷ []) (λ n some few same.
    let is = head_found (codes "TRACE 1048577") 1048577 n refl (omega (arith, few)) same in omega (arith, few, is))

six_long : length (head_line 6) ≡ 7
unfolding digits
six_long = refl

-- a leading zero
pub leading_zero : IsWrongLine Short checked (codes "TRACE 06" ∷ end_line ∷ []) 1
leading_zero = wrong_head Short (codes "TRACE 06") (end_line ∷ []) (λ n some few same.
    let is = head_found (codes "TRACE 06") 6 n refl (omega (arith, few)) same in
    let long = ap length same ∙ ap (λ (k : ℕ). length (head_line k)) (sym is) ∙ six_long in omega (arith, long))

-- ---- the line of a checker whose wire has no delay

abbrev of_checker : Instance
of_checker = made (codes "c1") MinPulse None (on (OnNet 0) ∷ []) None

no_such_wire : (pick : ℕ × ℕ) (wires : List ℕ) → PickFits checked of_checker pick wires → codes "c1<0> - : 1" ≡ instance_line of_checker pick wires → ⊥
unfolding digits instance_line
no_such_wire pick [] fits same = fits.wire
no_such_wire pick (w ∷ []) fits same =
    let small = fits.wire.0.1 in
    let none : w ≡ 0 = omega (arith, small) in
    let last = ap (λ (l : List ℕ). slice_index_or l 10 0) (same ∙ ap (λ (w : ℕ). instance_line of_checker pick (w ∷ [])) none) in omega (arith, last)
no_such_wire pick (w ∷ v ∷ ws) fits same = fits.wire.1

pub late_wire : IsWrongLine Short checked (codes "TRACE 1" ∷ codes "c1<0> - : 1" ∷ end_line ∷ []) 2
late_wire = record {
  some = omega arith;
  inside = omega arith;
  before = record { trace = any_trace; each = one_tick_at (codes "c1<0> - : 1" ∷ end_line ∷ []) };
  here = λ first.
      let right = first.each 1 (omega arith) in
      no_such_wire (slice_index_or first.trace.delays 0 (0, 0)) (slice_index_or first.trace.wires 0 []) right.0.fits right.1;
}

right_wire_at : (j : ℕ) → j < 2 → IsRight Short checked any_trace (slice_get (line_order checked) j)
    (slice_get (codes "TRACE 1" ∷ codes "c1<0> - : 0" ∷ end_line ∷ []) j)
unfolding digits instance_line
right_wire_at zero below = ((omega arith, omega arith), refl)
right_wire_at (suc zero) below = (
  record {
    fits = record { delay = tt; one = tt; wire = ((omega arith, omega arith), tt) };
    plain = record {
      delays_small = All-nil (λ (n : ℕ). n ≤ 4095);
      wires_small = All-cons (λ (n : ℕ). n ≤ 4095) 0 [] (omega arith) (All-nil (λ (n : ℕ). n ≤ 4095));
      whole = refl;
    };
  },
  refl,
)
right_wire_at (suc (suc j)) below = absurd (omega (arith, below))

pub right_wire : HasFirst Short checked (codes "TRACE 1" ∷ codes "c1<0> - : 0" ∷ end_line ∷ []) 2
right_wire = record { trace = any_trace; each = right_wire_at }
