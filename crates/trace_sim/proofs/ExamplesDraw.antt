-- What words draw, worked out on paper. The words count up from the first, so that each tells which it is.
use Rattle.std.proofs.Common.{◌≡◌, ℕ, ◌+◌, true, false, List, [], ◌∷◌, Some, None, refl}
use Rattle.rand_core.specs.Stream.{Stream, next_u64}
use Rattle.rand_core.specs.Steps.{steps_u64_low, stream_of}
use Rattle.scald_base.specs.declared.assertion.AssertSpec.TheVariants.{Clock, Precision, Stable}
use Rattle.element_kinds.specs.declared.kind.Kind.TheVariants.{Buf, Chg, MinPulse}
use Rattle.flat_circuit.specs.declared.net.Net.{Net}
use Rattle.flat_circuit.specs.Circuit.{Circuit}
use Rattle.flat_circuit.proofs.RunTables.{bounds, checker, constant, driven_by, element, header, on, split_element, two, wired}
use Rattle.scald_base.specs.declared.assertion.AssertSpec.{AssertSpec}
use Rattle.scald_base.specs.declared.assertion.ClockSpec.{ClockSpec}
use Rattle.trace_sim.specs.Draw.{draw_bit, draw_bits, draw_from}
use Rattle.trace_sim.specs.Drawn.{draw_offset, draw_pick, draw_run}

-- the words from this one on
abbrev words : ℕ → Stream
words first = stream_of (steps_u64_low (λ (n : ℕ). (n, n + 1))) first

-- ---- numbers and bits

-- of 3 to 7 there are five
a_number : (draw_from 3 7 (words 12)).0 ≡ 5
unfolding next_u64 stream_of
a_number = refl

-- if there is one possibility, a word is taken all the same
one_possibility : (draw_bits 2 (draw_from 4 4 (words 12)).1).0 ≡ true ∷ false ∷ []
unfolding next_u64 stream_of
one_possibility = refl

lowest_bits : (draw_bits 4 (words 12)).0 ≡ false ∷ true ∷ false ∷ true ∷ []
unfolding next_u64 stream_of
lowest_bits = refl

-- ---- an instance

nets : List Net
nets = wired 0 2 None ∷ driven_by 0 ∷ []

-- One delay of 1 to 3 by word 10, and a wire of 0 to 2 by word 11; word 12 is left.
one_delay : (draw_pick nets (element Buf (bounds 1 3) (on 0 ∷ []) 1) (words 10)).0 ≡ ((2, 2), 2 ∷ [])
unfolding next_u64 stream_of nets
one_delay = refl

-- a rise of 1 to 3 by word 10 and a fall of 4 to 9 by word 11, before the wire by word 12
two_delays : (draw_pick nets (split_element Buf (two 1 3 4 9) (on 0 ∷ []) 1) (words 10)).0 ≡ ((2, 9), 0 ∷ [])
unfolding next_u64 stream_of nets
two_delays = refl

-- A change function has no delay, and a constant no wire: the one word is of the wire of the second pin.
no_delay : (draw_pick nets (element Chg (bounds 1 3) (constant true ∷ on 0 ∷ []) 1) (words 10)).0 ≡ ((0, 0), 0 ∷ 1 ∷ [])
unfolding next_u64 stream_of nets
no_delay = refl

-- nor has a checker
no_delay_to_check : (draw_pick nets (checker MinPulse (on 0 ∷ [])) (words 10)).0 ≡ ((0, 0), 1 ∷ [])
unfolding next_u64 stream_of nets
no_delay_to_check = refl

-- ---- a run

-- a clock that comes up to one tick early and up to two late
abbrev clock : ClockSpec
clock = record { spans = record { lo = 1; hi = 2 } ∷ []; low = false; skew = Some (1, 2) }

abbrev asserted : AssertSpec → Net
asserted spec = record (wired 0 2 None) { spec = spec }

-- Net 0 is driven by the buffer from net 1, and comes after it by name.
buffer : Circuit
buffer = record {
  header = header;
  nets = driven_by 0 ∷ asserted (Precision clock) ∷ [];
  instances = element Buf (bounds 1 3) (on 1 ∷ []) 0 ∷ [];
  order = 1 ∷ 0 ∷ [];
}

-- Words 10 and 11 are of the delay and the wire, 12 of the offset, of four; then come the free bits of net 1, and those of
-- net 0.
of_buffer : (draw_run buffer 2 (words 10)).0 ≡ record {
  picks = ((2, 2), 2 ∷ []) ∷ [];
  shifts = 0 ∷ 0 ∷ [];
  free = (true ∷ false ∷ []) ∷ (true ∷ false ∷ []) ∷ [];
}
unfolding next_u64 stream_of buffer
of_buffer = refl

-- a word later all is other
of_buffer_later : (draw_run buffer 2 (words 11)).0 ≡ record {
  picks = ((3, 3), 0 ∷ []) ∷ [];
  shifts = 1 ∷ 0 ∷ [];
  free = (false ∷ true ∷ []) ∷ (false ∷ true ∷ []) ∷ [];
}
unfolding next_u64 stream_of buffer
of_buffer_later = refl

-- no word is taken for the offset of a clock whose edges move each by itself, nor for that of a stable net
no_offset : (draw_offset header (Some (asserted (Clock clock))) (words 10)).0 ≡ 0
unfolding next_u64 stream_of
no_offset = refl

bit_after_no_offset : (draw_bit (draw_offset header (Some (asserted (Clock clock))) (words 11)).1).0 ≡ true
unfolding next_u64 stream_of
bit_after_no_offset = refl

bit_after_stable : (draw_bit (draw_offset header (Some (asserted (Stable []))) (words 11)).1).0 ≡ true
unfolding next_u64 stream_of
bit_after_stable = refl

-- one is for that of a clock that comes as a whole, if nothing drives it
bit_after_offset : (draw_bit (draw_offset header (Some (asserted (Precision clock))) (words 11)).1).0 ≡ false
unfolding next_u64 stream_of
bit_after_offset = refl

bit_after_driven : (draw_bit (draw_offset header (Some (record (asserted (Precision clock)) { driver = Some 0 })) (words 11)).1).0 ≡ true
unfolding next_u64 stream_of
bit_after_driven = refl
