-- No line of a trace says what another one does.
use Rattle.std.proofs.Common.{◌≡◌, ◌≢◌, ℕ, zero, suc, ◌+◌, ◌-◌, ◌<◌, ◌≤◌, length, get_or, refl, ap, sym, subst, ◌∙◌, arith, inl, inr, Option, Some}
use Rattle.std.specs.Prelude.{slice_get, ◌⊎◌}
use Rattle.std.proofs.lemmas.Bool.{cases_order}
use Rattle.std.proofs.lemmas.Option.{slice_get-get_or, slice_get_within}
use Rattle.flat_circuit.specs.Circuit.{Circuit, IsCircuit}
use Rattle.trace_sim.proofs.Places.{net_inside, same_place}
use Rattle.trace_tool.specs.declared.line.Line.{Line}
use Rattle.trace_tool.specs.declared.line.Line.TheVariants.{Head, Delays, Bits, End}
use Rattle.trace_tool.specs.Trace.{line_order}
use Rattle.trace_tool.specs.Taking.{IsLineOf}
use Rattle.trace_tool.proofs.Lines.{line_at_bits, line_at_delays, line_at_end, line_count_is}

-- ---- places of lines

-- the line of a place, by what it says
pub data IsPlace (c : Circuit) (place : ℕ) (of : Line) : Type 0 where
  at_head : place ≡ 0 → of ≡ Head → IsPlace c place of
  at_delays : (k : ℕ) → place ≡ suc k → k < length c.instances → of ≡ Delays k → IsPlace c place of
  at_bits : (at n : ℕ) → place ≡ suc (length c.instances + at) → slice_get c.order at ≡ Some n → of ≡ Bits n → IsPlace c place of
  at_end : place ≡ suc (length c.instances + length c.order) → of ≡ End → IsPlace c place of

one_line : {X : Type 0} (o : Option X) (x y : X) → o ≡ Some x → o ≡ Some y → x ≡ y
one_line o x y first second = let same = sym first ∙ second in cc

place_behind : (c : Circuit) (at place : ℕ) (of : Line) → place ≡ suc (length c.instances + at) → slice_get (line_order c) place ≡ Some of →
    (at < length c.order) ⊎ ((at ≡ length c.order) ⊎ (length c.order < at)) → IsPlace c place of
place_behind c at place of is has (inl below) =
    let net = slice_get-get_or c.order at 0 below in
    at_bits at (get_or c.order at 0) is net (one_line (slice_get (line_order c) place) of (Bits (get_or c.order at 0)) has (line_at_bits c at place (get_or c.order at 0) is net))
place_behind c at place of is has (inr (inl last)) =
    let whole : place ≡ suc (length c.instances + length c.order) = omega (arith, is, last) in
    at_end whole (one_line (slice_get (line_order c) place) of End has (line_at_end c place whole))
place_behind c at place of is has (inr (inr past)) =
    absurd (let count = line_count_is c in let within = slice_get_within (line_order c) place of has in omega (arith, is, past))

pub below_or_not : (a b : ℕ) → (a < b) ⊎ (b ≤ a)
below_or_not zero zero = inr (omega arith)
below_or_not zero (suc b) = inl (omega arith)
below_or_not (suc a) zero = inr (omega arith)
below_or_not (suc a) (suc b) = elim (below_or_not a b) [ inl less ↦ inl (omega arith) | inr more ↦ inr (omega arith) ]

three_ways : (a b : ℕ) → (a < b) ⊎ ((a ≡ b) ⊎ (b < a))
three_ways a b = elim (cases_order a b) [
  | inl same ↦ inr (inl same)
  | inr apart ↦ elim apart [ inl less ↦ inl less | inr more ↦ inr (inr more) ]
]

pub place_of : (c : Circuit) (place : ℕ) (of : Line) → slice_get (line_order c) place ≡ Some of → IsPlace c place of
place_of c zero of has = at_head refl (one_line (slice_get (line_order c) 0) of Head has refl)
place_of c (suc k) of has = elim (below_or_not k (length c.instances)) [
  | inl below ↦ at_delays k refl below (one_line (slice_get (line_order c) (suc k)) of (Delays k) has (line_at_delays c k (suc k) refl below))
  | inr past ↦
      place_behind c (k - length c.instances) (suc k) of (omega (arith, past)) has (three_ways (k - length c.instances) (length c.order))
]

pub once : (c : Circuit) → IsCircuit c → (a b : ℕ) (of : Line) → IsPlace c a of → IsPlace c b of → a ≡ b
once c known a b of (at_head i x) (at_head j y) = i ∙ sym j
once c known a b of (at_head i x) (at_delays q j k y) = absurd (let clash = sym x ∙ y in cc)
once c known a b of (at_head i x) (at_bits l o j k y) = absurd (let clash = sym x ∙ y in cc)
once c known a b of (at_head i x) (at_end j y) = absurd (let clash = sym x ∙ y in cc)
once c known a b of (at_delays p i h x) (at_head j y) = absurd (let clash = sym x ∙ y in cc)
once c known a b of (at_delays p i h x) (at_delays q j k y) = let same = sym x ∙ y in cc
once c known a b of (at_delays p i h x) (at_bits l o j k y) = absurd (let clash = sym x ∙ y in cc)
once c known a b of (at_delays p i h x) (at_end j y) = absurd (let clash = sym x ∙ y in cc)
once c known a b of (at_bits m n i h x) (at_head j y) = absurd (let clash = sym x ∙ y in cc)
once c known a b of (at_bits m n i h x) (at_delays q j k y) = absurd (let clash = sym x ∙ y in cc)
once c known a b of (at_bits m n i h x) (at_bits l o j k y) =
    let net : n ≡ o = let same = sym x ∙ y in cc in
    let place = same_place c known m l o (h ∙ ap (λ (n : ℕ). Some n) net) k in
    i ∙ ap (λ (m : ℕ). suc (length c.instances + m)) place ∙ sym j
once c known a b of (at_bits m n i h x) (at_end j y) = absurd (let clash = sym x ∙ y in cc)
once c known a b of (at_end i x) (at_head j y) = absurd (let clash = sym x ∙ y in cc)
once c known a b of (at_end i x) (at_delays q j k y) = absurd (let clash = sym x ∙ y in cc)
once c known a b of (at_end i x) (at_bits l o j k y) = absurd (let clash = sym x ∙ y in cc)
once c known a b of (at_end i x) (at_end j y) = i ∙ sym j

pub line_is_of : (c : Circuit) → IsCircuit c → (place : ℕ) (of : Line) → IsPlace c place of → IsLineOf c of
line_is_of c known place of (at_head i x) = subst (IsLineOf c) (sym x) tt
line_is_of c known place of (at_delays p i h x) = subst (IsLineOf c) (sym x) h
line_is_of c known place of (at_bits at n i h x) = subst (IsLineOf c) (sym x) (net_inside c known at n h)
line_is_of c known place of (at_end i x) = subst (IsLineOf c) (sym x) tt

-- the head stands first alone
pub only_head : (c : Circuit) → IsCircuit c → (place : ℕ) (of : Line) → IsPlace c place of → 0 < place → of ≢ Head
only_head c known place of at some is = let first = once c known 0 place of (at_head refl is) at in omega (arith, first)
