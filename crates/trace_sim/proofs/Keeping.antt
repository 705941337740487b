-- What is drawn of a net keeps the net's assertion.
use Rattle.std.proofs.Common.{◌≡◌, ℕ, zero, suc, ◌+◌, ◌-◌, ◌<◌, ◌≤◌, Bool, true, cond, List, [], ◌∷◌, Some, None, Option, refl, ap, subst, sym, ◌∙◌, arith, inl}
use Rattle.std.specs.Prelude.{is_none, is_some, slice_get}
use Rattle.std.proofs.Math.Nat.{mod-lt}
use Rattle.std.proofs.lemmas.Option.{same_Some}
use Rattle.scald_base.specs.Time.{Header, period}
use Rattle.scald_base.specs.Signal.{Signal}
use Rattle.scald_base.specs.Quiet.{quiet}
use Rattle.scald_base.specs.Fitting.{Fits, skew_of}
use Rattle.scald_base.specs.declared.assertion.Span.{Span}
use Rattle.scald_base.specs.declared.assertion.AssertSpec.{AssertSpec}
use Rattle.scald_base.specs.declared.assertion.AssertSpec.TheVariants.{None as Unasserted, Precision, Clock, Stable}
use Rattle.rand_core.specs.Stream.{Stream, next_u64}
use Rattle.flat_circuit.specs.declared.net.Net.{Net}
use Rattle.pin_waves.specs.Meets.{Meets}
use Rattle.trace_sim.specs.Draw.{Draw, draw_each}
use Rattle.trace_sim.specs.Drawn.{draw_offset, draw_shift}
use Rattle.trace_sim.specs.Input.{asserted, given_in, held, slot_of}
use Rattle.trace_sim.specs.DrawLaws.{MayStay}
use Rattle.trace_sim.proofs.Moved.{keeps_clock}

-- ---- by the assertion

pub same_bits : (h : Header) (spec : AssertSpec) (n : ℕ) (x y : Signal) → ((t : ℕ) → t < n → x t ≡ y t) → Meets h spec n y → Meets h spec n x
same_bits h Unasserted n x y same meets = λ t some below.
    same (t - 1) (omega arith) ∙ meets t some below ∙ sym (same t below)
same_bits h (Precision c) n x y same meets = record {
  by = meets.by;
  within = meets.within;
  bits = λ t below. same t below ∙ meets.bits t below;
}
same_bits h (Clock c) n x y same meets = record {
  rises = λ t some below near high. same t below ∙ meets.rises t some below near (sym (same (t - 1) (omega arith)) ∙ high);
  falls = λ t some below near low. same t below ∙ meets.falls t some below near (sym (same (t - 1) (omega arith)) ∙ low);
  before = λ t some below no_rise no_fall. same (t - 1) (omega arith) ∙ meets.before t some below no_rise no_fall;
  after = λ t some below no_rise no_fall. same t below ∙ meets.after t some below no_rise no_fall;
}
same_bits h (Stable spans) n x y same meets = λ t some below calm.
    same (t - 1) (omega arith) ∙ meets t some below calm ∙ sym (same t below)

pub stays : (h : Header) (spec : AssertSpec) (n : ℕ) (one : Bool) → MayStay spec → Meets h spec n (λ t. one)
stays h Unasserted n one may = λ t some below. refl
stays h (Precision c) n one may = absurd may
stays h (Clock c) n one may = absurd may
stays h (Stable spans) n one may = λ t some below calm. refl

keeps_quiet : (h : Header) (spans : List Span) (free : Signal) (t : ℕ) → 1 ≤ t → quiet spans h (slot_of h t) ≡ true →
    held h spans free (t - 1) ≡ held h spans free t
keeps_quiet h spans free zero some calm = absurd (omega arith)
keeps_quiet h spans free (suc t) some calm =
    let back : suc t - 1 ≡ t = omega arith in
    ap (held h spans free) back ∙ sym (ap (λ (b : Bool). cond b (held h spans free t) (free (suc t))) calm)

-- how much later than its earliest a clock may come
abbrev pub IsShift : Header → AssertSpec → ℕ → Type 0
IsShift h Unasserted by = Unit {0}
IsShift h (Precision c) by = by ≤ (skew_of c h.pskew).0 + (skew_of c h.pskew).1
IsShift h (Clock c) by = Unit {0}
IsShift h (Stable spans) by = Unit {0}

pub keeps_asserted : (h : Header) (spec : AssertSpec) (n by : ℕ) (free : Signal) → 0 < period h → Fits h spec → IsShift h spec by →
    Meets h spec n (asserted h spec by free)
keeps_asserted h Unasserted n by free pos fits within = λ t some below. keeps_quiet h [] free t some refl
keeps_asserted h (Precision c) n by free pos fits within = record { by = by; within = within; bits = λ t below. refl }
keeps_asserted h (Clock c) n by free pos fits within = keeps_clock c h n free pos (λ shares. fits.edges (inl shares))
keeps_asserted h (Stable spans) n by free pos fits within = λ t some below calm. keeps_quiet h spans free t some calm

-- ---- what is given of a net that nothing drives

pub keeps_given : (h : Header) (value : Option Bool) (net : Net) (n by : ℕ) (free : Signal) → 0 < period h → Fits h net.spec →
    net.driver ≡ None → ((one : Bool) → value ≡ Some one → MayStay net.spec) → IsShift h net.spec by →
    Meets h net.spec n (given_in h value (Some net) by free)
keeps_given h (Some one) net n by free pos fits undriven may within = stays h net.spec n one (may one refl)
keeps_given h None net n by free pos fits undriven may within =
    same_bits h net.spec n (given_in h None (Some net) by free) (asserted h net.spec by free)
    (λ t below. ap (λ (d : Option ℕ). (cond (is_some d) free (asserted h net.spec by free)) t) undriven)
    (keeps_asserted h net.spec n by free pos fits within)

pub given_constant : (h : Header) (value : Option Bool) (net : Net) (by : ℕ) (free : Signal) (one : Bool) (t : ℕ) → value ≡ Some one →
    given_in h value (Some net) by free t ≡ one
given_constant h (Some other) net by free one t is = same_Some other one is
given_constant h None net by free one t is = absurd cc

-- ---- the offset that is drawn of it

-- what is drawn at a place of a list
pub drawn_at : {X Y : Type 0} (draw : X → Draw Y) (xs : List X) (s : Stream) (k : ℕ) (x : X) → slice_get xs k ≡ Some x →
    (from : Stream) × (slice_get (draw_each draw xs s).0 k ≡ Some (draw x from).0)
drawn_at draw [] s k x here = absurd cc
drawn_at draw (z ∷ zs) s zero x here = (s, ap (λ y. Some (draw y s).0) (same_Some z x here))
drawn_at draw (z ∷ zs) s (suc k) x here = drawn_at draw zs (draw z s).1 k x here

shift_within : (h : Header) (spec : AssertSpec) (s : Stream) → IsShift h spec (draw_shift h spec s).0
shift_within h Unasserted s = tt
shift_within h (Precision c) s =
    let most = (skew_of c h.pskew).0 + (skew_of c h.pskew).1 in
    let some : 0 < most - 0 + 1 = omega arith in
    let less = mod-lt (next_u64 s).0 some in omega arith
shift_within h (Clock c) s = tt
shift_within h (Stable spans) s = tt

pub offset_within : (h : Header) (net : Net) (s : Stream) → net.driver ≡ None → IsShift h net.spec (draw_offset h (Some net) s).0
offset_within h net s undriven =
    subst (IsShift h net.spec)
    (sym (ap (λ (d : Option ℕ). (cond (is_none d) (draw_shift h net.spec s) (0, s)).0) undriven))
    (shift_within h net.spec s)
