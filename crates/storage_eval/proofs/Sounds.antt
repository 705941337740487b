-- A storage element is sound: its wave permits each output that obeys its equation.
use Rattle.std.proofs.Common.{◌≡◌, ℕ, ◌+◌, ◌-◌, ◌<◌, ◌≤◌, true, List, length, sym, ap, ◌∙◌, subst, arith}
use Rattle.scald_base.specs.Time.{Bounds}
use Rattle.scald_base.specs.Signal.{Signal}
use Rattle.step_values.specs.declared.value.Value.{Value}
use Rattle.step_values.specs.Cell.{values}
use Rattle.step_values.specs.Lawful.{values_lawful}
use Rattle.skew_algebra.specs.Wave.{Wave}
use Rattle.skew_algebra.specs.Permits.{Permits}
use Rattle.skew_algebra.proofs.Moves.{Permits_moved}
use Rattle.element_kinds.specs.declared.kind.Kind.{Kind}
use Rattle.element_kinds.specs.declared.kind.Kind.TheVariants.{Reg, RegRs, Latch, LatchRs}
use Rattle.flat_circuit.specs.Kind.{pin_counts}
use Rattle.element_kinds.specs.Equation.{Equation}
use Rattle.flat_circuit.specs.Run.{Within, DelayFits}
use Rattle.gate_eval.specs.Meeting.{period_of, meeting}
use Rattle.gate_eval.specs.Permitted.{AllPermit}
use Rattle.gate_eval.proofs.Fitting.{AllFit, as_many_waves}
use Rattle.gate_eval.proofs.Meets.{Makes, length_meeting, Permits_meeting}
use Rattle.storage_eval.specs.Storage.{is_storage, listening, storage_value}
use Rattle.gate_eval.specs.Instance.{IsSound}
use Rattle.storage_eval.specs.Instance.{storage_wave}
use Rattle.storage_eval.proofs.Stored.{allows, equation_allows, storage_has}
use Rattle.storage_eval.proofs.Heard.{permit_listening, fit_listening, period_listening}

-- a storage element has one delay
delay_within : (kind : Kind) (d : Bounds) (delay : ℕ) → is_storage kind ≡ true → DelayFits kind d delay → Within d delay
delay_within Reg d delay s fits = fits
delay_within RegRs d delay s fits = fits
delay_within Latch d delay s fits = fits
delay_within LatchRs d delay s fits = fits
delay_within kind d delay s fits = cc

-- the output as it would be without the delay
makes : (kind : Kind) (d : Bounds) (signals : List Signal) (output : Signal) (m v u delay : ℕ) → length signals ≡ (pin_counts kind).0 →
    v + d.max + 1 ≤ u + delay →
    ((t : ℕ) → v + d.max ≤ t → t < m → Equation kind d delay signals output t) →
    Makes values (storage_value kind) (m - delay) (listening kind signals) u (λ s. output (s + delay))
makes kind d signals output m v u delay long late obeys t t1 tu tm vs hs =
    let now : allows kind signals (t + delay - delay) (output (t + delay - 1)) (output (t + delay)) ≡ true =
    equation_allows kind d delay signals output (t + delay) (obeys (t + delay) (omega arith) (omega arith)) in
    let before : allows kind signals (t - 1 + delay - delay) (output (t - 1 + delay - 1)) (output (t - 1 + delay)) ≡ true =
    equation_allows kind d delay signals output (t - 1 + delay) (obeys (t - 1 + delay) (omega arith) (omega arith)) in
    let here : t + delay - delay ≡ t = omega arith in
    let last : t + delay - 1 ≡ t - 1 + delay = omega arith in
    let earlier : t - 1 + delay - delay ≡ t - 1 = omega arith in
    storage_has kind vs signals t (output (t - 1 + delay - 1)) (output (t - 1 + delay)) (output (t + delay)) long hs
    (subst (λ (s : ℕ). allows kind signals s (output (t - 1 + delay - 1)) (output (t - 1 + delay)) ≡ true) earlier before)
    (subst (λ (s : ℕ). allows kind signals s (output (t - 1 + delay)) (output (t + delay)) ≡ true) here
    (subst (λ (s : ℕ). allows kind signals (t + delay - delay) (output s) (output (t + delay)) ≡ true) last now))

pub storage_sound : (kind : Kind) (d : Bounds) (waves : List (Wave Value)) → is_storage kind ≡ true → length waves ≡ (pin_counts kind).0 →
    0 < period_of waves → AllFit values (period_of waves) waves → IsSound kind d waves (storage_wave kind waves d)
unfolding storage_wave
storage_sound kind d waves stores count some fits n m v delay signals output ps v1 delay_fits mn obeys =
    let within : Within d delay = delay_within kind d delay stores delay_fits in
    let low : d.min ≤ delay = within.0 in
    let high : delay ≤ d.max = within.1 in
    let u : ℕ = v + d.max - delay + 1 in
    let one : period_of (listening kind waves) ≡ period_of waves = period_listening kind waves in
    let some_heard : 0 < period_of (listening kind waves) = omega arith in
    let long : length signals ≡ (pin_counts kind).0 = sym (as_many_waves values waves n signals v ps) ∙ count in
    let fit : AllFit values (period_of (listening kind waves)) (listening kind waves) =
    subst (λ (p : ℕ). AllFit values p (listening kind waves)) (sym one) (fit_listening kind 0 (period_of waves) waves fits) in
    let permitted : AllPermit values (listening kind waves) (m - delay) (listening kind signals) u =
    permit_listening kind 0 waves signals n (m - delay) v u (omega arith) (omega arith) ps in
    let made : Permits values (meeting values (storage_value kind) (listening kind waves)) (m - delay) (λ s. output (s + delay)) u =
    Permits_meeting values (storage_value kind) values_lawful (listening kind waves) (m - delay) (listening kind signals) u (λ s. output (s + delay))
    some_heard fit permitted (makes kind d signals output m v u delay long (omega arith) obeys) in
    let length_is : length (meeting values (storage_value kind) (listening kind waves)).cells ≡ period_of (listening kind waves) =
    length_meeting values (storage_value kind) (listening kind waves) in
    Permits_moved values values_lawful (meeting values (storage_value kind) (listening kind waves)) d (omega arith)
    (m - delay) m u (v + d.max + 1) delay (λ s. output (s + delay)) output made low high (omega arith) (omega arith) (omega arith)
    (λ t tu tm. ap output (omega arith))
