-- What holds at all pins holds at those that listen.
use Rattle.std.proofs.Common.{◌≡◌, ℕ, ◌+◌, ◌<◌, ◌≤◌, Bool, true, false, cond, List, [], ◌∷◌, length, refl, sym, ◌∙◌, arith}
use Rattle.std.specs.List.{All}
use Rattle.std.proofs.lemmas.List.Elements.{All-nil, All-cons, All-head, All-tail, All-weaker}
use Rattle.scald_base.specs.Signal.{Signal}
use Rattle.step_values.specs.declared.value.Value.{Value}
use Rattle.step_values.specs.Cell.{values}
use Rattle.skew_algebra.specs.Wave.{Wave}
use Rattle.skew_algebra.specs.Permits.{Permits}
use Rattle.element_kinds.specs.declared.kind.Kind.{Kind}
use Rattle.element_kinds.specs.declared.kind.Kind.TheVariants.{Reg, RegRs, Latch, LatchRs}
use Rattle.element_kinds.specs.Kinds.{listens}
use Rattle.flat_circuit.specs.Kind.{pin_counts}
use Rattle.gate_eval.specs.Meeting.{period_of, HaveOnePeriod}
use Rattle.gate_eval.specs.Permitted.{AllPermit}
use Rattle.gate_eval.proofs.Fitting.{AllFit}
use Rattle.storage_eval.specs.Storage.{is_storage, listening_from, listening}

-- a shorter signal from a later tick on
sooner : (w : Wave Value) (n m v u : ℕ) (x : Signal) → m ≤ n → v ≤ u → Permits values w n x v → Permits values w m x u
sooner w n m v u x mn vu p =
    record { offset = p.offset; within = p.within; steps = λ t t1 tu tm. p.steps t t1 (omega arith) (omega arith) }

pub permit_listening : (kind : Kind) (place : ℕ) (waves : List (Wave Value)) (signals : List Signal) (n m v u : ℕ) → m ≤ n → v ≤ u →
    AllPermit values waves n signals v → AllPermit values (listening_from kind place waves) m (listening_from kind place signals) u
permit_listening kind place [] [] n m v u mn vu ps = tt
permit_listening kind place [] (x ∷ xs) n m v u mn vu ps = absurd ps
permit_listening kind place (w ∷ ws) [] n m v u mn vu ps = absurd ps
permit_listening kind place (w ∷ ws) (x ∷ xs) n m v u mn vu ps =
    by (listens kind place) (listening_from kind (place + 1) ws) (listening_from kind (place + 1) xs)
    (permit_listening kind (place + 1) ws xs n m v u mn vu ps.1)
  where
    by : (heard : Bool) (waves : List (Wave Value)) (signals : List Signal) → AllPermit values waves m signals u →
        AllPermit values (cond heard (w ∷ waves) waves) m (cond heard (x ∷ signals) signals) u
    by true waves signals rest = (sooner w n m v u x mn vu ps.0, rest)
    by false waves signals rest = rest

pub fit_listening : (kind : Kind) (place period : ℕ) (waves : List (Wave Value)) → AllFit values period waves →
    AllFit values period (listening_from kind place waves)
fit_listening kind place period [] fits = tt
fit_listening kind place period (w ∷ ws) fits =
    by (listens kind place) (listening_from kind (place + 1) ws) (fit_listening kind (place + 1) period ws fits.1)
  where
    by : (heard : Bool) (waves : List (Wave Value)) → AllFit values period waves → AllFit values period (cond heard (w ∷ waves) waves)
    by true waves rest = (fits.0, rest)
    by false waves rest = rest

-- the first pin listens, so the period is its own
pub period_listening : (kind : Kind) (waves : List (Wave Value)) → period_of (listening kind waves) ≡ period_of waves
period_listening Reg [] = refl
period_listening RegRs [] = refl
period_listening kind [] = refl
period_listening Reg (w ∷ ws) = refl
period_listening RegRs (w ∷ ws) = refl
period_listening kind (w ∷ ws) = refl

-- an element has pins
pub some_pins : (kind : Kind) (n : ℕ) → is_storage kind ≡ true → n ≡ (pin_counts kind).0 → 0 < n
some_pins Reg n stores count = omega arith
some_pins RegRs n stores count = omega arith
some_pins Latch n stores count = omega arith
some_pins LatchRs n stores count = omega arith
some_pins kind n stores count = cc

-- and one that listens
pub some_listening : (kind : Kind) (waves : List (Wave Value)) → is_storage kind ≡ true → length waves ≡ (pin_counts kind).0 →
    0 < length (listening kind waves)
some_listening Reg [] stores count = absurd (omega arith)
some_listening RegRs [] stores count = absurd (omega arith)
some_listening Latch [] stores count = absurd (omega arith)
some_listening LatchRs [] stores count = absurd (omega arith)
some_listening kind [] stores count = cc
some_listening Reg (w ∷ ws) stores count = omega arith
some_listening RegRs (w ∷ ws) stores count = omega arith
some_listening kind (w ∷ ws) stores count = omega arith

long_listening : (kind : Kind) (place period : ℕ) (waves : List (Wave Value)) → All (λ w. length w.cells ≡ period) waves →
    All (λ w. length w.cells ≡ period) (listening_from kind place waves)
long_listening kind place period [] long = All-nil (λ (w : Wave Value). length w.cells ≡ period)
long_listening kind place period (w ∷ ws) long =
    by (listens kind place) (listening_from kind (place + 1) ws)
    (long_listening kind (place + 1) period ws (All-tail (λ (w : Wave Value). length w.cells ≡ period) w ws long))
  where
    by : (heard : Bool) (waves : List (Wave Value)) → All (λ w. length w.cells ≡ period) waves →
        All (λ w. length w.cells ≡ period) (cond heard (w ∷ waves) waves)
    by true waves rest =
        All-cons (λ (w : Wave Value). length w.cells ≡ period) w waves (All-head (λ (w : Wave Value). length w.cells ≡ period) w ws long) rest
    by false waves rest = rest

pub one_period_listening : (kind : Kind) (waves : List (Wave Value)) → HaveOnePeriod waves → HaveOnePeriod (listening kind waves)
one_period_listening kind waves long =
    All-weaker (λ (w : Wave Value). length w.cells ≡ period_of waves) (λ (w : Wave Value). length w.cells ≡ period_of (listening kind waves))
    (λ w h. h ∙ sym (period_listening kind waves)) (listening kind waves) (long_listening kind 0 (period_of waves) waves long)
