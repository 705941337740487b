-- What a storage element makes of values that permit its pins' steps permits each output that its equation allows.
use Rattle.std.proofs.Common.{◌≡◌, ℕ, ◌-◌, Bool, true, false, not, ◌&&◌, if◌then◌else◌, List, [], ◌∷◌, length, refl, arith}
use Rattle.scald_base.specs.Time.{Bounds}
use Rattle.scald_base.specs.Signal.{Signal}
use Rattle.step_values.specs.declared.value.Value.{Value}
use Rattle.step_values.specs.Steps.{has}
use Rattle.step_values.specs.Cell.{values}
use Rattle.step_values.specs.Image.{reg_rule, latch_rule, reg_rs_rule, latch_rs_rule, set_reset}
use Rattle.step_values.proofs.Sound.{reg_of_has, reg_rs_of_has, latch_of_has, latch_rs_of_has}
use Rattle.element_kinds.specs.declared.kind.Kind.{Kind}
use Rattle.element_kinds.specs.declared.kind.Kind.TheVariants.{Reg, RegRs, Latch, LatchRs}
use Rattle.flat_circuit.specs.Kind.{pin_counts}
use Rattle.element_kinds.specs.Equation.{Equation, IsForced, nth_signal, registered, latched}
use Rattle.gate_eval.specs.Permitted.{AllHave}
use Rattle.storage_eval.specs.Storage.{listening, storage_value}

-- the rule of the kind allows this output at tick s of the pins
pub allows : Kind → List Signal → ℕ → Bool → Bool → Bool
allows Reg xs s old new = reg_rule (nth_signal xs 0 (s - 1)) (nth_signal xs 0 s) old new
allows RegRs xs s old new = reg_rs_rule (nth_signal xs 0 (s - 1)) (nth_signal xs 0 s) (nth_signal xs 2 s) (nth_signal xs 3 s) old new
allows Latch xs s old new = latch_rule (nth_signal xs 0 s) (nth_signal xs 1 s) old new
allows LatchRs xs s old new = latch_rs_rule (nth_signal xs 0 s) (nth_signal xs 1 s) (nth_signal xs 2 s) (nth_signal xs 3 s) old new
allows kind xs s old new = true

clocked : (clock clock' input old new : Bool) → new ≡ (if not clock && clock' then input else old) → reg_rule clock clock' old new ≡ true
clocked clock clock' input old new e = grind arith

enabled : (enable input old new : Bool) → new ≡ (if enable then input else old) → latch_rule enable input old new ≡ true
enabled enable input old new e = grind arith

forced : (set reset free rest new : Bool) → (new ≡ free → rest ≡ true) → IsForced set reset free new → set_reset set reset rest new ≡ true
forced true true free rest new h f = refl
forced true false free rest new h f = f
forced false true free rest new h f = grind (arith, f)
forced false false free rest new h f = h f

pub equation_allows : (kind : Kind) (bounds : Bounds) (delay : ℕ) (xs : List Signal) (output : Signal) (t : ℕ) → Equation kind bounds delay xs output t →
    allows kind xs (t - delay) (output (t - 1)) (output t) ≡ true
unfolding allows
equation_allows Reg bounds delay xs output t e =
    clocked (nth_signal xs 0 (t - delay - 1)) (nth_signal xs 0 (t - delay)) (nth_signal xs 1 (t - delay)) (output (t - 1)) (output t) e
equation_allows RegRs bounds delay xs output t e =
    forced (nth_signal xs 2 (t - delay)) (nth_signal xs 3 (t - delay)) (registered xs (t - delay) (output (t - 1))) _ (output t)
    (clocked (nth_signal xs 0 (t - delay - 1)) (nth_signal xs 0 (t - delay)) (nth_signal xs 1 (t - delay)) (output (t - 1)) (output t)) e
equation_allows Latch bounds delay xs output t e =
    enabled (nth_signal xs 0 (t - delay)) (nth_signal xs 1 (t - delay)) (output (t - 1)) (output t) e
equation_allows LatchRs bounds delay xs output t e =
    forced (nth_signal xs 2 (t - delay)) (nth_signal xs 3 (t - delay)) (latched xs (t - delay) (output (t - 1))) _ (output t)
    (enabled (nth_signal xs 0 (t - delay)) (nth_signal xs 1 (t - delay)) (output (t - 1)) (output t)) e
equation_allows kind bounds delay xs output t e = refl

reg_has : (vs : List Value) (c i : Signal) (s : ℕ) (older x y : Bool) → AllHave values vs (c ∷ []) s →
    allows Reg (c ∷ i ∷ []) (s - 1) older x ≡ true → allows Reg (c ∷ i ∷ []) s x y ≡ true → has (storage_value Reg vs) x y ≡ true
unfolding allows
reg_has (v ∷ []) c i s older x y hs before now = reg_of_has v (c (s - 1 - 1)) older (c (s - 1)) (c s) x y hs.0 before now
reg_has vs c i s older x y hs before now = refl

latch_has : (vs : List Value) (e i : Signal) (s : ℕ) (older x y : Bool) → AllHave values vs (e ∷ i ∷ []) s →
    allows Latch (e ∷ i ∷ []) (s - 1) older x ≡ true → allows Latch (e ∷ i ∷ []) s x y ≡ true → has (storage_value Latch vs) x y ≡ true
unfolding allows
latch_has (v ∷ w ∷ []) e i s older x y hs before now =
    latch_of_has v w older (e (s - 1)) (e s) (i (s - 1)) (i s) x y hs.0 hs.1.0 before now
latch_has vs e i s older x y hs before now = refl

reg_rs_has : (vs : List Value) (c i p r : Signal) (s : ℕ) (older x y : Bool) → AllHave values vs (c ∷ p ∷ r ∷ []) s →
    allows RegRs (c ∷ i ∷ p ∷ r ∷ []) (s - 1) older x ≡ true → allows RegRs (c ∷ i ∷ p ∷ r ∷ []) s x y ≡ true → has (storage_value RegRs vs) x y ≡ true
unfolding allows
reg_rs_has (u ∷ v ∷ w ∷ []) c i p r s older x y hs before now =
    reg_rs_of_has u v w (c (s - 1 - 1)) older (c (s - 1)) (c s) (p (s - 1)) (p s) (r (s - 1)) (r s) x y hs.0 hs.1.0 hs.1.1.0 before now
reg_rs_has vs c i p r s older x y hs before now = refl

latch_rs_has : (vs : List Value) (e i p r : Signal) (s : ℕ) (older x y : Bool) → AllHave values vs (e ∷ i ∷ p ∷ r ∷ []) s →
    allows LatchRs (e ∷ i ∷ p ∷ r ∷ []) (s - 1) older x ≡ true → allows LatchRs (e ∷ i ∷ p ∷ r ∷ []) s x y ≡ true → has (storage_value LatchRs vs) x y ≡ true
unfolding allows
latch_rs_has (t ∷ u ∷ v ∷ w ∷ []) e i p r s older x y hs before now =
    latch_rs_of_has t u v w older (e (s - 1)) (e s) (i (s - 1)) (i s) (p (s - 1)) (p s) (r (s - 1)) (r s) x y hs.0 hs.1.0 hs.1.1.0 hs.1.1.1.0 before now
latch_rs_has vs e i p r s older x y hs before now = refl

-- whatever the pins' steps, what is made of values that permit them permits each output step that the rule allows
pub storage_has : (kind : Kind) (vs : List Value) (xs : List Signal) (s : ℕ) (older x y : Bool) → length xs ≡ (pin_counts kind).0 →
    AllHave values vs (listening kind xs) s → allows kind xs (s - 1) older x ≡ true → allows kind xs s x y ≡ true → has (storage_value kind vs) x y ≡ true
storage_has Reg vs (c ∷ i ∷ []) s older x y long hs before now = reg_has vs c i s older x y hs before now
storage_has RegRs vs (c ∷ i ∷ p ∷ r ∷ []) s older x y long hs before now = reg_rs_has vs c i p r s older x y hs before now
storage_has Latch vs (e ∷ i ∷ []) s older x y long hs before now = latch_has vs e i s older x y hs before now
storage_has LatchRs vs (e ∷ i ∷ p ∷ r ∷ []) s older x y long hs before now = latch_rs_has vs e i p r s older x y hs before now
storage_has Reg vs xs s older x y long hs before now = absurd (omega arith)
storage_has RegRs vs xs s older x y long hs before now = absurd (omega arith)
storage_has Latch vs xs s older x y long hs before now = absurd (omega arith)
storage_has LatchRs vs xs s older x y long hs before now = absurd (omega arith)
storage_has kind vs xs s older x y long hs before now = refl
