-- Rounds are sound: if waves permit a run from some tick on, those of the next round permit it `reach` ticks later.
use Rattle.std.proofs.Common.{◌≡◌, ℕ, zero, suc, ◌+◌, ◌-◌, ◌*◌, ◌<◌, ◌≤◌, Bool, true, false, List, [], ◌∷◌, length, map, refl, sym, ap, subst, ◌∙◌, arith, All, slice_get, Option, Some, None}
use Rattle.std.proofs.lemmas.Bool.{cond_both}
use Rattle.std.proofs.lemmas.List.Elements.{All-head, All-tail}
use Rattle.scald_base.specs.Time.{Bounds, period}
use Rattle.scald_base.specs.Signal.{Signal, turned}
use Rattle.vector_names.specs.declared.bits.Target.{Target}
use Rattle.vector_names.specs.declared.bits.Target.TheVariants.{Net as OnNet}
use Rattle.step_values.specs.declared.value.Value.{Value}
use Rattle.step_values.specs.Cell.{values}
use Rattle.step_values.specs.Lawful.{values_lawful}
use Rattle.skew_algebra.specs.Wave.{Wave, normal}
use Rattle.skew_algebra.specs.Permits.{Permits}
use Rattle.skew_algebra.proofs.Moves.{Permits_after, Permits_normal, Permits_flipped}
use Rattle.flat_circuit.specs.declared.instance.Pin.{Pin}
use Rattle.flat_circuit.specs.declared.instance.Instance.{Instance}
use Rattle.flat_circuit.specs.declared.net.Net.{Net}
use Rattle.flat_circuit.specs.declared.split.Split.{Split}
use Rattle.element_kinds.specs.Kinds.{has_output}
use Rattle.flat_circuit.specs.Instances.{InstanceFits, PinExists, out_of}
use Rattle.flat_circuit.specs.Circuit.{Circuit, IsCircuit, driver_at, instance_in}
use Rattle.flat_circuit.specs.Run.{Choice, Run, IsRun, DelaysFit, Obeys, IsRunAt, net_signal, pin_signals, out_signal, WiresFit}
use Rattle.flat_circuit.specs.Split.{either_delay, two_delays}
use Rattle.gate_eval.specs.Permitted.{AllPermit}
use Rattle.fixpoint_engine.specs.Waves.{Waves, pin_wave, pin_waves, marked_pin}
use Rattle.fixpoint_engine.specs.Interface.{PermitFront, PermitRun}
use Rattle.fixpoint_engine.proofs.Fits.{AreLong}
use Rattle.fixpoint_engine.proofs.Permitted.{pin_permits_front}
use Rattle.flat_circuit.proofs.Numbered.{fits_of}
use Rattle.fixpoint_engine.specs.Value.{made_by, turned_wave, instance_wave}
use Rattle.fixpoint_engine.specs.Rounds.{wave_from, evaluated, next, round}
use Rattle.fixpoint_engine.specs.Reach.{greatest_wire, greatest_delay, farthest, reach}
use Rattle.fixpoint_engine.proofs.Asked.{longest, wires_within, asked, asked_split}
use Rattle.fixpoint_engine.proofs.Drivers.{makes_of}
use Rattle.fixpoint_engine.proofs.Made.{length_turned, made_sound, made_split_sound, spans_both, made_long, instance_fits}

-- ---- pins

pins_permit : (c : Circuit) (run : Run) (n : ℕ) (ws : Waves) (ps : List Pin) (wires : List ℕ) (v u : ℕ) →
    0 < period c.header → AreLong c ws → All (PinExists (length c.nets)) ps → PermitFront c run n ws v → 1 ≤ v →
    WiresFit c.nets ps wires → v + greatest_wire c.nets ps ≤ u →
    AllPermit values (map (pin_wave c ws) ps) n (pin_signals run ps wires) u
pins_permit c run n ws [] [] v u some long exist permits v1 fits far = tt
pins_permit c run n ws [] (w ∷ wires) v u some long exist permits v1 fits far = absurd fits
pins_permit c run n ws (p ∷ ps) [] v u some long exist permits v1 fits far = absurd fits
pins_permit c run n ws (p ∷ ps) (w ∷ wires) v u some long exist permits v1 fits far = (
  pin_permits_front c run n ws p w v u some long (All-head (PinExists (length c.nets)) p ps exist) permits v1 fits.0 (omega arith),
  pins_permit c run n ws ps wires v u some long (All-tail (PinExists (length c.nets)) p ps exist) permits v1 fits.1 (omega arith),
)

-- ---- one instance

turned_turned : (inverted bit : Bool) → turned inverted (turned inverted bit) ≡ bit
turned_turned true true = refl
turned_turned true false = refl
turned_turned false bit = refl

permits_turned : (inverted : Bool) (w : Wave Value) (n v : ℕ) (x : Signal) → 0 < length w.cells → Permits values w n x v →
    Permits values (turned_wave inverted w) n (λ t. turned inverted (x t)) v
permits_turned true w n v x some permits = Permits_flipped values values_lawful w some n v x permits
permits_turned false w n v x some permits = permits

-- What is made of the waves at its pins permits its output, before the complement. The waves permit n
-- ticks of the pins, and what is made of them as many of the output as the least delay adds.
permits_made : (c : Circuit) (ws : Waves) (j : Instance) (choice : Choice) (n m seen : ℕ) (signals : List Signal) (output : Signal) (counted : Option Split) →
    0 < period c.header → AreLong c ws → InstanceFits c.header (length c.nets) j → has_output j.kind ≡ true → two_delays j.kind j.split ≡ counted →
    AllPermit values (pin_waves c ws j) n signals seen → 1 + longest choice.wires ≤ seen → m ≤ n + j.delay.min →
    DelaysFit j.kind j.delay counted choice → Obeys m j.kind j.delay counted choice signals output →
    Permits values (made_by j.kind (pin_waves c ws j) (marked_pin j) j.delay j.split) m output (seen + j.delay.max + 1)
permits_made c ws j choice n m seen signals output None some fit fits makes counted pins far ahead delay obeys =
    made_sound c ws j some fit fits makes counted n m seen choice.delay signals output pins (omega (arith, far)) delay ahead
    (λ t tv tm. obeys t tm (asked j.kind j.delay choice.delay choice.wires t makes delay (omega (arith, far))))
permits_made c ws j choice n m seen signals output (Some s) some fit fits makes counted pins far ahead delays obeys =
    let span : j.delay ≡ either_delay s = spans_both j.kind j.delay j.split s counted fits.split in
    let spanned : m ≤ n + (either_delay s).min = subst (λ (d : Bounds). m ≤ n + d.min) span ahead in
    subst (λ (d : Bounds). Permits values (made_by j.kind (pin_waves c ws j) (marked_pin j) j.delay j.split) m output (seen + d.max + 1)) (sym span)
    (made_split_sound c ws j s some fit fits counted n m seen choice.rise choice.fall signals output pins (omega (arith, far)) delays.0 delays.1 spanned
    (λ t tv tm. obeys t tm (asked_split s choice.rise choice.fall choice.wires t delays.0 delays.1 (omega (arith, far)))))

-- an instance of a run obeys its equation in fewer ticks too
obeys_fewer : (n m : ℕ) (j : Instance) (choice : Choice) (signals : List Signal) (output : Signal) → m ≤ n →
    Obeys n j.kind j.delay (two_delays j.kind j.split) choice signals output → Obeys m j.kind j.delay (two_delays j.kind j.split) choice signals output
obeys_fewer n m j choice signals output fewer obeys = λ t tm is_asked. obeys t (omega (arith, fewer, tm)) is_asked

-- If the waves permit the first n ticks of a run, what an instance makes permits as many ticks of its
-- output more as its least delay is, as far as the run goes.
instance_permits : (c : Circuit) (run : Run) (ws : Waves) (j : Instance) (i : ℕ) (choice : Choice) (n m v u : ℕ) →
    0 < period c.header → AreLong c ws → InstanceFits c.header (length c.nets) j → PermitFront c run n ws v → 1 ≤ v → m ≤ n + j.delay.min → m ≤ run.ticks →
    IsRunAt c run j choice → has_output j.kind ≡ true → j.out ≡ Some (OnNet i) → v + greatest_wire c.nets j.pins + j.delay.max + 1 ≤ u →
    Permits values (instance_wave c ws j) m (net_signal run i) u
unfolding instance_wave
instance_permits c run ws j i choice n m v u some fit fits permits v1 ahead inside at makes out far =
    let seen : ℕ = v + greatest_wire c.nets j.pins in
    let made : Wave Value = made_by j.kind (pin_waves c ws j) (marked_pin j) j.delay j.split in
    let output : Signal = out_signal run j.out j.out_inverted in
    let signals : List Signal = pin_signals run j.pins choice.wires in
    let wires = wires_within c.nets j.pins choice.wires at.wires in
    let made_permits : Permits values made m output (seen + j.delay.max + 1) =
    permits_made c ws j choice n m seen signals output (two_delays j.kind j.split) some fit fits makes refl
    (pins_permit c run n ws j.pins choice.wires v seen some fit fits.exists.reads permits v1 at.wires (omega arith))
    (omega (arith, wires)) ahead at.delay (obeys_fewer run.ticks m j choice signals output inside at.obeys) in
    let long : length made.cells ≡ period c.header = made_long c ws j some fit fits in
    let turned_permits = permits_turned j.out_inverted made m (seen + j.delay.max + 1) output (omega arith) made_permits in
    let turned_long : length (turned_wave j.out_inverted made).cells ≡ period c.header = length_turned j.out_inverted made ∙ long in
    let normal_permits = Permits_normal values values_lawful (turned_wave j.out_inverted made)
    (omega arith) m (seen + j.delay.max + 1) (λ t. turned j.out_inverted (output t)) turned_permits in
    Permits_after values (normal values (turned_wave j.out_inverted made)) m (seen + j.delay.max + 1) u (net_signal run i) far
    (subst (λ (x : Signal). Permits values (normal values (turned_wave j.out_inverted made)) m x (seen + j.delay.max + 1)) (is_net j.out out j.out_inverted) normal_permits)
  where
    minus_zero : (s : ℕ) → s - 0 ≡ s
    minus_zero s = omega arith

    is_net : (found : Option Target) → found ≡ Some (OnNet i) → (inverted : Bool) → (λ t. turned inverted (out_signal run found inverted t)) ≡ net_signal run i
    is_net found e inverted =
        subst (λ (o : Option Target). (λ t. turned inverted (out_signal run o inverted t)) ≡ net_signal run i) (sym e)
        (λ k t. (turned_turned inverted (net_signal run i (t - 0)) ∙ ap (net_signal run i) (minus_zero t)) k)

-- ---- all nets

farthest_of : (nets : List Net) (js : List Instance) (k : ℕ) (j : Instance) → slice_get js k ≡ Some j → greatest_delay j + greatest_wire nets j.pins ≤ farthest nets js
farthest_of nets [] k j is = cc
farthest_of nets (first ∷ js) zero j is = let same : first ≡ j = cc in rw same (omega arith)
farthest_of nets (first ∷ js) (suc k) j is = omega (arith, farthest_of nets js k j is)

delay_of : (j : Instance) → has_output j.kind ≡ true → greatest_delay j ≡ j.delay.max
delay_of j makes = rw makes refl

-- as many choices as instances
pub choice_of : {A B : Type 0} (xs : List A) (ys : List B) (k : ℕ) (x : A) → length ys ≡ length xs → slice_get xs k ≡ Some x → (y : B) × (slice_get ys k ≡ Some y)
choice_of [] ys k x long is = cc
choice_of (a ∷ xs) [] k x long is = absurd (omega arith)
choice_of (a ∷ xs) (b ∷ ys) zero x long is = (b, refl)
choice_of (a ∷ xs) (b ∷ ys) (suc k) x long is = choice_of xs ys k x (omega arith) is

driver_permits : (c : Circuit) (run : Run) (n : ℕ) (ws : Waves) (i : ℕ) (v : ℕ) (found : Option ℕ) → driver_at c.nets i ≡ found →
    0 < period c.header → IsCircuit c → IsRun c run → n ≤ run.ticks → AreLong c ws → PermitFront c run n ws v → 1 ≤ v → i < length c.nets →
    Permits values (wave_from c ws (instance_in c found) (ws i)) n (net_signal run i) (v + reach c)
driver_permits c run n ws i v None is some known isrun inside fit permits v1 below =
    Permits_after values (ws i) n v (v + reach c) (net_signal run i) (omega arith) (permits i below)
driver_permits c run n ws i v (Some k) is some known isrun inside fit permits v1 below = by (slice_get c.instances k) refl (known.drivers.is i k is)
  where
    by : (j : Option Instance) → slice_get c.instances k ≡ j → out_of j ≡ Some (OnNet i) → Permits values (wave_from c ws j (ws i)) n (net_signal run i) (v + reach c)
    by None at out = Permits_after values (ws i) n v (v + reach c) (net_signal run i) (omega arith) (permits i below)
    by (Some j) at out =
        let makes = makes_of c k i j known at out in
        let far = farthest_of c.nets c.instances k j at in
        let own = delay_of j makes in
        let choice = choice_of c.instances run.choices k j isrun.instances at in
        instance_permits c run ws j i choice.0 n n v (v + reach c) some fit (fits_of c k j known at) permits v1 (omega arith) inside
        (isrun.at k j choice.0 at choice.1) makes out (omega (arith, far, own))

-- If the waves permit the first n ticks of a run, those of the next round permit a driven net's ticks
-- past them too, as many as its driver's least delay.
pub driver_permits_ahead : (c : Circuit) (run : Run) (ws : Waves) (i k : ℕ) (j : Instance) (n m v : ℕ) →
    0 < period c.header → IsCircuit c → IsRun c run → AreLong c ws → driver_at c.nets i ≡ Some k → slice_get c.instances k ≡ Some j →
    PermitFront c run n ws v → 1 ≤ v → m ≤ n + j.delay.min → m ≤ run.ticks →
    Permits values (evaluated c ws i) m (net_signal run i) (v + reach c)
driver_permits_ahead c run ws i k j n m v some known isrun fit driven at permits v1 ahead inside =
    subst (λ (w : Wave Value). Permits values w m (net_signal run i) (v + reach c)) (sym value)
    (instance_permits c run ws j i choice.0 n m v (v + reach c) some fit (fits_of c k j known at) permits v1 ahead inside
    (isrun.at k j choice.0 at choice.1) makes out (omega (arith, far, own)))
  where
    out : j.out ≡ Some (OnNet i)
    out = subst (λ (o : Option Instance). out_of o ≡ Some (OnNet i)) at (known.drivers.is i k driven)

    makes : has_output j.kind ≡ true
    makes = makes_of c k i j known at out

    far : greatest_delay j + greatest_wire c.nets j.pins ≤ farthest c.nets c.instances
    far = farthest_of c.nets c.instances k j at

    own : greatest_delay j ≡ j.delay.max
    own = delay_of j makes

    choice : (y : Choice) × (slice_get run.choices k ≡ Some y)
    choice = choice_of c.instances run.choices k j isrun.instances at

    value : evaluated c ws i ≡ instance_wave c ws j
    value =
        ap (λ (found : Option ℕ). wave_from c ws (instance_in c found) (ws i)) driven
        ∙ ap (λ (o : Option Instance). wave_from c ws o (ws i)) at

next_permits : (c : Circuit) (active : ℕ → Bool) (run : Run) (n : ℕ) (ws : Waves) (v : ℕ) → 0 < period c.header → IsCircuit c → IsRun c run → n ≤ run.ticks → AreLong c ws → PermitFront c run n ws v → 1 ≤ v →
    PermitFront c run n (next c active ws) (v + reach c)
unfolding next
next_permits c active run n ws v some known isrun inside fit permits v1 i below =
    cond_both (active i) (evaluated c ws i) (ws i) (λ (w : Wave Value). Permits values w n (net_signal run i) (v + reach c))
    (λ a. driver_permits c run n ws i v (driver_at c.nets i) refl some known isrun inside fit permits v1 below)
    (λ a. Permits_after values (ws i) n v (v + reach c) (net_signal run i) (omega arith) (permits i below))

next_long : (c : Circuit) (active : ℕ → Bool) (ws : Waves) → 0 < period c.header → IsCircuit c → AreLong c ws → AreLong c (next c active ws)
unfolding next
next_long c active ws some known fit i below =
    cond_both (active i) (evaluated c ws i) (ws i) (λ (w : Wave Value). length w.cells ≡ period c.header) (λ a. by_driver (driver_at c.nets i) refl) (λ a. fit i below)
  where
    by : (k : ℕ) (j : Option Instance) → slice_get c.instances k ≡ j → out_of j ≡ Some (OnNet i) → length (wave_from c ws j (ws i)).cells ≡ period c.header
    by k None at out = fit i below
    by k (Some j) at out = (instance_fits c ws j some fit (fits_of c k j known at)).long

    by_driver : (found : Option ℕ) → driver_at c.nets i ≡ found → length (wave_from c ws (instance_in c found) (ws i)).cells ≡ period c.header
    by_driver None is = fit i below
    by_driver (Some k) is = by k (slice_get c.instances k) refl (known.drivers.is i k is)

pub round_long : (c : Circuit) (active : ℕ → Bool) (start : Waves) (r : ℕ) → 0 < period c.header → IsCircuit c → AreLong c start → AreLong c (round c active start r)
unfolding round
round_long c active start zero some known fit i below = fit i below
round_long c active start (suc r) some known fit i below = next_long c active (round c active start r) some known (round_long c active start r some known fit) i below

-- The waves of round r permit the first ticks of each run that those at the start permit, so many ticks
-- later.
pub round_sound_front : (c : Circuit) (active : ℕ → Bool) (start : Waves) (r : ℕ) → 0 < period c.header → IsCircuit c → AreLong c start →
    (run : Run) (n v : ℕ) → IsRun c run → n ≤ run.ticks → 1 ≤ v → PermitFront c run n start v → PermitFront c run n (round c active start r) (v + r * reach c)
unfolding round
round_sound_front c active start zero some known fit run n v isrun inside v1 permits i below =
    Permits_after values (start i) n v (v + 0 * reach c) (net_signal run i) (omega arith) (permits i below)
round_sound_front c active start (suc r) some known fit run n v isrun inside v1 permits i below =
    let before : PermitFront c run n (round c active start r) (v + r * reach c) = round_sound_front c active start r some known fit run n v isrun inside v1 permits in
    Permits_after values (next c active (round c active start r) i) n (v + r * reach c + reach c) (v + suc r * reach c) (net_signal run i) (omega arith)
    (next_permits c active run n (round c active start r) (v + r * reach c) some known isrun inside (round_long c active start r some known fit) before (omega arith) i below)

-- all of its ticks
pub round_sound : (c : Circuit) (active : ℕ → Bool) (start : Waves) (r : ℕ) → 0 < period c.header → IsCircuit c → AreLong c start →
    (run : Run) (v : ℕ) → IsRun c run → 1 ≤ v → PermitRun c run start v → PermitRun c run (round c active start r) (v + r * reach c)
round_sound c active start r some known fit run v isrun v1 permits =
    round_sound_front c active start r some known fit run run.ticks v isrun (omega arith) v1 permits
