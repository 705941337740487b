-- What nets and pins show in a part of a run.
use Rattle.std.proofs.Common.{◌≡◌, ℕ, zero, suc, ◌+◌, ◌-◌, ◌≤◌, ◌<◌, Bool, false, List, [], ◌∷◌, map, take, drop, get_or, refl, sym, ap, subst, ◌∙◌, arith, slice_get, Some}
use Rattle.std.proofs.lemmas.List.{get_or-drop, get_or-take}
use Rattle.std.proofs.Math.ListN.{get_or-map}
use Rattle.scald_base.specs.Signal.{turned}
use Rattle.vector_names.specs.declared.bits.Target.{Target}
use Rattle.vector_names.specs.declared.bits.Target.TheVariants.{Net as OnNet, Constant}
use Rattle.element_kinds.specs.Equation.{nth_signal}
use Rattle.flat_circuit.specs.declared.instance.Instance.{Instance}
use Rattle.flat_circuit.specs.declared.instance.Pin.{Pin}
use Rattle.flat_circuit.specs.Circuit.{Circuit}
use Rattle.flat_circuit.specs.Laws.{front, later_part}
use Rattle.flat_circuit.specs.Run.{Choice, IsRun, Run, net_signal, pin_signals, target_signal}
use Rattle.fixpoint_engine.specs.Pins.{StepsFrom, pin_at, wire_to}
use Rattle.fixpoint_engine.specs.Reach.{farthest, greatest_wire, reach}
use Rattle.fixpoint_engine.proofs.Asked.{longest, wires_within}
use Rattle.flat_circuit.specs.declared.net.Net.{Net}

-- ---- nets

drop_none : (m : ℕ) → drop {A = Bool} m [] ≡ []
drop_none zero = refl
drop_none (suc m) = refl

take_none : (m : ℕ) → take {A = Bool} m [] ≡ []
take_none zero = refl
take_none (suc m) = refl

net_cut : (cut : List Bool → List Bool) → cut [] ≡ [] → (nets : List (List Bool)) (i : ℕ) →
    get_or (map cut nets) i [] ≡ cut (get_or nets i [])
net_cut cut none nets i =
    subst (λ (e : List Bool). get_or (map cut nets) i e ≡ cut (get_or nets i [])) none (get_or-map cut nets i [])

pub later_net : (m : ℕ) (run : Run) (i t : ℕ) → net_signal (later_part m run) i t ≡ net_signal run i (m + t)
later_net m run i t =
    ap (λ (bits : List Bool). get_or bits t false) (net_cut (drop m) (drop_none m) run.bits i)
    ∙ get_or-drop m (get_or run.bits i []) t false

pub front_net : (m : ℕ) (run : Run) (i t : ℕ) → t < m → net_signal (front m run) i t ≡ net_signal run i t
front_net m run i t below =
    ap (λ (bits : List Bool). get_or bits t false) (net_cut (take m) (take_none m) run.bits i)
    ∙ get_or-take m (get_or run.bits i []) t false below

-- ---- pins

module _ (m : ℕ) (run other : Run) (n : ℕ) (shows : (i t : ℕ) → t < n → net_signal other i t ≡ net_signal run i (m + t))
  where
    target_shows : (target : Target) (w t : ℕ) → w ≤ t → t < n →
        target_signal other target w t ≡ target_signal run target w (m + t)
    target_shows (OnNet i) w t late below =
        let at : m + (t - w) ≡ m + t - w = omega arith in
        shows i (t - w) (omega arith) ∙ ap (net_signal run i) at
    target_shows (Constant b) w t late below = refl

    pub pin_shows : (ps : List Pin) (ws : List ℕ) (pin t : ℕ) → get_or ws pin 0 ≤ t → t < n →
        nth_signal (pin_signals other ps ws) pin t ≡ nth_signal (pin_signals run ps ws) pin (m + t)
    pin_shows [] ws zero t late below = refl
    pin_shows [] ws (suc pin) t late below = refl
    pin_shows (p ∷ ps) [] zero t late below = refl
    pin_shows (p ∷ ps) [] (suc pin) t late below = refl
    pin_shows (p ∷ ps) (w ∷ ws) zero t late below = ap (turned p.inverted) (target_shows p.target w t late below)
    pin_shows (p ∷ ps) (w ∷ ws) (suc pin) t late below = pin_shows ps ws pin t late below

-- a pin shows in a later part what it showed so much later
pub later_pin : (m : ℕ) (run : Run) (j : Instance) (choice : Choice) (pin t : ℕ) → wire_to choice pin ≤ t →
    pin_at (later_part m run) j choice pin t ≡ pin_at run j choice pin (m + t)
later_pin m run j choice pin t late =
    pin_shows m run (later_part m run) (t + 1) (λ i u below. later_net m run i u) j.pins choice.wires pin t late (omega arith)

-- and in a front what it showed
pub front_pin : (m : ℕ) (run : Run) (j : Instance) (choice : Choice) (pin t : ℕ) → wire_to choice pin ≤ t → t < m →
    pin_at (front m run) j choice pin t ≡ pin_at run j choice pin t
front_pin m run j choice pin t late below =
    let here : (k : ℕ) → k ≡ 0 + k = λ k. omega arith in
    pin_shows 0 run (front m run) m (λ i u less. front_net m run i u less ∙ ap (net_signal run i) (here u)) j.pins
    choice.wires pin t late below
    ∙ ap (pin_at run j choice pin) (sym (here t))

-- ---- wires are shorter than the reach

at_most_longest : (ws : List ℕ) (pin : ℕ) → get_or ws pin 0 ≤ longest ws
at_most_longest [] zero = omega arith
at_most_longest [] (suc pin) = omega arith
at_most_longest (w ∷ ws) zero = omega arith
at_most_longest (w ∷ ws) (suc pin) = let rest = at_most_longest ws pin in omega (arith, rest)

in_farthest : (nets : List Net) (js : List Instance) (k : ℕ) (j : Instance) → slice_get js k ≡ Some j →
    greatest_wire nets j.pins ≤ farthest nets js
in_farthest nets [] k j is = cc
in_farthest nets (i ∷ js) zero j is =
    let same : i ≡ j = cc in
    let wire : greatest_wire nets i.pins ≡ greatest_wire nets j.pins = ap (λ (x : Instance). greatest_wire nets x.pins) same in
    omega (arith, wire)
in_farthest nets (i ∷ js) (suc k) j is = let rest = in_farthest nets js k j is in omega (arith, rest)

-- the wire to a pin takes less than the reach
pub short_wire : (c : Circuit) (run : Run) (k : ℕ) (j : Instance) (choice : Choice) (pin : ℕ) → IsRun c run →
    slice_get c.instances k ≡ Some j → slice_get run.choices k ≡ Some choice → wire_to choice pin + 1 ≤ reach c
short_wire c run k j choice pin is here chosen =
    let fit = (is.at k j choice here chosen).wires in
    let one : longest choice.wires ≤ greatest_wire c.nets j.pins = wires_within c.nets j.pins choice.wires fit in
    let own = at_most_longest choice.wires pin in
    let far = in_farthest c.nets c.instances k j here in
    omega (arith, one, own, far)

-- ---- steps

pub later_steps : (n : ℕ) (run : Run) (choice : Choice) (pin from t : ℕ) → wire_to choice pin + 1 ≤ from →
    StepsFrom run choice pin (n + from) (n + t) → StepsFrom (later_part n run) choice pin from t
later_steps n run choice pin from t wire steps =
    let after = steps.after in
    let ends = steps.ends in
    record { after = omega (arith, after); begins = omega (arith, after, wire); ends = omega (arith, ends) }

pub front_steps : (n : ℕ) (run : Run) (choice : Choice) (pin from t : ℕ) → t < n → StepsFrom run choice pin from t →
    StepsFrom (front n run) choice pin from t
front_steps n run choice pin from t below steps =
    let ends = steps.ends in
    record { after = steps.after; begins = steps.begins; ends = omega (arith, ends) }
