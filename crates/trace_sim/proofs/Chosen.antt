-- The picks of a choice that fits, instance by instance.
use Rattle.std.proofs.Common.{◌≡◌, ℕ, zero, suc, ◌≤◌, min, Bool, true, false, cond, List, [], ◌∷◌, length, Option, Some, None, refl, ap, sym, subst, ◌∙◌, arith}
use Rattle.std.specs.Prelude.{slice_get}
use Rattle.std.proofs.lemmas.List.Elements.{All-get_or}
use Rattle.std.proofs.lemmas.Option.{slice_get_within, get_or_from_slice_get, same_Some}
use Rattle.scald_base.specs.Time.{Bounds}
use Rattle.element_kinds.specs.declared.kind.Kind.{Kind}
use Rattle.element_kinds.specs.declared.kind.Kind.TheVariants.{Buf}
use Rattle.element_kinds.specs.declared.form.Form.{Form}
use Rattle.element_kinds.specs.declared.form.Form.TheVariants.{Gate, Change, Register, Latch as Enabled, Checker}
use Rattle.element_kinds.specs.Kinds.{form_of, makes_output, has_output, is_function, may_split}
use Rattle.element_kinds.proofs.Forms.{of_form}
use Rattle.flat_circuit.specs.declared.split.Split.{Split}
use Rattle.flat_circuit.specs.declared.instance.Pin.{Pin}
use Rattle.flat_circuit.specs.declared.instance.Instance.{Instance}
use Rattle.flat_circuit.specs.declared.net.Net.{Net}
use Rattle.flat_circuit.specs.Kind.{pin_counts}
use Rattle.flat_circuit.specs.Split.{either_delay, SplitFits, two_delays}
use Rattle.flat_circuit.specs.Instances.{InstanceFits}
use Rattle.flat_circuit.specs.Circuit.{Circuit, IsCircuit}
use Rattle.flat_circuit.specs.Run.{Choice as Chosen, DelayFitsForm, DelaysFit, WiresFit}
use Rattle.trace_sim.specs.declared.choice.Choice.{Choice}
use Rattle.trace_sim.specs.Choice.{chosen, all_chosen, choices_of, IsOneDelayForm, IsOneDelay, PickFits, ChoiceFits, PickFitsAt}
use Rattle.trace_sim.specs.Making.{near_in}
use Rattle.trace_sim.proofs.Fixed.{AsOne, IsGateByTwo}

-- ---- lists of picks

pub record Picked (delays : List (ℕ × ℕ)) (wires : List (List ℕ)) (k : ℕ) (at : Chosen) : Type 0 where
  pub pick : ℕ × ℕ
  pub row : List ℕ
  pub delay_is : slice_get delays k ≡ Some pick
  pub wires_are : slice_get wires k ≡ Some row
  pub is : chosen pick row ≡ at

pub picked : (ds : List (ℕ × ℕ)) (wss : List (List ℕ)) (k : ℕ) (at : Chosen) → slice_get (all_chosen ds wss) k ≡ Some at → Picked ds wss k at
picked [] wss k at e = absurd (cc)
picked (d ∷ ds) [] k at e = absurd (cc)
picked (d ∷ ds) (ws ∷ wss) zero at e = record { pick = d; row = ws; delay_is = refl; wires_are = refl; is = same_Some (chosen d ws) at e }
picked (d ∷ ds) (ws ∷ wss) (suc k) at e =
    let p = picked ds wss k at e in record { pick = p.pick; row = p.row; delay_is = p.delay_is; wires_are = p.wires_are; is = p.is }

pub chosen_at : (ds : List (ℕ × ℕ)) (wss : List (List ℕ)) (k : ℕ) (d : ℕ × ℕ) (ws : List ℕ) → slice_get ds k ≡ Some d → slice_get wss k ≡ Some ws →
    slice_get (all_chosen ds wss) k ≡ Some (chosen d ws)
chosen_at [] wss k d ws e f = absurd (cc)
chosen_at (x ∷ ds) [] k d ws e f = absurd (cc)
chosen_at (x ∷ ds) (y ∷ wss) zero d ws e f = ap Some (ap (λ p. chosen p y) (same_Some x d e) ∙ ap (λ q. chosen d q) (same_Some y ws f))
chosen_at (x ∷ ds) (y ∷ wss) (suc k) d ws e f = chosen_at ds wss k d ws e f

pub no_delays : (ds : List (ℕ × ℕ)) (wss : List (List ℕ)) (k : ℕ) → slice_get ds k ≡ None → slice_get (all_chosen ds wss) k ≡ None
no_delays [] wss k e = refl
no_delays (x ∷ ds) [] k e = refl
no_delays (x ∷ ds) (y ∷ wss) zero e = absurd (cc)
no_delays (x ∷ ds) (y ∷ wss) (suc k) e = no_delays ds wss k e

pub no_wires : (ds : List (ℕ × ℕ)) (wss : List (List ℕ)) (k : ℕ) → slice_get wss k ≡ None → slice_get (all_chosen ds wss) k ≡ None
no_wires [] wss k e = refl
no_wires (x ∷ ds) [] k e = refl
no_wires (x ∷ ds) (y ∷ wss) zero e = absurd (cc)
no_wires (x ∷ ds) (y ∷ wss) (suc k) e = no_wires ds wss k e

pub length_chosen : (ds : List (ℕ × ℕ)) (wss : List (List ℕ)) (n : ℕ) → length ds ≡ n → length wss ≡ n → length (all_chosen ds wss) ≡ n
length_chosen [] wss n e f = e
length_chosen (x ∷ ds) [] n e f = absurd (omega arith)
length_chosen (x ∷ ds) (y ∷ wss) n e f = let r = length_chosen ds wss (length ds) refl (omega arith) in omega arith

-- ---- what is known at one instance

pub record IsFitting (c : Circuit) (i : Instance) (at : Chosen) : Type 0 where
  pub delay : DelaysFit i.kind i.delay (two_delays i.kind i.split) at
  pub wires : WiresFit c.nets i.pins at.wires
  pub one : AsOne (form_of i.kind) (two_delays i.kind i.split) at
  pub gate : IsGateByTwo (form_of i.kind) (two_delays i.kind i.split)
  pub some : 1 ≤ length at.wires
  pub least : has_output i.kind ≡ true → near_in (form_of i.kind) i.delay at ≡ 0 → i.delay.min ≡ 0

pub fits_at : (c : Circuit) (k : ℕ) (i : Instance) → IsCircuit c → slice_get c.instances k ≡ Some i → InstanceFits c.header (length c.nets) i
fits_at c k i known at =
    let e = get_or_from_slice_get c.instances k i i at in
    subst (InstanceFits c.header (length c.nets)) e (All-get_or (InstanceFits c.header (length c.nets)) c.instances k i (slice_get_within c.instances k i at) known.each)

-- each kind has a pin
least_pin : (kind : Kind) → 1 ≤ (pin_counts kind).0
least_pin Buf = omega arith
least_pin kind = omega arith

wires_long : (nets : List Net) (pins : List Pin) (wires : List ℕ) → WiresFit nets pins wires → length wires ≡ length pins
wires_long nets [] [] f = refl
wires_long nets [] (w ∷ ws) f = absurd f
wires_long nets (p ∷ ps) [] f = absurd f
wires_long nets (p ∷ ps) (w ∷ ws) f = let r = wires_long nets ps ws f.1 in omega arith

as_one : (kind : Kind) (split : Option Split) (pick : ℕ × ℕ) (wires : List ℕ) → IsOneDelay kind split pick → AsOne (form_of kind) split (chosen pick wires)
as_one kind None pick wires h = by (form_of kind) h
  where
    by : (form : Form) → IsOneDelayForm form pick → AsOne form None (chosen pick wires)
    by Gate e = (refl, sym e)
    by Change e = tt
    by (Register forced) e = tt
    by (Enabled forced) e = tt
    by (Checker check) e = tt
as_one kind (Some s) pick wires h = by (form_of kind)
  where
    by : (form : Form) → AsOne form (Some s) (chosen pick wires)
    by Gate = tt
    by Change = tt
    by (Register forced) = tt
    by (Enabled forced) = tt
    by (Checker check) = tt

-- two delays that count are those that stand there, at a gate
record AreTwo (kind : Kind) (split : Option Split) (s : Split) : Type 0 where
  may : may_split kind ≡ true
  is : split ≡ Some s

are_two : (kind : Kind) (split : Option Split) (s : Split) → two_delays kind split ≡ Some s → AreTwo kind split s
are_two kind split s e = by (may_split kind) refl e
  where
    by : (b : Bool) → may_split kind ≡ b → cond b split None ≡ Some s → AreTwo kind split s
    by true m e = record { may = m; is = e }
    by false m e = absurd (cc)

gate_from : (form : Form) → is_function form ≡ true → form ≡ Gate
gate_from Gate e = refl
gate_from Change e = absurd (cc)
gate_from (Register forced) e = absurd (cc)
gate_from (Enabled forced) e = absurd (cc)
gate_from (Checker check) e = absurd (cc)

is_gate : (kind : Kind) (split : Option Split) → IsGateByTwo (form_of kind) (two_delays kind split)
is_gate kind split = by (two_delays kind split) refl
  where
    by : (two : Option Split) → two_delays kind split ≡ two → IsGateByTwo (form_of kind) two
    by None e = tt
    by (Some s) e = gate_from (form_of kind) (of_form is_function kind ∙ (are_two kind split s e).may)

-- an instance that may look at its pins at once may have no delay
least_one : (form : Form) (d : Bounds) (at : Chosen) → AsOne form None at → DelayFitsForm form d at.delay → makes_output form ≡ true → near_in form d at ≡ 0 → d.min ≡ 0
least_one Gate d at one f o z = let l = f.0 in let a = one.0 in let b = one.1 in omega arith
least_one Change d at one f o z = z
least_one (Register forced) d at one f o z = let l = f.0 in omega arith
least_one (Enabled forced) d at one f o z = let l = f.0 in omega arith
least_one (Checker check) d at one f o z = absurd (cc)

least_two : (d : Bounds) (s : Split) (at : Chosen) → d ≡ either_delay s → s.rise.min ≤ at.rise → s.fall.min ≤ at.fall → min at.rise at.fall ≡ 0 → d.min ≡ 0
least_two d s at e r f z = let m : d.min ≡ min s.rise.min s.fall.min = ap (λ (x : Bounds). x.min) e in omega arith

least_with : (kind : Kind) (d : Bounds) (split two : Option Split) (at : Chosen) → two_delays kind split ≡ two → SplitFits kind d split → AsOne (form_of kind) two at →
    IsGateByTwo (form_of kind) two → DelaysFit kind d two at → has_output kind ≡ true → near_in (form_of kind) d at ≡ 0 → d.min ≡ 0
least_with kind d split None at e s one gate f o z = least_one (form_of kind) d at one f (of_form makes_output kind ∙ o) z
least_with kind d split (Some two) at e s one gate f o z =
    let t = are_two kind split two e in
    let fits : SplitFits kind d (Some two) = subst (SplitFits kind d) t.is s in
    least_two d two at fits.1 f.0.0 f.1.0 (subst (λ x. near_in x d at ≡ 0) gate z)

pub fitting_at : (c : Circuit) (choice : Choice) (k : ℕ) (i : Instance) (at : Chosen) → IsCircuit c → PickFitsAt c choice k →
    slice_get c.instances k ≡ Some i → slice_get (choices_of choice) k ≡ Some at → IsFitting c i at
fitting_at c choice k i at known fits here chose =
    let p = picked choice.delays choice.wires k at chose in
    let f = fits i p.pick p.row here p.delay_is p.wires_are in
    subst (IsFitting c i) p.is (fits_so p.pick p.row f)
  where
    fits_so : (pick : ℕ × ℕ) (row : List ℕ) → PickFits c i pick row → IsFitting c i (chosen pick row)
    fits_so pick row f =
        let j = fits_at c k i known here in
        let long = wires_long c.nets i.pins row f.wire in
        let least = least_pin i.kind in
        let pins = j.pins.least in
        record {
          delay = f.delay;
          wires = f.wire;
          one = as_one i.kind (two_delays i.kind i.split) pick row f.one;
          gate = is_gate i.kind i.split;
          some = omega arith;
          least = λ o z. least_with i.kind i.delay i.split (two_delays i.kind i.split) (chosen pick row) refl j.split
              (as_one i.kind (two_delays i.kind i.split) pick row f.one) (is_gate i.kind i.split) f.delay o z;
        }

pub fitting : (c : Circuit) (choice : Choice) (ticks k : ℕ) (i : Instance) (at : Chosen) → IsCircuit c → ChoiceFits c choice ticks →
    slice_get c.instances k ≡ Some i → slice_get (choices_of choice) k ≡ Some at → IsFitting c i at
fitting c choice ticks k i at known fits here chose = fitting_at c choice k i at known (fits.fits k) here chose
