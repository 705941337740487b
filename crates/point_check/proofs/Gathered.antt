-- Faults gathered one number after the other.
use Rattle.std.proofs.Common.{◌≡◌, ℕ, Bool, true, ◌+◌, ◌<◌, ◌≤◌, List, [], ◌∷◌, ◌++◌, length, get_or, take, refl, sym, ap, subst, ◌∙◌, arith, append_assoc, zero-add, slice_get, Option, Some, None}
use Rattle.std.specs.Prelude.{filter_map}
use Rattle.std.specs.List.{cons_option, range_with_len}
use Rattle.std.specs.Option.{option_map, option_to_list}
use Rattle.std.proofs.lemmas.List.{take_more}
use Rattle.std.proofs.lemmas.Option.{slice_get_within, get_or_from_slice_get}
use Rattle.std.proofs.lemmas.List.Elements.{filter_map-append, All-get_or}
use Rattle.scald_base.specs.Time.{Header, period}
use Rattle.scald_base.specs.Fitting.{Fits}
use Rattle.vector_names.proofs.Ranges.{range_more}
use Rattle.step_values.specs.declared.value.Value.{Value}
use Rattle.step_values.specs.Cell.{values}
use Rattle.skew_algebra.specs.Wave.{Wave, folded}
use Rattle.element_kinds.specs.declared.kind.Kind.{Kind}
use Rattle.element_kinds.specs.declared.kind.Kind.TheVariants.{SetupHold, RiseFall}
use Rattle.element_kinds.specs.Kinds.{checks_points}
use Rattle.flat_circuit.specs.Limits.{setup_of, hold_of}
use Rattle.flat_circuit.specs.declared.instance.Instance.{Instance}
use Rattle.flat_circuit.specs.declared.limits.Limits.TheVariants.{None as Unlimited, Edges, Pulses}
use Rattle.flat_circuit.specs.declared.limits.Limits.{Limits}
use Rattle.flat_circuit.specs.declared.net.Net.{Net}
use Rattle.flat_circuit.specs.declared.fault.Fault.{Fault}
use Rattle.flat_circuit.specs.Kind.{EdgesFit, LimitsFit}
use Rattle.flat_circuit.specs.Circuit.{Circuit, IsCircuit}
use Rattle.gate_eval.specs.Hold.{hazard}
use Rattle.fixpoint_engine.specs.Waves.{Waves, pin_waves, marked_pin, FitWaves, waves_of}
use Rattle.fixpoint_engine.specs.Pins.{read}
use Rattle.fixpoint_engine.proofs.ReadSlots.{read_folded, length_folded}
use Rattle.point_check.specs.Point.{first_fault, checker_fault}
use Rattle.point_check.specs.Assertion.{is_held}
use Rattle.point_check.specs.Faults.{hazard_at, mark_fault, fault_by_kind, fault_of, instance_fault, fault_if_held, fault_of_net, net_fault}

one_found : (o : Option Fault) → cons_option o [] ≡ option_to_list o
one_found None = refl
one_found (Some f) = refl

found_next : (find : ℕ → Option Fault) (xs : List ℕ) (x : ℕ) → filter_map find (xs ++ x ∷ []) ≡ filter_map find xs ++ option_to_list (find x)
found_next find xs x = filter_map-append find xs (x ∷ []) ∙ ap (λ (l : List Fault). filter_map find xs ++ l) (one_found (find x))

pub range_found : (find : ℕ → Option Fault) (n : ℕ) (faults more : List Fault) (found : Option Fault) →
    faults ≡ filter_map find (range_with_len 0 n) → found ≡ find n → more ≡ faults ++ option_to_list found →
    more ≡ filter_map find (range_with_len 0 (n + 1))
range_found find n faults more found so_far is e =
    e ∙ (λ i. so_far i ++ option_to_list (is i)) ∙ sym (found_next find (range_with_len 0 n) n) ∙ ap (filter_map find) (sym (range_more 0 n n (zero-add n)))

pub order_found : (find : ℕ → Option Fault) (order : List ℕ) (place number : ℕ) (before faults more : List Fault) (found : Option Fault) → place < length order → number ≡ get_or order place 0 →
    faults ≡ before ++ filter_map find (take place order) → found ≡ find number → more ≡ faults ++ option_to_list found → more ≡ before ++ filter_map find (take (place + 1) order)
order_found find order place number before faults more found below named so_far is e =
    e ∙ (λ i. so_far i ++ option_to_list ((is ∙ ap find named) i))
    ∙ append_assoc before (filter_map find (take place order)) (option_to_list (find (get_or order place 0)))
    ∙ ap (λ (l : List Fault). before ++ l) (sym (found_next find (take place order) (get_or order place 0)) ∙ ap (filter_map find) (sym (take_more order place 0 below)))

-- ---- one number

pub instance_is : (c : Circuit) (ws : Waves) (k : ℕ) (j : Instance) (found : Option Fault) → Some j ≡ slice_get c.instances k → found ≡ fault_by_kind j.kind c ws k j → found ≡ instance_fault c ws k
unfolding instance_fault
instance_is c ws k j found at e = e ∙ ap (fault_of c ws k) at

pub instance_not : (c : Circuit) (ws : Waves) (k : ℕ) → None ≡ slice_get c.instances k → None ≡ instance_fault c ws k
unfolding instance_fault
instance_not c ws k at = ap (fault_of c ws k) at

pub net_is : (c : Circuit) (ws : Waves) (i : ℕ) (net : Net) (held : Bool) (found : Option Fault) → Some net ≡ slice_get c.nets i → held ≡ is_held net → found ≡ fault_if_held held c ws i net →
    found ≡ net_fault c ws i
unfolding net_fault
net_is c ws i net held found at is e = e ∙ ap (λ (b : Bool). fault_if_held b c ws i net) is ∙ ap (fault_of_net c ws i) at

pub net_not : (c : Circuit) (ws : Waves) (i : ℕ) → None ≡ slice_get c.nets i → None ≡ net_fault c ws i
unfolding net_fault
net_not c ws i at = ap (fault_of_net c ws i) at

-- a hazard, by the waves and the mark that code has
pub mark_is : (c : Circuit) (ws : Waves) (k : ℕ) (j : Instance) (waves : List (Wave Value))
    (marked : Option ℕ) (o : Option (ℕ × ℕ)) (found : Option Fault) → waves ≡ pin_waves c ws j → marked ≡ marked_pin j →
    o ≡ hazard j.kind waves marked → found ≡ option_map (hazard_at k) o → found ≡ mark_fault c ws k j
mark_is c ws k j waves marked o found w m is e = e ∙ ap (option_map (hazard_at k)) (is ∙ (λ i. hazard j.kind (w i) (m i)))

-- ---- one checker, by the folds that code has

-- what a checker at edges of a clock may have as its limits
pub edges_limits : (h : Header) (l : Limits) → EdgesFit h l → setup_of l + hold_of l ≤ period h
edges_limits h Unlimited fits = absurd fits
edges_limits h (Edges setup hold) fits = fits
edges_limits h (Pulses high low) fits = absurd fits

pub points_limits : (h : Header) (kind : Kind) (l : Limits) → checks_points kind ≡ true → LimitsFit h kind l →
    setup_of l + hold_of l ≤ period h
points_limits h SetupHold l checks fits = edges_limits h l fits
points_limits h RiseFall l checks fits = edges_limits h l fits
points_limits h kind l checks fits = cc

pub checker_is : (kind : Kind) (k : ℕ) (clock input : Wave Value) (cs xs : List Value) (limits : Limits) (found : Option Fault) → 0 < length clock.cells → 0 < length input.cells →
    cs ≡ folded values clock → xs ≡ folded values input → found ≡ first_fault kind (length cs) k (read cs) (read xs) limits → found ≡ checker_fault kind (length clock.cells) k clock input limits
unfolding checker_fault
checker_is kind k clock input cs xs limits found some some' c_is x_is e =
    e ∙ (λ i. first_fault kind (length_folded clock cs c_is i) k (read_folded clock cs some c_is i) (read_folded input xs some' x_is i) limits)

pub same_checker : (kind : Kind) (p p' k : ℕ) (clock clock' input input' : Wave Value) (limits : Limits) (found : Option Fault) → p ≡ p' → clock ≡ clock' → input ≡ input' →
    found ≡ checker_fault kind p k clock input limits → found ≡ checker_fault kind p' k clock' input' limits
same_checker kind p p' k clock clock' input input' limits found pe ce xe e = e ∙ (λ i. checker_fault kind (pe i) k (ce i) (xe i) limits)

-- ---- one net, by the waves that code has

module _ (c : Circuit) (xs : List (Wave Value)) (i : ℕ) (net : Net) where
  pub net_below : FitWaves c xs → Some net ≡ slice_get c.nets i → i < length xs
  net_below fit at =
      let below = slice_get_within c.nets i net (sym at) in
      let each = fit.each_net in
      omega (arith, below, each)

  -- the wave of its number is of the period
  pub net_long : (x : Wave Value) → FitWaves c xs → Some net ≡ slice_get c.nets i → x ≡ waves_of xs i → length x.cells ≡ period c.header
  net_long x fit at is = ap (λ (w : Wave Value). length w.cells) is ∙ fit.each_slot i (slice_get_within c.nets i net (sym at))

-- its assertion fits
pub fits_at : (c : Circuit) (i : ℕ) (net : Net) → IsCircuit c → Some net ≡ slice_get c.nets i → Fits c.header net.spec
fits_at c i net known at =
    subst (λ (n : Net). Fits c.header n.spec) (get_or_from_slice_get c.nets i net net (sym at))
    (All-get_or (λ (n : Net). Fits c.header n.spec) c.nets i net (slice_get_within c.nets i net (sym at)) known.asserted)
