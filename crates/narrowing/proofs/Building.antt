-- Building a narrowed circuit: what each net and instance leaves, and what the circuit is in the end.
use Rattle.std.proofs.Common.{◌≡◌, ℕ, zero, suc, ◌+◌, ◌≤◌, List, [], ◌∷◌, ◌++◌, take, refl, sym, ap, subst, ◌∙◌, add-one, zero-add, arith, slice_get, Option, Some, None, length}
use Rattle.std.proofs.lemmas.Bool.{cond_both}
use Rattle.std.proofs.lemmas.List.Elements.{All-weaker}
use Rattle.scald_base.specs.Time.{Header}
use Rattle.scald_base.specs.declared.assertion.AssertSpec.{AssertSpec}
use Rattle.vector_names.specs.declared.bits.Target.{Target}
use Rattle.vector_names.specs.declared.bits.Target.TheVariants.{Net as OnNet, Constant}
use Rattle.flat_circuit.specs.Builder.{Built, after_net, has_name}
use Rattle.flat_circuit.specs.Circuit.{Circuit, IsCircuit}
use Rattle.flat_circuit.specs.Instances.{InstanceFits, OutExists, PinExists, TargetExists}
use Rattle.flat_circuit.specs.Name.{Name}
use Rattle.element_kinds.specs.declared.form.Check.{Check}
use Rattle.element_kinds.specs.declared.form.Check.TheVariants.{SetupHold as AboutRise, RiseFall as RiseToFall, MinPulse as Widths}
use Rattle.element_kinds.specs.Kinds.{check_of}
use Rattle.flat_circuit.specs.Kind.{LimitsFitCheck}
use Rattle.flat_circuit.specs.declared.instance.Instance.{Instance}
use Rattle.flat_circuit.specs.declared.limits.Limits.{Limits}
use Rattle.flat_circuit.specs.declared.limits.Limits.TheVariants.{None as Unlimited, Edges, Pulses}
use Rattle.narrowing.specs.Narrowed.{by_parts, fine_header, narrowed_from}
use Rattle.narrowing.specs.declared.part.Part.{Part}
use Rattle.narrowing.proofs.Fine.{fine_period}
use Rattle.narrowing.proofs.SameLists.{at_number}

-- ---- nets

pub net_header : (b : Built) (name : Name) (spec : AssertSpec) → (after_net b name spec).header ≡ b.header
net_header b name spec =
    cond_both (has_name b.names name) b (record b { names = b.names ++ name ∷ []; wires = b.wires ++ b.header.wire ∷ [] })
    (λ (x : Built). x.header ≡ b.header) (λ e. refl) (λ e. refl)

pub net_instances : (b : Built) (name : Name) (spec : AssertSpec) → (after_net b name spec).instances ≡ b.instances
net_instances b name spec =
    cond_both (has_name b.names name) b (record b { names = b.names ++ name ∷ []; wires = b.wires ++ b.header.wire ∷ [] })
    (λ (x : Built). x.instances ≡ b.instances) (λ e. refl) (λ e. refl)

-- ---- instances between more nets

target_there : (few many : ℕ) (target : Target) → few ≤ many → TargetExists few target → TargetExists many target
target_there few many (OnNet i) less here = omega arith
target_there few many (Constant b) less here = tt

out_there : (few many : ℕ) (out : Option Target) → few ≤ many → OutExists few out → OutExists many out
out_there few many None less here = tt
out_there few many (Some target) less here = target_there few many target less here

-- limits go by the period
limits_fine : (h : Header) (check : Option Check) (limits : Limits) → LimitsFitCheck h check limits →
    LimitsFitCheck (fine_header h) check limits
limits_fine h None limits fit = fit
limits_fine h (Some AboutRise) Unlimited fit = fit
limits_fine h (Some AboutRise) (Edges setup hold) fit = subst (λ p. setup + hold ≤ p) (sym (fine_period h)) fit
limits_fine h (Some AboutRise) (Pulses high low) fit = fit
limits_fine h (Some RiseToFall) Unlimited fit = fit
limits_fine h (Some RiseToFall) (Edges setup hold) fit = subst (λ p. setup + hold ≤ p) (sym (fine_period h)) fit
limits_fine h (Some RiseToFall) (Pulses high low) fit = fit
limits_fine h (Some Widths) Unlimited fit = fit
limits_fine h (Some Widths) (Edges setup hold) fit = fit
limits_fine h (Some Widths) (Pulses high low) fit =
    subst (λ p. (high ≤ p) × (low ≤ p)) (sym (fine_period h)) fit

fits_fine : (h fine : Header) (few many : ℕ) (j : Instance) → fine ≡ fine_header h → few ≤ many →
    InstanceFits h few j → InstanceFits fine many j
fits_fine h fine few many j is less fits =
    subst (λ (x : Header). InstanceFits x many j) (sym is)
    (record {
      pins = fits.pins;
      has_out = fits.has_out;
      lim = limits_fine h (check_of j.kind) j.limits fits.lim;
      split = fits.split;
      exists = record {
        reads = All-weaker (PinExists few) (PinExists many) (λ p here. target_there few many p.target less here) j.pins
            fits.exists.reads;
        drives = out_there few many j.out less fits.exists.drives;
      };
    })

-- so do those that fit where an instance of the circuit does
pub narrowed_fits : (c : Circuit) (fine : Header) (many k : ℕ) (i j : Instance) → IsCircuit c →
    slice_get c.instances k ≡ Some i → fine ≡ fine_header c.header → length c.nets ≤ many →
    ((h : Header) (nets : ℕ) → InstanceFits h nets i → InstanceFits h nets j) → InstanceFits fine many j
narrowed_fits c fine many k i j known is own less keeps =
    fits_fine c.header fine (length c.nets) many j own less
    (keeps c.header (length c.nets)
    (at_number (InstanceFits c.header (length c.nets)) c.instances k i known.each is))

-- ---- the narrowed instances, one more

one_more : (parts : List Part) (from k : ℕ) (js : List Instance) (j : Instance) → slice_get js k ≡ Some j →
    narrowed_from parts from (take (suc k) js) ≡ narrowed_from parts from (take k js) ++ by_parts (from + k) j parts ∷ []
one_more parts from k [] j is = cc
one_more parts from zero (i ∷ js) j is =
    let same : i ≡ j = cc in
    ap (λ x. by_parts from x parts ∷ []) same ∙ ap (λ n. by_parts n j parts ∷ []) (the_same from)
  where
    the_same : (n : ℕ) → n ≡ n + 0
    the_same n = omega arith
one_more parts from (suc k) (i ∷ js) j is =
    ap (λ xs. by_parts from i parts ∷ xs)
    (one_more parts (from + 1) k js j is
    ∙ ap (λ n. narrowed_from parts (from + 1) (take k js) ++ by_parts n j parts ∷ []) (next from k))
  where
    next : (n m : ℕ) → n + 1 + m ≡ n + suc m
    next n m = omega arith

pub narrowed_more : (parts : List Part) (k : ℕ) (js : List Instance) (j : Instance) → slice_get js k ≡ Some j →
    narrowed_from parts 0 (take (k + 1) js) ≡ narrowed_from parts 0 (take k js) ++ by_parts k j parts ∷ []
narrowed_more parts k js j is =
    ap (λ (n : ℕ). narrowed_from parts 0 (take n js)) (add-one k)
    ∙ one_more parts 0 k js j is
    ∙ ap (λ (n : ℕ). narrowed_from parts 0 (take k js) ++ by_parts n j parts ∷ []) (zero-add k)

-- ---- the end

pub same_circuit : (c d : Circuit) → c.header ≡ d.header → c.nets ≡ d.nets → c.instances ≡ d.instances →
    c.order ≡ d.order → c ≡ d
same_circuit c d header nets instances order =
    λ t. record { header = header t; nets = nets t; instances = instances t; order = order t }
