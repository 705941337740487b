-- The nets of a narrowed circuit: as many as before, each with its wire and its driver.
use Rattle.std.proofs.Common.{◌≡◌, ℕ, zero, suc, ◌+◌, List, [], ◌∷◌, length, refl, sym, ap, ◌∙◌, arith, slice_get, Some}
use Rattle.scald_base.specs.Time.{Header}
use Rattle.scald_base.specs.declared.assertion.AssertSpec.{AssertSpec}
use Rattle.vector_names.specs.declared.bits.Target.{Target}
use Rattle.vector_names.specs.declared.bits.Target.TheVariants.{Net as OnNet, Constant}
use Rattle.flat_circuit.specs.declared.instance.Pin.{Pin}
use Rattle.flat_circuit.specs.declared.net.Net.{Net}
use Rattle.flat_circuit.specs.Run.{WireFits, WiresFit, net_wire_fits}
use Rattle.narrowing.specs.Narrowed.{narrowed_net, narrowed_nets}
use Rattle.narrowing.specs.declared.part.Part.{Part}

more : (n : ℕ) → n ≡ n + 0
more n = omega arith

next : (n m : ℕ) → n + 1 + m ≡ n + suc m
next n m = omega arith

pub narrowed_nets_long : (h : Header) (parts : List Part) (from : ℕ) (ns : List Net) →
    length (narrowed_nets h parts from ns) ≡ length ns
narrowed_nets_long h parts from [] = refl
narrowed_nets_long h parts from (n ∷ ns) = ap suc (narrowed_nets_long h parts (from + 1) ns)

net_there : (h : Header) (parts : List Part) (from k : ℕ) (ns : List Net) (n : Net) → slice_get ns k ≡ Some n →
    slice_get (narrowed_nets h parts from ns) k ≡ Some (narrowed_net h parts (from + k) n)
net_there h parts from k [] n is = cc
net_there h parts from zero (m ∷ ns) n is =
    let same : m ≡ n = cc in
    ap (λ (x : Net). Some (narrowed_net h parts from x)) same
    ∙ ap (λ (i : ℕ). Some (narrowed_net h parts i n)) (more from)
net_there h parts from (suc k) (m ∷ ns) n is =
    net_there h parts (from + 1) k ns n is ∙ ap (λ (i : ℕ). Some (narrowed_net h parts i n)) (next from k)

-- the net of a number has the assertion that parts make of its own
pub narrowed_there : (h : Header) (parts : List Part) (k : ℕ) (ns : List Net) (n : Net) → slice_get ns k ≡ Some n →
    slice_get (narrowed_nets h parts 0 ns) k ≡ Some (narrowed_net h parts k n)
narrowed_there h parts k ns n is =
    net_there h parts 0 k ns n is ∙ ap (λ (i : ℕ). Some (narrowed_net h parts i n)) (omega arith)

-- as code tests it
pub narrowed_net_at : (h : Header) (parts : List Part) (k : ℕ) (ns : List Net) (one n : Net) (spec : AssertSpec) →
    slice_get ns k ≡ Some n → spec ≡ (narrowed_net h parts k n).spec → one ≡ record n { spec = spec } →
    Some one ≡ slice_get (narrowed_nets h parts 0 ns) k
narrowed_net_at h parts k ns one n spec is own same =
    ap Some same ∙ ap (λ (s : AssertSpec). Some (record n { spec = s })) own ∙ sym (narrowed_there h parts k ns n is)

net_from : (h : Header) (parts : List Part) (from k : ℕ) (ns : List Net) (m : Net) →
    slice_get (narrowed_nets h parts from ns) k ≡ Some m →
    (n : Net) × (slice_get ns k ≡ Some n) × (m ≡ narrowed_net h parts (from + k) n)
net_from h parts from k [] m is = cc
net_from h parts from zero (n ∷ ns) m is =
    let same : narrowed_net h parts from n ≡ m = cc in
    (n, refl, sym same ∙ ap (λ (i : ℕ). narrowed_net h parts i n) (more from))
net_from h parts from (suc k) (n ∷ ns) m is =
    let rest = net_from h parts (from + 1) k ns m is in
    (rest.0, rest.1, rest.2 ∙ ap (λ (i : ℕ). narrowed_net h parts i rest.0) (next from k))

-- each net of the narrowed circuit is one of the circuit, narrowed
pub narrowed_from_net : (h : Header) (parts : List Part) (k : ℕ) (ns : List Net) (m : Net) →
    slice_get (narrowed_nets h parts 0 ns) k ≡ Some m →
    (n : Net) × (slice_get ns k ≡ Some n) × (m ≡ narrowed_net h parts k n)
narrowed_from_net h parts k ns m is =
    let found = net_from h parts 0 k ns m is in
    (found.0, found.1, found.2 ∙ ap (λ (i : ℕ). narrowed_net h parts i found.0) (omega arith))

-- ---- wires

wire_fits : (h : Header) (parts : List Part) (from i : ℕ) (ns : List Net) (w : ℕ) → net_wire_fits (slice_get ns i) w →
    net_wire_fits (slice_get (narrowed_nets h parts from ns) i) w
wire_fits h parts from i [] w fits = fits
wire_fits h parts from zero (n ∷ ns) w fits = fits
wire_fits h parts from (suc i) (n ∷ ns) w fits = wire_fits h parts (from + 1) i ns w fits

target_fits : (h : Header) (parts : List Part) (ns : List Net) (target : Target) (w : ℕ) → WireFits ns target w →
    WireFits (narrowed_nets h parts 0 ns) target w
target_fits h parts ns (OnNet i) w fits = wire_fits h parts 0 i ns w fits
target_fits h parts ns (Constant b) w fits = fits

pub wires_fit : (h : Header) (parts : List Part) (ns : List Net) (pins : List Pin) (wires : List ℕ) →
    WiresFit ns pins wires → WiresFit (narrowed_nets h parts 0 ns) pins wires
wires_fit h parts ns [] [] fit = fit
wires_fit h parts ns [] (w ∷ ws) fit = fit
wires_fit h parts ns (p ∷ ps) [] fit = fit
wires_fit h parts ns (p ∷ ps) (w ∷ ws) fit =
    (target_fits h parts ns p.target w fit.0, wires_fit h parts ns ps ws fit.1)
