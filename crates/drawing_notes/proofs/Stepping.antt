-- Steps between nets as searches take them: forwards by the readers of a net, backwards by the pins of its driver.
use Rattle.std.proofs.Common.{◌≡◌, ℕ, ◌+◌, ◌==◌, Bool, true, false, ◌&&◌, ◌||◌, List, [], ◌∷◌, refl, sym, ap, ◌∙◌, slice_get, Option, Some, None}
use Rattle.std.specs.List.{list_any}
use Rattle.std.proofs.lemmas.Bool.{eqb-true}
use Rattle.vector_names.specs.declared.bits.Target.{Target}
use Rattle.vector_names.specs.declared.bits.Target.TheVariants.{Net as OnNet, Constant}
use Rattle.element_kinds.specs.declared.kind.Kind.{Kind}
use Rattle.element_kinds.specs.declared.kind.Kind.TheVariants.{Buf, And, Or, Xor, Mux2, Mux4, Mux8, Chg, Reg, RegRs, Latch, LatchRs, SetupHold, RiseFall, MinPulse}
use Rattle.element_kinds.specs.Kinds.{listens}
use Rattle.flat_circuit.specs.declared.instance.Pin.{Pin}
use Rattle.flat_circuit.specs.declared.instance.Instance.{Instance}
use Rattle.flat_circuit.specs.Instances.{is_on, out_of, out_at, readers_of}
use Rattle.flat_circuit.specs.Circuit.{Circuit, IsCircuit, driver, instance_in}
use Rattle.fixpoint_engine.specs.Work.{hears_in, hears_from, is_on_any}
use Rattle.fixpoint_engine.specs.Worklist.{drives_in}
use Rattle.fixpoint_engine.proofs.Listening.{heard_by_reader, same_order}
use Rattle.drawing_notes.specs.Paths.{leads, passes_on}
use Rattle.drawing_notes.specs.Pins.{passes}
use Rattle.drawing_notes.specs.Search.{passes_to}

-- ---- gates and change functions listen at every pin

all_listen : (kind : Kind) → passes kind ≡ true → (place : ℕ) → listens kind place ≡ true
all_listen Buf is place = refl
all_listen And is place = refl
all_listen Or is place = refl
all_listen Xor is place = refl
all_listen Mux2 is place = refl
all_listen Mux4 is place = refl
all_listen Mux8 is place = refl
all_listen Chg is place = refl
all_listen Reg is place = absurd cc
all_listen RegRs is place = absurd cc
all_listen Latch is place = absurd cc
all_listen LatchRs is place = absurd cc
all_listen SetupHold is place = absurd cc
all_listen RiseFall is place = absurd cc
all_listen MinPulse is place = absurd cc

on_one : (net : ℕ) (t : Target) → is_on_any (λ j. net == j) t ≡ is_on net t
on_one net (OnNet i) = same_order net i
on_one net (Constant one) = refl

hears_all : (kind : Kind) → passes kind ≡ true → (net place : ℕ) (ps : List Pin) →
    hears_from (λ j. net == j) kind place ps ≡ list_any (λ (p : Pin). is_on net p.target) ps
hears_all kind is net place [] = refl
hears_all kind is net place (p ∷ ps) =
    ap (λ b. (b && is_on_any (λ j. net == j) p.target) || hears_from (λ j. net == j) kind (place + 1) ps) (all_listen kind is place)
    ∙ (λ k. on_one net p.target k || hears_all kind is net (place + 1) ps k)

-- ---- what leads is what passes on and hears

abbrev pub passes_in : Option Instance → Bool
passes_in None = false
passes_in (Some j) = passes j.kind

by_passing : (kind : Kind) (b : Bool) (net : ℕ) (ps : List Pin) → passes kind ≡ b →
    (passes kind && list_any (λ (p : Pin). is_on net p.target) ps) ≡ (passes kind && hears_from (λ j. net == j) kind 0 ps)
by_passing kind true net ps is = ap (λ b. passes kind && b) (sym (hears_all kind is net 0 ps))
by_passing kind false net ps is =
    ap (λ b. b && list_any (λ (p : Pin). is_on net p.target) ps) is ∙ ap (λ b. b && hears_from (λ j. net == j) kind 0 ps) (sym is)

pub passes_hears : (net : ℕ) (d : Option Instance) → passes_on net d ≡ (passes_in d && hears_in (λ j. net == j) d)
passes_hears net None = refl
passes_hears net (Some j) = by_passing j.kind (passes j.kind) net j.pins refl

passes_drives : (o : Option Instance) (i : ℕ) → passes_to o i ≡ (passes_in o && drives_in (out_of o) i)
passes_drives None i = refl
passes_drives (Some j) i = refl

-- ---- the readers of a net

never : (b : Bool) → (b && false) ≡ false
never true = refl
never false = refl

-- where only one number passes the second test, the first one counts at that number alone
pub any_guarded : (p q : ℕ → Bool) (b : Bool) (xs : List ℕ) → ((k : ℕ) → q k ≡ true → p k ≡ b) → list_any (λ k. p k && q k) xs ≡ (b && list_any q xs)
any_guarded p q b [] at = sym (never b)
any_guarded p q b (x ∷ xs) at = by (q x) refl (any_guarded p q b xs at)
  where
    both : (c r : Bool) → ((c && true) || (c && r)) ≡ (c && true)
    both true r = refl
    both false r = refl

    by : (t : Bool) → q x ≡ t → list_any (λ k. p k && q k) xs ≡ (b && list_any q xs) →
        ((p x && q x) || list_any (λ k. p k && q k) xs) ≡ (b && (q x || list_any q xs))
    by true is rest =
        (λ k. (at x is k && is k) || rest k) ∙ both b (list_any q xs) ∙ ap (λ t. b && (t || list_any q xs)) (sym is)
    by false is rest =
        ap (λ t. (p x && t) || list_any (λ k. p k && q k) xs) is ∙ ap (λ t. t || list_any (λ k. p k && q k) xs) (never (p x)) ∙ rest
        ∙ ap (λ t. b && (t || list_any q xs)) (sym is)

pub drives_on : (t : Option Target) (i : ℕ) → drives_in t i ≡ true → t ≡ Some (OnNet i)
drives_on None i drives = absurd cc
drives_on (Some (OnNet n)) i drives = ap (λ m. Some (OnNet m)) (eqb-true n i drives)
drives_on (Some (Constant one)) i drives = absurd cc

-- A net leads to what those of its readers drive that pass on what their pins do.
pub led_by_readers : (c : Circuit) (net i : ℕ) → IsCircuit c → list_any (λ k. passes_to (slice_get c.instances k) i) (readers_of c.instances net) ≡ leads c net i
led_by_readers c net i known =
    (λ t. list_any (λ k. passes_drives (slice_get c.instances k) i t) (readers_of c.instances net))
    ∙ any_guarded (λ k. passes_in (slice_get c.instances k)) (λ k. drives_in (out_at c.instances k) i) (passes_in (driver c i)) (readers_of c.instances net) one
    ∙ ap (λ b. passes_in (driver c i) && b) (heard_by_reader c net i known)
    ∙ sym (passes_hears net (driver c i))
  where
    one : (k : ℕ) → drives_in (out_at c.instances k) i ≡ true → passes_in (slice_get c.instances k) ≡ passes_in (driver c i)
    one k drives = ap (λ d. passes_in (instance_in c d)) (sym (known.drivers.of i k (drives_on (out_at c.instances k) i drives)))
