-- Wire bounds by the numbers and by the names of nets.
use Rattle.std.proofs.Common.{◌≡◌, ℕ, zero, suc, ◌<◌, Bool, true, false, List, [], ◌∷◌, length, set, refl, sym, ◌∙◌, subst, arith}
use Rattle.scald_base.specs.Time.{Bounds}
use Rattle.flat_circuit.specs.Name.{Name, name_at, AreDistinct}
use Rattle.flat_circuit.specs.Builder.{Built, same_name, IsBuilt, after_wire}
use Rattle.flat_circuit.proofs.Tables.{same_name_is, same_name_refl}
use Rattle.macro_expander.specs.Flat.{set_wire, with_wire}
use Rattle.macro_expander.specs.declared.expansion.Expansion.{Expansion}
use Rattle.macro_expander.specs.Named.{On}
use Rattle.macro_expander.specs.Numbered.{Wired, names_in, nets_in, state_of}

tail_distinct : (n : Name) (names : List Name) → AreDistinct (n ∷ names) → AreDistinct names
tail_distinct n names d = λ i j h k e. let q : suc i ≡ suc j = d (suc i) (suc j) (omega arith) (omega arith) e in omega arith

other_by : (b : Bool) (a n : Name) (names : List Name) (i : ℕ) → same_name a n ≡ b → AreDistinct (n ∷ names) → i < length names → a ≡ name_at names i → b ≡ false
other_by false a n names i e d h is = refl
other_by true a n names i e d h is =
    let same : n ≡ name_at names i = same_name_is a n e ∙ is in
    let q : 0 ≡ suc i = d 0 (suc i) (omega arith) (omega arith) same in
    absurd (omega arith)

pub set_by_name : (names : List Name) (wires : List Bounds) (i : ℕ) (w : Bounds) → AreDistinct names →
    i < length names → length wires ≡ length names → set_wire names wires (name_at names i) w ≡ set wires i w
set_by_name [] wires i w d h l = absurd (omega arith)
set_by_name (n ∷ names) [] i w d h l = absurd (omega arith)
set_by_name (n ∷ names) (v ∷ wires) zero w d h l = rw (same_name_refl n) refl
set_by_name (n ∷ names) (v ∷ wires) (suc i) w d h l =
    let below : i < length names = omega arith in
    let long : length wires ≡ length names = omega arith in
    rw (other_by (same_name (name_at names i) n) (name_at names i) n names i refl d below refl, set_by_name names wires i w (tail_distinct n names d) below long) refl

pub wire_set : (e : Expansion) (b : Built) (i : ℕ) (w : Bounds) → IsBuilt e.builder → i < nets_in e → b ≡ after_wire e.builder i w →
    Wired e (record { statements = e.statements; builder = b }) (with_wire w (On (name_at (names_in e) i)) (state_of e))
wire_set e b i w built h is =
    subst (λ (x : Built). Wired e (record { statements = e.statements; builder = x }) (with_wire w (On (name_at (names_in e) i)) (state_of e))) (sym is)
    (record { is = rw (set_by_name (names_in e) e.builder.wires i w built.distinct h built.bounded) refl; names = refl; header = refl; statements = refl })
