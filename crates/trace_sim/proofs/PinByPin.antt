-- Wires that fit, pin by pin.
use Rattle.std.proofs.Common.{◌≡◌, ℕ, zero, suc, ◌+◌, ◌<◌, false, List, [], ◌∷◌, length, get_or, arith, refl, subst, sym, inl, inr}
use Rattle.std.proofs.lemmas.Bool.{cases_eq}
use Rattle.vector_names.specs.declared.bits.Target.TheVariants.{Net as OnNet}
use Rattle.flat_circuit.specs.declared.instance.Pin.{Pin}
use Rattle.flat_circuit.specs.declared.net.Net.{Net}
use Rattle.flat_circuit.specs.Run.{WireFits, WiresFit}

-- what holds below a number, and of that number, holds below the next
pub next_one : (P : ℕ → Type 0) (n : ℕ) → ((i : ℕ) → i < n → P i) → P n → (i : ℕ) → i < n + 1 → P i
next_one P n before here i below = elim (cases_eq i n) as (λ _. P i) [
  | inl same ↦ subst P (sym same) here
  | inr apart ↦ before i (omega arith)
]

-- what stands for the pin past the last
abbrev no_pin : Pin
no_pin = record { target = OnNet 0; inverted = false; hold = false }

-- the wire to the pin at a place
abbrev pub WireFitsAt : List Net → List Pin → List ℕ → ℕ → Type 0
WireFitsAt nets pins wires place = WireFits nets (get_or pins place no_pin).target (get_or wires place 0)

pub fits_there : (nets : List Net) (pins : List Pin) (wires : List ℕ) (place : ℕ) → place < length pins →
    WiresFit nets pins wires → WireFitsAt nets pins wires place
fits_there nets [] wires place below fit = absurd (omega arith)
fits_there nets (p ∷ ps) [] place below fit = absurd fit
fits_there nets (p ∷ ps) (w ∷ ws) zero below fit = fit.0
fits_there nets (p ∷ ps) (w ∷ ws) (suc place) below fit = fits_there nets ps ws place (omega arith) fit.1

pub fit_from : (nets : List Net) (pins : List Pin) (wires : List ℕ) → length pins ≡ length wires →
    ((place : ℕ) → place < length pins → WireFitsAt nets pins wires place) → WiresFit nets pins wires
fit_from nets [] [] same each = tt
fit_from nets [] (w ∷ ws) same each = absurd (omega arith)
fit_from nets (p ∷ ps) [] same each = absurd (omega arith)
fit_from nets (p ∷ ps) (w ∷ ws) same each =
    (each 0 (omega arith), fit_from nets ps ws (omega arith) (λ place l. each (suc place) (omega arith)))

pub fit_long : (nets : List Net) (pins : List Pin) (wires : List ℕ) → WiresFit nets pins wires → length pins ≡ length wires
fit_long nets [] [] fit = refl
fit_long nets [] (w ∷ ws) fit = absurd fit
fit_long nets (p ∷ ps) [] fit = absurd fit
fit_long nets (p ∷ ps) (w ∷ ws) fit = let rest = fit_long nets ps ws fit.1 in omega arith
