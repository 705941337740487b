-- Tests of numbers, bits and lists, with what each decides.
use Rattle.std.proofs.Common.{◌≡◌, ℕ, zero, suc, ◌<◌, ◌≤◌, Bool, true, false, not, ◌&&◌, ◌||◌, List, nat_eq, nat_le, refl, sym, true≢false, All, Decides}
use Rattle.std.specs.Prelude.{⊤}
use Rattle.std.specs.List.{list_all}
use Rattle.std.proofs.lemmas.Bool.{leb-true, le-leb, eqb-true, eq-eqb}
use Rattle.std.proofs.lemmas.Bool.Decides.{Decides-by_and, Decides-below_and, Decides-below_or}

pub at_most_tells : (a b : ℕ) → Decides (nat_le a b) (a ≤ b)
at_most_tells a b = (leb-true a b, le-leb a b)

pub equal_tells : (a b : ℕ) → Decides (nat_eq a b) (a ≡ b)
equal_tells a b = (eqb-true a b, eq-eqb a b)

abbrev pub same_bit : Bool → Bool → Bool
same_bit true b = b
same_bit false b = not b

pub same_bit_tells : (a b : Bool) → Decides (same_bit a b) (a ≡ b)
same_bit_tells true true = (λ h. refl, λ h. refl)
same_bit_tells true false = (λ h. absurd (true≢false (sym h)), λ h. absurd (true≢false h))
same_bit_tells false true = (λ h. absurd (true≢false (sym h)), λ h. absurd (true≢false (sym h)))
same_bit_tells false false = (λ h. refl, λ h. refl)

pub always_tells : Decides true ⊤
always_tells = (λ h. tt, λ h. refl)

pub never_tells : Decides false ⊥
never_tells = (λ h. absurd (true≢false (sym h)), λ h. absurd h)

pub if_tells : {P Q : Type 0} (p q : Bool) → Decides p P → Decides q Q →
    Decides (not p || q) (P → Q)
if_tells true q d k = (λ h x. k.0 h, λ f. k.1 (f (d.0 refl)))
if_tells false q d k = (λ h x. absurd (true≢false (sym (d.1 x))), λ f. refl)

pub all_tells : {X : Type 0} (p : X → Bool) (P : X → Type 0) → ((x : X) → Decides (p x) (P x)) →
    (xs : List X) → Decides (list_all p xs) (All P xs)
all_tells p P each xs = Decides-by_and p P (list_all p) each refl (λ x xs. refl) xs

abbrev pub each_below : (ℕ → Bool) → ℕ → Bool
each_below p zero = true
each_below p (suc n) = p n && each_below p n

pub below_tells : (p : ℕ → Bool) (P : ℕ → Type 0) → ((t : ℕ) → Decides (p t) (P t)) → (n : ℕ) →
    Decides (each_below p n) ((t : ℕ) → t < n → P t)
below_tells p P each n = Decides-below_and p P (each_below p) each refl (λ n. refl) n

abbrev pub some_below : (ℕ → Bool) → ℕ → Bool
some_below p zero = false
some_below p (suc n) = p n || some_below p n

pub some_tells : (p : ℕ → Bool) (P : ℕ → Type 0) → ((t : ℕ) → Decides (p t) (P t)) → (n : ℕ) →
    Decides (some_below p n) ((t : ℕ) × (t < n) × P t)
some_tells p P each n = Decides-below_or p P (some_below p) each refl (λ n. refl) n
