-- A table that grows: what its numbers mean stays.
use Rattle.std.proofs.Common.{◌≡◌, ℕ, zero, suc, ◌+◌, ◌<◌, List, [], ◌∷◌, ◌++◌, length, refl, sym, ap, ◌∙◌, slice_get, Some, arith, append_assoc, length-append, take, drop}
use Rattle.std.proofs.lemmas.List.{append-nil, take-append-drop}
use Rattle.std.proofs.Math.ListN.{get_or-append}
use Rattle.step_values.specs.declared.value.Value.{Value}
use Rattle.skew_algebra.specs.Wave.{Wave, skewed}
use Rattle.fixpoint_engine.specs.Table.{AreKnown, Grows, wave_at, waves_at}

pub grows_none : {T : Type 0} (a b : List T) → b ≡ a → Grows a b
grows_none a b e = ([], e ∙ sym (append-nil a))

pub grows_trans : {T : Type 0} (a b c : List T) → Grows a b → Grows b c → Grows a c
grows_trans a b c g h = (g.0 ++ h.0, h.1 ∙ ap (λ l. l ++ h.0) g.1 ∙ append_assoc a g.0 h.0)

before_more : {T : Type 0} (xs more : List T) (i : ℕ) (w : T) → slice_get xs i ≡ Some w → slice_get (xs ++ more) i ≡ Some w
before_more [] more i w h = cc
before_more (x ∷ xs) more zero w h = h
before_more (x ∷ xs) more (suc i) w h = before_more xs more i w h

-- a table has grown from its first waves
pub take_grows : {T : Type 0} (kept : ℕ) (table : List T) → Grows (take kept table) table
take_grows kept table = (drop kept table, sym (take-append-drop kept table))

-- a number means what it meant
pub same_number : {T : Type 0} (old new : List T) (n : ℕ) (w : T) → Grows old new → slice_get old n ≡ Some w → slice_get new n ≡ Some w
same_number old new n w g at = ap (λ l. slice_get l n) g.1 ∙ before_more old g.0 n w at

module _ (old new : List (Wave Value)) (g : Grows old new) where
  pub longer : length old + length g.0 ≡ length new
  longer = sym (ap length g.1 ∙ length-append old g.0)

  pub below_still : (n : ℕ) → n < length old → n < length new
  below_still n below = omega (arith, below, longer)

  pub same_wave_at : (n : ℕ) → n < length old → wave_at new n ≡ wave_at old n
  same_wave_at n below = ap (λ l. wave_at l n) g.1 ∙ get_or-append old g.0 (skewed [] 0) n below

  -- so do numbers of a list
  pub same_waves : (ns : List ℕ) → AreKnown old ns → waves_at new ns ≡ waves_at old ns
  same_waves [] known = refl
  same_waves (n ∷ ns) known =
      let here : wave_at new n ≡ wave_at old n = same_wave_at n known.0 in
      let rest = same_waves ns known.1 in
      λ i. here i ∷ rest i

  pub known_still : (ns : List ℕ) → AreKnown old ns → AreKnown new ns
  known_still [] known = tt
  known_still (n ∷ ns) known = (below_still n known.0, known_still ns known.1)
