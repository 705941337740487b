-- A list of cells has one list of runs.
use Rattle.std.proofs.Common.{◌≡◌, ◌≢◌, ℕ, zero, suc, ◌<◌, Bool, true, eqb, eq-eqb, List, [], ◌∷◌, ◌++◌, refl, sym, ap, arith}
use Rattle.std.specs.Prelude.{replicate, ◌&&◌}
use Rattle.std.specs.Cmp.Derive.{both_true}
use Rattle.std.proofs.lemmas.Bool.{eqb-true, and_parts}
use Rattle.run_wave.specs.declared.run.Run.{Run}
use Rattle.run_wave.specs.Run.{cells_of, BeginsWithout, IsRuns}

-- a test of cells that finds just the same ones finds just the same runs
pub same_run : {T : Type 0} (eq : T → T → Bool) → ((v w : T) → (eq v w ≡ true → v ≡ w) × (v ≡ w → eq v w ≡ true)) → (r s : Run T) →
    ((eq r.cell s.cell && eqb r.width s.width) ≡ true → r ≡ s) × (r ≡ s → (eq r.cell s.cell && eqb r.width s.width) ≡ true)
same_run {T} eq is r s = (
  λ h. (let found = and_parts (eq r.cell s.cell) (eqb r.width s.width) h in
      let cell = (is r.cell s.cell).0 found.0 in
      let width = eqb-true r.width s.width found.1 in
      λ i. record { cell = cell i; width = width i }),
  λ e. both_true ((is r.cell s.cell).1 (ap (λ (z : Run T). z.cell) e)) (eq-eqb r.width s.width (ap (λ (z : Run T). z.width) e)),
)

module _ {T : Type 0} where
  not_empty : (w : ℕ) (c : T) (xs : List T) → 0 < w → [] ≡ replicate w c ++ xs → ⊥
  not_empty zero c xs some e = omega arith
  not_empty (suc w) c xs some e = cc

  begins_at : (c d : T) (w : ℕ) (ys xs : List T) → 0 < w → c ≢ d → replicate w d ++ ys ≡ c ∷ xs → ⊥
  begins_at c d zero ys xs some other e = omega arith
  begins_at c d (suc w) ys xs some other e = other (let same : c ≡ d = cc in same)

  begins : (c : T) (rs : List (Run T)) (xs : List T) → IsRuns rs → BeginsWithout c rs → cells_of rs ≡ c ∷ xs → ⊥
  begins c [] xs h other e = cc
  begins c (r ∷ rs) xs h other e = begins_at c r.cell r.width (cells_of rs) xs h.0 other e

  heads : (c d : T) (w v : ℕ) (rs ss : List (Run T)) → 0 < w → 0 < v → BeginsWithout c rs → BeginsWithout d ss → IsRuns rs → IsRuns ss →
      replicate w c ++ cells_of rs ≡ replicate v d ++ cells_of ss → (c ≡ d) × ((w ≡ v) × (cells_of rs ≡ cells_of ss))
  heads c d zero v rs ss some some' other other' h h' e = absurd (omega arith)
  heads c d (suc w) zero rs ss some some' other other' h h' e = absurd (omega arith)
  heads c d (suc zero) (suc zero) rs ss some some' other other' h h' e = (cc, (refl, cc))
  heads c d (suc zero) (suc (suc v)) rs ss some some' other other' h h' e =
      let rest : cells_of rs ≡ c ∷ (replicate v d ++ cells_of ss) = cc in
      absurd (begins c rs (replicate v d ++ cells_of ss) h other rest)
  heads c d (suc (suc w)) (suc zero) rs ss some some' other other' h h' e =
      let rest : cells_of ss ≡ d ∷ (replicate w c ++ cells_of rs) = cc in
      absurd (begins d ss (replicate w c ++ cells_of rs) h' other' rest)
  heads c d (suc (suc w)) (suc (suc v)) rs ss some some' other other' h h' e =
      let rest : replicate (suc w) c ++ cells_of rs ≡ replicate (suc v) d ++ cells_of ss = cc in
      let same = heads c d (suc w) (suc v) rs ss (omega arith) (omega arith) other other' h h' rest in
      (same.0, (ap suc same.1.0, same.1.1))

  pub unique : (rs ss : List (Run T)) → IsRuns rs → IsRuns ss → cells_of rs ≡ cells_of ss → rs ≡ ss
  unique [] [] h h' e = refl
  unique [] (s ∷ ss) h h' e = absurd (not_empty s.width s.cell (cells_of ss) h'.0 e)
  unique (r ∷ rs) [] h h' e = absurd (not_empty r.width r.cell (cells_of rs) h.0 (sym e))
  unique (r ∷ rs) (s ∷ ss) h h' e =
      let same = heads r.cell s.cell r.width s.width rs ss h.0 h'.0 h.1.0 h'.1.0 h.1.1 h'.1.1 e in
      let rest = unique rs ss h.1.1 h'.1.1 same.1.1 in
      λ i. record { cell = same.0 i; width = same.1.0 i } ∷ rest i
