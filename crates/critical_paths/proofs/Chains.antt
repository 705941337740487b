-- Chains of places, each needed for the one before it.
use Rattle.std.proofs.Common.{◌≡◌, ℕ, zero, suc, ◌+◌, ◌*◌, true, List, [], ◌∷◌, ◌++◌, length, sym, ap, subst, ◌∙◌, arith, Some, inl, inr}
use Rattle.std.specs.Prelude.{slice_get}
use Rattle.std.proofs.lemmas.Option.{same_Some, slice_get_within}
use Rattle.flat_circuit.specs.Circuit.{Circuit, IsCircuit}
use Rattle.fixpoint_engine.specs.Waves.{Waves}
use Rattle.critical_paths.specs.declared.frames.Frame.{Frame}
use Rattle.critical_paths.specs.declared.arrival.Place.{Place}
use Rattle.critical_paths.specs.declared.path.Passage.{Passage}
use Rattle.critical_paths.specs.Reached.{IsBehind, IsFew, ends_within}
use Rattle.critical_paths.proofs.Arriving.{some_at}
use Rattle.critical_paths.proofs.Nodes.{get_more}
use Rattle.critical_paths.proofs.Behind.{ends_behind, ends_more, few_behind}
use Rattle.critical_paths.proofs.Ways.{after_one}

module _ (c : Circuit) (ws : Waves) where
  abbrev pub IsChain : List Frame → Type 0
  IsChain frames =
      (k : ℕ) (f g : Frame) → slice_get frames k ≡ Some f → slice_get frames (k + 1) ≡ Some g →
      (p : Passage) × IsBehind c f.place (g.place, p)

  pub before_chain : (rest : List Frame) (y : Frame) → IsChain (rest ++ y ∷ []) → IsChain rest
  before_chain rest y chain k f g at next =
      chain k f g (get_more rest (y ∷ []) k f at) (get_more rest (y ∷ []) (k + 1) g next)

  -- one more, for the last
  pub pushed_chain : (rest : List Frame) (y : Frame) → IsChain rest →
      ((k : ℕ) (f : Frame) → k + 1 ≡ length rest → slice_get rest k ≡ Some f →
      (p : Passage) × IsBehind c f.place (y.place, p)) → IsChain (rest ++ y ∷ [])
  pushed_chain rest y chain link k f g at next =
      elim (after_one rest y g (k + 1) next) [
        | inl last ↦ elim (after_one rest y f k at) [
          | inl past ↦ absurd (let e = past.0 in let d = last.0 in omega (arith, e, d))
          | inr before ↦
              let found = link k f last.0 before in
              let same : y.place ≡ g.place = ap (λ (x : Frame). x.place) (sym last.1) in
              (found.0, subst (λ (q : Place). IsBehind c f.place (q, found.0)) same found.1)
        ]
        | inr inside ↦ elim (after_one rest y f k at) [
          | inl past ↦
              absurd (let e = past.0 in let d = slice_get_within rest (k + 1) g inside in
              omega (arith, e, d))
          | inr before ↦ chain k f g before inside
        ]
      ]

  -- those after a place of few ways are of few ways
  pub few_along : IsCircuit c → (frames : List Frame) → IsChain frames → (d k : ℕ) (f g : Frame) →
      slice_get frames k ≡ Some f → slice_get frames (k + d) ≡ Some g → IsFew c ws f.place →
      IsFew c ws g.place
  few_along is frames chain zero k f g at to few =
      let here : k + 0 ≡ k = omega arith in
      let same : f ≡ g = same_Some f g
      (sym at ∙ sym (ap (λ (n : ℕ). slice_get frames n) here) ∙ to) in
      subst (λ (x : Frame). IsFew c ws x.place) same few
  few_along is frames chain (suc d) k f g at to few =
      let within = slice_get_within frames (k + suc d) g to in
      let next = some_at frames (k + 1) (omega (arith, within)) in
      let behind = chain k f next.0 at next.1 in
      let there : k + suc d ≡ k + 1 + d = omega arith in
      few_along is frames chain d (k + 1) next.0 g next.1
      (sym (ap (λ (n : ℕ). slice_get frames n) there) ∙ to)
      (few_behind c ws f.place (next.0.place, behind.0) behind.1 is few)

  -- each takes one element away
  ends_along : (frames : List Frame) → IsChain frames → (d k most : ℕ) (f g : Frame) →
      slice_get frames k ≡ Some f → slice_get frames (k + d) ≡ Some g →
      ends_within c ws (d + most) f.place ≡ true → ends_within c ws most g.place ≡ true
  ends_along frames chain zero k most f g at to ends =
      let here : k + 0 ≡ k = omega arith in
      let few : 0 + most ≡ most = omega arith in
      let same : f ≡ g = same_Some f g
      (sym at ∙ sym (ap (λ (n : ℕ). slice_get frames n) here) ∙ to) in
      (λ i. ends_within c ws (sym few i) (sym same i).place) ∙ ends
  ends_along frames chain (suc d) k most f g at to ends =
      let within = slice_get_within frames (k + suc d) g to in
      let next = some_at frames (k + 1) (omega (arith, within)) in
      let behind = chain k f next.0 at next.1 in
      let there : k + suc d ≡ k + 1 + d = omega arith in
      let one : suc d + most ≡ suc (d + most) = omega arith in
      ends_along frames chain d (k + 1) most next.0 g next.1
      (sym (ap (λ (n : ℕ). slice_get frames n) there) ∙ to)
      (ends_behind c ws f.place (next.0.place, behind.0) behind.1 (d + most)
      (sym (ap (λ (n : ℕ). ends_within c ws n f.place) one) ∙ ends))

  -- a loop has no end
  endless : (frames : List Frame) → IsChain frames → (d k : ℕ) (f g : Frame) (p : Passage) →
      slice_get frames k ≡ Some f → slice_get frames (k + d) ≡ Some g →
      IsBehind c g.place (f.place, p) → (turns : ℕ) →
      ends_within c ws (turns * (d + 1)) f.place ≡ true → ⊥
  endless frames chain d k f g p at to behind zero ends =
      let none : 0 * (d + 1) ≡ 0 = omega arith in
      let never : ends_within c ws 0 f.place ≡ true =
      sym (ap (λ (n : ℕ). ends_within c ws n f.place) none) ∙ ends in
      absurd (cc)
  endless frames chain d k f g p at to behind (suc turns) ends =
      let more : suc turns * (d + 1) ≡ d + suc (turns * (d + 1)) = grind arith in
      let last = ends_along frames chain d k (suc (turns * (d + 1))) f g at to
      (sym (ap (λ (n : ℕ). ends_within c ws n f.place) more) ∙ ends) in
      endless frames chain d k f g p at to behind turns
      (ends_behind c ws g.place (f.place, p) behind (turns * (d + 1)) last)

  pub loop_never : (frames : List Frame) → IsChain frames → (d k : ℕ) (f g : Frame) (p : Passage) →
      slice_get frames k ≡ Some f → slice_get frames (k + d) ≡ Some g →
      IsBehind c g.place (f.place, p) → IsFew c ws f.place → ⊥
  loop_never frames chain d k f g p at to behind few =
      let whole : few.most * d + few.most ≡ few.most * (d + 1) = grind arith in
      endless frames chain d k f g p at to behind few.most
      (sym (ap (λ (n : ℕ). ends_within c ws n f.place) whole)
      ∙ ends_more c ws (few.most * d) few.most f.place few.ends)
