-- Where a cell joins the kinds, and the kinds after many cells.
use Rattle.std.proofs.Common.{◌≡◌, ℕ, ◌+◌, ◌<◌, ◌≤◌, Bool, true, false, cond, List, [], ◌∷◌, ◌++◌, length, get_or, drop, map, refl, sym, ap, ◌∙◌, arith, one-add}
use Rattle.std.specs.Prelude.{slice_set}
use Rattle.netlist_import.specs.declared.netlist.Cell.{Cell}
use Rattle.netlist_import.specs.declared.netlist.Module.{Module}
use Rattle.netlist_import.specs.declared.kinds.Kind.{Kind}
use Rattle.netlist_import.specs.Kinds.{all_cells, all_uses_after, fits, joined, joins, kind_of, kinds_after, kinds_with, uses_after, with_cell}
use Rattle.netlist_import.specs.Netlist.{place_named}
use Rattle.netlist_import.specs.Shapes.{number_of_used}
use Rattle.std.proofs.lemmas.List.{append_assoc, append-nil, at_drop_all}
use Rattle.netlist_import.proofs.Steps.{drop_here}

pub with_here : (kinds : List Kind) (cell : Cell) (k : Kind) → joins kinds cell < length kinds →
    k ≡ get_or kinds (joins kinds cell) k →
    with_cell kinds cell ≡ slice_set kinds (joins kinds cell) (joined cell k)
unfolding joins with_cell
with_here [] cell k h is = absurd (omega arith)
with_here (kind ∷ kinds) cell k h is = at (fits cell kind) refl (with_here kinds cell k)
  where
    at : (b : Bool) → fits cell kind ≡ b →
        (joins kinds cell < length kinds → k ≡ get_or kinds (joins kinds cell) k →
        with_cell kinds cell ≡ slice_set kinds (joins kinds cell) (joined cell k)) →
        with_cell (kind ∷ kinds) cell ≡ slice_set (kind ∷ kinds) (joins (kind ∷ kinds) cell)
        (joined cell k)
    at true e more =
        let first : k ≡ kind = is ∙ rw e refl in rw (e, first) refl
    at false e more =
        let below : joins kinds cell < length kinds = let within : joins (kind ∷ kinds) cell
        ≡ 1 + joins kinds cell = rw e refl in omega arith in
        let there : k ≡ get_or kinds (joins kinds cell) k = is ∙ rw (e, one-add) refl in
        rw (e, one-add) (ap (λ (ks : List Kind). kind ∷ ks) (more below there))

pub with_new : (kinds : List Kind) (cell : Cell) → length kinds ≤ joins kinds cell →
    with_cell kinds cell ≡ kinds ++ kind_of cell ∷ []
unfolding joins with_cell
with_new [] cell h = refl
with_new (kind ∷ kinds) cell h = at (fits cell kind) refl (with_new kinds cell)
  where
    at : (b : Bool) → fits cell kind ≡ b → (length kinds ≤ joins kinds cell → with_cell kinds cell
        ≡ kinds ++ kind_of cell ∷ []) →
        with_cell (kind ∷ kinds) cell ≡ kind ∷ kinds ++ kind_of cell ∷ []
    at true e more = let none : joins (kind ∷ kinds) cell ≡ 0 = rw e refl in absurd (omega arith)
    at false e more =
        let within : joins (kind ∷ kinds) cell ≡ 1 + joins kinds cell = rw e refl in
        rw e (ap (λ (ks : List Kind). kind ∷ ks) (more (omega arith)))

pub after_both : (ms : List Module) (kinds : List Kind) (cs ds : List Cell) →
    kinds_after ms kinds (cs ++ ds) ≡ kinds_after ms (kinds_after ms kinds cs) ds
unfolding kinds_after
after_both ms kinds [] ds = refl
after_both ms kinds (c ∷ cs) ds = after_both ms (kinds_with (place_named c.kind ms) kinds c) cs ds

pub joins_within : (kinds : List Kind) (cell : Cell) → joins kinds cell ≤ length kinds
unfolding joins
joins_within [] cell = omega arith
joins_within (kind ∷ kinds) cell = at (fits cell kind) (joins_within kinds cell)
  where
    at : (b : Bool) → joins kinds cell ≤ length kinds →
        cond b 0 (1 + joins kinds cell) ≤ length (kind ∷ kinds)
    at true within = omega arith
    at false within = omega arith

-- ---- module by module

module _ (ms modules : List Module) (i : ℕ) (m : Module) (kinds next : List Kind) where
  pub kinds_here : (all : List Kind) → i < length modules → m ≡ get_or modules i m →
      next ≡ kinds_after ms kinds m.cells →
      all ≡ kinds_after ms kinds (all_cells (drop i modules)) →
      all ≡ kinds_after ms next (all_cells (drop (i + 1) modules))
  kinds_here all h is n e =
      let rest = all_cells (drop (i + 1) modules) in
      e ∙ ap (λ (us : List Module). kinds_after ms kinds (all_cells us))
      (drop_here modules i m h is)
      ∙ after_both ms kinds m.cells rest ∙ ap (λ (ks : List Kind). kinds_after ms ks rest) (sym n)

  pub targets_here : (all done end : List (List ℕ)) → i < length modules → m ≡ get_or modules i m →
      next ≡ kinds_after ms kinds m.cells →
      end ≡ done ++ map (number_of_used ms) (uses_after ms kinds m.cells) ∷ [] →
      all ≡ done ++ map (map (number_of_used ms)) (all_uses_after ms kinds (drop i modules)) →
      all ≡ end ++ map (map (number_of_used ms)) (all_uses_after ms next (drop (i + 1) modules))
  unfolding all_uses_after
  targets_here all done end h is n p e =
      let here = map (number_of_used ms) (uses_after ms kinds m.cells) in
      let later = map (map (number_of_used ms)) (all_uses_after ms next (drop (i + 1) modules)) in
      rw p (e ∙ ap (λ (us : List Module). done
      ++ map (map (number_of_used ms)) (all_uses_after ms kinds us))
      (drop_here modules i m h is)
      ∙ ap (λ (ks : List Kind). done ++ here ∷ map (map (number_of_used ms))
      (all_uses_after ms ks (drop (i + 1) modules))) (sym n)
      ∙ sym (append_assoc done (here ∷ []) later))

pub targets_end : (ms modules : List Module) (i : ℕ) (kinds : List Kind)
    (all done : List (List ℕ)) → length modules ≤ i →
    all ≡ done ++ map (map (number_of_used ms)) (all_uses_after ms kinds (drop i modules)) →
    done ≡ all
unfolding all_uses_after
targets_end ms modules i kinds all done h e =
    sym (e ∙ at_drop_all (λ (us : List Module). done
    ++ map (map (number_of_used ms)) (all_uses_after ms kinds us)) modules i h
    ∙ append-nil done)

pub kinds_end : (ms modules : List Module) (i : ℕ) (kinds all : List Kind) → length modules ≤ i →
    all ≡ kinds_after ms kinds (all_cells (drop i modules)) → kinds ≡ all
unfolding kinds_after
kinds_end ms modules i kinds all h e =
    sym (e ∙ at_drop_all (λ (us : List Module). kinds_after ms kinds (all_cells us)) modules i h)
