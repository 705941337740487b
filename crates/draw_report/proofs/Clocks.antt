-- Nets that are clocks, as they are marked instance by instance.
use Rattle.std.proofs.Common.{◌≡◌, ℕ, zero, suc, ◌+◌, ◌<◌, ◌≤◌, Bool, true, false, List, [], ◌∷◌, length, get_or, take, Some, None, slice_get, refl, arith, sym, ap, ◌∙◌}
use Rattle.std.specs.Prelude.{◌||◌}
use Rattle.std.specs.List.{list_any}
use Rattle.std.proofs.lemmas.List.{take_all}
use Rattle.std.proofs.lemmas.List.Folds.{list_any_more}
use Rattle.std.proofs.lemmas.List.FromFn.{fill_by_all, get_or-map-range_with_len, length-map-range_with_len}
use Rattle.std.proofs.lemmas.Option.{slice_get-get_or}
use Rattle.flat_circuit.specs.declared.instance.Instance.{Instance}
use Rattle.flat_circuit.specs.Circuit.{Circuit}
use Rattle.draw_report.specs.Row.{are_clocks, asserts_in, is_clock, is_clocked_by}

-- the clocks by the assertions and so many instances
abbrev pub clock_by : Circuit → ℕ → ℕ → Bool
clock_by c count n =
    asserts_in (slice_get c.nets n) || list_any (is_clocked_by n) (take count c.instances)

pub record AreMarked (c : Circuit) (count : ℕ) (clocks : List Bool) : Type 0 where
  pub long : length clocks ≡ length c.nets
  pub each : (n : ℕ) → n < length c.nets → get_or clocks n false ≡ clock_by c count n

or_none : (a : Bool) → a ≡ (a || false)
or_none true = refl
or_none false = refl

or_apart : (a b d : Bool) → ((a || b) || d) ≡ (a || (b || d))
or_apart true b d = refl
or_apart false b d = refl

-- an instance that is not there is past the last
pub past_end : {X : Type 0} (xs : List X) (i : ℕ) → None ≡ slice_get xs i → length xs ≤ i
past_end [] i none = omega arith
past_end (x ∷ xs) zero none = absurd (cc)
past_end (x ∷ xs) (suc i) none = let h = past_end xs i none in omega (arith, h)

-- before the first
pub none_marked : (c : Circuit) (clocks : List Bool) → length clocks ≡ length c.nets →
    ((n : ℕ) → n < length c.nets → get_or clocks n false ≡ asserts_in (slice_get c.nets n)) →
    AreMarked c 0 clocks
none_marked c clocks long each = record {
  long = long;
  each = λ n within. each n within ∙ or_none (asserts_in (slice_get c.nets n));
}

-- one more
pub one_marked : (c : Circuit) (count : ℕ) (i : Instance) (old new : List Bool) →
    Some i ≡ slice_get c.instances count → count < length c.instances → AreMarked c count old →
    length new ≡ length old →
    ((n : ℕ) → n < length old →
    get_or new n false ≡ (get_or old n false || is_clocked_by n i)) →
    AreMarked c (count + 1) new
one_marked c count i old new is within marked long each =
    let before = marked.long in
    let there : i ≡ get_or c.instances count i =
    let h = slice_get-get_or c.instances count i within in cc in
    record {
      long = long ∙ before;
      each = λ n inside.
          each n (omega (arith, inside, before))
          ∙ ap (λ (b : Bool). b || is_clocked_by n i) (marked.each n inside)
          ∙ or_apart (asserts_in (slice_get c.nets n))
          (list_any (is_clocked_by n) (take count c.instances)) (is_clocked_by n i)
          ∙ ap (λ (j : Instance). asserts_in (slice_get c.nets n)
          || (list_any (is_clocked_by n) (take count c.instances) || is_clocked_by n j)) there
          ∙ sym (ap (λ (b : Bool). asserts_in (slice_get c.nets n) || b)
          (list_any_more (is_clocked_by n) c.instances count i within));
    }

-- all of them
pub all_marked : (c : Circuit) (count : ℕ) (clocks : List Bool) → length c.instances ≤ count →
    AreMarked c count clocks → clocks ≡ are_clocks c
all_marked c count clocks past marked =
    fill_by_all (is_clock c) clocks (length c.nets) false marked.long
    (λ n inside. marked.each n inside
    ∙ ap (λ (js : List Instance). asserts_in (slice_get c.nets n) || list_any (is_clocked_by n) js)
    (take_all count c.instances past))

-- what stands for a net
pub clock_at : (c : Circuit) (clocks : List Bool) (n : ℕ) → clocks ≡ are_clocks c →
    n < length c.nets → slice_get clocks n ≡ Some (is_clock c n)
clock_at c clocks n marked inside =
    let long = length-map-range_with_len (is_clock c) 0 (length c.nets) in
    ap (λ (bs : List Bool). slice_get bs n) marked
    ∙ slice_get-get_or (are_clocks c) n false (omega (arith, inside, long))
    ∙ ap (λ (b : Bool). Some b)
    (get_or-map-range_with_len (is_clock c) 0 (length c.nets) n n false inside (omega arith))
