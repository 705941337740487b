-- Lists of numbers of waves.
use Rattle.std.proofs.Common.{◌≡◌, ℕ, suc, ◌+◌, ◌<◌, List, [], ◌∷◌, ◌++◌, take, length, get_or, sym, ap, ◌∙◌, subst, Some, arith}
use Rattle.std.specs.List.{AllByRecursion}
use Rattle.std.proofs.Math.Seq.{take-suc}
use Rattle.std.proofs.lemmas.List.{map-append}
use Rattle.std.proofs.lemmas.Option.{slice_get-get_or, get_or_from_slice_get, slice_get_within}
use Rattle.step_values.specs.declared.value.Value.{Value}
use Rattle.skew_algebra.specs.Wave.{Wave, skewed}
use Rattle.fixpoint_engine.specs.Table.{AreDistinct, AreKnown, Grows, IsNumber, wave_at, waves_at}
use Rattle.fixpoint_engine.proofs.Growing.{same_waves, known_still}

all_push : (P : ℕ → Type 0) (ns : List ℕ) (n : ℕ) → AllByRecursion P ns → P n → AllByRecursion P (ns ++ n ∷ [])
all_push P [] n all p = (p, tt)
all_push P (m ∷ ns) n all p = (all.0, all_push P ns n all.1 p)

-- a number is below the table's length, and what is read by it is its wave
pub number_below : (table : List (Wave Value)) (w : Wave Value) (n : ℕ) → IsNumber table w n → n < length table
number_below table w n at = slice_get_within table n w at

pub number_reads : (table : List (Wave Value)) (w : Wave Value) (n : ℕ) → IsNumber table w n → wave_at table n ≡ w
number_reads table w n at = get_or_from_slice_get table n w (skewed [] 0) at

-- one number more, in a table that has grown
pub known_more : (old new : List (Wave Value)) (ns ns' : List ℕ) (n : ℕ) → Grows old new → AreKnown old ns → n < length new →
    ns' ≡ ns ++ n ∷ [] → AreKnown new ns'
known_more old new ns ns' n g known below put =
    subst (AreKnown new) (sym put) (all_push (λ m. m < length new) ns n (known_still old new g ns known) below)

pub waves_more : (old new : List (Wave Value)) (ns ns' : List ℕ) (n : ℕ) (w : Wave Value) → Grows old new → AreKnown old ns → IsNumber new w n →
    ns' ≡ ns ++ n ∷ [] → waves_at new ns' ≡ waves_at old ns ++ w ∷ []
waves_more old new ns ns' n w g known at put =
    ap (waves_at new) put ∙ map-append (wave_at new) ns (n ∷ [])
    ∙ (λ i. same_waves old new g ns known i ++ number_reads new w n at i ∷ [])

-- one item more of a list that is gone through
pub next_item : {T : Type 0} (xs : List T) (i : ℕ) (d : T) → i < length xs → take (i + 1) xs ≡ take i xs ++ get_or xs i d ∷ []
next_item xs i d below =
    let next : i + 1 ≡ suc i = omega arith in
    ap (λ n. take n xs) next ∙ take-suc xs i d below

-- Numbers are equal if their waves are.
pub one_number : (table : List (Wave Value)) (a b : ℕ) → AreDistinct table → a < length table → b < length table → wave_at table a ≡ wave_at table b → a ≡ b
one_number table a b distinct below below' e =
    distinct a b (wave_at table a)
    (slice_get-get_or table a (skewed [] 0) below)
    (slice_get-get_or table b (skewed [] 0) below' ∙ ap Some (sym e))

-- the waves of one number more of a list that is gone through
pub waves_next : (table : List (Wave Value)) (ns : List ℕ) (i : ℕ) → i < length ns →
    waves_at table (take (i + 1) ns) ≡ waves_at table (take i ns) ++ wave_at table (get_or ns i 0) ∷ []
waves_next table ns i below =
    ap (waves_at table) (next_item ns i 0 below) ∙ map-append (wave_at table) (take i ns) (get_or ns i 0 ∷ [])

-- a wave of one table that is given a number in another
pub renumbered_more : (table old new : List (Wave Value)) (ns there there' : List ℕ) (i n : ℕ) (w : Wave Value) → i < length ns →
    Grows old new → AreKnown old there → IsNumber new w n → there' ≡ there ++ n ∷ [] → w ≡ wave_at table (get_or ns i 0) →
    waves_at old there ≡ waves_at table (take i ns) → waves_at new there' ≡ waves_at table (take (i + 1) ns)
renumbered_more table old new ns there there' i n w below g known at put is before =
    waves_more old new there there' n w g known at put ∙ (λ k. before k ++ is k ∷ []) ∙ sym (waves_next table ns i below)
