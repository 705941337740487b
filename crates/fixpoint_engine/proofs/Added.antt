-- One net more that was evaluated, in a table that grew by it.
use Rattle.std.proofs.Common.{◌≡◌, ◌≢◌, ℕ, zero, suc, ◌<◌, List, [], ◌∷◌, ◌++◌, length, map, refl, sym, ap, subst, ◌∙◌, get_or, arith, Option, Some, None}
use Rattle.std.proofs.Math.ListN.{set}
use Rattle.std.proofs.lemmas.Option.{slice_get-get_or}
use Rattle.std.specs.List.{AllByRecursion}
use Rattle.step_values.specs.declared.value.Value.{Value}
use Rattle.skew_algebra.specs.Wave.{Wave, skewed}
use Rattle.flat_circuit.specs.declared.instance.Instance.{Instance}
use Rattle.flat_circuit.specs.Circuit.{Circuit, driver}
use Rattle.fixpoint_engine.specs.Table.{AreDistinct, AreKnown, Grows, IsNumber, wave_at, waves_at}
use Rattle.fixpoint_engine.proofs.Growing.{below_still, same_wave_at}
use Rattle.fixpoint_engine.proofs.TableByNumber.{number_below, number_reads, one_number}
use Rattle.fixpoint_engine.specs.Waves.{Waves, waves_of}
use Rattle.fixpoint_engine.specs.Rounds.{evaluated, wave_from}
use Rattle.fixpoint_engine.specs.Worklist.{Change, changes_of}
use Rattle.fixpoint_engine.proofs.Changing.{change_added, nothing_added}
use Rattle.fixpoint_engine.proofs.Numbered.{reads_still}

-- the wave of a net, by its number
pub read_number : (table : List (Wave Value)) (ns : List ℕ) (i : ℕ) → i < length ns → waves_of (waves_at table ns) i ≡ wave_at table (get_or ns i 0)
read_number table [] i below = absurd (omega arith)
read_number table (n ∷ ns) zero below = refl
read_number table (n ∷ ns) (suc i) below = read_number table ns i (omega (arith, below))

pub known_number : (P : ℕ → Type 0) (ns : List ℕ) (i : ℕ) → AllByRecursion P ns → i < length ns → P (get_or ns i 0)
known_number P [] i known below = absurd (omega arith)
known_number P (n ∷ ns) zero known below = known.0
known_number P (n ∷ ns) (suc i) known below = known_number P ns i known.1 (omega (arith, below))

pub known_of : {A : Type 0} (number : A → ℕ) (table : List (Wave Value)) (xs : List A) (i : ℕ) (d : A) → i < length xs →
    AreKnown table (map number xs) → number (get_or xs i d) < length table
known_of number table [] i d below known = absurd (omega arith)
known_of number table (x ∷ xs) zero d below known = known.0
known_of number table (x ∷ xs) (suc i) d below known = known_of number table xs i d (omega (arith, below)) known.1

-- one number in the place of another
pub known_set : (table : List (Wave Value)) (ns more : List ℕ) (i n : ℕ) → more ≡ set ns i n → AreKnown table ns → n < length table → AreKnown table more
known_set table ns more i n put known below = subst (AreKnown table) (sym put) (by ns i known)
  where
    by : (ns : List ℕ) (i : ℕ) → AreKnown table ns → AreKnown table (set ns i n)
    by [] i known = tt
    by (m ∷ ns) zero known = (below, known.1)
    by (m ∷ ns) (suc i) known = (known.0, by ns i known.1)

-- the number of a net that nothing drives is that of its value
pub kept_number : (c : Circuit) (table : List (Wave Value)) (ns : List ℕ) (net : ℕ) → driver c net ≡ None → AreKnown table ns → net < length ns →
    IsNumber table (evaluated c (waves_of (waves_at table ns)) net) (get_or ns net 0)
kept_number c table ns net none known below =
    let ws : Waves = waves_of (waves_at table ns) in
    slice_get-get_or table (get_or ns net 0) (skewed [] 0) (known_number (λ m. m < length table) ns net known below)
    ∙ ap Some (sym (read_number table ns net below) ∙ sym (ap (λ (from : Option Instance). wave_from c ws from (ws net)) none))

module _ (c : Circuit) (old new : List (Wave Value)) (ns : List ℕ) (net n : ℕ) (g : Grows old new) (known : AreKnown old ns) (below : net < length ns)
    (at : IsNumber new (evaluated c (waves_of (waves_at old ns)) net) n) where
  -- what the net had, in the table that has grown
  had : wave_at new (get_or ns net 0) ≡ waves_of (waves_at old ns) net
  had = same_wave_at old new g (get_or ns net 0) (known_number (λ m. m < length old) ns net known below) ∙ sym (read_number old ns net below)

  made_wave : wave_at new n ≡ evaluated c (waves_of (waves_at old ns)) net
  made_wave = number_reads new (evaluated c (waves_of (waves_at old ns)) net) n at

  module _ {A : Type 0} (of number : A → ℕ) (xs : List A) (xs-known : AreKnown old (map number xs)) where
    before : map {B = Change} (λ x. (of x, wave_at new (number x))) xs ≡ map {B = Change} (λ x. (of x, wave_at old (number x))) xs
    before = reads_still of number old new g xs xs-known

    -- the number differs: so does the wave, and the change is added
    pub number_added : (ys : List A) (one : A) → ys ≡ xs ++ one ∷ [] → of one ≡ net → number one ≡ n → AreDistinct new → n ≢ get_or ns net 0 →
        map {B = Change} (λ x. (of x, wave_at new (number x))) ys
        ≡ map {B = Change} (λ x. (of x, wave_at old (number x))) xs ++ changes_of c (waves_of (waves_at old ns)) (net ∷ [])
    number_added ys one put is numbered distinct differs =
        change_added (λ x. (of x, wave_at new (number x))) xs ys one c (waves_of (waves_at old ns)) net (wave_at new n) put
        (λ i. (is i, wave_at new (numbered i))) made_wave
        (λ e. differs (one_number new n (get_or ns net 0) distinct (number_below new _ n at)
        (below_still old new g (get_or ns net 0) (known_number (λ m. m < length old) ns net known below)) (e ∙ sym had)))
        ∙ ap (λ l. l ++ changes_of c (waves_of (waves_at old ns)) (net ∷ [])) before

    -- the number is the same: so is the wave, and nothing changes
    pub number_stays : n ≡ get_or ns net 0 →
        map {B = Change} (λ x. (of x, wave_at new (number x))) xs
        ≡ map {B = Change} (λ x. (of x, wave_at old (number x))) xs ++ changes_of c (waves_of (waves_at old ns)) (net ∷ [])
    number_stays same =
        nothing_added (λ x. (of x, wave_at new (number x))) xs c (waves_of (waves_at old ns)) net (wave_at new n) made_wave (ap (wave_at new) same ∙ had)
        ∙ ap (λ l. l ++ changes_of c (waves_of (waves_at old ns)) (net ∷ [])) before
