-- The numbers of the waves that the base and a case begin with.
use Rattle.std.proofs.Common.{◌≡◌, ℕ, ◌+◌, ◌-◌, ◌<◌, Bool, true, false, if◌then◌else◌, List, [], ◌∷◌, ◌++◌, length, map, set, get_or, slice_get, refl, sym, ap, ◌∙◌, arith, Option, Some, None, is_some}
use Rattle.std.specs.List.{range_with_len}
use Rattle.std.proofs.lemmas.List.{length-map, map-append, map-set}
use Rattle.std.proofs.lemmas.List.FromFn.{get_or-map-range_with_len, length-map-range_with_len, map-range_with_len_more}
use Rattle.std.proofs.lemmas.Option.{slice_get-get_or}
use Rattle.scald_base.specs.Time.{Header}
use Rattle.scald_base.specs.declared.assertion.AssertSpec.{AssertSpec}
use Rattle.step_values.specs.declared.value.Value.{Value}
use Rattle.skew_algebra.specs.Wave.{Wave, skewed}
use Rattle.flat_circuit.specs.declared.net.Net.{Net}
use Rattle.flat_circuit.specs.Circuit.{Circuit}
use Rattle.pin_waves.specs.Interface.{interface_wave}
use Rattle.fixpoint_engine.specs.Table.{AreKnown, Grows, IsNumber, wave_at, waves_at}
use Rattle.fixpoint_engine.proofs.Growing.{grows_none}
use Rattle.fixpoint_engine.proofs.TableByNumber.{known_more, number_reads, waves_more}
use Rattle.fixpoint_engine.specs.Waves.{waves_of}
use Rattle.fixpoint_engine.specs.Settled.{marked_in}
use Rattle.fixpoint_engine.specs.Start.{base_start, start_in, unknown_wave}
use Rattle.fixpoint_engine.proofs.Added.{known_number, read_number}
use Rattle.case_analysis.specs.Case.{case_start, case_wave}
use Rattle.case_analysis.proofs.Start.{started}

-- ---- the base

started_driven : (h : Header) (a : AssertSpec) (driver : Option ℕ) → is_some driver ≡ true → started h a driver ≡ unknown_wave h
started_driven h a None some = cc
started_driven h a (Some k) some = refl

started_asserted : (h : Header) (a : AssertSpec) (driver : Option ℕ) → is_some driver ≡ false → started h a driver ≡ interface_wave h a
started_asserted h a None none = refl
started_asserted h a (Some k) none = cc

-- a net that something drives, and one that nothing does
pub begins_unknown : (c : Circuit) (n : Net) (i : ℕ) → slice_get c.nets i ≡ Some n → is_some n.driver ≡ true → base_start c i ≡ unknown_wave c.header
begins_unknown c n i is some = ap (start_in c.header) is ∙ started_driven c.header n.spec n.driver some

pub begins_asserted : (c : Circuit) (n : Net) (i : ℕ) → slice_get c.nets i ≡ Some n → is_some n.driver ≡ false → base_start c i ≡ interface_wave c.header n.spec
begins_asserted c n i is none = ap (start_in c.header) is ∙ started_asserted c.header n.spec n.driver none

module _ (c : Circuit) (table : List (Wave Value)) (before : List ℕ) (net : ℕ) (begun : waves_at table before ≡ map (base_start c) (range_with_len 0 net)) where
  -- as many as there are nets before
  pub numbers_begun : length before ≡ net
  numbers_begun = sym (length-map before (wave_at table)) ∙ ap length begun ∙ length-map-range_with_len (base_start c) 0 net

  -- the number of the net before, among those of all nets before
  pub last_number : AreKnown table before → 0 < net → IsNumber table (base_start c (net - 1)) (get_or before (net - 1) 0)
  last_number known some =
      let long = numbers_begun in
      let below : net - 1 < length before = omega arith in
      slice_get-get_or table (get_or before (net - 1) 0) (skewed [] 0) (known_number (λ m. m < length table) before (net - 1) known below)
      ∙ ap Some (sym (read_number table before (net - 1) below) ∙ ap (λ ws. waves_of ws (net - 1)) begun
      ∙ get_or-map-range_with_len (base_start c) 0 net (net - 1) (net - 1) (skewed [] 0) (omega arith) (omega arith))

  -- one net more
  pub begun_more : (new : List (Wave Value)) (more : List ℕ) (n : ℕ) → Grows table new → AreKnown table before → IsNumber new (base_start c net) n →
      more ≡ before ++ n ∷ [] → waves_at new more ≡ map (base_start c) (range_with_len 0 (net + 1))
  begun_more new more n g known at put =
      waves_more table new before more n (base_start c net) g known at put
      ∙ (λ k. begun k ++ base_start c net ∷ []) ∙ sym (map-range_with_len_more (base_start c) 0 net net (omega arith))

-- ---- a case

-- the number of a net before those of the case are set
abbrev pub unset : List Bool → List ℕ → ℕ → ℕ → ℕ
unset cone before unknown net = if marked_in cone net then unknown else get_or before net 0

pub unset_reached : (cone : List Bool) (before : List ℕ) (unknown net n : ℕ) (has : Bool) → has ≡ marked_in cone net → has ≡ true → n ≡ unknown → n ≡ unset cone before unknown net
unset_reached cone before unknown net n has is reached same = same ∙ sym (ap (λ b. if b then unknown else get_or before net 0) (sym is ∙ reached))

pub unset_other : (cone : List Bool) (before : List ℕ) (unknown net n : ℕ) (has : Bool) → has ≡ marked_in cone net → has ≡ false → n ≡ get_or before net 0 → n ≡ unset cone before unknown net
unset_other cone before unknown net n has is other same = same ∙ sym (ap (λ b. if b then unknown else get_or before net 0) (sym is ∙ other))

module _ (table : List (Wave Value)) (cone : List Bool) (before numbers more : List ℕ) (unknown net n : ℕ) (below : net < length before)
    (put : more ≡ numbers ++ n ∷ []) (is : n ≡ unset cone before unknown net) where
  pub unset_known : AreKnown table before → unknown < length table → AreKnown table numbers → AreKnown table more
  unset_known known inside so_far = known_more table table numbers more n (grows_none table table refl) so_far (by (marked_in cone net) is) put
    where
      by : (reached : Bool) → n ≡ (if reached then unknown else get_or before net 0) → n < length table
      by true e = omega (arith, e, inside)
      by false e = let here = known_number (λ m. m < length table) before net known below in omega (arith, e, here)

  pub unset_more : (c : Circuit) → IsNumber table (unknown_wave c.header) unknown →
      waves_at table numbers ≡ map (case_start c [] (marked_in cone) (waves_of (waves_at table before))) (range_with_len 0 net) →
      waves_at table more ≡ map (case_start c [] (marked_in cone) (waves_of (waves_at table before))) (range_with_len 0 (net + 1))
  unset_more c at so_far =
      ap (waves_at table) put ∙ map-append (wave_at table) numbers (n ∷ []) ∙ (λ k. so_far k ++ one k ∷ [])
      ∙ sym (map-range_with_len_more (case_start c [] (marked_in cone) (waves_of (waves_at table before))) 0 net net (omega arith))
    where
      by : (reached : Bool) → wave_at table (if reached then unknown else get_or before net 0) ≡ case_wave c.header None reached (waves_of (waves_at table before) net)
      by true = number_reads table (unknown_wave c.header) unknown at
      by false = sym (read_number table before net below)

      one : wave_at table n ≡ case_start c [] (marked_in cone) (waves_of (waves_at table before)) net
      one = ap (wave_at table) is ∙ by (marked_in cone net)

-- one number in the place of another
pub put_wave : (table : List (Wave Value)) (numbers after : List ℕ) (i n : ℕ) → after ≡ set numbers i n →
    waves_at table after ≡ set (waves_at table numbers) i (wave_at table n)
put_wave table numbers after i n put = ap (waves_at table) put ∙ map-set (wave_at table) numbers i n
