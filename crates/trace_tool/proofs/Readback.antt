-- Numbers that were written are read back.
use Rattle.std.proofs.Common.{◌≡◌, ℕ, zero, suc, ◌+◌, ◌-◌, ◌*◌, ◌/◌, ◌%◌, ◌<◌, ◌≤◌, ◌^◌, min, true, List, [], ◌∷◌, ◌++◌, length, drop, codes, decimal, Option, Some, None, refl, arith, ap, sym, subst, ◌∙◌, append_assoc, append-nil}
use Rattle.std.specs.Prelude.{slice_get, slice_index_or}
use Rattle.std.proofs.lemmas.Bool.Decides.{nat_tests}
use Rattle.std.proofs.lemmas.Fmt.{decimal_by_steps}
use Rattle.std.proofs.lemmas.List.Elements.{All-cons, All-head, All-nil, All-tail}
use Rattle.std.proofs.Math.Seq.{drop-append_seam}
use Rattle.scald_base.specs.Time.{Bounds}
use Rattle.element_kinds.specs.declared.kind.Kind.{Kind}
use Rattle.element_kinds.specs.declared.form.Form.{Form}
use Rattle.element_kinds.specs.declared.form.Form.TheVariants.{Gate, Change, Register, Latch as Enabled, Checker}
use Rattle.element_kinds.specs.Kinds.{form_of}
use Rattle.flat_circuit.specs.declared.split.Split.{Split}
use Rattle.flat_circuit.specs.declared.instance.Instance.{Instance}
use Rattle.flat_circuit.specs.declared.instance.Pin.{Pin}
use Rattle.flat_circuit.specs.declared.net.Net.{Net}
use Rattle.flat_circuit.specs.Split.{two_delays}
use Rattle.flat_circuit.specs.Circuit.{Circuit}
use Rattle.flat_circuit.specs.Run.{DelayFitsForm, DelaysFit, WireFits, WiresFit}
use Rattle.listing.specs.Text.{bit_text}
use Rattle.listing.specs.Names.{instance_name}
use Rattle.trace_sim.specs.Choice.{IsOneDelay, IsOneDelayForm, PickFits, chosen}
use Rattle.trace_tool.specs.Trace.{delay_by, delay_text, instance_line, wires_text}
use Rattle.trace_tool.specs.Reading.{IsPlain}
use Rattle.trace_tool.specs.Scan.{AreSmall, IsGuess, again, closed, is_digit, numbers_after, numbers_of, picked, picks_by, picks_count, shown, with_digit}

-- ---- digits

-- the number that is begun, after digits
abbrev pub after : Option ℕ → List ℕ → Option ℕ
after begun [] = begun
after begun (d ∷ ds) = after (Some (with_digit begun d)) ds

after_more : (begun : Option ℕ) (ds : List ℕ) (d : ℕ) → after begun (ds ++ d ∷ []) ≡ Some (with_digit (after begun ds) d)
after_more begun [] d = refl
after_more begun (e ∷ ds) d = after_more (Some (with_digit begun e)) ds d

abbrev AreDigits : List ℕ → Type 0
AreDigits [] = Unit {0}
AreDigits (d ∷ ds) = (is_digit d ≡ true) × AreDigits ds

digits_more : (ds : List ℕ) (d : ℕ) → AreDigits ds → is_digit d ≡ true → AreDigits (ds ++ d ∷ [])
digits_more [] d all is = (is, tt)
digits_more (e ∷ ds) d all is = (all.0, digits_more ds d all.1 is)

digits_read : (begun : Option ℕ) (ds rest : List ℕ) → AreDigits ds → numbers_after begun (ds ++ rest) ≡ numbers_after (after begun ds) rest
digits_read begun [] rest all = refl
digits_read begun (d ∷ ds) rest all = rw all.0 (digits_read (Some (with_digit begun d)) ds rest all.1)

-- what is known of the digits of a number
record IsWritten (n : ℕ) (ds : List ℕ) : Type 0 where
  digits : AreDigits ds
  read : n ≤ 65535 → after None ds ≡ Some n

digit_is : (n : ℕ) → n < 10 → is_digit (48 + n) ≡ true
digit_is n h = grind (arith, nat_tests)

one_written : (n : ℕ) → n < 10 → IsWritten n ((48 + n) ∷ [])
one_written n h = record {
  digits = (digit_is n h, tt);
  read = λ small. let same : 48 + n - 48 ≡ n = omega arith in ap (λ (k : ℕ). Some k) same;
}

more_written : (n : ℕ) (ds : List ℕ) → 10 ≤ n → IsWritten (n / 10) ds → IsWritten n (ds ++ ((48 + n % 10) ∷ []))
more_written n ds h w = record {
  digits = digits_more ds (48 + n % 10) w.digits (digit_is (n % 10) (omega arith));
  read = λ small.
      let less : n / 10 ≤ 65535 = omega arith in
      let same : min (n / 10 * 10 + (48 + n % 10 - 48)) 65535 ≡ n = omega arith in
      after_more None ds (48 + n % 10) ∙ ap (λ (o : Option ℕ). Some (with_digit o (48 + n % 10))) (w.read less)
      ∙ ap (λ (k : ℕ). Some k) same;
}

written : (n : ℕ) → n < 2 ^ 64 → IsWritten n (decimal n)
written n h = decimal_by_steps IsWritten one_written more_written n h

-- a number in front
pub number_read : (n : ℕ) (rest : List ℕ) → n ≤ 65535 → numbers_after None (decimal n ++ rest) ≡ numbers_after (Some n) rest
number_read n rest small =
    let w = written n (omega arith) in
    digits_read None (decimal n) rest w.digits ∙ ap (λ (o : Option ℕ). numbers_after o rest) (w.read small)

-- delays of wires, after a number that is begun
pub wires_read : (begun : Option ℕ) (wires : List ℕ) → AreSmall wires → numbers_after begun (wires_text wires) ≡ closed begun ++ wires
wires_read begun [] small = sym (append-nil (closed begun))
wires_read begun (w ∷ ws) small =
    ap (λ (l : List ℕ). closed begun ++ l)
    (ap (numbers_after None) (append_assoc (decimal w) [] (wires_text ws))
    ∙ number_read w (wires_text ws) (let one = All-head (λ (n : ℕ). n ≤ 4095) w ws small in omega (arith, one))
    ∙ wires_read (Some w) ws (All-tail (λ (n : ℕ). n ≤ 4095) w ws small))

-- what stands before them
pub colon_read : (begun : Option ℕ) (wires : List ℕ) → AreSmall wires →
    numbers_after begun (codes " :" ++ (wires_text wires ++ [])) ≡ closed begun ++ wires
colon_read begun wires small =
    ap (λ (l : List ℕ). closed begun ++ numbers_after None l) (append-nil (wires_text wires))
    ∙ ap (λ (l : List ℕ). closed begun ++ l) (wires_read None wires small)

-- ---- the line of an instance

one_read : (pick : ℕ × ℕ) (wires : List ℕ) → AreSmall (pick.0 ∷ []) → AreSmall wires →
    numbers_after None (decimal pick.0 ++ (codes " :" ++ (wires_text wires ++ []))) ≡ pick.0 ∷ wires
one_read pick wires few small =
    let first = All-head (λ (n : ℕ). n ≤ 4095) pick.0 [] few in
    number_read pick.0 (codes " :" ++ (wires_text wires ++ [])) (omega (arith, first)) ∙ colon_read (Some pick.0) wires small

by_form_read : (form : Form) (pick : ℕ × ℕ) (wires : List ℕ) → AreSmall (shown (picks_by form) pick) → AreSmall wires →
    numbers_after None (delay_by form pick ++ (codes " :" ++ (wires_text wires ++ []))) ≡ shown (picks_by form) pick ++ wires
by_form_read Gate pick wires few small = one_read pick wires few small
by_form_read Change pick wires few small = colon_read None wires small
by_form_read (Register forced) pick wires few small = one_read pick wires few small
by_form_read (Enabled forced) pick wires few small = one_read pick wires few small
by_form_read (Checker check) pick wires few small = colon_read None wires small

delays_read : (kind : Kind) (two : Option Split) (pick : ℕ × ℕ) (wires : List ℕ) → AreSmall (shown (picks_count kind two) pick) → AreSmall wires →
    numbers_after None (delay_text kind two pick ++ (codes " :" ++ (wires_text wires ++ []))) ≡ shown (picks_count kind two) pick ++ wires
delays_read kind None pick wires few small = by_form_read (form_of kind) pick wires few small
delays_read kind (Some both) pick wires few small =
    let rest = codes " :" ++ (wires_text wires ++ []) in
    let first = All-head (λ (n : ℕ). n ≤ 4095) pick.0 (pick.1 ∷ []) few in
    let second = All-head (λ (n : ℕ). n ≤ 4095) pick.1 [] (All-tail (λ (n : ℕ). n ≤ 4095) pick.0 (pick.1 ∷ []) few) in
    ap (numbers_after None) (append_assoc (decimal pick.0) (codes " " ++ (decimal pick.1 ++ [])) rest)
    ∙ number_read pick.0 ((codes " " ++ (decimal pick.1 ++ [])) ++ rest) (omega (arith, first))
    ∙ ap (λ (l : List ℕ). pick.0 ∷ l)
    (ap (numbers_after None) (append_assoc (decimal pick.1) [] rest)
    ∙ number_read pick.1 rest (omega (arith, second))
    ∙ colon_read (Some pick.1) wires small)

pub line_read : (i : Instance) (pick : ℕ × ℕ) (wires : List ℕ) → AreSmall (shown (picks_count i.kind (two_delays i.kind i.split)) pick) → AreSmall wires →
    numbers_of (drop (length (bit_text (instance_name i))) (instance_line i pick wires)) ≡ shown (picks_count i.kind (two_delays i.kind i.split)) pick ++ wires
unfolding instance_line
line_read i pick wires few small =
    let two = two_delays i.kind i.split in
    ap numbers_of (drop-append_seam (bit_text (instance_name i)) (codes " " ++ (delay_text i.kind two pick ++ (codes " :" ++ (wires_text wires ++ [])))))
    ∙ delays_read i.kind two pick wires few small

-- ---- the pick again

-- What is read fits as what was written does, and is written as it was.
pub record IsAgain (kind : Kind) (d : Bounds) (two : Option Split) (wires : List ℕ) (pick same : ℕ × ℕ) : Type 0 where
  pub fits : DelaysFit kind d two (chosen same wires)
  pub one : IsOneDelay kind two same
  pub text : delay_text kind two same ≡ delay_text kind two pick

same_pick : (kind : Kind) (d : Bounds) (two : Option Split) (wires : List ℕ) (pick same : ℕ × ℕ) → same ≡ pick →
    DelaysFit kind d two (chosen pick wires) → IsOneDelay kind two pick → IsAgain kind d two wires pick same
same_pick kind d two wires pick same is fits one = record {
  fits = subst (λ (p : ℕ × ℕ). DelaysFit kind d two (chosen p wires)) (sym is) fits;
  one = subst (IsOneDelay kind two) (sym is) one;
  text = ap (delay_text kind two) is;
}

both_one : (pick : ℕ × ℕ) → pick.0 ≡ pick.1 → (pick.0, pick.0) ≡ pick
both_one pick one = ap (λ (n : ℕ). (pick.0, n)) one

-- by the form of a kind
fits_again_by : (form : Form) (d : Bounds) (wires : List ℕ) (pick : ℕ × ℕ) → DelayFitsForm form d pick.0 → IsOneDelayForm form pick →
    let same = picked (picks_by form) (shown (picks_by form) pick ++ wires) in
    DelayFitsForm form d same.0 × IsOneDelayForm form same × (delay_by form same ≡ delay_by form pick)
fits_again_by Gate d wires pick fits one = (fits, refl, refl)
fits_again_by Change d wires pick fits one = (tt, tt, refl)
fits_again_by (Register forced) d wires pick fits one = (fits, refl, refl)
fits_again_by (Enabled forced) d wires pick fits one = (fits, refl, refl)
fits_again_by (Checker check) d wires pick fits one = (tt, tt, refl)

pub fits_again : (kind : Kind) (d : Bounds) (two : Option Split) (wires : List ℕ) (pick : ℕ × ℕ) →
    DelaysFit kind d two (chosen pick wires) → IsOneDelay kind two pick → IsAgain kind d two wires pick (again kind two pick wires)
fits_again kind d None wires pick fits one =
    let by = fits_again_by (form_of kind) d wires pick fits one in record { fits = by.0; one = by.1; text = by.2 }
fits_again kind d (Some both) wires pick fits one = record { fits = fits; one = tt; text = refl }

pub line_again : (i : Instance) (wires : List ℕ) (pick same : ℕ × ℕ) →
    delay_text i.kind (two_delays i.kind i.split) same ≡ delay_text i.kind (two_delays i.kind i.split) pick →
    instance_line i same wires ≡ instance_line i pick wires
unfolding instance_line
line_again i wires pick same text =
    ap (λ (l : List ℕ). bit_text (instance_name i) ++ (codes " " ++ (l ++ (codes " :" ++ (wires_text wires ++ []))))) text

-- the wires again
behind_shown : (count : ℕ) (pick : ℕ × ℕ) (wires : List ℕ) → count ≤ 2 → drop count (shown count pick ++ wires) ≡ wires
behind_shown zero pick wires few = refl
behind_shown (suc zero) pick wires few = refl
behind_shown (suc (suc zero)) pick wires few = refl
behind_shown (suc (suc (suc more))) pick wires few = absurd (omega arith)

few_by : (form : Form) → picks_by form ≤ 2
few_by Gate = omega arith
few_by Change = omega arith
few_by (Register forced) = omega arith
few_by (Enabled forced) = omega arith
few_by (Checker check) = omega arith

few_picks : (kind : Kind) (two : Option Split) → picks_count kind two ≤ 2
few_picks kind None = few_by (form_of kind)
few_picks kind (Some both) = omega arith

-- What is read of a line that was written of a pick that fits: it fits too, and is written so.
pub record IsRead (c : Circuit) (i : Instance) (line : List ℕ) (same : ℕ × ℕ) (wires : List ℕ) : Type 0 where
  pub fits : PickFits c i same wires
  pub text : line ≡ instance_line i same wires

pub read_again : (c : Circuit) (i : Instance) (line : List ℕ) (pick : ℕ × ℕ) (wires : List ℕ) → PickFits c i pick wires → line ≡ instance_line i pick wires →
    AreSmall (shown (picks_count i.kind (two_delays i.kind i.split)) pick) → AreSmall wires →
    let found = numbers_of (drop (length (bit_text (instance_name i))) line) in
    let count = picks_count i.kind (two_delays i.kind i.split) in IsRead c i line (picked count found) (drop count found)
read_again c i line pick wires fits is few small =
    let two = two_delays i.kind i.split in
    let count = picks_count i.kind two in
    let found : numbers_of (drop (length (bit_text (instance_name i))) line) ≡ shown count pick ++ wires =
    ap (λ (l : List ℕ). numbers_of (drop (length (bit_text (instance_name i))) l)) is ∙ line_read i pick wires few small in
    let a = fits_again i.kind i.delay two wires pick fits.delay fits.one in
    let whole : IsRead c i line (again i.kind two pick wires) wires = record {
      fits = record { delay = a.fits; one = a.one; wire = fits.wire };
      text = is ∙ sym (line_again i wires pick (again i.kind two pick wires) a.text);
    } in
    subst (λ (f : List ℕ). IsRead c i line (picked count f) (drop count f)) (sym found)
    (subst (IsRead c i line (again i.kind two pick wires)) (sym (behind_shown count pick wires (few_picks i.kind two))) whole)

-- so what is guessed of the line is right
pub guess_is : (c : Circuit) (i : Instance) (line : List ℕ) (pick same : ℕ × ℕ) (wires others : List ℕ) → IsGuess i line same others →
    PickFits c i pick wires → line ≡ instance_line i pick wires →
    AreSmall (shown (picks_count i.kind (two_delays i.kind i.split)) pick) → AreSmall wires → IsRead c i line same others
guess_is c i line pick same wires others guess fits is few small =
    let read = read_again c i line pick wires fits is few small in
    subst (λ (p : ℕ × ℕ). IsRead c i line p others) (sym guess.0)
    (subst (λ (ws : List ℕ). IsRead c i line (picked (picks_count i.kind (two_delays i.kind i.split)) (numbers_of (drop (length (bit_text (instance_name i))) line))) ws)
    (sym guess.1) read)

-- ---- what is small

pub all_small : (nets : List Net) (pins : List Pin) (wires : List ℕ) →
    ((k : ℕ) (p : Pin) (wire : ℕ) → k < length pins → slice_get pins k ≡ Some p → WireFits nets p.target wire → wire ≤ 4095) →
    WiresFit nets pins wires → AreSmall wires
all_small nets [] [] each fit = All-nil (λ (n : ℕ). n ≤ 4095)
all_small nets [] (w ∷ ws) each fit = absurd fit
all_small nets (p ∷ ps) [] each fit = absurd fit
all_small nets (p ∷ ps) (w ∷ ws) each fit =
    All-cons (λ (n : ℕ). n ≤ 4095) w ws (each 0 p w (omega arith) refl fit.0)
    (all_small nets ps ws (λ k q wire below has fits. each (suc k) q wire (omega (arith, below)) has fits) fit.1)

-- ---- what a line does not show

-- what is picked of numbers is shown whole
picked_whole : (count : ℕ) (found : List ℕ) → picked count found ≡ picked count (shown count (picked count found) ++ [])
picked_whole zero found = refl
picked_whole (suc zero) found = refl
picked_whole (suc (suc more)) found = refl

pub guess_whole : (i : Instance) (line : List ℕ) (pick : ℕ × ℕ) (wires : List ℕ) → IsGuess i line pick wires →
    pick ≡ again i.kind (two_delays i.kind i.split) pick []
guess_whole i line pick wires guess =
    let count = picks_count i.kind (two_delays i.kind i.split) in
    let found = numbers_of (drop (length (bit_text (instance_name i))) line) in
    guess.0 ∙ picked_whole count found ∙ ap (λ (p : ℕ × ℕ). picked count (shown count p ++ [])) (sym guess.0)

-- and what follows it does not count
same_again : (count : ℕ) (pick : ℕ × ℕ) (wires : List ℕ) → count ≤ 2 → picked count (shown count pick ++ wires) ≡ picked count (shown count pick ++ [])
same_again zero pick wires few = refl
same_again (suc zero) pick wires few = refl
same_again (suc (suc zero)) pick wires few = refl
same_again (suc (suc (suc more))) pick wires few = absurd (omega arith)

-- Two lines of an instance that are one say the same.
pub record SayOne (pick other : ℕ × ℕ) (wires others : List ℕ) : Type 0 where
  pub picks : pick ≡ other
  pub delays : wires ≡ others

pub one_line_says : (i : Instance) (pick other : ℕ × ℕ) (wires others : List ℕ) → IsPlain i pick wires → IsPlain i other others →
    instance_line i pick wires ≡ instance_line i other others → SayOne pick other wires others
one_line_says i pick other wires others p q same =
    let two = two_delays i.kind i.split in
    let count = picks_count i.kind two in
    let few = few_picks i.kind two in
    let one : shown count pick ++ wires ≡ shown count other ++ others =
    sym (line_read i pick wires p.delays_small p.wires_small)
    ∙ ap (λ (l : List ℕ). numbers_of (drop (length (bit_text (instance_name i))) l)) same
    ∙ line_read i other others q.delays_small q.wires_small in
    record {
      picks = p.whole ∙ sym (same_again count pick wires few) ∙ ap (picked count) one ∙ same_again count other others few ∙ sym q.whole;
      delays = sym (behind_shown count pick wires few) ∙ ap (drop count) one ∙ behind_shown count other others few;
    }
