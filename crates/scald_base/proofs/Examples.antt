-- What reads and writes come to, worked out on paper: at the limit, one past it, and at the greatest count.
use Rattle.std.proofs.Common.{◌≡◌, ℕ, ◌+◌, ◌-◌, ◌^◌, ◌<◌, List, [], ◌∷◌, ◌++◌, length, take, get_or, Ok, Err, Some, None, inl, inr, refl, ap, ◌∙◌, length-append, arith}
use Rattle.std.specs.Prelude.{Result, codes}
use Rattle.std.proofs.lemmas.List.{length-take-le}
use Rattle.scald_base.specs.Device.{Rose, RoseByOne, CountsFaults, Gives, Takes, ReadsAll, ReadsFront, ReadsPast, TakesFront}
use Rattle.scald_base.specs.Memory.{SourceState, SinkState, given_to, after_giving, after_failing_read, IsFull, taken_of, after_taking}

-- ---- counts of faults

abbrev greatest : ℕ
greatest = 2 ^ 64 - 1

rose_by_one : Rose 0 1
rose_by_one = inl (omega arith)

rose_by_more : Rose 2 5
rose_by_more = inl (omega arith)

rose_to_the_greatest : Rose greatest greatest
rose_to_the_greatest = inr refl

did_not_rise : ¬ Rose 5 5
did_not_rise (inl less) = absurd (omega (arith, less))
did_not_rise (inr top) = absurd (omega (arith, top))

fell : ¬ Rose 5 4
fell (inl less) = absurd (omega (arith, less))
fell (inr top) = absurd (omega (arith, top))

below_the_greatest : ¬ Rose (greatest - 1) (greatest - 1)
below_the_greatest (inl less) = absurd (omega (arith, less))
below_the_greatest (inr top) = absurd (omega (arith, top))

once : RoseByOne 0 1
once = refl

once_at_the_end : RoseByOne (greatest - 1) greatest
once_at_the_end = refl

once_at_the_greatest : RoseByOne greatest greatest
once_at_the_greatest = refl

not_twice : ¬ RoseByOne 0 2
not_twice e = absurd (omega (arith, e))

not_kept : ¬ RoseByOne 5 5
not_kept e = absurd (omega (arith, e))

not_two_at_the_end : ¬ RoseByOne (greatest - 2) greatest
not_two_at_the_end e = absurd (omega (arith, e))

-- ---- what a call says of the count

counts_a_failure : CountsFaults {A = ℕ} {E = ℕ} 3 4 (Err 0)
counts_a_failure = record { failed = inl (omega arith); steady = tt; later = omega arith }

hides_a_failure : ¬ CountsFaults {A = ℕ} {E = ℕ} 3 4 (Ok 0)
hides_a_failure c = absurd (omega (arith, c.steady))

invents_a_failure : ¬ CountsFaults {A = ℕ} {E = ℕ} 5 5 (Err 0)
invents_a_failure c = did_not_rise c.failed

-- the same bytes at a place of two lists
at_place : (i : ℕ) (xs ys : List ℕ) → xs ≡ ys → get_or xs i 0 ≡ get_or ys i 0
at_place i xs ys e = ap (λ (l : List ℕ). get_or l i 0) e

-- ---- one call: "abc" is left and the room has four bytes, or "abc" is to be written after "x"

gives_two : Gives (Some (codes "abc")) (Some (codes "c")) (codes "....") (codes "ab..") 2
gives_two = record { fits = omega arith; bytes = refl; none = λ e. absurd cc; rest = refl }

gives_none_at_the_end : Gives (Some []) (Some []) (codes "....") (codes "....") 0
gives_none_at_the_end = record { fits = omega arith; bytes = refl; none = λ _ _. refl; rest = refl }

gives_none_too_soon : ¬ Gives (Some (codes "abc")) (Some (codes "abc")) (codes "....") (codes "....") 0
gives_none_too_soon g = absurd (let e : codes "abc" ≡ [] = g.none refl (omega arith) in cc)

skips_a_byte : ¬ Gives (Some (codes "abc")) (Some (codes "c")) (codes "....") (codes "bc..") 2
skips_a_byte g = absurd (let e : ◌≡◌ {A = ℕ} 97 98 = at_place 0 (codes "abc") (codes "bcc") g.bytes in omega (arith, e))

changes_the_rest : ¬ Gives (Some (codes "abc")) (Some (codes "c")) (codes "....") (codes "ab.#") 2
changes_the_rest g = absurd (let e : ◌≡◌ {A = ℕ} 35 46 = at_place 1 (codes ".#") (codes "..") g.rest in omega (arith, e))

takes_two : Takes (Some (codes "x")) (Some (codes "xab")) (codes "abc") 2
takes_two = record { fits = omega arith; some = λ _. omega arith; bytes = refl }

takes_none_of_some : ¬ Takes (Some (codes "x")) (Some (codes "x")) (codes "abc") 0
takes_none_of_some t = absurd (omega (arith, t.some (omega arith)))

takes_none_of_none : Takes (Some (codes "x")) (Some (codes "x")) [] 0
takes_none_of_none = record { fits = omega arith; some = λ less. absurd (omega (arith, less)); bytes = refl }

-- ---- whole texts: the limit is 3

reads_to_the_limit : ReadsAll (Some (codes "abc")) (Some []) 3 (codes "abc")
reads_to_the_limit = record { bytes = refl; to_end = refl; within = omega arith }

reads_nothing : ReadsAll (Some []) (Some []) 3 []
reads_nothing = record { bytes = refl; to_end = refl; within = omega arith }

reads_past_the_limit : ¬ ReadsAll (Some (codes "abcd")) (Some []) 3 (codes "abcd")
reads_past_the_limit r = absurd (omega (arith, r.within))

drops_the_last_byte : ¬ ReadsAll (Some (codes "abc")) (Some []) 3 (codes "ab")
drops_the_last_byte r = absurd (let e : codes "abc" ≡ codes "ab" = r.bytes in cc)

stops_before_the_end : ¬ ReadsAll (Some (codes "abc")) (Some (codes "c")) 3 (codes "ab")
stops_before_the_end r = absurd (let e : codes "c" ≡ [] = r.to_end in cc)

-- of a source that does not tell its bytes only their number is known
reads_untold : ReadsAll None None 3 (codes "xyz")
reads_untold = record { bytes = tt; to_end = tt; within = omega arith }

tells_no_more : ¬ ReadsAll (Some (codes "abc")) None 3 (codes "abc")
tells_no_more r = r.bytes

-- ---- reading that stopped

-- the bytes that were read, by their number
front_length : (all front left : List ℕ) → all ≡ front ++ left → length all ≡ length front + length left
front_length all front left e = ap length e ∙ length-append front left

reads_no_front : ReadsFront (Some (codes "abc")) (Some (codes "abc")) 3
reads_no_front = record { front = []; bytes = refl; within = omega arith }

reads_front_past_the_limit : ReadsFront (Some (codes "abcde")) (Some (codes "e")) 3
reads_front_past_the_limit = record { front = codes "abcd"; bytes = refl; within = omega arith }

reads_two_past_the_limit : ¬ ReadsFront (Some (codes "abcde")) (Some []) 3
reads_two_past_the_limit r = absurd (omega (arith, r.within, front_length (codes "abcde") r.front [] r.bytes))

puts_bytes_back : ¬ ReadsFront (Some (codes "bc")) (Some (codes "abc")) 3
puts_bytes_back r = absurd (omega (arith, front_length (codes "bc") r.front (codes "abc") r.bytes))

one_past_the_limit : ReadsPast (Some (codes "abcd")) (Some []) 3
one_past_the_limit = record { front = codes "abcd"; bytes = refl; past = refl }

one_past_of_more : ReadsPast (Some (codes "abcde")) (Some (codes "e")) 3
one_past_of_more = record { front = codes "abcd"; bytes = refl; past = refl }

not_past_at_the_limit : ¬ ReadsPast (Some (codes "abc")) (Some []) 3
not_past_at_the_limit r = absurd (omega (arith, r.past, front_length (codes "abc") r.front [] r.bytes))

not_two_past : ¬ ReadsPast (Some (codes "abcde")) (Some []) 3
not_two_past r = absurd (omega (arith, r.past, front_length (codes "abcde") r.front [] r.bytes))

-- ---- writing that stopped: "abc" was to be written after "x"

takes_no_byte : TakesFront (Some (codes "x")) (Some (codes "x")) (codes "abc")
takes_no_byte = record { count = 0; within = omega arith; bytes = refl }

takes_all_but_one : TakesFront (Some (codes "x")) (Some (codes "xab")) (codes "abc")
takes_all_but_one = record { count = 2; within = omega arith; bytes = refl }

takes_all : ¬ TakesFront (Some (codes "x")) (Some (codes "xabc")) (codes "abc")
takes_all t =
    let within : t.count < 3 = t.within in
    let size : 4 ≡ 1 + length (take t.count (codes "abc")) = front_length (codes "xabc") (codes "x") _ t.bytes in
    absurd (omega (arith, within, size, length-take-le t.count (codes "abc") (omega (arith, within))))

takes_another_byte : ¬ TakesFront (Some (codes "x")) (Some (codes "xb")) (codes "abc")
takes_another_byte t =
    let within : t.count < 3 = t.within in
    let size : 2 ≡ 1 + length (take t.count (codes "abc")) = front_length (codes "xb") (codes "x") _ t.bytes in
    let one : t.count ≡ 1 = omega (arith, size, length-take-le t.count (codes "abc") (omega (arith, within))) in
    let same : codes "xb" ≡ codes "xa" = t.bytes ∙ ap (λ (n : ℕ). codes "x" ++ take n (codes "abc")) one in
    absurd (let e : ◌≡◌ {A = ℕ} 98 97 = at_place 1 (codes "xb") (codes "xa") same in omega (arith, e))

takes_of_nothing : ¬ TakesFront (Some (codes "x")) (Some (codes "x")) []
takes_of_nothing t = absurd (omega (arith, t.within))

-- ---- devices in memory

abbrev source : SourceState
source = record { left = codes "abcde"; piece = 3; failing = 2 ∷ []; calls = 2 ^ 64 - 1; faults = 7 }

gives_a_piece : given_to source (codes "....") ≡ 3
gives_a_piece = refl

gives_what_there_is_room_for : given_to source (codes "..") ≡ 2
gives_what_there_is_room_for = refl

gives_what_is_left : given_to (record source { left = codes "e" }) (codes "....") ≡ 1
gives_what_is_left = refl

gave_three : after_giving source 3 ≡ record source { left = codes "de" }
gave_three = refl

failed_once : after_failing_read source ≡ record source { faults = 8 }
failed_once = refl

abbrev sink : SinkState
sink = record { taken = codes "xy"; room = 4; piece = 3; failing = []; calls = 0; faults = 0 }

takes_what_there_is_room_for : taken_of sink (codes "abc") ≡ 2
takes_what_there_is_room_for = refl

takes_the_whole : taken_of sink (codes "a") ≡ 1
takes_the_whole = refl

took_two : after_taking sink (codes "abc") 2 ≡ record sink { taken = codes "xyab"; calls = 1 }
took_two = refl

has_room : ¬ IsFull sink (codes "a")
has_room f = absurd (omega (arith, f.full))

is_full : IsFull (record sink { room = 2 }) (codes "a")
is_full = record { some = omega arith; full = omega arith }

full_for_nothing : ¬ IsFull (record sink { room = 2 }) []
full_for_nothing f = absurd (omega (arith, f.some))
