-- What a source of bytes and a sink for bytes promise.
use Rattle.std.specs.Prelude.{◌≡◌, ℕ, ◌+◌, ◌-◌, ◌^◌, ◌<◌, ◌≤◌, min, List, length, take, drop, Option, Result, OnOk, OnErr, IfSome, ◌⊎◌}
use Rattle.std.specs.Io.KnownBytes.{Appends, Consumes, IsAtEnd}

-- A count of faults rose: it is greater, or it stands at the greatest number that 64 bits hold.
abbrev pub Rose : ℕ → ℕ → Type 0
Rose before now = (before < now) ⊎ (now ≡ 2 ^ 64 - 1)

-- one more, as far as 64 bits count
abbrev pub next_count : ℕ → ℕ
next_count n = min (n + 1) (2 ^ 64 - 1)

-- It rose by one, or stands at the greatest number: what a device promises that counts each fault
-- once.
abbrev pub RoseByOne : ℕ → ℕ → Type 0
RoseByOne before now = now ≡ next_count before

-- A failure comes only if the count of faults rose, success leaves the count as it was, and it
-- never falls.
pub record CountsFaults {A E : Type 0} (before now : ℕ) (outcome : Result A E) : Type 0 where
  pub failed : OnErr outcome (Rose before now)
  pub steady : OnOk outcome (now ≡ before)
  pub later : before ≤ now

-- The source gave n bytes into the room's front. If it tells what it has left, they were the
-- first of that: none only if there was no room, or nothing left; and after them the room is as
-- it was.
pub record Gives (left left' : Option (List ℕ)) (room room' : List ℕ) (n : ℕ) : Type 0 where
  pub fits : n ≤ length room'
  pub bytes : Consumes left left' (take n room')
  pub none : n ≡ 0 → 0 < length room' → IfSome left (λ _. IsAtEnd left')
  pub rest : IfSome left (λ _. drop n room' ≡ drop n room)

-- The sink took the first n bytes of the piece, at least one if there is one.
pub record Takes (taken taken' : Option (List ℕ)) (piece : List ℕ) (n : ℕ) : Type 0 where
  pub fits : n ≤ length piece
  pub some : 0 < length piece → 0 < n
  pub bytes : Appends taken taken' (take n piece)

-- All that was left was read, and it is within the limit.
pub record ReadsAll (left left' : Option (List ℕ)) (limit : ℕ) (all : List ℕ) : Type 0 where
  pub bytes : Consumes left left' all
  pub to_end : IfSome left (λ _. IsAtEnd left')
  pub within : length all ≤ limit

-- Reading stopped somewhere: some bytes were read, no more than one past the limit.
pub record ReadsFront (left left' : Option (List ℕ)) (limit : ℕ) : Type 0 where
  pub front : List ℕ
  pub bytes : Consumes left left' front
  pub within : length front ≤ limit + 1

-- Reading stopped at one byte past the limit.
pub record ReadsPast (left left' : Option (List ℕ)) (limit : ℕ) : Type 0 where
  pub front : List ℕ
  pub bytes : Consumes left left' front
  pub past : length front ≡ limit + 1

-- A front of the bytes was taken, and no more: one byte at least was not.
pub record TakesFront (taken taken' : Option (List ℕ)) (all : List ℕ) : Type 0 where
  pub count : ℕ
  pub within : count < length all
  pub bytes : Appends taken taken' (take count all)
