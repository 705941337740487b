-- Notes that are written one after another: the bytes of their lines, and how many there are.
use Rattle.std.specs.Prelude.{◌≡◌, ℕ, ◌+◌, List, ◌++◌, length}
use Rattle.std.specs.List.{concat}

pub record Lines : Type 0 where
  pub bytes : List ℕ
  pub count : ℕ

-- These lines follow those that were there, and each counts.
pub record Adds (old new : Lines) (lines : List (List ℕ)) : Type 0 where
  pub bytes : new.bytes ≡ old.bytes ++ concat lines
  pub count : new.count ≡ old.count + length lines
