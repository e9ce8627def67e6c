-- What a call returns, and what it leaves behind its pointers. Definitions only. Assumes nothing.
use Rattle.std.specs.Prelude.{ℕ, Result, Ok, Err}

-- 0 of an answer, and the number of a refusal
abbrev pub number : {T : Type 0} → Result T ℕ → ℕ
number (Ok x) = 0
number (Err n) = n

-- what is made of the answer, or what was there
abbrev pub result_map_or : {T E U : Type 0} → (T → U) → Result T E → U → U
result_map_or f (Ok x) old = f x
result_map_or f (Err e) old = old
