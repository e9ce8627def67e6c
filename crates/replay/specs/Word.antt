-- The number of a word. Definitions only. Assumes nothing.
use Rattle.std.specs.Prelude.{ℕ, ◌+◌, ◌*◌, ◌-◌, ◌&&◌, List, [], ◌∷◌, length, nat_le, Option, Some, None, option_and_then, if◌then◌else◌}

-- the value of a hexadecimal digit, its letters capital
abbrev pub digit_of : ℕ → Option ℕ
digit_of b =
    if nat_le 0x30 b && nat_le b 0x39
    then Some (b - 0x30)
    else (if nat_le 0x41 b && nat_le b 0x46
    then Some (b - 0x37)
    else None)

-- the number that a word's digits write when they follow those of n
abbrev pub value_after : ℕ → List ℕ → Option ℕ
value_after n [] = Some n
value_after n (b ∷ bs) = option_and_then (λ d. value_after (16 * n + d) bs) (digit_of b)

-- the number of a word of at most 16 digits
abbrev pub value_of : List ℕ → Option ℕ
value_of word = if nat_le (length word) 16 then value_after 0 word else None
