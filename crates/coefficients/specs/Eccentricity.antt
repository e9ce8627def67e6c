-- The functions G of the eccentricity e₀ that the coefficients of the half-day resonance take. Definitions only. Assumes nothing.
use Rattle.std.specs.Prelude.{Bool, cond, Float}
use Rattle.std.specs.Float.Ieee.{lt, le}
use Rattle.floats.specs.Rounded.{◌⊕◌, ◌⊖◌, ◌⊗◌, ⊝◌, dec}
use Rattle.floats.specs.Power.{sq, cubed}

-- e <= 0.65: the limit of G₂₁₁ to G₅₂₀
unfoldable pub up_to65 : Float → Bool
up_to65 e = le e (dec 65 2)

-- e < 0.7: the limit of G₅₃₂, G₅₂₁ and G₅₃₃
unfoldable pub below70 : Float → Bool
below70 e = lt e (dec 7 1)

-- a + b e - c e² + d e³
unfoldable pub cubic : Float → Float → Float → Float → Float → Float
cubic e a b c d = a ⊕ b ⊗ e ⊖ c ⊗ sq e ⊕ d ⊗ cubed e

-- a - b e + c e²
unfoldable pub quadratic : Float → Float → Float → Float → Float
quadratic e a b c = a ⊖ b ⊗ e ⊕ c ⊗ sq e

-- G₂₁₁: a quadratic for e <= 0.65, and a cubic above
unfoldable pub g211 : Float → Float
g211 e =
    cond (up_to65 e)
    (quadratic e (dec 3616 3) (dec 13247 3) (dec 1629 2))
    (cubic e (⊝ dec 72099 3) (dec 331819 3) (dec 508738 3) (dec 266724 3))

-- G₃₁₀: one cubic for e <= 0.65, and another above
unfoldable pub g310 : Float → Float
g310 e =
    cond (up_to65 e)
    (cubic e (⊝ dec 19302 3) (dec 11739 2) (dec 228419 3) (dec 156591 3))
    (cubic e (⊝ dec 346844 3) (dec 1582851 3) (dec 2415925 3) (dec 1246113 3))

-- G₃₂₂: one cubic for e <= 0.65, and another above
unfoldable pub g322 : Float → Float
g322 e =
    cond (up_to65 e)
    (cubic e (⊝ dec 189068 4) (dec 1097927 4) (dec 2146334 4) (dec 1465816 4))
    (cubic e (⊝ dec 342585 3) (dec 1554908 3) (dec 2366899 3) (dec 1215972 3))

-- G₄₁₀: one cubic for e <= 0.65, and another above
unfoldable pub g410 : Float → Float
g410 e =
    cond (up_to65 e)
    (cubic e (⊝ dec 41122 3) (dec 242694 3) (dec 471094 3) (dec 313953 3))
    (cubic e (⊝ dec 1052797 3) (dec 4758686 3) (dec 7193992 3) (dec 3651957 3))

-- G₄₂₂: one cubic for e <= 0.65, and another above
unfoldable pub g422 : Float → Float
g422 e =
    cond (up_to65 e)
    (cubic e (⊝ dec 146407 3) (dec 84188 2) (dec 1629014 3) (dec 1083435 3))
    (cubic e (⊝ dec 358169 2) (dec 1617811 2) (dec 2446277 2) (dec 1242252 2))

-- G₅₂₀: one cubic for e <= 0.65, a quadratic below 0.715, and the last polynomial at 0.715 exactly and above
unfoldable pub g520 : Float → Float
g520 e =
    cond (up_to65 e)
    (cubic e (⊝ dec 532114 3) (dec 3017977 3) (dec 5740032 3) (dec 3708276 3))
    (cond (lt e (dec 715 3))
    (quadratic e (dec 146474 2) (dec 466475 2) (dec 376364 2))
    (cubic e (⊝ dec 514966 2) (dec 2993692 2) (dec 5408736 2) (dec 3132456 2)))

-- G₅₃₂: one cubic below 0.7, and another from there
unfoldable pub g532 : Float → Float
g532 e =
    cond (below70 e)
    (cubic e (⊝ dec 853666 3) (dec 469025 2) (dec 862477 2) (dec 53414 1))
    (cubic e (⊝ dec 4002388 2) (dec 17047089 2) (dec 24269948 2) (dec 11560582 2))

-- G₅₂₁: one cubic below 0.7, and another from there
unfoldable pub g521 : Float → Float
g521 e =
    cond (below70 e)
    (cubic e (⊝ dec 82271072 5) (dec 45686173 4) (dec 84914146 4) (dec 5337524 3))
    (cubic e (⊝ dec 51752104 3) (dec 21891395 2) (dec 30946816 2) (dec 14634942 2))

-- G₅₃₃: one cubic below 0.7, and another from there
unfoldable pub g533 : Float → Float
g533 e =
    cond (below70 e)
    (cubic e (⊝ dec 9192277 4) (dec 498861 2) (dec 906477 2) (dec 554221 2))
    (cubic e (⊝ dec 3799578 2) (dec 16161652 2) (dec 2298382 1) (dec 10937794 2))
