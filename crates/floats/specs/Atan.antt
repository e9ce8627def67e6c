-- The angle of the point (x, y), Rust's y.atan2(x), as rounded operations: the recipe is the definition (docs/FLOATS.md has it in numbered steps).
-- Definitions only. Assumes nothing.
use Rattle.std.specs.Prelude.{Bool, cond, ◌&&◌, Float}
use Rattle.std.specs.Float.{nan}
use Rattle.std.specs.Float.Ieee.{lt, eq}
use Rattle.std.specs.Float.Ieee.Scale.{finite}
use Rattle.floats.specs.Rounded.{◌⊕◌, ◌⊖◌, ◌⊗◌, ◌⊘◌, ⊝◌, dec}
use Rattle.floats.specs.Value.{negative}

-- the arc tangent of u, for a magnitude of at most tan 15°: u less u³ times a polynomial in u², in pairs of terms
unfoldable pub arc_sum : Float → Float
arc_sum z =
    let w = z ⊗ z in
    ((dec 3333333333333324 16 ⊖ z ⊗ dec 19999999999842993 17) ⊕ w ⊗ (dec 1428571423967277 16 ⊖ z ⊗ dec 11111105955136967 17))
    ⊕ (w ⊗ w) ⊗ ((dec 9090624586290096 17 ⊖ z ⊗ dec 7683735512306385 17) ⊕ w ⊗ (dec 6522051309586488 17 ⊖ z ⊗ dec 4578559472830506 17))

unfoldable pub arc_kernel : Float → Float
arc_kernel u = let z = u ⊗ u in u ⊖ u ⊗ (z ⊗ arc_sum z)

-- -1 where the test holds, and 1 elsewhere
unfoldable pub sign : Bool → Float
sign below = cond below (⊝ dec 1 0) (dec 1 0)

abbrev pub lesser : Float → Float → Float
lesser a b = cond (lt a b) a b

abbrev pub greater : Float → Float → Float
greater a b = cond (lt a b) b a

-- the slope of the direction from which t is measured: tan 30° where t is above tan 15°, and 0 elsewhere
unfoldable pub centre : Float → Float
centre t = cond (lt (dec 2679491924311227 16) t) (dec 5773502691896257 16) (dec 0 0)

-- its angle: 30° or 0, by a factor of π/6 / tan 30°
unfoldable pub lean : Float → Float
lean t = centre t ⊗ dec 9068996821171089 16

-- the angle of slope t, less `lean t`
unfoldable pub rest : Float → Float
rest t = let q = centre t in arc_kernel ((t ⊖ q) ⊘ (dec 1 0 ⊕ t ⊗ q))

-- The angle for a y that is not 0. t is the smaller magnitude over the larger. Where |y| is at most |x|, it is t's angle up from 0 or down from π.
-- Elsewhere it is that angle from π/2, down where x is not below 0 and up where it is. `way` says which, and y's sign is put on at the end.
unfoldable pub pointed : Float → Float → Float
pointed y x =
    let sy = sign (lt y (dec 0 0)) in
    let sx = sign (lt x (dec 0 0)) in
    let a = y ⊗ sy in
    let b = x ⊗ sx in
    let t = lesser a b ⊘ greater a b in
    let way = sign (lt b a) ⊗ sx in
    let base = dec 15707963267948966 16 ⊖ dec 7853981633974483 16 ⊗ (way ⊕ sx) in
    sy ⊗ (base ⊕ way ⊗ lean t) ⊕ (sy ⊗ way) ⊗ rest t

-- y is 0: the answer is y, or π with y's sign where x has the sign bit
unfoldable pub along : Float → Float → Float
along y x = cond (negative x) (cond (negative y) (⊝ dec 3141592653589793 15) (dec 3141592653589793 15)) y

-- a NaN where an argument is not finite
unfoldable pub arc_of : Float → Float → Float
arc_of y x = cond (finite y && finite x) (cond (eq y (dec 0 0)) (along y x) (pointed y x)) nan
