-- Example (m), the empty file, and the file of 196 bytes that a save of satellite 7 makes of it. Definitions and the statement. Assumes nothing.
use Rattle.std.specs.Prelude.{ℕ, ◌≡◌, true, List, [], ◌∷◌, ◌++◌, length, Ok, Err}
use Rattle.contents.specs.Format.{count, contents_right}
use Rattle.contents.specs.Find.{found_in}
use Rattle.contents.specs.Save.{saved_file, saved}
use Rattle.contents.specs.declared.find.FindError.TheVariants.{SatelliteMissing}
use Rattle.contents.specs.declared.save.SaveError.TheVariants.{OutputShort}

-- the empty file, whole
abbrev pub empty : List ℕ
empty = 0x4F ∷ 0x52 ∷ 0x42 ∷ 0x54 ∷ 0x01 ∷ 0x00 ∷ 0x00 ∷ 0x00 ∷ []

-- header and entry of a file with satellite 7 and a body of 176 bytes
abbrev pub seven : List ℕ
seven =
    0x4F ∷ 0x52 ∷ 0x42 ∷ 0x54 ∷ 0x01 ∷ 0x00 ∷ 0x01 ∷ 0x00
    ∷ 0x07 ∷ 0x00 ∷ 0x00 ∷ 0x00 ∷ 0x14 ∷ 0x00 ∷ 0x00 ∷ 0x00 ∷ 0xB0 ∷ 0x00 ∷ 0x00 ∷ 0x00 ∷ []

-- the empty file is right with count 0 and has no satellite; a save of satellite 7 with any body of 176 bytes gives 196 bytes, `seven` and the body,
-- if there is room for them; the count is then 1, and the body is found at 20
pub record Empty : Type 0 where
  pub right : contents_right empty ≡ true
  pub none : count empty ≡ 0
  pub missing : (x : ℕ) → found_in empty x ≡ Err SatelliteMissing
  pub file : (b : List ℕ) → length b ≡ 176 → saved_file empty 7 b ≡ seven ++ b
  pub size : (b : List ℕ) → length b ≡ 176 → length (saved_file empty 7 b) ≡ 196
  pub written : (b : List ℕ) → length b ≡ 176 → saved empty 7 b 196 ≡ Ok 196
  pub short : (b : List ℕ) → length b ≡ 176 → saved empty 7 b 195 ≡ Err OutputShort
  pub one : (b : List ℕ) → length b ≡ 176 → count (saved_file empty 7 b) ≡ 1
  pub found : (b : List ℕ) → length b ≡ 176 → found_in (saved_file empty 7 b) 7 ≡ Ok (record { offset = 20; size = 176 })
