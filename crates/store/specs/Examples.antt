-- The marked examples of document 01, (a) to (m), as one statement. Definitions and the statement. Assumes nothing.
use Rattle.std.specs.Prelude.{ℕ, ◌≡◌, ◌++◌, length, Float, Ok, Err, None}
use Rattle.orbit.specs.declared.propagator.Resonant.TheVariants.{No}
use Rattle.orbit.specs.declared.propagator.Constants.{Constants}
use Rattle.stepping.specs.Examples.{Examples}
use Rattle.contents.specs.Examples.{empty, seven, Empty}
use Rattle.body.specs.Body.{body_of}
use Rattle.body.specs.Examine.{examined}
use Rattle.store.specs.Restore.{restored_from}
use Rattle.store.specs.Save.{stored, stored_file}
use Rattle.store.specs.declared.restore.RestoreError.TheVariants.{SatelliteMissing}
use Rattle.store.specs.declared.save.StoreError.TheVariants.{OutputShort}

-- a non-resonant record for satellite 7, saved into the empty file: 196 bytes, `seven` and the body; refused 19 where there is a byte too little
pub record Seven (c : Constants) : Type 0 where
  pub file : stored_file empty 7 c None ≡ seven ++ body_of c None
  pub size : length (stored_file empty 7 c None) ≡ 196
  pub written : examined c None ≡ Ok (record { constants = c; state = None; steps = 0 }) → stored empty 7 c None 196 ≡ Ok 196
  pub short : examined c None ≡ Ok (record { constants = c; state = None; steps = 0 }) → stored empty 7 c None 195 ≡ Err OutputShort

-- (a) to (l), the table of crate stepping; (m), the empty file: it is right with count 0, any restore from it is refused 15, and a save of satellite 7
-- makes of it the file of document 01
pub record Marked : Type 0 where
  pub a_to_l : Examples
  pub m_file : Empty
  pub m_restore : (x : ℕ) → restored_from empty x ≡ Err SatelliteMissing
  pub m_save : (c : Constants) (a0 : Float) → c.resonant ≡ No a0 → Seven c
