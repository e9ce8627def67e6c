-- What the calls on a store's file leave behind their pointers. Definitions only. Assumes nothing.
use Rattle.std.specs.Prelude.{ℕ, ◌≡◌, Bool, true, false, cond, List, eqb, length, Float, Result}
use Rattle.std.specs.Option.{option_map_or}
use Rattle.std.specs.Result.{result_unwrap_or}
use Rattle.record.specs.Record.{kind_of, numbers_of, constants_of}
use Rattle.body.specs.declared.examine.Record.{Record}
use Rattle.store.specs.declared.restore.RestoreError.{RestoreError}
use Rattle.store.specs.Restore.{number as restore_number, steps_of}
use Rattle.store.specs.declared.save.StoreError.{StoreError}
use Rattle.store.specs.Save.{number as stored_number, stored, stored_file, output_after}
use Rattle.orbt.specs.Answer.{result_map_or}
use Rattle.orbt.specs.Orbits.{state_list, held_number, maybe_of, is_wrong}

-- ---- restore

abbrev pub flag_number : Bool → ℕ
flag_number flag = cond flag 1 0

-- a restore leaves all that there was, or kind, flag, constants and state together, and always the steps of its replay
pub record RestoreLeaves (a : Result Record RestoreError) (kind₀ flag₀ : ℕ) (constants₀ : List Float) (held₀ : ℕ) (state₀ : List Float)
    (r kind₁ flag₁ : ℕ) (constants₁ : List Float) (held₁ : ℕ) (state₁ : List Float) (steps₁ : ℕ) : Type 0 where
  pub number : r ≡ restore_number a
  pub kind : kind₁ ≡ result_map_or (λ x. kind_of x.constants.resonant) a kind₀
  pub flag : flag₁ ≡ result_map_or (λ x. flag_number x.constants.afspc_compatibility_mode) a flag₀
  pub constants : constants₁ ≡ result_map_or (λ x. numbers_of x.constants) a constants₀
  pub held : held₁ ≡ result_map_or (λ x. held_number x.state) a held₀
  pub state : state₁ ≡ result_map_or (λ x. option_map_or state_list x.state state₀) a state₀
  pub steps : steps₁ ≡ steps_of a

-- ---- save

-- what a save leaves: 16 and all as it was where a number of the call is wrong; else the answer's number, the output and the size
abbrev pub SaveBy : Bool → Result ℕ StoreError → List ℕ → List ℕ → ℕ → ℕ → List ℕ → ℕ → Type 0
SaveBy true a new out size r out' size' = (r ≡ 16) × (out' ≡ out) × (size' ≡ size)
SaveBy false a new out size r out' size' = (r ≡ stored_number a) × (out' ≡ output_after a new out) × (size' ≡ result_unwrap_or a size)

abbrev pub SaveLeaves : List ℕ → List ℕ → ℕ → ℕ → ℕ → List Float → ℕ → List Float → ℕ → ℕ → List ℕ → ℕ → Type 0
SaveLeaves file out x kind flag constants held state size r out' size' =
    let c = constants_of kind (eqb flag 1) constants in
    let z = maybe_of held state in
    SaveBy (is_wrong kind flag held) (stored file x c z (length out)) (stored_file file x c z) out size r out' size'
