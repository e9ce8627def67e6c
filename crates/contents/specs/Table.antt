-- What the parts of a save do, over the entries of the old file. Definitions only. Assumes nothing.
use Rattle.std.specs.Prelude.{ℕ, ◌+◌, ◌*◌, ◌-◌, cond, List, [], ◌∷◌, ◌++◌, eqb, ltb, take, drop}
use Rattle.contents.specs.Format.{entries, contents_end}
use Rattle.contents.specs.Records.{entry_bytes}
use Rattle.contents.specs.declared.format.Entry.{Entry}
use Rattle.contents.specs.declared.save.Place.{Place}

-- the entries' bytes with new offsets, the first body at `at`
unfoldable pub table : ℕ → List Entry → List ℕ
table at [] = []
table at (e ∷ es) = entry_bytes e.satellite at e.size ++ table (at + e.size) es

-- where the bodies end, of which the first stands at `at`
unfoldable pub end_of : ℕ → List Entry → ℕ
end_of at [] = at
end_of at (e ∷ es) = end_of (at + e.size) es

-- where a satellite goes: how many entries are below it, past i others; where their bodies end; whether it is there; where the bodies
-- past its own begin
unfoldable pub place_of : ℕ → ℕ → ℕ → List Entry → Place
place_of x i at [] = record { below = i; cut = at; old = 0; rest = at }
place_of x i at (e ∷ es) =
    cond (ltb x e.satellite) (record { below = i; cut = at; old = 0; rest = at })
    (cond (eqb x e.satellite) (record { below = i; cut = at; old = 1; rest = at + e.size })
    (place_of x (i + 1) (at + e.size) es))

-- the contents of the new file: the entries below, the new one, and those past it
unfoldable pub table_with : List ℕ → ℕ → ℕ → ℕ → ℕ → ℕ → List ℕ
table_with s n below old x size =
    let start = contents_end (n + 1 - old) in
    let mid = end_of start (entries below (drop 8 s)) in
    table start (entries below (drop 8 s))
    ++ (entry_bytes x mid size ++ table (mid + size) (entries (n - (below + old)) (drop (8 + 12 * (below + old)) s)))

-- its bodies
unfoldable pub bodies_with : List ℕ → ℕ → ℕ → ℕ → List ℕ → List ℕ
bodies_with s end cut rest b = take (cut - end) (drop end s) ++ (b ++ drop rest s)
