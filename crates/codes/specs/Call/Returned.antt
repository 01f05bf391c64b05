-- Whether four buffers have room.
use Rattle.std.specs.Prelude.{Bool, ◌&&◌, List, leb, length}
use Prim.Native.Nat.{ℕ}

-- whether each of four buffers has so much room
abbrev pub rooms : ℕ → List ℕ → List ℕ → List ℕ → List ℕ → Bool
rooms room k l kc lc = (leb room (length k) && leb room (length l)) && (leb room (length kc) && leb room (length lc))
