-- Bytes as one number, and the bits that are read from them.
use Rattle.std.specs.Prelude.{◌≡◌, List, ℕ, zero, suc, ◌+◌, ◌*◌, ◌-◌, ◌/◌, ◌%◌, ◌^◌, ◌≤◌, ◌<◌, get_or}
use Rattle.down.specs.declared.bits.Bits.{Bits}

-- four bytes from a place on, the most significant first, with zeros past the end
abbrev pub four : List ℕ → ℕ → ℕ
four s at = 65536 * (256 * get_or s at 0 + get_or s (at + 1) 0) + (256 * get_or s (at + 2) 0 + get_or s (at + 3) 0)

-- eight of them
abbrev pub eight : List ℕ → ℕ → ℕ
eight s at = 2 ^ 32 * four s at + four s (at + 4)

-- h bits as they are, or each turned for a minus
abbrev pub turned : ℕ → ℕ → ℕ → ℕ
turned zero h y = y
turned (suc s) h y = 2 ^ h - 1 - y

-- the bits of as many bytes as there is room for below those held
abbrev pub room : ℕ → ℕ
room held = 64 - held - (64 - held) % 8

-- r has the bits of b, and below them those of so many bytes more
abbrev pub Filled : List ℕ → ℕ → Bits → Bits → Type 0
Filled s sign b r =
    let more = room b.held in
    (r.at ≡ b.at + more / 8)
    × ((r.held ≡ b.held + more) × (r.bits ≡ b.bits + turned sign 64 (eight s b.at) / 2 ^ (64 - more) * 2 ^ ((64 - b.held) % 8)))

-- x is the 63 bits below the highest one of y, each turned where that one is set
abbrev pub Folded : ℕ → ℕ → Type 0
Folded y x = (y < 2 ^ 63 → x ≡ y) × (2 ^ 63 ≤ y → y + x + 1 ≡ 2 ^ 64)
