-- The bytes of entries that are kept while they are resolved: each section has a part of the kept bytes to itself.
use Rattle.std.specs.Prelude.{ℕ, ◌+◌, ◌-◌, ◌*◌, ◌/◌, leb, eqb, length, take, drop, if◌then◌else◌}
use Rattle.definition.specs.Syntax.{Bytes}

-- how many of the 32 units stand before the part of section k: exports have 2, code has 7, data have 14, every other section has 1
unfoldable pub units_of : ℕ → ℕ
units_of k = if leb k 7 then k else if leb k 10 then k + 1 else if eqb k 11 then 18 else 32

-- where the part of section k begins, in `len` kept bytes
unfoldable pub start_of : ℕ → ℕ → ℕ
start_of len k = (len / 32) * units_of k

-- the part of section k
unfoldable pub part_in : Bytes → ℕ → Bytes
part_in kept k = take (start_of (length kept) (k + 1) - start_of (length kept) k) (drop (start_of (length kept) k) kept)
