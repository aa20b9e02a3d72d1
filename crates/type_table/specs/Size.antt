-- The size of the type section's content, beside the types (document 02, §10).
use Rattle.std.specs.Prelude.{ℕ, zero, suc, ◌+◌, ◌-◌, List, length, get_or, set}
use Rattle.definition.specs.Syntax.{FuncType}
use Rattle.definition.specs.Binary.{u}
use Rattle.area.specs.Layout.{SIZE}
use Rattle.type_table.specs.Hash.{hash_of}
use Rattle.type_table.specs.declared.index.Hashed.{Hashed}

-- what a walk over a signature tells: its hash, and how many parameters and results it has
abbrev pub hashed : FuncType → Hashed
hashed t = record { hash = hash_of t; params = length t.params; results = length t.results }

-- the groups of the count of types: none where there is no section
abbrev pub count_size : ℕ → ℕ
count_size zero = 0
count_size (suc n) = length (u (suc n))

-- what they grow by with one type more
unfoldable pub more : ℕ → ℕ
more n = count_size (suc n) - count_size n

-- the bytes of a list of so many value types: its count, and a byte for each
unfoldable pub list_size : ℕ → ℕ
list_size n = length (u n) + n

-- the bytes of a signature: its form, and its two lists
unfoldable pub signature_size : Hashed → ℕ
signature_size h = 1 + list_size h.params + list_size h.results

-- the size with one type more after `count` types
unfoldable pub size_words : List ℕ → ℕ → Hashed → List ℕ
size_words w count h = set w SIZE (get_or w SIZE 0 + more count + signature_size h)
