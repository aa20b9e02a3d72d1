-- The hash of a signature: of its value types alone, and so of none of its identifiers.
use Rattle.std.specs.Prelude.{ℕ, ◌+◌, ◌*◌, ◌/◌, ◌%◌, List, [], ◌∷◌, length}
use Rattle.definition.specs.Syntax.{ValType, FuncType}
use Rattle.type_table.specs.declared.index.HashedList.{HashedList}

-- how many buckets there are
abbrev pub BUCKETS : ℕ
BUCKETS = 256

-- a hash has two halves, each below this
abbrev pub HALF : ℕ
HALF = 4294967296

-- what a hash begins with; what a type is spread by; what is added to the other half
abbrev pub START : ℕ
START = 11400714819323198485

abbrev pub SPREAD : ℕ
SPREAD = 10368889

abbrev pub OTHER : ℕ
OTHER = 2654435769

-- two halves make a hash
abbrev pub crossed : ℕ → ℕ → ℕ
crossed a b = a * b + a + b

-- one type more: one half takes it, the other a number
unfoldable pub mixed : ℕ → ℕ → ℕ
mixed h t = crossed ((h % HALF + t * SPREAD) % HALF) ((h / HALF + OTHER) % HALF)

-- one type after the other
unfoldable pub hash_from : ℕ → List ValType → ℕ
hash_from h [] = h
hash_from h (t ∷ ts) = hash_from (mixed h t) ts

-- with how many they are
abbrev pub hashed_list : ℕ → List ValType → HashedList
hashed_list h ts = record { hash = hash_from h ts; count = length ts }

-- the parameters, a mark that is no value type, the results
unfoldable pub hash_of : FuncType → ℕ
hash_of t = hash_from (mixed (hash_from START t.params) 0) t.results

-- the bucket of a hash
abbrev pub bucket_of : ℕ → ℕ
bucket_of h = h / HALF % BUCKETS
