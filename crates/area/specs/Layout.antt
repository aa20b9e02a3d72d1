-- Where things stand in the work area: the same names as in src/lib.rt.
use Rattle.std.specs.Prelude.{ℕ, ◌+◌, ◌*◌}
use Rattle.definition.specs.Assemble.{longest_stream, least_work}

-- how many words the work area has at least, and how many bytes a stream has at most
abbrev pub WORDS : ℕ
WORDS = least_work

abbrev pub BYTES : ℕ
BYTES = longest_stream

-- how many items each index space has, by its code
abbrev pub COUNTS : ℕ
COUNTS = 0

-- of these, how many types the fields declare
abbrev pub DECLARED : ℕ
DECLARED = 4

-- 1 where some body names a data segment
abbrev pub DATA_NAMED : ℕ
DATA_NAMED = 7

-- where the bodies of own functions end, two words each
abbrev pub ENDS : ℕ
ENDS = 8

-- the first word of the n-th body's end
abbrev pub end_at : ℕ → ℕ
end_at n = ENDS + 2 * n

-- 1 in a strict call
abbrev pub STRICT : ℕ
STRICT = 520

-- the table of types, five words each
abbrev pub TYPES : ℕ
TYPES = 521

-- the index over them: for each bucket of hashes the root of a tree, for each type its two branches, and its hash in two words
abbrev pub HEADS : ℕ
HEADS = 1801

abbrev pub LINKS : ℕ
LINKS = 2057

abbrev pub HASHES : ℕ
HASHES = 2569

-- the byte size of the type section's content
abbrev pub SIZE : ℕ
SIZE = 3081

-- for each record the number of the type of its use
abbrev pub USES : ℕ
USES = 3082

-- how many types there are
abbrev pub TOTAL : ℕ
TOTAL = 7178

-- how many names the table of each index space has
abbrev pub NAMED : ℕ
NAMED = 7179

-- the tables of names
abbrev pub NAMES : ℕ
NAMES = 7186

-- for each name the record that defined its item
abbrev pub DEFINERS : ℕ
DEFINERS = 12562

-- the function's parameters and locals
abbrev pub LOCALS : ℕ
LOCALS = 14354

-- the labels of its open blocks, the outermost first
abbrev pub LABELS : ℕ
LABELS = 14738

-- the words of one table of names
abbrev pub TABLE : ℕ
TABLE = 768

-- added to the record after a body that may use a type
abbrev pub MARK : ℕ
MARK = 8192
