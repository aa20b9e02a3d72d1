-- The flat stream of a stream (document 02, §4): every F0 is taken out, with the count of operands that ends its record, and every operator stands after
-- its operands.
use Rattle.std.specs.Prelude.{ℕ, ◌+◌, ◌-◌, ◌≡◌, Bool, true, false, List, [], ◌∷◌, ◌++◌, map, take, drop}
use Rattle.std.proofs.Math.Seq.{slice}
use Rattle.definition.specs.Basic.{Answer, ok, fails, concat_map, any}
use Rattle.definition.specs.Syntax.{Bytes, Identifier, Rec, field, instr, folded, body_end}
use Rattle.definition.specs.Reader.{Step, got, fault}
use Rattle.definition.specs.Read.{Seen, nothing_seen, seen_after, one_record, read}
use Rattle.definition.specs.Assemble.{Said}

-- ## Parts: what stands for each record in the flat stream

-- how many operands a record has, which are the records after it
unfoldable pub operands_of : {I : Type 0} → Rec I → ℕ
operands_of (field f) = 0
operands_of (instr x) = 0
operands_of (folded x n) = n
operands_of body_end = 0

-- a folded record is its operator alone
unfoldable pub unfolded : {I : Type 0} → Rec I → Rec I
unfolded (field f) = field f
unfolded (instr x) = instr x
unfolded (folded x n) = instr x
unfolded body_end = body_end

-- the bytes of a record, from its place up to the next: of a folded one without the first, F0, and the last, which is the count of its operands
-- (at most 16, and so one byte)
unfoldable pub unfolded_bytes : {I : Type 0} → Rec I → Bytes → ℕ → ℕ → Bytes
unfolded_bytes (field f) s here next = slice here next s
unfolded_bytes (instr x) s here next = slice here next s
unfolded_bytes (folded x n) s here next = slice (here + 1) (next - 1) s
unfolded_bytes body_end s here next = slice here next s

pub record Part : Type 0 where
  pub operands : ℕ
  pub rec : Rec Identifier
  pub bytes : Bytes

unfoldable pub part_of : Rec Identifier → Bytes → ℕ → ℕ → Part
part_of x s here next = record { operands = operands_of x; rec = unfolded x; bytes = unfolded_bytes x s here next }

-- the place after what was read
abbrev pub after : {A : Type 0} → Step A → ℕ
after (got x next) = next
after (fault n) = 0

-- the parts of some records, the first of which stands at a place
unfoldable pub parts : Seen → Bytes → ℕ → List (Rec Identifier) → List Part
parts seen s here [] = []
parts seen s here (x ∷ rs) =
    let next = after (one_record seen s here) in
    part_of x s here next ∷ parts (seen_after seen x) s next rs

unfoldable pub parts_of : Bytes → List (Rec Identifier) → List Part
parts_of s rs = parts nothing_seen s 0 rs

-- ## Flat order

abbrev pub joined : {A : Type 0} → List (List A) → List A
joined xss = concat_map (λ xs. xs) xss

-- a part takes so many of the groups that follow it, its operands, and stands after them: they are one group
abbrev pub taking : ℕ → Part → List (List Part) → List (List Part)
taking n p gs = (joined (take n gs) ++ (p ∷ [])) ∷ drop n gs

unfoldable pub groups : List Part → List (List Part)
groups [] = []
groups (p ∷ ps) = taking p.operands p (groups ps)

unfoldable pub flat_order : List Part → List Part
flat_order ps = joined (groups ps)

-- ## The flat stream

unfoldable pub flat_records : Bytes → List (Rec Identifier) → List (Rec Identifier)
flat_records s rs = map (λ p. p.rec) (flat_order (parts_of s rs))

-- a stream that is refused in reading is left as it is
abbrev pub flat_by : Bytes → Answer (List (Rec Identifier)) → Bytes
flat_by s (ok rs) = concat_map (λ p. p.bytes) (flat_order (parts_of s rs))
flat_by s (fails q) = s

unfoldable pub flat_stream : Bytes → Bytes
flat_stream s = flat_by s (read s)

-- ## Folded records among others

unfoldable pub is_folded : {I : Type 0} → Rec I → Bool
is_folded (field f) = false
is_folded (instr x) = false
is_folded (folded x n) = true
is_folded body_end = false

unfoldable pub any_folded : {I : Type 0} → List (Rec I) → Bool
any_folded rs = any is_folded rs

-- ## What a call says of the two

-- the same number and the same bytes; of an accepted stream all the same
pub record SaysTheSame (flat said : Said) : Type 0 where
  pub number : flat.number ≡ said.number
  pub bytes : flat.bytes ≡ said.bytes
  pub accepted : said.number ≡ 0 → flat ≡ said
