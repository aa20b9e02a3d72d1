-- What the reading pass says and leaves.
use Rattle.std.specs.Prelude.{ℕ, zero, suc, ◌+◌, Bool, false, ◌||◌, List, [], ◌∷◌, ◌++◌, ◌≡◌, leb, ltb, length, take, set, if◌then◌else◌}
use Rattle.std.proofs.lemmas.List.Edits.{sets}
use Rattle.syntax.specs.Marks.{no_marks}
use Rattle.syntax.specs.Reads.{same}
use Rattle.syntax.specs.Refusals.{Resolved, answer}
use Rattle.syntax.specs.declared.Place.{Place}
use Rattle.area.specs.Layout.{BYTES, COUNTS, DATA_NAMED, ENDS, WORDS, end_at}
use Rattle.area.specs.Flags.{flag_put}
use Rattle.definition.specs.Basic.{Answer, ok, fails, refused}
use Rattle.definition.specs.Syntax.{Bytes, Identifier, Rec, field, instr, folded, body_end}
use Rattle.definition.specs.Reader.{Step, got, fault}
use Rattle.definition.specs.Read.{Seen, nothing_seen, seen_after, one_record, at_end, records, read}
use Rattle.laws.specs.Steps.{total}
use Rattle.next_record.specs.Uses.{may_use, names_data, end_word}
use Rattle.next_record.specs.Places.{body_of}
use Rattle.counting.specs.Counting.{count_words}

-- ## The pass, record by record

-- where it stops: what it says, what has been seen, two words for each body that has ended, and whether a data segment was named
pub record Passed : Type 0 where
  pub says : Answer ℕ
  pub seen : Seen
  pub ends : List ℕ
  pub named : Bool

-- may the open body use a type?
abbrev pub used_after : Bool → Rec Identifier → Bool
used_after used (field f) = used
used_after used (instr x) = used || may_use x
used_after used (folded x n) = used || may_use x
used_after used body_end = false

-- was a data segment named?
abbrev pub named_after : Bool → Rec Identifier → Bool
named_after named (field f) = named
named_after named (instr x) = named || names_data x
named_after named (folded x n) = named || names_data x
named_after named body_end = named

-- the place after a body, and the record after it with what the body may use
abbrev pub end_of : Bool → Rec Identifier → ℕ → ℕ → List ℕ
end_of used (field f) next r = []
end_of used (instr x) next r = []
end_of used (folded x n) next r = []
end_of used body_end next r = next ∷ end_word r used ∷ []

abbrev pub on_record : (Rec Identifier → ℕ → Passed) → (ℕ → Passed) → Step (Rec Identifier) → Passed
on_record f g (got x next) = f x next
on_record f g (fault n) = g n

-- `left` records at most; `r` is the number of the next
unfoldable pub pass : ℕ → ℕ → Seen → Bool → Bool → List ℕ → Bytes → ℕ → Passed
pass zero r seen used named ends s here = record { says = total r (records zero r seen s here); seen = seen; ends = ends; named = named }
pass (suc left) r seen used named ends s here =
    if leb (length s) here then record { says = total r (at_end r seen.body); seen = seen; ends = ends; named = named } else
    on_record (λ x next. pass left (r + 1) (seen_after seen x) (used_after used x) (named_after named x) (ends ++ end_of used x next (r + 1)) s next)
    (λ n. record { says = refused n r; seen = seen; ends = ends; named = named }) (one_record seen s here)

unfoldable pub passed : Bytes → Passed
passed s = pass 4096 0 nothing_seen false false [] s 0

-- ## The work area

-- from `ENDS` on, two words for each body of the first 256
unfoldable pub end_words : List ℕ → List ℕ
end_words ends = take 512 ends

-- the two words of the n-th body's end
unfoldable pub end_put : List ℕ → ℕ → ℕ → ℕ → List ℕ
end_put w n first second = if ltb n 256 then set (set w (end_at n) first) (end_at n + 1) second else w

abbrev pub area_of : Answer ℕ → List ℕ → Bool → List ℕ → List ℕ
area_of (ok n) counts named w = flag_put DATA_NAMED (sets w COUNTS counts) named
area_of (fails q) counts named w = w

unfoldable pub area_after : Passed → List ℕ → List ℕ
area_after p w = area_of p.says (count_words p.seen) p.named (sets w ENDS (end_words p.ends))

-- ## What the pass promises

abbrev pub counted : Resolved ℕ → Answer ℕ
counted = answer same

-- the stream's length, the work area's length, and then the records
unfoldable pub reading : Bytes → ℕ → Answer ℕ
reading s work =
    if ltb BYTES (length s) then refused 1 0 else
    if ltb work WORDS then refused 10 0 else
    total 0 (read s)

unfoldable pub reading_area : Bytes → List ℕ → List ℕ
reading_area s w = if ltb BYTES (length s) then w else if ltb (length w) WORDS then w else area_after (passed s) w

-- the stream's first byte and first record, outside a body
abbrev pub first_place : Place
first_place = record { at = 0; rec = 0; depth = 0 }

-- the stream ends at a place, with these counts of items; the marks do not matter
pub record Ends (p : Place) (counts : List ℕ) (named : Bool) (w : List ℕ) (r : Resolved ℕ) (w' : List ℕ) : Type 0 where
  pub says : total p.rec (at_end p.rec (body_of p.depth no_marks)) ≡ counted r
  pub leaves : w' ≡ area_of (counted r) counts named w

-- over a stream and a work area that are long enough and not too long
pub record Walks (s : Bytes) (w : List ℕ) (r : Resolved ℕ) (w' : List ℕ) : Type 0 where
  pub says : total 0 (read s) ≡ counted r
  pub leaves : w' ≡ area_after (passed s) w

-- on every input
pub record Reads (s : Bytes) (w : List ℕ) (r : Resolved ℕ) (w' : List ℕ) : Type 0 where
  pub says : reading s (length w) ≡ counted r
  pub leaves : w' ≡ reading_area s w
