-- The flat stream is read, as the flat records.
use mathlib.Core.Path.{◌≡◌, refl, ◌∙◌, sym, ap}
use Prim.Native.Nat.{ℕ, zero, suc, ◌+◌, ◌-◌, ◌≤◌}
use mathlib.Core.List.{List, [], ◌∷◌, ◌++◌, map}
use mathlib.Core.Option.{none}
use lib.ListN.{length, drop, length-append, length-drop}
use borrow.Author.Tests.{lt-leb}
use native.Mathlib.Omega.{arith}
use Rattle.definition.specs.Basic.{ok, concat_map}
use Rattle.definition.specs.Syntax.{Bytes, Identifier, Instr, Rec}
use Rattle.definition.specs.Read.{Seen, nothing_seen, seen_after, records, read}
use Rattle.definition.specs.Folded.{Waiting, still}
use Rattle.laws.proofs.Reading.{records_end}
use Rattle.unfolding.specs.FlatStream.{Part, parts, parts_of, flat_order, flat_records, flat_stream}
use Rattle.unfolding.proofs.Local.{beyond}
use Rattle.unfolding.proofs.FlatOrder.{Waits, followed, waiting, sum, sum_flat}
use Rattle.unfolding.proofs.NextRecord.{first}
use Rattle.unfolding.proofs.Walk.{Stands, Operates, Walk, done, other, leaf, node, walk}

-- ## What waits

-- the operators that wait in the definition's flattening, and the parts that wait
pub data Kept (seen : Seen) : Waiting Identifier → Waits → Type 0 where
  nothing : Kept seen [] []
  more : {n r : ℕ} {x : Instr Identifier} {p : Part} {vs : Waiting Identifier} {ws : Waits} → Operates seen x p → Kept seen vs ws → Kept seen ((suc n, r, x) ∷ vs) ((n, p) ∷ ws)

-- an operand is complete, for both
pub kept-still : {seen : Seen} {vs : Waiting Identifier} {ws : Waits} → Kept seen vs ws → Kept seen (still vs) (waiting ws)
unfolding still
kept-still nothing = nothing
kept-still (more {n = zero} o k) = kept-still k
kept-still (more {n = suc n} o k) = let m : (suc (suc n) - 1) ≡ suc n = omega arith in rw (lt-leb (suc (suc n)) 1 (omega arith), m) (more o k)

-- ## Reading parts that stand one after the other

abbrev pub bytes_of : List Part → Bytes
bytes_of ps = concat_map (λ p. p.bytes) ps

abbrev pub records_of : List Part → List (Rec Identifier)
records_of ps = map (λ p. p.rec) ps

-- at any place where they are all that is left
abbrev Reads : Seen → List Part → Type 0
Reads seen ps = (left r : ℕ) (t : Bytes) (there : ℕ) → length ps ≤ left → drop there t ≡ bytes_of ps → records left r seen t there ≡ ok (records_of ps)

module _ (seen : Seen) where
  -- nothing is left, outside a body
  reads_none : seen.body ≡ none → Reads seen []
  unfolding concat_map
  reads_none e left r t there l d =
      let n : length t - there ≡ 0 = sym (length-drop there t) ∙ ap length d in
      records_end r seen t there left (omega arith) ∙ rw e refl

  -- one part, and then others
  reads_more : (p : Part) (ps : List Part) → Stands seen p → Reads (seen_after seen p.rec) ps → Reads seen (p ∷ ps)
  unfolding records concat_map
  reads_more p ps h f zero r t there l d = absurd (omega arith)
  reads_more p ps h f (suc left) r t there l d =
      let n : length t - there ≡ length p.bytes + length (bytes_of ps) = sym (length-drop there t) ∙ ap length d ∙ length-append p.bytes (bytes_of ps) in
      let k = h.some in
      let e = h.reads t there (bytes_of ps) d in
      let g = f left (r + 1) t (there + length p.bytes) (omega arith) (beyond p.bytes (bytes_of ps) t there d) in
      rw (lt-leb (length t) there (omega arith), e, g) refl

  -- an operator leaves everything as it is
  reads-operator : (x : Instr Identifier) (p : Part) (ps : List Part) → Operates seen x p → Reads seen ps → Reads seen (p ∷ ps)
  reads-operator x p ps o f = reads_more p ps o.stands (rw (o.is, o.stays) f)

  -- and so do the operators right after an operand
  reads_followed : {vs : Waiting Identifier} {ws : Waits} → Kept seen vs ws → (ps : List Part) → Reads seen ps → Reads seen (followed ws ++ ps)
  reads_followed nothing ps f = f
  reads_followed (more {n = zero} {x = x} {p = p} {ws = ws} o k) ps f = reads-operator x p (followed ws ++ ps) o (reads_followed k ps f)
  reads_followed (more {n = suc n} o k) ps f = f

-- the parts of a walk are read in flat order
flat_reads : {seen : Seen} {ws : Waits} {rs : List (Rec Identifier)} {ps : List Part} → Walk seen ws rs ps → {vs : Waiting Identifier} → Kept seen vs ws → Reads seen ps
flat_reads {seen = seen} (done e) k = reads_none seen e
flat_reads {seen = seen} (other {p = p} {ps = ps} n i h w) k = reads_more seen p ps h (rw i (flat_reads w nothing))
flat_reads {seen = seen} (leaf {ws = ws} {x = x} {p = p} {ps = ps} o w) k = reads-operator seen x p (followed ws ++ ps) o (reads_followed seen k ps (flat_reads w (kept-still k)))
flat_reads (node o w) k = flat_reads w (more {r = 0} o k)

-- ## The flat stream

-- the parts are as many as the records
length_sum : (ps : List Part) → sum (λ p. 1) ps ≡ length ps
length_sum [] = refl
length_sum (p ∷ ps) = omega (arith, length_sum ps)

length-parts : (seen : Seen) (s : Bytes) (here : ℕ) (rs : List (Rec Identifier)) → length (parts seen s here rs) ≡ length rs
unfolding parts
length-parts seen s here [] = refl
length-parts seen s here (x ∷ rs) = ap suc (length-parts (seen_after seen x) s _ rs)

-- and so are those in flat order
pub flat_length : (s : Bytes) (rs : List (Rec Identifier)) → length (flat_order (parts_of s rs)) ≡ length rs
unfolding parts_of
flat_length s rs = sym (length_sum (flat_order (parts_of s rs))) ∙ sum_flat (λ p. 1) (parts_of s rs) ∙ length_sum (parts_of s rs) ∙ length-parts nothing_seen s 0 rs

-- the ceiling of records holds
few : (rs : List (Rec Identifier)) (left r : ℕ) (seen : Seen) (s : Bytes) (here : ℕ) → records left r seen s here ≡ ok rs → length rs ≤ left
few [] left r seen s here e = omega arith
few (x ∷ rs) left r seen s here e =
    let f = first left r seen s here x rs e in
    omega (arith, f.one, few rs f.fewer (r + 1) (seen_after seen x) s f.next f.goes_on)

-- the walk over all records
pub flat_walk : (s : Bytes) (rs : List (Rec Identifier)) → read s ≡ ok rs → Walk nothing_seen [] rs (flat_order (parts_of s rs))
unfolding read flat_order parts_of nothing_seen
flat_walk s rs e = walk rs 4096 0 nothing_seen s 0 e [] refl

-- the flat stream is read, as the flat records
pub flat_read : (s : Bytes) (rs : List (Rec Identifier)) → read s ≡ ok rs → read (flat_stream s) ≡ ok (flat_records s rs)
unfolding read flat_stream flat_records
flat_read s rs e =
    let l = few rs 4096 0 nothing_seen s 0 e in
    let n = flat_length s rs in
    rw e (flat_reads (flat_walk s rs e) nothing 4096 0 (bytes_of (flat_order (parts_of s rs))) 0 (omega arith) refl)
