-- The flat stream is not longer than the stream, and holds no folded record; a stream that holds none is its own flat stream.
use mathlib.Core.Path.{◌≡◌, refl, ◌∙◌, sym, ap}
use Prim.Native.Nat.{ℕ, ◌+◌, ◌-◌, ◌≤◌}
use mathlib.Core.Bool.{Bool, true, false, ◌||◌, false≢true}
use mathlib.Core.List.{List, [], ◌∷◌, ◌++◌, map}
use lib.ListN.{length, take, drop, length-append, length-take, length-drop, drop_of_length-le}
use lib.Seq.{slice}
use native.Mathlib.Omega.{arith}
use Rattle.definition.specs.Basic.{Refusal, Answer, ok, fails, concat_map, any}
use Rattle.definition.specs.Syntax.{Bytes, Identifier, Rec, field, instr, folded, body_end}
use Rattle.definition.specs.Read.{Seen, nothing_seen, seen_after, one_record, records, read}
use Rattle.unfolding.specs.FlatStream.{unfolded, unfolded_bytes, Part, part_of, after, parts, parts_of, groups, flat_order, flat_records, flat_stream, is_folded, any_folded}
use Rattle.unfolding.proofs.Local.{takes_slice}
use Rattle.unfolding.proofs.LocalReaders.{local_record}
use Rattle.unfolding.proofs.FlatOrder.{sum, sum_flat}
use Rattle.unfolding.proofs.NextRecord.{first, last}
use Rattle.unfolding.proofs.Walk.{whole, other-part}
use Rattle.unfolding.proofs.FlatRead.{bytes_of, flat_read}

-- ## Not longer

-- bytes are counted part by part
length-bytes : (ps : List Part) → length (bytes_of ps) ≡ sum (λ p. length p.bytes) ps
unfolding concat_map
length-bytes [] = refl
length-bytes (p ∷ ps) = length-append p.bytes (bytes_of ps) ∙ ap (λ n. length p.bytes + n) (length-bytes ps)

slice_short : (here next : ℕ) (s : Bytes) → length (slice here next s) ≤ next - here
slice_short here next s = omega (arith, length-drop here (take next s), length-take next s)

-- a part has no more bytes than its record
part-short : (x : Rec Identifier) (s : Bytes) (here next : ℕ) → length (part_of x s here next).bytes ≤ next - here
unfolding part_of unfolded_bytes
part-short (field f) s here next = slice_short here next s
part-short (instr x) s here next = slice_short here next s
part-short (folded x n) s here next = omega (arith, slice_short (here + 1) (next - 1) s)
part-short body_end s here next = slice_short here next s

-- nor the parts than the stream from their place on
parts-short : (rs : List (Rec Identifier)) (left r : ℕ) (seen : Seen) (s : Bytes) (here : ℕ) → records left r seen s here ≡ ok rs
    → sum (λ p. length p.bytes) (parts seen s here rs) ≤ length (drop here s)
unfolding parts
parts-short [] left r seen s here e = omega arith
parts-short (x ∷ rs) left r seen s here e =
    let f = first left r seen s here x rs e in
    let t = (local_record seen).takes s here x f.next f.reads in
    let a : length (drop here s) ≡ length t.bytes + length (drop f.next s) = ap length t.stand ∙ length-append t.bytes (drop f.next s) in
    let z = t.size in
    let b = part-short x s here f.next in
    let c = parts-short rs f.fewer (r + 1) (seen_after seen x) s f.next f.goes_on in
    rw f.reads (omega arith)

-- the flat stream is not longer
pub flat_short : (s : Bytes) (rs : List (Rec Identifier)) → read s ≡ ok rs → length (flat_stream s) ≤ length s
unfolding read flat_stream parts_of
flat_short s rs e =
    let ps = parts nothing_seen s 0 rs in
    rw e (omega (arith, length-bytes (flat_order ps), sum_flat (λ p. length p.bytes) ps, parts-short rs 4096 0 nothing_seen s 0 e))

-- ## Its own flat stream

none_of : (a b : Bool) → (a || b) ≡ false → (a ≡ false) × (b ≡ false)
none_of true b e = absurd (false≢true (sym e))
none_of false b e = (refl, e)

-- a part without operands is a group by itself
one_group : (s : Bytes) (here next : ℕ) (x : Rec Identifier) (ps : List Part) → flat_order ps ≡ ps → flat_order (whole s here next x ∷ ps) ≡ whole s here next x ∷ ps
unfolding flat_order groups concat_map
one_group s here next x ps f = ap (λ qs. whole s here next x ∷ qs) f

-- nothing moves, and nothing is taken out
untouched : (rs : List (Rec Identifier)) (left r : ℕ) (seen : Seen) (s : Bytes) (here : ℕ) → records left r seen s here ≡ ok rs → any is_folded rs ≡ false
    → (flat_order (parts seen s here rs) ≡ parts seen s here rs) × (bytes_of (parts seen s here rs) ≡ drop here s)
unfolding parts any concat_map
untouched [] left r seen s here e n = (unfold flat_order groups in refl, sym (drop_of_length-le s (last left r seen s here e).1))
untouched (x ∷ rs) left r seen s here e n =
    let f = first left r seen s here x rs e in
    let k = none_of (is_folded x) (any is_folded rs) n in
    let w = untouched rs f.fewer (r + 1) (seen_after seen x) s f.next f.goes_on k.1 in
    let t = (local_record seen).takes s here x f.next f.reads in
    let b : slice here f.next s ++ drop f.next s ≡ drop here s = rw (takes_slice t) (sym t.stand) in
    rw (f.reads, other-part s here f.next x k.0) (one_group s here f.next x _ w.0, ap (λ bs. slice here f.next s ++ bs) w.1 ∙ b)

-- a stream without a folded record is its own flat stream
pub own_flat_stream : (s : Bytes) (rs : List (Rec Identifier)) → read s ≡ ok rs → any_folded rs ≡ false → flat_stream s ≡ s
unfolding read flat_stream parts_of any_folded
own_flat_stream s rs e n = let w = untouched rs 4096 0 nothing_seen s 0 e n in rw e (ap bytes_of w.0 ∙ w.1)

-- ## No folded record

abbrev bit : Bool → ℕ
bit true = 1
bit false = 0

-- no folded record among some: their count is 0
none_among : (ps : List Part) → sum (λ p. bit (is_folded p.rec)) ps ≡ 0 → any is_folded (map (λ p. p.rec) ps) ≡ false
unfolding any
none_among [] e = refl
none_among (p ∷ ps) e = go (is_folded p.rec) e (none_among ps)
  where
    go : (t : Bool) → bit t + sum (λ p. bit (is_folded p.rec)) ps ≡ 0
        → (sum (λ p. bit (is_folded p.rec)) ps ≡ 0 → any is_folded (map (λ p. p.rec) ps) ≡ false) → (t || any is_folded (map (λ p. p.rec) ps)) ≡ false
    go true e f = absurd (omega arith)
    go false e f = f (omega arith)

-- a part's record is not folded
part-unfolded : (x : Rec Identifier) (s : Bytes) (here next : ℕ) → bit (is_folded (part_of x s here next).rec) ≡ 0
unfolding part_of unfolded is_folded
part-unfolded (field f) s here next = refl
part-unfolded (instr x) s here next = refl
part-unfolded (folded x n) s here next = refl
part-unfolded body_end s here next = refl

parts-unfolded : (rs : List (Rec Identifier)) (seen : Seen) (s : Bytes) (here : ℕ) → sum (λ p. bit (is_folded p.rec)) (parts seen s here rs) ≡ 0
unfolding parts
parts-unfolded [] seen s here = refl
parts-unfolded (x ∷ rs) seen s here =
    let next = after (one_record seen s here) in
    omega (arith, part-unfolded x s here next, parts-unfolded rs (seen_after seen x) s next)

flat_unfolded : (s : Bytes) (rs : List (Rec Identifier)) → any_folded (flat_records s rs) ≡ false
unfolding any_folded flat_records parts_of
flat_unfolded s rs = none_among (flat_order (parts_of s rs)) (sum_flat (λ p. bit (is_folded p.rec)) (parts_of s rs) ∙ parts-unfolded rs nothing_seen s 0)

-- a stream that is refused in reading stays
pub left_as_it_is : (s : Bytes) (q : Refusal) → read s ≡ fails q → flat_stream s ≡ s
unfolding flat_stream
left_as_it_is s q e = rw e refl

-- the flat stream holds no folded record
pub none-folded : (s : Bytes) (ts : List (Rec Identifier)) → read (flat_stream s) ≡ ok ts → any_folded ts ≡ false
none-folded s ts d = go (read s) refl
  where
    go : (c : Answer (List (Rec Identifier))) → read s ≡ c → any_folded ts ≡ false
    go (ok rs) e = let f = flat_read s rs e in let z : flat_records s rs ≡ ts = cc in rw (← z) (flat_unfolded s rs)
    go (fails q) e = let f : read s ≡ ok ts = rw (left_as_it_is s q e) at d in let z : ◌≡◌ {A = ℕ} 0 1 = cc in absurd (omega arith)

-- and so is its own flat stream
pub flat_once : (s : Bytes) → flat_stream (flat_stream s) ≡ flat_stream s
flat_once s = go (read (flat_stream s)) refl
  where
    go : (c : Answer (List (Rec Identifier))) → read (flat_stream s) ≡ c → flat_stream (flat_stream s) ≡ flat_stream s
    go (ok ts) e = own_flat_stream (flat_stream s) ts e (none-folded s ts e)
    go (fails q) e = left_as_it_is (flat_stream s) q e
