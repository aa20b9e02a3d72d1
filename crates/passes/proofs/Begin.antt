-- What reading leaves is what a walk begins with.
use Rattle.std.specs.Prelude.{Ok}
use Rattle.std.specs.Prelude.{if◌then◌else◌}
use mathlib.Core.Path.{◌≡◌, refl, ap, ◌∙◌}
use Prim.Native.Nat.{ℕ, suc, ◌+◌, ◌-◌, ◌≤◌, ◌<◌}
use mathlib.Core.Bool.{Bool, true, false}
use mathlib.Core.List.{List, [], ◌∷◌, ◌++◌, append_assoc}
use lib.Dec.{ltb}
use lib.ListN.{length, take, drop, set}
use lib.Seq.{sets, length-sets, sets-eq, drop-set-lt, take-add, take-append-add, drop_at, take_all, length-take-le}
use borrow.Author.Tests.{ltb-false}
use native.Mathlib.Omega.{arith}
use Rattle.definition.specs.Basic.{Answer, ok, fails, refused}
use Rattle.definition.specs.Syntax.{Bytes, Identifier, Rec}
use Rattle.definition.specs.Read.{read}
use Rattle.laws.specs.Steps.{total}
use Rattle.area.specs.Flags.{data_named_in, flag_put}
use Rattle.area.specs.Layout.{BYTES, COUNTS, DATA_NAMED, ENDS, STRICT, WORDS}
use Rattle.area.proofs.Flags.{flag-put, put-kept}
use Rattle.stream.specs.Pass.{passed, end_words, area_after, reading, reading_area, Reads}
use Rattle.counting.specs.Counting.{count_words}
use Rattle.stream.proofs.Model.{passed-says}
use Rattle.walk.specs.Walk.{begin, ends_from, Ahead}
use Rattle.walk.specs.declared.Cursor.{Cursor}
use Rattle.passes.proofs.Join.{ends_in_lem, ends-few, named_in, sound_in}

-- ## Words of the area

-- what is written below a place leaves the words from there on
drop-sets : (n i : ℕ) (l vs : List ℕ) → i + length vs ≤ n → drop n (sets l i vs) ≡ drop n l
drop-sets n i l [] h = refl
drop-sets n i l (v ∷ vs) h = drop-sets n (suc i) (set l i v) vs (omega arith) ∙ drop-set-lt n l i v (omega arith)

-- the words from `ENDS` up to `STRICT`
middle : (l : List ℕ) → ENDS ≤ length l → drop ENDS (take STRICT l) ≡ take 512 (drop ENDS l)
middle l h = ap (drop ENDS) (take-add ENDS 512 l) ∙ drop_at (take ENDS l) (take 512 (drop ENDS l)) ENDS (length-take-le ENDS l h)

-- words that are written from `ENDS` on
written : (w es : List ℕ) → ENDS + length es ≤ length w → drop ENDS (sets w ENDS es) ≡ es ++ drop (ENDS + length es) w
written w es h =
    ap (drop ENDS) (sets-eq es w ENDS h ∙ append_assoc (take ENDS w) es (drop (ENDS + length es) w))
    ∙ drop_at (take ENDS w) (es ++ drop (ENDS + length es) w) ENDS (length-take-le ENDS w (omega arith))

begins_with : (es more : List ℕ) → length es ≤ 512 → take 512 (es ++ more) ≡ es ++ take (512 - length es) more
begins_with es more h = let e : 512 ≡ length es + (512 - length es) = omega arith in ap (λ n. take n (es ++ more)) e ∙ take-append-add es more (512 - length es)

-- ## The start of a walk

-- the area that reading an accepted stream leaves
pub area-is : (s : Bytes) (w : List ℕ) (rs : List (Rec Identifier)) → read s ≡ ok rs
    → area_after (passed s) w ≡ flag_put DATA_NAMED (sets (sets w ENDS (ends_from 4096 begin s)) COUNTS (count_words (passed s).seen)) (passed s).named
unfolding area_after end_words
area-is s w rs e =
    let a : (passed s).says ≡ ok (0 + length rs) = passed-says s ∙ ap (total 0) e in
    let b : take 512 (passed s).ends ≡ ends_from 4096 begin s = ap (take 512) (ends_in_lem s rs e) ∙ take_all 512 (ends_from 4096 begin s) (ends-few s rs e) in
    rw (a, b)

-- its words from `ENDS` up to `STRICT` begin with the ends
module _ (s : Bytes) (w : List ℕ) (l : WORDS ≤ length w) (es cs : List ℕ) (named : Bool) (few : length es ≤ 512) (seven : length cs ≡ 7) where
  left-long : length (sets (sets w ENDS es) COUNTS cs) ≡ length w
  left-long = length-sets (sets w ENDS es) COUNTS cs ∙ length-sets w ENDS es

  words_are : drop ENDS (take STRICT (flag_put DATA_NAMED (sets (sets w ENDS es) COUNTS cs) named)) ≡ es ++ take (512 - length es) (drop (ENDS + length es) w)
  unfolding flag_put
  words_are =
      let left = sets (sets w ENDS es) COUNTS cs in
      let a : ENDS ≤ length (flag_put DATA_NAMED left named) = rw ((put-kept left DATA_NAMED named).long, left-long) (omega arith) in
      middle (flag_put DATA_NAMED left named) a
      ∙ ap (take 512) (drop-set-lt ENDS left DATA_NAMED _ (omega arith) ∙ drop-sets ENDS COUNTS (sets w ENDS es) cs (omega arith) ∙ written w es (omega arith))
      ∙ begins_with es (drop (ENDS + length es) w) few

seven-counts : (s : Bytes) → length (count_words (passed s).seen) ≡ 7
unfolding count_words
seven-counts s = refl

-- the ends of bodies are in the work area, and a word says whether a data segment is named
pub ahead-begin : (s : Bytes) (w : List ℕ) (rs : List (Rec Identifier)) → read s ≡ ok rs → WORDS ≤ length w → Ahead s (area_after (passed s) w) begin
unfolding begin
ahead-begin s w rs e h =
    let left = sets (sets w ENDS (ends_from 4096 begin s)) COUNTS (count_words (passed s).seen) in
    record {
      ends = record {
        rest = take (512 - length (ends_from 4096 begin s)) (drop (ENDS + length (ends_from 4096 begin s)) w);
        is = ap (λ z. drop ENDS (take STRICT z)) (area-is s w rs e) ∙ words_are s w h (ends_from 4096 begin s) (count_words (passed s).seen) (passed s).named (ends-few s rs e) (seven-counts s);
      };
      few = omega arith;
      sound = sound_in s rs e;
      named = ap data_named_in (area-is s w rs e) ∙ flag-put left DATA_NAMED (passed s).named (rw (left-long s w h (ends_from 4096 begin s) (count_words (passed s).seen) (passed s).named (ends-few s rs e) (seven-counts s)) (omega arith)) ∙ named_in s rs e;
    }

-- ## What a caller of the reading pass has

-- a stream that is read to its end
pub record Accepted (s : Bytes) : Type 0 where
  pub recs : List (Rec Identifier)
  pub is : read s ≡ ok recs

-- within the ceilings of the stream and of the area, it leaves the area of the pass
pub record Left (s : Bytes) (w w' : List ℕ) : Type 0 where
  pub recs : List (Rec Identifier)
  pub is : read s ≡ ok recs
  pub long : WORDS ≤ length w
  pub short : length s ≤ BYTES
  pub leaves : w' ≡ area_after (passed s) w

module _ (s : Bytes) (w w' : List ℕ) (n : ℕ) (v : Reads s w (Ok n) w') where
  pub left : Left s w w'
  unfolding reading reading_area
  left = go (ltb BYTES (length s)) refl (ltb (length w) WORDS) refl v.says v.leaves
    where
      last : (a : Answer (List (Rec Identifier))) → read s ≡ a → total 0 a ≡ ok n → WORDS ≤ length w → length s ≤ BYTES → w' ≡ area_after (passed s) w → Left s w w'
      last (ok rs) e d l h k = record { recs = rs; is = e; long = l; short = h; leaves = k }
      last (fails q) e d l h k = let z : ◌≡◌ {A = ℕ} 0 1 = cc in absurd (omega arith)

      go : (t : Bool) → ltb BYTES (length s) ≡ t → (u : Bool) → ltb (length w) WORDS ≡ u
          → (if t then refused 1 0 else if u then refused 10 0 else total 0 (read s)) ≡ ok n
          → w' ≡ (if t then w else if u then w else area_after (passed s) w) → Left s w w'
      go true a u b e k = let z : ◌≡◌ {A = ℕ} 0 1 = cc in absurd (omega arith)
      go false a true b e k = let z : ◌≡◌ {A = ℕ} 0 1 = cc in absurd (omega arith)
      go false a false b e k = last (read s) refl e (ltb-false _ _ b) (ltb-false _ _ a) k

  -- the stream is accepted
  pub reads-accepted : Accepted s
  reads-accepted = record { recs = left.recs; is = left.is }

  -- a walk may begin
  pub reads-ahead : (c : Cursor) → c ≡ begin → Ahead s w' c
  reads-ahead c e = let a = left.leaves in rw (e, a) (ahead-begin s w left.recs left.is left.long)

  -- the area is long enough
  pub reads-long : WORDS ≤ length w'
  unfolding area_after
  reads-long = let a = left.leaves in let b = area-is s w left.recs left.is in
      rw (a, b, (put-kept (sets (sets w ENDS (ends_from 4096 begin s)) COUNTS (count_words (passed s).seen)) DATA_NAMED (passed s).named).long, length-sets (sets w ENDS (ends_from 4096 begin s)) COUNTS (count_words (passed s).seen), length-sets w ENDS (ends_from 4096 begin s)) left.long

  -- so there is a word for whether the call is strict
  pub reads-flag : STRICT < length w'
  reads-flag = omega (arith, reads-long)

  -- the stream is short enough
  pub reads_short : length s ≤ BYTES
  reads_short = left.short
