-- The loop of `put_s`: the groups that are written, and the integer that is left. A signed value that a loop keeps is read back from its bits.
use Prim.Native.Nat.{ℕ, ◌+◌, ◌*◌, ◌^◌, ◌<◌}
use mathlib.Core.Path.{◌≡◌, refl, sym, ◌∙◌, ap}
use mathlib.Core.Bool.{Bool, true, false, not}
use mathlib.Core.List.{[], ◌∷◌, ◌++◌, append_assoc}
use lib.ListN.{length}
use lib.IntN.{ℤ, pos}
use lib.Signed.{mag}
use borrow.Author.Tests.{not-true, not-false}
use native.Mathlib.Omega.{arith}
use mir.Syntax.{w8, w32, w64}
use mir.Val.{Fits, SFits, to_z, of_z}
use mir.ValLaws.{to_z-of_z, to_z_pos}
use Rattle.definition.specs.Syntax.{Bytes}
use Rattle.definition.specs.Binary.{low7, over128, fits7, signed, s}
use Rattle.laws.proofs.Groups.{low7_small, signed_end, SignedMore, signed-more}
use Rattle.emit.specs.Put.{Put}
use Rattle.emit.proofs.Laws.{put-none, put_then, put_is}

-- of the groups of `x`, `done` are written, and those of `rest` come after them
pub record Written (out₀ : Bytes) (at : ℕ) (x : ℤ) (out : Bytes) (i : ℕ) (rest : ℤ) : Type 0 where
  pub done : Bytes
  pub left : ℕ
  pub so_far : Put out₀ at done i out
  pub same : s x ≡ done ++ signed left rest
  pub below : mag rest < 64 * 128 ^ left

pub begin : {out : Bytes} {at : ℕ} (x : ℤ) → length out * 1 < 2 ^ 63 → SFits w64 x → Written out at (to_z w64 (of_z w64 x)) out at (to_z w64 (of_z w64 x))
unfolding s
begin {at = at} x h f = record { done = []; left = 9; so_far = put-none at (omega arith); same = refl; below = rw (to_z-of_z w64 x f) (omega (arith, f.sfits)) }

-- the high bit has room in a byte
pub high_fits : {l : ℕ} (z : ℤ) → l ≡ low7 z → Fits w8 (l + 128)
high_fits z e = record { fits = omega (arith, low7_small z) }

module _ {out₀ out : Bytes} {at i : ℕ} {x rest : ℤ} (v : Written out₀ at x out i rest) {b : Bool} (t : b ≡ fits7 rest) where
  -- `z` is what is left after one more group
  module _ (n : not b ≡ true) {z : ℤ} (o : z ≡ over128 rest) (f : SFits w64 z) where
    more : SignedMore v.left rest
    more = signed-more v.left rest (sym t ∙ not-true b n) v.below

    next : to_z w64 (of_z w64 z) ≡ over128 rest
    next = to_z-of_z w64 z f ∙ o

    pub nearer : mag (to_z w64 (of_z w64 z)) < mag rest
    nearer = rw next more.nearer

    pub again : {l r : ℕ} {new : Bytes} → l ≡ low7 rest → Put out i ((l + 128) ∷ []) r new → Written out₀ at x new r (to_z w64 (of_z w64 z))
    again {l} d p = record {
      done = v.done ++ ((l + 128) ∷ []);
      left = more.less;
      so_far = put_then v.so_far p;
      same = v.same ∙ ap (λ bs. v.done ++ bs) more.first ∙ rw (next, d) (sym (append_assoc v.done ((low7 rest + 128) ∷ []) (signed more.less (over128 rest))));
      below = rw next more.below;
    }

  ends : {l r : ℕ} {new : Bytes} → not b ≡ false → l ≡ low7 rest → Put out i (l ∷ []) r new → Put out₀ at (s x) r new
  ends n d p = put_is (put_then v.so_far p) (sym (v.same ∙ rw (signed_end v.left rest (sym t ∙ not-false b n), d) refl))

-- the groups of the integer itself are written
pub ends_at : {out₀ out : Bytes} {at i : ℕ} {rest : ℤ} (x : ℤ) → SFits w64 x → Written out₀ at (to_z w64 (of_z w64 x)) out i rest
    → {b : Bool} {l r : ℕ} {new : Bytes} → b ≡ fits7 rest → not b ≡ false → l ≡ low7 rest → Put out i (l ∷ []) r new
    → Put out₀ at (s x) r new
ends_at x f v t n d p = rw (to_z-of_z w64 x f) at (ends v t n d p)

-- the buffer keeps its length
pub same-long : {out₀ out new : Bytes} {at i l r : ℕ} {x rest : ℤ} → Written out₀ at x out i rest → Put out i (l ∷ []) r new → length new ≡ length out₀
same-long v p = p.long ∙ v.so_far.long

-- ## Integers by their bits

-- what was written is an integer that a call gave
pub put-given : {a b : Bytes} {at r : ℕ} (z y : ℤ) → SFits w64 z → z ≡ y → Put a at (s (to_z w64 (of_z w64 z))) r b → Put a at (s y) r b
put-given z y f e p = put_is p (ap s (to_z-of_z w64 z f ∙ e))

-- what was written is a number of 32 bits
pub put_natural : {a b : Bytes} {at r : ℕ} (n : ℕ) → Fits w32 n → Put a at (s (to_z w64 n)) r b → Put a at (s (pos n)) r b
put_natural n f p = put_is p (ap s (to_z_pos w64 n (omega (arith, f.fits))))
