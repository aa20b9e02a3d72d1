-- The shortest groups of a number: `group_count` by the rule, and the loop of `put_u`, the groups that are done and the number that is left.
use Prim.Native.Nat.{ℕ, zero, suc, ◌+◌, ◌-◌, ◌*◌, ◌/◌, ◌%◌, ◌^◌, ◌≤◌, ◌<◌}
use mathlib.Core.Path.{◌≡◌, refl, sym, ◌∙◌, ap}
use mathlib.Core.List.{[], ◌∷◌, ◌++◌, append_assoc}
use lib.Count.{count_leading_zeros}
use lib.ListN.{length}
use native.Mathlib.Omega.{arith}
use mir.Syntax.{w64}
use mir.Val.{Fits}
use Rattle.definition.specs.Syntax.{Bytes}
use Rattle.definition.specs.Binary.{unsigned, u}
use Rattle.laws.proofs.Groups.{OneMore, unsigned_end, unsigned-more}
use Rattle.laws.proofs.GroupCount.{group_rule}
use Rattle.emit.specs.Put.{Put}
use Rattle.emit.proofs.Laws.{put-none, put_then, put_is}

-- of the groups of `x`, `done` and those of `rest` after them
pub record Split (x : ℕ) (done : Bytes) (rest : ℕ) : Type 0 where
  pub left : ℕ
  pub same : u x ≡ done ++ unsigned left rest
  pub below : rest < 128 ^ suc left

split_none : {x : ℕ} → Fits w64 x → Split x [] x
unfolding u
split_none f = record { left = 9; same = refl; below = omega arith }

module _ {x rest : ℕ} {done : Bytes} (p : Split x done rest) where
  split_more : 128 ≤ rest → Split x (done ++ ((rest % 128 + 128) ∷ [])) (rest / 128)
  split_more h =
      let m : OneMore p.left rest = unsigned-more p.left rest h p.below in
      record {
        left = m.less;
        same = p.same ∙ ap (λ bs. done ++ bs) m.first ∙ sym (append_assoc done ((rest % 128 + 128) ∷ []) (unsigned m.less (rest / 128)));
        below = m.below;
      }

  split_end : rest < 128 → u x ≡ done ++ (rest ∷ [])
  split_end h = p.same ∙ ap (λ bs. done ++ bs) (unsigned_end p.left rest h)

-- ## `group_count`

-- zero takes a group
pub count_zero : (x : ℕ) → x ≡ 0 → 1 ≡ length (u x)
unfolding u unsigned
count_zero x e = rw e

-- any other number as many as the rule says
pub count_rule : (x : ℕ) → Fits w64 x → (x ≡ 0 → ⊥) → (64 - count_leading_zeros 64 x + 6) / 7 ≡ length (u x)
count_rule zero f h = absurd (h refl)
count_rule (suc n) f h = sym (group_rule (suc n) f.fits)

-- ## `put_u`

pub record Written (out₀ : Bytes) (at x : ℕ) (out : Bytes) (i rest : ℕ) : Type 0 where
  pub done : Bytes
  pub split : Split x done rest
  pub so_far : Put out₀ at done i out

pub begin : {out : Bytes} {at x : ℕ} → length out * 1 < 2 ^ 63 → Fits w64 x → Written out at x out at x
begin {at = at} h f = record { done = []; split = split_none f; so_far = put-none at (omega arith) }

module _ {out₀ out new : Bytes} {at x i rest r : ℕ} (v : Written out₀ at x out i rest) where
  pub again : 128 ≤ rest → Put out i ((rest % 128 + 128) ∷ []) r new → Written out₀ at x new r (rest / 128)
  again h p = record { done = v.done ++ ((rest % 128 + 128) ∷ []); split = split_more v.split h; so_far = put_then v.so_far p }

  pub ends : rest < 128 → Put out i (rest ∷ []) r new → Put out₀ at (u x) r new
  ends h p = put_is (put_then v.so_far p) (sym (split_end v.split h))

  -- the buffer keeps its length
  pub same-long : Put out i (rest ∷ []) r new → length new ≡ length out₀
  same-long p = p.long ∙ v.so_far.long
