-- A loop that puts bytes: some are put, and the rest are left.
use Prim.Native.Nat.{ℕ, ◌*◌, ◌<◌, ◌^◌}
use mathlib.Core.Path.{◌≡◌, sym, ◌∙◌, ap}
use mathlib.Core.List.{List, [], ◌++◌, append_assoc, append-nil}
use lib.ListN.{length}
use native.Mathlib.Omega.{arith}
use Rattle.emit.specs.Put.{Put}
use Rattle.emit.proofs.Laws.{put-none, put_then, put_is}

pub record Putting (old : List ℕ) (at : ℕ) (all rest : List ℕ) (o : ℕ) (out : List ℕ) : Type 0 where
  pub done : List ℕ
  pub so_far : Put old at done o out
  pub same : done ++ rest ≡ all

pub putting_begin : (old : List ℕ) (at : ℕ) (all rest : List ℕ) → length old * 1 < 2 ^ 63 → rest ≡ all → Putting old at all rest at old
putting_begin old at all rest h e = record { done = []; so_far = put-none at (omega arith); same = e }

module _ {old : List ℕ} {at : ℕ} {all rest : List ℕ} {o : ℕ} {out : List ℕ} (v : Putting old at all rest o out) where
  -- the first of those that are left are put
  pub putting_more : (bs less : List ℕ) (r : ℕ) (new : List ℕ) → rest ≡ bs ++ less → Put out o bs r new → Putting old at all less r new
  putting_more bs less r new e p = record {
    done = v.done ++ bs;
    so_far = put_then v.so_far p;
    same = append_assoc v.done bs less ∙ ap (λ x. v.done ++ x) (sym e) ∙ v.same;
  }

  -- none are left
  pub putting_done : rest ≡ [] → Put old at all o out
  putting_done e = put_is v.so_far (sym (append-nil v.done) ∙ ap (λ x. v.done ++ x) (sym e) ∙ v.same)

  -- the buffer keeps its length
  pub putting_long : length out ≡ length old
  putting_long = v.so_far.long
