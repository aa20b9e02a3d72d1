-- Laws of immediates: what was matched is put.
use Prim.Native.Nat.{ℕ, ◌+◌}
use mathlib.Core.Path.{◌≡◌, sym}
use mathlib.Core.List.{List, [], ◌∷◌, ◌++◌, append-nil}
use borrow.Author.Tests.{eq-eqb, ne_eqb}
use Rattle.definition.specs.Basic.{concat_map}
use Rattle.definition.specs.Syntax as Syntax
use Rattle.definition.specs.Binary.{u, block_type, memarg, instruction, expr}
use Rattle.emit.specs.Put.{Put}
use Rattle.emit.proofs.Laws.{put_then, put_is}
use Rattle.syntax.specs.Resolved.{block_type_of}
use Rattle.syntax.specs.declared.BlockType.{BlockType}

module _ (old : List ℕ) (at r : ℕ) (new : List ℕ) where
  pub block_is : (b c : BlockType) → b ≡ c → Put old at (block_type (block_type_of c)) r new → Put old at (block_type (block_type_of b)) r new
  block_is b c d p = rw d p

  module _ (e o m : ℕ) where
    -- memory 0 has no index
    pub on_memory_0 : m ≡ 0 → Put old at (u e ++ u o) r new → Put old at (memarg e o m) r new
    unfolding memarg
    on_memory_0 d p = rw (eq-eqb m 0 d) p

    pub on_another : (m ≡ 0 → ⊥) → Put old at (u (e + 64) ++ u m ++ u o) r new → Put old at (memarg e o m) r new
    unfolding memarg
    on_another d p = rw (ne_eqb m 0 d) p

-- one instruction and the end
pub put-expr : {a b c : List ℕ} {at r q : ℕ} (o : Syntax.Op) → Put a at (instruction o) r b → Put b r (0x0B ∷ []) q c → Put a at (expr (o ∷ [])) q c
unfolding expr concat_map
put-expr o x y = put_then (put_is x (sym (append-nil (instruction o)))) y
