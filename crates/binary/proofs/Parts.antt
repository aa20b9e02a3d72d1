-- Laws of names, and of a byte that a call has said.
use Prim.Native.Nat.{ℕ, ◌+◌, ◌≤◌, ◌<◌}
use mathlib.Core.Path.{◌≡◌, ap}
use mathlib.Core.List.{List, [], ◌∷◌}
use lib.ListN.{length}
use borrow.Author.Tests.{lt-ltb}
use native.Mathlib.Omega.{arith}
use mir.Syntax.{w8}
use mir.Val.{Fits}
use Rattle.definition.specs.Syntax.{Space, funcs, tables, mems, globals, types, elems, datas, code}
use Rattle.definition.specs.Basic.{concat_map}
use Rattle.definition.specs.Binary.{unsigned, u, sized, vec}
use Rattle.emit.specs.Put.{Put}
use Rattle.emit.proofs.Laws.{put-before, put_then, put_is}

-- bytes after their length
pub put_name_is : {a b c bs cs : List ℕ} {at r q : ℕ} → bs ≡ cs → Put a at (u (length bs)) r b → Put b r bs q c → Put a at (sized cs) q c
unfolding sized
put_name_is e x y = rw e at (put_then x y)

-- elements after their count
pub put-vec : {A : Type 0} {a b c : List ℕ} {n at r q : ℕ} (f : A → List ℕ) (xs : List A) → n ≡ length xs → Put a at (u n) r b → Put b r (concat_map f xs) q c → Put a at (vec f xs) q c
unfolding vec
put-vec f xs e x y = put_then (rw e at x) y

-- and before them, where it is one group
pub put-vec-before : {A : Type 0} {a b c : List ℕ} {n m at r q : ℕ} (f : A → List ℕ) (xs : List A) → at < length a → n ≤ m → m < 128 → n ≡ length xs → Put a (at + 1) (concat_map f xs) q b
    → Put b at (n ∷ []) r c → Put a at (vec f xs) q c
unfolding vec u unsigned
put-vec-before {n = n} f xs h k l e x y = rw (← e, lt-ltb n 128 (omega arith)) (put-before h x y)

-- a byte by another name, and what follows it
pub put-byte-is : {a b c cs : List ℕ} {x y at r q : ℕ} → y ≡ x → Put a at (y ∷ []) r b → Put b r cs q c → Put a at (x ∷ cs) q c
put-byte-is e p q = put_then (put_is p (ap (λ (z : ℕ). z ∷ []) e)) q

code_small : (k : Space) → code k ≤ 6
code_small funcs = omega arith
code_small tables = omega arith
code_small mems = omega arith
code_small globals = omega arith
code_small types = omega arith
code_small elems = omega arith
code_small datas = omega arith

-- a space's code is a byte
pub code_fits : (k : Space) (n : ℕ) → n ≡ code k → Fits w8 n
code_fits k n e = (let h : code k ≤ 6 = code_small k in omega arith)
