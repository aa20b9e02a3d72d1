-- Laws of `Put`: emitters alone, in a row, and with room.
use Prim.Native.Nat.{ℕ, suc, ◌+◌, ◌^◌, ◌≤◌, ◌<◌, ◌*◌}
use mathlib.Core.Path.{◌≡◌, refl, sym, ◌∙◌}
use mathlib.Core.List.{List, [], ◌∷◌, ◌++◌}
use lib.ListN.{length, set, take, drop, length-append, length-set}
use lib.Seq.{sets, sets-eq, set_out, set_comm}
use native.Mathlib.Omega.{arith}
use Rattle.laws.proofs.Sets.{sets-append}
use Rattle.emit.specs.Put.{Put, past}

-- past the end nothing is stored
pub sets_out : (l : List ℕ) (i : ℕ) (vs : List ℕ) → length l ≤ i → sets l i vs ≡ l
sets_out l i [] h = refl
sets_out l i (v ∷ vs) h = let e : set l i v ≡ l = set_out l i v h in rw e (sets_out l (suc i) vs (omega arith))

-- an element before a run may be stored after it
pub set_before : (l : List ℕ) (i j v : ℕ) (xs : List ℕ) → i < j → set (sets l j xs) i v ≡ sets (set l i v) j xs
set_before l i j v [] h = refl
set_before l i j v (x ∷ xs) h =
    let e : set (set l j x) i v ≡ set (set l i v) j x = set_comm l j i x v (λ z. absurd (omega (arith, z))) in
    set_before (set l j x) i (suc j) v xs (omega arith) ∙ rw e

-- no bytes: nothing changes
pub put-none : {l : List ℕ} (at : ℕ) → length l < 2 ^ 63 → Put l at [] at l
unfolding past
put-none at h = record { place = omega arith; bytes = λ _. refl; long = refl; short = h }

-- one byte that has room
pub put_in : {l : List ℕ} {at b : ℕ} → at < length l → length l < 2 ^ 63 → Put l at (b ∷ []) (at + 1) (set l at b)
unfolding past
put_in {l} {at} {b} h s = record { place = omega arith; bytes = λ _. refl; long = length-set l at b; short = s }

-- one byte that has none
pub put_out : {l : List ℕ} {at b r : ℕ} → length l ≤ at → length l < 2 ^ 63 → r ≡ past at 1 → Put l at (b ∷ []) r l
put_out {l} {at} {b} h s e = record { place = e; bytes = λ _. sym (set_out l at b h); long = refl; short = s }

-- two emitters in a row are one of both their bytes
pub put_then : {a b c bs cs : List ℕ} {at r q : ℕ} → Put a at bs r b → Put b r cs q c → Put a at (bs ++ cs) q c
unfolding past
put_then {a} {b} {c} {bs} {cs} {at} {r} {q} x y = record {
  place = omega (arith, x.place, y.place, length-append bs cs);
  bytes = λ h.
      (let e : r ≡ at + length bs = omega (arith, x.place, length-append bs cs) in
      let d : b ≡ sets a at bs = x.bytes (omega (arith, length-append bs cs)) in
      y.bytes (omega (arith, length-append bs cs)) ∙ rw (d, e) (sym (sets-append a at bs cs)));
  long = y.long ∙ x.long;
  short = x.short;
}

-- the same after a single byte, as a goal shows it once it has computed
pub put_cons : {a b c cs : List ℕ} {x at r q : ℕ} → Put a at (x ∷ []) r b → Put b r cs q c → Put a at (x ∷ cs) q c
put_cons x y = put_then x y

-- a byte that is put before bytes which stand already
pub put-before : {old mid new bs : List ℕ} {at b r x : ℕ} → at < length old → Put old (at + 1) bs b mid → Put mid at (x ∷ []) r new → Put old at (x ∷ bs) b new
unfolding past
put-before {old} {mid} {new} {bs} {at} {b} {r} {x} h p q = record {
  place = omega (arith, p.place, p.short);
  bytes = λ f.
      let c : at + 1 ≡ suc at = omega arith in
      let d : mid ≡ sets old (suc at) bs = p.bytes (omega arith) ∙ rw c refl in
      q.bytes (omega arith) ∙ rw d (set_before old at (suc at) x bs (omega arith));
  long = q.long ∙ p.long;
  short = p.short;
}

-- with room for all its bytes an emitter puts them there, and leaves what is before and after them
pub put-room : {old new bs : List ℕ} {at r : ℕ} → Put old at bs r new → at + length bs ≤ length old
    → (r ≡ at + length bs) × (new ≡ take at old ++ bs ++ drop (at + length bs) old)
unfolding past
put-room {old} {new} {bs} {at} x h = (omega (arith, x.place, x.short), x.bytes (omega (arith, x.short)) ∙ sets-eq bs old at h)

-- an emitter keeps the length of what it writes to
pub put-length : {old new bs : List ℕ} {at r : ℕ} → Put old at bs r new → length new ≡ length old
put-length x = x.long

-- the bytes as a definition says them
pub put_is : {a b bs cs : List ℕ} {at r : ℕ} → Put a at bs r b → bs ≡ cs → Put a at cs r b
put_is x e = rw e at x

-- nothing is written; the premise is what owning a slice of bytes tells, so `search` finds it
pub put-skip : {l cs : List ℕ} {at : ℕ} → length l * 1 < 2 ^ 63 → [] ≡ cs → Put l at cs at l
put-skip {l = l} {at = at} h e = rw e at (put-none {l = l} at (omega arith))
