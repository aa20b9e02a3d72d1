-- What is put of an item, and of one after the other.
use Rattle.std.specs.Prelude.{Option, Ok, Err, Some, None}
use Rattle.std.specs.Prelude.{IsErrAnd}
use Rattle.std.specs.Result.{IsErr}
use Rattle.syntax.specs.Refusals.{Resolved}
use Rattle.syntax.proofs.Ways.{handed}
use Prim.Native.Nat.{ℕ, ◌<◌}
use mathlib.Core.Path.{◌≡◌, refl}
use mathlib.Core.List.{List, [], ◌∷◌}
use native.Mathlib.Omega.{arith}
use Rattle.definition.specs.Basic.{Answer, ok, fails, ◌>>=◌}
use Rattle.definition.specs.Syntax.{Space}
use Rattle.definition.specs.Names.{unheld}
use Rattle.syntax.specs.Refusals.{refusal_of, refused_by}
use Rattle.syntax.specs.declared.Fault.TheVariants as Faults
use Rattle.syntax.specs.declared.Refusal.{Refusal}
use Rattle.area.specs.Layout.{NAMES}
use Rattle.syntax.specs.declared.Part.{Part}
use Rattle.syntax.specs.Items.{count_of}
use Rattle.syntax.specs.declared.Seen.{Seen}
use Rattle.counting.specs.Counting.{one_more}
use Rattle.name_table.specs.Definers.{holder_in, held_by, item_words}
use Rattle.area.proofs.Kept.{kept_same, kept_then}
use Rattle.registration.specs.Register.{Entry, register_in, Puts}
use Rattle.name_table.proofs.Holders.{item-kept}

-- ## No item

pub puts_none : (s w : List ℕ) (seen : Seen) (r : ℕ) → Puts s w seen r [] (Ok tt) w
unfolding register_in
puts_none s w seen r = record { says = refl; kept = kept_same NAMES w }

-- ## One item

module _ (s w : List ℕ) (seen : Seen) (k : Space) (p : Part) (r n : ℕ) (e : n ≡ count_of seen k) (t : Option ℕ) (h : holder_in n k s w p ≡ held_by t) where
  -- its name has a holder
  pub item-held : (q : ℕ) → t ≡ Some q → Puts s w seen r ((k, p) ∷ []) (Err (record { fault = Faults.NameTaken; rec = r; first = q })) w
  unfolding register_in ◌>>=◌
  item-held q y = record { says = rw (← e, h, y); kept = kept_same NAMES w }

  pub item-put : (w' : List ℕ) → t ≡ None → count_of seen k < 256 → w' ≡ item_words s w k n p r → Puts s w seen r ((k, p) ∷ []) (Ok tt) w'
  unfolding register_in ◌>>=◌
  item-put w' y low z = record { says = rw (← e, h, y, z); kept = rw z (item-kept s w k n p r (rw e low)) }

-- ## One item after the other

module _ (s w : List ℕ) (seen : Seen) (r : ℕ) (j : Space) (a : Part) where
  register_then : (ps : List Entry) (w' : List ℕ) → register_in s w seen r ((j, a) ∷ []) ≡ ok w'
      → register_in s w seen r ((j, a) ∷ ps) ≡ register_in s w' (one_more seen j) r ps
  unfolding register_in ◌>>=◌
  register_then ps w' e = go (unheld r (holder_in (count_of seen j) j s w a) (item_words s w j (count_of seen j) a r)) e
    where
      go : (m : Answer (List ℕ)) → (m >>= λ v. ok v) ≡ ok w' → (m >>= λ v. register_in s v (one_more seen j) r ps) ≡ register_in s w' (one_more seen j) r ps
      go (ok v) e = let d : v ≡ w' = cc in rw d
      go (fails q) e = let z : ◌≡◌ {A = ℕ} 0 1 = cc in absurd (omega arith)

  register-stops : (ps : List Entry) (q : Refusal) → register_in s w seen r ((j, a) ∷ []) ≡ refused_by q → register_in s w seen r ((j, a) ∷ ps) ≡ refused_by q
  unfolding register_in ◌>>=◌
  register-stops ps q e = go (unheld r (holder_in (count_of seen j) j s w a) (item_words s w j (count_of seen j) a r)) e
    where
      go : (m : Answer (List ℕ)) → (m >>= λ v. ok v) ≡ refused_by q → (m >>= λ v. register_in s v (one_more seen j) r ps) ≡ refused_by q
      go (ok v) e = let z : ◌≡◌ {A = ℕ} 0 1 = cc in absurd (omega arith)
      go (fails z) e = let d : z ≡ refusal_of q = cc in rw d

module _ (s w : List ℕ) (seen : Seen) (r : ℕ) (j : Space) (a b : Part) (q : Resolved (Unit {0})) (w' : List ℕ) (told : Puts s w seen r ((j, b) ∷ []) q w') (e : b ≡ a) where
  -- the first was registered: the others decide
  pub first_done : (ps : List Entry) (more : Seen) (x : Resolved (Unit {0})) (v : List ℕ) → q ≡ Ok tt → more ≡ one_more seen j → Puts s w' more r ps x v → Puts s w seen r ((j, a) ∷ ps) x v
  first_done ps more x v d m h = record { says = rw (← e, register_then s w seen r j b ps w' (rw d at told.says), ← m) h.says; kept = kept_then told.kept h.kept }

  -- it was not, and its refusal is handed on
  pub first-refused : (ps : List Entry) (z : Refusal) (x : Resolved (Unit {0})) → q ≡ Err z → IsErr x → IsErrAnd x (λ y. y ≡ z) → Puts s w seen r ((j, a) ∷ ps) x w'
  first-refused ps z x d i g = rw (handed x z i g) (record { says = rw (← e) (register-stops s w seen r j b ps z (rw d at told.says)); kept = told.kept })
