-- Laws of emitters that also resolve: alone, after one another, and where the value goes on into another.
use Rattle.std.specs.Prelude.{Ok, Err}
use Rattle.syntax.specs.Refusals.{Resolved}
use Prim.Native.Nat.{ℕ}
use mathlib.Core.Path.{◌≡◌, refl}
use mathlib.Core.List.{List, ◌++◌}
use Rattle.definition.specs.Basic.{Answer, ok, ◌>>=◌}
use Rattle.definition.specs.Syntax.{Bytes}
use Rattle.syntax.specs.Refusals.{refused_by}
use Rattle.syntax.specs.declared.Refusal.{Refusal}
use Rattle.emit.specs.Put.{Put}
use Rattle.emit.proofs.Laws.{put_then, put_is}
use Rattle.binary.specs.Emits.{Wrote, Emits}

-- ## Answers that go on

-- a value goes on
pub bind_ok : {A B : Type 0} (m : Answer A) (v : A) (k : A → Answer B) (x : Answer B) → m ≡ ok v → k v ≡ x → (m >>= k) ≡ x
unfolding ◌>>=◌
bind_ok m v k x e h = rw e h

-- a refusal stands
pub bind_not : {A B : Type 0} (m : Answer A) (r : Refusal) (k : A → Answer B) → m ≡ refused_by r → (m >>= k) ≡ refused_by r
unfolding ◌>>=◌
bind_not m r k e = rw e

-- ## What an emitter says

module _ {A : Type 0} (bytes : A → Bytes) (a : Answer A) (old : List ℕ) (at : ℕ) (new : List ℕ) where
  pub wrote : (v : A) (o : ℕ) → Put old at (bytes v) o new → a ≡ ok v → Emits bytes a old at (Ok o) new
  unfolding Emits
  wrote v o p e = record { value = v; is = e; put = p }

  pub halts : (r : Refusal) → a ≡ refused_by r → Emits bytes a old at (Err r) new
  unfolding Emits
  halts r e = e

  -- and back
  pub was_wrote : (q : Resolved ℕ) (o : ℕ) → Emits bytes a old at q new → q ≡ Ok o → Wrote bytes a old at o new
  unfolding Emits
  was_wrote q o w d = rw d at w

  pub has_halted : (q : Resolved ℕ) (r : Refusal) → Emits bytes a old at q new → q ≡ Err r → a ≡ refused_by r
  unfolding Emits
  has_halted q r w d = rw d at w

-- the answer by another name
pub emits-is : {A : Type 0} (bytes : A → Bytes) (a b : Answer A) (old : List ℕ) (at : ℕ) (q : Resolved ℕ) (new : List ℕ) → b ≡ a → Emits bytes a old at q new → Emits bytes b old at q new
emits-is bytes a b old at q new e w = rw e w

-- ## One value

module _ {A B : Type 0} (f : A → Bytes) (g : B → Bytes) (h : A → B) (a : Answer A) (old : List ℕ) (at : ℕ) where
  -- made of another, with the same bytes
  pub emits-map : (q : Resolved ℕ) (new : List ℕ) → ((x : A) → f x ≡ g (h x)) → Emits f a old at q new → Emits g (a >>= λ x. ok (h x)) old at q new
  unfolding Emits ◌>>=◌
  emits-map (Ok o) new s w = record { value = h w.value; is = rw w.is; put = put_is w.put (s w.value) }
  emits-map (Err r) new s w = rw w

  -- with bytes before it
  pub put-emits : (bs : Bytes) (o : ℕ) (mid : List ℕ) (q : Resolved ℕ) (new : List ℕ) → ((x : A) → bs ++ f x ≡ g (h x)) → Put old at bs o mid → Emits f a mid o q new
      → Emits g (a >>= λ x. ok (h x)) old at q new
  unfolding Emits ◌>>=◌
  put-emits bs o mid (Ok q) new s p w = record { value = h w.value; is = rw w.is; put = put_is (put_then p w.put) (s w.value) }
  put-emits bs o mid (Err r) new s p w = rw w

  -- with bytes after it
  pub emits-put : (bs : Bytes) (q : Resolved ℕ) (o : ℕ) (mid : List ℕ) (r : ℕ) (new : List ℕ) → ((x : A) → f x ++ bs ≡ g (h x)) → Emits f a old at q mid → q ≡ Ok o → Put mid o bs r new
      → Emits g (a >>= λ x. ok (h x)) old at (Ok r) new
  unfolding Emits ◌>>=◌
  emits-put bs q o mid r new s w d p =
      let v : Wrote f a old at o mid = was_wrote f a old at mid q o w d in
      record { value = h v.value; is = bind_ok a v.value _ _ v.is refl; put = put_is (put_then v.put p) (s v.value) }

-- ## Two values

-- a refusal of the first stands
pub emits_not : {A B : Type 0} (f : A → Bytes) (g : B → Bytes) (k : A → Answer B) (a : Answer A) (old : List ℕ) (at : ℕ) (q : Resolved ℕ) (r : Refusal) (new : List ℕ)
    → Emits f a old at q new → q ≡ Err r → Emits g (a >>= k) old at (Err r) new
unfolding Emits ◌>>=◌
emits_not f g k a old at q r new w d = let e : a ≡ refused_by r = has_halted f a old at new q r w d in rw e

-- one after the other
pub emits_then : {A B C : Type 0} (f : A → Bytes) (g : B → Bytes) (k : C → Bytes) (h : A → B → C) (a : Answer A) (b : Answer B) (old : List ℕ) (at : ℕ) (q : Resolved ℕ) (o : ℕ) (mid : List ℕ) (r : Resolved ℕ) (new : List ℕ)
    → ((x : A) (y : B) → f x ++ g y ≡ k (h x y)) → Emits f a old at q mid → q ≡ Ok o → Emits g b mid o r new → Emits k (a >>= λ x. b >>= λ y. ok (h x y)) old at r new
unfolding Emits ◌>>=◌
emits_then f g k h a b old at q o mid (Ok p) new s w d z =
    let v : Wrote f a old at o mid = was_wrote f a old at mid q o w d in
    record { value = h v.value z.value; is = bind_ok a v.value _ _ v.is (bind_ok b z.value _ _ z.is refl); put = put_is (put_then v.put z.put) (s v.value z.value) }
emits_then f g k h a b old at q o mid (Err r) new s w d z =
    let v : Wrote f a old at o mid = was_wrote f a old at mid q o w d in
    bind_ok a v.value _ _ v.is (bind_not b r _ z)
