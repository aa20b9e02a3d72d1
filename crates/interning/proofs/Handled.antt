-- Laws of handled uses: none, one after the other, and what they tell when the types are all there.
use Rattle.std.specs.Prelude.{Ok, Err, IsErrAnd}
use Rattle.std.specs.Result.{IsErr}
use Prim.Native.Nat.{ℕ, ◌+◌, ◌-◌, ◌≤◌, ◌<◌}
use mathlib.Core.Path.{◌≡◌, refl, sym, ◌∙◌}
use mathlib.Core.List.{List, [], ◌∷◌, ◌++◌, append-nil}
use lib.ListN.{get_or}
use native.Mathlib.Omega.{arith}
use Rattle.syntax.specs.Refusals.{Resolved, refused_by}
use Rattle.syntax.proofs.Ways.{handed}
use Rattle.definition.specs.Basic.{Answer, ok, fails, ◌>>=◌}
use Rattle.definition.specs.Syntax.{Bytes, FuncType}
use Rattle.definition.specs.Types.{same_type, type_at, take_or_add, intern, Uses}
use Rattle.laws.proofs.Interning.{first-kept, Keeps, intern-keeps}
use Rattle.syntax.specs.declared.Refusal.{Refusal}
use Rattle.area.specs.Layout.{TYPES, USES}
use Rattle.area.proofs.Kept.{kept_same, kept_then}
use Rattle.instr.specs.Bodies.{Stretch}
use Rattle.walk.specs.declared.Stop.{Stop}
use Rattle.type_table.specs.Table.{type_table, Indexed}
use Rattle.interning.specs.Uses.{Known, From, Handled, Stopped, Handles, HandlesTo}

-- ## Interning in two parts

assoc : {A B C : Type 0} (m : Answer A) (f : A → Answer B) (g : B → Answer C) → (m >>= f >>= g) ≡ (m >>= λ a. f a >>= g)
unfolding ◌>>=◌
assoc (ok a) f g = refl
assoc (fails q) f g = refl

-- one answer with two ways to go on that agree
same_after : {A B : Type 0} (m : Answer A) (f g : A → Answer B) → ((a : A) → f a ≡ g a) → (m >>= f) ≡ (m >>= g)
unfolding ◌>>=◌
same_after (ok a) f g h = h a
same_after (fails q) f g h = refl

intern-append : (ts : List FuncType) (us vs : Uses) → intern ts (us ++ vs) ≡ (intern ts us >>= λ all. intern all vs)
unfolding intern ◌>>=◌
intern-append ts [] vs = refl
intern-append ts ((r, t) ∷ us) vs =
    same_after (take_or_add r t ts (type_at t ts)) (λ all. intern all (us ++ vs)) (λ all. intern all us >>= λ more. intern more vs) (λ all. intern-append all us vs)
    ∙ sym (assoc (take_or_add r t ts (type_at t ts)) (λ all. intern all us) (λ more. intern more vs))

pub intern_on : (ts all : List FuncType) (us vs : Uses) → intern ts us ≡ ok all → intern ts (us ++ vs) ≡ intern all vs
unfolding ◌>>=◌
intern_on ts all us vs e = intern-append ts us vs ∙ rw e

pub intern-stops : (ts : List FuncType) (us vs : Uses) (q : Refusal) → intern ts us ≡ refused_by q → intern ts (us ++ vs) ≡ refused_by q
unfolding ◌>>=◌
intern-stops ts us vs q e = intern-append ts us vs ∙ rw e

-- ## Numbers stay

-- more types at the end, and the words of the uses' records as they were
known-between : (low m high : ℕ) (w w' : List ℕ) (ts all : List FuncType) (us : Uses) → m ≤ high → Keeps ts all
    → ((i : ℕ) → low ≤ i → i < m → get_or w' (USES + i) 0 ≡ get_or w (USES + i) 0) → From low us → Known m w ts us → Known high w' all us
unfolding Known From type_at
known-between low m high w w' ts all [] h k f o x = tt
known-between low m high w w' ts all ((r, t) ∷ us) h k f o x =
    let l = x.0 in
    (omega arith, rw (k.is, f r o.0 l) (first-kept (same_type t) ts k.added (get_or w (USES + r) 0) x.1), known-between low m high w w' ts all us h k f o.1 x.2)

from_first : (us : Uses) → From 0 us
unfolding From
from_first [] = tt
from_first ((r, t) ∷ us) = (omega arith, from_first us)

-- other words only at records from `m` on
pub known_kept : (m high : ℕ) (w w' : List ℕ) (ts all : List FuncType) (us : Uses) → m ≤ high → Keeps ts all → ((i : ℕ) → i < m → get_or w' (USES + i) 0 ≡ get_or w (USES + i) 0)
    → Known m w ts us → Known high w' all us
known_kept m high w w' ts all us h k f x = known-between 0 m high w w' ts all us h k (λ i g l. f i l) (from_first us) x

pub known-append : (high : ℕ) (w : List ℕ) (ts : List FuncType) (us vs : Uses) → Known high w ts us → Known high w ts vs → Known high w ts (us ++ vs)
unfolding Known
known-append high w ts [] vs x y = y
known-append high w ts ((r, t) ∷ us) vs x y = (x.0, x.1, known-append high w ts us vs x.2 y)

pub keeps_same : (ts : List FuncType) → Keeps ts ts
keeps_same ts = record { added = []; is = sym (append-nil ts) }

pub known_wide : (m high : ℕ) (w : List ℕ) (ts : List FuncType) (us : Uses) → m ≤ high → Known m w ts us → Known high w ts us
known_wide m high w ts us h x = known_kept m high w w ts ts us h (keeps_same ts) (λ i l. refl) x

-- records from a later one on
from_wide : (low m : ℕ) (us : Uses) → low ≤ m → From m us → From low us
unfolding From
from_wide low m [] h x = tt
from_wide low m ((r, t) ∷ us) h x = let l = x.0 in (omega arith, from_wide low m us h x.1)

from-append : (low : ℕ) (us vs : Uses) → From low us → From low vs → From low (us ++ vs)
unfolding From
from-append low [] vs x y = y
from-append low ((r, t) ∷ us) vs x y = (x.0, from-append low us vs x.1 y)

-- ## None, and one after the other

pub handled-none : (low high : ℕ) (s w : List ℕ) (k : ℕ) → Indexed s w k → Handled low high s [] w k w k
unfolding intern Known From
handled-none low high s w k h =
    record { types = refl; indexed = h; known = tt; from = tt; kept = kept_same TYPES w; before = λ i l. refl; beyond = λ i l g. refl; above = λ i l. refl }

pub handles_none : (low high : ℕ) (s w : List ℕ) (k : ℕ) → Indexed s w k → Handles low high s [] w k (Ok k) w
unfolding Handles
handles_none low high s w k h = handled-none low high s w k h

module _ (low high m m' : ℕ) (s : Bytes) (us vs : Uses) (w : List ℕ) (k : ℕ) (w₁ : List ℕ) (k₁ : ℕ) (a : Handled low m s us w k w₁ k₁) where
  pub handled_then : (w₂ : List ℕ) (k₂ : ℕ) → m ≤ m' → low ≤ m' → m ≤ high → Handled m' high s vs w₁ k₁ w₂ k₂ → Handled low high s (us ++ vs) w k w₂ k₂
  handled_then w₂ k₂ l g h b = record {
    types = intern_on _ _ us vs a.types ∙ b.types;
    indexed = b.indexed;
    known = known-append high w₂ (type_table k₂ s w₂ TYPES) us vs
        (known_kept m high w₁ w₂ (type_table k₁ s w₁ TYPES) (type_table k₂ s w₂ TYPES) us h (intern-keeps _ vs _ b.types) (λ i e. b.before i (omega arith)) a.known) b.known;
    from = from-append low us vs a.from (from_wide low m' vs g b.from);
    kept = kept_then a.kept b.kept;
    before = λ i e. b.before i (omega arith) ∙ a.before i e;
    beyond = λ i e f. b.beyond i e f ∙ a.beyond i (omega arith) f;
    above = λ i e. b.above i e ∙ a.above i e;
  }

  pub stopped_then : (w₂ : List ℕ) (q : Refusal) → Stopped s vs w₁ k₁ q w₂ → Stopped s (us ++ vs) w k q w₂
  stopped_then w₂ q b = record { says = intern_on _ _ us vs a.types ∙ b.says; kept = kept_then a.kept b.kept }

  pub handled_wide : m ≤ high → Handled low high s us w k w₁ k₁
  handled_wide h = record {
    types = a.types;
    indexed = a.indexed;
    known = known_wide m high w₁ (type_table k₁ s w₁ TYPES) us h a.known;
    from = a.from;
    kept = a.kept;
    before = a.before;
    beyond = λ i e f. a.beyond i (omega arith) f;
    above = a.above;
  }

-- later records first: an operator comes after its operands, and its record stands before theirs
pub handled_back : (low m high : ℕ) (s : Bytes) (us vs : Uses) (w : List ℕ) (k : ℕ) (w₁ : List ℕ) (k₁ : ℕ) (w₂ : List ℕ) (k₂ : ℕ) → low ≤ m → m ≤ high → high ≤ 4096
    → Handled m high s us w k w₁ k₁ → Handled low m s vs w₁ k₁ w₂ k₂ → Handled low high s (us ++ vs) w k w₂ k₂
handled_back low m high s us vs w k w₁ k₁ w₂ k₂ l g h a b = record {
  types = intern_on _ _ us vs a.types ∙ b.types;
  indexed = b.indexed;
  known = known-append high w₂ (type_table k₂ s w₂ TYPES) us vs
      (known-between m high high w₁ w₂ (type_table k₁ s w₁ TYPES) (type_table k₂ s w₂ TYPES) us (omega arith) (intern-keeps _ vs _ b.types) (λ i o e. b.beyond i o (omega arith)) a.from a.known)
      (known_wide m high w₂ (type_table k₂ s w₂ TYPES) vs g b.known);
  from = from-append low us vs (from_wide low m us l a.from) b.from;
  kept = kept_then a.kept b.kept;
  before = λ i e. b.before i e ∙ a.before i (omega arith);
  beyond = λ i e f. b.beyond i (omega arith) f ∙ a.beyond i e f;
  above = λ i e. b.above i e ∙ a.above i e;
}

-- the first refusal is the one that is given
pub stopped-first : (s : Bytes) (us vs : Uses) (w : List ℕ) (k : ℕ) (q : Refusal) (w' : List ℕ) → Stopped s us w k q w' → Stopped s (us ++ vs) w k q w'
stopped-first s us vs w k q w' a = record { says = intern-stops _ us vs q a.says; kept = a.kept }

-- ## What an answer tells

module _ (low high : ℕ) (s : Bytes) (us : Uses) (w : List ℕ) (k : ℕ) (q : Resolved ℕ) (w' : List ℕ) (told : Handles low high s us w k q w') where
  pub handles_types : (m : ℕ) → q ≡ Ok m → Handled low high s us w k w' m
  unfolding Handles
  handles_types m d = rw d at told

  pub handles_indexed : (m : ℕ) → q ≡ Ok m → Indexed s w' m
  handles_indexed m d = (handles_types m d).indexed

  pub handles_stopped : (r : Refusal) → q ≡ Err r → Stopped s us w k r w'
  unfolding Handles
  handles_stopped r d = rw d at told

-- some were handled, and whatever the answer to the others is, it is the answer to all
pub handles_then : (low high m m' : ℕ) (s : Bytes) (us vs : Uses) (w : List ℕ) (k : ℕ) (w₁ : List ℕ) (k₁ : ℕ) (w₂ : List ℕ) (r : Resolved ℕ) → Handled low m s us w k w₁ k₁
    → m ≤ m' → low ≤ m' → m ≤ high → Handles m' high s vs w₁ k₁ r w₂ → Handles low high s (us ++ vs) w k r w₂
unfolding Handles
handles_then low high m m' s us vs w k w₁ k₁ w₂ (Ok k₂) a l g h b = handled_then low high m m' s us vs w k w₁ k₁ a w₂ k₂ l g h b
handles_then low high m m' s us vs w k w₁ k₁ w₂ (Err q) a l g h b = stopped_then low high m m' s us vs w k w₁ k₁ a w₂ q b

-- ## What `?` hands on

module _ (s : Bytes) (w : List ℕ) (k : ℕ) (q : Refusal) (w' : List ℕ) where
  pub hands_on : (low high : ℕ) (us : Uses) (r : Resolved ℕ) → IsErr r → IsErrAnd r (λ e. e ≡ q) → Handles low high s us w k (Err q) w' → Handles low high s us w k r w'
  hands_on low high us r i p h = rw (handed r q i p) h

  pub hands_on_to : (low : ℕ) (t : Stretch) (r : Resolved (ℕ × Stop)) → IsErr r → IsErrAnd r (λ e. e ≡ q) → HandlesTo low s t w k (Err q) w' → HandlesTo low s t w k r w'
  hands_on_to low t r i p h = rw (handed r q i p) h

pub ruleset handing = (hands_on, hands_on_to, refl)
